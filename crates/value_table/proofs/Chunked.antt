-- Items in chunks.
use Rattle.value_table.proofs.Prelude.{◌≡◌, ℕ, zero, suc, ◌+◌, ◌-◌, ◌*◌, ◌<◌, List, [], ◌∷◌, ◌++◌, length, get_or, refl, sym, ap, ◌∙◌, arith, length-append, append_assoc, append-nil, get_or_append_left, get_or-append_right, joined, AreFull, AreChunks}

pub length_joined : {A : Type 0} (xss : List (List A)) → AreFull xss → length (joined xss) ≡ 256 * length xss
length_joined [] h = refl
length_joined (xs ∷ xss) h = let e = length_joined xss h.1 in let f = h.0 in let g = length-append xs (joined xss) in omega (arith, e, f, g)

pub joined_one : {A : Type 0} (xss : List (List A)) (xs : List A) → joined (xss ++ xs ∷ []) ≡ joined xss ++ xs
joined_one [] xs = append-nil xs
joined_one (ys ∷ xss) xs = ap (λ zs. ys ++ zs) (joined_one xss xs) ∙ sym (append_assoc ys (joined xss) xs)

pub full_one : {A : Type 0} (xss : List (List A)) (xs : List A) → AreFull xss → length xs ≡ 256 → AreFull (xss ++ xs ∷ [])
full_one [] xs h e = (e, tt)
full_one (ys ∷ xss) xs h e = (h.0, full_one xss xs h.1 e)

-- place `k` among all items is place `j` in chunk `i`
pub record IsPlaceIn (chunks i j k : ℕ) : Type 0 where
  pub chunk : i < chunks
  pub inside : j < 256
  pub is : k ≡ 256 * i + j

-- an item of a full chunk
pub item_at : {A : Type 0} (xss : List (List A)) (ys : List A) (i j k : ℕ) (e : List A) (d : A) → AreFull xss → IsPlaceIn (length xss) i j k
    → get_or (joined xss ++ ys) k d ≡ get_or (get_or xss i e) j d
item_at [] ys i j k e d h at = let low = at.chunk in absurd (omega arith)
item_at {A} (xs ∷ xss) ys zero j k e d h at =
    let less = at.inside in
    let is = at.is in
    grind (arith, get_or, append_assoc, get_or_append_left)
item_at {A} (xs ∷ xss) ys (suc i) j k e d h at =
    let low = at.chunk in
    let less = at.inside in
    let is = at.is in
    grind (arith, append_assoc, get_or-append_right, item_at xss ys i j (k - 256) e d h.1 (record { chunk = omega (arith, low); inside = less; is = omega (arith, is) }))

-- each full chunk has 256 items
pub chunk_long : {A : Type 0} (xss : List (List A)) (i : ℕ) (e : List A) → AreFull xss → i < length xss → length (get_or xss i e) ≡ 256
chunk_long [] i e h low = absurd (omega arith)
chunk_long (xs ∷ xss) zero e h low = h.0
chunk_long (xs ∷ xss) (suc i) e h low = chunk_long xss i e h.1 (omega (arith, low))

-- the last items become a chunk
pub closed : {A : Type 0} (xss yss : List (List A)) (xs : List A) → yss ≡ xss ++ xs ∷ [] → joined yss ++ [] ≡ joined xss ++ xs
closed xss yss xs e = append-nil (joined yss) ∙ ap joined e ∙ joined_one xss xs

pub chunks_closed : {A : Type 0} (xss yss : List (List A)) (xs : List A) → yss ≡ xss ++ xs ∷ [] → length xs ≡ 256 → length xss < 1125899906842624 → AreChunks xss → AreChunks yss
chunks_closed xss yss xs e long few h = grind (arith, full_one, length-append)

-- the lengths of chunks, for goals about places in them
pub ruleset chunk_lengths = (length_joined, chunk_long, length-append)
