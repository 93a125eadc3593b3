-- Backings that grow.
use Rattle.value_backings.proofs.Prelude.{◌≡◌, ℕ, ◌+◌, ◌-◌, ◌<◌, ◌^◌, List, [], ◌∷◌, ◌++◌, length, get_or, drop, sym, ap, ◌∙◌, arith, length-append, length-drop, append_assoc, append-nil, slice_range, IsUtf8-append, quoted, saturated, part_of, IsText, ExtendsBackings, Part, Backings, ExtendsLists}
use Rattle.std.proofs.lemmas.List.{length-take-le}
use Rattle.std.proofs.lemmas.Grind.{flat_map-append}
use Rattle.json.specs.Print.{escape, escape_byte}
use Rattle.shared_lists.proofs.Pushed.{whole_behind}
use Rattle.value_backings.proofs.Kept.{text_kept}

-- the bytes have grown
pub bytes_more : (old : Backings) (bytes rest : List ℕ) → bytes ≡ old.bytes ++ rest → ExtendsBackings old (record old { bytes = bytes })
bytes_more old bytes rest e = record { bytes = (rest, e); keys = ([], sym (append-nil old.keys)); lists = omega arith; items = λ b h. ([], sym (append-nil (get_or old.lists b []))) }

-- the lists have grown
pub lists_more : (old : Backings) (lists : List (List ℕ)) → ExtendsLists old.lists lists → ExtendsBackings old (record old { lists = lists })
lists_more old lists h = record { bytes = ([], sym (append-nil old.bytes)); keys = ([], sym (append-nil old.keys)); lists = h.lists; items = h.items }

part_long : (bytes : List ℕ) (p : Part) → IsText bytes p → length (part_of bytes p) ≡ p.to - p.from
part_long bytes p h = length-take-le (p.to - p.from) (drop p.from bytes) (omega (arith, length-drop p.from bytes, h.0, h.1))

-- two texts in one have two quotes less than both
quoted_joined : (s t : List ℕ) → length (quoted (s ++ t)) + 2 ≡ length (quoted s) + length (quoted t)
quoted_joined s t =
    let both = ap length (flat_map-append escape_byte s t) ∙ length-append (escape s) (escape t) in
    omega (arith, both, length-append (escape (s ++ t)) (34 ∷ []), length-append (escape s) (34 ∷ []), length-append (escape t) (34 ∷ []))

-- the place and the length of two texts in one, after the first `front` bytes
pub record IsBoth (front : ℕ) (p q r : Part) : Type 0 where
  pub from : r.from ≡ front
  pub to : r.to ≡ front + ((p.to - p.from) + (q.to - q.from))
  pub json : r.json ≡ (p.json + q.json) - 2
  pub short : (p.json < 2 ^ 32) × (q.json < 2 ^ 32)

-- the concatenation of two texts, after all others
pub texts_joined : (bs ms ns : List ℕ) (p q r : Part) → IsText bs p → IsText bs q → ms ≡ bs ++ part_of bs p → ns ≡ ms ++ part_of ms q
    → IsBoth (length bs) p q r → IsText ns r × (part_of ns r ≡ part_of bs p ++ part_of bs q)
texts_joined bs ms ns p q r hp hq em en both =
    let from = r.from in
    let to = r.to in
    let ef = both.from in
    let first = part_long bs p hp in
    let second = part_long bs q hq in
    let more = length-append (part_of bs p) (part_of bs q) in
    let whole = length-append bs (part_of bs p ++ part_of bs q) in
    let et : to ≡ length (bs ++ (part_of bs p ++ part_of bs q)) = omega (arith, both.to, first, second, more, whole) in
    let ej : r.json ≡ saturated (length (quoted (part_of bs p ++ part_of bs q))) = omega (arith, both.json, both.short.0, both.short.1, hp.3, hq.3, quoted_joined (part_of bs p) (part_of bs q)) in
    let kept = text_kept bs (part_of bs p) q hq in
    let same : part_of ms q ≡ part_of bs q = rw em kept.0 in
    let all : ns ≡ bs ++ (part_of bs p ++ part_of bs q) = en ∙ rw (same, em) (append_assoc bs (part_of bs p) (part_of bs q)) in
    let l = length-append bs (part_of bs p ++ part_of bs q) in
    let is : slice_range ns from to ≡ part_of bs p ++ part_of bs q = rw all (whole_behind bs (part_of bs p ++ part_of bs q) from to ef et) in
    let n : length ns ≡ length (bs ++ (part_of bs p ++ part_of bs q)) = ap length all in
    ((omega arith, omega arith, rw is (IsUtf8-append _ _ hp.2 hq.2), rw is ej), is)
