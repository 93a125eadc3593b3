-- Where one text is in another: what a search of bytes finds is what the definitions give for code points.
use Rattle.text_functions.proofs.Prelude.{◌≡◌, ◌∙◌, ◌≢◌, ◌∷◌, ◌++◌, ◌<◌, ◌≤◌, ◌+◌, ◌-◌, ℕ, suc, true, false}
use Rattle.text_functions.proofs.Prelude.{and_parts, and_from, false_from_ne_true, List, [], Option, Some, None, IfSome}
use Rattle.text_functions.proofs.Prelude.{MatchOption, option_map, length, take, drop, refl, sym, subst, ap, ap₂, arith, drop-drop}
use Rattle.text_functions.proofs.Prelude.{drop_at, take_at, take-append-drop, take-take, length-append, length-drop, length-take-le}
use Rattle.text_functions.proofs.Prelude.{length-le-encodes, encode_utf8_all, encodes-append, encodes-chars, chars, chars-append}
use Rattle.text_functions.proofs.Prelude.{IsCharBoundary, IsCharBoundary-at_seam, IsUtf8, IsUtf8-append, IsUtf8-drop, IsUtf8-take, nat_eq}
use Rattle.text_functions.proofs.Prelude.{eq-eqb, eqb-true, FindsText, RFindsText, HasTextAt, LacksTextAt, SplitsAroundMatch, Bor, around}
use Rattle.text_functions.proofs.Prelude.{begins, first_place, is_at, last_place}
use Rattle.text_functions.proofs.Searching.{first_at, first_none, last_at, last_none}

-- ---- on lists

-- what follows a part
pub begins_some : (part cs : List ℕ) → begins part cs ≡ true → (rest : List ℕ) × (cs ≡ part ++ rest)
begins_some [] cs e = (cs, refl)
begins_some (p ∷ part) [] e = let no : false ≡ true = e in cc
begins_some (p ∷ part) (c ∷ cs) e =
    let h : (nat_eq p c ≡ true) × (begins part cs ≡ true) = and_parts (nat_eq p c) (begins part cs) e in
    let more : (rest : List ℕ) × (cs ≡ part ++ rest) = begins_some part cs h.1 in
    (more.0, ap₂ (λ x xs. x ∷ xs) (sym (eqb-true p c h.0)) more.1)

pub begins_of : (part rest : List ℕ) → begins part (part ++ rest) ≡ true
begins_of [] rest = refl
begins_of (p ∷ part) rest = and_from (nat_eq p p) (begins part (part ++ rest)) (eq-eqb p p refl) (begins_of part rest)

begins_none : (part cs : List ℕ) → ((rest : List ℕ) → cs ≢ part ++ rest) → begins part cs ≡ false
begins_none part cs none =
    false_from_ne_true (begins part cs) (λ e. let h : (rest : List ℕ) × (cs ≡ part ++ rest) = begins_some part cs e in none h.0 h.1)

-- ---- bytes and code points

-- the bytes before place k, and from there on
halves : (text : List ℕ) (k : ℕ) → IsUtf8 text → text ≡ encode_utf8_all (take k (chars text)) ++ encode_utf8_all (drop k (chars text))
halves text k utf8 =
    sym (encodes-chars text utf8)
    ∙ ap encode_utf8_all (sym (take-append-drop k (chars text)))
    ∙ encodes-append (take k (chars text)) (drop k (chars text))

half_fits : (text : List ℕ) (k : ℕ) → IsUtf8 text → length (encode_utf8_all (take k (chars text))) ≤ length text
half_fits text k utf8 =
    omega (arith, ap length (halves text k utf8), length-append (encode_utf8_all (take k (chars text))) (encode_utf8_all (drop k (chars text))))

-- what begins at a place begins at its byte
byte_there : (part text rest : List ℕ) (k : ℕ) → IsUtf8 text → IsUtf8 part → drop k (chars text) ≡ chars part ++ rest
    → drop (length (encode_utf8_all (take k (chars text)))) text ≡ part ++ encode_utf8_all rest
byte_there part text rest k utf8 also h =
    ap (drop (length (encode_utf8_all (take k (chars text))))) (halves text k utf8)
    ∙ drop_at (encode_utf8_all (take k (chars text))) (encode_utf8_all (drop k (chars text))) (length (encode_utf8_all (take k (chars text)))) refl
    ∙ ap encode_utf8_all h
    ∙ encodes-append (chars part) rest
    ∙ ap (λ bs. bs ++ encode_utf8_all rest) (encodes-chars part also)

lacks : (part text : List ℕ) (k : ℕ) → IsUtf8 text → IsUtf8 part → LacksTextAt part text (length (encode_utf8_all (take k (chars text)))) → is_at (chars part) (chars text) k ≡ false
lacks part text k utf8 also none =
    begins_none (chars part) (drop k (chars text)) (λ rest h. none (encode_utf8_all rest) (byte_there part text rest k utf8 also h))

-- later places begin at later bytes
grows : (cs : List ℕ) (a b : ℕ) → a < b → b ≤ length cs → length (encode_utf8_all (take a cs)) < length (encode_utf8_all (take b cs))
grows cs a b l m =
    let xs : List ℕ = take b cs in
    let e : encode_utf8_all (take b cs) ≡ encode_utf8_all (take a (take b cs)) ++ encode_utf8_all (drop a (take b cs)) =
    ap encode_utf8_all (sym (take-append-drop a (take b cs))) ∙ encodes-append (take a (take b cs)) (drop a (take b cs)) in
    let f : length (encode_utf8_all (take a (take b cs))) ≡ length (encode_utf8_all (take a cs)) = ap (λ ys. length (encode_utf8_all ys)) (take-take a b cs (omega arith)) in
    omega (
      arith,
      ap length e,
      f,
      length-append (encode_utf8_all (take a (take b cs))) (encode_utf8_all (drop a (take b cs))),
      length-le-encodes (drop a (take b cs)),
      length-drop a (take b cs),
      length-take-le b cs m,
    )

-- a part between two others
record Found (part text front back : List ℕ) : Type 0 where
  whole : text ≡ front ++ (part ++ back)
  codes : chars text ≡ chars front ++ (chars part ++ chars back)
  front_utf8 : IsUtf8 front
  back_utf8 : IsUtf8 back

found : (part text front back : List ℕ) (i j : ℕ) → IsUtf8 text → IsUtf8 part → HasTextAt part text i j → front ≡ take i text → back ≡ drop j text → Found part text front back
found part text front back i j utf8 also has f b =
    let whole : text ≡ front ++ (part ++ back) = sym (take-append-drop i text) ∙ ap₂ (λ xs ys. xs ++ ys) (sym f) (has.split ∙ ap (λ ys. part ++ ys) (sym b)) in
    let back_utf8 : IsUtf8 back = subst IsUtf8 (sym b) (IsUtf8-drop text j utf8 (subst (IsCharBoundary text) (sym has.ends) has.after)) in
    let seam : IsCharBoundary text (length front) = IsCharBoundary-at_seam text front (part ++ back) whole (IsUtf8-append part back also back_utf8) in
    let cut : take (length front) text ≡ front = ap (take (length front)) whole ∙ take_at front (part ++ back) (length front) refl in
    let front_utf8 : IsUtf8 front = subst IsUtf8 cut (IsUtf8-take text (length front) utf8 seam) in
    record {
      whole = whole;
      codes = ap chars whole ∙ chars-append front (part ++ back) front_utf8 ∙ ap (λ ys. chars front ++ ys) (chars-append part back also);
      front_utf8 = front_utf8;
      back_utf8 = back_utf8;
    }

front_codes : (part text front back : List ℕ) → Found part text front back → take (length (chars front)) (chars text) ≡ chars front
front_codes part text front back h =
    ap (take (length (chars front))) h.codes ∙ take_at (chars front) (chars part ++ chars back) (length (chars front)) refl

rest_codes : (part text front back : List ℕ) → Found part text front back → drop (length (chars front)) (chars text) ≡ chars part ++ chars back
rest_codes part text front back h =
    ap (drop (length (chars front))) h.codes ∙ drop_at (chars front) (chars part ++ chars back) (length (chars front)) refl

back_codes : (part text front back : List ℕ) → Found part text front back → drop (length (chars front) + length (chars part)) (chars text) ≡ chars back
back_codes part text front back h =
    sym (drop-drop (length (chars part)) (length (chars front)) (chars text))
    ∙ ap (drop (length (chars part))) (rest_codes part text front back h)
    ∙ drop_at (chars part) (chars back) (length (chars part)) refl

is_there : (part text front back : List ℕ) → Found part text front back → is_at (chars part) (chars text) (length (chars front)) ≡ true
is_there part text front back h =
    ap (begins (chars part)) (rest_codes part text front back h) ∙ begins_of (chars part) (chars back)

within : (part text front back : List ℕ) → Found part text front back → length (chars front) ≤ length (chars text)
within part text front back h = omega (arith, ap length h.codes, length-append (chars front) (chars part ++ chars back))

-- the byte of the place is the length of the front
byte_of : (part text front back : List ℕ) → Found part text front back → length (encode_utf8_all (take (length (chars front)) (chars text))) ≡ length front
byte_of part text front back h =
    ap (λ cs. length (encode_utf8_all cs)) (front_codes part text front back h) ∙ ap length (encodes-chars front h.front_utf8)

nowhere : (part text : List ℕ) → IsUtf8 text → IsUtf8 part → ((i : ℕ) → i ≤ length text → LacksTextAt part text i) → (k : ℕ) → is_at (chars part) (chars text) k ≡ false
nowhere part text utf8 also none k =
    lacks part text k utf8 also (none (length (encode_utf8_all (take k (chars text)))) (half_fits text k utf8))

first_found : (part text front back : List ℕ) → IsUtf8 text → IsUtf8 part → Found part text front back → ((i : ℕ) → i < length front → LacksTextAt part text i)
    → first_place (chars part) (chars text) 0 ≡ Some (length (chars front))
first_found part text front back utf8 also h before =
    let fits : length (chars front) ≤ length (chars text) = within part text front back h in
    let byte : length (encode_utf8_all (take (length (chars front)) (chars text))) ≡ length front = byte_of part text front back h in
    first_at (is_at (chars part) (chars text)) 0 (suc (length (chars text)) - 0) (length (chars front)) (omega arith) (omega arith) (is_there part text front back h)
    (λ j a l.
    let m : length (encode_utf8_all (take j (chars text))) < length (encode_utf8_all (take (length (chars front)) (chars text))) =
    grows (chars text) j (length (chars front)) l fits in
    lacks part text j utf8 also (before (length (encode_utf8_all (take j (chars text)))) (omega (arith, m, byte))))

last_found : (part text front back : List ℕ) → IsUtf8 text → IsUtf8 part → Found part text front back → ((i : ℕ) → length front < i → i ≤ length text → LacksTextAt part text i)
    → last_place (chars part) (chars text) (length (chars text)) ≡ Some (length (chars front))
last_found part text front back utf8 also h after =
    let fits : length (chars front) ≤ length (chars text) = within part text front back h in
    let byte : length (encode_utf8_all (take (length (chars front)) (chars text))) ≡ length front = byte_of part text front back h in
    last_at (is_at (chars part) (chars text)) (suc (length (chars text))) (length (chars front)) (omega arith) (is_there part text front back h)
    (λ j l b.
    let m : length (encode_utf8_all (take (length (chars front)) (chars text))) < length (encode_utf8_all (take j (chars text))) =
    grows (chars text) (length (chars front)) j l (omega arith) in
    lacks part text j utf8 also (after (length (encode_utf8_all (take j (chars text)))) (omega (arith, m, byte)) (half_fits text j utf8)))

-- ---- what a search returns

abbrev pub Parts : Type 0
Parts = Bor (List ℕ) × Bor (List ℕ)

abbrev pub FirstCut : List ℕ → List ℕ → Option Parts → Type 0
FirstCut part text r = MatchOption r (FindsText part text None) (λ x. SplitsAroundMatch (FindsText part) text x.0.now x.1.now)

abbrev pub LastCut : List ℕ → List ℕ → Option Parts → Type 0
LastCut part text r = MatchOption r (RFindsText part text None) (λ x. SplitsAroundMatch (RFindsText part) text x.0.now x.1.now)

pub first_place_is : (part text : List ℕ) (r : Option Parts) → IsUtf8 text → IsUtf8 part → FirstCut part text r
    → option_map (λ p. length (chars p.0.now)) r ≡ first_place (chars part) (chars text) 0
first_place_is part text None utf8 also h =
    sym (first_none (is_at (chars part) (chars text)) 0 (suc (length (chars text)) - 0) (λ j a b. nowhere part text utf8 also h j))
first_place_is part text (Some x) utf8 also h =
    sym (first_found part text x.0.now x.1.now utf8 also (found part text x.0.now x.1.now h.0 h.1 utf8 also h.2.1 h.3 h.4) (λ i l. h.2.0 i (omega (arith, h.6))))

-- what is before and after a part at place k
abbrev both : List ℕ → List ℕ → ℕ → List ℕ × List ℕ
both part cs k = (take k cs, drop (k + length part) cs)

parts_at : (part text front back : List ℕ) (o : Option ℕ) → Found part text front back → o ≡ Some (length (chars front))
    → option_map (both (chars part) (chars text)) o ≡ Some (chars front, chars back)
parts_at part text front back o h e =
    let pair : both (chars part) (chars text) (length (chars front)) ≡ (chars front, chars back) =
    λ i. (front_codes part text front back h i, back_codes part text front back h i) in
    ap (option_map (both (chars part) (chars text))) e ∙ ap (λ p. Some p) pair

pub parts_are : (part text : List ℕ) (r : Option Parts) → IsUtf8 text → IsUtf8 part → FirstCut part text r
    → option_map (λ p. (chars p.0.now, chars p.1.now)) r ≡ around (chars part) (chars text)
parts_are part text None utf8 also h =
    ap (option_map (both (chars part) (chars text))) (first_place_is part text None utf8 also h)
parts_are part text (Some x) utf8 also h =
    sym (parts_at part text x.0.now x.1.now (first_place (chars part) (chars text) 0) (found part text x.0.now x.1.now h.0 h.1 utf8 also h.2.1 h.3 h.4)
    (sym (first_place_is part text (Some x) utf8 also h)))

pub parts_utf8 : (part text : List ℕ) (r : Option Parts) → IsUtf8 text → IsUtf8 part → FirstCut part text r → IfSome r (λ p. IsUtf8 p.0.now × IsUtf8 p.1.now)
parts_utf8 part text None utf8 also h = tt
parts_utf8 part text (Some x) utf8 also h =
    let f : Found part text x.0.now x.1.now = found part text x.0.now x.1.now h.0 h.1 utf8 also h.2.1 h.3 h.4 in
    (f.front_utf8, f.back_utf8)

pub last_place_is : (part text : List ℕ) (r : Option Parts) → IsUtf8 text → IsUtf8 part → LastCut part text r
    → option_map (λ p. length (chars p.0.now)) r ≡ last_place (chars part) (chars text) (length (chars text))
last_place_is part text None utf8 also h =
    sym (last_none (is_at (chars part) (chars text)) (suc (length (chars text))) (λ j b. nowhere part text utf8 also h j))
last_place_is part text (Some x) utf8 also h =
    sym (last_found part text x.0.now x.1.now utf8 also (found part text x.0.now x.1.now h.0 h.1 utf8 also h.2.1 h.3 h.4) (λ i l m. h.2.0 i (omega (arith, h.6)) m))
