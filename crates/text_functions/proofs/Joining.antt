-- Laws of splitting and replacing: the pieces join again, and lack the separator.
use Rattle.text_functions.proofs.Prelude.{◌≡◌, ◌∙◌, ◌∷◌, ◌++◌, ◌<◌, ◌≤◌, ◌+◌, ◌-◌, ◌⊎◌, inl, inr, ℕ, zero, suc, Bool, true, false, cond}
use Rattle.text_functions.proofs.Prelude.{List, [], Option, Some, None, option_map, length, take, drop, refl, sym, subst, ap, arith, and_from, cases_lt}
use Rattle.text_functions.proofs.Prelude.{none-some, same_Some, some_pair_parts, append_assoc, drop-drop, drop_at, take-append-drop, length-append, length-drop}
use Rattle.text_functions.proofs.Prelude.{drop-append-le, length-take, is_none, true≢false, false_from_ne_true, list_all, around, begins, first_from, first_place, is_at, on_cut, pieces, replaced}
use Rattle.text_functions.proofs.Searching.{begins_short, first_none}
use Rattle.text_functions.proofs.Standing.{begins_of, begins_some}
use Rattle.text_functions.specs.Laws.{PiecesHaveNone, PiecesJoin, ReplacedJoin, is_nowhere, joined}

-- ---- what a first place is

first_has_by : (has : ℕ → Bool) (k i : ℕ) (later : Option ℕ) (v : Bool) → has k ≡ v → cond v (Some k) later ≡ Some i → (later ≡ Some i → has i ≡ true) → has i ≡ true
first_has_by has k i later true e h go = ap has (sym (same_Some k i h)) ∙ e
first_has_by has k i later false e h go = go h

first_has : (has : ℕ → Bool) (k n i : ℕ) → first_from has k n ≡ Some i → has i ≡ true
first_has has k zero i h = absurd (none-some i h)
first_has has k (suc n) i h = first_has_by has k i (first_from has (suc k) n) (has k) refl h (first_has has (suc k) n i)

before_by : (has : ℕ → Bool) (k i j : ℕ) (later : Option ℕ) (v : Bool) → has k ≡ v → cond v (Some k) later ≡ Some i → k ≤ j → j < i
    → (later ≡ Some i → suc k ≤ j → has j ≡ false) → (k < j) ⊎ (j ≤ k) → has j ≡ false
before_by has k i j later true e h a b go c = let no_place : ⊥ = omega (arith, same_Some k i h) in absurd no_place
before_by has k i j later false e h a b go (inl l) = go h (omega arith)
before_by has k i j later false e h a b go (inr l) = let here : j ≡ k = omega arith in ap has here ∙ e

before_first : (has : ℕ → Bool) (k n i j : ℕ) → first_from has k n ≡ Some i → k ≤ j → j < i → has j ≡ false
before_first has k zero i j h a b = absurd (none-some i h)
before_first has k (suc n) i j h a b =
    before_by has k i j (first_from has (suc k) n) (has k) refl h a b (λ g c. before_first has (suc k) n i j g c b) (cases_lt k j)

-- ---- a cut

-- a cut: before it, the part and after it
record Cut (part cs a b : List ℕ) : Type 0 where
  place : ℕ
  first : first_place part cs 0 ≡ Some place
  front : take place cs ≡ a
  whole : cs ≡ a ++ (part ++ b)

cut_at_place : (part cs a b : List ℕ) (k : ℕ) → first_place part cs 0 ≡ Some k → take k cs ≡ a → drop (k + length part) cs ≡ b → Cut part cs a b
cut_at_place part cs a b k first f g =
    let found : (rest : List ℕ) × (drop k cs ≡ part ++ rest) = begins_some part (drop k cs) (first_has (is_at part cs) 0 (suc (length cs) - 0) k first) in
    let back : found.0 ≡ b =
    sym (drop_at part found.0 (length part) refl) ∙ ap (drop (length part)) (sym found.1) ∙ drop-drop (length part) k cs ∙ g in
    record {
      place = k;
      first = first;
      front = f;
      whole = sym (take-append-drop k cs) ∙ ap (λ xs. xs ++ drop k cs) f ∙ ap (λ xs. a ++ xs) (found.1 ∙ ap (λ xs. part ++ xs) back);
    }

cut_by : (part cs a b : List ℕ) (o : Option ℕ) → first_place part cs 0 ≡ o → option_map {U = List ℕ × List ℕ} (λ k. (take k cs, drop (k + length part) cs)) o ≡ Some (a, b)
    → Cut part cs a b
cut_by part cs a b None first e = absurd (none-some (a, b) e)
cut_by part cs a b (Some k) first e =
    let h : (take k cs ≡ a) × (drop (k + length part) cs ≡ b) = some_pair_parts (take k cs) a (drop (k + length part) cs) b e in
    cut_at_place part cs a b k first h.0 h.1

cut_of : (part cs a b : List ℕ) → around part cs ≡ Some (a, b) → Cut part cs a b
cut_of part cs a b e = cut_by part cs a b (first_place part cs 0) refl e

uncut_by : (part cs : List ℕ) (o : Option ℕ) → first_place part cs 0 ≡ o → option_map {U = List ℕ × List ℕ} (λ k. (take k cs, drop (k + length part) cs)) o ≡ None
    → is_nowhere part cs ≡ true
uncut_by part cs None first e = ap is_none first
uncut_by part cs (Some k) first e = absurd (none-some (take k cs, drop (k + length part) cs) (sym e))

-- ---- the laws

pieces_some_by : (separator cs : List ℕ) (n : ℕ) (o : Option (List ℕ × List ℕ)) → 0 < length (on_cut (cs ∷ []) (λ p. p.0 ∷ pieces n separator p.1) o)
pieces_some_by separator cs n None = omega arith
pieces_some_by separator cs n (Some p) = omega arith

pieces_some : (n : ℕ) (separator cs : List ℕ) → 0 < length (pieces n separator cs)
pieces_some zero separator cs = omega arith
pieces_some (suc n) separator cs = pieces_some_by separator cs n (around separator cs)

join_more : (separator a : List ℕ) (parts : List (List ℕ)) → 0 < length parts → joined separator (a ∷ parts) ≡ a ++ (separator ++ joined separator parts)
join_more separator a [] l = let no_part : ⊥ = omega arith in absurd no_part
join_more separator a (x ∷ parts) l = refl

join_by : (separator cs : List ℕ) (n : ℕ) (o : Option (List ℕ × List ℕ)) → around separator cs ≡ o → ((b : List ℕ) → joined separator (pieces n separator b) ≡ b)
    → joined separator (on_cut (cs ∷ []) (λ p. p.0 ∷ pieces n separator p.1) o) ≡ cs
join_by separator cs n None e more = refl
join_by separator cs n (Some p) e more =
    let c : Cut separator cs p.0 p.1 = cut_of separator cs p.0 p.1 e in
    join_more separator p.0 (pieces n separator p.1) (pieces_some n separator p.1)
    ∙ ap (λ xs. p.0 ++ (separator ++ xs)) (more p.1)
    ∙ sym c.whole

pub pieces_join : PiecesJoin
pieces_join zero separator cs = refl
pieces_join (suc n) separator cs = join_by separator cs n (around separator cs) refl (pieces_join n separator)

replaced_by : (part other cs : List ℕ) (n : ℕ) (o : Option (List ℕ × List ℕ)) → ((b : List ℕ) → replaced n part other b ≡ joined other (pieces n part b))
    → on_cut cs (λ p. p.0 ++ (other ++ replaced n part other p.1)) o ≡ joined other (on_cut (cs ∷ []) (λ p. p.0 ∷ pieces n part p.1) o)
replaced_by part other cs n None more = refl
replaced_by part other cs n (Some p) more =
    ap (λ xs. p.0 ++ (other ++ xs)) (more p.1) ∙ sym (join_more other p.0 (pieces n part p.1) (pieces_some n part p.1))

pub replaced_join : ReplacedJoin
replaced_join zero part other cs = refl
replaced_join (suc n) part other cs = replaced_by part other cs n (around part cs) (replaced_join n part other)

-- ---- what the pieces lack

-- a part in a front is in the whole
in_front : (part cs : List ℕ) (k j : ℕ) → j ≤ k → k ≤ length cs → is_at part (take k cs) j ≡ true → is_at part cs j ≡ true
in_front part cs k j l m h =
    let found : (rest : List ℕ) × (drop j (take k cs) ≡ part ++ rest) = begins_some part (drop j (take k cs)) h in
    let e : drop j cs ≡ part ++ (found.0 ++ drop k cs) =
    ap (drop j) (sym (take-append-drop k cs))
    ∙ drop-append-le j (take k cs) (drop k cs) (omega (arith, length-take k cs))
    ∙ ap (λ xs. xs ++ drop k cs) found.1
    ∙ append_assoc part found.0 (drop k cs) in
    ap (begins part) e ∙ begins_of part (found.0 ++ drop k cs)

front_lacks_at : (part cs : List ℕ) (k j : ℕ) → 0 < length part → first_place part cs 0 ≡ Some k → k ≤ length cs → (j < k) ⊎ (k ≤ j) → j < 0 + (suc (length (take k cs)) - 0)
    → is_at part (take k cs) j ≡ false
front_lacks_at part cs k j some first m (inl l) b =
    false_from_ne_true (is_at part (take k cs) j)
    (λ h. true≢false (sym (in_front part cs k j (omega arith) m h) ∙ before_first (is_at part cs) 0 (suc (length cs) - 0) k j first (omega arith) l))
front_lacks_at part cs k j some first m (inr l) b =
    begins_short part (drop j (take k cs)) (omega (arith, length-drop j (take k cs), length-take k cs))

front_lacks : (part cs : List ℕ) (k : ℕ) → 0 < length part → first_place part cs 0 ≡ Some k → k ≤ length cs → is_nowhere part (take k cs) ≡ true
front_lacks part cs k some first m =
    ap is_none (first_none (is_at part (take k cs)) 0 (suc (length (take k cs)) - 0) (λ j a b. front_lacks_at part cs k j some first m (cases_lt j k) b))

nowhere_in_none : (part cs : List ℕ) → 0 < length part → length cs ≤ 0 → is_nowhere part cs ≡ true
nowhere_in_none part cs some l =
    ap is_none (first_none (is_at part cs) 0 (suc (length cs) - 0) (λ j a b. begins_short part (drop j cs) (omega (arith, length-drop j cs))))

place_fits : (part cs a b : List ℕ) → 0 < length part → (c : Cut part cs a b) → c.place ≤ length cs
place_fits part cs a b some c =
    let found : (rest : List ℕ) × (drop c.place cs ≡ part ++ rest) = begins_some part (drop c.place cs) (first_has (is_at part cs) 0 (suc (length cs) - 0) c.place c.first) in
    omega (arith, ap length found.1, length-append part found.0, length-drop c.place cs, some)

lack_by : (separator cs : List ℕ) (n : ℕ) (o : Option (List ℕ × List ℕ)) → around separator cs ≡ o → 0 < length separator → length cs ≤ suc n
    → ((b : List ℕ) → length b ≤ n → list_all (is_nowhere separator) (pieces n separator b) ≡ true)
    → list_all (is_nowhere separator) (on_cut (cs ∷ []) (λ p. p.0 ∷ pieces n separator p.1) o) ≡ true
lack_by separator cs n None e some l more = and_from (is_nowhere separator cs) true (uncut_by separator cs (first_place separator cs 0) refl e) refl
lack_by separator cs n (Some p) e some l more =
    let c : Cut separator cs p.0 p.1 = cut_of separator cs p.0 p.1 e in
    let size : length cs ≡ length p.0 + (length separator + length p.1) =
    ap length c.whole ∙ length-append p.0 (separator ++ p.1) ∙ ap (λ m. length p.0 + m) (length-append separator p.1) in
    let m : c.place ≤ length cs = place_fits separator cs p.0 p.1 some c in
    and_from (is_nowhere separator p.0) (list_all (is_nowhere separator) (pieces n separator p.1))
    (subst (λ xs. is_nowhere separator xs ≡ true) c.front (front_lacks separator cs c.place some c.first m)) (more p.1 (omega (arith, size)))

lack : (n : ℕ) (separator cs : List ℕ) → 0 < length separator → length cs ≤ n → list_all (is_nowhere separator) (pieces n separator cs) ≡ true
lack zero separator cs some l = and_from (is_nowhere separator cs) true (nowhere_in_none separator cs some l) refl
lack (suc n) separator cs some l = lack_by separator cs n (around separator cs) refl some l (λ b m. lack n separator b some m)

pub pieces_have_none : PiecesHaveNone
pieces_have_none separator cs some = lack (length cs) separator cs some (omega arith)
