-- What is told of a list, after one more element.
use Rattle.std.proofs.Common.{◌≡◌, ◌∙◌, ◌++◌, Bool, true, false, List, [], ◌∷◌, Option, Some, None, refl, subst, sym}
use Rattle.std.specs.List.{list_any}
use Rattle.std.specs.Prelude.{find}
use Rattle.std.specs.Option.{option_or}
use Rattle.std.proofs.lemmas.List.Folds.{find-append}
use Rattle.cluster_response.specs.Firsts.{first_of, preferred, told_of}

module _ {A : Type 0} (passes : A → Bool) where
  found_at : (x y : A) (xs : List A) (b : Bool) → passes x ≡ b → (find passes xs ≡ Some y → passes y ≡ true) → find passes (x ∷ xs) ≡ Some y → passes y ≡ true
  found_at x y xs true is rest found =
      let same : Some x ≡ Some y = (rw is at found) in
      let one : x ≡ y = cc in subst (λ (z : A). passes z ≡ true) one is
  found_at x y xs false is rest found = rest (rw is at found)

  -- what is found passes
  pub found_passes : (xs : List A) (y : A) → find passes xs ≡ Some y → passes y ≡ true
  found_passes [] y found = absurd (cc)
  found_passes (x ∷ xs) y found = found_at x y xs (passes x) refl (found_passes xs y) found

  first_at : (x : A) (xs : List A) (b : Bool) → passes x ≡ b → find passes (x ∷ xs) ≡ None → passes x ≡ false
  first_at x xs true is none = absurd (let no : Some x ≡ None = (rw is at none) in cc)
  first_at x xs false is none = is

  -- if nothing is found, the first does not pass
  first_fails : (xs : List A) (y : A) → find passes xs ≡ None → first_of xs ≡ Some y → passes y ≡ false
  first_fails [] y none first = absurd (cc)
  first_fails (x ∷ xs) y none first = let one : x ≡ y = cc in subst (λ (z : A). passes z ≡ false) one (first_at x xs (passes x) refl none)

  first_more : (xs ys : List A) → first_of (xs ++ ys) ≡ option_or (first_of xs) (first_of ys)
  first_more [] ys = refl
  first_more (x ∷ xs) ys = refl

  by_cases : (found first : Option A) (later : A) (b : Bool) → passes later ≡ b
      → ((y : A) → found ≡ Some y → passes y ≡ true) → ((y : A) → found ≡ None → first ≡ Some y → passes y ≡ false)
      → option_or (option_or found (find passes (later ∷ []))) (option_or first (Some later)) ≡ Some (preferred passes (option_or found first) later)
  by_cases (Some y) first later b is found none = rw (found y refl) refl
  by_cases None (Some y) later true is found none = rw (none y refl refl, is) refl
  by_cases None (Some y) later false is found none = rw (none y refl refl, is) refl
  by_cases None None later true is found none = rw is refl
  by_cases None None later false is found none = rw is refl

  one_at : (x : A) (b : Bool) → passes x ≡ b → told_of passes (x ∷ []) ≡ Some x
  one_at x true is = rw is refl
  one_at x false is = rw is refl

  -- what is told of one
  pub told_one : (x : A) → told_of passes (x ∷ []) ≡ Some x
  told_one x = one_at x (passes x) refl

  -- what is told after one more
  pub told_more : (xs : List A) (later : A) → told_of passes (xs ++ later ∷ []) ≡ Some (preferred passes (told_of passes xs) later)
  told_more xs later =
      (λ i. option_or (find-append passes xs (later ∷ []) i) (first_more xs (later ∷ []) i))
      ∙ by_cases (find passes xs) (first_of xs) later (passes later) refl (found_passes xs) (first_fails xs)

  none_at : (x : A) (xs : List A) (b : Bool) → passes x ≡ b → (find passes xs ≡ None → list_any passes xs ≡ false) → find passes (x ∷ xs) ≡ None
      → list_any passes (x ∷ xs) ≡ false
  none_at x xs true is rest none = absurd (let no : Some x ≡ None = (rw is at none) in cc)
  none_at x xs false is rest none = rw is (rest (rw is at none))

  none_passes : (xs : List A) → find passes xs ≡ None → list_any passes xs ≡ false
  none_passes [] none = refl
  none_passes (x ∷ xs) none = none_at x xs (passes x) refl (none_passes xs) none

  told_by : (found first : Option A) (xs : List A) (y : A) → (find passes xs ≡ found) → option_or found first ≡ Some y → passes y ≡ false → list_any passes xs ≡ false
  told_by (Some x) first xs y is told fails =
      let one : x ≡ y = cc in
      let both : true ≡ false = sym (found_passes xs x is) ∙ subst (λ (z : A). passes z ≡ false) (sym one) fails in absurd (cc)
  told_by None first xs y is told fails = none_passes xs is

  -- if what is told does not pass, none passes
  pub told_fails : (xs : List A) (y : A) → told_of passes xs ≡ Some y → passes y ≡ false → list_any passes xs ≡ false
  told_fails xs y told fails = told_by (find passes xs) (first_of xs) xs y refl told fails
