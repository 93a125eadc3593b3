-- Lists of identifiers, compared one by one.
use Rattle.std.proofs.Common.{◌≡◌, ◌∙◌, ◌∷◌, ◌≢◌, ℕ, ◌-◌, ◌^◌, ◌<◌, ◌||◌, min, not, List, [], Option, Some, None, true, ap, ap₂, refl}
use Rattle.std.proofs.Common.{Bool, false, option_map, ◌==◌, arith, sym}
use Rattle.std.proofs.lemmas.Bool.{and_parts}
use Rattle.std.specs.Cmp.Lexicographic.{slice_cmp}
use Rattle.std.specs.List.{list_all}
use Rattle.std.specs.Option.{is_some}
use Rattle.std.specs.Ordering.{nat_cmp, ordering_index, ordering_then}
use Rattle.std.specs.declared.cmp.Ordering.{Ordering}
use Rattle.std.specs.declared.cmp.Ordering.TheVariants.{Equal, Greater, Less}
use Rattle.text_numbers.specs.Numbers.{number}
use Rattle.versions.proofs.Dots.{others, split_is}
use Rattle.versions.proofs.Sizes.{below}
use Rattle.versions.specs.Identifiers.{after_first, are_pre_identifiers, first, has_zero, identifiers, is_identifier, is_number, is_numeric}
use Rattle.versions.specs.Identifiers.{is_pre_identifier, is_small}
use Rattle.versions.specs.Order.{identifier_cmp, identifiers_cmp}

-- the order of lists by their items
abbrev by_items : List (List ℕ) → List (List ℕ) → Ordering
by_items xs ys = slice_cmp identifier_cmp xs ys

step : (x y : List ℕ) → identifiers_cmp x y ≡ ordering_then (identifier_cmp (first x) (first y)) (by_items (others (after_first x)) (others (after_first y)))
unfolding identifiers_cmp
step x y = ap₂ by_items (split_is x) (split_is y)

then_of : (o p : Ordering) → o ≡ Equal → ordering_then o p ≡ p
then_of Less p h = cc
then_of Equal p h = refl
then_of Greater p h = cc

kept : (o p : Ordering) → o ≢ Equal → ordering_then o p ≡ o
kept Less p h = refl
kept Equal p h = absurd (h refl)
kept Greater p h = refl

-- identifiers that differ decide
pub decided : (x y : List ℕ) (o : Ordering) → o ≡ identifier_cmp (first x) (first y) → o ≢ Equal → o ≡ identifiers_cmp x y
decided x y o e n =
    sym (step x y ∙ ap (λ p. ordering_then p (by_items (others (after_first x)) (others (after_first y)))) (sym e)
    ∙ kept o (by_items (others (after_first x)) (others (after_first y))) n)

-- else what follows them does
later : (x y : List ℕ) (p q : Option (List ℕ)) → after_first x ≡ p → after_first y ≡ q → identifier_cmp (first x) (first y) ≡ Equal
    → identifiers_cmp x y ≡ by_items (others p) (others q)
later x y p q f g e =
    step x y ∙ then_of (identifier_cmp (first x) (first y)) (by_items (others (after_first x)) (others (after_first y))) e
    ∙ ap₂ (λ a b. by_items (others a) (others b)) f g

pub both_go_on : (x y r s : List ℕ) → after_first x ≡ Some r → after_first y ≡ Some s → identifier_cmp (first x) (first y) ≡ Equal
    → identifiers_cmp r s ≡ identifiers_cmp x y
unfolding identifiers_cmp
both_go_on x y r s f g e = sym (later x y (Some r) (Some s) f g e)

pub both_end : (x y : List ℕ) → after_first x ≡ None → after_first y ≡ None → identifier_cmp (first x) (first y) ≡ Equal
    → Equal ≡ identifiers_cmp x y
both_end x y f g e = sym (later x y None None f g e)

fewer : (s : List ℕ) → by_items [] (identifiers s) ≡ Less
fewer s = ap (λ ys. by_items [] ys) (split_is s)

more : (r : List ℕ) → by_items (identifiers r) [] ≡ Greater
more r = ap (λ xs. by_items xs []) (split_is r)

pub first_ends : (x y s : List ℕ) → after_first x ≡ None → after_first y ≡ Some s → identifier_cmp (first x) (first y) ≡ Equal
    → Less ≡ identifiers_cmp x y
first_ends x y s f g e = sym (later x y None (Some s) f g e ∙ fewer s)

pub second_ends : (x y r : List ℕ) → after_first x ≡ Some r → after_first y ≡ None → identifier_cmp (first x) (first y) ≡ Equal
    → Greater ≡ identifiers_cmp x y
second_ends x y r f g e = sym (later x y (Some r) None f g e ∙ more r)

valid : (x : List ℕ) → are_pre_identifiers x ≡ true → list_all is_pre_identifier (first x ∷ others (after_first x)) ≡ true
unfolding are_pre_identifiers
valid x h = sym (ap (list_all is_pre_identifier) (split_is x)) ∙ h

pub valid_first : (x : List ℕ) → are_pre_identifiers x ≡ true → is_pre_identifier (first x) ≡ true
valid_first x h = (and_parts (is_pre_identifier (first x)) (list_all is_pre_identifier (others (after_first x))) (valid x h)).0

pub valid_after : (x r : List ℕ) → after_first x ≡ Some r → are_pre_identifiers x ≡ true → are_pre_identifiers r ≡ true
unfolding are_pre_identifiers
valid_after x r f h =
    ap (λ p. list_all is_pre_identifier (others p)) (sym f)
    ∙ (and_parts (is_pre_identifier (first x)) (list_all is_pre_identifier (others (after_first x))) (valid x h)).1

-- numbers in identifiers have 64 bits
small_one : (a : List ℕ) → is_numeric a ≡ true → is_pre_identifier a ≡ true → number a < 2 ^ 64
unfolding is_pre_identifier is_number
small_one a n h =
    let p = and_parts (is_identifier a) (not (is_numeric a) || is_number a) h in
    let q : is_number a ≡ true = rw n at p.1 in
    let s = and_parts (not (has_zero a)) (is_small a) q in
    below (number a) s.1

pub both_numbers : (a b : List ℕ) (m n : ℕ) (o : Ordering) → is_numeric a ≡ true → is_numeric b ≡ true → is_pre_identifier a ≡ true → is_pre_identifier b ≡ true
    → m ≡ min (number a) (2 ^ 128 - 1) → n ≡ min (number b) (2 ^ 128 - 1) → o ≡ nat_cmp m n → o ≡ identifier_cmp a b
unfolding identifier_cmp
both_numbers a b m n o p q h i e f g =
    let x = small_one a p h in
    let y = small_one b q i in
    let u : m ≡ number a = omega arith in
    let v : n ≡ number b = omega arith in
    rw (p, q) (g ∙ ap₂ nat_cmp u v)

-- what `!=` tells of two orders

pub unequal : (o : Ordering) (r : Bool) → r ≡ not (ordering_index o == ordering_index Equal) → r ≡ true → o ≢ Equal
unequal Less r e h = λ q. cc
unequal Equal r e h = let no : true ≡ false = sym h ∙ e in cc
unequal Greater r e h = λ q. cc

pub equal : (o : Ordering) (r : Bool) → r ≡ not (ordering_index o == ordering_index Equal) → r ≡ false → o ≡ Equal
equal Less r e h = let no : true ≡ false = sym e ∙ h in cc
equal Equal r e h = refl
equal Greater r e h = let no : true ≡ false = sym e ∙ h in cc

-- and `is_none` of an option

pub is_absent : {X : Type 0} (f : X → List ℕ) (o : Option X) (r : Bool) (q : Option (List ℕ)) → is_some o ≡ not r → r ≡ true → option_map f o ≡ q → q ≡ None
is_absent f None r q e h g = sym g
is_absent f (Some x) r q e h g = let no : true ≡ false = e ∙ ap not h in cc

pub is_present : {X : Type 0} (f : X → List ℕ) (o : Option X) (r : Bool) (q : Option (List ℕ)) → is_some o ≡ not r → r ≡ false → option_map f o ≡ q → (s : List ℕ) × (q ≡ Some s)
is_present f None r q e h g = let no : false ≡ true = e ∙ ap not h in cc
is_present f (Some x) r q e h g = (f x, sym g)
