-- What the forms of macros mean for their arguments.
use Rattle.wide_reader.proofs.Prelude.{◌≡◌, ℕ, ◌+◌, List, [], ◌∷◌, ◌++◌, ◌<◌, ◌≤◌, length, map, Bool, true, false, true≢false, not, Option, Some, None, if◌then◌else◌, ◌||◌, refl, sym, ◌∙◌, ap, subst, arith, nat_tests, length-map, Wide, CodeWide, view, wides, method_of, Plain}
use Rattle.std.specs.Prelude.{◌==◌, is_some, bytes_eq, codes}
use Rattle.wide_reader.specs.Tree as tree
use Rattle.wide_reader.specs.Tree.{Wides, no_wides, more_wides}
use Rattle.wide_reader.specs.Forms.{of_two, of_three, of_four, form_of, formed, is_has, wide_count}
use Rattle.wide_reader.specs.Faults.{call_fault}
use Rattle.wide_reader.specs.declared.wide_error.MacroFault.{MacroFault, TheVariants.ArgumentCount, TheVariants.NoSelection}
use Rattle.wide_reader.specs.Shapes.{plain_name, are_names, begins_with_name, begins_with_names, has_names, is_selection, HasName, HasTwoNames, AreNames, AreArguments}
use Rattle.wide_reader.proofs.Steps.{pushed}
use Rattle.wide_reader.specs.declared.form.Form.{Form, TheVariants.Fold, TheVariants.FilterMap, TheVariants.PairFold, TheVariants.PairFilterMap, TheVariants.OptionalFold, TheVariants.ComputedMap}
use Rattle.wide_reader.specs.declared.wide.Macro.TheVariants as macros
use Rattle.wide_reader.specs.declared.wide.PairMacro.TheVariants as pairs
use Rattle.wide_reader.specs.declared.wide.OptionalMacro.TheVariants as optionals

-- ---- the number of arguments

abbrev HasCount : Form → ℕ → Type 0
HasCount (Fold m) count = count ≡ 2
HasCount (OptionalFold m) count = count ≡ 2
HasCount FilterMap count = count ≡ 3
HasCount (PairFold m) count = count ≡ 3
HasCount PairFilterMap count = count ≡ 4
HasCount ComputedMap count = Unit {0}

abbrev Counted : ℕ → Option Form → Type 0
Counted count None = Unit {0}
Counted count (Some f) = HasCount f count

two_by : (a b c d e g h : Bool) → Counted 2 (if a then Some (Fold macros.All) else (if b then Some (Fold macros.Exists)
    else (if c then Some (Fold macros.ExistsOne) else (if d then Some (Fold macros.Filter) else (if e then Some (Fold macros.Map)
    else (if g then Some (OptionalFold optionals.Map) else (if h then Some (OptionalFold optionals.FlatMap) else None)))))))
two_by true b c d e g h = refl
two_by false true c d e g h = refl
two_by false false true d e g h = refl
two_by false false false true e g h = refl
two_by false false false false true g h = refl
two_by false false false false false true h = refl
two_by false false false false false false true = refl
two_by false false false false false false false = tt

three_by : (a b c d e g : Bool) → Counted 3 (if a then Some FilterMap else (if b then Some (PairFold pairs.All)
    else (if c then Some (PairFold pairs.Exists) else (if d then Some (PairFold pairs.ExistsOne)
    else (if e then Some (PairFold pairs.TransformList) else (if g then Some ComputedMap else None))))))
three_by true b c d e g = refl
three_by false true c d e g = refl
three_by false false true d e g = refl
three_by false false false true e g = refl
three_by false false false false true g = refl
three_by false false false false false true = tt
three_by false false false false false false = tt

four_by : (a b : Bool) → Counted 4 (if a then Some PairFilterMap else (if b then Some ComputedMap else None))
four_by true b = refl
four_by false true = tt
four_by false false = tt

counted_two : (n : List ℕ) → Counted 2 (of_two n)
counted_two n =
    two_by (bytes_eq n (codes "all")) (bytes_eq n (codes "exists")) (bytes_eq n (codes "exists_one")) (bytes_eq n (codes "filter"))
    (bytes_eq n (codes "map")) (bytes_eq n (codes "optMap")) (bytes_eq n (codes "optFlatMap"))

counted_three : (n : List ℕ) → Counted 3 (of_three n)
counted_three n =
    three_by (bytes_eq n (codes "map")) (bytes_eq n (codes "all")) (bytes_eq n (codes "exists"))
    (bytes_eq n (codes "exists_one") || bytes_eq n (codes "existsOne")) (bytes_eq n (codes "transformList"))
    (bytes_eq n (codes "transformMap") || bytes_eq n (codes "transformMapEntry"))

counted_four : (n : List ℕ) → Counted 4 (of_four n)
counted_four n = four_by (bytes_eq n (codes "transformList")) (bytes_eq n (codes "transformMap") || bytes_eq n (codes "transformMapEntry"))

same_number : (n m : ℕ) → (n == m) ≡ true → n ≡ m
same_number n m e = grind (arith, nat_tests)

counted_by : (n : List ℕ) (count : ℕ) (two three four : Bool) → (count == 2) ≡ two → (count == 3) ≡ three → (count == 4) ≡ four
    → Counted count (if two then of_two n else (if three then of_three n else (if four then of_four n else None)))
counted_by n count true three four e f g = subst (λ (k : ℕ). Counted k (of_two n)) (sym (same_number count 2 e)) (counted_two n)
counted_by n count false true four e f g = subst (λ (k : ℕ). Counted k (of_three n)) (sym (same_number count 3 f)) (counted_three n)
counted_by n count false false true e f g = subst (λ (k : ℕ). Counted k (of_four n)) (sym (same_number count 4 g)) (counted_four n)
counted_by n count false false false e f g = tt

counted : (n : List ℕ) (count : ℕ) → Counted count (form_of n count)
counted n count = counted_by n count (count == 2) (count == 3) (count == 4) refl refl refl

has_count : (n : List ℕ) (count : ℕ) (f : Form) → Some f ≡ form_of n count → HasCount f count
has_count n count f e = subst (Counted count) (sym e) (counted n count)

-- ---- names

name_from : (w : Wide) → is_some (plain_name w) ≡ true → (x : List ℕ) × (w ≡ tree.name x)
name_from (tree.name x) e = (x, refl)
name_from _ e = absurd cc

not_true : (b : Bool) → not b ≡ true → b ≡ false
not_true true e = absurd cc
not_true false e = refl

names_from : (w u : Wide) → are_names (plain_name w) (plain_name u) ≡ true
    → (k : List ℕ) × (v : List ℕ) × (w ≡ tree.name k) × (u ≡ tree.name v) × (bytes_eq k v ≡ false)
names_from (tree.name k) (tree.name v) e = (k, v, refl, refl, not_true (bytes_eq k v) e)
names_from (tree.name k) _ e = absurd cc
names_from _ u e = absurd cc

two_of : (ws : List Wide) → length ws ≡ 2 → begins_with_name (wides ws) ≡ true → HasName ws
two_of (a ∷ b ∷ []) e h = let p = name_from a h in (p.0, b, ap (λ (w : Wide). w ∷ b ∷ []) p.1)
two_of _ e h = absurd (omega arith)

three_of : (ws : List Wide) → length ws ≡ 3 → begins_with_name (wides ws) ≡ true → AreArguments FilterMap ws
three_of (a ∷ b ∷ c ∷ []) e h = let p = name_from a h in (p.0, b, c, ap (λ (w : Wide). w ∷ b ∷ c ∷ []) p.1)
three_of _ e h = absurd (omega arith)

pair_of : (ws : List Wide) → length ws ≡ 3 → begins_with_names (wides ws) ≡ true → HasTwoNames ws
pair_of (a ∷ b ∷ c ∷ []) e h =
    let p = names_from a b h in
    (p.0, p.1, c, ap (λ (w : Wide). w ∷ b ∷ c ∷ []) p.2 ∙ ap (λ (w : Wide). tree.name p.0 ∷ w ∷ c ∷ []) p.3, p.4)
pair_of _ e h = absurd (omega arith)

four_of : (ws : List Wide) → length ws ≡ 4 → begins_with_names (wides ws) ≡ true → AreArguments PairFilterMap ws
four_of (a ∷ b ∷ c ∷ d ∷ []) e h =
    let p = names_from a b h in
    (p.0, p.1, c, d, ap (λ (w : Wide). w ∷ b ∷ c ∷ d ∷ []) p.2 ∙ ap (λ (w : Wide). tree.name p.0 ∷ w ∷ c ∷ d ∷ []) p.3, p.4)
four_of _ e h = absurd (omega arith)

arguments_of : (f : Form) (ws : List Wide) → HasCount f (length ws) → has_names f (wides ws) ≡ true → AreArguments f ws
arguments_of (Fold m) ws e h = two_of ws e h
arguments_of (OptionalFold m) ws e h = two_of ws e h
arguments_of FilterMap ws e h = three_of ws e h
arguments_of (PairFold m) ws e h = pair_of ws e h
arguments_of PairFilterMap ws e h = four_of ws e h
arguments_of ComputedMap ws e h = absurd cc

-- a macro's arguments are of its form if they begin with its names
pub are_arguments : (n : List ℕ) (f : Form) (items : List CodeWide) → Some f ≡ form_of n (length items) → has_names f (wides (map view items)) ≡ true
    → AreArguments f (map view items)
are_arguments n f items e h =
    arguments_of f (map view items) (subst (HasCount f) (sym (length-map items view)) (has_count n (length items) f e)) h

-- ---- methods

pub count_of : (items : List CodeWide) → wide_count (wides (map view items)) ≡ length items
count_of [] = refl
count_of (a ∷ items) = ap (λ n. n + 1) (count_of items) ∙ omega arith

same_names : (b : Bool) (x y : Wide) → not b ≡ false → (if b then x else y) ≡ x
same_names true x y e = refl
same_names false x y e = absurd cc

-- without its names, a macro is left as the method
not_formed : (f : Form) (a : Wide) (n : List ℕ) (more : Wides) → has_names f more ≡ false → formed (Some f) a n more ≡ tree.method a n more
not_formed (Fold m) a n (more_wides (tree.name x) more) h = absurd cc
not_formed (Fold m) a n _ h = refl
not_formed (OptionalFold m) a n (more_wides (tree.name x) more) h = absurd cc
not_formed (OptionalFold m) a n _ h = refl
not_formed FilterMap a n (more_wides (tree.name x) more) h = absurd cc
not_formed FilterMap a n _ h = refl
not_formed (PairFold m) a n (more_wides (tree.name k) (more_wides (tree.name v) (more_wides p no_wides))) h = same_names (bytes_eq k v) _ _ h
not_formed (PairFold m) a n _ h = refl
not_formed PairFilterMap a n (more_wides (tree.name k) (more_wides (tree.name v) (more_wides p (more_wides t no_wides)))) h = same_names (bytes_eq k v) _ _ h
not_formed PairFilterMap a n _ h = refl
not_formed ComputedMap a n more h = refl

-- a method that is no macro, and one without the names of its macro
pub method_kept : (a : Wide) (n : List ℕ) (items : List CodeWide) → None ≡ form_of n (length items)
    → tree.method a n (wides (map view items)) ≡ method_of a n (wides (map view items))
method_kept a n items e = ap (λ o. formed o a n (wides (map view items))) (e ∙ ap (form_of n) (sym (count_of items)))

pub method_left : (a : Wide) (n : List ℕ) (items : List CodeWide) (f : Form) → Some f ≡ form_of n (length items) → has_names f (wides (map view items)) ≡ false
    → tree.method a n (wides (map view items)) ≡ method_of a n (wides (map view items))
method_left a n items f e h =
    sym (not_formed f a n (wides (map view items)) h) ∙ ap (λ o. formed o a n (wides (map view items))) (e ∙ ap (form_of n) (sym (count_of items)))

pub method_formed : (a : Wide) (n : List ℕ) (items : List CodeWide) (f : Form) → Some f ≡ form_of n (length items)
    → formed (Some f) a n (wides (map view items)) ≡ method_of a n (wides (map view items))
method_formed a n items f e = ap (λ o. formed o a n (wides (map view items))) (e ∙ ap (form_of n) (sym (count_of items)))

-- the last argument taken off
two_split : (ws us : List Wide) (t : Wide) → HasTwoNames ws → ws ≡ us ++ t ∷ [] → AreNames us
two_split ws (a ∷ b ∷ []) t h e = let f : a ∷ b ∷ t ∷ [] ≡ tree.name h.0 ∷ tree.name h.1 ∷ h.2 ∷ [] = sym e ∙ h.3 in (h.0, h.1, cc)
two_split ws [] t h e = let f : t ∷ [] ≡ tree.name h.0 ∷ tree.name h.1 ∷ h.2 ∷ [] = sym e ∙ h.3 in absurd cc
two_split ws (a ∷ []) t h e = let f : a ∷ t ∷ [] ≡ tree.name h.0 ∷ tree.name h.1 ∷ h.2 ∷ [] = sym e ∙ h.3 in absurd cc
two_split ws (a ∷ b ∷ c ∷ []) t h e = let f : a ∷ b ∷ c ∷ t ∷ [] ≡ tree.name h.0 ∷ tree.name h.1 ∷ h.2 ∷ [] = sym e ∙ h.3 in absurd cc
two_split ws (a ∷ b ∷ c ∷ d ∷ us) t h e = let f : a ∷ b ∷ c ∷ d ∷ (us ++ t ∷ []) ≡ tree.name h.0 ∷ tree.name h.1 ∷ h.2 ∷ [] = sym e ∙ h.3 in absurd cc

pub names_split : (items more : List CodeWide) (t : CodeWide) → HasTwoNames (map view items) → items ≡ more ++ t ∷ [] → AreNames (map view more)
names_split items more t h e = two_split (map view items) (map view more) (view t) h (pushed view more items t e)

pub names_joined : (items more : List CodeWide) (t : CodeWide) (k v : List ℕ) → items ≡ more ++ t ∷ [] → map view more ≡ tree.name k ∷ tree.name v ∷ []
    → map view items ≡ tree.name k ∷ tree.name v ∷ view t ∷ []
names_joined items more t k v e f = pushed view more items t e ∙ ap (λ (us : List Wide). us ++ view t ∷ []) f

-- ---- calls of `has`

selection_from : (w : Wide) → is_selection (more_wides w no_wides) ≡ true → (a : Wide) × (f : List ℕ) × (w ≡ tree.select a Plain f)
selection_from (tree.select a Plain f) e = (a, f, refl)
selection_from _ e = absurd cc

two_no_selection : (a b : Wide) (more : Wides) → is_selection (more_wides a (more_wides b more)) ≡ false
two_no_selection (tree.select a Plain f) b more = refl
two_no_selection _ b more = refl

pub has_selection : (items : List CodeWide) → is_selection (wides (map view items)) ≡ true → (a : Wide) × (f : List ℕ) × (map view items ≡ tree.select a Plain f ∷ [])
has_selection [] e = absurd cc
has_selection (x ∷ []) e = let p = selection_from (view x) e in (p.0, p.1, ap (λ (w : Wide). w ∷ []) p.2)
has_selection (x ∷ y ∷ items) e = absurd (true≢false (sym e ∙ two_no_selection (view x) (view y) (wides (map view items))))

pub selection_of_none : (items : List CodeWide) → length items < 1 → is_selection (wides (map view items)) ≡ false
selection_of_none [] h = refl
selection_of_none (a ∷ items) h = absurd (omega arith)

pub selection_of_more : (items : List CodeWide) → 1 < length items → is_selection (wides (map view items)) ≡ false
selection_of_more (a ∷ b ∷ items) h = two_no_selection (view a) (view b) (wides (map view items))
selection_of_more _ h = absurd (omega arith)

-- ---- faults of calls

fault_by : (b : Bool) (x y : Option MacroFault) → b ≡ true → (if b then x else y) ≡ x
fault_by true x y e = refl
fault_by false x y e = absurd cc

pub fault_of_none : (n : List ℕ) (items : List CodeWide) → is_has n ≡ true → length items < 1 → call_fault n (wides (map view items)) ≡ Some ArgumentCount
fault_of_none n [] e h = fault_by (is_has n) (Some ArgumentCount) None e
fault_of_none n (a ∷ items) e h = absurd (omega arith)

pub fault_of_one : (n : List ℕ) (items : List CodeWide) → is_has n ≡ true → 1 ≤ length items → length items < 2 → call_fault n (wides (map view items)) ≡ Some NoSelection
fault_of_one n (a ∷ []) e h g = fault_by (is_has n) (Some NoSelection) None e
fault_of_one n _ e h g = absurd (omega arith)

pub fault_of_more : (n : List ℕ) (items : List CodeWide) → is_has n ≡ true → 1 < length items → call_fault n (wides (map view items)) ≡ Some ArgumentCount
fault_of_more n (a ∷ b ∷ items) e h = fault_by (is_has n) (Some ArgumentCount) None e
fault_of_more n _ e h = absurd (omega arith)

pub names_of_few : (items : List CodeWide) → length items < 2 → begins_with_names (wides (map view items)) ≡ false
names_of_few (a ∷ b ∷ items) h = absurd (omega arith)
names_of_few _ h = refl
