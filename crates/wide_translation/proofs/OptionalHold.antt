-- Optional values from values and from each other, and macros over them.
use Rattle.std.specs.Prelude.{⊤}
use Rattle.std.proofs.Common.{◌≡◌, ℕ, ◌&&◌, List, [], ◌∷◌, refl, ap, ◌∙◌}
use Rattle.cel_reader.specs.Tree as tree
use Rattle.cel_reader.specs.Tree.{Tree}
use Rattle.value_store.specs.Value.{Value, value, list, no_items}
use Rattle.cel_macros.specs.Comparison.{equal_of}
use Rattle.cel_macros.specs.Environment.{Environment, bind}
use Rattle.cel_macros.specs.Literals.{list_literal}
use Rattle.cel_macros.specs.Logic.{ternary_of}
use Rattle.cel_macros.specs.Macros.{range_of}
use Rattle.cel_macros.specs.declared.macros.Macro.TheVariants as plain_macro
unfoldable use Rattle.cel_macros.specs.Meaning.{meaning, meanings}
use Rattle.wide_reader.specs.declared.wide.OptionalMacro.{OptionalMacro, TheVariants.Map, TheVariants.FlatMap}
use Rattle.wide_meaning.specs.declared.function.Qualified.{Qualified}
use Rattle.wide_meaning.specs.declared.function.Qualified.TheVariants as qualified
use Rattle.wide_meaning.specs.Functions.{contained, meeting, qualified_in}
use Rattle.wide_meaning.specs.Outcome.{Outcome, failed, plain as of_value, absent, present, plain_part, some_of}
use Rattle.wide_meaning.specs.Outcome.{first_of}
use Rattle.wide_meaning.specs.Ranges.{over_items, optional_over}
use Rattle.wide_kinds.specs.declared.kind.ValueKind.{ValueKind}
use Rattle.wide_kinds.specs.declared.kind.ValueKind.TheVariants as kind
use Rattle.wide_kinds.specs.Kinds.{joined_kind}
use Rattle.wide_kinds.specs.Fitting.{IsOfKind, IsOptionalOf}
use Rattle.wide_translation.specs.Carried.{Carried, plain, guarded, listed, Translation, taken, refused}
use Rattle.wide_translation.specs.Forms.{one_tree, empty_tree, is_empty_tree, held, guarded_tree, flat_tree}
use Rattle.wide_translation.specs.Forms.{macro_tree}
use Rattle.wide_translation.specs.Holds.{guard_part, value_part, list_part, IsPlain, IsGuarded, IsListed, Carries}
use Rattle.wide_translation.specs.Holds.{WideHolds}
use Rattle.wide_translation.specs.Indexed.{ForPresent}
use Rattle.wide_translation.specs.Names.{held_name}
use Rattle.wide_meaning.specs.Functions.{some_unless_zero}
use Rattle.wide_translation.specs.Forms.{non_zero_tree}
use Rattle.wide_translation.proofs.FormsHold.{non_zero_holds}
use Rattle.wide_translation.specs.Translated.{once}
use Rattle.wide_translation.specs.Translated.{with_carried, or_carried, qualified_translation, optional_carried}
use Rattle.wide_translation.specs.Lists.{second, contained_tree, meeting_tree, equivalent_tree}
use Rattle.wide_translation.proofs.FieldsHold.{with_plain_holds}
use Rattle.wide_translation.proofs.ListsHold.{sets_holds, contains_test, meets_test, equivalent_test}
use Rattle.wide_translation.proofs.OperatorsHold.{first_optional, second_optional}
use Rattle.wide_translation.proofs.Steps.{on_value, let_means, held_is, macro_means, guarded_means, after, flat_for}

-- the translations carry the outcomes one by one
abbrev pub AllHold : List Translation → List Outcome → Environment → Type 0
AllHold [] [] env = ⊤
AllHold (t ∷ ts) (x ∷ xs) env = WideHolds t x env × AllHold ts xs env
AllHold _ _ env = ⊥

-- ---- `or`

guarded_first : (o p : Outcome) → ternary_of (guard_part o) (list_literal (value_part o ∷ [])) (list_part p) ≡ list_part (first_of o p)
guarded_first failed p = refl
guarded_first (of_value v) p = refl
guarded_first absent p = refl
guarded_first (present v) p = refl

listed_first : (o p : Outcome) → on_value (λ v. ternary_of (equal_of (value v) (value (list no_items))) (list_part p) (value v)) (list_part o) ≡ list_part (first_of o p)
listed_first failed p = refl
listed_first (of_value v) p = refl
listed_first absent p = refl
listed_first (present v) p = refl

first_kind_of : (k j : ValueKind) (o p : Outcome) → IsOptionalOf k o → IsOptionalOf j p → IsOptionalOf (joined_kind k j) (first_of o p)
first_kind_of k j failed p h g = tt
first_kind_of k j absent p h g = second_optional k j p g
first_kind_of k j (present v) p h g = first_optional k j (present v) h
first_kind_of k j (of_value v) p h g = absurd h

-- The second operand is the same in each environment in which the name that the translation binds has a value.
or_with : (c : Carried) (j : ValueKind) (m : Tree) (x y : Outcome) (env : Environment) → Carries c x env → IsListed j m y env
    → ((v : Value) → meaning m (bind held_name v env) ≡ list_part y)
    → WideHolds (or_carried c (listed j m)) (first_of x y) env
unfolding meaning meanings
or_with (plain k t) j m x y env h i s = tt
or_with (guarded k g t) j m x y env h i s = record {
  list = (λ l. ternary_of (h.guard l) (list_literal (h.value l ∷ [])) (i.list l)) ∙ guarded_first x y;
  kind = first_kind_of k j x y h.kind i.kind;
}
or_with (listed k l) j m x y env h i s =
    let body : Tree = tree.ternary (is_empty_tree held) m held in
    record {
      list = let_means held_name l body env
          ∙ (λ n. on_value (λ v. ternary_of (equal_of (held_is v env n) (value (list no_items))) (s v n) (held_is v env n)) (h.list n))
          ∙ listed_first x y;
      kind = first_kind_of k j x y h.kind i.kind;
    }

or_plain : (c : Carried) (j : ValueKind) (d : Tree) (o : Outcome) (env : Environment) → WideHolds (or_carried c (plain j d)) o env
or_plain (plain k t) j d o env = tt
or_plain (guarded k g t) j d o env = tt
or_plain (listed k l) j d o env = tt

or_of_guarded : (c : Carried) (j : ValueKind) (a b : Tree) (o : Outcome) (env : Environment) → WideHolds (or_carried c (listed j (guarded_tree a b))) o env → WideHolds (or_carried c (guarded j a b)) o env
or_of_guarded (plain k t) j a b o env h = h
or_of_guarded (guarded k g t) j a b o env h = h
or_of_guarded (listed k l) j a b o env h = h

pub or_holds : (c : Carried) (t : Translation) (x y : Outcome) (env : Environment) → Carries c x env → WideHolds t y env → ((v : Value) → WideHolds t y (bind held_name v env))
    → WideHolds (with_carried t (or_carried c)) (first_of x y) env
or_holds c (refused e) x y env h i s = tt
or_holds c (taken (plain j d)) x y env h i s = or_plain c j d (first_of x y) env
or_holds c (taken (guarded j a b)) x y env h i s =
    or_of_guarded c j a b (first_of x y) env (or_with c j (guarded_tree a b) x y env h (record { list = guarded_means a b y env i.guard i.value; kind = i.kind })
    (λ v. guarded_means a b y (bind held_name v env) (s v).guard (s v).value))
or_holds c (taken (listed j m)) x y env h i s = or_with c j m x y env h i (λ v. (s v).list)

-- ---- optional values from values

some_list : (k : ValueKind) (o : Outcome) → IsOfKind k o → list_literal (plain_part o ∷ []) ≡ list_part (some_of o)
some_list k failed h = refl
some_list k (of_value v) h = refl
some_list k absent h = absurd h
some_list k (present v) h = absurd h

some_kind : (k : ValueKind) (o : Outcome) → IsOfKind k o → IsOptionalOf k (some_of o)
some_kind k failed h = tt
some_kind k (of_value v) h = h
some_kind k absent h = absurd h
some_kind k (present v) h = absurd h

one_holds : (k : ValueKind) (a : Tree) (x : Outcome) (env : Environment) → IsPlain k a x env → IsListed k (one_tree a) (some_of x) env
unfolding meaning meanings
one_holds k a x env h = record { list = (λ j. list_literal (h.means j ∷ [])) ∙ some_list k x h.kind; kind = some_kind k x h.kind }

none_holds : (env : Environment) → IsListed kind.Dyn empty_tree absent env
unfolding meaning meanings
none_holds env = record { list = refl; kind = tt }

pub qualified_holds : (q : Qualified) (n : List ℕ) (ts : List Translation) (xs : List Outcome) (r : Outcome) (env : Environment) → AllHold ts xs env
    → ((v : Value) → AllHold ts xs (bind held_name v env)) → WideHolds (qualified_translation q n ts) (qualified_in q xs r) env
qualified_holds qualified.OptionalOf n [] xs r env h s = tt
qualified_holds qualified.OptionalOf n (t ∷ []) (x ∷ []) r env h s =
    with_plain_holds t (λ k a. taken (listed k (one_tree a))) x (some_of x) env h.0 (λ k a i. one_holds k a x env i)
qualified_holds qualified.OptionalOf n (t ∷ []) [] r env h s = absurd h
qualified_holds qualified.OptionalOf n (t ∷ []) (x ∷ y ∷ ys) r env h s = absurd h.1
qualified_holds qualified.OptionalOf n (t ∷ u ∷ ts) xs r env h s = tt
qualified_holds qualified.OptionalNone n [] [] r env h s = none_holds env
qualified_holds qualified.OptionalNone n [] (x ∷ xs) r env h s = absurd h
qualified_holds qualified.OptionalNone n (t ∷ ts) xs r env h s = tt
qualified_holds qualified.OptionalOfNonZeroValue n [] xs r env h s = tt
qualified_holds qualified.OptionalOfNonZeroValue n (t ∷ []) (x ∷ []) r env h s =
    with_plain_holds t (λ k a. taken (listed k (once a non_zero_tree))) x (some_unless_zero x) env h.0 (λ k a i. non_zero_holds k a x env i)
qualified_holds qualified.OptionalOfNonZeroValue n (t ∷ []) [] r env h s = absurd h
qualified_holds qualified.OptionalOfNonZeroValue n (t ∷ []) (x ∷ y ∷ ys) r env h s = absurd h.1
qualified_holds qualified.OptionalOfNonZeroValue n (t ∷ u ∷ ts) xs r env h s = tt
qualified_holds qualified.SetsContains n [] xs r env h s = tt
qualified_holds qualified.SetsContains n (t ∷ []) xs r env h s = tt
qualified_holds qualified.SetsContains n (t ∷ u ∷ v ∷ ts) xs r env h s = tt
qualified_holds qualified.SetsContains n (t ∷ u ∷ []) [] r env h s = absurd h
qualified_holds qualified.SetsContains n (t ∷ u ∷ []) (x ∷ []) r env h s = absurd h.1
qualified_holds qualified.SetsContains n (t ∷ u ∷ []) (x ∷ y ∷ z ∷ zs) r env h s = absurd h.1.1
qualified_holds qualified.SetsContains n (t ∷ u ∷ []) (x ∷ y ∷ []) r env h s = sets_holds (contained_tree second held) (λ xs ys. contained ys xs) t u x y env contains_test h.0 (λ v. (s v).1.0)
qualified_holds qualified.SetsIntersects n [] xs r env h s = tt
qualified_holds qualified.SetsIntersects n (t ∷ []) xs r env h s = tt
qualified_holds qualified.SetsIntersects n (t ∷ u ∷ v ∷ ts) xs r env h s = tt
qualified_holds qualified.SetsIntersects n (t ∷ u ∷ []) [] r env h s = absurd h
qualified_holds qualified.SetsIntersects n (t ∷ u ∷ []) (x ∷ []) r env h s = absurd h.1
qualified_holds qualified.SetsIntersects n (t ∷ u ∷ []) (x ∷ y ∷ z ∷ zs) r env h s = absurd h.1.1
qualified_holds qualified.SetsIntersects n (t ∷ u ∷ []) (x ∷ y ∷ []) r env h s = sets_holds (meeting_tree held second) meeting t u x y env meets_test h.0 (λ v. (s v).1.0)
qualified_holds qualified.SetsEquivalent n [] xs r env h s = tt
qualified_holds qualified.SetsEquivalent n (t ∷ []) xs r env h s = tt
qualified_holds qualified.SetsEquivalent n (t ∷ u ∷ v ∷ ts) xs r env h s = tt
qualified_holds qualified.SetsEquivalent n (t ∷ u ∷ []) [] r env h s = absurd h
qualified_holds qualified.SetsEquivalent n (t ∷ u ∷ []) (x ∷ []) r env h s = absurd h.1
qualified_holds qualified.SetsEquivalent n (t ∷ u ∷ []) (x ∷ y ∷ z ∷ zs) r env h s = absurd h.1.1
qualified_holds qualified.SetsEquivalent n (t ∷ u ∷ []) (x ∷ y ∷ []) r env h s = sets_holds (equivalent_tree held second) (λ xs ys. contained xs ys && contained ys xs) t u x y env equivalent_test h.0 (λ v. (s v).1.0)

-- ---- macros

-- what a body carries for the value of an optional value
abbrev pub OfPresent : List ℕ → Translation → (Value → Outcome) → Outcome → Environment → Type 0
OfPresent x t f o env = ForPresent (λ v. WideHolds t (f v) (bind x v env)) o

mapped_list : (x : List ℕ) (b : Tree) (f : Value → Outcome) (j : ValueKind) (o : Outcome) (env : Environment) → ForPresent (λ v. IsPlain j b (f v) (bind x v env)) o
    → over_items plain_macro.Map (λ v. meaning b (bind x v env)) (range_of (list_part o)) ≡ list_part (optional_over Map f o)
mapped_list x b f j failed env h = refl
mapped_list x b f j (of_value v) env h = refl
mapped_list x b f j absent env h = refl
mapped_list x b f j (present v) env h = ap (λ y. list_literal (y ∷ [])) h.means ∙ some_list j (f v) h.kind

mapped_kind : (x : List ℕ) (b : Tree) (f : Value → Outcome) (k j : ValueKind) (o : Outcome) (env : Environment) → IsOptionalOf k o → ForPresent (λ v. IsPlain j b (f v) (bind x v env)) o
    → IsOptionalOf j (optional_over Map f o)
mapped_kind x b f k j failed env h g = tt
mapped_kind x b f k j absent env h g = tt
mapped_kind x b f k j (present v) env h g = some_kind j (f v) g.kind
mapped_kind x b f k j (of_value v) env h g = absurd h

flat_same : (f : Value → Outcome) (k : ValueKind) (o : Outcome) → IsOptionalOf k o → list_part (after f o) ≡ list_part (optional_over FlatMap f o)
flat_same f k failed h = refl
flat_same f k absent h = refl
flat_same f k (present v) h = refl
flat_same f k (of_value v) h = absurd h

flat_kind : (x : List ℕ) (b : Tree) (f : Value → Outcome) (k j : ValueKind) (o : Outcome) (env : Environment) → IsOptionalOf k o → ForPresent (λ v. IsListed j b (f v) (bind x v env)) o
    → IsOptionalOf j (optional_over FlatMap f o)
flat_kind x b f k j failed env h g = tt
flat_kind x b f k j absent env h g = tt
flat_kind x b f k j (present v) env h g = g.kind
flat_kind x b f k j (of_value v) env h g = absurd h

present_list : (x : List ℕ) (b : Tree) (f : Value → Outcome) (j : ValueKind) (o : Outcome) (env : Environment) → ForPresent (λ v. IsListed j b (f v) (bind x v env)) o
    → ForPresent (λ v. meaning b (bind x v env) ≡ list_part (f v)) o
present_list x b f j failed env h = tt
present_list x b f j (of_value v) env h = tt
present_list x b f j absent env h = tt
present_list x b f j (present v) env h = h.list

map_holds : (x : List ℕ) (k j : ValueKind) (l b : Tree) (o : Outcome) (f : Value → Outcome) (env : Environment) → IsListed k l o env
    → ForPresent (λ v. IsPlain j b (f v) (bind x v env)) o → IsListed j (macro_tree plain_macro.Map x l b) (optional_over Map f o) env
map_holds x k j l b o f env h g = record {
  list = macro_means plain_macro.Map x l b env ∙ (λ i. over_items plain_macro.Map (λ v. meaning b (bind x v env)) (range_of (h.list i))) ∙ mapped_list x b f j o env g;
  kind = mapped_kind x b f k j o env h.kind g;
}

flat_map_holds : (x : List ℕ) (k j : ValueKind) (l b : Tree) (o : Outcome) (f : Value → Outcome) (env : Environment) → IsListed k l o env
    → ForPresent (λ v. IsListed j b (f v) (bind x v env)) o → IsListed j (flat_tree x l b) (optional_over FlatMap f o) env
flat_map_holds x k j l b o f env h g = record {
  list = flat_for x l b f o env h.list (present_list x b f j o env g) ∙ flat_same f k o h.kind;
  kind = flat_kind x b f k j o env h.kind g;
}

present_guarded : (x : List ℕ) (j : ValueKind) (a b : Tree) (o : Outcome) (f : Value → Outcome) (env : Environment) → ForPresent (λ v. IsGuarded j a b (f v) (bind x v env)) o
    → ForPresent (λ v. IsListed j (guarded_tree a b) (f v) (bind x v env)) o
present_guarded x j a b failed f env g = tt
present_guarded x j a b (of_value v) f env g = tt
present_guarded x j a b absent f env g = tt
present_guarded x j a b (present v) f env g = record { list = guarded_means a b (f v) (bind x v env) g.guard g.value; kind = g.kind }

pub optional_holds : (m : OptionalMacro) (x : List ℕ) (k : ValueKind) (l : Tree) (t : Translation) (o : Outcome) (f : Value → Outcome) (env : Environment) → IsListed k l o env
    → OfPresent x t f o env → WideHolds (with_carried t (optional_carried m x l)) (optional_over m f o) env
optional_holds m x k l (refused e) o f env h g = tt
optional_holds Map x k l (taken (plain j b)) o f env h g = map_holds x k j l b o f env h g
optional_holds Map x k l (taken (guarded j a b)) o f env h g = tt
optional_holds Map x k l (taken (listed j b)) o f env h g = tt
optional_holds FlatMap x k l (taken (plain j b)) o f env h g = tt
optional_holds FlatMap x k l (taken (guarded j a b)) o f env h g =
    flat_map_holds x k j l (guarded_tree a b) o f env h (present_guarded x j a b o f env g)
optional_holds FlatMap x k l (taken (listed j b)) o f env h g = flat_map_holds x k j l b o f env h g
