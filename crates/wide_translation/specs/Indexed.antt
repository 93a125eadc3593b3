-- When the table of indices is long enough for an expression.
use Rattle.std.specs.Prelude.{◌≡◌, ℕ, zero, suc, ◌≤◌, pos, Bool, true, false, ◌||◌, List, [], ◌∷◌, length, Option}
use Rattle.std.specs.Prelude.{Some, None, ⊤}
use Rattle.std.specs.List.{All}
use Rattle.value_store.specs.Value.{Value, ValueOrError, value, int, list, items_of, list_of}
use Rattle.cel_macros.specs.Macros.{range_of}
use Rattle.wide_reader.specs.Tree.{Wide, Wides, WideItems, WideEntries}
use Rattle.wide_reader.specs.Tree as wide
use Rattle.wide_meaning.specs.Environment.{WideEnvironment, bound}
use Rattle.wide_meaning.specs.Meaning.{wide_meaning}
use Rattle.wide_meaning.specs.Outcome.{Outcome, present, plain_part}
use Rattle.wide_meaning.specs.Ranges.{pairs_of}
use Rattle.wide_translation.specs.Uses.{uses, uses_keys, needs_indices}

-- the ints i, i + 1, .., n of them
abbrev pub ints_from : ℕ → ℕ → List Value
ints_from i zero = []
ints_from i (suc n) = int (pos i) ∷ ints_from (suc i) n

-- the table is the list 0, 1, .., and has as many ints as the list x has items
abbrev pub Covers : ValueOrError → ValueOrError → Type 0
Covers table (value (list is)) = (m : ℕ) × (table ≡ value (list (items_of (ints_from 0 m)))) × (length (list_of is) ≤ m)
Covers table _ = ⊤

-- the same if a macro uses the first of its two names, or a method the places
abbrev pub CoversIf : Bool → ValueOrError → ValueOrError → Type 0
CoversIf true table x = Covers table x
CoversIf false table x = ⊤

-- each item of a range, if there is one
abbrev pub ForEach : {A : Type 0} → (A → Type 0) → Option (List A) → Type 0
ForEach P None = ⊤
ForEach P (Some vs) = All P vs

-- the value of an optional value, if it has one
abbrev pub ForPresent : (Value → Type 0) → Outcome → Type 0
ForPresent P (present v) = P v
ForPresent P _ = ⊤

module _ (others : Wide → WideEnvironment → Outcome) (table : ValueOrError) where
  unfoldable mutual
    -- the table has enough ints for each list that a macro with two names in the expression ranges over, if it uses the
    -- first of them, and for the list of each method that looks at its places
    pub Indexed : Wide → WideEnvironment → Type 0
    Indexed (wide.literal l) env = ⊤
    Indexed (wide.uint n) env = ⊤
    Indexed (wide.name n) env = ⊤
    Indexed (wide.root n) env = ⊤
    Indexed (wide.select a o f) env = Indexed a env
    Indexed (wide.index a o k) env = Indexed a env × Indexed k env
    Indexed (wide.has a f) env = Indexed a env
    Indexed (wide.unary op a) env = Indexed a env
    Indexed (wide.binary op a b) env = Indexed a env × Indexed b env
    Indexed (wide.ternary c a b) env = Indexed c env × Indexed a env × Indexed b env
    Indexed (wide.list items) env = ItemsIndexed items env
    Indexed (wide.map es) env = EntriesIndexed es env
    Indexed (wide.fold m r x p) env =
        Indexed r env × ForEach (λ v. Indexed p (bound x v env)) (range_of (plain_part (wide_meaning others r env)))
    Indexed (wide.filter_map r x p t) env =
        Indexed r env × ForEach (λ v. Indexed p (bound x v env)) (range_of (plain_part (wide_meaning others r env)))
        × ForEach (λ v. Indexed t (bound x v env)) (range_of (plain_part (wide_meaning others r env)))
    Indexed (wide.pair_fold m r k v p) env =
        Indexed r env × CoversIf (uses k p) table (plain_part (wide_meaning others r env))
        × ForEach (λ e. Indexed p (bound v e.1 (bound k e.0 env))) (pairs_of (plain_part (wide_meaning others r env)))
    Indexed (wide.pair_filter_map r k v p t) env =
        Indexed r env × CoversIf (uses k p || uses k t) table (plain_part (wide_meaning others r env))
        × ForEach (λ e. Indexed p (bound v e.1 (bound k e.0 env))) (pairs_of (plain_part (wide_meaning others r env)))
        × ForEach (λ e. Indexed t (bound v e.1 (bound k e.0 env))) (pairs_of (plain_part (wide_meaning others r env)))
    Indexed (wide.optional_fold m a x t) env = Indexed a env × ForPresent (λ v. Indexed t (bound x v env)) (wide_meaning others a env)
    Indexed (wide.call n es) env = AllIndexed es env
    Indexed (wide.method a n es) env =
        Indexed a env × CoversIf (needs_indices n) table (plain_part (wide_meaning others a env)) × AllIndexed es env

    -- for each of the expressions
    pub AllIndexed : Wides → WideEnvironment → Type 0
    AllIndexed wide.no_wides env = ⊤
    AllIndexed (wide.more_wides a more) env = Indexed a env × AllIndexed more env

    -- for the items of a list literal
    pub ItemsIndexed : WideItems → WideEnvironment → Type 0
    ItemsIndexed wide.no_items env = ⊤
    ItemsIndexed (wide.more_items o a more) env = Indexed a env × ItemsIndexed more env

    -- for the entries of a map literal
    pub EntriesIndexed : WideEntries → WideEnvironment → Type 0
    EntriesIndexed wide.no_entries env = ⊤
    EntriesIndexed (wide.more_entries o k v more) env = Indexed k env × Indexed v env × EntriesIndexed more env

-- If there are tables and the expression uses keys or indices, the table of indices is long enough for it.
abbrev pub IsTabled : (Wide → WideEnvironment → Outcome) → Bool → Wide → WideEnvironment → ValueOrError → Type 0
IsTabled others wrapped e env table = wrapped ≡ true → uses_keys e ≡ true → Indexed others table e env
