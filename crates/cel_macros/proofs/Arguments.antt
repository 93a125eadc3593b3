-- The number of arguments and their trees, and what the tests of the first ones mean for all.
use Rattle.cel_macros.proofs.Prelude.{◌≡◌, ◌<◌, true, List, [], ◌∷◌, length, get_or, map, Option, Some, Result, Ok, refl, arith, Expr, view, trees, Macro, MacroError, name_of, MacroFault, ArgumentCount, name_fault, three_fault, has_fault, fold_fault, refusal}
use Rattle.std.specs.Option.{option_or}

-- ---- the number of arguments

pub has_of_none : (items : List Expr) → length items < 1 → has_fault true (trees (map view items)) ≡ Some ArgumentCount
has_of_none [] h = refl
has_of_none (a ∷ items) h = absurd (omega arith)

pub has_of_more : (items : List Expr) → 1 < length items → has_fault true (trees (map view items)) ≡ Some ArgumentCount
has_of_more (a ∷ b ∷ items) h = refl
has_of_more _ h = absurd (omega arith)

pub fold_of_few : (m : Macro) (items : List Expr) → length items < 2 → fold_fault (Some m) (trees (map view items)) ≡ Some ArgumentCount
fold_of_few m (a ∷ b ∷ items) h = absurd (omega arith)
fold_of_few m _ h = refl

pub fold_of_many : (m : Macro) (items : List Expr) → 3 < length items → fold_fault (Some m) (trees (map view items)) ≡ Some ArgumentCount
fold_of_many m (a ∷ b ∷ d ∷ e ∷ items) h = refl
fold_of_many m _ h = absurd (omega arith)

pub fold_of_two : (m : Macro) (items : List Expr) (x : Expr) → 1 < length items → length items < 3 → x ≡ get_or items 0 x
    → fold_fault (Some m) (trees (map view items)) ≡ name_fault (name_of (view x))
fold_of_two m (a ∷ b ∷ []) x h g e = grind arith
fold_of_two m _ x h g e = absurd (omega arith)

pub fold_of_three : (m : Macro) (items : List Expr) (x : Expr) → 2 < length items → length items < 4 → x ≡ get_or items 0 x
    → fold_fault (Some m) (trees (map view items)) ≡ three_fault m (name_of (view x))
fold_of_three m (a ∷ b ∷ d ∷ []) x h g e = grind arith
fold_of_three m _ x h g e = absurd (omega arith)

-- ---- tests in sequence

pub then_tested : (a b : Option MacroFault) (u : Unit {0}) (r : Result (Unit {0}) MacroError) → Ok u ≡ refusal a → r ≡ refusal b → r ≡ refusal (option_or a b)
then_tested a b u r h e = grind arith
