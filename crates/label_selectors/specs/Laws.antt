-- Laws of selectors.
use Rattle.std.specs.Prelude.{◌≡◌, ℕ, true, List, Option, Some, None, IsSome, IsNone, All, Contains}
use Rattle.std.specs.Bool.{Decides}
use Rattle.label_selectors.specs.Selectors.{Labels, LabelSelector, Requirement, is_empty, requirements, selects}
use Rattle.label_selectors.specs.declared.operator.Operator.{Operator}
use Rattle.label_selectors.specs.declared.operator.Operator.TheVariants.{In, NotIn, Exists, DoesNotExist}

-- the table of operators as a relation: the condition on the value at the key
abbrev pub FitsValue : Operator → List (List ℕ) → Option (List ℕ) → Type 0
FitsValue In values (Some v) = Contains values v
FitsValue In values None = ⊥
FitsValue NotIn values (Some v) = ¬ Contains values v
FitsValue NotIn values None = Unit {0}
FitsValue Exists values o = IsSome o
FitsValue DoesNotExist values o = IsNone o

-- the labels fit the requirement
abbrev pub Fits : Labels → Requirement → Type 0
Fits labels r = FitsValue r.operator r.values (labels r.key)

-- a selector selects the labels exactly if they fit each of its requirements
abbrev pub SelectsByAll : Type 0
SelectsByAll = (s : LabelSelector) (labels : Labels) → Decides (selects s labels) (All (Fits labels) (requirements s))

-- a selector without requirements selects all labels
abbrev pub EmptySelectsAll : Type 0
EmptySelectsAll = (s : LabelSelector) (labels : Labels) → is_empty s ≡ true → selects s labels ≡ true
