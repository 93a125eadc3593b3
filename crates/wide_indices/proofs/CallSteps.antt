-- Calls by the number of their operands.
use Rattle.std.proofs.Common.{◌≡◌, ◌<◌, Bool, false, List, [], ◌∷◌, length, map, Option, arith}
use Rattle.wide_reader.specs.Tree as wide
use Rattle.wide_reader.specs.declared.wide.Wide.{Wide as CodeWide}
use Rattle.wide_meaning.specs.declared.function.Function.{Function}
use Rattle.wide_meaning.specs.declared.function.Method.{Method}
use Rattle.wide_meaning.specs.declared.function.Qualified.{Qualified}
use Rattle.wide_widths.specs.Narrow.{NarrowNames, called, on_operand}
unfoldable use Rattle.wide_widths.specs.Narrow.{is_narrow, are_narrow}
use Rattle.wide_indices.specs.Known.{of_two}

more_operands : (f : Option Function) (x y : Bool) (xs : List Bool) → called f (x ∷ y ∷ xs) ≡ false
more_operands f x y xs = grind arith

two_arguments : (o : Option Qualified) (m : Option Method) (a x y : Bool) → on_operand o m a (x ∷ y ∷ []) ≡ of_two o m a
two_arguments o m a x y = grind arith

more_arguments : (o : Option Qualified) (m : Option Method) (a x y z : Bool) (xs : List Bool) → on_operand o m a (x ∷ y ∷ z ∷ xs) ≡ false
more_arguments o m a x y z xs = grind arith

module _ (s : NarrowNames) where
  abbrev pub narrow_each : List CodeWide → List Bool
  narrow_each given = are_narrow s (wide.wides (map wide.view given))

  pub called_with_more : (f : Option Function) (given : List CodeWide) → 1 < length given → called f (narrow_each given) ≡ false
  unfolding is_narrow
  called_with_more f [] h = absurd (omega arith)
  called_with_more f (x ∷ []) h = absurd (omega arith)
  called_with_more f (x ∷ y ∷ given) h = more_operands f _ _ _

  pub method_with_two : (o : Option Qualified) (m : Option Method) (a : Bool) (given : List CodeWide) → 1 < length given → length given < 3
      → on_operand o m a (narrow_each given) ≡ of_two o m a
  unfolding is_narrow
  method_with_two o m a [] h k = absurd (omega arith)
  method_with_two o m a (x ∷ []) h k = absurd (omega arith)
  method_with_two o m a (x ∷ y ∷ []) h k = two_arguments o m a _ _
  method_with_two o m a (x ∷ y ∷ z ∷ given) h k = absurd (omega arith)

  pub method_with_more : (o : Option Qualified) (m : Option Method) (a : Bool) (given : List CodeWide) → 2 < length given
      → on_operand o m a (narrow_each given) ≡ false
  unfolding is_narrow
  method_with_more o m a [] h = absurd (omega arith)
  method_with_more o m a (x ∷ []) h = absurd (omega arith)
  method_with_more o m a (x ∷ y ∷ []) h = absurd (omega arith)
  method_with_more o m a (x ∷ y ∷ z ∷ given) h = more_arguments o m a _ _ _ _
