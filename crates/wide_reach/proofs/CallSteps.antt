-- Calls by the number of their operands.
use Rattle.std.proofs.Common.{◌≡◌, ◌<◌, Bool, false, List, [], ◌∷◌, length, map, Option, refl, arith}
use Rattle.wide_reader.specs.Tree as wide
use Rattle.wide_reader.specs.declared.wide.Wide.{Wide as CodeWide}
use Rattle.wide_meaning.specs.declared.function.Function.{Function}
use Rattle.wide_meaning.specs.declared.function.Method.{Method}
use Rattle.wide_meaning.specs.declared.function.Qualified.{Qualified}
use Rattle.wide_reach.specs.Known.{KnownNames, called_with, called_with_two, on_operand}
unfoldable use Rattle.wide_reach.specs.Known.{has_reach, have_reach}

module _ (s : KnownNames) where
  abbrev pub known_each : List CodeWide → List Bool
  known_each given = have_reach s (wide.wides (map wide.view given))

  pub called_with_more : (f : Option Function) (given : List CodeWide) → 1 < length given → called_with f (known_each given) ≡ false
  unfolding has_reach
  called_with_more f [] h = absurd (omega arith)
  called_with_more f (x ∷ []) h = absurd (omega arith)
  called_with_more f (x ∷ y ∷ given) h = refl

  pub method_with_two : (o : Option Qualified) (m : Option Method) (a : Bool) (given : List CodeWide) → 1 < length given → length given < 3
      → on_operand o m a (known_each given) ≡ called_with_two o m a
  unfolding has_reach
  method_with_two o m a [] h k = absurd (omega arith)
  method_with_two o m a (x ∷ []) h k = absurd (omega arith)
  method_with_two o m a (x ∷ y ∷ []) h k = refl
  method_with_two o m a (x ∷ y ∷ z ∷ given) h k = absurd (omega arith)

  pub method_with_more : (o : Option Qualified) (m : Option Method) (a : Bool) (given : List CodeWide) → 2 < length given
      → on_operand o m a (known_each given) ≡ false
  unfolding has_reach
  method_with_more o m a [] h = absurd (omega arith)
  method_with_more o m a (x ∷ []) h = absurd (omega arith)
  method_with_more o m a (x ∷ y ∷ []) h = absurd (omega arith)
  method_with_more o m a (x ∷ y ∷ z ∷ given) h = refl
