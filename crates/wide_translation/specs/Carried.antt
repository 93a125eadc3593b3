-- The trees that carry the value of a wide expression.
use Rattle.std.specs.Prelude.{ℕ, List}
use Rattle.cel_reader.specs.Tree.{Tree}
use Rattle.wide_kinds.specs.declared.kind.ValueKind.{ValueKind}

-- A value is carried by a tree. An optional value is carried by a guard, which tells whether it has a value, and the
-- value; or by a list of none or one.
pub data Carried : Type 0 where
  plain : ValueKind → Tree → Carried
  guarded : ValueKind → Tree → Tree → Carried
  listed : ValueKind → Tree → Carried

-- why an expression is not translated: a name that has no meaning here; an optional value in the place of a value;
-- an iteration name that the translation needs; an unsigned int; the indices of a list as values of an iteration name;
-- an optional entry whose key is no text literal, or more than three of them in a map; a form that is not translated
pub data WideFault : Type 0 where
  UnknownName : List ℕ → WideFault
  OptionalValue : WideFault
  TakenName : List ℕ → WideFault
  UnsignedInt : WideFault
  NeedsIndices : WideFault
  OptionalEntry : WideFault
  Unsupported : WideFault

-- a translation, or why there is none
pub data Translation : Type 0 where
  taken : Carried → Translation
  refused : WideFault → Translation
