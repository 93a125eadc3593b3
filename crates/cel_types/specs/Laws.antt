-- What is proved of types besides their soundness.
use Rattle.std.specs.Prelude.{◌≡◌}
use Rattle.cel_reader.specs.Tree.{Tree}
use Rattle.cel_macros.specs.CoreTree.{Core, expanded, plain_tree}
use Rattle.cel_types.specs.declared.cel_type.CelType.{CelType}
use Rattle.cel_types.specs.Types.{typed}
use Rattle.cel_types.specs.Scope.{Scope}
use Rattle.cel_types.specs.Typing.{typing}
use Rattle.cel_types.specs.CoreTyping.{core_typing}

-- an expanded expression has the same type or fault as the plain one
abbrev pub TypesStay : Type 0
TypesStay = (e : Tree) (s : Scope) → core_typing (expanded e) s ≡ typing e s

-- an expression of the core that has a type is the expansion of its plain tree
abbrev pub TypedIsExpanded : Type 0
TypedIsExpanded = (c : Core) (s : Scope) (t : CelType) → core_typing c s ≡ typed t → c ≡ expanded (plain_tree c)
