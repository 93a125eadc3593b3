-- The value that the code gives which an emitter adds, for each expression that the type checker accepts in a scope of
-- the emitter's first variables.
use Rattle.std.specs.Prelude.{◌≡◌, ◌+◌, List, length}
use Rattle.cel_macros.specs.CoreTree.{Core}
use Rattle.cel_types.specs.CoreTyping.{core_typing}
use Rattle.cel_types.specs.Declarations.{Declaration, scope_of}
use Rattle.cel_types.specs.Types.{typed}
use Rattle.cel_types.specs.declared.cel_type.CelType.{CelType}
use Rattle.codegen.specs.Emitted.{Emitted}
use Rattle.tree_code.specs.Layer.{GivesMeaning, IsTakenBehind, JoinsScope}
pub use Rattle.tree_code.specs.Layer.{AreShallow, AreTaken, HasConstants, IsEmittable}
pub use Rattle.tree_code.specs.Layer.{ExpressionGives, FramesAreEnough, VariableIsTaken, VariableJoins}

-- if the type checker accepts the expression in the scope, its code gives its value when it is appended to the
-- emitter's code
abbrev pub EmitsMeaning : Emitted → List Declaration → Core → Type 0
EmitsMeaning emitter declarations e =
    (t : CelType) → core_typing e (scope_of declarations) ≡ typed t
    → GivesMeaning emitter.constants emitter.routines declarations e (length emitter.code)

-- the expression's routine, appended after a jump over it, is that of the next variable
abbrev pub EmitsRoutine : Emitted → List Declaration → Core → Type 0
EmitsRoutine emitter declarations e = (t : CelType) → core_typing e (scope_of declarations) ≡ typed t
    → JoinsScope emitter.constants emitter.routines declarations e (length emitter.code + 1)
    × IsTakenBehind emitter.constants emitter.routines declarations e (length emitter.code + 1)
