-- What the code does that an emitter adds for an expression or a variable. The statements are about the piece after
-- the emitter's old code, in every image that has the piece at its slot, even if more is added later.
use Rattle.std.specs.Prelude.{◌≡◌, ℕ, ◌+◌, ◌*◌, ◌<◌, ◌≤◌, ◌⊎◌, Bool, true, List, [], ◌∷◌, ◌++◌, length}
use Rattle.bpf_machine.specs.Limits.{record_limit}
use Rattle.expression_code.specs.Limits.{code_limit, node_limit, slots_per_node, word_limit, steps_per_visit, charge_per_unit}
use Rattle.insn_codec.specs.declared.insn.Insn.{Insn}
use Rattle.loader.specs.Contents.{Image}
use Rattle.loader.specs.Limits.{constants_limit}
use Rattle.value_store.specs.Value.{Value, ValueOrError}
use Rattle.cel_macros.specs.CoreTree.{Core, plain_tree}
use Rattle.cel_macros.specs.Environment.{Roots}
use Rattle.cel_macros.specs.Meaning.{meaning}
use Rattle.cel_measures.specs.Measures.{deepest, depth, nodes}
use Rattle.cel_types.specs.CoreTyping.{core_typing}
use Rattle.cel_types.specs.Declarations.{Declaration, declared, depths_of, scope_of}
use Rattle.cel_types.specs.Types.{typed}
use Rattle.cel_types.specs.declared.cel_type.CelType.{CelType}
use Rattle.expression_code.specs.CpuState.{CpuState}
use Rattle.expression_code.specs.Contexts.{Context}
use Rattle.expression_code.specs.Engine.{RunsTo, RunContext}
use Rattle.expression_code.specs.Paths.{FrameUse, nothing_kept}
use Rattle.expression_code.specs.Pieces.{AreInsns, IsCodeAt, size, slots}
use Rattle.expression_code.specs.Scopes.{IsScope, Returns, Variable, bindings, scope_setting}
use Rattle.expression_code.specs.Variables.{used_context}
use Rattle.tree_code.specs.Computes.{Computes, environment_in, scope_context, variable_with}
use Rattle.tree_code.specs.Constants.{joined, with_texts}
use Rattle.tree_code.specs.Cost.{Cost, IsDeep, cost, spent_by}
use Rattle.codegen.specs.Emitted.{Emitted, IsTooLong}
use Rattle.codegen.specs.Layer.{AreTaken}

-- ---- the machine that runs the code

-- an image with its constants, whether a value may be too deep, the roots, and the variables: those that the
-- expression may use, and later ones
pub record Running : Type 0 where
  pub image : Image
  pub constants : List ℕ
  pub is_deep : Bool
  pub roots : Roots
  pub scope : List Variable
  pub later : List Variable

-- the run context of the variables that the expression may use; first uses of other variables do not count
abbrev pub setting : Running → RunContext
setting r = scope_setting r.image r.is_deep r.scope

-- the context outside all macros, where no iteration name is defined
abbrev pub context : Running → Context
context r = scope_context r.roots [] nothing_kept r.constants (r.scope ++ r.later)

-- the value of the expression there
abbrev pub meaning_in : Running → Core → ValueOrError
meaning_in r e = meaning (plain_tree e) (environment_in r.roots [] r.scope)

-- the cost of its evaluation there
abbrev pub cost_in : Running → Core → Cost
cost_in r e = cost (plain_tree e) (environment_in r.roots [] r.scope)

-- the routines of these variables are in the image
abbrev pub HasRoutines : Running → List Variable → Type 0
HasRoutines r variables = IsScope r.image r.is_deep r.roots r.constants variables

-- the constants of an image are these texts, each once, and later ones
pub record AreConstants (constants : List ℕ) (texts : List (List ℕ)) : Type 0 where
  pub later : List (List ℕ)
  pub are : constants ≡ joined (with_texts texts later)
  pub few : length constants ≤ constants_limit

-- It suits an expression that the type checker accepts with these declarations: its variables are the declared ones,
-- its constants hold these texts, and if a value becomes too deep, the machine may stop for it.
pub record Suits (slots : List ℕ) (texts : List (List ℕ)) (declarations : List Declaration) (e : Core) (r : Running) : Type 0 where
  pub cel_type : CelType
  pub has_type : core_typing e (scope_of declarations) ≡ typed cel_type
  pub taken : AreTaken slots declarations r.scope r.later
  pub texts_are : AreConstants r.constants texts
  pub may : IsDeep (plain_tree e) (environment_in r.roots [] r.scope) → r.is_deep ≡ true

-- There is no room for code of n nodes: there are more than 512 in all, or calls after the emitter's code may not reach
-- all routines. In an image they always do.
abbrev pub LacksRoom : Emitted → ℕ → Type 0
LacksRoom e n = (node_limit < e.nodes + n) ⊎ (code_limit < length e.code)

-- ---- an expression

-- A piece of at most 128 slots for each node is appended, and it can be encoded. From the start of each frame with
-- enough frames above it for its variables, it gives the expression's value within 128 steps a visit and 16 times the
-- cost, plus the first uses of variables in it. The variables are the first ones with which the type checker accepts
-- it. The nodes are counted, and no routine is added.
pub record EmitsPiece (old new : Emitted) (declarations : List Declaration) (e : Core) : Type 0 where
  pub piece : List Insn
  pub behind : new.code ≡ old.code ++ slots piece
  pub short : size piece ≤ slots_per_node * nodes e
  pub spells : (constants : List ℕ) → AreConstants constants new.constants → AreInsns piece
  pub gives : (first rest : List Declaration) (r : Running) (frame : ℕ) → declarations ≡ first ++ rest
      → Suits old.routines new.constants first e r → HasRoutines r r.scope → frame + deepest e (depths_of first) ≤ record_limit
      → Computes (setting r) (length old.code) piece (context r) frame 0 (meaning_in r e) (cost_in r e)
  pub counted : new.nodes ≡ old.nodes + nodes e
  pub kept : new.routines ≡ old.routines
  pub complete : new.lacks_code ≡ old.lacks_code

-- the same; or there is no room, and `finish` returns `TooManyNodes`
abbrev pub EmitsExpression : Emitted → Emitted → List Declaration → Core → Type 0
EmitsExpression old new declarations e = EmitsPiece old new declarations e ⊎ (LacksRoom old (nodes e) × IsTooLong new)

-- ---- a variable

-- the slot of the next routine, after the jump over it
abbrev pub next_routine : Emitted → ℕ
next_routine e = length e.code + 1

-- the context of a caller that may use the earlier variables and this one, with any iteration names
abbrev pub caller_context : Running → List (List ℕ × Value) → FrameUse → List ℕ → Core → Context
caller_context r items words name e =
    used_context r.roots items words r.constants (bindings (r.scope ++ r.later) ++ (name, meaning_in r e) ∷ [])

-- the variable with this name whose routine has this code for the expression
abbrev pub next_variable : Emitted → List Insn → Roots → List Variable → List ℕ → Core → Variable
next_variable old body roots scope name e = variable_with body roots scope name e (next_routine old)

-- A piece of at most 128 slots for each node and one more is appended. It can be encoded, and code before it passes
-- it in one step. From its second slot on it is the routine of the next variable: called with enough frames, it
-- returns the expression's value within 128 steps a visit and 16 times the cost, plus the first uses of variables in
-- it. The variables are the first ones with which the type checker accepts it. With this one more they are again a
-- scope. The nodes and one more are counted.
pub record EmitsPassedRoutine (old new : Emitted) (declarations : List Declaration) (e : Core) : Type 0 where
  pub piece : List Insn
  pub body : List Insn
  pub behind : new.code ≡ old.code ++ slots piece
  pub short : size piece ≤ slots_per_node * (1 + nodes e)
  pub spells : (constants : List ℕ) → AreConstants constants new.constants → AreInsns piece
  pub passes : (s : RunContext) (b : CpuState) → IsCodeAt s.image.code (length old.code) piece
      → RunsTo s 1 0 (length old.code) b (length new.code) (λ last. last ≡ b)
  pub returns : (first rest : List Declaration) (r : Running) (name : List ℕ) (items : List (List ℕ × Value))
      (words : FrameUse) (frame base : ℕ) → declarations ≡ first ++ rest
      → Suits old.routines new.constants first e r → HasRoutines r r.scope
      → frame + depth e (depths_of first) ≤ record_limit → base ≤ word_limit → IsCodeAt r.image.code (length old.code) piece
      → Returns (setting r) (next_routine old) (length old.routines) (caller_context r items words name e) frame base
      (meaning_in r e) (steps_per_visit * (cost_in r e).visits) (charge_per_unit * spent_by (cost_in r e))
  pub joins : (r : Running) (name : List ℕ) → Suits old.routines new.constants declarations e r → HasRoutines r (r.scope ++ r.later)
      → IsCodeAt r.image.code (length old.code) piece
      → HasRoutines r ((r.scope ++ r.later) ++ next_variable old body r.roots r.scope name e ∷ [])
  pub taken : (roots : Roots) (scope : List Variable) (name : List ℕ) (t : CelType) → AreTaken old.routines declarations scope []
      → AreTaken new.routines (declarations ++ declared name t (depth e (depths_of declarations)) ∷ [])
      (scope ++ next_variable old body roots scope name e ∷ []) []
  pub counted : new.nodes ≡ old.nodes + (1 + nodes e)
  pub complete : new.lacks_code ≡ old.lacks_code

-- the same; or there is no room, and `finish` returns `TooManyNodes`
abbrev pub EmitsVariable : Emitted → Emitted → List Declaration → Core → Type 0
EmitsVariable old new declarations e = EmitsPassedRoutine old new declarations e ⊎ (LacksRoom old (1 + nodes e) × IsTooLong new)
