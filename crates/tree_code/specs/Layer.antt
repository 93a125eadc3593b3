-- The value that code gives as an emitter makes it, for each expression that the type checker accepts in a scope of
-- the emitter's first variables.
use Rattle.std.specs.Prelude.{◌≡◌, ℕ, ◌+◌, ◌≤◌, Bool, true, List, [], ◌∷◌, ◌++◌, length}
use Rattle.std.specs.Prelude.{map as each}
use Rattle.std.specs.List.{AllByRecursion}
use Rattle.bpf_machine.specs.Limits.{record_limit}
use Rattle.expression_code.specs.Limits.{variable_depth_limit, word_limit, memo_limit}
use Rattle.loader.specs.Contents.{Image}
use Rattle.cel_macros.specs.CoreTree.{Core, plain_tree}
use Rattle.cel_macros.specs.Environment.{Roots}
use Rattle.cel_macros.specs.Meaning.{meaning}
use Rattle.cel_measures.specs.Measures.{deepest, depth, need}
use Rattle.cel_types.specs.CoreTyping.{core_typing}
use Rattle.cel_types.specs.Declarations.{Declaration, declared, depths_of, scope_of}
use Rattle.cel_types.specs.Types.{typed}
use Rattle.cel_types.specs.declared.cel_type.CelType.{CelType}
use Rattle.expression_code.specs.Pieces.{IsCodeAt}
use Rattle.expression_code.specs.Paths.{nothing_kept}
use Rattle.expression_code.specs.Scopes.{IsScope, Variable, scope_setting}
use Rattle.loader.specs.Limits.{constants_limit}
use Rattle.tree_code.specs.Code.Expressions.{texts_of}
use Rattle.tree_code.specs.Code.Whole.{routine_code, whole_code}
use Rattle.tree_code.specs.Computes.{Computes, environment_in, nestings, scope_context, variable_of}
use Rattle.tree_code.specs.Constants.{joined, with_texts}
use Rattle.tree_code.specs.Cost.{IsDeep, cost}
use Rattle.tree_code.specs.HasLiterals.{HasLiterals}
use Rattle.tree_code.specs.NameTable.{routines_of}

-- the emitter's variables: those of a scope with their declarations, and later ones; each routine begins at its slot
pub record AreTaken (slots : List ℕ) (declarations : List Declaration) (scope later : List Variable) : Type 0 where
  pub slots_are : each (λ v. v.routine) (scope ++ later) ≡ slots
  pub depths_are : nestings scope ≡ depths_of declarations

-- no declared variable is deeper than 6
abbrev pub AreShallow : List Declaration → Type 0
AreShallow declarations = AllByRecursion (λ d. d.depth ≤ variable_depth_limit) declarations

-- the type checker accepts the expression with these declarations, its literals are values, and a frame has enough
-- words for it
pub record IsEmittable (declarations : List Declaration) (e : Core) : Type 0 where
  pub cel_type : CelType
  pub has_type : core_typing e (scope_of declarations) ≡ typed cel_type
  pub literals : HasLiterals (plain_tree e)
  pub fits : need e ≤ word_limit

-- the constants are the texts, then those of the expression, then later ones, each once
pub record HasConstants (constants : List ℕ) (texts : List (List ℕ)) (e : Core) : Type 0 where
  pub more : List (List ℕ)
  pub constants_are : constants ≡ joined (with_texts (with_texts texts (texts_of e)) more)
  pub few : length constants ≤ constants_limit

-- In each image that has it at slot p, and in each frame with enough frames above it for its variables, the code
-- gives the expression's value within 128 steps a visit and 16 times the cost, plus the first uses of variables in
-- it.
abbrev pub GivesMeaning : List (List ℕ) → List ℕ → List Declaration → Core → ℕ → Type 0
GivesMeaning texts slots declarations e p =
    (image : Image) (deep : Bool) (roots : Roots) (constants : List ℕ) (scope later : List Variable) (frame : ℕ)
    → AreTaken slots declarations scope later → frame + deepest e (depths_of declarations) ≤ record_limit → length scope ≤ memo_limit
    → HasConstants constants texts e
    → IsScope image deep roots constants scope
    → let tree = plain_tree e in let env = environment_in roots [] scope in (IsDeep tree env → deep ≡ true)
    → Computes (scope_setting image deep scope) p (whole_code e (with_texts texts (texts_of e)) (routines_of declarations slots) p)
    (scope_context roots [] nothing_kept constants (scope ++ later)) frame 0 (meaning tree env) (cost tree env)

-- If an image has the expression's routine at slot p, as that of a variable of depth at most 6, the variables with
-- this one added are again a scope.
abbrev pub JoinsScope : List (List ℕ) → List ℕ → List Declaration → Core → ℕ → Type 0
JoinsScope texts slots declarations e p =
    (image : Image) (deep : Bool) (roots : Roots) (constants : List ℕ) (scope later : List Variable) (name : List ℕ)
    → AreTaken slots declarations scope later → depth e (depths_of declarations) ≤ variable_depth_limit → length scope ≤ memo_limit
    → HasConstants constants texts e
    → IsScope image deep roots constants (scope ++ later)
    → (IsDeep (plain_tree e) (environment_in roots [] scope) → deep ≡ true)
    → IsCodeAt image.code p (routine_code e (with_texts texts (texts_of e)) (routines_of declarations slots) (length slots) p)
    → IsScope image deep roots constants ((scope ++ later) ++ variable_of roots scope (with_texts texts (texts_of e)) name e p ∷ [])

-- the variable with its declaration is one of the emitter's variables
abbrev pub IsTakenBehind : List (List ℕ) → List ℕ → List Declaration → Core → ℕ → Type 0
IsTakenBehind texts slots declarations e p = (roots : Roots) (scope : List Variable) (name : List ℕ) (t : CelType)
    → AreTaken slots declarations scope []
    → AreTaken (slots ++ p ∷ []) (declarations ++ declared name t (depth e (depths_of declarations)) ∷ [])
    (scope ++ variable_of roots scope (with_texts texts (texts_of e)) name e p ∷ []) []

-- each expression that the type checker accepts gives its value
abbrev pub ExpressionGives : Type 0
ExpressionGives = (texts : List (List ℕ)) (slots : List ℕ) (declarations : List Declaration) (e : Core) (p : ℕ)
    → IsEmittable declarations e → GivesMeaning texts slots declarations e p

-- if no variable is deeper than 6, the machine has enough frames for an expression in the first or second frame
abbrev pub FramesAreEnough : Type 0
FramesAreEnough = (declarations : List Declaration) (e : Core) → AreShallow declarations
    → deepest e (depths_of declarations) ≤ variable_depth_limit

-- the routine of each such expression extends the scope
abbrev pub VariableJoins : Type 0
VariableJoins = (texts : List (List ℕ)) (slots : List ℕ) (declarations : List Declaration) (e : Core) (p : ℕ)
    → IsEmittable declarations e → JoinsScope texts slots declarations e p

-- each expression with each name becomes one of the emitter's variables
abbrev pub VariableIsTaken : Type 0
VariableIsTaken = (texts : List (List ℕ)) (slots : List ℕ) (declarations : List Declaration) (e : Core) (p : ℕ)
    → IsTakenBehind texts slots declarations e p
