-- The code of a policy's trees: each expression is compiled for its place, the texts and the routines before it.
use Rattle.std.specs.Prelude.{ℕ, ◌+◌, List, [], ◌∷◌, ◌++◌, length, Option, Some, None}
use Rattle.insn_codec.specs.declared.insn.Insn.{Insn, TheVariants.Exit}
use Rattle.cel_reader.specs.Tree.{Tree}
use Rattle.cel_macros.specs.CoreTree.{expanded}
use Rattle.cel_types.specs.Declarations.{Declaration}
use Rattle.expression_code.specs.Pieces.{size}
use Rattle.tree_code.specs.Code.Whole.{routine_code, whole_code}
use Rattle.tree_code.specs.Constants.{with_texts}
use Rattle.tree_code.specs.NameTable.{routines_of}
use Rattle.policy_code.specs.Scopes.{scope_after, with_variable}
use Rattle.policy_code.specs.Limits.{tree_texts}
use Rattle.policy_code.specs.Program.{ValidationCode, policy_code}
use Rattle.policy_code.specs.ProgramParts.{condition_slots, decided_slots, message_slots, result_slots}
use Rattle.policy_code.specs.Trees.{PolicyTree, ValidationTree, VariableTree}
use Rattle.verdicts.specs.declared.failure_policy.FailurePolicy.{FailurePolicy}

-- the layout so far: the number of slots, the texts among the constants, and the places of the routines
pub record Laid : Type 0 where
  pub place : ℕ
  pub texts : List (List ℕ)
  pub routines : List ℕ

abbrev pub nothing_laid : Laid
nothing_laid = record { place = 0; texts = []; routines = [] }

abbrev pub with_slots : ℕ → Laid → Laid
with_slots n l = record l { place = l.place + n }

-- ---- an expression

abbrev pub texts_with : Laid → Tree → List (List ℕ)
texts_with l a = with_texts l.texts (tree_texts a)

abbrev pub tree_code : List Declaration → Laid → Tree → List Insn
tree_code scope l a = whole_code (expanded a) (texts_with l a) (routines_of scope l.routines) l.place

abbrev pub with_tree : List Declaration → Laid → Tree → Laid
with_tree scope l a = record l { place = l.place + size (tree_code scope l a); texts = texts_with l a }

-- ---- variables: each routine follows a jump over it

abbrev pub variable_code : List Declaration → Laid → VariableTree → List Insn
variable_code scope l v = routine_code (expanded v.expression) (texts_with l v.expression) (routines_of scope l.routines)
    (length l.routines) (l.place + 1)

abbrev pub with_routine : List Declaration → Laid → VariableTree → Laid
with_routine scope l v = record {
  place = l.place + 1 + size (variable_code scope l v);
  texts = texts_with l v.expression;
  routines = l.routines ++ (l.place + 1) ∷ [];
}

abbrev pub variable_codes : List Declaration → Laid → List VariableTree → List (List Insn)
variable_codes scope l [] = []
variable_codes scope l (v ∷ more) = variable_code scope l v ∷ variable_codes (with_variable scope v) (with_routine scope l v) more

abbrev pub after_variables : List Declaration → Laid → List VariableTree → Laid
after_variables scope l [] = l
after_variables scope l (v ∷ more) = after_variables (with_variable scope v) (with_routine scope l v) more

-- ---- conditions, which may use no variable

abbrev pub after_condition : Laid → Tree → Laid
after_condition l a = with_slots condition_slots (with_tree [] l a)

abbrev pub condition_codes : Laid → List Tree → List (List Insn)
condition_codes l [] = []
condition_codes l (a ∷ more) = tree_code [] l a ∷ condition_codes (after_condition l a) more

abbrev pub after_conditions : Laid → List Tree → Laid
after_conditions l [] = l
after_conditions l (a ∷ more) = after_conditions (after_condition l a) more

-- ---- validations, each with its message

abbrev pub before_message : List Declaration → Laid → ValidationTree → Laid
before_message scope l r = with_slots result_slots (with_tree scope l r.expression)

abbrev pub message_codes : List Declaration → Laid → Option Tree → Option (List Insn)
message_codes scope l (Some a) = Some (tree_code scope l a)
message_codes scope l None = None

abbrev pub with_message : List Declaration → Laid → Option Tree → Laid
with_message scope l (Some a) = with_slots message_slots (with_tree scope l a)
with_message scope l None = l

abbrev pub validation_codes : List Declaration → Laid → List ValidationTree → List ValidationCode
validation_codes scope l [] = []
validation_codes scope l (r ∷ more) =
    (tree_code scope l r.expression, message_codes scope (before_message scope l r) r.message) ∷ validation_codes scope
    (with_message scope (before_message scope l r) r.message) more

-- ---- the whole

-- after the routines, and after the conditions with their test
abbrev pub laid_routines : PolicyTree → Laid
laid_routines p = after_variables [] nothing_laid p.variables

abbrev pub laid_conditions : PolicyTree → Laid
laid_conditions p = with_slots (decided_slots p.conditions) (after_conditions (laid_routines p) p.conditions)

-- the whole program with its exit
unfoldable pub program_of : FailurePolicy → PolicyTree → List Insn
program_of f p =
    policy_code f (variable_codes [] nothing_laid p.variables) (condition_codes (laid_routines p) p.conditions)
    (validation_codes (scope_after p.variables) (laid_conditions p) p.validations)
    ++ Exit ∷ []
