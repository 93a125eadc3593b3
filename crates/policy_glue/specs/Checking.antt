-- Which expressions a policy may have, and which one is refused first. Variables, conditions and validations are
-- checked in this order, each list in its own order. A message expression comes directly after its validation. Each
-- expression is checked completely before the next.
use Rattle.std.specs.Prelude.{◌≡◌, ℕ, true, false, List, [], ◌∷◌, ◌++◌, length, nat_lt, Option, Some, None, Result, Ok, Err, if◌then◌else◌}
use Rattle.std.specs.Option.{option_map_or}
use Rattle.cel_reader.specs.Limits.{open_limit}
use Rattle.cel_tokens.specs.Token.{Token}
use Rattle.cel_tokens.specs.Lexis.{Lexes}
use Rattle.cel_tokens.specs.declared.read_error.ReadError.{ReadError}
use Rattle.cel_reader.specs.Look.{words_only}
use Rattle.cel_reader.specs.Tree.{Tree}
use Rattle.cel_reader.specs.Answers.{IsUnreadable, IsExpression}
use Rattle.cel_macros.specs.CoreTree.{expanded}
use Rattle.cel_macros.specs.MacroFault.{macro_fault, fault_error}
use Rattle.cel_types.specs.Declarations.{Declaration, scope_of}
use Rattle.cel_types.specs.Types as typing
use Rattle.cel_types.specs.Types.{TypeFault, Typing, UnknownName, NoOverload, MisplacedVariables, allowed}
use Rattle.cel_types.specs.Typing.{typing as type_of}
use Rattle.cel_types.specs.declared.cel_type.CelType.{CelType}
use Rattle.cel_types.specs.declared.cel_type.CelType.TheVariants as type
use Rattle.cel_types.specs.declared.type_error.TypeError.{TypeError, TheVariants.UnknownIdentifier, TheVariants.NoMatchingOverload, TheVariants.MisusedVariables}
use Rattle.cel_measures.specs.Measures.{need}
use Rattle.expression_code.specs.Limits.{word_limit, variable_depth_limit}
use Rattle.verdicts.specs.Policy.{NamedExpression, Validation, Policy}
use Rattle.policy_code.specs.Trees.{VariableTree, ValidationTree, PolicyTree}
pub use Rattle.policy_code.specs.Scopes.{depth_in, scope_after, type_or_any, with_variable}
use Rattle.policy_glue.specs.declared.part_kind.PartKind.{PartKind, TheVariants.Variable, TheVariants.Condition, TheVariants.Validation as CodeValidation, TheVariants.Message}
use Rattle.policy_glue.specs.declared.expression_error.ExpressionError.{ExpressionError}
use Rattle.policy_glue.specs.declared.expression_error.ExpressionError.TheVariants.{Unread, Unexpanded, Untyped, NeedsTooManyWords, VariableTooDeep}
use Rattle.policy_glue.specs.declared.compile_error.CompileError.{CompileError, TheVariants.InvalidExpression, TheVariants.NotABool, TheVariants.MessageNotAString}

-- ---- one tree: its macros, its types, its stack words and, for a variable, its depth

-- the error that the type checker reports for this fault
abbrev pub type_error : TypeFault → TypeError
type_error UnknownName = UnknownIdentifier
type_error NoOverload = NoMatchingOverload
type_error MisplacedVariables = MisusedVariables

-- the outcome of type checking: a type, `NeedsTooManyWords` if the tree needs more stack words than a frame has, or an error
abbrev pub with_typing : Typing → ℕ → Result CelType ExpressionError
with_typing (typing.typed t) n = if nat_lt word_limit n then Err NeedsTooManyWords else Ok t
with_typing (typing.refused y) n = Err (Untyped (type_error y))

-- the type of a tree that may use these variables, or why it is refused: for the first misuse of a macro, or by type checking
unfoldable pub expression_judged : List Declaration → Tree → Result CelType ExpressionError
expression_judged scope a =
    option_map_or (λ fault. Err (Unexpanded (fault_error fault))) (macro_fault a)
    (with_typing (type_of a (scope_of scope)) (need (expanded a)))

-- the result for a variable of this depth: `VariableTooDeep` if it is too deep, else the result of its tree
abbrev pub with_depth : ℕ → Result CelType ExpressionError → Result CelType ExpressionError
with_depth d (Ok t) = if nat_lt variable_depth_limit d then Err VariableTooDeep else Ok t
with_depth d (Err e) = Err e

-- the type of a variable's tree, or why the variable is refused
abbrev pub variable_judged : List Declaration → Tree → Result CelType ExpressionError
variable_judged scope a = with_depth (depth_in scope a) (expression_judged scope a)

-- ---- one text

-- the text parses as this tree, with at most 100 brackets and conditionals open at once
abbrev pub ReadsTree : List ℕ → Tree → Type 0
ReadsTree text a = (lexemes : List Token) × Lexes text (Ok lexemes) × IsExpression open_limit (words_only lexemes) a

-- the text parses as this tree, which has this type
pub record IsTaken (judge : Tree → Result CelType ExpressionError) (text : List ℕ) (a : Tree) (t : CelType) : Type 0 where
  pub reads : ReadsTree text a
  pub judged : judge a ≡ Ok t

-- the text is not an expression, or its tree is refused
pub data IsExpressionRefused (judge : Tree → Result CelType ExpressionError) (text : List ℕ) : ExpressionError → Type 0 where
  unread : (e : ReadError) → IsUnreadable text e → IsExpressionRefused judge text (Unread e)
  judged : (a : Tree) (e : ExpressionError) → ReadsTree text a → judge a ≡ Err e → IsExpressionRefused judge text e

-- the type of a condition or validation: Bool, or Dyn if the type is not known statically
abbrev pub truths : List CelType
truths = type.Bool ∷ []

-- the type of a message expression: String, or Dyn if the type is not known statically
abbrev pub texts : List CelType
texts = type.String ∷ []

-- the types that the expression of a part may have; not used for variables
abbrev pub types_of : PartKind → List CelType
types_of Message = texts
types_of _ = truths

-- the error for an expression of another type
abbrev pub other_type : PartKind → CompileError
other_type Message = MessageNotAString
other_type _ = NotABool

-- the text parses as this tree, whose type is one of these
pub record IsOneOf (types : List CelType) (scope : List Declaration) (text : List ℕ) (a : Tree) : Type 0 where
  pub cel_type : CelType
  pub taken : IsTaken (expression_judged scope) text a cel_type
  pub kind : allowed types cel_type ≡ true

-- the expression of the part at this place is refused, or has a type that is not in the list
pub data IsNoneOf (types : List CelType) (other : CompileError) (part : PartKind) (place : ℕ) (scope : List Declaration) (text : List ℕ)
    : CompileError → Type 0 where
  refused : (e : ExpressionError) → IsExpressionRefused (expression_judged scope) text e
      → IsNoneOf types other part place scope text (InvalidExpression part place e)
  of_another_type : (a : Tree) (t : CelType) → IsTaken (expression_judged scope) text a t → allowed types t ≡ false
      → IsNoneOf types other part place scope text other

-- ---- lists of parts

-- from here on: every remaining part is accepted, or the first one that is not is refused. The first list holds the
-- parts accepted so far.
pub data TakenOrRefused {A B : Type 0} (Takes : List B → A → B → Type 0) (Refuses : List B → A → CompileError → Type 0)
    : List B → List A → Result (List B) CompileError → Type 0 where
  over : {taken : List B} → TakenOrRefused Takes Refuses taken [] (Ok taken)
  refused : {taken : List B} {part : A} {more : List A} (e : CompileError) → Refuses taken part e
      → TakenOrRefused Takes Refuses taken (part ∷ more) (Err e)
  next : {taken : List B} {part : A} {more : List A} {end : Result (List B) CompileError} (tree : B) → Takes taken part tree
      → TakenOrRefused Takes Refuses (taken ++ tree ∷ []) more end → TakenOrRefused Takes Refuses taken (part ∷ more) end

-- a variable may use those in scope: the earlier ones
pub record IsVariable (scope : List Declaration) (n : NamedExpression) (v : VariableTree) : Type 0 where
  pub name : v.name ≡ n.name
  pub cel_type : CelType
  pub tree : IsTaken (variable_judged scope) n.expression v.expression cel_type

-- the variable at this place is refused with `InvalidExpression`
pub record IsNoVariable (scope : List Declaration) (place : ℕ) (text : List ℕ) (e : CompileError) : Type 0 where
  pub cause : ExpressionError
  pub because : IsExpressionRefused (variable_judged scope) text cause
  pub is : e ≡ InvalidExpression Variable place cause

-- the trees of all variables, or the first refusal; a variable may use those accepted so far, and its place is their number
abbrev pub VariablesEnd : List NamedExpression → Result (List VariableTree) CompileError → Type 0
VariablesEnd ns end = TakenOrRefused (λ taken n v. IsVariable (scope_after taken) n v)
    (λ taken n e. IsNoVariable (scope_after taken) (length taken) n.expression e) [] ns end

-- the trees of all conditions, or the first refusal, `NotABool` for another type; a condition may use no variable
abbrev pub ConditionsEnd : List NamedExpression → Result (List Tree) CompileError → Type 0
ConditionsEnd ns end = TakenOrRefused (λ taken n a. IsOneOf truths [] n.expression a)
    (λ taken n e. IsNoneOf truths NotABool Condition (length taken) [] n.expression e) [] ns end

-- the message expression, if there is one, parses as this tree; it may use all variables
abbrev pub IsMessage : List Declaration → Option (List ℕ) → Option Tree → Type 0
IsMessage scope (Some text) (Some a) = IsOneOf texts scope text a
IsMessage scope None None = Unit {0}
IsMessage scope _ _ = ⊥

-- a validation parses as these trees: one of type Bool, and one of type String if it has a message expression
pub record IsValidation (scope : List Declaration) (n : Validation) (r : ValidationTree) : Type 0 where
  pub expression : IsOneOf truths scope n.expression r.expression
  pub message : IsMessage scope n.message_expression r.message

-- the validation at this place is refused: for its expression, or else for its message expression
-- (`MessageNotAString` if it has another type)
pub data IsNoValidation (scope : List Declaration) (place : ℕ) (n : Validation) : CompileError → Type 0 where
  expression : (e : CompileError) → IsNoneOf truths NotABool CodeValidation place scope n.expression e → IsNoValidation scope place n e
  message : (a : Tree) (text : List ℕ) (e : CompileError) → IsOneOf truths scope n.expression a → n.message_expression ≡ Some text
      → IsNoneOf texts MessageNotAString Message place scope text e → IsNoValidation scope place n e

-- the trees of all validations, or the first refusal; the place of a validation is the number of those accepted so far
abbrev pub ValidationsEnd : List Declaration → List Validation → Result (List ValidationTree) CompileError → Type 0
ValidationsEnd scope ns end = TakenOrRefused (λ taken n r. IsValidation scope n r)
    (λ taken n e. IsNoValidation scope (length taken) n e) [] ns end

-- ---- the policy

-- the expressions of the policy as trees, or the first refusal
pub data PartsEnd (p : Policy) : Result PolicyTree CompileError → Type 0 where
  in_variables : (e : CompileError) → VariablesEnd p.variables (Err e) → PartsEnd p (Err e)
  in_conditions : (vs : List VariableTree) (e : CompileError) → VariablesEnd p.variables (Ok vs)
      → ConditionsEnd p.conditions (Err e) → PartsEnd p (Err e)
  in_validations : (vs : List VariableTree) (cs : List Tree) (e : CompileError) → VariablesEnd p.variables (Ok vs)
      → ConditionsEnd p.conditions (Ok cs) → ValidationsEnd (scope_after vs) p.validations (Err e) → PartsEnd p (Err e)
  taken : (vs : List VariableTree) (cs : List Tree) (rs : List ValidationTree) → VariablesEnd p.variables (Ok vs)
      → ConditionsEnd p.conditions (Ok cs) → ValidationsEnd (scope_after vs) p.validations (Ok rs)
      → PartsEnd p (Ok (record { variables = vs; conditions = cs; validations = rs }))
