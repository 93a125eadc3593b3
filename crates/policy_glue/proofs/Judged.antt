-- The check of a policy, step by step, in lemmas over plain variables.
use Rattle.policy_glue.proofs.Prelude.{◌≡◌, ◌≤◌, ◌<◌, ◌++◌, ◌∷◌, ℕ, List, [], nat_lt, false, Option, Some, None, Result, Ok, Err, IsErr, IfSome, arith, refl, sym, ap, ◌∙◌, ◌+◌, drop, get_or, length, length-append, map, subst, false≢true, nat_tests, All, IsErrAnd, ReadError, UnknownCharacter, InvalidTextLiteral, IntOutOfRange, UnexpectedToken, TooManyOpen, TextTooLong, Tree, ReadReturns, ErrorIsAt, Core, expanded, core_view, MacroFault, ArgumentCount, IterationName, NoSelection, macro_fault, fault_error, CodeCore, MacroError, Declaration, declared, depths_of, scope_of, allowed, typing, CelType, depth, need, saturated, ChecksValidation, ReadsAndExpands, IsAdded, IsExpanded, Judges, JudgesVariable, Sorts, SortsMessage, PartsChecked, Checks, ChecksConditions, ChecksValidations, ChecksVariables, IsFormedVariable, validation_trees, variable_expanded, ReadsTree, IsExpressionRefused, unread, judged, refused, of_another_type, expression, message, depth_in, expression_judged, texts, truths, type_or_any, variable_judged, with_depth, with_typing, TakenOrRefused, over, next, IsVariable, TakesVariable, RefusesVariable, ValidationsEnd, in_conditions, in_validations, in_variables, scope_after, taken, with_variable, from_macros, from_reader, in_part, CompileError, NamedExpression, Validation, Policy, CheckedValidation, NotABool, MessageNotAString, PartKind, Message, CodeValidation, ExpressionError, NeedsTooManyWords, VariableTooDeep, Unread, Unexpanded, Untyped, drop_of_length-le, map-append, All-push, fold-append, Checked, CodeNamedExpression, variable_depth_limit}
use Rattle.cel_tokens.specs.declared.read_error.ReadError.TheVariants as read_error
use Rattle.cel_macros.specs.declared.macro_error.MacroError.TheVariants as macro_error
use Rattle.policy_glue.specs.Checked.{ConditionsChecked, ValidationsChecked, VariablesChecked}
use Rattle.policy_glue.specs.declared.expression_error.ExpressionError.TheVariants as expression_error
use Rattle.policy_glue.specs.declared.part_kind.PartKind.TheVariants.{Variable}
use Rattle.policy_glue.proofs.OneAnswer.{err_same}
use Rattle.policy_code.proofs.Emission.{at_place}
use Rattle.cel_reader.proofs.Unreadable.{result_refused}
use Rattle.std.specs.Option.{option_map_or}

unread_by : (text : List ℕ) (e : ReadError) → ReadReturns text (Err e) → ErrorIsAt text (Err e) → ReadsAndExpands text (Err (from_reader e))
unread_by text (UnknownCharacter place) said at = λ some scope. unread (UnknownCharacter place) (result_refused text (UnknownCharacter place) (record { some = λ no. cc; answers = said; placed = at }))
unread_by text (InvalidTextLiteral place) said at = λ some scope. unread (InvalidTextLiteral place) (result_refused text (InvalidTextLiteral place) (record { some = λ no. cc; answers = said; placed = at }))
unread_by text (IntOutOfRange place) said at = λ some scope. unread (IntOutOfRange place) (result_refused text (IntOutOfRange place) (record { some = λ no. cc; answers = said; placed = at }))
unread_by text (UnexpectedToken place) said at = λ some scope. unread (UnexpectedToken place) (result_refused text (UnexpectedToken place) (record { some = λ no. cc; answers = said; placed = at }))
unread_by text (TooManyOpen place) said at = λ some scope. unread (TooManyOpen place) (result_refused text (TooManyOpen place) (record { some = λ no. cc; answers = said; placed = at }))
unread_by text (TextTooLong place) said at = λ some scope. unread (TextTooLong place) (result_refused text (TextTooLong place) (record { some = λ no. cc; answers = said; placed = at }))
unread_by text read_error.Memory said at = λ some. absurd (some refl)

-- the text is not an expression
pub unread_is : (text : List ℕ) (e : ReadError) (r : Result CodeCore ExpressionError) → ReadReturns text (Err e) → ErrorIsAt text (Err e) → IsErr r
    → IsErrAnd r (λ x. x ≡ from_reader e) → ReadsAndExpands text r
unread_is text e r said at err is = grind (arith, false≢true, unread_by)

-- a macro is not well formed
macros_judged : (scope : List Declaration) (a : Tree) (fault : MacroFault) → macro_fault a ≡ Some fault
    → expression_judged scope a ≡ Err (Unexpanded (fault_error fault))
unfolding expression_judged
macros_judged scope a fault is = ap (λ m. option_map_or (λ fault. Err (Unexpanded (fault_error fault))) m (with_typing (typing a (scope_of scope)) (need (expanded a)))) is

fault_by : (text : List ℕ) (a : Tree) (fault : MacroFault) → ReadsTree text a → macro_fault a ≡ Some fault → ReadsAndExpands text (Err (from_macros (fault_error fault)))
fault_by text a ArgumentCount reads is = λ some scope. judged a _ reads (macros_judged scope a ArgumentCount is)
fault_by text a IterationName reads is = λ some scope. judged a _ reads (macros_judged scope a IterationName is)
fault_by text a NoSelection reads is = λ some scope. judged a _ reads (macros_judged scope a NoSelection is)

memory_by : (text : List ℕ) (e : MacroError) → e ≡ macro_error.Memory → ReadsAndExpands text (Err (from_macros e))
memory_by text e is = λ some. absurd (some (ap from_macros is))

refused_by : (text : List ℕ) (a : Tree) (e : MacroError) (m : Option MacroFault) → ReadsTree text a → macro_fault a ≡ m
    → IfSome m (λ fault. (let r : Result CodeCore MacroError = Err e in r ≡ Err (fault_error fault))) → (m ≡ None → e ≡ macro_error.Memory)
    → ReadsAndExpands text (Err (from_macros e))
refused_by text a e m reads is clause only = grind (arith, err_same, fault_by, memory_by)

pub macros_refused : (text : List ℕ) (a : Tree) (e : MacroError) (r : Result CodeCore ExpressionError) → ReadsTree text a
    → IfSome (macro_fault a) (λ fault. (let r : Result CodeCore MacroError = Err e in r ≡ Err (fault_error fault)))
    → (macro_fault a ≡ None → e ≡ macro_error.Memory)
    → IsErr r → IsErrAnd r (λ x. x ≡ from_macros e) → ReadsAndExpands text r
macros_refused text a e r reads clause only err is = grind (arith, false≢true, refused_by)

-- a tree that has no type, or needs too many words

-- the two together
expression_is : (scope : List Declaration) (a : Tree) (r : Result CelType ExpressionError) → macro_fault a ≡ None
    → r ≡ with_typing (typing a (scope_of scope)) (need (expanded a)) → expression_judged scope a ≡ r
unfolding expression_judged
expression_is scope a r plain is = ap (λ m. option_map_or (λ fault. Err (Unexpanded (fault_error fault))) m (with_typing (typing a (scope_of scope)) (need (expanded a)))) plain ∙ sym is

pub judged_is : (scope : List Declaration) (text : List ℕ) (core : CodeCore) (t : CelType) → ReadsAndExpands text (Ok core)
    → ((a : Tree) → IsExpanded core a → Ok t ≡ with_typing (typing a (scope_of scope)) (need (expanded a)))
    → Judges (expression_judged scope) text (Ok (core, t))
judged_is scope text core t expands types = grind (arith, expression_is)

pub mistyped_is : (scope : List Declaration) (text : List ℕ) (core : CodeCore) (e : ExpressionError) → ReadsAndExpands text (Ok core)
    → ((a : Tree) → IsExpanded core a → Err e ≡ with_typing (typing a (scope_of scope)) (need (expanded a))) → Judges (expression_judged scope) text (Err e)
mistyped_is scope text core e expands types = λ some. judged expands.0 e expands.2 (expression_is scope expands.0 (Err e) expands.3 (types expands.0 expands.1))

-- ---- a variable's expression

refused_too : (scope : List Declaration) (text : List ℕ) (e : ExpressionError) → IsExpressionRefused (expression_judged scope) text e
    → IsExpressionRefused (variable_judged scope) text e
refused_too scope text e (unread why is) = unread why is
refused_too scope text e (judged a why reads is) = judged a why reads (ap (with_depth (depth_in scope a)) is)

variable_by : (place : ℕ) (scope : List Declaration) (text : List ℕ) (e : ExpressionError) (x : CompileError)
    → Judges (variable_judged scope) text (Err e) → x ≡ in_part Variable place e → JudgesVariable scope place text (Err x)
variable_by place scope text e x judges is = grind arith

pub variable_refused : (place : ℕ) (scope : List Declaration) (text : List ℕ) (e : ExpressionError) (x : CompileError)
    → Judges (expression_judged scope) text (Err e) → x ≡ in_part Variable place e → JudgesVariable scope place text (Err x)
variable_refused place scope text e x judges is = variable_by place scope text e x (λ some. refused_too scope text e (judges some)) is

depth_by : (scope : List Declaration) (core : CodeCore) (a : Tree) (m : ℕ) → core_view core ≡ expanded a → m ≡ saturated (depth (core_view core) (depths_of scope))
    → m ≡ saturated (depth_in scope a)
depth_by scope core a m expands is = is ∙ ap (λ t. saturated (depth t (depths_of scope))) expands

pub deep_is : (place : ℕ) (scope : List Declaration) (text : List ℕ) (core : CodeCore) (t : CelType) (m : ℕ) (x : CompileError)
    → Judges (expression_judged scope) text (Ok (core, t)) → m ≡ saturated (depth (core_view core) (depths_of scope)) → variable_depth_limit < m
    → x ≡ in_part Variable place VariableTooDeep → JudgesVariable scope place text (Err x)
deep_is place scope text core t m x judges depth_is above is =
    variable_by place scope text VariableTooDeep x (λ some. judged judges.0 VariableTooDeep judges.2.reads (grind (arith, nat_tests))) is

pub shallow_is : (place : ℕ) (scope : List Declaration) (text : List ℕ) (core : CodeCore) (t : CelType) (m : ℕ)
    → Judges (expression_judged scope) text (Ok (core, t)) → m ≡ saturated (depth (core_view core) (depths_of scope)) → m ≤ variable_depth_limit
    → JudgesVariable scope place text (Ok (core, t, m))
shallow_is place scope text core t m judges is low =
    let known : m ≡ depth_in scope judges.0 = let same = depth_by scope core judges.0 m judges.1.0 is in omega arith in
    (judges.0, judges.1, record { reads = judges.2.reads; judged = grind (arith, nat_tests) }, known)

-- ---- the kind of a type

pub other_is : (types : List CelType) (other : CompileError) (part : PartKind) (place : ℕ) (scope : List Declaration) (text : List ℕ) (core : CodeCore) (t : CelType)
    → Judges (expression_judged scope) text (Ok (core, t)) → allowed types t ≡ false → Sorts types other part place scope text (Err other)
other_is types other part place scope text core t judges kind =
    λ some. of_another_type judges.0 t judges.2 kind

part_by : (types : List CelType) (other : CompileError) (part : PartKind) (place : ℕ) (scope : List Declaration) (text : List ℕ) (e : ExpressionError)
    → Judges (expression_judged scope) text (Err e) → Sorts types other part place scope text (Err (in_part part place e))
part_by types other part place scope text (Unread e) judges = λ some. refused (Unread e) (judges (λ no. cc))
part_by types other part place scope text (Unexpanded e) judges = λ some. refused (Unexpanded e) (judges (λ no. cc))
part_by types other part place scope text (Untyped e) judges = λ some. refused (Untyped e) (judges (λ no. cc))
part_by types other part place scope text NeedsTooManyWords judges = λ some. refused NeedsTooManyWords (judges (λ no. cc))
part_by types other part place scope text VariableTooDeep judges = λ some. refused VariableTooDeep (judges (λ no. cc))
part_by types other part place scope text expression_error.Memory judges = λ some. absurd (some refl)

pub part_refused : (types : List CelType) (other : CompileError) (part : PartKind) (place : ℕ) (scope : List Declaration) (text : List ℕ) (e : ExpressionError) (x : CompileError)
    → Judges (expression_judged scope) text (Err e) → x ≡ in_part part place e → Sorts types other part place scope text (Err x)
part_refused types other part place scope text e x judges is = grind (arith, part_by)

-- ---- a variable in scope

-- a variable that is not too deep keeps the type that it was given
pub shallow_known : (d : ℕ) (r : Result CelType ExpressionError) (u : CelType) → with_depth d r ≡ Ok u → (nat_lt variable_depth_limit d ≡ false) × (r ≡ Ok u)
shallow_known d r u is = grind arith

type_in_scope : (scope : List Declaration) (a : Tree) (t : CelType) → expression_judged scope a ≡ Ok t → type_or_any (typing a (scope_of scope)) ≡ t
unfolding expression_judged
type_in_scope scope a t is = grind arith

pub added_is : (n : NamedExpression) (place : ℕ) (old new : List Declaration) (core : CodeCore) (t : CelType) (d : ℕ) (before after : List Core)
    → JudgesVariable old place n.expression (Ok (core, t, d)) → new ≡ old ++ declared n.name t d ∷ []
    → after ≡ before ++ core_view core ∷ [] → IsAdded n old new before after
added_is n place old new core t d before after judges scope_is trees_are =
    let a = judges.0 in
    let known = shallow_known (depth_in old a) (expression_judged old a) t judges.2.judged in
    let kind : type_or_any (typing a (scope_of old)) ≡ t = type_in_scope old a t known.1 in
    record {
      variable = record { name = n.name; expression = a };
      taken = record { name = refl; cel_type = t; tree = judges.2 };
      scope = scope_is ∙ ap (λ k. old ++ declared n.name t k ∷ []) judges.3 ∙ ap (λ u. old ++ declared n.name u (depth_in old a) ∷ []) (sym kind);
      trees = trees_are ∙ ap (λ c. before ++ c ∷ []) judges.1.0;
      formed = judges.1.1;
    }

-- ---- an error that is returned unchanged

pub passed_on : {X : Type 0} (Target : Result X CompileError → Type 0) (e : CompileError) (r : Result X CompileError) → Target (Err e) → IsErr r
    → IsErrAnd r (λ x. x ≡ e) → Target r
passed_on Target e r here err is = grind (arith, false≢true)

-- ---- a validation

pub message_is : (scope : List Declaration) (place : ℕ) (source : List ℕ) (core : CodeCore) → Sorts texts MessageNotAString Message place scope source (Ok core)
    → SortsMessage scope place (Some source) (Ok (Some core))
message_is scope place source core sorts = (Some sorts.0, ap Some sorts.1.0, sorts.2, sorts.1.1)

pub rule_unexpressed : (scope : List Declaration) (place : ℕ) (n : Validation) (e : CompileError) → Sorts truths NotABool CodeValidation place scope n.expression (Err e)
    → ChecksValidation scope place n (Err e)
rule_unexpressed scope place n e sorts = λ some. expression e (sorts some)

pub rule_unsaid : (scope : List Declaration) (place : ℕ) (n : Validation) (core : CodeCore) (e : CompileError)
    → Sorts truths NotABool CodeValidation place scope n.expression (Ok core) → SortsMessage scope place n.message_expression (Err e) → ChecksValidation scope place n (Err e)
rule_unsaid scope place n core e sorts says = λ some. let none = says some in message sorts.0 none.source e sorts.2 none.is none.because

pair_is : {A B : Type 0} {a b : A} {c d : B} → a ≡ b → c ≡ d → (let p : A × B = (a, c) in p) ≡ (b, d)
pair_is {b = b} {c = c} first second = ap (λ x. (x, c)) first ∙ ap (λ y. (b, y)) second

pub rule_is : (scope : List Declaration) (place : ℕ) (n : Validation) (v : CheckedValidation) → Sorts truths NotABool CodeValidation place scope n.expression (Ok v.expression)
    → SortsMessage scope place n.message_expression (Ok v.message) → ChecksValidation scope place n (Ok v)
rule_is scope place n v sorts says =
    (record { expression = sorts.0; message = says.0 }, pair_is sorts.1.0 says.1, record { expression = sorts.2; message = says.2 }, (sorts.1.1, says.3))

-- the invariant of a check: the parts before this place are accepted, and the result for the rest, given them, is the
-- result for all parts
pub record Walked {A B C : Type 0} (Takes : List B → A → B → Type 0) (Refuses : List B → A → CompileError → Type 0) (seen : B → C)
    (IsFormed : B → Type 0) (all rest : List A) (place : ℕ) (trees : List C) : Type 0 where
  pub taken : List B
  pub count : length taken ≡ place
  pub trees_are : trees ≡ map seen taken
  pub formed : All IsFormed taken
  pub goes : (end : Result (List B) CompileError) → TakenOrRefused Takes Refuses taken rest end → TakenOrRefused Takes Refuses [] all end

-- the place of the loop in a list of the code
module _ {A B C X : Type 0} {Takes : List B → A → B → Type 0} {Refuses : List B → A → CompileError → Type 0} {seen : B → C}
    {IsFormed : B → Type 0} {all : List A} {place : ℕ} {trees : List C} (view : X → A) (xs : List X) where
  -- one step of the loop over a list of the code
  module _ {x : X} (below : place < length xs) (is : x ≡ get_or xs place x)
      (go : Walked Takes Refuses seen IsFormed all (map view (drop place xs)) place trees) where
    here : map view (drop place xs) ≡ view x ∷ map view (drop (place + 1) xs)
    here = at_place view xs place x below is

    pub walk_steps : (after : List C) (b : B) → Takes go.taken (view x) b → IsFormed b → after ≡ trees ++ seen b ∷ []
        → Walked Takes Refuses seen IsFormed all (map view (drop (place + 1) xs)) (place + 1) after
    walk_steps after b takes formed more = record {
      taken = go.taken ++ b ∷ [];
      count = length-append go.taken (b ∷ []) ∙ ap (λ k. k + 1) go.count;
      trees_are = more ∙ ap (λ ts. ts ++ seen b ∷ []) go.trees_are ∙ sym (map-append seen go.taken (b ∷ []));
      formed = All-push IsFormed go.taken b go.formed formed;
      goes = λ end h. go.goes end (subst (λ ns. TakenOrRefused Takes Refuses go.taken ns end) (sym here) (next b takes h));
    }

    pub walk_fails : (e : CompileError) → Refuses go.taken (view x) e → TakenOrRefused Takes Refuses [] all (Err e)
    walk_fails e refuses = go.goes (Err e) (subst (λ ns. TakenOrRefused Takes Refuses go.taken ns (Err e)) (sym here) (refused e refuses))

  pub walk_ends : length xs ≤ place → Walked Takes Refuses seen IsFormed all (map view (drop place xs)) place trees
      → PartsChecked Takes Refuses seen IsFormed all trees
  walk_ends past go = record {
    taken = go.taken;
    end = go.goes (Ok go.taken) (subst (λ ns. TakenOrRefused Takes Refuses go.taken ns (Ok go.taken)) (sym (ap (map view) (drop_of_length-le xs past))) over);
    trees_are = go.trees_are;
    formed = go.formed;
  }

-- ---- variables, and their scope

pub record VariablesGo (all rest : List NamedExpression) (place : ℕ) (scope : List Declaration) (trees : List Core) : Type 0 where
  pub walked : Walked TakesVariable RefusesVariable variable_expanded IsFormedVariable all rest place trees
  pub scope_is : scope ≡ scope_after walked.taken

pub variables_begin : (all : List NamedExpression) (scope : List Declaration) (trees : List Core) → scope ≡ [] → trees ≡ [] → VariablesGo all all 0 scope trees
variables_begin all scope trees none empty = record {
  walked = record { taken = []; count = refl; trees_are = empty; formed = λ k d below. absurd (omega arith); goes = λ end h. h };
  scope_is = none;
}

module _ (view : CodeNamedExpression → NamedExpression) (xs : List CodeNamedExpression) {x : CodeNamedExpression} {all : List NamedExpression} {place : ℕ} {old new : List Declaration} {before after : List Core} where
  pub variables_step : place < length xs → x ≡ get_or xs place x
      → VariablesGo all (map view (drop place xs)) place old before → IsAdded (view x) old new before after
      → VariablesGo all (map view (drop (place + 1) xs)) (place + 1) new after
  unfolding walk_steps
  variables_step below is go added =
      let v = added.variable in
      record {
        walked = walk_steps view xs below is go.walked after v (subst (λ s. IsVariable s (view x) v) go.scope_is added.taken) added.formed added.trees;
        scope_is = added.scope ∙ ap (λ s. with_variable s v) go.scope_is ∙ sym (fold-append with_variable [] go.walked.taken (v ∷ []));
      }

pub variables_end : (view : CodeNamedExpression → NamedExpression) (xs : List CodeNamedExpression) {all : List NamedExpression} {place : ℕ} {scope : List Declaration}
    {trees : List Core} → length xs ≤ place → VariablesGo all (map view (drop place xs)) place scope trees → VariablesChecked all scope trees
unfolding walk_ends
variables_end view xs past go = record { are = walk_ends view xs past go.walked; scope_is = go.scope_is }

-- one more element at the end, as the code's values are seen
pub pushed : {A B : Type 0} (f : A → B) (old new : List A) (x : A) → new ≡ old ++ x ∷ [] → map f new ≡ map f old ++ f x ∷ []
pushed f old new x is = ap (map f) is ∙ map-append f old (x ∷ [])

-- ---- the lists together

pub refused_variables : (p : Policy) (e : CompileError) → ChecksVariables p.variables (Err e) → Checks p (Err e)
refused_variables p e checks = λ some. in_variables e (checks some)

pub refused_conditions : (p : Policy) (scope : List Declaration) (trees : List Core) (e : CompileError) → VariablesChecked p.variables scope trees
    → ChecksConditions p.conditions (Err e) → Checks p (Err e)
refused_conditions p scope trees e variables checks = λ some. in_conditions variables.are.taken e variables.are.end (checks some)

pub refused_validations : (p : Policy) (scope : List Declaration) (trees others : List Core) (e : CompileError)
    → VariablesChecked p.variables scope trees → ConditionsChecked p.conditions others → ChecksValidations scope p.validations (Err e) → Checks p (Err e)
refused_validations p scope trees others e variables conditions checks = λ some.
    in_validations variables.are.taken conditions.taken e variables.are.end conditions.end (subst (λ s. ValidationsEnd s p.validations (Err e)) variables.scope_is (checks some))

pub all_taken : (p : Policy) (c : Checked) → VariablesChecked p.variables c.scope (map core_view c.variables.items) → ConditionsChecked p.conditions (map core_view c.conditions.items) → ValidationsChecked c.scope p.validations (map validation_trees c.validations.items) → Checks p (Ok c)
all_taken p c variables conditions rules = (
  record { variables = variables.are.taken; conditions = conditions.taken; validations = rules.taken },
  record { scope = variables.scope_is; variables = variables.are.trees_are; conditions = conditions.trees_are; validations = rules.trees_are; formed = record { variables = variables.are.formed; conditions = conditions.formed; validations = rules.formed } },
  taken variables.are.taken conditions.taken rules.taken variables.are.end conditions.end (subst (λ s. ValidationsEnd s p.validations (Ok rules.taken)) variables.scope_is rules.end),
)
