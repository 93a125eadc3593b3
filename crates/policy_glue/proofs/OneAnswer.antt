-- Compilation has one result and one image.
use Rattle.policy_glue.proofs.Prelude.{◌≡◌, ℕ, List, [], Result, Ok, Err, refl, sym, ap, ◌∙◌, subst, true≢false, ◌∷◌, ◌++◌, length, arith, Token, ReadError, IsUnreadable, words_only, Tree, one_refusal, whole_unique, one_list, only_of, Declaration, allowed, CelType, ConditionsEnd, TakenOrRefused, IsNoValidation, IsNoneOf, IsOneOf, HasOtherType, IsExpressionRefused, IsValidation, IsTaken, IsVariable, PartsEnd, ReadsTree, RefusesCondition, RefusesValidation, RefusesVariable, TakesCondition, TakesValidation, TakesVariable, ValidationsEnd, VariablesEnd, expression, expression_judged, judged, of_another_type, refused, scope_after, texts, truths, unread, variable_judged, CompileError, InvalidExpression, NotABool, MessageNotAString, ExpressionError, Unread, PartKind, HasOneImage, Compiles, excess, NamedExpression, Validation, Policy, PolicyTree, ValidationTree, VariableTree, Condition, Message, CodeValidation, open_limit}
use Rattle.cel_reader.specs.Answers.{IsExpression}
use Rattle.cel_reader.proofs.Unreadable.{refused_result}
use Rattle.policy_glue.specs.Checking as checking
use Rattle.policy_glue.specs.Limits as limits

-- equal results of one kind hold equal values, and results of two kinds differ
pub ok_same : {A E : Type 0} (x y : A) → ◌≡◌ {A = Result A E} (Ok x) (Ok y) → x ≡ y
ok_same x y is = cc

pub err_same : {A E : Type 0} (x y : E) → ◌≡◌ {A = Result A E} (Err x) (Err y) → x ≡ y
err_same x y is = cc

pub ok_is_no_err : {A E : Type 0} (x : A) (e : E) → ◌≡◌ {A = Result A E} (Ok x) (Err e) → ⊥
ok_is_no_err x e is = cc

-- ---- expressions

pub reads_once : (text : List ℕ) (a b : Tree) → ReadsTree text a → ReadsTree text b → a ≡ b
reads_once text a b r s =
    whole_unique open_limit open_limit (words_only s.0) a b (subst (λ (ls : List Token). IsExpression open_limit (words_only ls) a) (one_list text r.0 s.0 r.1 s.1) r.2) s.2

-- a text that is an expression is not refused as unreadable
not_unread : (text : List ℕ) (a : Tree) (e : ReadError) → ReadsTree text a → IsUnreadable text e → ⊥
not_unread text a e r why =
    let is = refused_result text e why in
    is.some (ap Err (only_of text (Err e) is.answers r.0 a r.1 r.2))

-- ---- judged texts

module _ (judge : Tree → Result CelType ExpressionError) (text : List ℕ) where
  type_once : (a b : Tree) (t u : CelType) → IsTaken judge text a t → IsTaken judge text b u → t ≡ u
  type_once a b t u taken other = ok_same t u (sym taken.judged ∙ ap judge (reads_once text a b taken.reads other.reads) ∙ other.judged)

  -- an accepted text is not refused
  pub not_refused : (a : Tree) (t : CelType) (e : ExpressionError) → IsTaken judge text a t → IsExpressionRefused judge text e → ⊥
  not_refused a t e taken (unread x is) = not_unread text a x taken.reads is
  not_refused a t e taken (judged b x reads is) = ok_is_no_err t x (sym taken.judged ∙ ap judge (reads_once text a b taken.reads reads) ∙ is)

  pub refused_once : (e f : ExpressionError) → IsExpressionRefused judge text e → IsExpressionRefused judge text f → e ≡ f
  refused_once e f (unread x is) (unread y also) = ap Unread (one_refusal text x y (refused_result text x is) (refused_result text y also))
  refused_once e f (unread x is) (judged b y reads also) = absurd (not_unread text b x reads is)
  refused_once e f (judged a x reads is) (unread y also) = absurd (not_unread text a y reads also)
  refused_once e f (judged a x reads is) (judged b y more also) = err_same x y (sym is ∙ ap judge (reads_once text a b reads more) ∙ also)

-- ---- texts of a type

module _ (types : List CelType) (scope : List Declaration) (text : List ℕ) where
  pub one_of_once : (a b : Tree) → IsOneOf types scope text a → IsOneOf types scope text b → a ≡ b
  one_of_once a b one other = reads_once text a b one.taken.reads other.taken.reads

  pub not_other : (a : Tree) → IsOneOf types scope text a → HasOtherType types scope text → ⊥
  not_other a one other = true≢false (sym one.kind ∙ ap (allowed types) (type_once (expression_judged scope) text a other.tree one.cel_type other.cel_type one.taken other.taken) ∙ other.kind)

  module _ (other : CompileError) (part : PartKind) (place : ℕ) where
    pub not_none : (a : Tree) (e : CompileError) → IsOneOf types scope text a → IsNoneOf types other part place scope text e → ⊥
    not_none a e one (refused x because) = not_refused (expression_judged scope) text a one.cel_type x one.taken because
    not_none a e one (of_another_type b t taken kind) = not_other a one (record { tree = b; cel_type = t; taken = taken; kind = kind })

    pub none_once : (e f : CompileError) → IsNoneOf types other part place scope text e → IsNoneOf types other part place scope text f → e ≡ f
    none_once e f (refused x because) (refused y also) = ap (InvalidExpression part place) (refused_once (expression_judged scope) text x y because also)
    none_once e f (refused x because) (of_another_type b t taken kind) = absurd (not_refused (expression_judged scope) text b t x taken because)
    none_once e f (of_another_type b t taken kind) (refused y because) = absurd (not_refused (expression_judged scope) text b t y taken because)
    none_once e f (of_another_type b t taken kind) (of_another_type c u other_taken other_kind) = refl

-- ---- results

refusal_is : {A B : Type 0} (e f : CompileError) → ◌≡◌ {A = Result A CompileError} (Err e) (Err f) → ◌≡◌ {A = Result B CompileError} (Err e) (Err f)
refusal_is e f is = let same : e ≡ f = cc in ap Err same

-- ---- lists of parts

module _ {A B : Type 0} (Takes : List B → A → B → Type 0) (Refuses : List B → A → CompileError → Type 0)
    (takes_once : (taken : List B) (part : A) (x y : B) → Takes taken part x → Takes taken part y → x ≡ y)
    (takes_or_refuses : (taken : List B) (part : A) (x : B) (e : CompileError) → Takes taken part x → Refuses taken part e → ⊥)
    (refuses_once : (taken : List B) (part : A) (e f : CompileError) → Refuses taken part e → Refuses taken part f → e ≡ f) where
  ends_once : (taken : List B) (parts : List A) (r s : Result (List B) CompileError) → TakenOrRefused Takes Refuses taken parts r → TakenOrRefused Takes Refuses taken parts s
      → r ≡ s
  ends_once taken [] r s checking.over checking.over = refl
  ends_once taken (part ∷ more) r s (checking.refused e because) (checking.refused f also) = ap Err (refuses_once taken part e f because also)
  ends_once taken (part ∷ more) r s (checking.refused e because) (checking.next y takes ends) = absurd (takes_or_refuses taken part y e takes because)
  ends_once taken (part ∷ more) r s (checking.next x takes ends) (checking.refused f because) = absurd (takes_or_refuses taken part x f takes because)
  ends_once taken (part ∷ more) r s (checking.next x takes ends) (checking.next y also rest) =
      let same = takes_once taken part x y takes also in
      ends_once (taken ++ y ∷ []) more r s (subst (λ (z : B). TakenOrRefused Takes Refuses (taken ++ z ∷ []) more r) same ends) rest

-- ---- variables

variable_once : (scope : List Declaration) (n : NamedExpression) (x y : VariableTree) → IsVariable scope n x → IsVariable scope n y → x ≡ y
variable_once scope n x y is also =
    let name : x.name ≡ y.name = is.name ∙ sym also.name in
    let tree : x.expression ≡ y.expression = reads_once n.expression x.expression y.expression is.tree.reads also.tree.reads in
    λ i. record { name = name i; expression = tree i }

variables_once : (ns : List NamedExpression) (r s : Result (List VariableTree) CompileError) → VariablesEnd ns r → VariablesEnd ns s → r ≡ s
variables_once ns r s ends also =
    ends_once TakesVariable RefusesVariable
    (λ taken n x y. variable_once (scope_after taken) n x y)
    (λ taken n x e is refused. not_refused (variable_judged (scope_after taken)) n.expression x.expression is.cel_type refused.cause is.tree refused.because)
    (λ taken n e f. grind (arith, refused_once))
    [] ns r s ends also

-- ---- conditions

conditions_once : (ns : List NamedExpression) (r s : Result (List Tree) CompileError) → ConditionsEnd ns r → ConditionsEnd ns s → r ≡ s
conditions_once ns r s ends also =
    ends_once TakesCondition RefusesCondition
    (λ taken n x y. one_of_once truths [] n.expression x y)
    (λ taken n x e. not_none truths [] n.expression NotABool Condition (length taken) x e)
    (λ taken n e f. none_once truths [] n.expression NotABool Condition (length taken) e f)
    [] ns r s ends also

-- ---- validations

module _ (scope : List Declaration) where
  rule_once : (n : Validation) (x y : ValidationTree) → IsValidation scope n x → IsValidation scope n y → x ≡ y
  rule_once n x y is also =
      let tree : x.expression ≡ y.expression = one_of_once truths scope n.expression x.expression y.expression is.expression also.expression in
      let message : x.message ≡ y.message = grind (arith, one_of_once) in
      λ i. record { expression = tree i; message = message i }

  rule_or_none : (place : ℕ) (n : Validation) (x : ValidationTree) (e : CompileError) → IsValidation scope n x → IsNoValidation scope place n e → ⊥
  rule_or_none place n x e is (checking.expression f none) = not_none truths scope n.expression NotABool CodeValidation place x.expression f is.expression none
  rule_or_none place n x e is (checking.message a text f one source none) = grind (arith, not_none)

  no_rule_once : (place : ℕ) (n : Validation) (e f : CompileError) → IsNoValidation scope place n e → IsNoValidation scope place n f → e ≡ f
  no_rule_once place n e f (checking.expression x none) (checking.expression y other) = none_once truths scope n.expression NotABool CodeValidation place x y none other
  no_rule_once place n e f (checking.expression x none) (checking.message b text y one is other) =
      absurd (not_none truths scope n.expression NotABool CodeValidation place b x one none)
  no_rule_once place n e f (checking.message a text x one is none) (checking.expression y other) =
      absurd (not_none truths scope n.expression NotABool CodeValidation place a y one other)
  no_rule_once place n e f (checking.message a text x one is none) (checking.message b source y two also other) =
      none_once texts scope source MessageNotAString Message place x y (subst (λ (t : List ℕ). IsNoneOf texts MessageNotAString Message place scope t x) (cc) none) other

  validations_once : (ns : List Validation) (r s : Result (List ValidationTree) CompileError) → ValidationsEnd scope ns r → ValidationsEnd scope ns s → r ≡ s
  validations_once ns r s ends also =
      ends_once (TakesValidation scope) (RefusesValidation scope)
      (λ taken n x y. rule_once n x y)
      (λ taken n x e. rule_or_none (length taken) n x e)
      (λ taken n e f. no_rule_once (length taken) n e f)
      [] ns r s ends also

-- ---- the policy

module _ (p : Policy) where
  rules_once : (vs ws : List VariableTree) (r s : Result (List ValidationTree) CompileError) → VariablesEnd p.variables (Ok vs) → VariablesEnd p.variables (Ok ws)
      → ValidationsEnd (scope_after vs) p.validations r → ValidationsEnd (scope_after ws) p.validations s → r ≡ s
  rules_once vs ws r s v w ends also = validations_once (scope_after ws) p.validations r s (grind (arith, ok_same, variables_once)) also

  no_variables : (vs : List VariableTree) (e : CompileError) → VariablesEnd p.variables (Ok vs) → VariablesEnd p.variables (Err e) → ⊥
  no_variables vs e v w = ok_is_no_err vs e (variables_once p.variables (Ok vs) (Err e) v w)

  no_conditions : (cs : List Tree) (e : CompileError) → ConditionsEnd p.conditions (Ok cs) → ConditionsEnd p.conditions (Err e) → ⊥
  no_conditions cs e c d = ok_is_no_err cs e (conditions_once p.conditions (Ok cs) (Err e) c d)

  parts_once : (r s : Result PolicyTree CompileError) → PartsEnd p r → PartsEnd p s → r ≡ s
  parts_once r s h2 h3 = grind (arith, refusal_is, variables_once, no_variables, conditions_once, no_conditions, rules_once, ok_is_no_err, ok_same)

  trees_once : (t u : PolicyTree) → PartsEnd p (Ok t) → PartsEnd p (Ok u) → t ≡ u
  trees_once t u parts also = ok_same t u (parts_once (Ok t) (Ok u) parts also)

  not_taken : (t : PolicyTree) (e : CompileError) → PartsEnd p (Ok t) → PartsEnd p (Err e) → ⊥
  not_taken t e parts also = ok_is_no_err t e (parts_once (Ok t) (Err e) parts also)

  pub compiled_once : (r s : Result PolicyTree CompileError) → Compiles p r → Compiles p s → r ≡ s
  compiled_once r s (limits.refused e parts) (limits.refused f also) = parts_once (Err e) (Err f) parts also
  compiled_once r s (limits.refused e parts) (limits.too_large u f also above) = absurd (not_taken u e also parts)
  compiled_once r s (limits.refused e parts) (limits.compiled u also fits) = absurd (not_taken u e also parts)
  compiled_once r s (limits.too_large t e parts above) (limits.refused f also) = absurd (not_taken t f parts also)
  compiled_once r s (limits.too_large t e parts above) (limits.too_large u f also beyond) = grind (arith, trees_once)
  compiled_once r s (limits.too_large t e parts above) (limits.compiled u also fits) = let same = ap excess (trees_once t u parts also) in absurd (cc)
  compiled_once r s (limits.compiled t parts fits) (limits.refused f also) = absurd (not_taken t f parts also)
  compiled_once r s (limits.compiled t parts fits) (limits.too_large u f also above) = let same = ap excess (trees_once t u parts also) in absurd (cc)
  compiled_once r s (limits.compiled t parts fits) (limits.compiled u also more) = parts_once (Ok t) (Ok u) parts also

pub one_image : HasOneImage
one_image p a b is also = grind (arith, ok_same, compiled_once)
