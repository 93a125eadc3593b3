-- The trees of a policy whose expressions are taken.
use Rattle.std.proofs.Common.{◌≡◌, ℕ, Bool, List, [], ◌∷◌, ◌++◌, length, map, Option, Some, None, option_map, Result, Ok, refl, sym, ap, subst, ◌∙◌}
use Rattle.std.proofs.lemmas.List.{map-append}
use Rattle.cel_reader.specs.Tree.{Tree}
use Rattle.cel_types.specs.Declarations.{Declaration}
use Rattle.cel_writer.specs.Printed.{printed}
use Rattle.wide_reader.specs.Answers.{IsWide}
use Rattle.wide_reader.specs.Laws.{HasOneWide}
use Rattle.wide_reader.specs.Tree.{Wide}
use Rattle.wide_kinds.specs.declared.kind.Kind.{Kind}
use Rattle.wide_translation.specs.Placed.{WideStep, AreTranslated, kind_of}
use Rattle.policy_glue.specs.Checking as checking
use Rattle.policy_glue.specs.Checking.{ReadsTree, PartsEnd}
use Rattle.policy_glue.specs.Limits as limits
use Rattle.policy_glue.specs.Limits.{Compiles}
use Rattle.policy_glue.specs.Policy.{NamedExpression, Validation, Policy}
use Rattle.policy_glue.specs.Trees.{VariableTree, ValidationTree, PolicyTree}
use Rattle.policy_glue.specs.declared.compile_error.CompileError.{CompileError}
use Rattle.policy_glue.specs.declared.part_kind.PartKind.TheVariants as part
use Rattle.wide_policy.proofs.Chains.{all_hold, all_paired}
use Rattle.wide_translation.specs.Scope.{scope_of, condition_scope}
use Rattle.wide_policy.proofs.Values.{means_of, condition_carries, validation_carries, message_carries}
use Rattle.wide_policy.proofs.Pairs.{pairs_right, pairs_both, same_seconds}
use Rattle.wide_policy.specs.Carrying.{EachPair, CarriesValue, CarriesMessage, CarriesValidation, CarriesPolicy, wide_variable, profile_variable}
use Rattle.wide_policy.specs.Reading.{IsWideVariable, IsWideNamed, IsWideMessage, IsWideValidation, IsWideTree}
use Rattle.wide_policy.specs.Taking.{Visible, visible, TakenExpression, IsTakenPart, IsRefusedPart, TakesNamed, TakesWideVariable, RefusesWideVariable, TakesWideCondition, RefusesWideCondition, TakenValidation, TakesWideMessage, TakesWideValidation, RefusesWideValidation, TakenParts, WidePartsEnd, expression_of, kept_text, profile_named, profile_validation, source_of, profile_of, wide_validation, wide_tree_of, validation_tree, tree_of}
use Rattle.wide_policy.specs.Taking as taking
use Rattle.wide_policy.specs.WideTrees.{WideVariableTree, WideValidationTree, WidePolicyTree}
use Rattle.wide_policy.specs.declared.expression_error.WideExpressionError.{WideExpressionError}
use Rattle.wide_policy.specs.declared.message_rule.MessageRule.{MessageRule}
use Rattle.wide_policy.specs.declared.wide_policy_error.WidePolicyError.{WidePolicyError}

-- ---- what each part is

-- a variable is taken with some variables in scope
abbrev pub IsSomeVariable : NamedExpression → WideStep → Type 0
IsSomeVariable n v = (seen : Visible) × TakesNamed part.Variable seen n v

record VariablesHold (wrapped : Bool) (taken : List WideStep) (ns : List NamedExpression) (vs : List WideStep) : Type 0 where
  translated : AreTranslated wrapped (map kind_of taken) vs
  pairs : EachPair IsSomeVariable ns vs

variable_more : (wrapped : Bool) (taken : List WideStep) (n : NamedExpression) (v : WideStep) (ns : List NamedExpression) (more : List WideStep) → TakesWideVariable wrapped taken n v
    → VariablesHold wrapped (taken ++ v ∷ []) ns more → VariablesHold wrapped taken (n ∷ ns) (v ∷ more)
variable_more wrapped taken n v ns more is rest = record {
  translated = (
    means_of part.Variable (visible wrapped (map kind_of taken)) n.expression (expression_of v) is.expression.is,
    subst (λ (ks : List (List ℕ × Kind)). AreTranslated wrapped ks more) (map-append kind_of taken (v ∷ [])) rest.translated,
  );
  pairs = ((visible wrapped (map kind_of taken), is), rest.pairs);
}

-- the parts of a policy
pub record PartsHold (wrapped : Bool) (r : MessageRule) (p : Policy) (t : TakenParts) : Type 0 where
  pub translated : AreTranslated wrapped [] t.variables
  pub variables : EachPair IsSomeVariable p.variables t.variables
  pub conditions : EachPair (TakesNamed part.Condition (visible wrapped [])) p.conditions t.conditions
  pub validations : EachPair (TakesWideValidation r (visible wrapped (map kind_of t.variables))) p.validations t.validations

parts_by : (wrapped : Bool) (r : MessageRule) (p : Policy) (end : Result TakenParts WidePolicyError) (t : TakenParts) → WidePartsEnd wrapped r p end → end ≡ Ok t → PartsHold wrapped r p t
parts_by wrapped r p end t (taking.taken vs cs rs v c s) e =
    let same : record { variables = vs; conditions = cs; validations = rs } ≡ t = cc in
    let holds = all_hold (TakesWideVariable wrapped) (RefusesWideVariable wrapped) (VariablesHold wrapped) (λ taken. record { translated = tt; pairs = tt }) (variable_more wrapped) p.variables vs v in
    subst (PartsHold wrapped r p) same (record {
      translated = holds.translated;
      variables = holds.pairs;
      conditions = all_hold (TakesWideCondition wrapped) (RefusesWideCondition wrapped) (λ taken ns more. EachPair (TakesNamed part.Condition (visible wrapped [])) ns more) (λ taken. tt) (λ taken n b ns more is rest. (is, rest)) p.conditions cs c;
      validations = all_hold (λ taken n b. TakesWideValidation r (visible wrapped (map kind_of vs)) n b) (λ taken n e. RefusesWideValidation r (visible wrapped (map kind_of vs)) (length taken) n e)
          (λ taken ns more. EachPair (TakesWideValidation r (visible wrapped (map kind_of vs))) ns more) (λ taken. tt) (λ taken n b ns more is rest. (is, rest)) p.validations rs s;
    })
parts_by wrapped r p end t other e = absurd (cc)

pub parts_hold : (wrapped : Bool) (r : MessageRule) (p : Policy) (t : TakenParts) → WidePartsEnd wrapped r p (Ok t) → PartsHold wrapped r p t
parts_hold wrapped r p t ends = parts_by wrapped r p (Ok t) t ends refl

-- ---- messages

module _ (r : MessageRule) (seen : Visible) where
  carries_message : (text : Option (List ℕ)) (x : Option TakenExpression) (e : Option WideExpressionError) → TakesWideMessage r seen text x e
      → CarriesMessage (scope_of seen.wrapped seen.variables) (option_map (λ (y : TakenExpression). y.wide) x) (option_map (λ (y : TakenExpression). y.tree) x)
  carries_message text None e h = tt
  carries_message None (Some x) None h = absurd h
  carries_message None (Some x) (Some e) h = absurd h
  carries_message (Some text) (Some x) None h = message_carries seen text x h
  carries_message (Some text) (Some x) (Some e) h = absurd h

  wide_message : (text : Option (List ℕ)) (x : Option TakenExpression) (e : Option WideExpressionError) → TakesWideMessage r seen text x e
      → IsWideMessage (kept_text e text) (option_map (λ (y : TakenExpression). y.wide) x)
  wide_message None None None h = tt
  wide_message None None (Some e) h = tt
  wide_message None (Some x) None h = absurd h
  wide_message None (Some x) (Some e) h = absurd h
  wide_message (Some text) None None h = absurd h
  wide_message (Some text) None (Some e) h = tt
  wide_message (Some text) (Some x) None h = h.is.reads
  wide_message (Some text) (Some x) (Some e) h = absurd h

-- ---- the wide trees

wide_variable_is : (n : NamedExpression) (v : WideStep) → IsSomeVariable n v → IsWideVariable n (wide_variable v)
wide_variable_is n v is = record { name = is.1.name; expression = is.1.expression.is.reads }

wide_validation_is : (r : MessageRule) (seen : Visible) (n : Validation) (v : TakenValidation) → TakesWideValidation r seen n v
    → IsWideValidation v.source (wide_validation v)
wide_validation_is r seen n v is = record {
  expression = subst (λ (s : Validation). IsWide s.expression v.expression.wide) (sym is.source) is.expression.is.reads;
  message = subst (λ (s : Validation). IsWideMessage s.message_expression (option_map (λ (y : TakenExpression). y.wide) v.message)) (sym is.source)
      (wide_message r seen n.message_expression v.message v.left_out is.message);
}

pub wide_tree_is : (wrapped : Bool) (r : MessageRule) (p : Policy) (t : TakenParts) → PartsHold wrapped r p t → IsWideTree (source_of p t) (wide_tree_of t)
wide_tree_is wrapped r p t holds = record {
  variables = pairs_right IsSomeVariable IsWideVariable wide_variable p.variables t.variables wide_variable_is holds.variables;
  conditions = pairs_right (TakesNamed part.Condition (visible wrapped [])) IsWideNamed (λ (v : WideStep). v.wide) p.conditions t.conditions (λ n v is. is.expression.is.reads) holds.conditions;
  validations = pairs_both (TakesWideValidation r (visible wrapped (map kind_of t.variables))) IsWideValidation (λ (v : TakenValidation). v.source) wide_validation p.validations t.validations
      (wide_validation_is r (visible wrapped (map kind_of t.variables))) holds.validations;
}

module _ (one : HasOneWide) where
  one_variable : (n : NamedExpression) (v w : WideVariableTree) → IsWideVariable n v → IsWideVariable n w → v ≡ w
  one_variable n v w is also =
      let name : v.name ≡ w.name = is.name ∙ sym also.name in
      let tree : v.expression ≡ w.expression = one n.expression v.expression w.expression is.expression also.expression in
      λ i. record { name = name i; expression = tree i }

  one_message : (text : Option (List ℕ)) (v w : Option Wide) → IsWideMessage text v → IsWideMessage text w → v ≡ w
  one_message (Some text) (Some v) (Some w) is also = ap Some (one text v w is also)
  one_message (Some text) (Some v) None is also = absurd also
  one_message (Some text) None w is also = absurd is
  one_message None (Some v) w is also = absurd is
  one_message None None (Some w) is also = absurd also
  one_message None None None is also = refl

  one_validation : (n : Validation) (v w : WideValidationTree) → IsWideValidation n v → IsWideValidation n w → v ≡ w
  one_validation n v w is also =
      let tree : v.expression ≡ w.expression = one n.expression v.expression w.expression is.expression also.expression in
      let message : v.message ≡ w.message = one_message n.message_expression v.message w.message is.message also.message in
      λ i. record { expression = tree i; message = message i }

  -- a policy has one wide tree
  pub one_wide_tree : (p : Policy) (v w : WidePolicyTree) → IsWideTree p v → IsWideTree p w → v ≡ w
  one_wide_tree p v w is also =
      let vs : v.variables ≡ w.variables = same_seconds IsWideVariable one_variable p.variables v.variables w.variables is.variables also.variables in
      let cs : v.conditions ≡ w.conditions = same_seconds IsWideNamed (λ (n : NamedExpression). one n.expression) p.conditions v.conditions w.conditions is.conditions also.conditions in
      let rs : v.validations ≡ w.validations = same_seconds IsWideValidation one_validation p.validations v.validations w.validations is.validations also.validations in
      λ i. record { variables = vs i; conditions = cs i; validations = rs i }

-- ---- the trees of the profile

record IsTreeVariable (n : NamedExpression) (v : VariableTree) : Type 0 where
  name : v.name ≡ n.name
  expression : ReadsTree n.expression v.expression

abbrev IsTreeMessage : Option (List ℕ) → Option Tree → Type 0
IsTreeMessage (Some text) (Some a) = ReadsTree text a
IsTreeMessage None None = Unit {0}
IsTreeMessage _ _ = ⊥

record IsTreeValidation (n : Validation) (v : ValidationTree) : Type 0 where
  expression : ReadsTree n.expression v.expression
  message : IsTreeMessage n.message_expression v.message

-- the texts of the policy are these trees
record IsTree (p : Policy) (t : PolicyTree) : Type 0 where
  variables : EachPair IsTreeVariable p.variables t.variables
  conditions : EachPair (λ (n : NamedExpression) (a : Tree). ReadsTree n.expression a) p.conditions t.conditions
  validations : EachPair IsTreeValidation p.validations t.validations

tree_message : (r : MessageRule) (seen : Visible) (text : Option (List ℕ)) (x : Option TakenExpression) (e : Option WideExpressionError)
    → TakesWideMessage r seen text x e → IsTreeMessage (option_map (λ (y : TakenExpression). printed y.tree) x) (option_map (λ (y : TakenExpression). y.tree) x)
tree_message r seen text None e h = tt
tree_message r seen None (Some x) None h = absurd h
tree_message r seen None (Some x) (Some e) h = absurd h
tree_message r seen (Some text) (Some x) None h = h.written
tree_message r seen (Some text) (Some x) (Some e) h = absurd h

tree_is : (wrapped : Bool) (r : MessageRule) (p : Policy) (t : TakenParts) → PartsHold wrapped r p t → IsTree (profile_of p t) (tree_of t)
tree_is wrapped r p t holds = record {
  variables = pairs_both IsSomeVariable IsTreeVariable profile_named profile_variable p.variables t.variables
      (λ n v is. record { name = refl; expression = is.1.expression.written }) holds.variables;
  conditions = pairs_both (TakesNamed part.Condition (visible wrapped [])) (λ (n : NamedExpression) (a : Tree). ReadsTree n.expression a) profile_named (λ (v : WideStep). v.tree) p.conditions t.conditions
      (λ n v is. is.expression.written) holds.conditions;
  validations = pairs_both (TakesWideValidation r (visible wrapped (map kind_of t.variables))) IsTreeValidation profile_validation validation_tree p.validations t.validations
      (λ n v is. record { expression = is.expression.written; message = tree_message r (visible wrapped (map kind_of t.variables)) n.message_expression v.message v.left_out is.message }) holds.validations;
}

-- ---- the trees of a policy that compiles

message_read : (scope : List Declaration) (text : Option (List ℕ)) (a : Option Tree) → checking.IsMessage scope text a → IsTreeMessage text a
message_read scope (Some text) (Some a) h = h.taken.reads
message_read scope (Some text) None h = absurd h
message_read scope None (Some a) h = absurd h
message_read scope None None h = tt

parts_read : (p : Policy) (end : Result PolicyTree CompileError) (t : PolicyTree) → PartsEnd p end → end ≡ Ok t → IsTree p t
parts_read p end t (checking.taken vs cs rs v c s) e =
    let same : record { variables = vs; conditions = cs; validations = rs } ≡ t = cc in
    subst (IsTree p) same (record {
      variables = all_paired (λ taken n b. checking.IsVariable (checking.scope_after taken) n b) _ IsTreeVariable (λ taken n b is. record { name = is.name; expression = is.tree.reads }) p.variables vs v;
      conditions = all_paired (λ taken n a. checking.IsOneOf checking.truths [] n.expression a) _ (λ (n : NamedExpression) (a : Tree). ReadsTree n.expression a) (λ taken n a is. is.taken.reads) p.conditions cs c;
      validations = all_paired (λ taken n b. checking.IsValidation (checking.scope_after vs) n b) _ IsTreeValidation
          (λ taken n b is. record { expression = is.expression.taken.reads; message = message_read (checking.scope_after vs) n.message_expression b.message is.message }) p.validations rs s;
    })
parts_read p end t other e = absurd (cc)

compiled_read : (p : Policy) (end : Result PolicyTree CompileError) (t : PolicyTree) → Compiles p end → end ≡ Ok t → IsTree p t
compiled_read p end t (limits.refused err parts) e = absurd (cc)
compiled_read p end t (limits.too_large u err parts above) e = absurd (cc)
compiled_read p end t (limits.compiled u parts fits) e = parts_read p (Ok u) t parts e

module _ (one : (text : List ℕ) (a b : Tree) → ReadsTree text a → ReadsTree text b → a ≡ b) where
  one_tree_variable : (n : NamedExpression) (v w : VariableTree) → IsTreeVariable n v → IsTreeVariable n w → v ≡ w
  one_tree_variable n v w is also =
      let name : v.name ≡ w.name = is.name ∙ sym also.name in
      let tree : v.expression ≡ w.expression = one n.expression v.expression w.expression is.expression also.expression in
      λ i. record { name = name i; expression = tree i }

  one_tree_message : (text : Option (List ℕ)) (v w : Option Tree) → IsTreeMessage text v → IsTreeMessage text w → v ≡ w
  one_tree_message (Some text) (Some v) (Some w) is also = ap Some (one text v w is also)
  one_tree_message (Some text) (Some v) None is also = absurd also
  one_tree_message (Some text) None w is also = absurd is
  one_tree_message None (Some v) w is also = absurd is
  one_tree_message None None (Some w) is also = absurd also
  one_tree_message None None None is also = refl

  one_tree_validation : (n : Validation) (v w : ValidationTree) → IsTreeValidation n v → IsTreeValidation n w → v ≡ w
  one_tree_validation n v w is also =
      let tree : v.expression ≡ w.expression = one n.expression v.expression w.expression is.expression also.expression in
      let message : v.message ≡ w.message = one_tree_message n.message_expression v.message w.message is.message also.message in
      λ i. record { expression = tree i; message = message i }

  one_tree_of : (p : Policy) (v w : PolicyTree) → IsTree p v → IsTree p w → v ≡ w
  one_tree_of p v w is also =
      let vs : v.variables ≡ w.variables = same_seconds IsTreeVariable one_tree_variable p.variables v.variables w.variables is.variables also.variables in
      let cs : v.conditions ≡ w.conditions = same_seconds (λ (n : NamedExpression) (a : Tree). ReadsTree n.expression a) (λ (n : NamedExpression). one n.expression) p.conditions v.conditions w.conditions is.conditions also.conditions in
      let rs : v.validations ≡ w.validations = same_seconds IsTreeValidation one_tree_validation p.validations v.validations w.validations is.validations also.validations in
      λ i. record { variables = vs i; conditions = cs i; validations = rs i }

  -- a policy of translations that compiles has the trees of the translations
  pub compiled_trees : (wrapped : Bool) (r : MessageRule) (p : Policy) (parts : TakenParts) (t : PolicyTree) → PartsHold wrapped r p parts → Compiles (profile_of p parts) (Ok t) → t ≡ tree_of parts
  compiled_trees wrapped r p parts t holds compiles =
      one_tree_of (profile_of p parts) t (tree_of parts) (compiled_read (profile_of p parts) (Ok t) t compiles refl) (tree_is wrapped r p parts holds)

-- ---- the translations carry the values

pub parts_carry : (wrapped : Bool) (r : MessageRule) (p : Policy) (t : TakenParts) → PartsHold wrapped r p t → CarriesPolicy wrapped (wide_tree_of t) (tree_of t)
parts_carry wrapped r p t holds = record {
  steps = t.variables;
  are_translated = holds.translated;
  wide_are = refl;
  trees_are = refl;
  conditions = pairs_both (TakesNamed part.Condition (visible wrapped [])) (CarriesValue (condition_scope wrapped)) (λ (v : WideStep). v.wide) (λ (v : WideStep). v.tree) p.conditions t.conditions
      (λ n v is. condition_carries (visible wrapped []) n.expression (expression_of v) is.expression) holds.conditions;
  validations = pairs_both (TakesWideValidation r (visible wrapped (map kind_of t.variables))) (CarriesValidation (scope_of wrapped (map kind_of t.variables))) wide_validation validation_tree p.validations t.validations
      (λ n v is. record {
        expression = validation_carries (visible wrapped (map kind_of t.variables)) n.expression v.expression is.expression;
        message = carries_message r (visible wrapped (map kind_of t.variables)) n.message_expression v.message v.left_out is.message;
      }) holds.validations;
}
