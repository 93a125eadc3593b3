-- A policy whose expressions carry the values of another's decides as the other does.
use Rattle.std.proofs.Common.{◌≡◌, ◌&&◌, ℕ, Bool, true, false, List, [], ◌∷◌, map, fold, Option, Some, None, option_map, refl, sym, ap, ◌∙◌, arith}
use Rattle.std.specs.List.{list_all}
use Rattle.value_store.specs.Value.{Value, ValueOrError}
use Rattle.cel_reader.specs.Tree.{Tree}
use Rattle.cel_macros.specs.Environment.{Environment, Roots}
unfoldable use Rattle.cel_macros.specs.Meaning.{meaning}
use Rattle.wide_reader.specs.Tree.{Wide}
use Rattle.wide_kinds.specs.declared.kind.Kind.TheVariants as of
use Rattle.wide_meaning.specs.Environment.{WideEnvironment}
use Rattle.wide_meaning.specs.Outcome.{Outcome}
use Rattle.wide_translation.specs.Placed.{WideStep, AreTabled, AreTranslated, kind_of, condition_roots, wide_environment, environment, with_outcome, with_value as with_step_value, PolicyMeansTheSame, ConditionMeansTheSame}
use Rattle.wide_translation.specs.Scope.{scope_of, condition_scope}
use Rattle.wide_widths.proofs.Within.{and_left, and_right}
use Rattle.wide_indices.specs.Law.{NarrowConditionsAreTabled, NarrowPoliciesAreTabled}
use Rattle.wide_indices.specs.Narrow.{policy_has_narrow_ranges, with_known}
use Rattle.wide_indices.specs.Tables.{index_tables, table_length}
unfoldable use Rattle.policy_glue.specs.Evaluation.{decision_of}
use Rattle.policy_glue.specs.Evaluation.{condition_values, with_value, values_of, validation_value, validation_values}
use Rattle.policy_glue.specs.Trees.{ValidationTree}
use Rattle.policy_glue.specs.Verdict.{verdict_of}
unfoldable use Rattle.wide_policy.specs.WideEvaluation.{wide_decision_of}
use Rattle.wide_policy.specs.WideEvaluation.{wide_value, with_wide_value, wide_values_of, wide_condition_values, wide_validation_value, wide_validation_values}
use Rattle.wide_policy.specs.WideTrees.{WideVariableTree, WideValidationTree}
use Rattle.wide_policy.specs.Carrying.{EachPair, CarriesValue, CarriesMessage, CarriesValidation, wide_variable, profile_variable, CarriedPolicyDecides, roots_for}
use Rattle.wide_policy.specs.NarrowTrees.{are_variables_tabled, is_message_tabled, is_tabled, is_validation_tabled, known_variables}

-- equal values at each place make equal lists
pub same_values : {A B C : Type 0} (P : A → B → Type 0) (f : A → C) (g : B → C) (xs : List A) (ys : List B) → ((a : A) (b : B) → P a b → g b ≡ f a) → EachPair P xs ys
    → map g ys ≡ map f xs
same_values P f g [] [] same h = refl
same_values P f g [] (b ∷ ys) same h = absurd h
same_values P f g (a ∷ xs) [] same h = absurd h
same_values P f g (a ∷ xs) (b ∷ ys) same h = λ i. same a b h.0 i ∷ same_values P f g xs ys same h.1 i

and_both : (a b : Bool) → a ≡ true → b ≡ true → (a && b) ≡ true
and_both a b h k = ap (λ x. x && b) h ∙ k

-- ---- tables

-- the first items of pairs, if a test holds of all of them
if_all : {A B : Type 0} (w : Bool) (P : A → B → Type 0) (f : A → Bool) (xs : List A) (ys : List B) → EachPair P xs ys → (w ≡ true → list_all f xs ≡ true)
    → EachPair (λ a b. P a b × (w ≡ true → f a ≡ true)) xs ys
if_all w P f [] [] h all = tt
if_all w P f [] (b ∷ ys) h all = absurd h
if_all w P f (a ∷ xs) [] h all = absurd h
if_all w P f (a ∷ xs) (b ∷ ys) h all =
    ((h.0, λ is. and_left (f a) (list_all f xs) (all is)), if_all w P f xs ys h.1 (λ is. and_right (f a) (list_all f xs) (all is)))

-- the ranges are narrow in the variables and then in an expression
policy_ranges : (before : List (List ℕ × Bool)) (vs : List WideStep) (e : Wide) → are_variables_tabled before (map wide_variable vs) ≡ true
    → is_tabled (known_variables before (map wide_variable vs)) e ≡ true → policy_has_narrow_ranges before vs e ≡ true
policy_ranges before [] e h k = k
policy_ranges before (v ∷ vs) e h k =
    let rest = are_variables_tabled (with_known before v) (map wide_variable vs) in
    and_both (is_tabled before v.wide) (policy_has_narrow_ranges (with_known before v) vs e) (and_left (is_tabled before v.wide) rest h)
    (policy_ranges (with_known before v) vs e (and_right (is_tabled before v.wide) rest h) k)

-- without tables no table has to be long enough
untabled : (others : Wide → WideEnvironment → Outcome) (ts : Value) (roots : Roots) (before : List (List ℕ × Outcome)) (vs : List WideStep) (e : Wide)
    → AreTabled others false ts roots before vs e
untabled others ts roots before [] e = λ wrapped uses. absurd (cc)
untabled others ts roots before (v ∷ vs) e = ((λ wrapped uses. absurd (cc)), untabled others ts roots (with_outcome others roots before v) vs e)

module _ (others : Wide → WideEnvironment → Outcome) (roots : Roots) where
  tabled : NarrowPoliciesAreTabled → (wrapped : Bool) (vs : List WideStep) (e : Wide) → (wrapped ≡ true → policy_has_narrow_ranges [] vs e ≡ true)
      → AreTabled others wrapped (index_tables (table_length roots)) roots [] vs e
  tabled law false vs e narrow = untabled others (index_tables (table_length roots)) roots [] vs e
  tabled law true vs e narrow = law others true (table_length roots) roots vs e (omega arith) (narrow refl)

  condition_tabled : NarrowConditionsAreTabled → (wrapped : Bool) (e : Wide) → (wrapped ≡ true → is_tabled [] e ≡ true)
      → AreTabled others wrapped (index_tables (table_length roots)) (condition_roots roots) [] [] e
  condition_tabled law false e narrow = untabled others (index_tables (table_length roots)) (condition_roots roots) [] [] e
  condition_tabled law true e narrow = law others true (table_length roots) roots e (omega arith) (narrow refl)

-- ---- values

module _ (law : PolicyMeansTheSame) (narrow : NarrowPoliciesAreTabled) (others : Wide → WideEnvironment → Outcome) (wrapped : Bool) (roots : Roots) where
  abbrev placed_roots : Roots
  placed_roots = roots_for wrapped roots

  wide_values : (before : List (List ℕ × Outcome)) (vs : List WideStep)
      → fold (with_wide_value others roots) before (map wide_variable vs) ≡ fold (with_outcome others roots) before vs
  wide_values before [] = refl
  wide_values before (v ∷ vs) = wide_values (with_outcome others roots before v) vs

  profile_values : (before : List (List ℕ × ValueOrError)) (vs : List WideStep)
      → fold (with_value placed_roots) before (map profile_variable vs) ≡ fold (with_step_value placed_roots) before vs
  profile_values before [] = refl
  profile_values before (v ∷ vs) = profile_values (with_step_value placed_roots before v) vs

  module _ (vs : List WideStep) (are : AreTranslated wrapped [] vs) (first : wrapped ≡ true → are_variables_tabled [] (map wide_variable vs) ≡ true) where
    abbrev wide_env : WideEnvironment
    wide_env = wide_environment roots (fold (with_outcome others roots) [] vs)

    abbrev env : Environment
    env = environment placed_roots (fold (with_step_value placed_roots) [] vs)

    abbrev known : List (List ℕ × Bool)
    known = known_variables [] (map wide_variable vs)

    value_same : (e : Wide) (a : Tree) → CarriesValue (scope_of wrapped (map kind_of vs)) e a → (wrapped ≡ true → is_tabled known e ≡ true) → meaning a env ≡ wide_value others wide_env e
    value_same e a c is =
        (law others wrapped (index_tables (table_length roots)) roots vs e (of.Value c.kind) a are c.means
        (tabled others roots narrow wrapped vs e (λ h. policy_ranges [] vs e (first h) (is h)))).means

    message_same : (m : Option Wide) (b : Option Tree) → CarriesMessage (scope_of wrapped (map kind_of vs)) m b → (wrapped ≡ true → is_message_tabled known m ≡ true)
        → option_map (λ x. meaning x env) b ≡ option_map (λ x. wide_value others wide_env x) m
    message_same (Some e) (Some a) c is = ap Some (value_same e a c is)
    message_same (Some e) None c is = absurd c
    message_same None (Some a) c is = absurd c
    message_same None None c is = refl

    validation_same : (r : WideValidationTree) (s : ValidationTree) → CarriesValidation (scope_of wrapped (map kind_of vs)) r s × (wrapped ≡ true → is_validation_tabled known r ≡ true)
        → validation_value env s ≡ wide_validation_value others wide_env r
    validation_same r s c =
        let first : meaning s.expression env ≡ wide_value others wide_env r.expression =
        value_same r.expression s.expression c.0.expression (λ h. and_left (is_tabled known r.expression) (is_message_tabled known r.message) (c.1 h)) in
        let second = message_same r.message s.message c.0.message (λ h. and_right (is_tabled known r.expression) (is_message_tabled known r.message) (c.1 h)) in
        λ i. (first i, second i)

pub carried_decides : PolicyMeansTheSame → ConditionMeansTheSame → NarrowPoliciesAreTabled → NarrowConditionsAreTabled → CarriedPolicyDecides
unfolding decision_of wide_decision_of
carried_decides law condition_law narrow narrow_conditions others wrapped f w t roots c tables =
    let vs : List WideStep = c.steps in
    let here : Roots = roots_for wrapped roots in
    let in_conditions : wrapped ≡ true → list_all (is_tabled []) w.conditions ≡ true = λ h. and_left _ _ (tables h) in
    let in_variables : wrapped ≡ true → are_variables_tabled [] (map wide_variable vs) ≡ true =
    λ h. ap (are_variables_tabled []) (sym c.wide_are) ∙ and_left (are_variables_tabled [] w.variables) _ (and_right (list_all (is_tabled []) w.conditions) _ (tables h)) in
    let in_validations : wrapped ≡ true → list_all (is_validation_tabled (known_variables [] (map wide_variable vs))) w.validations ≡ true =
    λ h. ap (λ (us : List WideVariableTree). list_all (is_validation_tabled (known_variables [] us)) w.validations) (sym c.wide_are)
    ∙ and_right (are_variables_tabled [] w.variables) _ (and_right (list_all (is_tabled []) w.conditions) _ (tables h)) in
    let conditions : condition_values here t.conditions ≡ wide_condition_values others roots w.conditions =
    same_values (λ e a. CarriesValue (condition_scope wrapped) e a × (wrapped ≡ true → is_tabled [] e ≡ true)) (λ e. wide_value others (wide_environment (condition_roots roots) []) e)
    (λ a. meaning a (environment here [])) w.conditions t.conditions
    (λ e a is. (condition_law others wrapped (index_tables (table_length roots)) roots e (of.Value is.0.kind) a is.0.means (condition_tabled others roots narrow_conditions wrapped e is.1)).means)
    (if_all wrapped (CarriesValue (condition_scope wrapped)) (is_tabled []) w.conditions t.conditions c.conditions in_conditions) in
    let given : values_of here t.variables ≡ fold (with_step_value here) [] vs = ap (values_of here) c.trees_are ∙ profile_values law narrow others wrapped roots [] vs in
    let wide : wide_values_of others roots w.variables ≡ fold (with_outcome others roots) [] vs = ap (wide_values_of others roots) c.wide_are ∙ wide_values law narrow others wrapped roots [] vs in
    let between = same_values (λ r s. CarriesValidation (scope_of wrapped (map kind_of vs)) r s × (wrapped ≡ true → is_validation_tabled (known_variables [] (map wide_variable vs)) r ≡ true))
    (wide_validation_value others (wide_env law narrow others wrapped roots vs c.are_translated in_variables)) (validation_value (env law narrow others wrapped roots vs c.are_translated in_variables))
    w.validations t.validations (validation_same law narrow others wrapped roots vs c.are_translated in_variables)
    (if_all wrapped (CarriesValidation (scope_of wrapped (map kind_of vs))) (is_validation_tabled (known_variables [] (map wide_variable vs))) w.validations t.validations c.validations in_validations) in
    let validations : validation_values here t ≡ wide_validation_values others roots w =
    ap (λ (xs : List (List ℕ × ValueOrError)). map (validation_value (environment here xs)) t.validations) given ∙ between
    ∙ ap (λ (xs : List (List ℕ × Outcome)). map (wide_validation_value others (wide_environment roots xs)) w.validations) (sym wide) in
    λ i. verdict_of f (conditions i) (validations i)
