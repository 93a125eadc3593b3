-- The parts of a policy's program, with their values and their bounds.
use Rattle.policy_code.proofs.Prelude.{◌≡◌, ◌-◌, ◌*◌, ◌≤◌, List, [], ◌∷◌, length, true, refl, ap, arith, Option, Some, None, suc, map, Roots, Environment, Declaration, cost, spent_by, conditions_cost, validations_cost, environment_with, condition_values, validation_value, Laid, after_condition, before_message, condition_codes, tree_code, validation_codes, with_message, Tree, ValidationTree, Insn, meaning, Part, ValidationPart, codes_of, conditions_charge, conditions_steps, codes_of_validations, values_of_validations, validations_charge, validations_steps, values_given, FailurePolicy, steps_per_visit, charge_per_unit}

-- ---- the parts of the trees

abbrev pub tree_part : List Declaration → Laid → Environment → Tree → Part
tree_part ds l env a = record { code = tree_code ds l a; value = meaning a env; steps = steps_per_visit * (cost a env).visits - 8; charge = charge_per_unit * spent_by (cost a env) - 8 }

abbrev pub condition_parts : Roots → Laid → List Tree → List Part
condition_parts roots l [] = []
condition_parts roots l (a ∷ more) = tree_part [] l (environment_with roots []) a ∷ condition_parts roots (after_condition l a) more

abbrev pub message_part : List Declaration → Laid → Environment → Option Tree → Option Part
message_part ds l env (Some a) = Some (tree_part ds l env a)
message_part ds l env None = None

abbrev pub rule_part : List Declaration → Laid → Environment → ValidationTree → ValidationPart
rule_part ds l env r = record { expression = tree_part ds l env r.expression; message = message_part ds (before_message ds l r) env r.message }

abbrev pub after_rule : List Declaration → Laid → ValidationTree → Laid
after_rule ds l r = with_message ds (before_message ds l r) r.message

abbrev pub rule_parts : List Declaration → Laid → Environment → List ValidationTree → List ValidationPart
rule_parts ds l env [] = []
rule_parts ds l env (r ∷ more) = rule_part ds l env r ∷ rule_parts ds (after_rule ds l r) env more

-- ---- their codes and values

pub condition_codes_are : (roots : Roots) (l : Laid) (trees : List Tree) → codes_of (condition_parts roots l trees) ≡ condition_codes l trees
condition_codes_are roots l [] = refl
condition_codes_are roots l (a ∷ more) = ap (λ (cs : List (List Insn)). tree_code [] l a ∷ cs) (condition_codes_are roots (after_condition l a) more)

pub condition_values_are : (roots : Roots) (l : Laid) (trees : List Tree) → values_given (condition_parts roots l trees) ≡ condition_values roots trees
condition_values_are roots l [] = refl
condition_values_are roots l (a ∷ more) = grind (arith, condition_values_are roots (after_condition l a) more)

pub rule_codes_are : (ds : List Declaration) (l : Laid) (env : Environment) (rs : List ValidationTree)
    → codes_of_validations (rule_parts ds l env rs) ≡ validation_codes ds l rs
rule_codes_are ds l env [] = refl
rule_codes_are ds l env (r ∷ more) = grind (arith, rule_codes_are ds (after_rule ds l r) env more)

pub rule_values_are : (ds : List Declaration) (l : Laid) (env : Environment) (rs : List ValidationTree)
    → values_of_validations (rule_parts ds l env rs) ≡ map (validation_value env) rs
rule_values_are ds l env [] = refl
rule_values_are ds l env (r ∷ more) = grind (arith, rule_values_are ds (after_rule ds l r) env more)

-- ---- budgets: steps and charge

pub conditions_within : (roots : Roots) (l : Laid) (trees : List Tree)
    → (conditions_steps (condition_parts roots l trees) ≤ steps_per_visit * (conditions_cost roots trees).visits)
    × (conditions_charge (condition_parts roots l trees) ≤ charge_per_unit * spent_by (conditions_cost roots trees))
conditions_within roots l [] = (omega arith, omega arith)
conditions_within roots l (a ∷ more) = let rest = conditions_within roots (after_condition l a) more in (omega (arith, rest.0), omega (arith, rest.1))

pub validations_within : (f : FailurePolicy) (ds : List Declaration) (l : Laid) (env : Environment) (rs : List ValidationTree)
    → (validations_steps f (rule_parts ds l env rs) ≤ steps_per_visit * (validations_cost true f env rs).visits)
    × (validations_charge f (rule_parts ds l env rs) ≤ charge_per_unit * spent_by (validations_cost true f env rs))
validations_within f ds l env [] = (omega arith, omega arith)
validations_within f ds l env (r ∷ more) = grind (arith, validations_within f ds (after_rule ds l r) env more)

pub rules_length : (ds : List Declaration) (l : Laid) (env : Environment) (rs : List ValidationTree) → length (rule_parts ds l env rs) ≡ length rs
rules_length ds l env [] = refl
rules_length ds l env (r ∷ more) = ap suc (rules_length ds (after_rule ds l r) env more)
