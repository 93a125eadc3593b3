-- The program of a policy decides as the policy does, within its budget.
use Rattle.policy_code.proofs.Prelude.{◌≡◌, ℕ, ◌+◌, ◌-◌, ◌*◌, ◌≤◌, List, [], ◌∷◌, ◌++◌, length, length-append, append-nil, append_assoc, Bool, true, refl, ap, ◌∙◌, subst, sym, arith, Option, ◌<◌, false, ◌||◌, fold, map, All, if◌then◌else◌, map-append, fold-append, ValueOrError, expanded, plain_tree, Roots, Environment, expansion_plain, Declaration, scope_of, typing as type_of, ja, IsCodeAt, size, AreInsns, spellings, total, start_body, IsScope, Variable, bindings, first_charges, first_steps, scope_setting, stands_back, stands_front, stands_rest, environment_in, variable_of, joined, with_text, with_texts, IsDeep, cost, spent_by, Cost, AreShallow, HasConstants, IsEmittable, variable_is_taken, variable_joins, expression_gives, frames_are_enough, variables_cost, conditions_cost, message_cost, validations_cost, policy_cost, policy_spent, policy_work, runs_on, depth_in, type_or_any, with_variable, scope_after, environment_with, with_value, decision_of, values_of, tree_texts, variable_texts, condition_texts, message_texts, validation_tree_texts, validation_texts, policy_texts, routines_code, policy_code, Laid, after_variables, texts_with, variable_code, variable_codes, with_routine, after_condition, before_message, with_message, laid_conditions, laid_routines, nothing_laid, program_of, AreVariables, AreConditions, AreValidations, IsEmittableMessage, Decides, HasProgram, ProgramDecides, ProgramIsCode, ProgramStops, Tree, VariableTree, ValidationTree, PolicyTree, Insn, meaning, Context, HasValues, RunContext, ExitsOrRunsOut, routine_context, wider_gives, no_scope, ConditionsGive, MessageGives, Part, PartGives, ValidationPart, ValidationsGive, codes_of, message_size, codes_of_validations, validation_size, values_of_validations, validations_charge, validations_steps, values_given, denies, truth_of, Verdict, decided_before, verdict_of, FailurePolicy, Exit, Contents, DecodesSpelling, stays_stopped, State, start_state, state_after, CpuState, charges-most, spelled_stands, LeavesVerdict, conditions_place, passes, program_charge, program_steps, validations_place, constants_limit, variable_depth_limit, memo_limit, steps_per_visit, charge_per_unit}
use Rattle.std.specs.Prelude.{is_none}
use Rattle.tree_code.specs.Layer.{AreTaken}
use Rattle.policy_code.proofs.Programs.Sizes.{message_texts_are, conditions_place_is, conditions_slots, variables_place, conditions_texts, variables_texts}
use Rattle.loader.specs.Contents as loader
use Rattle.policy_code.proofs.Programs.Whole.{policy_decides}
use Rattle.policy_code.proofs.Programs.Parts.{tree_part, condition_parts, message_part, rule_part, after_rule, rule_parts, condition_codes_are, condition_values_are, rule_codes_are, rule_values_are, conditions_within, validations_within, rules_length}

-- ---- texts

-- the texts so far and the texts still to come are all texts
pub used_more : (all texts first rest : List (List ℕ)) → all ≡ with_texts texts (first ++ rest) → all ≡ with_texts (with_texts texts first) rest
used_more all texts first rest e = e ∙ fold-append with_text texts first rest

pub has_constants : (constants : List ℕ) (all texts : List (List ℕ)) (a : Tree) (rest : List (List ℕ)) → constants ≡ joined all
    → length constants ≤ constants_limit → all ≡ with_texts texts (tree_texts a ++ rest) → HasConstants constants texts (expanded a)
has_constants constants all texts a rest is few e = record { more = rest; constants_are = is ∙ ap joined (used_more all texts (tree_texts a) rest e); few = few }

-- ---- depths

pub or_left : (x y : Bool) → x ≡ true → (x || y) ≡ true
or_left x y e = rw e refl

pub or_right : (x y : Bool) → y ≡ true → (x || y) ≡ true
or_right x y e = grind arith

shallow_more : (ds : List Declaration) (d : Declaration) → AreShallow ds → d.depth ≤ variable_depth_limit → AreShallow (ds ++ d ∷ [])
shallow_more [] d h low = (low, tt)
shallow_more (x ∷ ds) d h low = (h.0, shallow_more ds d h.1 low)

-- ---- the scope

module _ (image : loader.Image) (deep : Bool) (roots : Roots) where
  -- the scope, the declarations and the layout agree on the variables so far
  pub record Known (scope : List Variable) (ds : List Declaration) (l : Laid) : Type 0 where
    pub taken : AreTaken l.routines ds scope []
    pub is : IsScope image deep roots image.constants scope
    pub shallow : AreShallow ds

  abbrev pub newest : List Variable → Laid → VariableTree → Variable
  newest scope l v = variable_of roots scope (texts_with l v.expression) v.name (expanded v.expression) (l.place + 1)

  -- the scope with the variables of these trees added
  abbrev pub scope_with : List Variable → List Declaration → Laid → List VariableTree → List Variable
  scope_with scope ds l [] = scope
  scope_with scope ds l (v ∷ more) = scope_with (scope ++ newest scope l v ∷ []) (with_variable ds v) (with_routine ds l v) more

  pub known_more : (scope : List Variable) (ds : List Declaration) (l : Laid) (v : VariableTree) → Known scope ds l → IsEmittable ds (expanded v.expression) → depth_in ds v.expression ≤ variable_depth_limit → length scope ≤ memo_limit → HasConstants image.constants l.texts (expanded v.expression) → (IsDeep (plain_tree (expanded v.expression)) (environment_in roots [] scope) → deep ≡ true) → IsCodeAt image.code (l.place + 1) (variable_code ds l v) → Known (scope ++ newest scope l v ∷ []) (with_variable ds v) (with_routine ds l v)
  known_more scope ds l v known expression low few constants may stands =
      let same = append-nil scope in
      let joined_scope = variable_joins l.texts l.routines ds (expanded v.expression) (l.place + 1) expression image deep roots image.constants scope [] v.name known.taken low few constants (subst (IsScope image deep roots image.constants) (sym same) known.is) may stands in
      record {
        taken = variable_is_taken l.texts l.routines ds (expanded v.expression) (l.place + 1) roots scope v.name (type_or_any (type_of v.expression (scope_of ds))) known.taken;
        is = subst (λ (vs : List Variable). IsScope image deep roots image.constants (vs ++ newest scope l v ∷ [])) same joined_scope;
        shallow = shallow_more ds _ known.shallow low;
      }

  -- ---- all of them

  -- the expression of a variable costs no more than the whole policy
  deep_first : (ds : List Declaration) (scope : List Variable) (v : VariableTree) (more : List VariableTree) → ((variables_cost roots (bindings scope) (v ∷ more)).is_deep ≡ true → deep ≡ true) → IsDeep (plain_tree (expanded v.expression)) (environment_in roots [] scope) → deep ≡ true
  deep_first ds scope v more may e = grind (arith, expansion_plain, or_left)

  -- the name of the newest variable has its value
  pub newest_value : (scope : List Variable) (l : Laid) (v : VariableTree) → bindings (scope ++ newest scope l v ∷ []) ≡ with_value roots (bindings scope) v
  newest_value scope l v = grind (arith, map-append, expansion_plain)

  module _ (all : List (List ℕ)) (are : image.constants ≡ joined all) (few : length image.constants ≤ constants_limit) where
    pub variables_known : (rest : List (List ℕ)) (vs : List VariableTree) (scope : List Variable) (ds : List Declaration) (l : Laid) → all ≡ with_texts l.texts (variable_texts vs ++ rest) → ((variables_cost roots (bindings scope) vs).is_deep ≡ true → deep ≡ true) → length scope + length vs ≤ memo_limit → AreVariables ds vs → IsCodeAt image.code l.place (routines_code (variable_codes ds l vs)) → Known scope ds l → Known (scope_with scope ds l vs) (fold with_variable ds vs) (after_variables ds l vs)
    variables_known rest [] scope ds l used may short expressions stands known = known
    variables_known rest (v ∷ more) scope ds l used may short expressions stands known =
        let routine = variable_code ds l v in
        let others = routines_code (variable_codes (with_variable ds v) (with_routine ds l v) more) in
        let behind = stands_rest image.code l.place (ja (size routine)) (routine ++ others) stands in
        let first = tree_texts v.expression in
        let apart : all ≡ with_texts l.texts (first ++ (variable_texts more ++ rest)) = used ∙ ap (with_texts l.texts) (append_assoc first (variable_texts more) rest) in
        let next = known_more scope ds l v known expressions.0 expressions.1 (omega arith) (has_constants image.constants all l.texts v.expression (variable_texts more ++ rest) are few apart) (deep_first ds scope v more may) (stands_front image.code (l.place + 1) routine others behind) in
        let scope1 = scope ++ newest scope l v ∷ [] in
        let longer = length-append scope (newest scope l v ∷ []) in
        let may1 : (variables_cost roots (bindings scope1) more).is_deep ≡ true → deep ≡ true = λ e. may (or_right (cost v.expression (environment_with roots (bindings scope))).is_deep _ (subst (λ (bs : List (List ℕ × ValueOrError)). (variables_cost roots bs more).is_deep ≡ true) (newest_value scope l v) e)) in
        variables_known rest more scope1 (with_variable ds v) (with_routine ds l v) (used_more all l.texts first (variable_texts more ++ rest) apart) may1 (omega arith) expressions.2 (stands_back image.code (l.place + 1) routine others behind) next

  pub values_are : (vs : List VariableTree) (scope : List Variable) (ds : List Declaration) (l : Laid) → bindings (scope_with scope ds l vs) ≡ fold (with_value roots) (bindings scope) vs
  values_are [] scope ds l = refl
  values_are (v ∷ more) scope ds l = grind (arith, newest_value, values_are more (scope ++ newest scope l v ∷ []) (with_variable ds v) (with_routine ds l v))

  -- ---- their cost

  total-append : (ns ms : List ℕ) → total (ns ++ ms) ≡ total ns + total ms
  total-append [] ms = omega arith
  total-append (n ∷ ns) ms = let rest = total-append ns ms in omega arith

  -- the visits of the variables pay for first uses and for the jumps over the routines
  pub steps_within : (vs : List VariableTree) (scope : List Variable) (ds : List Declaration) (l : Laid) → total (first_steps (scope_with scope ds l vs)) + length (variable_codes ds l vs) ≤ total (first_steps scope) + steps_per_visit * (variables_cost roots (bindings scope) vs).visits
  steps_within [] scope ds l = omega arith
  steps_within (v ∷ more) scope ds l =
      let u = newest scope l v in
      let rest = steps_within more (scope ++ u ∷ []) (with_variable ds v) (with_routine ds l v) in
      let joined_steps = map-append (λ (x : Variable). x.steps + 9) scope (u ∷ []) in
      let whole : total (first_steps (scope ++ u ∷ [])) ≡ total (first_steps scope) + (u.steps + 9) = ap total joined_steps ∙ total-append (first_steps scope) ((u.steps + 9) ∷ []) ∙ omega arith in
      let visits : u.steps ≡ steps_per_visit * (cost v.expression (environment_with roots (bindings scope))).visits - 8 = ap (λ (a : Tree). steps_per_visit * (cost a (environment_with roots (bindings scope))).visits - 8) (expansion_plain v.expression) in
      let same : (variables_cost roots (bindings (scope ++ u ∷ [])) more).visits ≡ (variables_cost roots (with_value roots (bindings scope) v) more).visits = ap (λ (bs : List (List ℕ × ValueOrError)). (variables_cost roots bs more).visits) (newest_value scope l v) in
      omega arith

  pub charges_within : (vs : List VariableTree) (scope : List Variable) (ds : List Declaration) (l : Laid)
      → total (first_charges (scope_with scope ds l vs)) ≤ total (first_charges scope) + charge_per_unit * spent_by (variables_cost roots (bindings scope) vs)
  charges_within [] scope ds l = omega arith
  charges_within (v ∷ more) scope ds l =
      let u = newest scope l v in
      let rest = charges_within more (scope ++ u ∷ []) (with_variable ds v) (with_routine ds l v) in
      let joined_charges = map-append (λ (x : Variable). x.charge) scope (u ∷ []) in
      let whole : total (first_charges (scope ++ u ∷ [])) ≡ total (first_charges scope) + u.charge = ap total joined_charges ∙ total-append (first_charges scope) (u.charge ∷ []) ∙ omega arith in
      let spent : u.charge ≡ charge_per_unit * spent_by (cost v.expression (environment_with roots (bindings scope))) - 8 = ap (λ (a : Tree). charge_per_unit * spent_by (cost a (environment_with roots (bindings scope))) - 8) (expansion_plain v.expression) in
      let same : spent_by (variables_cost roots (bindings (scope ++ u ∷ [])) more) ≡ spent_by (variables_cost roots (with_value roots (bindings scope) v) more) = ap (λ (bs : List (List ℕ × ValueOrError)). spent_by (variables_cost roots bs more)) (newest_value scope l v) in
      omega arith

-- ---- an expression gives its value

module _ (image : loader.Image) (deep : Bool) (roots : Roots) (everything : List (List ℕ)) (are : image.constants ≡ joined everything) (few : length image.constants ≤ constants_limit) where
  module _ (scope later all : List Variable) (ds : List Declaration) (l : Laid) (a : Tree) (rest : List (List ℕ)) where
    -- in the scope of all variables, of which it may use the first ones
    tree_gives : scope ++ later ≡ all → AreTaken l.routines ds scope later → AreShallow ds → IsScope image deep roots image.constants scope → length scope ≤ memo_limit → IsEmittable ds (expanded a) → everything ≡ with_texts l.texts (tree_texts a ++ rest) → (IsDeep a (environment_with roots (bindings scope)) → deep ≡ true) → PartGives (scope_setting image deep all) (routine_context roots (bindings all) image.constants) l.place (tree_part ds l (environment_with roots (bindings scope)) a)
    tree_gives whole taken shallow is short expression used may =
        grind (arith, expansion_plain, expression_gives, frames_are_enough, has_constants, wider_gives)

  -- ---- conditions

  pub conditions_give : (scope : List Variable) (trees : List Tree) (l : Laid) (rest : List (List ℕ)) → map (λ (v : Variable). v.routine) scope ≡ l.routines
      → AreConditions trees → everything ≡ with_texts l.texts (condition_texts trees ++ rest) → ((conditions_cost roots trees).is_deep ≡ true → deep ≡ true)
      → ConditionsGive (scope_setting image deep scope) (routine_context roots (bindings scope) image.constants) l.place (condition_parts roots l trees)
  conditions_give scope [] l rest slots expressions used may = tt
  conditions_give scope (a ∷ more) l rest slots expressions used may =
      let apart : everything ≡ with_texts l.texts (tree_texts a ++ (condition_texts more ++ rest)) = used
      ∙ ap (with_texts l.texts) (append_assoc (tree_texts a) (condition_texts more) rest) in
      let first = tree_gives [] scope scope [] l a (condition_texts more ++ rest) refl (record { slots_are = slots; depths_are = refl }) tt (no_scope image deep roots image.constants) (omega arith) expressions.0 apart (λ e. may (or_left (cost a (environment_with roots [])).is_deep (conditions_cost roots more).is_deep e)) in
      let others = conditions_give scope more (after_condition l a) rest slots expressions.1 (used_more everything l.texts (tree_texts a) (condition_texts more ++ rest) apart) (λ e. may (or_right (cost a (environment_with roots [])).is_deep (conditions_cost roots more).is_deep e)) in
      (first, others)

  -- ---- validations

  module _ (f : FailurePolicy) (scope : List Variable) (ds : List Declaration) (shallow : AreShallow ds) (is : IsScope image deep roots image.constants scope) (short : length scope ≤ memo_limit) where
    abbrev rule_env : Environment
    rule_env = environment_with roots (bindings scope)

    abbrev s : RunContext
    s = scope_setting image deep scope

    abbrev c : Context
    c = routine_context roots (bindings scope) image.constants

    one_gives : (l : Laid) (a : Tree) (rest : List (List ℕ)) → AreTaken l.routines ds scope [] → IsEmittable ds (expanded a)
        → everything ≡ with_texts l.texts (tree_texts a ++ rest) → (IsDeep a rule_env → deep ≡ true) → PartGives s c l.place (tree_part ds l rule_env a)
    one_gives l a rest taken expression used may = tree_gives scope [] scope ds l a rest (append-nil scope) taken shallow is short expression used may

    message_gives : (l : Laid) (m : Option Tree) (rest : List (List ℕ)) (d : Bool) → AreTaken l.routines ds scope [] → IsEmittableMessage ds m
        → everything ≡ with_texts l.texts (message_texts m ++ rest) → ((message_cost d rule_env m).is_deep ≡ true → deep ≡ true)
        → MessageGives s c l.place d (message_part ds l rule_env m)
    message_gives l m rest d taken expression used may = grind (arith, one_gives)

    message_place : (l : Laid) (m : Option Tree) → (with_message ds l m).place ≡ l.place + message_size (message_part ds l rule_env m)
    message_place l m = grind arith

    pub validations_give : (rs : List ValidationTree) (l : Laid) (rest : List (List ℕ)) → AreTaken l.routines ds scope [] → AreValidations ds rs
        → everything ≡ with_texts l.texts (validation_texts rs ++ rest) → ((validations_cost true f rule_env rs).is_deep ≡ true → deep ≡ true)
        → ValidationsGive f s c l.place (rule_parts ds l rule_env rs)
    validations_give [] l rest taken expressions used may = tt
    validations_give (r ∷ more) l rest taken expressions used may =
        let e = r.expression in
        let d = denies f (truth_of (meaning e rule_env)) in
        let l1 = before_message ds l r in
        let l2 = after_rule ds l r in
        let behind = validation_texts more ++ rest in
        let first_cost = (cost e rule_env).is_deep in
        let told_cost = (message_cost d rule_env r.message).is_deep in
        let more_cost = (validations_cost true f rule_env more).is_deep in
        let apart : everything ≡ with_texts l.texts (tree_texts e ++ (message_texts r.message ++ behind)) = used ∙ ap (with_texts l.texts) (append_assoc (validation_tree_texts r) (validation_texts more) rest ∙ append_assoc (tree_texts e) (message_texts r.message) behind) in
        let used1 : everything ≡ with_texts l1.texts (message_texts r.message ++ behind) = used_more everything l.texts (tree_texts e) (message_texts r.message ++ behind) apart in
        let used2 : everything ≡ with_texts l2.texts behind = used_more everything l1.texts (message_texts r.message) behind used1
        ∙ ap (λ (ts : List (List ℕ)). with_texts ts behind) (sym (message_texts_are ds l1 r.message)) in
        let first = one_gives l e (message_texts r.message ++ behind) taken expressions.0 apart (λ h. may (or_left (first_cost || told_cost) more_cost (or_left first_cost told_cost h))) in
        let told = message_gives l1 r.message behind d taken expressions.1 used1 (λ h. may (or_left (first_cost || told_cost) more_cost (or_right first_cost told_cost h))) in
        let taken2 = subst (λ (slots : List ℕ). AreTaken slots ds scope []) (sym (grind arith)) taken in
        let others = validations_give more l2 rest taken2 expressions.2 used2 (λ h. may (or_right (first_cost || told_cost) more_cost h)) in
        let place : l2.place ≡ l.place + validation_size (rule_part ds l rule_env r) = message_place l1 r.message ∙ omega arith in
        (first, told, subst (λ (p : ℕ). ValidationsGive f s c p (rule_parts ds l2 rule_env more)) place others)

-- ---- the variables

scope_length : (image : loader.Image) (deep : Bool) (roots : Roots) (vs : List VariableTree) (scope : List Variable) (ds : List Declaration) (l : Laid)
    → length (scope_with image deep roots scope ds l vs) ≡ length scope + length vs
scope_length image deep roots [] scope ds l = omega arith
scope_length image deep roots (v ∷ more) scope ds l =
    let u = newest image deep roots scope l v in
    let one = length-append scope (u ∷ []) in
    scope_length image deep roots more (scope ++ u ∷ []) (with_variable ds v) (with_routine ds l v) ∙ omega arith

-- ---- the policy

module _ (law : DecodesSpelling) (f : FailurePolicy) (p : PolicyTree) (roots : Roots) (image : loader.Image) (values : Contents) (has : HasProgram p) (insns : AreInsns (program_of f p)) (code_is : image.code ≡ spellings (program_of f p)) (constants_are : image.constants ≡ joined (policy_texts p)) (bytes : All (λ b. b < 256) image.code) (constant_bytes : All (λ b. b < 256) image.constants) (table : HasValues roots values) where
  abbrev deep : Bool
  deep = (policy_cost f p roots).is_deep

  abbrev scope : List Variable
  scope = scope_with image deep roots [] [] nothing_laid p.variables

  abbrev ds : List Declaration
  ds = scope_after p.variables

  abbrev routines : List (List Insn)
  routines = variable_codes [] nothing_laid p.variables

  abbrev conditions : List Part
  conditions = condition_parts roots (laid_routines p) p.conditions

  abbrev env : Environment
  env = environment_with roots (bindings scope)

  abbrev rules : List ValidationPart
  rules = rule_parts ds (laid_conditions p) env p.validations

  abbrev start : CpuState
  start = start_body image values

  -- the values of the names
  names_are : bindings scope ≡ values_of roots p.variables
  names_are = values_are image deep roots p.variables [] [] nothing_laid

  runs_is : passes f conditions ≡ runs_on f p roots
  runs_is = ap (λ vs. is_none (decided_before f (map truth_of vs))) (condition_values_are roots (laid_routines p) p.conditions)

  decision_is : verdict_of f (values_given conditions) (values_of_validations rules) ≡ decision_of f p roots
  unfolding decision_of
  decision_is = grind (arith, condition_values_are, rule_values_are, names_are)

  whole_is : program_of f p ≡ policy_code f routines (codes_of conditions) (codes_of_validations rules) ++ Exit ∷ []
  unfolding program_of
  whole_is = grind (arith, condition_codes_are, rule_codes_are)

  -- ---- the whole policy bounds each depth

  deep_variables : (variables_cost roots [] p.variables).is_deep ≡ true → deep ≡ true
  unfolding policy_cost
  deep_variables e = grind (arith, or_left)

  deep_conditions : (conditions_cost roots p.conditions).is_deep ≡ true → deep ≡ true
  unfolding policy_cost
  deep_conditions e = grind (arith, or_left, or_right)

  deep_rules : (validations_cost (runs_on f p roots) f (environment_with roots (values_of roots p.variables)) p.validations).is_deep ≡ true → deep ≡ true
  unfolding policy_cost
  deep_rules e = grind (arith, or_right)

  -- ---- the texts

  few_constants : length image.constants ≤ constants_limit
  few_constants = let few = has.few_texts in subst (λ (bs : List ℕ). length bs ≤ constants_limit) (sym constants_are) few

  used_first : policy_texts p ≡ with_texts [] (variable_texts p.variables ++ (condition_texts p.conditions ++ validation_texts p.validations))
  unfolding policy_texts
  used_first = refl

  used_second : policy_texts p ≡ with_texts (laid_routines p).texts (condition_texts p.conditions ++ validation_texts p.validations)
  used_second = grind (arith, used_more, used_first, variables_texts)

  used_third : policy_texts p ≡ with_texts (laid_conditions p).texts (validation_texts p.validations ++ [])
  used_third = grind (arith, used_more, used_second, conditions_texts, append-nil)

  -- ---- the scope of all variables

  has_whole : IsCodeAt image.code 0 (program_of f p)
  has_whole =
      let same : spellings (program_of f p) ≡ spellings (program_of f p) ++ [] = sym (append-nil (spellings (program_of f p))) in
      subst (λ (bs : List ℕ). IsCodeAt bs 0 (program_of f p)) (sym (code_is ∙ same)) (spelled_stands law [] [] (program_of f p) 0 refl (subst (λ (bs : List ℕ). All (λ b. b < 256) bs) (code_is ∙ same) bytes) insns)

  has_routines : IsCodeAt image.code 0 (routines_code routines)
  unfolding policy_code
  has_routines = grind (arith, whole_is, has_whole, stands_front)

  known : Known image deep roots scope ds (laid_routines p)
  known =
      variables_known image deep roots (policy_texts p) constants_are few_constants (condition_texts p.conditions ++ validation_texts p.validations) p.variables [] [] nothing_laid used_first deep_variables (omega arith) has.variables has_routines (record { taken = record { slots_are = refl; depths_are = refl }; is = no_scope image deep roots image.constants; shallow = tt })

  slots_are : map (λ (v : Variable). v.routine) scope ≡ (laid_routines p).routines
  slots_are = ap (map (λ (v : Variable). v.routine)) (sym (append-nil scope)) ∙ known.taken.slots_are

  short_scope : length scope ≤ memo_limit
  short_scope = let few = has.few_variables in let long = scope_length image deep roots p.variables [] [] nothing_laid in omega arith

  -- ---- the places of the parts, and their values

  first_place : (laid_routines p).place ≡ conditions_place routines
  first_place = variables_place p.variables [] nothing_laid ∙ omega arith

  second_place : (laid_conditions p).place ≡ validations_place f routines conditions
  second_place = grind (arith, conditions_place_is, condition_codes_are, first_place)

  give_conditions : ConditionsGive (scope_setting image deep scope) (routine_context roots (bindings scope) image.constants) (conditions_place routines) conditions
  give_conditions = grind (arith, first_place, conditions_give, few_constants, slots_are, used_second, deep_conditions)

  -- if the validations run, they cost what the definition says
  cost_is : passes f conditions ≡ true
      → validations_cost true f env p.validations ≡ validations_cost (runs_on f p roots) f (environment_with roots (values_of roots p.variables)) p.validations
  cost_is runs = grind (arith, names_are, runs_is)

  give_validations : passes f conditions ≡ true
      → ValidationsGive f (scope_setting image deep scope) (routine_context roots (bindings scope) image.constants) (validations_place f routines conditions) rules
  give_validations runs =
      subst (λ (n : ℕ). ValidationsGive f (scope_setting image deep scope) (routine_context roots (bindings scope) image.constants) n rules) second_place
      (validations_give image deep roots (policy_texts p) constants_are few_constants f scope ds known.shallow known.is short_scope p.validations
      (laid_conditions p) [] (subst (λ (slots : List ℕ). AreTaken slots ds scope []) (sym (conditions_slots p.conditions (laid_routines p))) known.taken)
      has.validations used_third (λ e. deep_rules (ap (λ k. k.is_deep) (sym (cost_is runs)) ∙ e)))

  -- ---- budgets

  rules_paid : (t : Bool) → passes f conditions ≡ t → (if t then validations_steps f rules + 6 else 0) ≤ steps_per_visit * (validations_cost (runs_on f p roots) f (environment_with roots (values_of roots p.variables)) p.validations).visits + 6
  rules_paid t runs = grind (arith, validations_within, cost_is)

  rules_spent : (t : Bool) → passes f conditions ≡ t → (if t then validations_charge f rules else 0) ≤ charge_per_unit * spent_by (validations_cost (runs_on f p roots) f (environment_with roots (values_of roots p.variables)) p.validations)
  rules_spent false runs = omega arith
  rules_spent true runs = omega (arith, (validations_within f ds (laid_conditions p) env p.validations).1, ap (λ (k : Cost). spent_by k) (cost_is runs))

  steps_enough : program_steps f routines conditions rules + total (first_steps scope) < steps_per_visit * policy_work f p roots
  unfolding policy_cost
  steps_enough =
      let first = steps_within image deep roots p.variables [] [] nothing_laid in
      let second = (conditions_within roots (laid_routines p) p.conditions).0 in
      let third = rules_paid (passes f conditions) refl in
      omega arith

  charge_enough : program_charge f conditions rules + total (first_charges scope) ≤ charge_per_unit * policy_spent f p roots
  unfolding policy_cost
  charge_enough =
      let first = charges_within image deep roots p.variables [] [] nothing_laid in
      let second = (conditions_within roots (laid_routines p) p.conditions).1 in
      let third = rules_spent (passes f conditions) refl in
      omega arith

  -- ---- the end

  decided : {t : State} → ExitsOrRunsOut (scope_setting image deep scope) (program_charge f conditions rules) start (LeavesVerdict f (decision_of f p roots)) t → Decides f p roots values t
  decided h0 = grind (arith, charges-most, charge_enough)

  pub decides : (m : ℕ) → steps_per_visit * policy_work f p roots ≤ m → Decides f p roots values (state_after m (start_state image values))
  decides m enough =
      let whole = sym (append-nil (spellings (policy_code f routines (codes_of conditions) (codes_of_validations rules) ++ Exit ∷ []))) in
      let code : image.code ≡ spellings (policy_code f routines (codes_of conditions) (codes_of_validations rules) ++ Exit ∷ []) ++ [] = code_is ∙ ap spellings whole_is ∙ whole in
      let steps = steps_enough in
      let halts = policy_decides law image deep values roots scope f routines conditions rules [] m code bytes constant_bytes
      (subst AreInsns whole_is insns) table (let few = has.few_validations in let long = rules_length ds (laid_conditions p) env p.validations in omega arith)
      give_conditions give_validations (omega arith) in
      decided (subst (λ (v : Verdict). ExitsOrRunsOut (scope_setting image deep scope) (program_charge f conditions rules) start (LeavesVerdict f v) (state_after m (start_state image values))) decision_is halts)

pub program_decides : DecodesSpelling → ProgramIsCode → ProgramDecides
program_decides law codes f p roots image values m has code_is constants_are bytes constant_bytes table enough = grind (arith, decides)

pub program_stops : ProgramDecides → ProgramStops
program_stops law f p roots image values k has code_is constants_are bytes constant_bytes table stopped =
    let start = start_state image values in
    let m = k + steps_per_visit * policy_work f p roots in
    let same : state_after k start ≡ state_after m start = stays_stopped start (state_after k start) k m refl stopped (omega arith) in
    subst (Decides f p roots values) (sym same) (law f p roots image values m has code_is constants_are bytes constant_bytes table (omega arith))
