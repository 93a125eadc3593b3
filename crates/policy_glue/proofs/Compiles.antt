-- The trees and the image of a policy that compiles.
use Rattle.policy_glue.proofs.Prelude.{◌≡◌, ◌≤◌, ◌*◌, ◌++◌, ◌∷◌, ℕ, Bool, true, false, nat_lt, from_program, limit_passed, List, [], Some, None, Result, Ok, length, append-nil, append_assoc, refl, sym, ap, ◌∙◌, subst, arith, ◌≢◌, ◌<◌, Err, ltb-false, All-head, All-tail, fold-append, All, if◌then◌else◌, Tree, Trees, TreeEntries, no_trees, more_trees, no_entries, more_entries, IsWellFormed, AreWellFormed, HasWellFormedEntries, expanded, expansion_plain, Declaration, scope_of, Typing, typing, CelType, expansion_typed, need, joined, HasLiterals, HaveLiterals, EntriesHaveLiterals, IsEmittable, Checks, IsFormedValidation, IsFormedVariable, IsChecked, HasTrees, EmitsProgram, Checked, TakenOrRefused, over, refused, next, IsOneOf, PartsEnd, TakesCondition, RefusesCondition, TakesValidation, RefusesValidation, TakesVariable, RefusesVariable, depth_in, expression_judged, scope_after, truths, with_variable, excess, policy_nodes, policy_texts, Compiles, NamedExpression, Validation, Policy, HasProgram, ProgramDecides, ProgramIsShort, ProgramStops, IsAcceptedPolicy, PolicyTree, ValidationTree, VariableTree, CompileError, TooManyNodes, TooManyTextBytes, nat_tests, Insn, Exit, image_from, Second, length-spelling, size-append, size-cons, size, spellings, CompilesTo, IsCompiled, OneImage, contents, program_of, FailurePolicy, word_limit, variable_depth_limit, slot_limit, constants_limit, slots_per_node}
use Rattle.cel_reader.specs.Tree as tree
use Rattle.cel_types.specs.Types as types
use Rattle.policy_glue.specs.Checking as parts
use Rattle.policy_code.specs.ProgramTrees as program
use Rattle.policy_glue.proofs.Judged.{shallow_known}
use Rattle.policy_glue.proofs.OneAnswer.{ok_same}
use Rattle.verdicts.proofs.Told.{few_parts}
use Rattle.loader.specs.Contents as loader
use Rattle.policy_code.specs.declared.program_error.ProgramError.{ProgramError}
use Rattle.policy_code.specs.declared.program_error.ProgramError.TheVariants as program_error
use Rattle.policy_glue.specs.Limits as limits
use Rattle.policy_glue.specs.declared.compile_error.CompileError.TheVariants as compile_error

-- ---- literals

mutual
  has_literals : (a : Tree) → IsWellFormed a → HasLiterals a
  has_literals (tree.literal l) f = f
  has_literals (tree.name n) f = tt
  has_literals (tree.select a n) f = has_literals a f.0
  has_literals (tree.index a b) f = (has_literals a f.0, has_literals b f.1)
  has_literals (tree.call n items) f = have_literals items f.1
  has_literals (tree.method a n items) f = (has_literals a f.0, have_literals items f.2)
  has_literals (tree.unary op a) f = has_literals a f
  has_literals (tree.binary op a b) f = (has_literals a f.0, has_literals b f.1)
  has_literals (tree.ternary a b c) f = (has_literals a f.0, has_literals b f.1, has_literals c f.2)
  has_literals (tree.list items) f = have_literals items f
  has_literals (tree.map pairs) f = entries_have_literals pairs f

  have_literals : (items : Trees) → AreWellFormed items → HaveLiterals items
  have_literals no_trees f = tt
  have_literals (more_trees a more) f = (has_literals a f.0, have_literals more f.1)

  entries_have_literals : (pairs : TreeEntries) → HasWellFormedEntries pairs → EntriesHaveLiterals pairs
  entries_have_literals no_entries f = tt
  entries_have_literals (more_entries k v more) f = (has_literals k f.0, has_literals v f.1, entries_have_literals more f.2)

-- ---- one expression

record IsJudged (t : Typing) (n : ℕ) : Type 0 where
  cel_type : CelType
  typed : t ≡ types.typed cel_type
  fits : n ≤ word_limit

judged_so : (scope : List Declaration) (a : Tree) (t : CelType) → expression_judged scope a ≡ Ok t → IsJudged (typing a (scope_of scope)) (need (expanded a))
unfolding expression_judged
judged_so scope a t is = grind arith

is_expression : (scope : List Declaration) (a : Tree) (t : CelType) → expression_judged scope a ≡ Ok t → IsWellFormed a → IsEmittable scope (expanded a)
is_expression scope a t is formed = grind (arith, judged_so, expansion_typed, expansion_plain, has_literals)

one_expression : (kinds : List CelType) (scope : List Declaration) (text : List ℕ) (a : Tree) → IsOneOf kinds scope text a → IsWellFormed a
    → IsEmittable scope (expanded a)
one_expression kinds scope text a one formed = is_expression scope a one.cel_type one.taken.judged formed

-- ---- lists: a fact that holds of no parts, and of a list with one more part in front, holds of all accepted parts

record Rest {A B : Type 0} (P : List B → List B → Type 0) (taken : List B) (ns : List A) (all : List B) : Type 0 where
  more : List B
  is : all ≡ taken ++ more
  count : length more ≡ length ns
  holds : P taken more

module _ {A B : Type 0} (Takes : List B → A → B → Type 0) (Refuses : List B → A → CompileError → Type 0) (P : List B → List B → Type 0)
    (none : (taken : List B) → P taken [])
    (one : (taken : List B) (a : A) (b : B) (more : List B) → Takes taken a b → P (taken ++ b ∷ []) more → P taken (b ∷ more)) where
  rest_of : (taken : List B) (ns : List A) (end : Result (List B) CompileError) → TakenOrRefused Takes Refuses taken ns end → (all : List B) → end ≡ Ok all
      → Rest P taken ns all
  rest_of taken ns end (over) all is = grind (arith, append-nil, ok_same)
  rest_of taken ns end (refused e no_part) all is = cc
  rest_of taken ns end (next {part =
      part} {more = others} {end = last} b takes ends) all is = grind (arith, append_assoc, rest_of (taken ++ b ∷ []) others last ends all is)

  whole_of : (ns : List A) (all : List B) → TakenOrRefused Takes Refuses [] ns (Ok all) → (length all ≡ length ns) × P [] all
  whole_of ns all ends =
      let rest = rest_of [] ns (Ok all) ends all refl in
      (ap length rest.is ∙ rest.count, subst (P []) (sym rest.is) rest.holds)

-- ---- in the form that the program needs

abbrev VariablesHold : List VariableTree → List VariableTree → Type 0
VariablesHold taken more = All IsFormedVariable more → program.AreVariables (scope_after taken) more

variable_more : (taken : List VariableTree) (n : NamedExpression) (v : VariableTree) (more : List VariableTree) → TakesVariable taken n v
    → VariablesHold (taken ++ v ∷ []) more → VariablesHold taken (v ∷ more)
variable_more taken n v more is later formed =
    let scope = scope_after taken in
    let known = shallow_known (depth_in scope v.expression) (expression_judged scope v.expression) is.cel_type is.tree.judged in
    let others = subst (λ ds. program.AreVariables ds more) (fold-append with_variable [] taken (v ∷ [])) (later (All-tail IsFormedVariable v more formed)) in
    (is_expression scope v.expression is.cel_type known.1 (All-head IsFormedVariable v more formed), ltb-false variable_depth_limit _ known.0, others)

abbrev ConditionsHold : List Tree → List Tree → Type 0
ConditionsHold taken more = All IsWellFormed more → program.AreConditions more

condition_more : (taken : List Tree) (n : NamedExpression) (a : Tree) (more : List Tree) → TakesCondition taken n a → ConditionsHold (taken ++ a ∷ []) more
    → ConditionsHold taken (a ∷ more)
condition_more taken n a more is later formed =
    (one_expression truths [] n.expression a is (All-head IsWellFormed a more formed), later (All-tail IsWellFormed a more formed))

abbrev RulesHold : List Declaration → List ValidationTree → List ValidationTree → Type 0
RulesHold scope taken more = All IsFormedValidation more → program.AreValidations scope more

rule_more : (scope : List Declaration) (taken : List ValidationTree) (n : Validation) (r : ValidationTree) (more : List ValidationTree) → TakesValidation scope taken n r
    → RulesHold scope (taken ++ r ∷ []) more → RulesHold scope taken (r ∷ more)
rule_more scope taken n r more is later formed =
    let first = All-head IsFormedValidation r more formed in
    let expression = one_expression truths scope n.expression r.expression is.expression first.0 in
    (expression, grind (arith, one_expression), later (All-tail IsFormedValidation r more formed))

-- ---- the limits

limits_by : (long many : Bool) → (if long then Some TooManyNodes else (if many then Some TooManyTextBytes else None)) ≡ None → (long ≡ false) × (many ≡ false)
limits_by false false is = (refl, refl)
limits_by _ _ is = cc

within_limits : (t : PolicyTree) → excess t ≡ None → (slots_per_node * policy_nodes t ≤ slot_limit) × (length (joined (policy_texts t)) ≤ constants_limit)
within_limits t is = grind (arith, is, limits_by, ltb-false)

-- ---- the policy

-- the trees match the parts of the policy, and well-formed trees meet what the program needs
record IsWhole (p : Policy) (t : PolicyTree) : Type 0 where
  variables : (length t.variables ≡ length p.variables) × VariablesHold [] t.variables
  conditions : (length t.conditions ≡ length p.conditions) × ConditionsHold [] t.conditions
  validations : (length t.validations ≡ length p.validations) × RulesHold (scope_after t.variables) [] t.validations

whole_by : (p : Policy) (end : Result PolicyTree CompileError) → PartsEnd p end → (t : PolicyTree) → end ≡ Ok t → IsWhole p t
whole_by p end (parts.taken vs cs rs variables conditions validations) t is =
    let scope = scope_after vs in
    subst (IsWhole p) (ok_same (record { variables = vs; conditions = cs; validations = rs }) t is) (record {
      variables = whole_of TakesVariable RefusesVariable VariablesHold (λ taken formed. tt) variable_more p.variables vs variables;
      conditions = whole_of TakesCondition RefusesCondition ConditionsHold (λ taken formed. tt) condition_more p.conditions cs conditions;
      validations = whole_of (TakesValidation scope) (RefusesValidation scope) (RulesHold scope) (λ taken formed. tt) (rule_more scope) p.validations rs validations;
    })
whole_by p end _ t is = cc

-- the checked trees can be emitted, and there are few enough validations
pub has_trees : (p : Policy) (c : Checked) → IsAcceptedPolicy p → Checks p (Ok c) → HasTrees c
has_trees p c accepted checks = grind (arith, whole_by, few_parts)

-- within the limits they have a program
pub has_program : (p : Policy) (c : Checked) → IsAcceptedPolicy p → (checks : Checks p (Ok c)) → excess checks.0 ≡ None → HasProgram checks.0
unfolding has_trees
has_program p c accepted checks within = grind (arith, has_trees, within_limits, few_parts, whole_by)

-- ---- refusals

failed : (p : Policy) (e : CompileError) → (e ≢ compile_error.Memory → Compiles p (Err e)) → CompilesTo p (Err e)
failed p e why = grind arith

-- a limit that the program passes is the policy's

passed_by : (long many : Bool) (e : ProgramError) → (if long then Some program_error.TooManyNodes else (if many then Some program_error.TooManyTextBytes else None)) ≡ Some e
    → (if long then Some TooManyNodes else (if many then Some TooManyTextBytes else None)) ≡ Some (from_program e)
passed_by true many program_error.TooManyNodes is = refl
passed_by false true program_error.TooManyTextBytes is = refl
passed_by _ _ _ is = cc

excess_passed : (t : PolicyTree) (e : ProgramError) → limit_passed t ≡ Some e → excess t ≡ Some (from_program e)
excess_passed t e is = passed_by (nat_lt slot_limit (slots_per_node * policy_nodes t)) (nat_lt constants_limit (length (joined (policy_texts t)))) e is

none_by : (long many : Bool) → (if long then Some program_error.TooManyNodes else (if many then Some program_error.TooManyTextBytes else None)) ≡ None
    → (if long then Some TooManyNodes else (if many then Some TooManyTextBytes else None)) ≡ None
none_by false false is = refl
none_by _ _ is = cc

pub none_passed : (t : PolicyTree) → limit_passed t ≡ None → excess t ≡ None
none_passed t is = none_by (nat_lt slot_limit (slots_per_node * policy_nodes t)) (nat_lt constants_limit (length (joined (policy_texts t)))) is

-- a part is refused
pub refused_part : (p : Policy) (e : CompileError) → Checks p (Err e) → CompilesTo p (Err e)
refused_part p e checks = failed p e (λ some. limits.refused e (checks some))

-- the whole policy is too large
pub refused_whole : (p : Policy) (c : Checked) (e : ProgramError) → Checks p (Ok c) → ((t : PolicyTree) → IsChecked c t → EmitsProgram p.failure_policy t (Err e))
    → CompilesTo p (Err (from_program e))
refused_whole p c e checks emits =
    failed p (from_program e) (λ some. limits.too_large checks.0 (from_program e) checks.2 (excess_passed checks.0 e (emits checks.0 checks.1 (λ is. some (ap from_program is)))))

-- ---- the image

length-spellings : (is : List Insn) → length (spellings is) ≡ 8 * size is
length-spellings [] = refl
length-spellings (i ∷ is) = grind (arith, length-spellings is, length-spelling, size-cons)

-- the program ends with an exit
ends_with : (is : List Insn) → 1 ≤ size (is ++ Exit ∷ [])
ends_with is = let whole = size-append is (Exit ∷ []) in omega arith

some_size : (f : FailurePolicy) (p : PolicyTree) → 1 ≤ size (program_of f p)
unfolding program_of
some_size f p = ends_with _

image_by : (code constants : List ℕ) (n : ℕ) → length code ≡ 8 * n → 1 ≤ n → n ≤ slot_limit → length constants ≤ constants_limit
    → image_from Second code constants ≡ Ok (contents Second code constants)
unfolding image_from
image_by code constants n long some most few = grind (arith, nat_tests)

-- ---- the whole

pub image_due : (short : ProgramIsShort) (p : Policy) (c : Checked) (f : FailurePolicy) (code constants : List ℕ) → IsAcceptedPolicy p → (checks : Checks p (Ok c))
    → excess checks.0 ≡ None → code ≡ spellings (program_of f checks.0) → constants ≡ joined (policy_texts checks.0)
    → image_from Second code constants ≡ Ok (contents Second code constants)
image_due short p c f code constants accepted checks within code_is constants_are =
    let t = checks.0 in
    let has = has_program p c accepted checks within in
    let long = ap (λ (bs : List ℕ). length bs) code_is ∙ length-spellings (program_of f t) in
    let small = short f t in
    let limit = has.short in
    image_by code constants (size (program_of f t)) long (some_size f t) (omega arith) (subst (λ (bs : List ℕ). length bs ≤ constants_limit) (sym constants_are) has.few_texts)

module _ (short : ProgramIsShort) (law : ProgramDecides) (stopped : ProgramStops) (p : Policy) (c : Checked) (code constants : List ℕ) (image : loader.Image) where
  pub image_compiled : IsAcceptedPolicy p → (checks : Checks p (Ok c)) → excess checks.0 ≡ None → code ≡ spellings (program_of p.failure_policy checks.0) → constants ≡ joined (policy_texts checks.0)
      → image ≡ contents Second code constants → All (λ b. b < 256) code → All (λ b. b < 256) constants → IsCompiled p image
  image_compiled accepted checks within code_is constants_are is bytes constant_bytes =
      let t = checks.0 in
      let f = p.failure_policy in
      let due = contents Second code constants in
      let has = has_program p c accepted checks within in
      let long = ap (λ (bs : List ℕ). length bs) code_is ∙ length-spellings (program_of f t) in
      let small = short f t in
      subst (IsCompiled p) (sym is) (record {
        trees = t;
        compiles = limits.compiled t checks.2 within;
        program = record {
          version = refl;
          code = bytes;
          constants = constant_bytes;
          few_slots = omega arith;
          decides = λ roots values m table enough. law f t roots due values m has code_is constants_are bytes constant_bytes table enough;
          stops = λ roots values k table over. stopped f t roots due values k has code_is constants_are bytes constant_bytes table over;
        };
      })

-- the image is the one that `OneImage` names
pub image_is_one : (p : Policy) (c : Checked) (code constants : List ℕ) (image : loader.Image) → (checks : Checks p (Ok c)) → excess checks.0 ≡ None
    → code ≡ spellings (program_of p.failure_policy checks.0)
    → constants ≡ joined (policy_texts checks.0) → image ≡ contents Second code constants → OneImage p image
image_is_one p c code constants image checks within code_is constants_are is =
    record { trees = checks.0; compiles = limits.compiled checks.0 checks.2 within; is = is ∙ (λ i. contents Second (code_is i) (constants_are i)) }
