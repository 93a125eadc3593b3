-- Facts about the parts of a policy's code: the place of each expression, its value, its steps and its charge.
use Rattle.std.specs.Prelude.{◌≡◌, ℕ, ◌+◌, List, [], ◌∷◌, map, Bool, true, Option, Some, None, option_map, if◌then◌else◌}
use Rattle.insn_codec.specs.declared.insn.Insn.{Insn}
use Rattle.value_store.specs.Value.{ValueOrError}
use Rattle.expression_code.specs.Contexts.{Context, Evaluates}
use Rattle.expression_code.specs.Engine.{RunContext}
use Rattle.expression_code.specs.Pieces.{size}
use Rattle.policy_code.specs.Program.{ValidationCode}
use Rattle.verdicts.specs.Verdict.{Finding, denies, finding_of, truth_of}
use Rattle.verdicts.specs.declared.failure_policy.FailurePolicy.{FailurePolicy}

-- the code of an expression, its value or error, and bounds on the steps and the charge of computing it
pub record Part : Type 0 where
  pub code : List Insn
  pub value : ValueOrError
  pub steps : ℕ
  pub charge : ℕ

-- a validation, and its message expression if it has one
pub record ValidationPart : Type 0 where
  pub expression : Part
  pub message : Option Part

abbrev pub codes_of : List Part → List (List Insn)
codes_of parts = map (λ a. a.code) parts

abbrev pub values_given : List Part → List ValueOrError
values_given parts = map (λ a. a.value) parts

abbrev pub codes_of_validation : ValidationPart → ValidationCode
codes_of_validation r = (r.expression.code, option_map (λ m. m.code) r.message)

abbrev pub codes_of_validations : List ValidationPart → List ValidationCode
codes_of_validations rules = map codes_of_validation rules

abbrev pub values_of_validation : ValidationPart → ValueOrError × Option ValueOrError
values_of_validation r = (r.expression.value, option_map (λ m. m.value) r.message)

abbrev pub values_of_validations : List ValidationPart → List (ValueOrError × Option ValueOrError)
values_of_validations rules = map values_of_validation rules

-- the result of a validation
abbrev pub found : FailurePolicy → ValidationPart → Finding
found f r = finding_of f (values_of_validation r)

-- ---- places

-- the number of slots after a condition, after all conditions if there are any, and after the expression of a
-- validation and of a message
abbrev pub condition_slots : ℕ
condition_slots = 9

abbrev pub decided_slots : {A : Type 0} → List A → ℕ
decided_slots [] = 0
decided_slots (condition ∷ more) = 5

abbrev pub result_slots : ℕ
result_slots = 10

abbrev pub message_slots : ℕ
message_slots = 7

abbrev pub message_size : Option Part → ℕ
message_size (Some m) = size m.code + message_slots
message_size None = 0

abbrev pub validation_size : ValidationPart → ℕ
validation_size r = size r.expression.code + result_slots + message_size r.message

abbrev pub PartGives : RunContext → Context → ℕ → Part → Type 0
PartGives s c p a = Evaluates s p a.code c 0 0 a.value a.steps a.charge

-- each condition gives its value at its place; the first one begins at slot p
abbrev pub ConditionsGive : RunContext → Context → ℕ → List Part → Type 0
ConditionsGive s c p [] = Unit {0}
ConditionsGive s c p (a ∷ more) = PartGives s c p a × ConditionsGive s c (p + size a.code + condition_slots) more

-- a message gives its value if it is evaluated
abbrev pub MessageGives : RunContext → Context → ℕ → Bool → Option Part → Type 0
MessageGives s c p denied (Some m) = denied ≡ true → PartGives s c p m
MessageGives s c p denied None = Unit {0}

-- each validation gives its value, and its message too if the validation denies
abbrev pub ValidationsGive : FailurePolicy → RunContext → Context → ℕ → List ValidationPart → Type 0
ValidationsGive f s c p [] = Unit {0}
ValidationsGive f s c p (r ∷ more) = PartGives s c p r.expression
    × MessageGives s c (p + size r.expression.code + result_slots) (denies f (truth_of r.expression.value)) r.message
    × ValidationsGive f s c (p + validation_size r) more

-- ---- budgets

-- the steps of a message, which is evaluated only for a denial
abbrev pub message_steps : Bool → Option Part → ℕ
message_steps denied (Some m) = if denied then m.steps + 6 else 0
message_steps denied None = 0

abbrev pub message_charge : Bool → Option Part → ℕ
message_charge denied (Some m) = if denied then m.charge + 1 else 0
message_charge denied None = 0

abbrev pub validation_steps : FailurePolicy → ValidationPart → ℕ
validation_steps f r = r.expression.steps + 8 + message_steps (denies f (truth_of r.expression.value)) r.message

abbrev pub validation_charge : FailurePolicy → ValidationPart → ℕ
validation_charge f r = r.expression.charge + message_charge (denies f (truth_of r.expression.value)) r.message

abbrev pub conditions_steps : List Part → ℕ
conditions_steps [] = 0
conditions_steps (a ∷ more) = a.steps + 6 + conditions_steps more

abbrev pub conditions_charge : List Part → ℕ
conditions_charge [] = 0
conditions_charge (a ∷ more) = a.charge + conditions_charge more

abbrev pub validations_steps : FailurePolicy → List ValidationPart → ℕ
validations_steps f [] = 0
validations_steps f (r ∷ more) = validation_steps f r + validations_steps f more

abbrev pub validations_charge : FailurePolicy → List ValidationPart → ℕ
validations_charge f [] = 0
validations_charge f (r ∷ more) = validation_charge f r + validations_charge f more
