-- What is proved of a policy's code as a list of instructions.
use Rattle.std.specs.Prelude.{◌≡◌, ℕ, ◌+◌, ◌<◌, ◌≤◌, All, Bool, true, List, [], ◌∷◌, ◌++◌, length, map, is_none, if◌then◌else◌}
use Rattle.insn_codec.specs.declared.insn.Insn.{Insn, TheVariants.Exit}
use Rattle.insn_codec.specs.declared.register.Register.TheVariants.{R0}
use Rattle.loader.specs.Contents as loader
use Rattle.value_store.specs.Placing.{Contents}
use Rattle.cel_macros.specs.Environment.{Roots}
use Rattle.bpf_machine.specs.State.{start_state}
use Rattle.bpf_machine.specs.Trace.{state_after}
use Rattle.expression_code.specs.CpuState.{CpuState}
use Rattle.expression_code.specs.Contexts.{HasValues}
use Rattle.expression_code.specs.Engine.{ExitsOrRunsOut}
use Rattle.expression_code.specs.Pieces.{AreInsns, size, spellings}
use Rattle.expression_code.specs.Programs.{start_body, total}
use Rattle.expression_code.specs.Scopes.{Variable, bindings, first_steps, scope_setting}
use Rattle.expression_code.specs.Variables.{routine_context}
use Rattle.policy_code.specs.Limits.{part_limit}
use Rattle.verdicts.specs.Layout.{IsLayout, outcome_word}
use Rattle.policy_code.specs.Program.{conditions_code, policy_code, routines_code}
use Rattle.policy_code.specs.ProgramParts.{ConditionsGive, Part, ValidationPart, ValidationsGive, codes_of, conditions_charge, conditions_steps}
use Rattle.policy_code.specs.ProgramParts.{decided_slots, codes_of_validations, values_of_validations, validations_charge, validations_steps, values_given}
use Rattle.verdicts.specs.Verdict.{Verdict, decided_before, truth_of, verdict_of}
use Rattle.verdicts.specs.declared.failure_policy.FailurePolicy.{FailurePolicy}

-- R0 holds the outcome's word, and the verdict region is the layout of the verdict
pub record LeavesVerdict (f : FailurePolicy) (v : Verdict) (b : CpuState) : Type 0 where
  pub answers : b.registers R0 ≡ outcome_word v.outcome
  pub layout : IsLayout f v b.values.values b.memory.verdict

-- whether the conditions let the policy run
abbrev pub passes : FailurePolicy → List Part → Bool
passes f conditions = is_none (decided_before f (map truth_of (values_given conditions)))

-- the steps of the program without its exit and without the first uses of variables; validations count if the policy
-- runs
abbrev pub program_steps : FailurePolicy → List (List Insn) → List Part → List ValidationPart → ℕ
program_steps f routines conditions rules =
    length routines + (conditions_steps conditions + 3 + (if passes f conditions then validations_steps f rules + 6 else 0))

abbrev pub program_charge : FailurePolicy → List Part → List ValidationPart → ℕ
program_charge f conditions rules = conditions_charge conditions + (if passes f conditions then validations_charge f rules else 0)

-- the first slot of the conditions, and of the validations
abbrev pub conditions_place : List (List Insn) → ℕ
conditions_place routines = size (routines_code routines)

abbrev pub validations_place : FailurePolicy → List (List Insn) → List Part → ℕ
validations_place f routines conditions =
    conditions_place routines + size (conditions_code f (codes_of conditions)) + decided_slots conditions

-- An image that begins with the code of a policy and an exit is run from the start. After its steps and those of its
-- variables it has exited with the verdict's outcome and layout, or stopped for its charge or a depth.
abbrev pub PolicyDecides : Type 0
PolicyDecides = (image : loader.Image) (deep : Bool) (values : Contents) (roots : Roots) (scope : List Variable) (f : FailurePolicy)
    (routines : List (List Insn)) (conditions : List Part) (rules : List ValidationPart) (after : List ℕ) (m : ℕ)
    → let code = policy_code f routines (codes_of conditions) (codes_of_validations rules) ++ Exit ∷ [] in
    image.code ≡ spellings code ++ after → All (λ b. b < 256) image.code → All (λ b. b < 256) image.constants → AreInsns code
    → HasValues roots values → length rules ≤ part_limit
    → let s = scope_setting image deep scope in let c = routine_context roots (bindings scope) image.constants in
    ConditionsGive s c (conditions_place routines) conditions
    → (passes f conditions ≡ true → ValidationsGive f s c (validations_place f routines conditions) rules)
    → program_steps f routines conditions rules + total (first_steps scope) < m
    → ExitsOrRunsOut s (program_charge f conditions rules) (start_body image values)
    (LeavesVerdict f (verdict_of f (values_given conditions) (values_of_validations rules))) (state_after m (start_state image values))
