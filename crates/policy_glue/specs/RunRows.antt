-- Programs of policies run by hand, step by step, on five roots that are `null`.
use Rattle.std.specs.Prelude.{◌≡◌, ℕ, List, [], ◌∷◌, map, Some, codes}
use Rattle.guest_memory.specs.RegionWords.{word_in}
use Rattle.cel_reader.specs.Tree.{Tree, literal, null}
use Rattle.cel_reader.specs.Written.{str, yes, no}
use Rattle.cel_macros.specs.Written.{variable}
use Rattle.bpf_machine.specs.State.{State, null_values, start_state}
use Rattle.bpf_machine.specs.Trace.{state_after}
use Rattle.bpf_machine.specs.declared.status.Status.TheVariants.{Exited}
use Rattle.policy_glue.specs.DecisionRows.{bare, policy_of_validations}
use Rattle.policy_glue.specs.OneImage.{program_image}
use Rattle.policy_code.specs.Trees.{PolicyTree}
use Rattle.verdicts.specs.declared.failure_policy.FailurePolicy.{FailurePolicy, TheVariants.Fail, TheVariants.Ignore}

-- the state after this number of steps
abbrev pub run : FailurePolicy → PolicyTree → ℕ → State
run f p n = state_after n (start_state (program_image f p) null_values)

-- these words of the verdict region
abbrev pub words : List ℕ → State → List ℕ
words places s = map (word_in s.memory.verdict) places

-- an expression that is not a bool
abbrev pub other : Tree
other = literal null

abbrev pub false_with_message : PolicyTree
false_with_message = policy_of_validations (record { expression = no; message = Some (str "a") } ∷ [])

abbrev pub under_conditions : List Tree → PolicyTree
under_conditions conditions = record { variables = []; conditions = conditions; validations = bare no ∷ [] }

abbrev pub false_variable : PolicyTree
false_variable =
    record { variables = record { name = codes "v"; expression = no } ∷ []; conditions = []; validations = bare (variable "v") ∷ [] }

pub record RunRowsStand : Type 0 where
  -- the outcome, one denial, the result false, and the reference of the message text
  pub denied : (run Fail false_with_message 24).status ≡ Exited 3
  pub denied_words : words (0 ∷ 1 ∷ 2 ∷ 66 ∷ []) (run Fail false_with_message 24) ≡ 3 ∷ 1 ∷ 1 ∷ 9 ∷ []
  pub admitted : (run Fail (policy_of_validations (bare yes ∷ [])) 8).status ≡ Exited 4
  pub error_denies : (run Fail (policy_of_validations (bare other ∷ [])) 16).status ≡ Exited 3
  pub error_ignored : words (0 ∷ 1 ∷ 2 ∷ []) (run Ignore (policy_of_validations (bare other ∷ [])) 12) ≡ 4 ∷ 0 ∷ 2 ∷ []
  -- a false condition decides after one that is an error
  pub skipped : (run Fail (under_conditions (other ∷ no ∷ [])) 14).status ≡ Exited 1
  pub rejected : (run Fail (under_conditions (other ∷ yes ∷ [])) 12).status ≡ Exited 2
  pub ignored : (run Ignore (under_conditions (other ∷ yes ∷ [])) 12).status ≡ Exited 1
  pub variable_denies : (run Ignore false_variable 26).status ≡ Exited 3
