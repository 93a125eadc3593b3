-- What is proved of the image of a compiled policy.
use Rattle.std.specs.Prelude.{◌≡◌, ℕ, ◌*◌, ◌<◌, ◌≤◌, All, false, length, Result, Ok, Err}
use Rattle.expression_code.specs.Limits.{slots_per_node, steps_per_visit}
use Rattle.loader.specs.Contents as loader
use Rattle.loader.specs.declared.version.Version.TheVariants.{Second}
use Rattle.value_store.specs.Placing.{Contents}
use Rattle.cel_macros.specs.Environment.{Roots}
use Rattle.bpf_machine.specs.State.{start_state}
use Rattle.bpf_machine.specs.Step.{is_running}
use Rattle.bpf_machine.specs.Trace.{state_after}
use Rattle.expression_code.specs.Contexts.{HasValues}
use Rattle.policy_code.specs.Budget.{policy_work}
use Rattle.policy_glue.specs.Limits.{Compiles}
use Rattle.policy_code.specs.Limits.{policy_nodes}
use Rattle.verdicts.specs.Policy.{Policy}
use Rattle.policy_code.specs.ProgramTrees.{Decides}
use Rattle.policy_code.specs.Trees.{PolicyTree}
use Rattle.policy_glue.specs.declared.compile_error.CompileError.{CompileError, TheVariants.Memory}
use Rattle.verdicts.specs.declared.failure_policy.FailurePolicy.{FailurePolicy}

-- An image of version 2 with at most 128 slots of 8 bytes for each of the policy's nodes. On any five roots it has
-- decided as the policy does after 128 steps for each unit of the policy's work, and also if it stopped earlier.
pub record IsProgram (f : FailurePolicy) (t : PolicyTree) (image : loader.Image) : Type 0 where
  pub version : image.version ≡ Second
  pub code : All (λ b. b < 256) image.code
  pub constants : All (λ b. b < 256) image.constants
  pub few_slots : length image.code ≤ 8 * (slots_per_node * policy_nodes t)
  pub decides : (roots : Roots) (values : Contents) (m : ℕ) → HasValues roots values → steps_per_visit * policy_work f t roots ≤ m
      → Decides f t roots values (state_after m (start_state image values))
  pub stops : (roots : Roots) (values : Contents) (k : ℕ) → HasValues roots values
      → is_running (state_after k (start_state image values)).status ≡ false
      → Decides f t roots values (state_after k (start_state image values))

-- the image of a policy that compiles
pub record IsCompiled (p : Policy) (image : loader.Image) : Type 0 where
  pub trees : PolicyTree
  pub compiles : Compiles p (Ok trees)
  pub program : IsProgram p.failure_policy trees image

-- the image or the reason for the refusal; or an allocation failed
abbrev pub CompilesTo : Policy → Result loader.Image CompileError → Type 0
CompilesTo p (Ok image) = IsCompiled p image
CompilesTo p (Err Memory) = Unit {0}
CompilesTo p (Err e) = Compiles p (Err e)
