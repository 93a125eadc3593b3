-- The policy of a gate.
use Rattle.std.specs.Prelude.{Bool, Option, Some, None, Result, Ok, Err}
use Rattle.loader.specs.Contents as loader
use Rattle.policy_glue.specs.Policy.{Policy}
use Rattle.policy_glue.specs.declared.compile_error.CompileError.{CompileError}

-- a policy with the texts of its author, as it is compiled, and an image; and whether its program runs on roots with a
-- table of indices beside the params
pub record GatePolicy : Type 0 where
  pub told : Policy
  pub policy : Policy
  pub image : loader.Image
  pub wrapped : Bool

-- the policy with the texts of its author; the one that is compiled, if it has no other
abbrev pub told_or : Option Policy → Policy → Policy
told_or (Some told) policy = told
told_or None policy = policy

-- the image of a gate, or why there is none
abbrev pub gate_image : Result GatePolicy CompileError → Result loader.Image CompileError
gate_image (Ok g) = Ok g.image
gate_image (Err e) = Err e
