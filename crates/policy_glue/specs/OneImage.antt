-- The image that is built for a policy. Nobody has to trust this definition: `IsProgram` states what an image does,
-- for any image. It only pins the image, so that a policy has one (law `compiles_once`), which is the one that
-- `compile` returns, and a review has one answer.
use Rattle.std.specs.Prelude.{◌≡◌, ℕ, List, Ok}
use Rattle.loader.specs.Contents as loader
use Rattle.loader.specs.declared.version.Version.{Version, TheVariants.Second}
use Rattle.expression_code.specs.Pieces.{spellings}
use Rattle.tree_code.specs.Constants.{joined}
use Rattle.policy_glue.specs.Limits.{Compiles}
use Rattle.policy_code.specs.Limits.{policy_texts}
use Rattle.verdicts.specs.Policy.{Policy}
use Rattle.policy_code.specs.ProgramCode.{program_of}
use Rattle.policy_code.specs.Trees.{PolicyTree}
use Rattle.verdicts.specs.declared.failure_policy.FailurePolicy.{FailurePolicy}

-- the contents of an image of this version
abbrev pub contents : Version → List ℕ → List ℕ → loader.Image
contents version code constants = record { version = version; code = code; constants = constants }

-- the image of a policy: the code of its program and its texts, in version 2
abbrev pub program_image : FailurePolicy → PolicyTree → loader.Image
program_image f t = contents Second (spellings (program_of f t)) (joined (policy_texts t))

-- the image is the one built for this policy
pub record OneImage (p : Policy) (image : loader.Image) : Type 0 where
  pub trees : PolicyTree
  pub compiles : Compiles p (Ok trees)
  pub is : image ≡ program_image p.failure_policy trees
