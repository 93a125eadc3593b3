-- Why a policy gives no image, and the refusal of a review for that reason.
use Rattle.wide_policy.specs.declared.wide_policy_error.WidePolicyError.{WidePolicyError}
use Rattle.wide_policy.specs.declared.wide_policy_error.WidePolicyError.TheVariants as wide_error
use Rattle.admission.specs.declared.wide_refusal.WideRefusal.{WideRefusal}
use Rattle.admission.specs.declared.wide_refusal.WideRefusal.TheVariants as wide_refusal
use Rattle.wide_tables.specs.declared.wrap_error.WrapError.{WrapError}
use Rattle.wide_tables.specs.declared.wrap_error.WrapError.TheVariants as wrap_error
use Rattle.policy_glue.specs.declared.compile_error.CompileError.{CompileError}
use Rattle.policy_glue.specs.declared.compile_error.CompileError.TheVariants as compile_error
use Rattle.policy_glue.specs.declared.policy_error.PolicyError.{PolicyError}
use Rattle.policy_glue.specs.declared.policy_error.PolicyError.TheVariants as policy_error
use Rattle.admission.specs.declared.run_error.RunError.{RunError, TheVariants.PolicyRefused, TheVariants.ReviewRefused}
use Rattle.admission.specs.declared.policy_refusal.PolicyRefusal.{PolicyRefusal, TheVariants.Unread, TheVariants.Uncompiled}
use Rattle.admission.specs.declared.policy_refusal.PolicyRefusal.TheVariants as policy_refusal
use Rattle.admission.specs.declared.run_error.RunError.TheVariants as run_error

-- the refusal of a document that is not a policy; out of memory stays `Memory`
abbrev pub document_refusal : PolicyError → PolicyRefusal
document_refusal policy_error.Memory = policy_refusal.Memory
document_refusal e = Unread e

-- the refusal of a policy that does not compile; out of memory stays `Memory`
abbrev pub compile_refusal : CompileError → PolicyRefusal
compile_refusal compile_error.Memory = policy_refusal.Memory
compile_refusal e = Uncompiled e

-- the refusal of a review for its policy; out of memory stays `Memory`
abbrev pub run_policy_refusal : PolicyRefusal → RunError
run_policy_refusal policy_refusal.Memory = run_error.Memory
run_policy_refusal e = PolicyRefused e

-- the refusal of roots that are too large with a table of indices; out of memory stays `Memory`
abbrev pub placing_refusal : WrapError → RunError
placing_refusal wrap_error.Memory = run_error.Memory
placing_refusal e = ReviewRefused

-- the refusal of a document that is not a policy in the wide language; out of memory stays `Memory`
abbrev pub wide_document_refusal : WidePolicyError → WideRefusal
wide_document_refusal wide_error.Memory = wide_refusal.Memory
wide_document_refusal e = wide_refusal.Unread e

-- the refusal of its translation, if that does not compile; out of memory stays `Memory`
abbrev pub wide_compile_refusal : CompileError → WideRefusal
wide_compile_refusal compile_error.Memory = wide_refusal.Memory
wide_compile_refusal e = wide_refusal.Uncompiled e
