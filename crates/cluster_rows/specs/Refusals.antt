-- Refusals of both programs for a failed allocation: each is the word `memory`, in every part that reports it.
use Rattle.std.specs.Prelude.{◌≡◌, codes}
use Rattle.assembler.specs.declared.asm_error.AsmError.TheVariants as asm_error
use Rattle.cel_macros.specs.declared.macro_error.MacroError.TheVariants as macro_error
use Rattle.cel_tokens.specs.declared.read_error.ReadError.TheVariants as read_error
use Rattle.policy_glue.specs.declared.compile_error.CompileError.TheVariants as compile_error
use Rattle.policy_glue.specs.declared.expression_error.ExpressionError.TheVariants as expression
use Rattle.admission.specs.declared.policy_refusal.PolicyRefusal.TheVariants as policy_refusal
use Rattle.admission.specs.declared.run_error.RunError.TheVariants as run_error
use Rattle.cli.specs.Refusals.{cause_text, policy_text, program_text, run_text, uncompiled_text}

pub record MemoryRefusalsHold : Type 0 where
  pub program : program_text asm_error.Memory ≡ codes "memory"
  pub text_of_an_expression : cause_text (expression.Unread read_error.Memory) ≡ codes "memory"
  pub macros_of_an_expression : cause_text (expression.Unexpanded macro_error.Memory) ≡ codes "memory"
  pub expression_itself : cause_text expression.Memory ≡ codes "memory"
  pub compilation : uncompiled_text compile_error.Memory ≡ codes "memory"
  pub policy : policy_text policy_refusal.Memory ≡ codes "memory"
  pub review : run_text run_error.Memory ≡ codes "memory"
