-- Proofs of `reading::read_translated`: the result meets the contract.

use Rattle.admission.proofs.Results.{is_err}
use Rattle.admission.proofs.WideGates.{document_refused, translation_refused}
use Rattle.policy_translation.proofs.reading.read_translated.Goals as goal

pub returns-in_err-policy : goal.returns-in_err-policy
returns-in_err-policy c = rw (is_err c.from_residual.ensures.1) (document_refused _ _ _ c.in_err-policy.ensures.reads)

pub returns-in_err-_image : goal.returns-in_err-_image
returns-in_err-_image c =
    rw (is_err c.from_residual-in_err-_image.ensures.1) (translation_refused _ _ c.in_ok-policy.policy c.in_ok-policy.ensures.reads _ c.in_err-_image.ensures.compiles)

pub returns : goal.returns
returns c =
    let compiled = c.in_ok-_image.ensures.compiles in record { is_said = c.in_ok-policy.ensures.reads; trees = compiled.trees; compiles = compiled.compiles }
