-- Proofs of `review_files::review_held`: the result meets the contract.

use Rattle.review_runner.proofs.Prelude.{◌∙◌, Some, Ok, Err, ap, sym, option_map, held_view, reviewed}
use Rattle.admission.specs.declared.run_error.RunError.TheVariants.{Memory}
use Rattle.review_runner.proofs.PolicyFiles.{same_documents, was_reviewed}
use Rattle.admission.proofs.Results.{is_err}
use Rattle.review_runner.proofs.review_files.review_held.Goals as goal

pub returns-in_err-reply : goal.returns-in_err-reply
returns-in_err-reply c d profile is =
    let given = ap Some c.deref-2.ensures.value ∙ sym (ap (option_map (λ b. b.items)) c.in-Some.is) in
    let same = same_documents _ d (held_view c.args.held.now) (sym profile) is c.deref.ensures.value given c.as_deref.ensures.value c.as_deref-2.ensures.value in
    rw (is_err c.from_residual.ensures.1) (was_reviewed _ d _ (Err _) same profile c.in_err-reply.ensures.reviews c.in_err-reply.ensures.runs)

pub returns-in_err-printed : goal.returns-in_err-printed
returns-in_err-printed c d profile is = rw (is_err c.from_residual-in_err-printed.ensures.1) (reviewed (Err Memory) profile tt tt)

pub returns : goal.returns
returns c d profile is =
    let given = ap Some c.deref-2.ensures.value ∙ sym (ap (option_map (λ b. b.items)) c.in-Some.is) in
    let same = same_documents _ d (held_view c.args.held.now) (sym profile) is c.deref.ensures.value given c.as_deref.ensures.value c.as_deref-2.ensures.value in
    rw c.in_ok-printed.ensures (was_reviewed _ d _ (Ok _) same profile c.in_ok-reply.ensures.reviews c.in_ok-reply.ensures.runs)
