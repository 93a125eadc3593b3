-- Proofs of `response::denied_text`: the result meets the contract.

use Rattle.verdicts.proofs.Prelude.{◌∙◌}
use Rattle.verdicts.specs.Rejections.{rejection_view}
use Rattle.verdicts.proofs.ResponseTexts.{denied_written, part}
use Rattle.verdicts.proofs.response.denied_text.Goals as goal

pub returns : goal.returns
returns c =
    part _ _ _ _ c.in_ok-extend_from_slice-5.ensures.items
    (part _ _ _ _ c.in_ok-text-5.ensures
    (part _ _ _ _ c.in_ok-extend_from_slice-4.ensures.items
    (part _ _ _ _ (rw c.name.ensures at c.in_ok-text-4.ensures)
    (part _ _ _ _ c.in_ok-extend_from_slice-3.ensures.items
    (part _ _ _ _ c.in_ok-text-3.ensures
    (part _ _ _ _ c.in_ok-extend_from_slice-2.ensures.items
    (part _ _ _ _ (rw c.code.ensures at c.in_ok-text-2.ensures)
    (part _ _ _ _ c.in_ok-extend_from_slice.ensures.items c.in_ok-text.ensures))))))))
    ∙ denied_written (rejection_view c.args.rejection) c.args.uid.now
