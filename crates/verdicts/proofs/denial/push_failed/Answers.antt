-- Proofs of `denial::push_failed`: both parts are appended.

use Rattle.verdicts.proofs.Prelude.{◌∙◌, append_assoc, codes, string_bytes}
use Rattle.verdicts.proofs.ResponseTexts.{part}
use Rattle.verdicts.proofs.denial.push_failed.Goals as goal

pub returns : goal.returns
returns c =
    part _ _ _ _ c.in_ok-push_str-2.ensures.bytes c.in_ok-push_str.ensures.bytes
    ∙ append_assoc (string_bytes c.args.text.now) (codes "failed expression: ") c.args.expression.now
