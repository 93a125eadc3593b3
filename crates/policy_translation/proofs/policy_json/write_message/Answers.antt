-- Proofs of `policy_json::write_message`: the result meets the contract.

use Rattle.std.proofs.Common.{◌∙◌, sym}
use Rattle.policy_translation.proofs.TranslationTexts.{message_none, message_some}
use Rattle.policy_translation.proofs.policy_json.write_message.Goals as goal

pub returns-then-is_empty : goal.returns-then-is_empty
returns-then-is_empty c = message_none c.args.writer.now c.args.message.now (sym c.is_empty.ensures ∙ c.if-is_empty.true)

pub returns : goal.returns
returns c =
    message_some c.args.writer.now c.write_text.new.writer c.args.message.now (sym c.is_empty.ensures ∙ c.if-is_empty.false) c.write_text.result c.write_text.ensures
