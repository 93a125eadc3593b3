-- Proofs of `policy_json::write_named_list`: the result meets the contract.

use Rattle.std.proofs.Common.{◌∙◌, sym}
use Rattle.policy_translation.proofs.TranslationTexts.{named_none, named_some}
use Rattle.policy_translation.proofs.policy_json.write_named_list.Goals as goal

pub returns-then-is_empty : goal.returns-then-is_empty
returns-then-is_empty c = named_none c.args.writer.now c.args.key.now c.args.named.now (sym c.is_empty.ensures ∙ c.if-is_empty.true)

pub returns : goal.returns
returns c =
    named_some c.write_named_items.new.writer c.args.key.now c.args.named.now (sym c.is_empty.ensures ∙ c.if-is_empty.false) c.write_named_items.result
    c.in_ok-key.ensures c.write_named_items.ensures
