-- Proofs of `policy_json::write_named_items`: the result meets the contract; the loop invariant holds at first and is kept.

use Rattle.policy_translation.proofs.Tokens.{one}
use Rattle.policy_glue.specs.Policy.{named_view}
use Rattle.policy_translation.specs.TranslationText.{named_data}
use Rattle.policy_translation.proofs.TranslationTexts.{items_last, items_more}
use Rattle.policy_translation.proofs.policy_json.write_named_items.Goals as goal

pub loop-item-init : goal.loop-item-init
loop-item-init c = one c.in_ok-begin_array.ensures

pub loop-item-preserved : goal.loop-item-preserved
loop-item-preserved c =
    items_more named_data named_view c.args.named.now _ c.item-item.result c.loop-item-test.true c.item-item.is c.loop-item.invariant c.in_ok-write_named.ensures

pub returns : goal.returns
returns c = items_last named_data named_view c.args.named.now _ c.loop-item-test.false c.end_array.result c.loop-item.invariant c.end_array.ensures
