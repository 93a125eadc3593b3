-- Proofs of `backings::Backings::join_texts`: the result meets the contract.

use Rattle.value_backings.proofs.Prelude.{◌∙◌, ◌+◌, ◌-◌, ◌++◌, ap, append_assoc, arith, part_of}
use Rattle.value_backings.proofs.Backed.{bytes_more, texts_joined}
use Rattle.value_backings.proofs.backings.Backings.join_texts.Goals as goal

pub returns-clause-grown : goal.returns-clause-grown
returns-clause-grown c =
    let bs = c.args.self.now.bytes in
    let ms = c.repeat.new.items.items in
    let first = c.repeat.ensures.items ∙ ap (λ bytes. bytes ++ part_of bytes c.args.first) c.in_ok-bytes.ensures.items in
    bytes_more c.args.self.now _ _ (c.repeat-2.ensures.items ∙ ap (λ bytes. bytes ++ part_of ms c.args.second) first ∙ append_assoc bs (part_of bs c.args.first) (part_of ms c.args.second))

pub returns-clause-part : goal.returns-clause-part
returns-clause-part c =
    let first = c.repeat.ensures.items ∙ ap (λ bytes. bytes ++ part_of bytes c.args.first) c.in_ok-bytes.ensures.items in
    let more = (c.args.first.to - c.args.first.from) + (c.args.second.to - c.args.second.from) in
    texts_joined _ _ _ c.args.first c.args.second _ c.requires.first c.requires.second first c.repeat-2.ensures.items
    (record { from = c.in_ok-from.ensures.from ∙ c.len.ensures.count; to = c.in_ok-from.ensures.to ∙ ap (λ n. n + more) c.len.ensures.count; json = c.in_ok-json.ensures; short = (omega arith, omega arith) })
