-- Proofs of `verdict::messages`: the loop sets the messages that count.

use Rattle.verdicts.proofs.Prelude.{◌+◌, ℕ, List, None, Bor, ap, ◌∙◌, option_map, part_limit, refl, rules, text_named, verdict_word, first_message}
use Rattle.verdicts.proofs.Lists.{filled_view, none_filled_view}
use Rattle.verdicts.proofs.verdict.messages.Goals as goal

pub loop-i-init : goal.loop-i-init
loop-i-init g c =
    let values = g.V.ValueStore.values c.args.values.now in
    let read = λ (i : ℕ). text_named values (verdict_word (g.M.Regions.bytes c.args.memory.now) (first_message + i)) in
    none_filled_view (option_map (λ (t : Bor (List ℕ)). t.now)) read None part_limit None refl

pub loop-i-preserved : goal.loop-i-preserved
loop-i-preserved g c =
    let values = g.V.ValueStore.values c.args.values.now in
    let read = λ (i : ℕ). text_named values (verdict_word (g.M.Regions.bytes c.args.memory.now) (first_message + i)) in
    filled_view (option_map (λ (t : Bor (List ℕ)). t.now)) read None part_limit c.loop-i.i c.loop-i.messages
    c.text_named.result c.loop-i.invariant (search rules) (c.text_named.ensures ∙ ap (text_named values) c.word.ensures)
