-- Proof obligations of `table::width::width`.
use Rattle.std.proofs.Common.{◌≡◌, ◌+◌, ◌∙◌, max, drop, ap, arith, rules}
use Rattle.value_widths.specs.Width.{widest}
use Rattle.value_table.specs.Heads.{values_at}
use Rattle.value_table.proofs.Widths.{width_begins, width_step, width_ends}
use Rattle.value_table.proofs.table.width.+width.Goals as goal

pub loop-i-init : goal.loop-i-init
loop-i-init t c = λ vs m.
    width_begins c.args.backings.now vs c.args.cells.now c.args.place c.at-cell.result c.parts_of-parts.result.now c.requires.contents m c.at-cell.ensures.value c.parts_of-parts.ensures

pub loop-i-preserved : goal.loop-i-preserved
loop-i-preserved t c = λ vs m.
    let e : c.max-widest.result ≡ max c.loop-i.widest c.width.result = search rules in
    let ps = c.parts_of-parts.result.now in
    ap (λ n. max n (widest (values_at vs (drop (c.loop-i.i + 1) ps)))) e
    ∙ width_step vs ps c.loop-i.i c.loop-i.widest c.width.result (omega arith) (c.width.ensures vs m) ∙ c.loop-i.invariant vs m

pub returns : goal.returns
returns t c = λ vs m. width_ends vs c.parts_of-parts.result.now c.loop-i.i c.loop-i.widest _ (omega arith) (c.loop-i.invariant vs m)
