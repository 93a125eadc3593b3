-- Proof obligations of `scan` (src/passes/scan.rt).
use Rattle.assembler.proofs.Prelude.{arith, inr, map, get_by_text, item_of}
use Rattle.assembler.proofs.Named.{slots_after_label}
use Rattle.assembler.proofs.Scanning.{all_scanned, count, full_refused, goes_on, items_snoc, label_refused, read_refused, slots_step}
use Rattle.assembler.proofs.passes.scan.scan.Goals as goal

pub returns-in-Err : goal.returns-in-Err
returns-in-Err c = read_refused (map item_of c.lines.lines.items) c.in-Some.front.now _ _ _ _ c.in-Err.error c.lines.invariant.4 c.in-Some.ensures.found (count c.lines.lines.items c.len-number.result (omega (arith, c.len-number.ensures, c.lines.lines.ok.0))) c.in-Err.ensures

pub returns-in-Err-add_label : goal.returns-in-Err-add_label
returns-in-Err-add_label c =
    label_refused (map item_of c.lines.lines.items) (λ q. get_by_text c.lines.labels q) c.in-Ok.line c.in-Some.front.now _ _ _
    (record { goes = c.lines.invariant.4; cut = c.in-Some.ensures.found }) (record { has = c.lines.invariant.3; reads = c.in-Ok.ensures })
    (λ q. get_by_text c.add_label.new.labels q) c.lines.slot _ c.in-Err-add_label.error c.lines.invariant.5 (count c.lines.lines.items c.len-number.result (omega (arith, c.len-number.ensures, c.lines.lines.ok.0))) c.in-Err-add_label.ensures

pub returns-then-slot-gt-SLOT_LIMIT : goal.returns-then-slot-gt-SLOT_LIMIT
returns-then-slot-gt-SLOT_LIMIT c =
    full_refused (map item_of c.lines.lines.items) (λ q. get_by_text c.lines.labels q) c.in-Ok.line c.in-Some.front.now _ _ _
    (record { goes = c.lines.invariant.4; cut = c.in-Some.ensures.found }) (record { has = c.lines.invariant.3; reads = c.in-Ok.ensures })
    _ (count c.lines.lines.items c.len-number.result (omega (arith, c.len-number.ensures, c.lines.lines.ok.0))) (c.in_default-add_label.ensures).0 (omega (arith, c.if-slot-gt-SLOT_LIMIT.true, c.slots-slot.ensures, c.lines.invariant.0))

pub lines-preserved : goal.lines-preserved
lines-preserved c =
    let step = c.in_default-add_label.ensures in
    let items = items_snoc c.lines.lines.items c.push.new.self.items c.in-Ok.line c.in_ok-push.ensures.items in (
      slots_step c.lines.lines.items c.push.new.self.items c.in-Ok.line c.lines.slot c.slots-slot.result c.in_ok-push.ensures.items c.lines.invariant.0 c.slots-slot.ensures,
      c.if-slot-gt-SLOT_LIMIT.false,
      c.in-Some.ensures.text,
      rw items (slots_after_label (map item_of c.lines.lines.items) (item_of c.in-Ok.line) (λ q. get_by_text c.lines.labels q) (λ q. get_by_text c.add_label.new.labels q) c.lines.slot c.lines.invariant.0 c.lines.invariant.3 step.0 step.1),
      rw items (goes_on (map item_of c.lines.lines.items) (λ q. get_by_text c.lines.labels q) c.in-Ok.line c.in-Some.front.now _ _ _ (record { goes = c.lines.invariant.4; cut = c.in-Some.ensures.found }) (record { has = c.lines.invariant.3; reads = c.in-Ok.ensures }) step.0 (omega (arith, c.if-slot-gt-SLOT_LIMIT.false, c.slots-slot.ensures, c.lines.invariant.0))),
      inr (grind arith),
    )

pub returns : goal.returns
returns c = (all_scanned (map item_of c.lines.lines.items) _ _ c.lines.invariant.4 c.in_default.ensures.found, omega (arith, c.lines.invariant.0, c.lines.invariant.1), c.lines.invariant.3)
