-- Proof obligations of `items` (src/reader.rt).
use Rattle.std.proofs.Common.{◌<◌, ◌≤◌, length, arith, sym, ◌∙◌}
use Rattle.std.proofs.lemmas.List.{length-drop}
use Rattle.pattern_reader.proofs.Loop.{starts, steps_on, stops_at, ends_well, ends_early}
use Rattle.pattern_reader.proofs.reader.items.Goals as goal

pub loop-at-init : goal.loop-at-init
loop-at-init c =
    let made = c.new-reader.ensures in
    record { within = c.requires.within; place = starts _ _ _ _ c.new-reader.result made.items made.inner made.outer made.place }

pub loop-at-preserved : goal.loop-at-preserved
loop-at-preserved c =
    let step = rw c.in-Some.is at c.in_ok-len.ensures in
    record {
      within = omega (arith, step.2, length-drop c.loop-at.at c.args.points.now);
      place = steps_on _ _ _ _ c.loop-at.reader c.step.new.self c.loop-at.at c.in-Some.len c.loop-at.invariant.place step;
    }

pub returns-in-None : goal.returns-in-None
returns-in-None c =
    let step = rw c.in-None.is at c.in_ok-len.ensures in
    let more : c.loop-at.at < length c.args.points.now = omega arith in
    (c.loop-at.invariant.within, stops_at _ _ _ _ c.loop-at.reader c.step.new.self c.loop-at.at more c.loop-at.invariant.place step)

pub returns-then-is_complete : goal.returns-then-is_complete
returns-then-is_complete c =
    let done : length c.args.points.now ≤ c.loop-at.at = omega arith in
    ends_well _ _ _ _ c.loop-at.reader c.loop-at.at done c.loop-at.invariant.place (sym c.is_complete.ensures ∙ c.if-is_complete.true)

pub returns-else-is_complete : goal.returns-else-is_complete
returns-else-is_complete c =
    let done : length c.args.points.now ≤ c.loop-at.at = omega arith in (
      c.loop-at.invariant.within,
      ends_early _ _ _ _ c.loop-at.reader c.loop-at.at done c.loop-at.invariant.place (sym c.is_complete.ensures ∙ c.if-is_complete.false),
    )
