-- Proof obligations of `write_all` (src/transfer.rt).
use Rattle.streams.proofs.Prelude.{rules, arith, refl, ◌∙◌, ◌<◌, ◌+◌}
use Rattle.streams.proofs.Bytes.{adds_more, adds_none}
use Rattle.streams.proofs.transfer.write_all.Goals as goal

pub loop-at-init : goal.loop-at-init
loop-at-init g c = record { within = search rules; written = adds_none _ c.args.bytes.now; same = refl }

pub loop-at-preserved : goal.loop-at-preserved
loop-at-preserved g c =
    let more : 0 < c.in_ok-n.n = omega arith in
    record {
      within = search rules;
      written = adds_more _ _ _ _ _ _ c.loop-at.invariant.written c.in_ok-n.ensures.bytes;
      same = c.in_ok-n.ensures.ok more ∙ c.loop-at.invariant.same;
    }

pub returns-then-n-eq0-clause-part : goal.returns-then-n-eq0-clause-part
returns-then-n-eq0-clause-part g c = (c.loop-at.at + c.in_ok-n.n, omega arith, adds_more _ _ _ _ _ _ c.loop-at.invariant.written c.in_ok-n.ensures.bytes)
