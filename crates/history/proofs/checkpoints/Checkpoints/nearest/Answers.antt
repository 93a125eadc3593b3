-- Proof obligations of `Checkpoints::nearest` (src/checkpoints.rt).
use Rattle.history.proofs.Prelude.{rules, ◌≡◌, Some, arith, sym, ap, slice_get, IsCheckpoint}
use Rattle.history.proofs.Places.{all_at, all_places, contains_at, nearest_is, none_first, none_more_at, none_past, one_of, read_is, read_none, start_is}
use Rattle.history.proofs.checkpoints.Checkpoints.nearest.Goals as goal
use Rattle.history.proofs.checkpoints.Checkpoints.nearest.Goals.{in-Some, in_default}

pub loop-i-init : goal.loop-i-init
loop-i-init g c = record {
  here = start_is _ _ _ c.self.invariant.0 (search rules);
  among = (0, omega arith, sym c.self.invariant.0);
  at_most = omega (arith, c.self.invariant.0);
  greatest = none_first _ _ _;
}

pub loop-i-preserved : goal.loop-i-preserved
loop-i-preserved g c =
    let whole = ap (λ k. k.places) c.self.view_is in
    elim c.match-get.branch [
      | in-Some w ↦
          let is : slice_get c.self.inside.ring.items c.loop-i.i ≡ Some w.in-Some.checkpoint.now = read_is (λ b. b.now) c.get.result c.self.inside.ring.items c.loop-i.i w.in-Some.checkpoint c.get.ensures w.in-Some.is in
          rw w.nearest-is
          (record {
            here =
                one_of (IsCheckpoint g.E.Emulator.state c.args.self.now.origin) _ _ _ w.nearer-nearest.ensures.one c.loop-i.invariant.here
                (rw (← c.self.view_is) (all_at (IsCheckpoint g.E.Emulator.state (g.E.Emulator.state c.self.inside.start.machine)) c.self.inside.ring.items c.loop-i.i w.in-Some.checkpoint.now c.self.invariant.2 is));
            among = contains_at (λ p. p.place) c.self.inside.ring.items c.args.self.now.places c.loop-i.i c.loop-i.nearest.now w.in-Some.checkpoint.now w.nearer-nearest.result.now whole is w.nearer-nearest.ensures.one c.loop-i.invariant.among;
            at_most = w.nearer-nearest.ensures.at_most;
            greatest = none_more_at (λ p. p.place) c.self.inside.ring.items c.args.self.now.places c.loop-i.i c.args.k c.loop-i.nearest.now.place w.in-Some.checkpoint.now w.nearer-nearest.result.now whole is c.loop-i.invariant.greatest w.nearer-nearest.ensures.greatest.0 w.nearer-nearest.ensures.greatest.1;
          })
      | in_default w ↦
          absurd (none_past c.self.inside.ring.items c.loop-i.i (read_none (λ b. b.now) c.get.result c.self.inside.ring.items c.loop-i.i c.get.ensures w.in_default.is) (omega (arith, c.loop-i-test.true, c.len-i-end.ensures.len)))
    ]

pub returns-clause-nearest : goal.returns-clause-nearest
returns-clause-nearest g c =
    nearest_is _ c.loop-i.i _ _ c.loop-i.invariant.among c.loop-i.invariant.at_most c.loop-i.invariant.greatest
    (all_places (λ p. p.place) c.self.inside.ring.items c.args.self.now.places c.loop-i.i (ap (λ k. k.places) c.self.view_is) (omega (arith, c.loop-i-test.false, c.len-i-end.ensures.len)))
