-- Proof obligations of `Checkpoints::keep` (src/checkpoints.rt).
use Rattle.history.proofs.Prelude.{◌≡◌, ◌∙◌, Bool, arith, ap, map, refl, subst, sym, state_after, ◌≤◌, [], length, length-map, IsCheckpoint, KeepsPlaces, with_place}
use Rattle.history.proofs.Places.{is_due, kept_all, kept_one, kept_spared, newest_all, newest_within, own_place, places_kept}
use Rattle.history.proofs.checkpoints.Checkpoints.keep.Given as given
use Rattle.history.proofs.checkpoints.Checkpoints.keep.Goals as goal

pub returns-then-place-ne0-clause-kept : goal.returns-then-place-ne0-clause-kept
returns-then-place-ne0-clause-kept g c = kept_all _ _ refl

pub returns-in_err-checkpoint-clause-kept : goal.returns-in_err-checkpoint-clause-kept
returns-in_err-checkpoint-clause-kept g c = kept_spared _ _ c.in_err-checkpoint.ensures.spared

pub returns-in_err-checkpoint-clause-not_due : goal.returns-in_err-checkpoint-clause-not_due
returns-in_err-checkpoint-clause-not_due g c = λ not_due.
    absurd (not_due (is_due c.args.self.now.places c.args.machine.now.place c.nearest.result.now.place (omega (arith, c.if-place-ne0.false)) c.nearest.ensures.nearest (λ same. omega (arith, same, c.if-nearest-place.false))))

pub invariant_of-self : goal.invariant_of-self
invariant_of-self g c = (
  c.self.invariant.0,
  ap (λ b. b.capacity) c.push_back-oldest.ensures.items ∙ c.self.invariant.1,
  newest_all (IsCheckpoint g.E.Emulator.state (g.E.Emulator.state c.self.inside.start.machine)) _ _ _ _ (ap (λ b. b.items) c.push_back-oldest.ensures.items) c.self.invariant.2
      (c.in_ok-checkpoint.ensures.here ∙ ap (state_after _) (sym (ap (λ k. k.origin) c.self.view_is ∙ c.in_ok-checkpoint.ensures.spared.origin))),
  newest_within _ _ _ (ap (λ b. b.items) c.push_back-oldest.ensures.items) c.self.invariant.1,
)

kept : (g : given.Over) (c : goal.Joined-oldest g) → map (λ p. p.place) c.push_back-oldest.new.self.items ≡ with_place c.aside.new.self.places c.args.machine.now.place
kept g c =
    ap (λ b. map (λ p. p.place) b.items) c.push_back-oldest.ensures.items
    ∙ places_kept (λ p. p.place) c.self.inside.ring.items c.in_ok-checkpoint.checkpoint c.aside.new.self.places c.self.inside.ring.capacity (ap (λ k. k.places) c.self.view_is) c.self.invariant.1
    ∙ ap (λ k. with_place c.aside.new.self.places k) (own_place _ _ _ c.in_ok-checkpoint.ensures.nearest)

room : (g : given.Over) (c : goal.Joined-oldest g) → length c.aside.new.self.places ≤ 64
room g c = omega (arith, ap (λ k. length k.places) c.self.view_is, length-map c.self.inside.ring.items (λ p. p.place), c.self.invariant.3)

pub returns-clause-kept : goal.returns-clause-kept
returns-clause-kept g c =
    kept_one _ _ _ _ (room g c) (omega (arith, c.if-place-ne0.false)) c.in_ok-checkpoint.ensures.spared (ap (λ k. k.origin) c.self.view_is) (kept g c) (ap (λ k. k.dropped_checkpoint) c.self.view_is)

pub returns-clause-due : goal.returns-clause-due
returns-clause-due g c = λ due. record {
  between = c.aside.new.self.places;
  keeps = subst (λ (f : Bool). KeepsPlaces f c.args.self.now.places [] c.aside.new.self.places) (sym (ap (λ k. k.dropped_checkpoint) c.self.view_is)) c.in_ok-checkpoint.ensures.spared.keeps;
  added = kept g c;
}

pub returns-clause-not_due : goal.returns-clause-not_due
returns-clause-not_due g c = λ not_due.
    absurd (not_due (is_due c.args.self.now.places c.args.machine.now.place c.nearest.result.now.place (omega (arith, c.if-place-ne0.false)) c.nearest.ensures.nearest (λ same. omega (arith, same, c.if-nearest-place.false))))
