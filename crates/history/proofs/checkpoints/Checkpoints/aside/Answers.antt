-- Proof obligations of `Checkpoints::aside` (src/checkpoints.rt).
use Rattle.history.proofs.Prelude.{◌∷◌, ◌∙◌, ℕ, ap, arith, inl, inr, length, refl, subst, sym, state_after, IsNearest}
use Rattle.history.proofs.Places.{copy_of, nearest_with, nearest_without, spared_all, spared_on}
use Rattle.history.proofs.checkpoints.Checkpoints.aside.Goals as goal

pub returns-in-Ok-clause-nearest : goal.returns-in-Ok-clause-nearest
returns-in-Ok-clause-nearest g c =
    c.loop-copy.invariant.nearest c.in-Ok.copy.place
    (subst (λ (p : ℕ). IsNearest (0 ∷ c.args.shown.now.place ∷ c.loop-copy.self.places) c.args.k p) (sym c.in-Ok.ensures.0)
    (nearest_with _ _ c.nearest.result.now.place c.args.shown.now.place c.nearer-nearest.result.now.place c.nearest.ensures.nearest
    (elim c.nearer-nearest.ensures.one [ inl same ↦ inl (ap (λ p. p.place) same) | inr same ↦ inr (ap (λ p. p.place) same) ])
    c.nearer-nearest.ensures.at_most c.nearer-nearest.ensures.greatest.0 c.nearer-nearest.ensures.greatest.1))

pub returns-then-oldest-place-clause-nearest : goal.returns-then-oldest-place-clause-nearest
returns-then-oldest-place-clause-nearest g c =
    c.loop-copy.invariant.nearest c.in-Some.oldest.place
    (subst (λ (p : ℕ). IsNearest (0 ∷ c.args.shown.now.place ∷ c.loop-copy.self.places) c.args.k p) (sym c.if-oldest-place.true)
    (nearest_with _ _ c.nearest.result.now.place c.args.shown.now.place c.nearer-nearest.result.now.place c.nearest.ensures.nearest
    (elim c.nearer-nearest.ensures.one [ inl same ↦ inl (ap (λ p. p.place) same) | inr same ↦ inr (ap (λ p. p.place) same) ])
    c.nearer-nearest.ensures.at_most c.nearer-nearest.ensures.greatest.0 c.nearer-nearest.ensures.greatest.1))

pub loop-copy-preserved : goal.loop-copy-preserved
loop-copy-preserved g c = record {
  spared = spared_on _ _ _ c.loop-copy.invariant.spared c.in-Some.ensures.spared;
  nearest =
      nearest_without _ _ _ _ _ c.in-Some.oldest.place c.nearer-nearest.result.now.place c.loop-copy.invariant.nearest c.in-Some.ensures.some.1
      (nearest_with _ _ c.nearest.result.now.place c.args.shown.now.place c.nearer-nearest.result.now.place c.nearest.ensures.nearest
      (elim c.nearer-nearest.ensures.one [ inl same ↦ inl (ap (λ p. p.place) same) | inr same ↦ inr (ap (λ p. p.place) same) ])
      c.nearer-nearest.ensures.at_most c.nearer-nearest.ensures.greatest.0 c.nearer-nearest.ensures.greatest.1)
      (λ same. c.if-oldest-place.false (sym same));
}

-- ---- the other goals, which a search would find

pub loop-copy-init : goal.loop-copy-init
loop-copy-init g c = record { spared = spared_all _ _ refl; nearest = λ p is. is }

pub returns-in-Ok-clause-spared : goal.returns-in-Ok-clause-spared
returns-in-Ok-clause-spared g c = c.loop-copy.invariant.spared

pub returns-in-Ok-clause-here : goal.returns-in-Ok-clause-here
returns-in-Ok-clause-here g c =
    copy_of (λ m. m.place) (λ m. g.E.Emulator.state m.machine) c.args.self.now.origin c.loop-copy.self.origin c.nearest.result.now c.args.shown.now c.nearer-nearest.result.now c.in-Ok.copy
    c.nearer-nearest.ensures.one c.nearest.ensures.here c.loop-copy.invariant.spared.origin c.requires c.in-Ok.ensures

pub returns-in_default-take_oldest-clause-spared : goal.returns-in_default-take_oldest-clause-spared
returns-in_default-take_oldest-clause-spared g c = spared_on _ _ _ c.loop-copy.invariant.spared c.take_oldest.ensures.spared

pub returns-then-oldest-place-clause-spared : goal.returns-then-oldest-place-clause-spared
returns-then-oldest-place-clause-spared g c = spared_on _ _ _ c.loop-copy.invariant.spared c.in-Some.ensures.spared

pub returns-then-oldest-place-clause-here : goal.returns-then-oldest-place-clause-here
returns-then-oldest-place-clause-here g c = c.in-Some.ensures.some.0 ∙ ap (state_after _) c.loop-copy.invariant.spared.origin

pub loop-copy-smaller : goal.loop-copy-smaller
loop-copy-smaller g c = omega (arith, ap (λ ps. length ps) c.in-Some.ensures.some.1)
