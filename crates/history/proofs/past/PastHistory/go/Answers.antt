-- Proof obligations of `PastHistory::go` (src/past.rt).
use Rattle.history.proofs.Prelude.{◌∙◌, ◌∷◌, List, ℕ, ap, refl, subst, sym, State, state_after, IsNearest, Reaches}
use Rattle.history.proofs.Places.{keeps_since, kept_all, kept_on, kept_spared, reaches_is, replay_from, replay_none, shown_again, stands}
use Rattle.history.proofs.past.PastHistory.go.Goals as goal

pub invariant_of-self : goal.invariant_of-self
invariant_of-self g c = stands _ _ _ _ c.self.invariant (c.reaches.ensures.0 c.if-reaches.true) ∙ ap (state_after _) (sym (ap (λ k. k.origin) c.tell_anew.ensures))

pub returns-then-reaches-clause-replayed : goal.returns-then-reaches-clause-replayed
returns-then-reaches-clause-replayed g c =
    let reached = c.reaches.ensures.0 c.if-reaches.true in
    rw (← c.self.view_is) (replay_none _ _ reached.0 (reaches_is _ _ _ _ c.self.invariant reached.1))

pub returns-then-reaches-clause-keeps : goal.returns-then-reaches-clause-keeps
returns-then-reaches-clause-keeps g c =
    keeps_since _ c.tell_anew.new.self c.tell_anew.new.self (ap (λ k. k.places) c.tell_anew.ensures ∙ ap (λ h. h.checkpoints) c.self.view_is) (kept_all _ _ refl)

pub returns-in_err-from-clause-keeps : goal.returns-in_err-from-clause-keeps
returns-in_err-from-clause-keeps g c =
    keeps_since _ _ _ (ap (λ k. k.places) c.tell_anew.ensures ∙ ap (λ h. h.checkpoints) c.self.view_is) (kept_spared _ _ c.in_err-from.ensures.spared)

pub returns-in_err-reached-clause-keeps : goal.returns-in_err-reached-clause-keeps
returns-in_err-reached-clause-keeps g c =
    keeps_since _ _ _ (ap (λ k. k.places) c.tell_anew.ensures ∙ ap (λ h. h.checkpoints) c.self.view_is) (kept_on _ _ _ (kept_spared _ _ c.in_ok-from.ensures.spared) c.in_err-reached.ensures.kept)

pub invariant_of-self-2 : goal.invariant_of-self-2
invariant_of-self-2 g c = shown_again _ _ _ _ _ c.in_ok-reached.ensures.kept.origin c.in_ok-reached.ensures.here c.in_ok-reached.ensures.order c.in_ok-reached.ensures.reaches

pub returns-clause-replayed : goal.returns-clause-replayed
returns-clause-replayed g c =
    let near : IsNearest (0 ∷ c.self.inside.shown.place ∷ c.self.inside.checkpoints.places) c.args.k c.in_ok-from.from.place =
    subst (λ (ps : List ℕ). IsNearest (0 ∷ c.self.inside.shown.place ∷ ps) c.args.k c.in_ok-from.from.place) (ap (λ k. k.places) c.tell_anew.ensures) c.in_ok-from.ensures.nearest in
    let reaches : Reaches c.self.inside.checkpoints.origin c.in_ok-reached.reached.place c.args.k =
    subst (λ (s : State). Reaches s c.in_ok-reached.reached.place c.args.k) (c.in_ok-from.ensures.spared.origin ∙ ap (λ k. k.origin) c.tell_anew.ensures) c.in_ok-reached.ensures.reaches in
    rw (← c.self.view_is) (replay_from _ _ c.in_ok-from.from.place _ c.in_ok-reached.reached.place near c.in_ok-reached.ensures.order reaches c.saturating_sub-self-inside.ensures)

pub returns-clause-keeps : goal.returns-clause-keeps
returns-clause-keeps g c =
    keeps_since _ _ _ (ap (λ k. k.places) c.tell_anew.ensures ∙ ap (λ h. h.checkpoints) c.self.view_is) (kept_on _ _ _ (kept_spared _ _ c.in_ok-from.ensures.spared) c.in_ok-reached.ensures.kept)
