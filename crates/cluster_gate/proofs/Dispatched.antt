-- The policies of a dispatch, one after another.
use Rattle.cluster_gate.proofs.Prelude.{◌≡◌, ◌∙◌, ◌+◌, ◌<◌, ◌≤◌, ◌++◌, ◌∷◌, ℕ, zero, suc, List, [], true, false, ap, append-nil, append_assoc, arith, drop, get_or, length, refl, subst, sym, AddsPolicy, AreGatesFor, BoundPolicy, ClusterState, CodeEvents, Dispatches, Event, GivesBefore, GivesEvents, IsGateFor, KeepsEvents, OneImage, PolicyGate, Request}
use Rattle.cluster_gate.specs.Dispatch.{no_policies, next, last}
use Rattle.admission.specs.declared.language.Language.{Language}
use Rattle.admission.specs.declared.limits.Limits.{Limits}

-- The policies are read in this language.
module _ (language : Language) where
  -- ---- gates

  -- the policy of a gate, before those of the later gates
  pub record LeftPolicy (s : ClusterState) (ps : List BoundPolicy) (i : ℕ) (g : PolicyGate) : Type 0 where
    pub policy : BoundPolicy
    pub left : drop i ps ≡ policy ∷ drop (i + 1) ps
    pub gate : IsGateFor language s policy g

  later : (p : BoundPolicy) (ps : List BoundPolicy) (i : ℕ) → drop (suc i + 1) (p ∷ ps) ≡ drop (i + 1) ps
  later p ps i = let e : suc i + 1 ≡ suc (i + 1) = omega arith in rw e refl

  pub left_policy : (s : ClusterState) (ps : List BoundPolicy) (gs : List PolicyGate) (i : ℕ) (g : PolicyGate) → AreGatesFor language s ps gs → i < length gs
      → g ≡ get_or gs i g → LeftPolicy s ps i g
  left_policy s (p ∷ ps) (x ∷ gs) zero g are within is = record { policy = p; left = refl; gate = subst (λ (y : PolicyGate). IsGateFor language s p y) (sym is) are.0 }
  left_policy s (p ∷ ps) (x ∷ gs) (suc i) g are within is =
      let rest = left_policy s ps gs i g are.1 (omega (arith, within)) is in
      record { policy = rest.policy; left = rest.left ∙ ap (λ ys. rest.policy ∷ ys) (sym (later p ps i)); gate = rest.gate }
  left_policy s [] [] i g are within is = absurd (omega (arith, within))
  left_policy s [] (x ∷ gs) i g are within is = absurd are
  left_policy s (p ∷ ps) [] i g are within is = absurd are

  -- after the last gate no policy is left
  pub none_left : (s : ClusterState) (ps : List BoundPolicy) (gs : List PolicyGate) (i : ℕ) → AreGatesFor language s ps gs → length gs ≤ i → drop i ps ≡ []
  none_left s [] [] zero are past = refl
  none_left s [] [] (suc i) are past = refl
  none_left s (p ∷ ps) (x ∷ gs) zero are past = absurd (omega (arith, past))
  none_left s (p ∷ ps) (x ∷ gs) (suc i) are past = none_left s ps gs i are.1 (omega (arith, past))
  none_left s [] (x ∷ gs) i are past = absurd are
  none_left s (p ∷ ps) [] i are past = absurd are

  -- ---- events

  module _ (s : ClusterState) (review : List ℕ) (limits : Limits) (q : Request) (all : List BoundPolicy) where
    -- before the first policy
    pub gives_none : (e : CodeEvents) → KeepsEvents e [] → GivesBefore language OneImage s review limits q all all e
    gives_none e kept = ([], kept, λ more rest. rest)

    -- after the last policy
    pub gives_all : (e : CodeEvents) (left : List BoundPolicy) → left ≡ [] → GivesBefore language OneImage s review limits q all left e → GivesEvents language OneImage s review limits q all e
    gives_all e left are so_far =
        let at_end = subst (λ (ps : List BoundPolicy). GivesBefore language OneImage s review limits q all ps e) are so_far in (
          at_end.0,
          at_end.1,
          subst (λ (l : List Event). Dispatches language OneImage s review limits q all l) (append-nil at_end.0) (at_end.2 [] no_policies),
        )

    module _ (p : BoundPolicy) (rest left : List BoundPolicy) (e after : CodeEvents) (are : left ≡ p ∷ rest) (so_far : GivesBefore language OneImage s review limits q all left e) where
      here : GivesBefore language OneImage s review limits q all (p ∷ rest) e
      here = subst (λ (ps : List BoundPolicy). GivesBefore language OneImage s review limits q all ps e) are so_far

      -- a policy that others follow
      pub gives_more : AddsPolicy language OneImage s review limits q p e after false → GivesBefore language OneImage s review limits q all rest after
      unfolding here
      gives_more (fs, adds, asks) = (
        here.0 ++ fs,
        adds here.0 here.1,
        λ more others.
            subst (λ (l : List Event). Dispatches language OneImage s review limits q all l) (sym (append_assoc here.0 fs more)) (here.2 (fs ++ more) (next asks others)),
      )

      -- the policy that ends the dispatch
      pub gives_last : AddsPolicy language OneImage s review limits q p e after true → GivesEvents language OneImage s review limits q all after
      unfolding here
      gives_last (fs, adds, asks) = (here.0 ++ fs, adds here.0 here.1, here.2 fs (last asks))
