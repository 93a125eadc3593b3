-- The gates of policies, one after another.
use Rattle.cluster_gate.proofs.Prelude.{◌≡◌, ◌∙◌, ◌+◌, ◌<◌, ◌≤◌, ◌++◌, ◌∷◌, ℕ, List, [], Bool, false, None, Ok, Err, Vec, Global, ap, drop, get_or, length, map, subst, sym, take, AreGatesFor, BoundPolicy, ClusterState, IsGateFor, IsJudged, PolicyGate, policy_view}
use Rattle.std.proofs.lemmas.List.{drop_more, map-append, take-append-drop, take_all, take_more}
use Rattle.cluster_state.specs.declared.policy.Policy.{Policy as CodePolicy}
use Rattle.cluster_gate.specs.Gates.{GatesOpen, NoneIsBlocked, OpensGateFor}
use Rattle.cluster_gate.specs.declared.cluster_error.ClusterError.{ClusterError}
use Rattle.cluster_gate.specs.declared.cluster_error.ClusterError.TheVariants.{BlockedPolicy, Memory}
use Rattle.admission.specs.declared.language.Language.{Language}

-- The policies are read in this language.
module _ (language : Language) where
  -- the gates of the first policies are open
  pub record OpenedFirst (s : ClusterState) (partial : Bool) (ps : List BoundPolicy) (gs : List PolicyGate) : Type 0 where
    pub gates : AreGatesFor language s ps gs
    pub none : partial ≡ false → NoneIsBlocked language s ps

  gates_more : (s : ClusterState) (ps : List BoundPolicy) (gs : List PolicyGate) (p : BoundPolicy) (g : PolicyGate) → AreGatesFor language s ps gs → IsGateFor language s p g
      → AreGatesFor language s (ps ++ p ∷ []) (gs ++ g ∷ [])
  gates_more s [] [] p g are is = (is, tt)
  gates_more s (x ∷ ps) (y ∷ gs) p g are is = (are.0, gates_more s ps gs p g are.1 is)
  gates_more s [] (y ∷ gs) p g are is = absurd are
  gates_more s (x ∷ ps) [] p g are is = absurd are

  none_more : (s : ClusterState) (ps : List BoundPolicy) (p : BoundPolicy) → NoneIsBlocked language s ps → IsJudged language s p None → NoneIsBlocked language s (ps ++ p ∷ [])
  none_more s [] p none is = (is, tt)
  none_more s (x ∷ ps) p none is = (none.0, none_more s ps p none.1 is)

  -- before the first policy
  pub opened_none : (s : ClusterState) (partial : Bool) → OpenedFirst s partial [] []
  opened_none s partial = record { gates = tt; none = λ e. tt }

  module _ (s : ClusterState) (partial : Bool) (xs : List CodePolicy) (i : ℕ) (gs : List PolicyGate) (so_far : OpenedFirst s partial (map policy_view (take i xs)) gs) where
    -- after all policies
    pub opened_all : (v : Vec PolicyGate Global) → v.items ≡ gs → length xs ≤ i → GatesOpen language s partial (map policy_view xs) (Ok v)
    opened_all v are past =
        let whole : OpenedFirst s partial (map policy_view xs) gs = subst (λ (ys : List CodePolicy). OpenedFirst s partial (map policy_view ys) gs) (take_all i xs past) so_far in
        (subst (λ (l : List PolicyGate). AreGatesFor language s (map policy_view xs) l) (sym are) whole.gates, whole.none)

    module _ (x : CodePolicy) (within : i < length xs) (is : x ≡ get_or xs i x) where
      -- after one more policy
      pub opened_more : (g : PolicyGate) → OpensGateFor language s partial (policy_view x) (Ok g) → OpenedFirst s partial (map policy_view (take (i + 1) xs)) (gs ++ g ∷ [])
      opened_more g opens =
          let more : map policy_view (take (i + 1) xs) ≡ map policy_view (take i xs) ++ policy_view x ∷ [] =
          ap (map policy_view) (take_more xs i x within ∙ ap (λ y. take i xs ++ y ∷ []) (sym is)) ∙ map-append policy_view (take i xs) (x ∷ []) in
          rw more (record {
            gates = gates_more s _ gs (policy_view x) g so_far.gates opens.0;
            none = λ e. none_more s _ (policy_view x) (so_far.none e) (opens.1 e);
          })

      here : drop i xs ≡ x ∷ drop (i + 1) xs
      here = drop_more xs i x within ∙ ap (λ y. y ∷ drop (i + 1) xs) (sym is)

      parts : map policy_view xs ≡ map policy_view (take i xs) ++ policy_view x ∷ map policy_view (drop (i + 1) xs)
      parts =
          ap (map policy_view) (sym (take-append-drop i xs) ∙ ap (λ ys. take i xs ++ ys) here) ∙ map-append policy_view (take i xs) (x ∷ drop (i + 1) xs)

      -- a policy that is blocked is the first
      pub opened_until : (e : ClusterError) → OpensGateFor language s partial (policy_view x) (Err e) → GatesOpen language s partial (map policy_view xs) (Err e)
      opened_until (BlockedPolicy name cause) opens = (
        opens.0,
        record {
          before = map policy_view (take i xs);
          policy = policy_view x;
          after = map policy_view (drop (i + 1) xs);
          are = parts;
          none = so_far.none opens.0;
          blocked = opens.1;
          name_is = opens.2;
        },
      )
      opened_until Memory opens = tt
