-- The lines on a cluster's policies, one after the other.
use Rattle.gatekeeper_runner.proofs.Prelude.{◌≡◌, ℕ, zero, suc, ◌+◌, ◌<◌, ◌≤◌, List, [], ◌∷◌, ◌++◌, length, take, refl, sym, ap, ◌∙◌, subst, arith, get_or, take_all, take_more}
use Rattle.serde_json.specs.Data as json
use Rattle.admission.specs.declared.language.Language.{Language}
use Rattle.cluster_state.specs.Policies.{BoundPolicy}
use Rattle.cluster_state.specs.State.{ClusterState}
use Rattle.cluster_gate.specs.Gates.{AreGatesFor, IsGateFor, IsJudged, StandsAs}
use Rattle.cluster_gate.specs.declared.policy_gate.PolicyGate.{PolicyGate}
use Rattle.cluster_gate.specs.declared.standing.Standing.{Standing}
use Rattle.cluster_gate.specs.declared.standing.Standing.TheVariants.{Asked, Blocked}
use Rattle.gatekeeper_runner.specs.Cluster.Telling.{TellsPolicies, cause_of, next, note_lines, policy_line}

-- The policies are read in this language.
module _ (language : Language) where
  -- a policy is judged as its standing shows
  judged : (s : ClusterState) (p : BoundPolicy) (t : Standing) → StandsAs language s p t → IsJudged language s p (cause_of t)
  judged s p (Asked gate) stands =
      let of = stands.0.gate_of.of_policy in (
        record {
          text = stands.0.gate_of.text;
          has_text = stands.0.gate_of.has_text;
          is_policy = record { told = gate.told; parsed = gate.policy; wrapped = gate.wrapped; is_said = of.0; trees = of.1.trees; compiles = of.1.compiles };
          naming = stands.0.naming;
        },
        stands.1,
      )
  judged s p (Blocked cause) stands = stands

  gates_as_many : (s : ClusterState) (ps : List BoundPolicy) (gs : List PolicyGate) → AreGatesFor language s ps gs → length ps ≡ length gs
  gates_as_many s [] [] are = refl
  gates_as_many s (p ∷ ps) (g ∷ gs) are = ap suc (gates_as_many s ps gs are.1)
  gates_as_many s ps gs are = absurd are

  -- the gate at a place is that of the policy there
  gate_for_at : (s : ClusterState) (ps : List BoundPolicy) (gs : List PolicyGate) (i : ℕ) (p : BoundPolicy) (g : PolicyGate) → AreGatesFor language s ps gs → i < length gs
      → IsGateFor language s (get_or ps i p) (get_or gs i g)
  gate_for_at s (p ∷ ps) (g ∷ gs) zero q h are within = are.0
  gate_for_at s (p ∷ ps) (g ∷ gs) (suc i) q h are within = gate_for_at s ps gs i q h are.1 (omega (arith, within))
  gate_for_at s [] [] i q h are within = absurd (omega (arith, within))
  gate_for_at s ps gs i q h are within = absurd are

  -- the first policy, if there is one
  some_policy : (ps : List BoundPolicy) → 0 < length ps → BoundPolicy
  some_policy (p ∷ ps) some = p
  some_policy [] some = absurd (omega (arith, some))

  -- the lines on the first policies were written
  module _ (lists : List json.Data) (s : ClusterState) (gates : List PolicyGate) (are : AreGatesFor language s s.policies gates) (i : ℕ) (text : List ℕ) (so_far : TellsPolicies language lists s (take i s.policies) text) where
    pub told_all : length gates ≤ i → TellsPolicies language lists s s.policies text
    told_all past = subst (λ (ps : List BoundPolicy). TellsPolicies language lists s ps text) (take_all i s.policies (let many = gates_as_many s s.policies gates are in omega (arith, past, many))) so_far

    pub told_more : (gate : PolicyGate) (more line : List ℕ) → i < length gates → gate ≡ get_or gates i gate → more ≡ text ++ line
        → ((p : BoundPolicy) → IsGateFor language s p gate → line ≡ policy_line lists s p (cause_of gate.standing) ++ note_lines p.name gate.left_out.items) → TellsPolicies language lists s (take (i + 1) s.policies) more
    told_more gate more line within is grown told =
        let many = gates_as_many s s.policies gates are in
        let inside : i < length s.policies = omega (arith, within, many) in
        let other : BoundPolicy = some_policy s.policies (omega (arith, inside)) in
        let of : IsGateFor language s (get_or s.policies i other) gate = subst (IsGateFor language s (get_or s.policies i other)) (sym is) (gate_for_at s s.policies gates i other gate are within) in
        let one_more : take (i + 1) s.policies ≡ take i s.policies ++ get_or s.policies i other ∷ [] = take_more s.policies i other inside in
        let policy = get_or s.policies i other in
        let grows : more ≡ text ++ (policy_line lists s policy (cause_of gate.standing) ++ note_lines policy.name gate.left_out.items) = grown ∙ ap (λ (l : List ℕ). text ++ l) (told (get_or s.policies i other) of) in
        rw (one_more, grows) (next policy (cause_of gate.standing) gate.left_out.items so_far (judged s policy gate.standing of.stands) of.leaves)
