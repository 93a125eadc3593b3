-- The decisions of the gates, one after the other.
use Rattle.gatekeeper_runner.proofs.Prelude.{◌≡◌, ℕ, zero, suc, ◌+◌, ◌<◌, ◌≤◌, List, [], ◌∷◌, ◌++◌, Ok, Err, Some, None, Result, String}
use Rattle.gatekeeper_runner.proofs.Prelude.{Global, string_bytes, length, take, refl, sym, ap, ◌∙◌, subst, arith, get_or, map-append}
use Rattle.gatekeeper_runner.proofs.Prelude.{take_all, take_more, document_of, OneImage, Decision, RunError, DecideTogether, AreGates}
use Rattle.gatekeeper_runner.proofs.Prelude.{AreResults, AreValuesOf, AreTallied, AddsResult, IsGateOf, IsResult, DecidesAlone}
use Rattle.gatekeeper_runner.proofs.Prelude.{Gatekeeper, NamedGate, PolicyFile, PolicyResult, Refused, Tally, IsTallyOf, decided}
use Rattle.gatekeeper_runner.proofs.Prelude.{ending_of, joined, label_view, uid_in}
use Rattle.std.proofs.Common.{length-append}
use Rattle.std.specs.Prelude.{option_and_then}
use Rattle.value_store.specs.Documents.{document_given}
use Rattle.value_store.specs.Placing.{Contents}
use Rattle.value_store.specs.Reviews.{parts_in}
use Rattle.review_tables.specs.ReviewTable.{ReviewTableReturns}
use Rattle.review_tables.specs.declared.review_error.ReviewError.{ReviewError}
use Rattle.review_tables.specs.declared.review_error.ReviewError.TheVariants as review_error
use Rattle.admission.specs.Reviews.{table_refusal}
use Rattle.admission.specs.declared.language.Language.TheVariants.{Profile}
use Rattle.admission.specs.declared.run_error.RunError.TheVariants.{Memory}
use Rattle.admission.proofs.RootTables.{refused_as, table_due}
use Rattle.gatekeeper_runner.specs.Policies.Together.{no_values}

-- ---- the review

-- the values of a review's roots are those that every policy decides on
pub are_values : (t : Gatekeeper) (review : List ℕ) {S : Type 0} (contents : S → Contents) (s : S) (uid : List ℕ)
    → ReviewTableReturns contents (Ok s) (option_and_then parts_in (document_of review)) (document_given t.namespace) (document_given t.params) → uid ≡ uid_in review
    → AreValuesOf t review (contents s) uid
are_values t review contents s uid opened is = record { values_are = table_due contents (Some review) t.namespace t.params s opened; uid_is = is }

-- a failed allocation for the table is reported as `Memory`
memory_is : (e : ReviewError) → e ≡ review_error.Memory → table_refusal e ≡ Memory
memory_is e is = ap table_refusal is

-- a review that gives no table is refused before any policy is asked
pub refused_first : (t : Gatekeeper) (review : List ℕ) {S : Type 0} (contents : S → Contents) (e : ReviewError) (refused : Refused)
    → ReviewTableReturns contents (Err e) (option_and_then parts_in (document_of review)) (document_given t.namespace) (document_given t.params)
    → (table_refusal e ≡ Memory → ⊥) → refused ≡ record { error = table_refusal e; policy = None } → DecideTogether OneImage t review (Err refused)
refused_first t review contents e refused opened some is =
    subst (λ (r : Refused). DecideTogether OneImage t review (Err r)) (sym is)
    (no_values (refused_as contents (Some review) t.namespace t.params e (λ m. some (memory_is e m)) opened))

-- ---- the policies

no_file : PolicyFile
no_file = record { file = []; language = Profile; document = [] }

as_many : (policies : List PolicyFile) (gates : List NamedGate) → AreGates policies gates → length policies ≡ length gates
as_many [] [] are = refl
as_many (p ∷ ps) (g ∷ gs) are = ap suc (as_many ps gs are.1)
as_many policies gates are = absurd are

gate_at : (policies : List PolicyFile) (gates : List NamedGate) (i : ℕ) (gate : NamedGate) → AreGates policies gates → i < length gates
    → IsGateOf (get_or policies i no_file) (get_or gates i gate)
gate_at (p ∷ ps) (g ∷ gs) zero gate are within = are.0
gate_at (p ∷ ps) (g ∷ gs) (suc i) gate are within = gate_at ps gs i gate are.1 (omega (arith, within))
gate_at [] [] i gate are within = absurd (omega (arith, within))
gate_at policies gates i gate are within = absurd are

results_more : (t : Gatekeeper) (review : List ℕ) (results : List PolicyResult) (r : PolicyResult) → AreResults OneImage t review results → IsResult OneImage t review r
    → AreResults OneImage t review (results ++ r ∷ [])
results_more t review [] r are is = (is, tt)
results_more t review (x ∷ xs) r are is = (are.0, results_more t review xs r are.1 is)

-- the gates so far were asked
module _ (t : Gatekeeper) (review : List ℕ) (asked : List PolicyFile) (gates : List NamedGate) (are : AreGates asked gates)
    (i : ℕ) (before : Tally) (so_far : AreTallied OneImage t review (take i asked) before) where
  pub tallied_all : length gates ≤ i → AreTallied OneImage t review asked before
  tallied_all past =
      let many = as_many asked gates are in
      subst (λ (ps : List PolicyFile). AreTallied OneImage t review ps before) (take_all i asked (omega (arith, past, many))) so_far

  module _ (gate : NamedGate) (within : i < length gates) (is : gate ≡ get_or gates i gate) where
    inside : i < length asked
    inside = let many = as_many asked gates are in omega (arith, within, many)

    policy : PolicyFile
    policy = get_or asked i no_file

    its_policy : IsGateOf policy gate
    unfolding policy
    its_policy = subst (IsGateOf (get_or asked i no_file)) (sym is) (gate_at asked gates i gate are within)

    pub tallied_more : (result : Result Decision RunError) (after : Tally) → ((p : PolicyFile) → IsGateOf p gate → DecidesAlone OneImage t p review result)
        → AddsResult (label_view gate.label) result before after → AreTallied OneImage t review (take (i + 1) asked) after
    unfolding policy
    tallied_more result after decides adds = record {
      results = so_far.results ++ record { policy = policy; result = result } ∷ [];
      of_policies = map-append (λ (r : PolicyResult). r.policy) so_far.results (record { policy = policy; result = result } ∷ [])
          ∙ ap (λ (ps : List PolicyFile). ps ++ policy ∷ []) so_far.of_policies
          ∙ sym (take_more asked i no_file inside);
      are = results_more t review so_far.results (record { policy = policy; result = result }) so_far.are (record { decides = decides policy its_policy; no_memory = adds.no_memory });
      tallied = adds.adds so_far.results policy its_policy.label so_far.tallied;
    }

-- the gates before the last one belong to the policies before the last one
front_gates : (policies : List PolicyFile) (gates : List NamedGate) (last : NamedGate) → AreGates policies (gates ++ last ∷ [])
    → AreGates (take (length gates) policies) gates
front_gates policies [] last are = tt
front_gates (p ∷ ps) (g ∷ gs) last are = (are.0, front_gates ps gs last are.1)
front_gates [] (g ∷ gs) last are = absurd are

last_gate : (gates : List NamedGate) (last : NamedGate) → last ≡ get_or (gates ++ last ∷ []) (length gates) last
last_gate [] last = refl
last_gate (g ∷ gs) last = last_gate gs last

-- the gates before the last one were asked, and then the last one
pub tallied_last : (t : Gatekeeper) (review : List ℕ) (others : List NamedGate) (last : NamedGate)
    → AreGates t.policies (others ++ last ∷ []) → (before after : Tally)
    → ((asked : List PolicyFile) → AreGates asked others → AreTallied OneImage t review asked before)
    → (result : Result Decision RunError) → ((p : PolicyFile) → IsGateOf p last → DecidesAlone OneImage t p review result)
    → AddsResult (label_view last.label) result before after → AreTallied OneImage t review t.policies after
tallied_last t review others last are before after so_far result decides adds =
    let all = others ++ last ∷ [] in
    let many : length all ≡ length others + 1 = length-append others (last ∷ []) in
    let front = so_far (take (length others) t.policies) (front_gates t.policies others last are) in
    let more = tallied_more t review t.policies all are (length others) before front last
    (omega (arith, many)) (last_gate others last) result after decides adds in
    tallied_all t review t.policies all are (length others + 1) after more (omega (arith, many))

-- there are no gates
pub tallied_none : (t : Gatekeeper) (review : List ℕ) (gates : List NamedGate) (tally : Tally) → AreGates t.policies gates
    → length gates ≡ 0 → IsTallyOf [] tally → AreTallied OneImage t review t.policies tally
tallied_none t review gates tally are none is =
    tallied_all t review t.policies gates are 0 tally
    (record { results = []; of_policies = refl; are = tt; tallied = is }) (omega (arith, none))

-- all gates were asked
pub all_decided : (t : Gatekeeper) (review : List ℕ) (values : Contents) (uid : String Global) (tally : Tally) (r : Result Decision Refused) → AreValuesOf t review values (string_bytes uid)
    → AreTallied OneImage t review t.policies tally → r ≡ ending_of tally uid → DecideTogether OneImage t review r
all_decided t review values uid tally r given tallied is =
    let same : ending_of tally uid ≡ joined _ _ (uid_in review) = λ i. joined (tallied.tallied.rejection i) (tallied.tallied.refused i) (given.uid_is i) in
    subst (DecideTogether OneImage t review) (sym (is ∙ same)) (decided tallied.results given.values_are tallied.of_policies tallied.are)
