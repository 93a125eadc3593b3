-- A refusal by a policy under `Ignore` is told only if each policy under `Fail` decides.
use Rattle.gatekeeper_runner.proofs.Prelude.{◌≡◌, ◌∙◌, ℕ, List, [], ◌∷◌, true, false, map, Option, Some, None, Result, Ok, Err, refl, sym, ap, OneImage, Rejection, Decision, RunError, AreResults, DecideTogether, Gatekeeper, PolicyFile, PolicyResult, Refused, RefusingPolicy, decided, is_by_fail, joined, label_of, refusals, refused_and, rejections, told_refusal, uid_in}
use Rattle.std.proofs.Common.{true≢false}
use Rattle.std.proofs.lemmas.Bool.{or_parts}
use Rattle.std.proofs.lemmas.List.Elements.{All-cons, All-nil}
use Rattle.std.specs.List.{All, list_any}
use Rattle.std.specs.Option.{option_map_or}
use Rattle.cluster_response.proofs.Firsts.{told_fails}
use Rattle.gatekeeper_runner.specs.Policies.Together.{DecidesUnderFail, HidesNoFail, is_under_fail, no_values}

-- the refusal of a joint result is the one that is told
joined_refusal : (rejection : Option Rejection) (told : Option Refused) (uid : List ℕ) (refused : Refused) → joined rejection told uid ≡ Err refused → told ≡ Some refused
joined_refusal (Some rejection) told uid refused e = absurd (cc)
joined_refusal None (Some told) uid refused e = let same : told ≡ refused = cc in ap Some same
joined_refusal None None uid refused e = absurd (cc)

-- if no refusal is by a policy under `Fail`, each such policy decides
decides_at : (p : PolicyFile) (r : Result Decision RunError) (others : List Refused) → list_any is_by_fail (refused_and p r others) ≡ false
    → DecidesUnderFail (record { policy = p; result = r }) × (list_any is_by_fail others ≡ false)
decides_at p (Ok decision) others none = (λ closed. refl, none)
decides_at p (Err e) others none =
    let parts = or_parts (is_under_fail (label_of p)) (list_any is_by_fail others) none in
    (λ closed. absurd (true≢false (sym closed ∙ parts.0)), parts.1)

each_decides : (rs : List PolicyResult) → list_any is_by_fail (refusals rs) ≡ false → All DecidesUnderFail rs
each_decides [] none = All-nil DecidesUnderFail
each_decides (r ∷ rs) none =
    let both = decides_at r.policy r.result (refusals rs) none in All-cons DecidesUnderFail r rs both.0 (each_decides rs both.1)

module _ (t : Gatekeeper) (review : List ℕ) where
  by_results : (results : List PolicyResult) → map (λ r. r.policy) results ≡ t.policies → AreResults OneImage t review results
      → (r : Result Decision Refused) → joined (rejections results) (told_refusal results) (uid_in review) ≡ r → HidesNoFail OneImage t review r
  by_results results of are (Ok decision) is = tt
  by_results results of are (Err refused) is = λ label named ignored. record {
    results = results;
    of_policies = of;
    are = are;
    decide = each_decides results
        (told_fails is_by_fail (refusals results) refused (joined_refusal (rejections results) (told_refusal results) (uid_in review) refused is)
        (ap (λ (o : Option RefusingPolicy). option_map_or is_under_fail o false) named ∙ ignored));
  }

  pub hides_no_fail : (r : Result Decision Refused) → DecideTogether OneImage t review r → HidesNoFail OneImage t review r
  hides_no_fail _ (no_values is) = λ label named ignored. absurd (let no : None ≡ Some label = named in cc)
  hides_no_fail _ (decided results given of are) = by_results results of are _ refl
