-- One more result in a tally.
use Rattle.gatekeeper_runner.proofs.Prelude.{◌≡◌, List, [], ◌∷◌, ◌++◌, map, Option, Some, None, option_map, Result, Ok, Err, refl, sym, ap, ◌∙◌, map-append, rejection_view, Rejection, Decision, RunError, RefusingPolicy, PolicyFile, PolicyResult, Refused, Tally, IsTallyOf, and_also, append-nil, is_by_fail, label_of, refusals, refused_and, refused_view, rejection_in, rejections}
use Rattle.std.specs.Prelude.{fold}
use Rattle.std.proofs.lemmas.List.Sums.{fold-append}
use Rattle.cluster_response.proofs.Firsts.{told_more}
use Rattle.cluster_response.specs.Firsts.{preferred, told_of}

rejections_more : (results : List PolicyResult) (r : PolicyResult) → rejections (results ++ r ∷ []) ≡ and_also (rejections results) (rejection_in r.result)
rejections_more results r =
    ap (fold and_also None) (map-append (λ (x : PolicyResult). rejection_in x.result) results (r ∷ []))
    ∙ fold-append and_also None (map (λ (x : PolicyResult). rejection_in x.result) results) (rejection_in r.result ∷ [])

and_nothing : (o : Option Rejection) → and_also o None ≡ o
and_nothing None = refl
and_nothing (Some x) = refl

refused_before : (p : PolicyFile) (s : Result Decision RunError) (a b : List Refused) → refused_and p s (a ++ b) ≡ refused_and p s a ++ b
refused_before p (Ok d) a b = refl
refused_before p (Err e) a b = refl

refusals_more : (results : List PolicyResult) (r : PolicyResult) → refusals (results ++ r ∷ []) ≡ refusals results ++ refused_and r.policy r.result []
refusals_more [] r = refl
refusals_more (x ∷ xs) r = ap (refused_and x.policy x.result) (refusals_more xs r) ∙ refused_before x.policy x.result (refusals xs) (refused_and r.policy r.result [])

module _ (results : List PolicyResult) (policy : PolicyFile) (before after : Tally) (is : IsTallyOf results before) where
  pub adds_decision : (decision : Decision) → option_map rejection_view after.rejection ≡ and_also (option_map rejection_view before.rejection) decision.rejection
      → option_map refused_view after.refused ≡ option_map refused_view before.refused → IsTallyOf (results ++ record { policy = policy; result = Ok decision } ∷ []) after
  adds_decision decision joined stays =
      let r : PolicyResult = record { policy = policy; result = Ok decision } in
      record {
        rejection = joined ∙ ap (λ (o : Option Rejection). and_also o decision.rejection) is.rejection ∙ sym (rejections_more results r);
        refused = stays ∙ is.refused ∙ ap (told_of is_by_fail) (sym (append-nil (refusals results)) ∙ sym (refusals_more results r));
      }

  pub adds_refusal : (e : RunError) (label : RefusingPolicy) → label ≡ label_of policy → option_map rejection_view after.rejection ≡ option_map rejection_view before.rejection
      → option_map refused_view after.refused ≡ Some (preferred is_by_fail (option_map refused_view before.refused) (record { error = e; policy = Some label }))
      → IsTallyOf (results ++ record { policy = policy; result = Err e } ∷ []) after
  adds_refusal e label of stays added =
      let r : PolicyResult = record { policy = policy; result = Err e } in
      record {
        rejection = stays ∙ is.rejection ∙ sym (and_nothing (rejections results)) ∙ sym (rejections_more results r);
        refused = added
            ∙ (λ i. Some (preferred is_by_fail (is.refused i) (record { error = e; policy = Some (of i) })))
            ∙ sym (told_more is_by_fail (refusals results) (record { error = e; policy = Some (label_of policy) }))
            ∙ ap (told_of is_by_fail) (sym (refusals_more results r));
      }
