-- What evaluations find, by the texts of their documents.
use Rattle.cluster_gate.proofs.Prelude.{◌≡◌, ℕ, List, Option, Result, Ok, Err, Vec, Global, option_map, refl, subst, sym, BoundPolicy, IsAskedGate, OneImage}
use Rattle.std.specs.Borrow.{Bor}
use Rattle.serde_json.specs.Data as json
use Rattle.policy_glue.specs.Findings.{PolicyFinding}
use Rattle.policy_glue.specs.declared.finding.Finding.{Finding}
use Rattle.value_table.specs.Held.{Held}
use Rattle.review_tables.specs.declared.review_error.ReviewError.{ReviewError}
use Rattle.admission.specs.Deciding.{Documents, IsGateOn}
use Rattle.admission.specs.Findings.{FindsReview, findings_view}
use Rattle.admission.specs.Lent.{documents_in}
use Rattle.admission.specs.Standing.{RunAgrees}
use Rattle.admission.specs.GatePolicies.{GatePolicy}
use Rattle.admission.specs.declared.run_error.RunError.{RunError}
use Rattle.cluster_response.specs.declared.cluster_refusal.ClusterRefusal.{ClusterRefusal}
use Rattle.cluster_gate.specs.Dispatch.{EvaluatesPolicy}
use Rattle.cluster_gate.specs.Running.{FindsOrRefuses, HasFound}
use Rattle.cluster_gate.specs.Tables.{GivesTable, IsTableOf}
use Rattle.cluster_gate.specs.Texts.{IsJsonTextIf}
use Rattle.admission.specs.declared.language.Language.{Language}
use Rattle.admission.specs.declared.limits.Limits.{Limits}

-- The policies are read in this language.
module _ (language : Language) where
  module _ (p : BoundPolicy) (gate : GatePolicy) (review : List ℕ) (limits : Limits) (params namespace : Option json.Data) where
    -- what is found under texts of the documents is what the policy finds
    pub evaluated : (params_lent namespace_lent : Option (Bor (List ℕ))) (params_text namespace_text : Option (List ℕ)) (result : Result (List PolicyFinding) RunError)
        → option_map (λ b. b.now) params_lent ≡ params_text → option_map (λ b. b.now) namespace_lent ≡ namespace_text
        → IsJsonTextIf params params_text → IsJsonTextIf namespace namespace_text → IsAskedGate language p gate
        → ((l : Language) (policy : List ℕ) → IsGateOn l policy gate → FindsReview (documents_in l policy review namespace_lent params_lent) limits result)
        → ((l : Language) (policy : List ℕ) → IsGateOn l policy gate → OneImage gate.policy gate.image
        → RunAgrees OneImage (documents_in l policy review namespace_lent params_lent) limits result)
        → EvaluatesPolicy language OneImage review limits p params namespace result
    evaluated params_lent namespace_lent params_text namespace_text result params_are namespace_is of_params of_namespace asked finds runs = record {
      documents = documents_in language asked.gate_of.text review namespace_lent params_lent;
      language = refl;
      policy = asked.gate_of.has_text;
      review_is = refl;
      namespace_text = subst (λ (o : Option (List ℕ)). IsJsonTextIf namespace o) (sym namespace_is) of_namespace;
      params_text = subst (λ (o : Option (List ℕ)). IsJsonTextIf params o) (sym params_are) of_params;
      finds = finds language asked.gate_of.text asked.gate_of.of_policy;
      runs = runs language asked.gate_of.text asked.gate_of.of_policy asked.gate_of.image;
    }

    -- what is found on a table of the documents is what the policy finds
    pub evaluated_on : (table : Result Held ReviewError) (result : Result (Vec Finding Global) RunError) → GivesTable review params namespace table → IsAskedGate language p gate
        → ((d : Documents) → IsGateOn d.language d.policy gate → IsTableOf d table → FindsReview d limits (findings_view result))
        → ((d : Documents) → IsGateOn d.language d.policy gate → OneImage gate.policy gate.image → IsTableOf d table → RunAgrees OneImage d limits (findings_view result))
        → EvaluatesPolicy language OneImage review limits p params namespace (findings_view result)
    evaluated_on table result gives asked finds runs =
        let d : Documents = record { language = language; policy = asked.gate_of.text; review = review; namespace = gives.namespace_text; params = gives.params_text } in
        record {
          documents = d;
          language = refl;
          policy = asked.gate_of.has_text;
          review_is = refl;
          namespace_text = gives.namespace_is;
          params_text = gives.params_is;
          finds = finds d asked.gate_of.of_policy gives.returns;
          runs = runs d asked.gate_of.of_policy asked.gate_of.image gives.returns;
        }

    -- the findings, or the refusal instead of them, are the policy's
    pub told : (due : Result (Vec Finding Global) RunError) (r : Result (Vec Finding Global) ClusterRefusal)
        → EvaluatesPolicy language OneImage review limits p params namespace (findings_view due) → HasFound due r → FindsOrRefuses language OneImage review limits p params namespace r
    told due (Ok fs) evaluates is = subst (λ (x : Result (List PolicyFinding) RunError). EvaluatesPolicy language OneImage review limits p params namespace x) is evaluates
    told due (Err e) evaluates (error, is, refusal) =
        (error, subst (λ (x : Result (List PolicyFinding) RunError). EvaluatesPolicy language OneImage review limits p params namespace x) is evaluates, refusal)
