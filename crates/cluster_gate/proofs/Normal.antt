-- The specification of a policy as it is read in the wide language, and its failure policy.
use Rattle.std.proofs.Common.{◌≡◌, ◌∙◌, ◌∷◌, ap, option_map, refl}
use Rattle.std.specs.Prelude.{codes}
use Rattle.serde_json.specs.Data as json
use Rattle.serde_json.specs.Find.{get, get_member}
use Rattle.policy_glue.specs.Reading.{spec_keys}
use Rattle.wide_policy.specs.WideDocuments.{is_empty_list, named_items, normal_document, normal_spec, of_text, stable_version, unless_empty_list}
use Rattle.json_fields.specs.Fields.{present}
use Rattle.json_fields.specs.Members.{changed, in_object, others, without_null, without_nulls}
use Rattle.cluster_gate.proofs.Compiled.{changed_apart, changed_here, failure_left, member_kept, null_apart}

spec_in_members : (ms : json.Members) → get (codes "spec") (normal_document (json.object ms)) ≡ option_map (in_object normal_spec) (get_member (codes "spec") ms)
spec_in_members ms =
    let name = codes "spec" in
    let left = others (codes "status") ms in
    let first = without_null (codes "metadata") left in
    let second = changed (codes "apiVersion") (of_text stable_version) first in
    changed_here name (in_object normal_spec) second _ refl
    ∙ ap (option_map (in_object normal_spec)) (changed_apart (codes "apiVersion") name _ first refl
    ∙ null_apart _ (codes "metadata") name left refl ∙ member_kept (codes "status") name ms refl)

pub spec_normal : (d : json.Data) → get (codes "spec") (normal_document d) ≡ option_map (in_object normal_spec) (get (codes "spec") d)
spec_normal json.null = refl
spec_normal (json.boolean b) = refl
spec_normal (json.number n) = refl
spec_normal (json.string s) = refl
spec_normal (json.array ds) = refl
spec_normal (json.object ms) = spec_in_members ms

failure_in_normal : (ms : json.Members) → get_member (codes "failurePolicy") (normal_spec ms) ≡ present (get_member (codes "failurePolicy") ms)
failure_in_normal ms =
    let name = codes "failurePolicy" in
    let listed = unless_empty_list (codes "auditAnnotations") ms in
    let left = without_nulls (codes "auditAnnotations" ∷ spec_keys) listed in
    let first = changed (codes "matchConditions") named_items left in
    let second = changed (codes "variables") named_items first in
    changed_apart (codes "validations") name _ second refl
    ∙ changed_apart (codes "variables") name _ first refl
    ∙ changed_apart (codes "matchConditions") name _ left refl
    ∙ failure_left listed
    ∙ ap present (null_apart (is_empty_list (get_member (codes "auditAnnotations") ms)) (codes "auditAnnotations") name ms refl)

-- its failure policy is absent if it is null
pub failure_normal : (d : json.Data) → get (codes "failurePolicy") (in_object normal_spec d) ≡ present (get (codes "failurePolicy") d)
failure_normal json.null = refl
failure_normal (json.boolean b) = refl
failure_normal (json.number n) = refl
failure_normal (json.string s) = refl
failure_normal (json.array ds) = refl
failure_normal (json.object ms) = failure_in_normal ms
