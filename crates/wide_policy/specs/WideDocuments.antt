-- The documents of policies as API servers store them, and the policies in them.
use Rattle.std.specs.Prelude.{◌≡◌, ℕ, ◌&&◌, ◌||◌, Bool, true, false, not, List, [], ◌∷◌, length, nat_eq, Option, Some, None, Result, Ok, Err, bytes_eq, codes, option_and_then, option_map, if◌then◌else◌}
use Rattle.std.specs.Option.{option_map_or}
use Rattle.std.specs.Str.{trim}
use Rattle.serde_json.specs.Data as json
use Rattle.serde_json.specs.Find.{get, get_member}
use Rattle.json_fields.specs.Fields.{is_absent}
use Rattle.json_fields.specs.Members.{changed, in_array, in_object, others, without_null, without_nulls}
use Rattle.value_store.specs.Documents.{document_of, equals_string}
use Rattle.policy_glue.specs.Policy.{Policy}
use Rattle.policy_glue.specs.Reading.{named_keys, policy_of, spec_keys, validation_keys}
use Rattle.policy_glue.specs.declared.policy_error.PolicyError.{PolicyError, TheVariants.NotJson}
use Rattle.wide_policy.specs.declared.wide_policy_error.WidePolicyError.{WidePolicyError, TheVariants.Unread, TheVariants.HasAuditAnnotations, TheVariants.InvalidExpression, TheVariants.Memory}

-- ---- fields

abbrev pub has_no_items : json.Items → Bool
has_no_items json.no_items = true
has_no_items (json.item d ds) = false

-- the field is an empty list, which API servers do not store
abbrev pub is_empty_list : Option json.Data → Bool
is_empty_list None = false
is_empty_list (Some (json.array ds)) = has_no_items ds
is_empty_list (Some _) = false

-- the field is the empty text, which they do not store either
abbrev pub is_empty_text : Option json.Data → Bool
is_empty_text None = false
is_empty_text (Some (json.string s)) = nat_eq (length s) 0
is_empty_text (Some _) = false

-- the members without this key, if its value is an empty list
abbrev pub unless_empty_list : List ℕ → json.Members → json.Members
unless_empty_list key ms = if is_empty_list (get_member key ms) then others key ms else ms

-- the members without this key, if its value is the empty text
abbrev pub unless_empty_text : List ℕ → json.Members → json.Members
unless_empty_text key ms = if is_empty_text (get_member key ms) then others key ms else ms

-- a text changed
abbrev pub of_text : (List ℕ → List ℕ) → json.Data → json.Data
of_text f json.null = json.null
of_text f (json.boolean b) = json.boolean b
of_text f (json.number n) = json.number n
of_text f (json.string s) = json.string (f s)
of_text f (json.array ds) = json.array ds
of_text f (json.object ms) = json.object ms

-- ---- policies

-- a text without the blanks around it
abbrev pub trimmed : json.Data → json.Data
trimmed d = of_text trim d

-- a condition or a variable without null fields, its expression trimmed
abbrev pub named_members : json.Members → json.Members
named_members ms = changed (codes "expression") trimmed (without_nulls named_keys ms)

-- a validation without null fields and without an empty message expression, its expressions and its message trimmed
abbrev pub validation_members : json.Members → json.Members
validation_members ms =
    changed (codes "messageExpression") trimmed (changed (codes "message") trimmed (changed (codes "expression") trimmed
    (unless_empty_text (codes "messageExpression") (without_nulls validation_keys ms))))

abbrev pub named_items : json.Data → json.Data
named_items d = in_array (in_object named_members) d

abbrev pub validation_items : json.Data → json.Data
validation_items d = in_array (in_object validation_members) d

-- a specification without null fields and without an empty list of audit annotations, and its conditions, variables and
-- validations likewise
abbrev pub normal_spec : json.Members → json.Members
normal_spec ms =
    changed (codes "validations") validation_items (changed (codes "variables") named_items
    (changed (codes "matchConditions") named_items
    (without_nulls (codes "auditAnnotations" ∷ spec_keys) (unless_empty_list (codes "auditAnnotations") ms))))

-- an API version whose policies have the fields of v1, as v1
abbrev pub stable_version : List ℕ → List ℕ
stable_version s =
    if bytes_eq s (codes "admissionregistration.k8s.io/v1beta1") || bytes_eq s (codes "admissionregistration.k8s.io/v1alpha1")
    then codes "admissionregistration.k8s.io/v1" else s

-- a policy of version v1, without `status`, which API servers write, and without null fields
abbrev pub normal_members : json.Members → json.Members
normal_members ms =
    changed (codes "spec") (in_object normal_spec) (changed (codes "apiVersion") (of_text stable_version)
    (without_null (codes "metadata") (others (codes "status") ms)))

abbrev pub normal_document : json.Data → json.Data
normal_document d = in_object normal_members d

-- a list that is missing, null or empty, which is the same in a cluster
abbrev pub is_absent_list : Option json.Data → Bool
is_absent_list o = is_absent o || is_empty_list o

-- the document is a policy with audit annotations
abbrev pub has_audit_annotations : json.Data → Bool
has_audit_annotations d =
    equals_string (get (codes "kind") d) (codes "ValidatingAdmissionPolicy")
    && not (is_absent_list (option_and_then (get (codes "auditAnnotations")) (get (codes "spec") d)))

-- the result of reading a policy, with the errors of this crate
abbrev pub with_read_error : Result Policy PolicyError → Result Policy WidePolicyError
with_read_error (Ok p) = Ok p
with_read_error (Err e) = Err (Unread e)

-- the policy in a document, or the first refusal: it has audit annotations, or `policy_glue` refuses it
unfoldable pub wide_policy_of : json.Data → Result Policy WidePolicyError
wide_policy_of d = if has_audit_annotations d then Err HasAuditAnnotations else with_read_error (policy_of (normal_document d))

-- the policy in some bytes, or the first refusal
unfoldable pub wide_policy_in : List ℕ → Result Policy WidePolicyError
wide_policy_in bytes = option_map_or wide_policy_of (document_of bytes) (Err (Unread NotJson))

-- the policy that is due is returned, or its refusal; or an allocation failed
abbrev pub ReadsSource : Result Policy WidePolicyError → Result Policy WidePolicyError → Type 0
ReadsSource due (Ok p) = due ≡ Ok p
ReadsSource due (Err Memory) = Unit {0}
ReadsSource due (Err (InvalidExpression part place e)) = ⊥
ReadsSource due (Err e) = due ≡ Err e
