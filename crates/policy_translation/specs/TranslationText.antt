-- The text of a policy's translation: a ValidatingAdmissionPolicy in JSON (admissionregistration.k8s.io/v1) whose annotations
-- have the texts of its author.
use Rattle.std.specs.Prelude.{ℕ, suc, List, [], ◌∷◌, ◌++◌, codes, decimal, map, Option, Some, None}
use Rattle.serde_json.specs.Data as json
use Rattle.serde_json.specs.View.{items_of}
use Rattle.serde_json.specs.Written.{compact_text}
use Rattle.policy_glue.specs.CompileErrors.{kind_text}
use Rattle.policy_glue.specs.Policy.{NamedExpression, Policy, Validation, reason_name}
use Rattle.policy_glue.specs.declared.failure_policy.FailurePolicy.{FailurePolicy, TheVariants.Fail, TheVariants.Ignore}
use Rattle.policy_glue.specs.declared.part_kind.PartKind.{PartKind, TheVariants.Variable, TheVariants.Condition, TheVariants.Message}
use Rattle.policy_glue.specs.declared.part_kind.PartKind.TheVariants.{Validation as OfValidation}

-- the key and the value of a member
abbrev pub Member : Type 0
Member = List ℕ × json.Data

-- an object with these members, in this order
abbrev pub members_in : List Member → json.Members
members_in [] = json.no_members
members_in (m ∷ ms) = json.member m.0 m.1 (members_in ms)

abbrev pub object_in : List Member → json.Data
object_in ms = json.object (members_in ms)

abbrev pub array_in : List json.Data → json.Data
array_in ds = json.array (items_of ds)

-- a member whose value is a text
abbrev pub text_member : List ℕ → List ℕ → Member
text_member key text = (key, json.string text)

-- a member with a text, if there is one
abbrev pub option_member : List ℕ → Option (List ℕ) → List Member
option_member key None = []
option_member key (Some text) = text_member key text ∷ []

-- ---- the texts of the author

-- the key of the part of this kind at this place of its list, as `validation.0`
abbrev pub part_key : PartKind → ℕ → List ℕ
part_key part place = kind_text part ++ (codes "." ++ decimal place)

-- the texts of variables or conditions, from this place on
abbrev pub named_texts : PartKind → ℕ → List NamedExpression → List Member
named_texts part place [] = []
named_texts part place (n ∷ ns) = text_member (part_key part place) n.expression ∷ named_texts part (suc place) ns

-- the texts of a validation and of its message expression
abbrev pub validation_texts : ℕ → Validation → List Member
validation_texts place v =
    text_member (part_key OfValidation place) v.expression ∷ option_member (part_key Message place) v.message_expression

-- the texts of validations, from this place on
abbrev pub validations_texts : ℕ → List Validation → List Member
validations_texts place [] = []
validations_texts place (v ∷ vs) = validation_texts place v ++ validations_texts (suc place) vs

-- the texts of the parts of a policy
abbrev pub author_texts : Policy → List Member
author_texts p =
    named_texts Variable 0 p.variables ++ (named_texts Condition 0 p.conditions ++ validations_texts 0 p.validations)

-- the `metadata` that holds them
abbrev pub metadata_of : Policy → json.Data
metadata_of p = object_in ((codes "annotations", object_in (author_texts p)) ∷ [])

-- ---- the policy

-- the name of a failure policy (Kubernetes, failurePolicy)
abbrev pub failure_name : FailurePolicy → List ℕ
failure_name Fail = codes "Fail"
failure_name Ignore = codes "Ignore"

-- a variable or a condition
abbrev pub named_data : NamedExpression → json.Data
named_data n = object_in (text_member (codes "name") n.name ∷ text_member (codes "expression") n.expression ∷ [])

-- a list of variables or conditions, if there are any
abbrev pub named_list : List ℕ → List NamedExpression → List Member
named_list key [] = []
named_list key (n ∷ ns) = (key, array_in (map named_data (n ∷ ns))) ∷ []

-- the message of a validation, if it is set
abbrev pub message_member : List ℕ → List Member
message_member [] = []
message_member (b ∷ bs) = text_member (codes "message") (b ∷ bs) ∷ []

abbrev pub validation_data : Validation → json.Data
validation_data v =
    object_in (text_member (codes "expression") v.expression ∷ (message_member v.message
    ++ (option_member (codes "messageExpression") v.message_expression ++ text_member (codes "reason") (reason_name v.reason) ∷ [])))

abbrev pub validations_member : List Validation → Member
validations_member vs = (codes "validations", array_in (map validation_data vs))

-- the fields of its `spec`
abbrev pub spec_members : Policy → List Member
spec_members p =
    text_member (codes "failurePolicy") (failure_name p.failure_policy) ∷ (named_list (codes "variables") p.variables
    ++ (named_list (codes "matchConditions") p.conditions ++ validations_member p.validations ∷ []))

-- the policy of the translations, with the texts of the author
abbrev pub translation_data : Policy → Policy → json.Data
translation_data source profile = object_in (
    text_member (codes "apiVersion") (codes "admissionregistration.k8s.io/v1")
    ∷ text_member (codes "kind") (codes "ValidatingAdmissionPolicy")
    ∷ (codes "metadata", metadata_of source)
    ∷ (codes "spec", object_in (spec_members profile)) ∷ [])

-- its text, one line
unfoldable pub translation_text : Policy → Policy → List ℕ
translation_text source profile = compact_text (translation_data source profile) ++ 10 ∷ []
