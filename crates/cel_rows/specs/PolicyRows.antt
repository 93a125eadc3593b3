-- Parts of policy documents (ValidatingAdmissionPolicy v1: `spec`, its field types, its defaults and its reasons), worked by
-- hand.
use Rattle.std.specs.Prelude.{◌≡◌, true, false, [], ◌∷◌, Some, None, Ok, Err, codes}
use Prim.Native.String.{String}
use Rattle.serde_json.specs.Data as json
use Rattle.json_fields.specs.Fields.{each, has_only, is_object_or_absent, keys_within, list_in, list_of}
use Rattle.json_fields.specs.Fields.{optional_text_of, text_of}
use Rattle.json_fields.specs.Fields.{text_or_empty_of}
use Rattle.policy_glue.specs.Policy.{NamedExpression, part_limit, reason_code, reason_name}
use Rattle.policy_glue.specs.Reading.{allows, are_distinct, failure_in, has_broken_message, has_line_break}
use Rattle.policy_glue.specs.Reading.{has_spec_form, has_top_form, judged}
use Rattle.policy_glue.specs.Reading.{policy_of, reason_in, validation_in}
use Rattle.policy_glue.specs.LimitRows.{sized}
use Rattle.policy_glue.specs.Rows.{plain_validation, said}
use Rattle.policy_glue.specs.declared.failure_policy.FailurePolicy.TheVariants.{Fail}
use Rattle.policy_glue.specs.declared.name_rule.NameRule.TheVariants.{NotEmpty, Identifier}
use Rattle.policy_glue.specs.declared.policy_error.PolicyError.TheVariants.{InvalidField, NotAPolicy, TooManyParts}
use Rattle.policy_glue.specs.declared.reason.Reason.TheVariants.{Unauthorized, Forbidden, Invalid, RequestEntityTooLarge}

-- {"a":true}
abbrev pub a : json.Data
a = json.object (json.member (codes "a") (json.boolean true) json.no_members)

-- parts of documents
pub record DocumentRowsStand : Type 0 where
  pub no_keys : keys_within [] json.no_members ≡ true
  pub known_key : has_only (codes "b" ∷ codes "a" ∷ []) a ≡ true
  pub unknown_key : has_only (codes "b" ∷ []) a ≡ false
  pub second_key_unknown :
      keys_within (codes "a" ∷ []) (json.member (codes "a") json.null (json.member (codes "b") json.null json.no_members))
      ≡ false
  pub first_key_unknown :
      keys_within (codes "b" ∷ []) (json.member (codes "a") json.null (json.member (codes "b") json.null json.no_members))
      ≡ false
  pub text_has_no_keys : has_only (codes "a" ∷ []) (json.string (codes "a")) ≡ false
  pub null_has_no_keys : has_only (codes "a" ∷ []) json.null ≡ false
  pub absent : is_object_or_absent None ≡ true
  pub object : is_object_or_absent (Some a) ≡ true
  pub null_is_no_object : is_object_or_absent (Some json.null) ≡ false
  pub text : text_of (Some (json.string (codes "a"))) ≡ Some (codes "a")
  pub no_text : text_of None ≡ None
  pub null_is_no_text : text_of (Some json.null) ≡ None
  pub optional_text : optional_text_of (Some (json.string (codes "a"))) ≡ Some (Some (codes "a"))
  pub no_optional_text : optional_text_of None ≡ Some None
  pub null_for_optional_text : optional_text_of (Some json.null) ≡ None
  pub text_or_empty : text_or_empty_of (Some (json.string (codes "a"))) ≡ Some (codes "a")
  pub empty_text : text_or_empty_of None ≡ Some []
  pub null_for_text_or_empty : text_or_empty_of (Some json.null) ≡ None
  pub no_item : each (λ d. text_of (Some d)) json.no_items ≡ Some []
  pub two_items : each (λ d. text_of (Some d)) (json.item (json.string (codes "a")) (json.item (json.string (codes "b")) json.no_items))
      ≡ Some (codes "a" ∷ codes "b" ∷ [])
  pub bad_item : each (λ d. text_of (Some d)) (json.item (json.string (codes "a")) (json.item json.null json.no_items)) ≡ None
  pub list : list_in (λ d. text_of (Some d)) (Some (json.array (json.item (json.string (codes "a")) json.no_items))) ≡ Some (codes "a" ∷ [])
  pub no_list : list_in (λ d. text_of (Some d)) None ≡ None
  pub object_for_list : list_in (λ d. text_of (Some d)) (Some a) ≡ None
  pub optional_list : list_of (λ d. text_of (Some d)) (Some (json.array (json.item (json.string (codes "a")) json.no_items)))
      ≡ Some (codes "a" ∷ [])
  pub no_optional_list : list_of (λ d. text_of (Some d)) None ≡ Some []
  pub object_for_optional_list : list_of (λ d. text_of (Some d)) (Some a) ≡ None

-- a condition or variable with this name
abbrev pub named : String → NamedExpression
named n = record { name = codes n; expression = codes "true" }

-- names, reasons, defaults and messages
pub record FieldRowsStand : Type 0 where
  pub empty_condition_name : allows NotEmpty [] ≡ false
  pub condition_name_with_dash : allows NotEmpty (codes "a-b") ≡ true
  pub variable_name_with_dash : allows Identifier (codes "a-b") ≡ false
  pub variable_name : allows Identifier (codes "v") ≡ true
  pub distinct : are_distinct (named "a" ∷ named "b" ∷ []) ≡ true
  pub first_two : are_distinct (named "a" ∷ named "a" ∷ named "b" ∷ []) ≡ false
  pub last_two : are_distinct (named "a" ∷ named "b" ∷ named "b" ∷ []) ≡ false
  pub ends : are_distinct (named "a" ∷ named "b" ∷ named "a" ∷ []) ≡ false
  pub no_reason : reason_in None ≡ Some Invalid
  pub unauthorized : reason_in (Some (json.string (codes "Unauthorized"))) ≡ Some Unauthorized
  pub forbidden : reason_in (Some (json.string (codes "Forbidden"))) ≡ Some Forbidden
  pub invalid : reason_in (Some (json.string (codes "Invalid"))) ≡ Some Invalid
  pub too_large : reason_in (Some (json.string (codes "RequestEntityTooLarge"))) ≡ Some RequestEntityTooLarge
  pub null_reason : reason_in (Some json.null) ≡ None
  pub no_failure_policy : failure_in None ≡ Some Fail
  pub null_failure_policy : failure_in (Some json.null) ≡ None
  pub other_failure_policy : failure_in (Some (json.string (codes "Retry"))) ≡ None
  pub name_of_unauthorized : reason_name Unauthorized ≡ codes "Unauthorized"
  pub name_of_forbidden : reason_name Forbidden ≡ codes "Forbidden"
  pub name_of_invalid : reason_name Invalid ≡ codes "Invalid"
  pub name_of_too_large : reason_name RequestEntityTooLarge ≡ codes "RequestEntityTooLarge"
  -- HTTP: 401 Unauthorized, 403 Forbidden, 413 Content Too Large, 422 Unprocessable Content
  pub code_of_unauthorized : reason_code Unauthorized ≡ 401
  pub code_of_forbidden : reason_code Forbidden ≡ 403
  pub code_of_invalid : reason_code Invalid ≡ 422
  pub code_of_too_large : reason_code RequestEntityTooLarge ≡ 413
  pub most_parts : part_limit ≡ 64
  pub line_feed : has_line_break (10 ∷ []) ≡ true
  pub carriage_return : has_line_break (97 ∷ 13 ∷ []) ≡ true
  pub vertical_tab_and_form_feed : has_line_break (9 ∷ 11 ∷ 12 ∷ 14 ∷ []) ≡ false
  pub broken_message :
      has_broken_message (record (sized 0 0 1) { validations = record (plain_validation (codes "a")) { message = 13 ∷ [] } ∷ [] })
      ≡ true
  -- too many conditions are reported before a line break in a message
  pub too_many_first : judged (record (sized 65 0 1) { validations = record (plain_validation (codes "a")) { message = 10 ∷ [] } ∷ [] })
      ≡ Err TooManyParts

-- documents of which one field is wrong
pub record FormRowsStand : Type 0 where
  pub constraints_alone : has_spec_form (json.object (json.member (codes "matchConstraints") json.null json.no_members)) ≡ false
  pub kind_alone : has_spec_form (json.object (json.member (codes "paramKind") json.null json.no_members)) ≡ false
  pub constraints_and_kind : has_spec_form
      (json.object (json.member (codes "matchConstraints") a (json.member (codes "paramKind") a json.no_members))) ≡ true
  pub unknown_in_spec : has_spec_form a ≡ false
  pub metadata : has_top_form (json.object (json.member (codes "metadata") a json.no_members)) ≡ true
  pub metadata_is_null : has_top_form (json.object (json.member (codes "metadata") json.null json.no_members)) ≡ false
  pub unknown_at_top : has_top_form a ≡ false
  -- a condition may have a name with a dash, a variable may not; names of conditions are distinct
  pub condition_with_dash :
      said (codes "{\"matchConditions\":[{\"name\":\"a-b\",\"expression\":\"c\"}],\"validations\":[{\"expression\":\"d\"}]}")
      ≡ Ok (record (sized 0 0 1) {
        conditions = record { name = codes "a-b"; expression = codes "c" } ∷ [];
        validations = plain_validation (codes "d") ∷ [];
      })
  pub condition_without_name :
      said (codes "{\"matchConditions\":[{\"name\":\"\",\"expression\":\"c\"}],\"validations\":[{\"expression\":\"d\"}]}")
      ≡ Err InvalidField
  pub constraints_are_null : said (codes "{\"matchConstraints\":null,\"validations\":[{\"expression\":\"d\"}]}") ≡ Err InvalidField
  pub kind_is_text : said (codes "{\"paramKind\":\"a\",\"validations\":[{\"expression\":\"d\"}]}") ≡ Err InvalidField
  pub other_version : policy_of (json.object (json.member (codes "kind") (json.string (codes "ValidatingAdmissionPolicy")) json.no_members))
      ≡ Err NotAPolicy
  pub unknown_in_validation : validation_in a ≡ None
