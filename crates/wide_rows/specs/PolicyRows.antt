-- Documents, refusals and decisions of policies in the wide language (ValidatingAdmissionPolicy v1 and its failure policy),
-- worked by hand.
use Rattle.std.specs.Prelude.{◌≡◌, ℕ, true, false, List, [], ◌∷◌, ◌++◌, Option, Some, None, Result, Ok, Err, codes}
use Rattle.cel_tokens.specs.declared.read_error.ReadError.TheVariants as read_error
use Rattle.cel_reader.specs.Tree as profile
use Rattle.cel_reader.specs.declared.operator.BinaryOperator.TheVariants.{Add, Equal}
use Rattle.serde_json.specs.Data as json
use Rattle.json_fields.specs.Fields.{is_absent}
use Rattle.json_fields.specs.Members.{in_array, in_object, others}
use Rattle.cel_writer.specs.declared.write_error.WriteError.TheVariants as write_error
use Rattle.policy_glue.specs.Policy.{NamedExpression, Validation, Policy}
use Rattle.policy_glue.specs.declared.failure_policy.FailurePolicy.{TheVariants.Fail, TheVariants.Ignore}
use Rattle.policy_glue.specs.declared.part_kind.PartKind.TheVariants as part
use Rattle.policy_glue.specs.declared.policy_error.PolicyError.TheVariants as policy_error
use Rattle.policy_glue.specs.declared.reason.Reason.TheVariants as reason
use Rattle.wide_kinds.specs.declared.kind.Kind.TheVariants as kind
use Rattle.wide_kinds.specs.declared.kind.ValueKind.TheVariants as value_kind
use Rattle.wide_reader.specs.Tree as wide
use Rattle.wide_reader.specs.Tree.{Wide}
use Rattle.wide_reader.specs.declared.wide.PairMacro.TheVariants as pair
use Rattle.wide_reader.specs.declared.wide_error.MacroFault.TheVariants as macro_fault
use Rattle.wide_reader.specs.declared.wide_error.WideReadError.TheVariants as text_error
use Rattle.wide_meaning.specs.Written.{num, yes, no, name, dot, object_spec}
use Rattle.wide_translation.specs.Placed.{WideStep}
use Rattle.wide_translation.specs.Scope.{condition_scope, scope_of}
use Rattle.wide_translation.specs.declared.translation_error.TranslationError.TheVariants as refused
use Rattle.wide_policy.specs.Carrying.{profile_variable, wide_variable}
use Rattle.wide_policy.specs.Depth.{depth_limit}
use Rattle.wide_policy.specs.Errors.{from_policy, from_reader, from_translation, from_writer, in_part, needs_indices, translation_code}
use Rattle.wide_policy.specs.Errors.{wide_error_code, wide_error_place}
use Rattle.wide_policy.specs.NarrowTrees.{is_message_tabled, is_policy_tabled}
use Rattle.wide_policy.specs.Rows.{one_validation, said, said_with}
use Rattle.wide_policy.specs.Taking.{RefusesPart, TakenExpression, TakenValidation, TakenParts, fits, kept_text, notes_from, profile_named}
use Rattle.wide_policy.specs.Taking.{profile_of, profile_validation, scope_for, source_of, tree_of, Visible, visible, wide_tree_of}
use Rattle.wide_policy.specs.WideDocuments.{has_audit_annotations, is_absent_list, is_empty_list, is_empty_text, of_text}
use Rattle.wide_policy.specs.WideDocuments.{stable_version, wide_policy_in, with_read_error}
use Rattle.wide_policy.specs.WideTrees.{WideVariableTree, WideValidationTree, WidePolicyTree}
use Rattle.wide_policy.specs.declared.expression_error.WideExpressionError.TheVariants as expression_error
use Rattle.wide_policy.specs.declared.wide_policy_error.WidePolicyError.{WidePolicyError}
use Rattle.wide_policy.specs.declared.wide_policy_error.WidePolicyError.TheVariants as wide_error

-- ---- documents

-- reads a policy of this version with one validation, and with these fields beside `kind`
abbrev pub said_as : List ℕ → List ℕ → Result Policy WidePolicyError
said_as version fields =
    wide_policy_in (codes "{\"apiVersion\":\"admissionregistration.k8s.io/"
    ++ (version ++ (codes "\",\"kind\":\"ValidatingAdmissionPolicy\","
    ++ (fields ++ codes "\"spec\":{\"validations\":[{\"expression\":\"a\"}]}}"))))

-- reads a policy of one validation with these fields before its validations
abbrev pub said_beside : List ℕ → Result Policy WidePolicyError
said_beside fields = said (codes "{" ++ (fields ++ codes "\"validations\":[{\"expression\":\"a\"}]}"))

-- reads a policy with these validations
abbrev pub said_validations : List ℕ → Result Policy WidePolicyError
said_validations list = said (codes "{\"validations\":" ++ (list ++ codes "}"))

-- a policy of one validation with these conditions and variables
abbrev pub one_with : List NamedExpression → List NamedExpression → Policy
one_with cs vs = record (one_validation None) { conditions = cs; variables = vs }

-- versions, and fields of servers
pub record WideVersionRowsStand : Type 0 where
  pub beta : said_as (codes "v1beta1") [] ≡ Ok (one_validation None)
  pub alpha : said_as (codes "v1alpha1") [] ≡ Ok (one_validation None)
  pub other_version : said_as (codes "v2") [] ≡ Err (wide_error.Unread policy_error.NotAPolicy)
  pub status : said_as (codes "v1") (codes "\"status\":{\"a\":1},") ≡ Ok (one_validation None)
  pub null_metadata : said_as (codes "v1") (codes "\"metadata\":null,") ≡ Ok (one_validation None)
  pub metadata : said_as (codes "v1") (codes "\"metadata\":{\"name\":\"p\"},") ≡ Ok (one_validation None)
  pub other_field : said_as (codes "v1") (codes "\"other\":null,") ≡ Err (wide_error.Unread policy_error.InvalidField)
  pub no_json : wide_policy_in (codes "{") ≡ Err (wide_error.Unread policy_error.NotJson)

-- null fields of a specification, and annotations
pub record WideNullRowsStand : Type 0 where
  pub null_failure_policy : said_beside (codes "\"failurePolicy\":null,") ≡ Ok (one_validation None)
  pub null_constraints : said_beside (codes "\"matchConstraints\":null,") ≡ Ok (one_validation None)
  pub null_param_kind : said_beside (codes "\"paramKind\":null,") ≡ Ok (one_validation None)
  pub null_conditions : said_beside (codes "\"matchConditions\":null,") ≡ Ok (one_validation None)
  pub null_variables : said_beside (codes "\"variables\":null,") ≡ Ok (one_validation None)
  pub null_annotations : said_beside (codes "\"auditAnnotations\":null,") ≡ Ok (one_validation None)
  pub text_as_annotations : said_beside (codes "\"auditAnnotations\":\"a\",") ≡ Err wide_error.HasAuditAnnotations

-- failure policies, conditions and variables
pub record WideNamedRowsStand : Type 0 where
  pub failure_policy : said_beside (codes "\"failurePolicy\":\"Ignore\",") ≡ Ok (record (one_validation None) { failure_policy = Ignore })
  pub condition : said_beside (codes "\"matchConditions\":[{\"name\":\"c \",\"expression\":\" b \"}],")
      ≡ Ok (one_with (record { name = codes "c "; expression = codes "b" } ∷ []) [])
  pub variable : said_beside (codes "\"variables\":[{\"name\":\"v\",\"expression\":\"\\n b\"}],")
      ≡ Ok (one_with [] (record { name = codes "v"; expression = codes "b" } ∷ []))
  pub unknown_null : said_beside (codes "\"variables\":[{\"name\":\"v\",\"expression\":\"b\",\"x\":null}],")
      ≡ Err (wide_error.Unread policy_error.InvalidField)

-- null fields of a validation
pub record WideNullTextRowsStand : Type 0 where
  pub null_message : said_with (codes "\"message\":null") ≡ Ok (one_validation None)
  pub null_message_expression : said_with (codes "\"messageExpression\":null") ≡ Ok (one_validation None)
  pub null_reason : said_with (codes "\"reason\":null") ≡ Ok (one_validation None)
  pub message_expression : said_with (codes "\"messageExpression\":\" b\"") ≡ Ok (one_validation (Some (codes "b")))

-- lists of validations, and their blanks
pub record WideValidationRowsStand : Type 0 where
  pub no_array : said_validations (codes "{}") ≡ Err (wide_error.Unread policy_error.InvalidField)
  pub int_as_validation : said_validations (codes "[1]") ≡ Err (wide_error.Unread policy_error.InvalidField)
  pub trimmed : said_validations (codes "[{\"expression\":\" a\\n\",\"message\":\" m \",\"reason\":\"Forbidden\"}]")
      ≡ Ok (record (one_validation None) {
        validations = record { expression = codes "a"; message = codes "m"; reason = reason.Forbidden; message_expression = None } ∷ [];
      })
  pub null_beside_a_broken_line : said_validations (codes "[{\"expression\":\"a\",\"message\":\"m\\nn\"}]")
      ≡ Err (wide_error.Unread policy_error.MessageWithLineBreak)
  pub line_break_at_the_end : said_validations (codes "[{\"expression\":\"a\",\"message\":\"m\\n\"}]")
      ≡ Ok (record (one_validation None) {
        validations = record { expression = codes "a"; message = codes "m"; reason = reason.Invalid; message_expression = None } ∷ [];
      })

-- {"a":null,"b":1}, [1] and the text a
abbrev pub members : json.Members
members = json.member (codes "a") json.null (json.member (codes "b") (json.boolean true) json.no_members)

abbrev pub list : json.Data
list = json.array (json.item (json.boolean true) json.no_items)

abbrev pub text : json.Data
text = json.string (codes "a")

-- {"kind":k,"spec":{"auditAnnotations":d}}
abbrev pub annotated : List ℕ → json.Data → json.Data
annotated k d =
    json.object (json.member (codes "kind") (json.string k)
    (json.member (codes "spec") (json.object (json.member (codes "auditAnnotations") d json.no_members)) json.no_members))

-- parts of documents
pub record WidePartRowsStand : Type 0 where
  pub missing : is_absent None ≡ true
  pub null : is_absent (Some json.null) ≡ true
  pub there : is_absent (Some text) ≡ false
  pub no_list : is_empty_list None ≡ false
  pub empty_list : is_empty_list (Some (json.array json.no_items)) ≡ true
  pub one_item : is_empty_list (Some list) ≡ false
  pub text_is_no_list : is_empty_list (Some text) ≡ false
  pub no_text : is_empty_text None ≡ false
  pub empty_text : is_empty_text (Some (json.string [])) ≡ true
  pub one_letter : is_empty_text (Some text) ≡ false
  pub list_is_no_text : is_empty_text (Some (json.array json.no_items)) ≡ false
  pub without_first : others (codes "a") members ≡ json.member (codes "b") (json.boolean true) json.no_members
  pub without_second : others (codes "b") members ≡ json.member (codes "a") json.null json.no_members
  pub without_none : others (codes "c") members ≡ members
  pub object_of_null : in_object (λ ms. json.no_members) json.null ≡ json.null
  pub object_of_bool : in_object (λ ms. json.no_members) (json.boolean true) ≡ json.boolean true
  pub object_of_text : in_object (λ ms. json.no_members) text ≡ text
  pub object_of_list : in_object (λ ms. json.no_members) list ≡ list
  pub object_of_object : in_object (λ ms. json.no_members) (json.object members) ≡ json.object json.no_members
  pub list_of_null : in_array (λ d. json.null) json.null ≡ json.null
  pub list_of_bool : in_array (λ d. json.null) (json.boolean true) ≡ json.boolean true
  pub list_of_text : in_array (λ d. json.null) text ≡ text
  pub list_of_list : in_array (λ d. json.null) list ≡ json.array (json.item json.null json.no_items)
  pub list_of_object : in_array (λ d. json.null) (json.object members) ≡ json.object members
  pub text_of_null : of_text (λ s. []) json.null ≡ json.null
  pub text_of_bool : of_text (λ s. []) (json.boolean true) ≡ json.boolean true
  pub text_of_text : of_text (λ s. []) text ≡ json.string []
  pub text_of_list : of_text (λ s. []) list ≡ list
  pub text_of_object : of_text (λ s. []) (json.object members) ≡ json.object members
  pub beta : stable_version (codes "admissionregistration.k8s.io/v1beta1") ≡ codes "admissionregistration.k8s.io/v1"
  pub alpha : stable_version (codes "admissionregistration.k8s.io/v1alpha1") ≡ codes "admissionregistration.k8s.io/v1"
  pub other_version : stable_version (codes "v2") ≡ codes "v2"
  pub missing_list : is_absent_list None ≡ true
  pub null_list : is_absent_list (Some json.null) ≡ true
  pub empty_list_is_absent : is_absent_list (Some (json.array json.no_items)) ≡ true
  pub list_is_there : is_absent_list (Some list) ≡ false
  pub annotations : has_audit_annotations (annotated (codes "ValidatingAdmissionPolicy") list) ≡ true
  pub null_annotations : has_audit_annotations (annotated (codes "ValidatingAdmissionPolicy") json.null) ≡ false
  pub annotations_elsewhere : has_audit_annotations (annotated (codes "Other") list) ≡ false
  pub read : with_read_error (Ok (one_validation None)) ≡ Ok (one_validation None)
  pub unread : with_read_error (Err policy_error.NotJson) ≡ Err (wide_error.Unread policy_error.NotJson)

-- ---- errors

-- codes, places, and errors of other crates
pub record WideRefusalRowsStand : Type 0 where
  pub optional_value : translation_code refused.OptionalValue ≡ codes "W4"
  pub unsigned : translation_code refused.UnsignedInt ≡ codes "W2"
  pub indices : translation_code refused.NeedsIndices ≡ codes "W5"
  pub optional_entry : translation_code refused.OptionalEntry ≡ codes "W6"
  pub unsupported : translation_code refused.Unsupported ≡ codes "W5"
  pub memory : translation_code refused.Memory ≡ codes "memory"
  pub unread : wide_error_code (expression_error.Unread (text_error.Bytes 3)) ≡ codes "W1"
  pub untranslated : wide_error_code (expression_error.Untranslated refused.OptionalEntry) ≡ codes "W6"
  pub too_deep : wide_error_code expression_error.TooDeep ≡ codes "W10"
  pub optional_result : wide_error_code expression_error.OptionalResult ≡ codes "W4"
  pub unwritten : wide_error_code expression_error.Unwritten ≡ codes "P6"
  pub no_memory : wide_error_code expression_error.Memory ≡ codes "memory"
  pub place_of_text : wide_error_place (expression_error.Unread (text_error.Bytes 3)) ≡ Some 3
  pub place_of_macro : wide_error_place (expression_error.Unread (text_error.Macro macro_fault.NoSelection)) ≡ None
  pub place_of_depth : wide_error_place expression_error.TooDeep ≡ None
  pub place_of_translation : wide_error_place (expression_error.Untranslated refused.Unsupported) ≡ None
  pub place_of_optional : wide_error_place expression_error.OptionalResult ≡ None
  pub place_of_unwritten : wide_error_place expression_error.Unwritten ≡ None
  pub place_of_memory : wide_error_place expression_error.Memory ≡ None
  pub memory_of_reader : from_reader (text_error.Text read_error.Memory) ≡ expression_error.Memory
  pub text_of_reader : from_reader (text_error.Text (read_error.TooManyOpen 7))
      ≡ expression_error.Unread (text_error.Text (read_error.TooManyOpen 7))
  pub bytes_of_reader : from_reader (text_error.Bytes 7) ≡ expression_error.Unread (text_error.Bytes 7)
  pub memory_of_translation : from_translation refused.Memory ≡ expression_error.Memory
  pub other_of_translation : from_translation refused.UnsignedInt ≡ expression_error.Untranslated refused.UnsignedInt
  pub memory_of_writer : from_writer write_error.Memory ≡ expression_error.Memory
  pub other_of_writer : from_writer write_error.Unreadable ≡ expression_error.Unwritten
  pub memory_of_policy : from_policy policy_error.Memory ≡ wide_error.Memory
  pub other_of_policy : from_policy policy_error.NoValidations ≡ wide_error.Unread policy_error.NoValidations
  pub memory_in_part : in_part part.Variable 3 expression_error.Memory ≡ wide_error.Memory
  pub other_in_part : in_part part.Variable 3 expression_error.TooDeep
      ≡ wide_error.InvalidExpression part.Variable 3 expression_error.TooDeep
  pub needs : needs_indices (wide_error.InvalidExpression part.Message 1 (expression_error.Untranslated refused.NeedsIndices)) ≡ true
  pub needs_other : needs_indices (wide_error.InvalidExpression part.Message 1 (expression_error.Untranslated refused.Unsupported)) ≡ false
  pub needs_no_depth : needs_indices (wide_error.InvalidExpression part.Message 1 expression_error.TooDeep) ≡ false
  pub needs_no_memory : needs_indices wide_error.Memory ≡ false
  pub deepest : depth_limit ≡ 512

-- ---- the parts that are taken

-- object.spec.args + object.spec.args, which may be wider than the documents, and its indices and values
abbrev pub args : Wide
args = dot object_spec "args"

abbrev pub doubled : Wide
doubled = wide.binary Add args args

abbrev pub indexed : Wide → Wide
indexed r = wide.pair_fold pair.All r (codes "k") (codes "v") (wide.binary Equal (name "k") (num 0))

-- variables.l
abbrev pub of_variable : Wide
of_variable = dot (name "variables") "l"

abbrev pub variable : Wide → WideVariableTree
variable e = record { name = codes "l"; expression = e }

abbrev pub validation : Wide → WideValidationTree
validation e = record { expression = e; message = None }

-- a policy of these variables, conditions and validations
abbrev pub policy : List WideVariableTree → List Wide → List WideValidationTree → WidePolicyTree
policy vs cs rs = record { variables = vs; conditions = cs; validations = rs }

-- policies for which a table as wide as the documents is long enough, and others
pub record TabledRowsStand : Type 0 where
  pub of_field : is_policy_tabled (policy [] [] (validation (indexed args) ∷ [])) ≡ true
  pub of_sum : is_policy_tabled (policy [] [] (validation (indexed doubled) ∷ [])) ≡ false
  pub in_second_validation : is_policy_tabled (policy [] [] (validation yes ∷ validation (indexed doubled) ∷ [])) ≡ false
  pub in_condition : is_policy_tabled (policy [] (indexed doubled ∷ []) (validation yes ∷ [])) ≡ false
  pub field_in_condition : is_policy_tabled (policy [] (indexed args ∷ []) (validation yes ∷ [])) ≡ true
  pub in_variable : is_policy_tabled (policy (variable (indexed doubled) ∷ []) [] (validation yes ∷ [])) ≡ false
  pub in_second_variable : is_policy_tabled (policy (variable yes ∷ variable (indexed doubled) ∷ []) [] (validation yes ∷ [])) ≡ false
  pub of_narrow_variable : is_policy_tabled (policy (variable args ∷ []) [] (validation (indexed of_variable) ∷ [])) ≡ true
  pub of_wide_variable : is_policy_tabled (policy (variable doubled ∷ []) [] (validation (indexed of_variable) ∷ [])) ≡ false
  pub of_earlier_variable : is_policy_tabled (policy (variable doubled ∷ variable (indexed of_variable) ∷ []) [] (validation yes ∷ []))
      ≡ false
  pub in_message : is_policy_tabled (policy [] [] (record { expression = yes; message = Some (indexed doubled) } ∷ [])) ≡ false
  pub no_message : is_message_tabled [] None ≡ true
  pub field_in_message : is_message_tabled [] (Some (indexed args)) ≡ true

-- an expression with its translation, of an unknown kind, and one of an optional value
abbrev pub taken : Wide → profile.Tree → TakenExpression
taken e t = record { wide = e; kind = kind.Value value_kind.Dyn; tree = t }

-- the trees of x and y in the profile
abbrev pub x : profile.Tree
x = profile.name (codes "x")

abbrev pub y : profile.Tree
y = profile.name (codes "y")

-- the variable or condition n, translated to x
abbrev pub step : WideStep
step = record { name = codes "n"; wide = name "a"; kind = kind.Value value_kind.Dyn; tree = x }

-- a validation with the expression a and the message expression b, translated to x and y; its message expression left out
abbrev pub source_validation : Option (List ℕ) → Validation
source_validation m = record { expression = codes "a"; message = codes "no"; reason = reason.Forbidden; message_expression = m }

abbrev pub with_message : TakenValidation
with_message = record {
  source = source_validation (Some (codes "b"));
  expression = taken (name "a") x;
  message = Some (taken (name "b") y);
  left_out = None;
}

abbrev pub without_message : TakenValidation
without_message = record {
  source = source_validation None;
  expression = taken (name "a") x;
  message = None;
  left_out = Some expression_error.TooDeep;
}

abbrev pub parts : TakenParts
parts = record { variables = step ∷ []; conditions = step ∷ step ∷ []; validations = with_message ∷ without_message ∷ [] }

-- the policy that is read, and those of its author's texts and of the translations
pub record TakenRowsStand : Type 0 where
  pub variable_may_be_optional : fits part.Variable (kind.Optional value_kind.Dyn) ≡ true
  pub variable_may_be_a_value : fits part.Variable (kind.Value value_kind.Dyn) ≡ true
  pub condition_may_not : fits part.Condition (kind.Optional value_kind.Dyn) ≡ false
  pub validation_may_not : fits part.Validation (kind.Optional value_kind.Bool) ≡ false
  pub message_may_not : fits part.Message (kind.Optional value_kind.String) ≡ false
  pub validation_is_a_value : fits part.Validation (kind.Value value_kind.Bool) ≡ true
  pub scope_of_condition : scope_for part.Condition (visible true ((codes "v", kind.Value value_kind.Int) ∷ [])) ≡ condition_scope true
  pub scope_of_variable : scope_for part.Variable (visible false ((codes "v", kind.Value value_kind.Int) ∷ []))
      ≡ scope_of false ((codes "v", kind.Value value_kind.Int) ∷ [])
  pub scope_of_message : scope_for part.Message (visible true []) ≡ scope_of true []
  pub kept : kept_text None (Some (codes "a")) ≡ Some (codes "a")
  pub not_kept : kept_text (Some expression_error.TooDeep) (Some (codes "a")) ≡ None
  pub notes : notes_from 4 (with_message ∷ without_message ∷ []) ≡ record { validation = 5; cause = expression_error.TooDeep } ∷ []
  pub first_note : notes_from 0 (without_message ∷ without_message ∷ [])
      ≡ record { validation = 0; cause = expression_error.TooDeep } ∷ record { validation = 1; cause = expression_error.TooDeep } ∷ []
  pub named : profile_named step ≡ record { name = codes "n"; expression = codes "x" }
  pub validation_of_profile : profile_validation with_message
      ≡ record { expression = codes "x"; message = codes "no"; reason = reason.Forbidden; message_expression = Some (codes "y") }
  pub validation_without : profile_validation without_message
      ≡ record { expression = codes "x"; message = codes "no"; reason = reason.Forbidden; message_expression = None }
  pub source : source_of (one_validation None) parts
      ≡ record (one_validation None) { validations = source_validation (Some (codes "b")) ∷ source_validation None ∷ [] }
  pub profile_has_counts : profile_of (record (one_validation None) { failure_policy = Ignore }) (record parts { validations = [] })
      ≡ record {
        failure_policy = Ignore;
        conditions = profile_named step ∷ profile_named step ∷ [];
        variables = profile_named step ∷ [];
        validations = [];
      }
  pub profile_has_validations :
      profile_of (one_validation None) (record { variables = []; conditions = []; validations = with_message ∷ [] })
      ≡ record { failure_policy = Fail; conditions = []; variables = []; validations = profile_validation with_message ∷ [] }
  pub wide_variable_of : wide_variable step ≡ record { name = codes "n"; expression = name "a" }
  pub profile_variable_of : profile_variable step ≡ record { name = codes "n"; expression = x }
  pub wide_trees : wide_tree_of parts ≡ record {
    variables = wide_variable step ∷ [];
    conditions = name "a" ∷ name "a" ∷ [];
    validations = record { expression = name "a"; message = Some (name "b") } ∷ record { expression = name "a"; message = None } ∷ [];
  }
  pub profile_trees : tree_of parts ≡ record {
    variables = profile_variable step ∷ [];
    conditions = x ∷ x ∷ [];
    validations = record { expression = x; message = Some y } ∷ record { expression = x; message = None } ∷ [];
  }

-- a refused part is told as such, with its kind and its place
pub record RefusedPartRowsStand : Type 0 where
  pub no_other_refusal : (s : Visible) (text : List ℕ) → RefusesPart part.Variable s 3 text wide_error.HasAuditAnnotations → ⊥
  pub no_other_part :
      (s : Visible) (text : List ℕ)
      → RefusesPart part.Variable s 3 text (wide_error.InvalidExpression part.Condition 3 expression_error.TooDeep) → ⊥
