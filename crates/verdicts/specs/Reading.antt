-- The policy that a document states, or why the document is refused.
use Rattle.std.specs.Prelude.{◌≡◌, ℕ, ◌&&◌, ◌||◌, Bool, true, false, not, List, [], ◌∷◌, length, nat_lt, nat_eq}
use Rattle.std.specs.Prelude.{Option, Some, None, Result, Ok, Err, codes, if◌then◌else◌}
use Rattle.std.specs.List.{list_any}
use Rattle.std.specs.Option.{option_map_or}
use Rattle.std.specs.Str.{bytes_eq}
use Rattle.serde_json.specs.Data as json
use Rattle.serde_json.specs.Find.{get}
use Rattle.insn_codec.specs.Candidate.{◌>>=◌}
use Rattle.cel_reader.specs.Words.{is_identifier}
use Rattle.json_fields.specs.Fields.{has_only, is_object_or_absent, optional_text_of, text_of}
use Rattle.value_store.specs.Documents.{document_of, equals_string}
use Rattle.json_fields.specs.Fields.{list_in, list_of, text_or_empty_of}
use Rattle.verdicts.specs.Policy.{NamedExpression, Validation, Policy}
use Rattle.verdicts.specs.Policy.{part_limit}
use Rattle.verdicts.specs.declared.name_rule.NameRule.{NameRule, TheVariants.NotEmpty, TheVariants.Identifier}
use Rattle.verdicts.specs.declared.failure_policy.FailurePolicy.{FailurePolicy, TheVariants.Fail, TheVariants.Ignore}
use Rattle.verdicts.specs.declared.reason.Reason.{Reason}
use Rattle.verdicts.specs.declared.reason.Reason.TheVariants.{Unauthorized, Forbidden, Invalid, RequestEntityTooLarge}
use Rattle.verdicts.specs.declared.policy_error.PolicyError.{PolicyError}
use Rattle.verdicts.specs.declared.policy_error.PolicyError.TheVariants.{NotJson, NotAPolicy, InvalidField, NoValidations, TooManyParts, MessageWithLineBreak, Memory}

-- ---- the form of a document: no result if a key is unknown, missing or has a value of the wrong type, or if a name,
-- a failure policy or a reason is not allowed

-- the fields of a match condition or of a variable
unfoldable pub named_keys : List (List ℕ)
named_keys = codes "name" ∷ codes "expression" ∷ []

-- its required texts `name` and `expression`
unfoldable pub named_parts : json.Data → Option NamedExpression
named_parts d = do
  n ← text_of (get (codes "name") d)
  e ← text_of (get (codes "expression") d)
  Some (record { name = n; expression = e })

-- the name of a condition is not empty; the name of a variable is an identifier that CEL does not reserve
abbrev pub allows : NameRule → List ℕ → Bool
allows NotEmpty n = not (nat_eq (length n) 0)
allows Identifier n = is_identifier n

-- a match condition or a variable, if its name is allowed
abbrev pub named_in : NameRule → json.Data → Option NamedExpression
named_in rule d =
    if has_only named_keys d then (named_parts d >>= λ n. if allows rule n.name then Some n else None)
    else None

-- no two names are equal
abbrev pub are_distinct : List NamedExpression → Bool
are_distinct [] = true
are_distinct (n ∷ ns) = not (list_any (λ m. bytes_eq n.name m.name) ns) && are_distinct ns

-- the list, if no two names are equal
abbrev pub distinct : Option (List NamedExpression) → Option (List NamedExpression)
distinct (Some ns) = if are_distinct ns then Some ns else None
distinct None = None

-- a list of conditions or variables, which may be absent
abbrev pub named_list_in : NameRule → Option json.Data → Option (List NamedExpression)
named_list_in rule o = distinct (list_of (named_in rule) o)

-- the reason of a denial, Invalid by default
unfoldable pub reason_in : Option json.Data → Option Reason
reason_in None = Some Invalid
reason_in (Some (json.string s)) =
    if bytes_eq s (codes "Unauthorized") then Some Unauthorized
    else (if bytes_eq s (codes "Forbidden") then Some Forbidden
    else (if bytes_eq s (codes "Invalid") then Some Invalid
    else (if bytes_eq s (codes "RequestEntityTooLarge") then Some RequestEntityTooLarge else None)))
reason_in (Some _) = None

-- the fields of a validation
unfoldable pub validation_keys : List (List ℕ)
validation_keys = codes "expression" ∷ codes "message" ∷ codes "messageExpression" ∷ codes "reason" ∷ []

-- its `expression`, which is required, and its `message`, `reason` and `messageExpression`
unfoldable pub validation_parts : json.Data → Option Validation
validation_parts d = do
  e ← text_of (get (codes "expression") d)
  m ← text_or_empty_of (get (codes "message") d)
  r ← reason_in (get (codes "reason") d)
  x ← optional_text_of (get (codes "messageExpression") d)
  Some (record { expression = e; message = m; reason = r; message_expression = x })

-- a validation
abbrev pub validation_in : json.Data → Option Validation
validation_in d = if has_only validation_keys d then validation_parts d else None

-- what happens if an expression cannot be decided, Fail by default
abbrev pub failure_in : Option json.Data → Option FailurePolicy
failure_in None = Some Fail
failure_in (Some (json.string s)) =
    if bytes_eq s (codes "Fail") then Some Fail else (if bytes_eq s (codes "Ignore") then Some Ignore else None)
failure_in (Some _) = None

-- the fields of the specification; the contents of `matchConstraints` and `paramKind` are ignored
unfoldable pub spec_keys : List (List ℕ)
spec_keys =
    codes "failurePolicy" ∷ codes "matchConditions" ∷ codes "matchConstraints" ∷ codes "paramKind" ∷ codes "validations"
    ∷ codes "variables" ∷ []

-- its `failurePolicy`, `matchConditions`, `variables` and `validations`; only the last is required
unfoldable pub spec_parts : json.Data → Option Policy
spec_parts d = do
  f ← failure_in (get (codes "failurePolicy") d)
  cs ← named_list_in NotEmpty (get (codes "matchConditions") d)
  vs ← named_list_in Identifier (get (codes "variables") d)
  rs ← list_in validation_in (get (codes "validations") d)
  Some (record { failure_policy = f; conditions = cs; variables = vs; validations = rs })

-- no field is unknown, and the ignored fields are objects or absent
unfoldable pub has_spec_form : json.Data → Bool
has_spec_form d =
    has_only spec_keys d
    && (is_object_or_absent (get (codes "matchConstraints") d) && is_object_or_absent (get (codes "paramKind") d))

-- the policy in a specification, if it has the right form
abbrev pub spec_in : Option json.Data → Option Policy
spec_in (Some d) = if has_spec_form d then spec_parts d else None
spec_in None = None

-- the fields of the document; the contents of `metadata` are ignored
unfoldable pub top_keys : List (List ℕ)
top_keys = codes "apiVersion" ∷ codes "kind" ∷ codes "metadata" ∷ codes "spec" ∷ []

-- no field is unknown, and `metadata` is an object or absent
unfoldable pub has_top_form : json.Data → Bool
has_top_form d = has_only top_keys d && is_object_or_absent (get (codes "metadata") d)

-- the policy in the document's `spec`
abbrev pub policy_parts_in : json.Data → Option Policy
policy_parts_in d = if has_top_form d then spec_in (get (codes "spec") d) else None

-- the document has this API version and kind
unfoldable pub has_head : json.Data → Bool
has_head d =
    equals_string (get (codes "apiVersion") d) (codes "admissionregistration.k8s.io/v1")
    && equals_string (get (codes "kind") d) (codes "ValidatingAdmissionPolicy")

-- ---- the refusals in order

-- it has more than 64 parts of one kind (`TooManyParts`)
abbrev pub has_too_many : Policy → Bool
has_too_many p =
    nat_lt part_limit (length p.conditions)
    || (nat_lt part_limit (length p.variables) || nat_lt part_limit (length p.validations))

-- a byte of the text is a line break: a line feed or a carriage return
abbrev pub has_line_break : List ℕ → Bool
has_line_break text = list_any (λ b. nat_eq b 10 || nat_eq b 13) text

-- a message has a line break (`MessageWithLineBreak`)
abbrev pub has_broken_message : Policy → Bool
has_broken_message p = list_any (λ r. has_line_break r.message) p.validations

-- the policy, or the first of `NoValidations` if it has none, `TooManyParts` and `MessageWithLineBreak`
abbrev pub judged : Policy → Result Policy PolicyError
judged p =
    if nat_eq (length p.validations) 0 then Err NoValidations
    else (if has_too_many p then Err TooManyParts
    else (if has_broken_message p then Err MessageWithLineBreak
    else Ok p))

-- the same, after `NotAPolicy` if the document has another API version or kind, and `InvalidField` if its form is not right
unfoldable pub policy_of : json.Data → Result Policy PolicyError
policy_of d = if has_head d then option_map_or judged (policy_parts_in d) (Err InvalidField) else Err NotAPolicy

-- what holds of each accepted policy
pub record IsAcceptedPolicy (p : Policy) : Type 0 where
  pub validations : nat_eq (length p.validations) 0 ≡ false
  pub counts : has_too_many p ≡ false
  pub messages : has_broken_message p ≡ false

-- the policy in some bytes, or the first refusal: `NotJson` if they are not JSON
unfoldable pub policy_in : List ℕ → Result Policy PolicyError
policy_in bytes = option_map_or policy_of (document_of bytes) (Err NotJson)

-- ---- results of the code

-- a part with the right form is returned, else `InvalidField`; or an allocation failed
abbrev pub Forms : {A B : Type 0} → (B → A) → Option A → Result B PolicyError → Type 0
Forms see part (Ok b) = part ≡ Some (see b)
Forms see part (Err InvalidField) = part ≡ None
Forms see part (Err Memory) = Unit {0}
Forms see part (Err _) = ⊥

-- the policy or the first refusal is returned; or an allocation failed
abbrev pub PolicyReadReturns : Result Policy PolicyError → Result Policy PolicyError → Type 0
PolicyReadReturns due (Ok p) = due ≡ Ok p
PolicyReadReturns due (Err Memory) = Unit {0}
PolicyReadReturns due (Err e) = due ≡ Err e
