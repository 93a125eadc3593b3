-- The audit annotation of a failed validation.
use Rattle.std.specs.Prelude.{ℕ, ◌==◌, List, [], ◌∷◌, ◌++◌, map, codes, encode_utf8, if◌then◌else◌}
use Rattle.std.specs.List.{concat, flat_map}
use Rattle.std.specs.Str.{chars}
use Rattle.serde_json.specs.Data as json
use Rattle.serde_json.specs.View.{items_of}
use Rattle.serde_json.specs.Written.{compact_text}
use Rattle.cluster_state.specs.declared.action.Action.{Action}
use Rattle.cluster_state.specs.declared.action.Action.TheVariants.{Deny, Warn, Audit}
use Rattle.cluster_response.specs.Events.{ClusterAudit}

-- the name of an action (ValidationAction)
abbrev pub action_name : Action → List ℕ
action_name Deny = codes "Deny"
action_name Warn = codes "Warn"
action_name Audit = codes "Audit"

-- an action in JSON
abbrev pub action_tree : Action → json.Data
action_tree action = json.string (action_name action)

-- a character as Go writes it in JSON: `<`, `>`, `&`, U+2028 and U+2029 are escaped (encoding/json, HTMLEscape)
abbrev pub html_escape : ℕ → List ℕ
html_escape c =
    if c == 60 then codes "\\u003c"
    else (if c == 62 then codes "\\u003e"
    else (if c == 38 then codes "\\u0026"
    else (if c == 8232 then codes "\\u2028"
    else (if c == 8233 then codes "\\u2029" else encode_utf8 c))))

-- a text with each character as Go writes it
abbrev pub html_safe : List ℕ → List ℕ
html_safe t = flat_map html_escape (chars t)

-- a text as a JSON string
abbrev pub json_text : List ℕ → List ℕ
json_text t = compact_text (json.string t)

-- a field whose value is a text, after the text before it
unfoldable pub text_field : List ℕ → List ℕ → List ℕ
text_field start t = start ++ json_text t

-- the last fields: the place of the validation, and the actions
unfoldable pub place_text : ClusterAudit → List ℕ
place_text a = concat (
    codes ",\"expressionIndex\":" ∷ compact_text (json.number (json.unsigned a.index))
    ∷ codes ",\"validationActions\":" ∷ compact_text (json.array (items_of (map action_tree a.actions)))
    ∷ codes "}]" ∷ [])

-- the failure as JSON, its fields in the order of the API server's struct (ValidationFailureValue)
unfoldable pub failure_text : ClusterAudit → List ℕ
failure_text a = concat (
    text_field (codes "[{\"message\":") a.message ∷ text_field (codes ",\"policy\":") a.policy
    ∷ text_field (codes ",\"binding\":") a.binding ∷ place_text a ∷ [])

-- the value of the annotation
unfoldable pub annotation_text : ClusterAudit → List ℕ
annotation_text a = html_safe (failure_text a)
