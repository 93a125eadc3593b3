-- What becomes of a request that a policy cannot decide (Kubernetes, `failurePolicy`).
use Rattle.std.specs.Prelude.{Bool, codes, not}
use Rattle.serde_json.specs.Data as json
use Rattle.value_store.specs.Documents.{equals_string}
use Rattle.json_fields.specs.Fields.{field, field_of}

-- the policy's `failurePolicy` is not `Ignore`
unfoldable pub fails_closed : json.Data → Bool
fails_closed d = not (equals_string (field_of (codes "failurePolicy") (field (codes "spec") d)) (codes "Ignore"))
