-- The document of a policy as it is compiled. A field that is null counts as absent, as in all documents of a state.
use Rattle.std.specs.Prelude.{◌∷◌, codes}
use Rattle.serde_json.specs.Data as json
use Rattle.json_fields.specs.Members.{changed, in_array, in_object, others, without_nulls}
use Rattle.policy_glue.specs.Reading.{spec_keys, validation_keys}

-- a validation without the fields that are null
abbrev pub compiled_validation : json.Data → json.Data
compiled_validation d = in_object (without_nulls validation_keys) d

-- the members of a specification without the fields that are null, and its validations likewise
abbrev pub spec_members : json.Members → json.Members
spec_members ms =
    changed (codes "validations") (in_array compiled_validation) (without_nulls (codes "auditAnnotations" ∷ spec_keys) ms)

-- the members of a policy without its `status`, which the API server writes, and its specification likewise
abbrev pub policy_members : json.Members → json.Members
policy_members ms = changed (codes "spec") (in_object spec_members) (others (codes "status") ms)

-- the document of a policy as it is compiled
abbrev pub compiled_document : json.Data → json.Data
compiled_document d = in_object policy_members d
