-- Members of an object that is built, for private clauses.
use Rattle.std.specs.Prelude.{ℕ, List, codes}
use Rattle.serde_json.specs.Data as json

-- the status with this code, message and reason
abbrev pub status_object : ℕ → List ℕ → List ℕ → json.Data
status_object code message reason = json.object
    (json.member (codes "code") (json.number (json.unsigned code))
    (json.member (codes "message") (json.string message)
    (json.member (codes "reason") (json.string reason) json.no_members)))
