-- The results of reading tokens.
use Rattle.std.specs.Prelude.{◌≡◌, List, Option, Some, option_map}
use Rattle.json.specs.Token.{Token}
use Rattle.serde_json.specs.Data as json
use Rattle.request_fields.specs.Fields.{kept}
use Rattle.request_fields.specs.declared.level.Level.{Level}

-- a value was read with the remaining tokens, and this is what is kept of it
pub record Keeps (level : Level) (found : json.Data) (read : Option (json.Data × List Token)) (rest : List Token) : Type 0 where
  pub document : json.Data
  pub is : read ≡ Some (document, rest)
  pub keeps : found ≡ kept level document

-- the same of a value that is dropped if it has no level
pub record KeepsAt (level : Option Level) (found : Option json.Data) (read : Option (json.Data × List Token)) (rest : List Token)
    : Type 0 where
  pub document : json.Data
  pub is : read ≡ Some (document, rest)
  pub keeps : found ≡ option_map (λ l. kept l document) level
