-- The JSON tokens of a translation.
use Rattle.std.specs.Prelude.{List, ◌∷◌, flat_map}
use Rattle.json.specs.Token.{Token, key}
use Rattle.json.specs.Tree.{json_tokens}
use Rattle.json.specs.Written.{Written}
use Rattle.serde_json.specs.Data as json
use Rattle.serde_json.specs.Written.{outline}
use Rattle.policy_glue.specs.ResponseTokens.{AddsTokens}
use Rattle.policy_translation.specs.TranslationText.{Member}

-- the tokens of a value
abbrev pub data_tokens : json.Data → List Token
data_tokens d = json_tokens (outline d)

-- the tokens of a member
abbrev pub member_tokens : Member → List Token
member_tokens m = key m.0 ∷ data_tokens m.1

-- a value is written after the earlier tokens
abbrev pub AddsData : Written → Written → json.Data → Type 0
AddsData old new d = AddsTokens old new (data_tokens d)

-- members are written after the earlier tokens
abbrev pub AddsMembers : Written → Written → List Member → Type 0
AddsMembers old new ms = AddsTokens old new (flat_map member_tokens ms)
