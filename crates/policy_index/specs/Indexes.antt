-- Indexes of match resources by resource.
use Rattle.std.specs.Prelude.{◌≡◌, ℕ, Bool, List, Option, Vec, option_map, unwrap_or}
use Rattle.std.specs.BTreeMap.{BTreeMap, get_by_text}
use Rattle.std.specs.declared.alloc.Global.{Global}
use Rattle.std.specs.declared.string.String.{String}
use Rattle.admission_match.specs.Matching.{MatchResources}
use Rattle.policy_index.specs.Naming.{candidates}
use Rattle.policy_index.specs.declared.resource_index.ResourceIndex.{ResourceIndex}

-- the row that there is for a resource
abbrev pub row_at : BTreeMap (String Global) (Vec Bool Global) → List ℕ → Option (List Bool)
row_at rows resource = option_map (λ v. v.items) (get_by_text rows resource)

-- the answers that an index has for a resource
unfoldable pub answers : ResourceIndex → List ℕ → List Bool
answers index resource = unwrap_or (row_at index.rows resource) index.others.items

-- for each resource the index says which of these match resources, in order, may match a request on it
abbrev pub IsIndexOf : ResourceIndex → List MatchResources → Type 0
IsIndexOf index ms = (resource : List ℕ) → answers index resource ≡ candidates ms resource
