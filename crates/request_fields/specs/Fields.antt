-- The fields of a review (AdmissionReview, admission.k8s.io/v1) that are kept: those that matching and the response read.
use Rattle.std.specs.Prelude.{ℕ, ◌||◌, false, List, Option, Some, None, codes, option_map, if◌then◌else◌}
use Rattle.std.specs.Str.{bytes_eq}
use Rattle.serde_json.specs.Data as json
use Rattle.request_fields.specs.declared.level.Level.{Level}
use Rattle.request_fields.specs.declared.level.Level.TheVariants.{Review, Request, Kind, Object, Metadata, Labels, Text}

-- what a member of a review is read as
abbrev pub below_review : List ℕ → Option Level
below_review k =
    if bytes_eq k (codes "apiVersion") || bytes_eq k (codes "kind") then Some Text
    else (if bytes_eq k (codes "request") then Some Request else None)

-- what a member of a request is read as
unfoldable pub below_request : List ℕ → Option Level
below_request k =
    if bytes_eq k (codes "kind") || bytes_eq k (codes "resource") || bytes_eq k (codes "requestKind")
    || bytes_eq k (codes "requestResource") then Some Kind
    else (if bytes_eq k (codes "object") || bytes_eq k (codes "oldObject") then Some Object
    else (if bytes_eq k (codes "uid") || bytes_eq k (codes "subResource") || bytes_eq k (codes "requestSubResource")
    || bytes_eq k (codes "operation") || bytes_eq k (codes "name") || bytes_eq k (codes "namespace") then Some Text
    else None))

-- what a member of a kind or of a resource is read as
abbrev pub below_kind : List ℕ → Option Level
below_kind k =
    if bytes_eq k (codes "group") || bytes_eq k (codes "version") || bytes_eq k (codes "kind") || bytes_eq k (codes "resource")
    then Some Text else None

-- what a member of an object is read as
abbrev pub below_object : List ℕ → Option Level
below_object k = if bytes_eq k (codes "metadata") then Some Metadata else None

-- what a member of an object's metadata is read as
abbrev pub below_metadata : List ℕ → Option Level
below_metadata k =
    if bytes_eq k (codes "labels") then Some Labels
    else (if bytes_eq k (codes "name") || bytes_eq k (codes "generateName") then Some Text else None)

-- what the member with this key is read as; none if it is dropped
unfoldable pub below : Level → List ℕ → Option Level
below Review k = below_review k
below Request k = below_request k
below Kind k = below_kind k
below Object k = below_object k
below Metadata k = below_metadata k
below Labels k = Some Text
below Text k = None

-- the members with this one before them, if it is kept
abbrev pub before_if : List ℕ → Option json.Data → json.Members → json.Members
before_if k (Some d) ms = json.member k d ms
before_if k None ms = ms

-- what is kept of a value: its texts and nulls, and of an object the members that are read further. Anything else is false
abbrev mutual
  pub kept : Level → json.Data → json.Data
  kept level json.null = json.null
  kept level (json.boolean b) = json.boolean false
  kept level (json.number n) = json.boolean false
  kept level (json.string s) = json.string s
  kept level (json.array ds) = json.boolean false
  kept level (json.object ms) = json.object (kept_members level ms)

  pub kept_members : Level → json.Members → json.Members
  kept_members level json.no_members = json.no_members
  kept_members level (json.member k d ms) = before_if k (option_map (λ l. kept l d) (below level k)) (kept_members level ms)
