-- The namespace of a request beside its review.
use Rattle.std.specs.Prelude.{Option, Some, None, Ok}
use Rattle.std.specs.Borrow.{Bor}
use Rattle.serde_json.specs.Data as json
use Rattle.review_tables.specs.DocumentPool.{OpenValues}
use Rattle.value_table.specs.Held.{Held}
use Rattle.cluster_plan.specs.Steps as plan
use Rattle.cluster_plan.specs.Steps.{PlannedStep}
use Rattle.cluster_gate.specs.Opened.{IsReadHere}
use Rattle.cluster_gate.specs.Tables.{GivesTable}
use Rattle.cluster_gate.specs.declared.namespace_place.NamespacePlace.{NamespacePlace}

-- the table, if there is one, is that of the roots of the review and this namespace, without params
abbrev pub IsFirstTable : OpenValues → json.Data → Option Held → Type 0
IsFirstTable o d None = Unit {0}
IsFirstTable o d (Some t) = GivesTable o.review None (Some d) (Ok t)

-- a document is at this place, with its table
pub record IsPlaceOf (o : OpenValues) (d : json.Data) (p : NamespacePlace) : Type 0 where
  pub here : IsReadHere o.values d p.pooled
  pub first : IsFirstTable o d p.table

-- a document that may be absent is at this place, if one is known
abbrev pub IsAtIf : OpenValues → Option NamespacePlace → Option json.Data → Type 0
IsAtIf o None d = Unit {0}
IsAtIf o (Some p) None = Unit {0}
IsAtIf o (Some p) (Some d) = IsPlaceOf o d p

-- the document has this place beside a review, if the review was read
abbrev pub IsBesideIf : Option (Bor OpenValues) → Option NamespacePlace → Option json.Data → Type 0
IsBesideIf None place d = Unit {0}
IsBesideIf (Some o) place d = IsAtIf o.now place d

-- the namespace of an evaluation has this place beside the review
abbrev pub HasKnownNamespace : Option (Bor OpenValues) → Option NamespacePlace → PlannedStep → Type 0
HasKnownNamespace opened place (plan.evaluates b params namespace) = IsBesideIf opened place namespace
HasKnownNamespace opened place (plan.denies b t) = Unit {0}
HasKnownNamespace opened place plan.unknown_match = Unit {0}
HasKnownNamespace opened place (plan.is_blocked b) = Unit {0}
HasKnownNamespace opened place plan.ends = Unit {0}
