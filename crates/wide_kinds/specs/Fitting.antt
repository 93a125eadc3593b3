-- Values and outcomes of a kind.
use Rattle.std.specs.Prelude.{◌≡◌, Bool, true, false, ⊤}
use Rattle.value_store.specs.Value.{Value, ValueOrError, error, value, null, boolean, int, text, list, map}
use Rattle.wide_kinds.specs.declared.kind.ValueKind.{ValueKind}
use Rattle.wide_kinds.specs.declared.kind.ValueKind.TheVariants as kind
use Rattle.wide_meaning.specs.Outcome.{Outcome, failed, plain, absent, present}

-- whether a value is of the kind
abbrev pub has_kind : ValueKind → Value → Bool
has_kind kind.Dyn v = true
has_kind kind.Null null = true
has_kind kind.Bool (boolean b) = true
has_kind kind.Int (int z) = true
has_kind kind.String (text s) = true
has_kind kind.List (list is) = true
has_kind kind.Map (map es) = true
has_kind _ v = false

-- the error, or a value of the kind
abbrev pub FitsKind : ValueKind → ValueOrError → Type 0
FitsKind k error = ⊤
FitsKind k (value v) = has_kind k v ≡ true

-- the error, or a value of the kind
abbrev pub IsOfKind : ValueKind → Outcome → Type 0
IsOfKind k failed = ⊤
IsOfKind k (plain v) = has_kind k v ≡ true
IsOfKind k _ = ⊥

-- the error, or an optional value; its value is of the kind
abbrev pub IsOptionalOf : ValueKind → Outcome → Type 0
IsOptionalOf k failed = ⊤
IsOptionalOf k absent = ⊤
IsOptionalOf k (present v) = has_kind k v ≡ true
IsOptionalOf k _ = ⊥
