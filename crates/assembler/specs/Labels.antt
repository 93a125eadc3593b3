-- The slots of labels.
use Rattle.std.specs.Prelude.{◌≡◌, ℕ, ◌+◌, Bool, false, List, [], ◌∷◌, Option, Some, None, if◌then◌else◌, bytes_eq}
use Rattle.assembler.specs.Items.{SourceItem, label, item_slots}

-- whether the item is the line of the label q
abbrev pub names : SourceItem → List ℕ → Bool
names (label name) q = bytes_eq name q
names _ q = false

-- the slot of the label q by its first line, with these lines starting at this slot
abbrev pub label_slot_from : ℕ → List SourceItem → List ℕ → Option ℕ
label_slot_from slot [] q = None
label_slot_from slot (i ∷ is) q = if names i q then Some slot else label_slot_from (slot + item_slots i) is q

-- the slot of the label: the number of slots before its first line
abbrev pub label_slot : List SourceItem → List ℕ → Option ℕ
label_slot items q = label_slot_from 0 items q

-- no line before has the same label
abbrev pub IsFree : List SourceItem → SourceItem → Type 0
IsFree before (label name) = label_slot before name ≡ None
IsFree before _ = Unit {0}
