-- What the values of the code are in terms of the definitions.
use Rattle.std.specs.Prelude.{◌≡◌, ℕ, ◌≤◌, List, [], ◌∷◌, ◌++◌, length, drop, reverse, Bool, ◌&&◌, ◌==◌, Option, Some, None, Result, Ok, Err, Vec}
use Rattle.std.specs.Global.{Global}
use Rattle.pattern_reader.specs.Items.{next_at, place_after}
use Rattle.pattern_reader.specs.Tree.{PatternTree}
use Rattle.pattern_reader.specs.Reading.{ReadsPattern, start, taken, refused, is_outside}
use Rattle.pattern_reader.specs.Measures.{Frames, after_item}
use Rattle.pattern_reader.specs.declared.item.Item.{Item}
use Rattle.pattern_reader.specs.declared.reader.Reader.{Reader}
use Rattle.pattern_reader.specs.declared.purpose.Purpose.{Purpose}

-- the frames, from the inside
abbrev pub frames_of : Reader → Frames
frames_of r = record { inner = r.inner; outer = reverse r.outer.items }

-- no group and no brackets are open
abbrev pub is_complete_at : Reader → Bool
is_complete_at r = (length r.outer.items == 0) && is_outside r.place

-- the item at the front that fits, and its length
abbrev pub ItemFits : Purpose → Reader → Reader → Option (Item × ℕ) → ℕ → Type 0
ItemFits purpose old new None n = ⊥
ItemFits purpose old new (Some (i, len)) n =
    (after_item purpose i (frames_of old) ≡ Some (frames_of new)) × (new.items.items ≡ old.items.items ++ (i ∷ []))
    × (new.place ≡ place_after i) × (n ≡ len)

-- no item that fits is at the front
abbrev pub ItemMisfits : Purpose → Reader → Option (Item × ℕ) → Type 0
ItemMisfits purpose old None = Unit {0}
ItemMisfits purpose old (Some (i, len)) = after_item purpose i (frames_of old) ≡ None

-- what a step returns
abbrev pub StepsTo : Purpose → Bool → List ℕ → Reader → Reader → Option ℕ → Type 0
StepsTo purpose fold points old new None = ItemMisfits purpose old (next_at fold old.place points)
StepsTo purpose fold points old new (Some n) =
    ItemFits purpose old new (next_at fold old.place points) n × (1 ≤ n) × (n ≤ length points)

-- the items of the pattern from this position on, and a tree; or the position of the first that does not fit
abbrev pub ItemsReturn : Purpose → Bool → ℕ → List ℕ → Result (Vec Item Global) ℕ → Type 0
ItemsReturn purpose fold at points (Ok items) =
    (t : PatternTree) × ReadsPattern purpose fold start [] at (drop at points) (taken items.items t)
ItemsReturn purpose fold at points (Err n) = (n ≤ length points) × ReadsPattern purpose fold start [] at (drop at points) (refused n)
