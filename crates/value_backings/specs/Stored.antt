-- What backings hold, and how they grow.
use Rattle.std.specs.Prelude.{◌≡◌, ◌≤◌, ◌<◌, ℕ, ◌+◌, List, [], ◌++◌, length, slice_index_or}
use Rattle.std.specs.Str.{IsUtf8}
use Rattle.json.specs.Print.{quoted}
use Rattle.value_store.specs.Plain.{saturated}
pub use Rattle.shared_lists.specs.Items.{HoldsItems}
use Rattle.value_backings.specs.Ranges.{part_of, keys_at}
use Rattle.value_backings.specs.declared.part.Part.{Part}
use Rattle.value_backings.specs.declared.backings.Backings.{Backings}

-- the part is a range of the bytes, a text, and has the right length of its JSON
abbrev pub IsText : List ℕ → Part → Type 0
IsText bytes p = (p.from ≤ p.to) × (p.to ≤ length bytes) × IsUtf8 (part_of bytes p)
    × (p.json ≡ saturated (length (quoted (part_of bytes p))))

-- n keys from place k on are these
pub record HoldsKeys (keys : List Part) (k n : ℕ) (ks : List Part) : Type 0 where
  pub inside : k + n ≡ length keys
  pub are : keys_at keys k n ≡ ks

-- the backings have grown: each part of the old ones is unchanged
pub record ExtendsBackings (old new : Backings) : Type 0 where
  pub bytes : (rest : List ℕ) × (new.bytes ≡ old.bytes ++ rest)
  pub keys : (rest : List Part) × (new.keys ≡ old.keys ++ rest)
  pub lists : length old.lists ≤ length new.lists
  pub items : (b : ℕ) → b < length old.lists → (rest : List ℕ) × (slice_index_or new.lists b [] ≡ slice_index_or old.lists b [] ++ rest)
