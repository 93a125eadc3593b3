-- The reading of a line.
use Rattle.std.specs.Prelude.{◌≡◌, ℕ, List}
use Rattle.assembler.specs.Items.{HasLine, InRange, SourceItem, item_text}

-- a line has an item, or a number out of range, or no valid form
pub data LineReading : Type 0 where
  says : SourceItem → LineReading
  out_of_range : LineReading
  no_form : LineReading

-- the text is the line of this item, with its numbers in range; or of an item with a number out of range; or of none
abbrev pub ReadsLine : List ℕ → LineReading → Type 0
ReadsLine text (says i) = (text ≡ item_text i) × HasLine i × InRange i
ReadsLine text out_of_range = (i : SourceItem) × (text ≡ item_text i) × HasLine i × (InRange i → ⊥)
ReadsLine text no_form = (i : SourceItem) → HasLine i → text ≡ item_text i → ⊥

-- each line has one reading
abbrev pub OneReading : Type 0
OneReading = (text : List ℕ) (a b : LineReading) → ReadsLine text a → ReadsLine text b → a ≡ b
