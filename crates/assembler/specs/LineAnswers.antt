-- Results of reading a line.
use Rattle.std.specs.Prelude.{◌≡◌, ℕ, List, Result, Ok, Err}
use Rattle.assembler.specs.Items.{HasLine, InRange, SourceItem, item_of, item_text}
use Rattle.assembler.specs.Reading.{ReadsLine, says, out_of_range, no_form}
use Rattle.assembler.specs.declared.lines.line.Line.{Line}
use Rattle.assembler.specs.declared.lines.line_error.LineError.{LineError, TheVariants.NoForm, TheVariants.OutOfRange}

-- the only item of the line; or an error: a number is out of range and no item in
-- range has this line, or no item has it
abbrev pub ReadsAs : List ℕ → Result Line LineError → Type 0
ReadsAs text (Ok l) = ReadsLine text (says (item_of l)) × ((i : SourceItem) → HasLine i → text ≡ item_text i → i ≡ item_of l)
ReadsAs text (Err NoForm) = ReadsLine text no_form
ReadsAs text (Err OutOfRange) = ReadsLine text out_of_range × ((i : SourceItem) → HasLine i → text ≡ item_text i → InRange i → ⊥)
