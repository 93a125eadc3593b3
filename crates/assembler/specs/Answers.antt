-- Results of the two passes and their parts.
use Rattle.std.specs.Prelude.{◌≡◌, ℕ, ◌≤◌, List, [], ◌∷◌, Option, Some, None, Result, Ok, Err, Vec, if◌then◌else◌, map}
use Rattle.std.specs.Global.{Global}
use Rattle.std.specs.BTreeMap.{get_by_text}
use Rattle.insn_codec.specs.Limits.{slot_limit}
use Rattle.assembler.specs.Assembles.{Assembles}
use Rattle.assembler.specs.Cutting.{lines_of}
use Rattle.assembler.specs.FirstPass.{Scans}
use Rattle.assembler.specs.Items.{SourceItem, statement, label, jump, item_of, slots_of}
use Rattle.assembler.specs.Labels.{names, label_slot}
use Rattle.assembler.specs.LineAnswers.{ReadsAs}
use Rattle.assembler.specs.Reading.{ReadsLine, says}
use Rattle.assembler.specs.Source.{Source}
use Rattle.assembler.specs.declared.asm_error.AsmError.{AsmError, TheVariants.UnknownLine, TheVariants.NumberOutOfRange, TheVariants.DuplicateLabel, TheVariants.Memory}
use Rattle.assembler.specs.declared.lines.line.Line.{Line}
use Rattle.assembler.specs.declared.lines.line_error.LineError.TheVariants.{NoForm, OutOfRange}
use Rattle.assembler.specs.declared.passes.scan.Scanned.{Scanned}

-- the result of the line with this number, as its unique reading
abbrev pub ReadsAt : List ℕ → ℕ → Result Line AsmError → Type 0
ReadsAt text number (Ok l) = ReadsAs text (Ok l)
ReadsAt text number (Err (UnknownLine n)) = (n ≡ number) × ReadsAs text (Err NoForm)
ReadsAt text number (Err (NumberOutOfRange n)) = (n ≡ number) × ReadsAs text (Err OutOfRange)
ReadsAt text number (Err _) = ⊥

-- the map has no slot for the label that the line defines
abbrev pub IsFreeIn : (List ℕ → Option ℕ) → SourceItem → Type 0
IsFreeIn labels (statement x) = Unit {0}
IsFreeIn labels (label name) = labels name ≡ None
IsFreeIn labels (jump j name) = Unit {0}

-- the label that the line defines gets the slot, unless it has one already
abbrev pub AddsLabel : (List ℕ → Option ℕ) → (List ℕ → Option ℕ) → SourceItem → ℕ → ℕ → Result (Unit {0}) AsmError → Type 0
AddsLabel old new i slot number (Ok _) = IsFreeIn old i × ((q : List ℕ) → new q ≡ (if names i q then Some slot else old q))
AddsLabel old new i slot number (Err (DuplicateLabel n)) = (n ≡ number) × (IsFreeIn old i → ⊥)
AddsLabel old new i slot number (Err Memory) = Unit {0}
AddsLabel old new i slot number (Err _) = ⊥

-- this is the only outcome of the first pass
abbrev pub ScansOnlyTo : List (List ℕ) → Result (List SourceItem) AsmError → Type 0
ScansOnlyTo lines r = Scans [] lines r × ((s : Result (List SourceItem) AsmError) → Scans [] lines s → s ≡ r)

-- the map has the slots of the labels
abbrev pub HasSlots : (List ℕ → Option ℕ) → List SourceItem → Type 0
HasSlots labels items = (q : List ℕ) → labels q ≡ label_slot items q

-- the first line is valid: nothing is allocated before it has been read
abbrev pub FirstLineSays : List (List ℕ) → Type 0
FirstLineSays [] = ⊥
FirstLineSays (line ∷ lines) = (i : SourceItem) × ReadsLine line (says i)

-- the result of the first pass: the lines' items and the slots of their labels, or the error of a line
abbrev pub FirstPass : List (List ℕ) → Result Scanned AsmError → Type 0
FirstPass lines (Ok s) =
    ScansOnlyTo lines (Ok (map item_of s.lines.items)) × (slots_of (map item_of s.lines.items) ≤ slot_limit)
    × HasSlots (λ q. get_by_text s.labels q) (map item_of s.lines.items)
FirstPass lines (Err Memory) = FirstLineSays lines
FirstPass lines (Err error) = ScansOnlyTo lines (Err error)

-- the result of the second pass, except for an allocation failure
abbrev pub SecondPass : Result (List ℕ) AsmError → Result (Vec ℕ Global) AsmError → Type 0
SecondPass r (Ok code) = r ≡ Ok code.items
SecondPass r (Err Memory) = Unit {0}
SecondPass r (Err error) = r ≡ Err error

-- the result, except for an allocation failure
abbrev pub IsAssemblyResult : Result (List ℕ) AsmError → Result (Vec ℕ Global) AsmError → Type 0
IsAssemblyResult r (Ok code) = r ≡ Ok code.items
IsAssemblyResult r (Err Memory) = Unit {0}
IsAssemblyResult r (Err error) = r ≡ Err error

-- the code of which the text is the source, or the error of the first invalid line; an invalid first
-- line is reported before anything is allocated
abbrev pub AssembleReturns : List ℕ → Result (Vec ℕ Global) AsmError → Type 0
AssembleReturns text (Ok code) = Source text code.items
AssembleReturns text (Err Memory) = FirstLineSays (lines_of text)
AssembleReturns text (Err error) = Assembles (lines_of text) (Err error)
