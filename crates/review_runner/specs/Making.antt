-- The file of an image, given the file that it is made from.
use Rattle.std.specs.Prelude.{◌≡◌, ℕ, List, [], Result, Ok, Err, IsOk, Option, Vec, ◌⊎◌}
use Rattle.std.specs.Str.{IsUtf8}
use Rattle.std.specs.declared.alloc.Global.{Global}
use Rattle.assembler.specs.Answers.{FirstLineSays}
use Rattle.assembler.specs.Assembles.{Assembles}
use Rattle.assembler.specs.Cutting.{lines_of}
use Rattle.assembler.specs.Source.{Source}
use Rattle.assembler.specs.declared.asm_error.AsmError.{AsmError}
use Rattle.loader.specs.Contents.{Image}
use Rattle.loader.specs.Format.{file_of, image_from}
use Rattle.loader.specs.declared.load_error.LoadError.{LoadError}
use Rattle.loader.specs.declared.version.Version.TheVariants.{First}
use Rattle.host.specs.FileSystem.{FileSystem, IsReading, FileRead}
use Rattle.review_runner.specs.PolicyFiles.{CompiledFrom}
use Rattle.cli.specs.Refusals.{file_refusal, load_refusal}
use Rattle.admission.specs.Standing.{Images}
use Rattle.host.specs.declared.file_error.FileError.{FileError, TheVariants.Failed}
use Rattle.cli.specs.declared.refusal.Refusal.{Refusal, TheVariants.Memory, TheVariants.Program, TheVariants.Text}
use Rattle.review_runner.specs.declared.images.source_kind.SourceKind.{SourceKind, TheVariants.PolicyDocument, TheVariants.ProgramText}

-- ---- from a program's text

-- the file of an image, or why there is none
abbrev pub file_from : Result Image LoadError → Result (List ℕ) Refusal
file_from (Ok image) = Ok (file_of image)
file_from (Err e) = Err (load_refusal e)

-- the file of the image of a program, of version 1 and without constants, given the result of reading its text
pub data Assembled : FileRead → Result (List ℕ) Refusal → Type 0 where
  no_file : {e : FileError} → Assembled (Err e) (Err (file_refusal e))
  no_text : {held : List ℕ} → (IsUtf8 held → ⊥) → Assembled (Ok held) (Err Text)
  no_program : {text : List ℕ} {e : AsmError} → IsUtf8 text → Assembles (lines_of text) (Err e) → Assembled (Ok text) (Err (Program e))
  program : {text code : List ℕ} → IsUtf8 text → Source text code → Assembled (Ok text) (file_from (image_from First code []))

-- the file of an image without constants, or an allocation failed
abbrev pub FileBy : List ℕ → Result (Vec ℕ Global) Refusal → Type 0
FileBy code (Ok file) = file_from (image_from First code []) ≡ Ok file.items
FileBy code (Err r) = (file_from (image_from First code []) ≡ Err r) ⊎ ((r ≡ Memory) × IsOk (file_from (image_from First code [])))

-- ---- from a file of either kind

-- the image's file, given the result of reading a file of this kind
abbrev pub ImageFileFrom : Images → SourceKind → FileRead → Result (List ℕ) Refusal → Type 0
ImageFileFrom chosen PolicyDocument reading file = CompiledFrom chosen reading file
ImageFileFrom chosen ProgramText reading file = Assembled reading file

-- an allocation may fail: the read succeeded, and the first line of a text has content
abbrev pub MayRunOut : SourceKind → FileRead → Type 0
MayRunOut PolicyDocument reading = reading ≡ Err Failed → ⊥
MayRunOut ProgramText reading =
    (reading ≡ Err Failed → ⊥) × ((held : List ℕ) → reading ≡ Ok held → IsUtf8 held × FirstLineSays (lines_of held))

-- the image's file or its refusal, or a failed allocation if one may fail
abbrev pub MadeBy : Images → SourceKind → FileRead → Result (Vec ℕ Global) Refusal → Type 0
MadeBy chosen kind reading (Ok file) = ImageFileFrom chosen kind reading (Ok file.items)
MadeBy chosen kind reading (Err r) = ImageFileFrom chosen kind reading (Err r) ⊎ ((r ≡ Memory) × MayRunOut kind reading)

-- the same for the file with this name
pub record MadeOf (chosen : Images) (kind : SourceKind) (known : Option FileSystem) (name : List ℕ)
    (result : Result (Vec ℕ Global) Refusal) : Type 0 where
  pub reading : FileRead
  pub is_reading : IsReading known name reading
  pub made : MadeBy chosen kind reading result

-- an allocation failed while the file with this name was read, or later
pub record RunsOut (kind : SourceKind) (known : Option FileSystem) (name : List ℕ) : Type 0 where
  pub reading : FileRead
  pub is_reading : IsReading known name reading
  pub may : MayRunOut kind reading
