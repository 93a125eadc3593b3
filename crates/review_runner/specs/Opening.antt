-- The image in a file.
use Rattle.std.specs.Prelude.{◌≡◌, ℕ, List, Option, Result, Ok, Err}
use Rattle.loader.specs.Contents.{Image}
use Rattle.loader.specs.Format.{image_in}
use Rattle.loader.specs.declared.load_error.LoadError.{LoadError}
use Rattle.host.specs.FileSystem.{FileSystem, FileRead, IsReading}
use Rattle.cli.specs.Refusals.{file_refusal, load_refusal}
use Rattle.cli.specs.declared.refusal.Refusal.{Refusal, TheVariants.Memory}

-- the image that a file holds, or its refusal
abbrev pub opened_by : Result Image LoadError → Result Image Refusal
opened_by (Ok image) = Ok image
opened_by (Err e) = Err (load_refusal e)

-- the image in a file, given the result of reading it, or why there is none
abbrev pub opened : FileRead → Result Image Refusal
opened (Ok file) = opened_by (image_in file)
opened (Err e) = Err (file_refusal e)

-- there is no refusal except a failed allocation
abbrev pub IsUnrefused : {A : Type 0} → Result A Refusal → Type 0
IsUnrefused due = (r : Refusal) → due ≡ Err r → r ≡ Memory

-- the result is the one that is due; or a failed allocation, if no other refusal is due
abbrev pub IsDueResult : {A : Type 0} → Result A Refusal → Result A Refusal → Type 0
IsDueResult due (Ok a) = due ≡ Ok a
IsDueResult due (Err Memory) = IsUnrefused due
IsDueResult due (Err r) = due ≡ Err r

-- the image in the file with this name, given the result of reading it
pub record OpensFile (known : Option FileSystem) (name : List ℕ) (result : Result Image Refusal) : Type 0 where
  pub reading : FileRead
  pub is_reading : IsReading known name reading
  pub opens : IsDueResult (opened reading) result
