-- Reads of optional files.
use Rattle.std.specs.Prelude.{◌≡◌, ℕ, List, Option, Some, None, option_map, Result, Ok, Err, Vec}
use Rattle.std.specs.declared.alloc.Global.{Global}
use Rattle.host.specs.FileSystem.{FileSystem, IsReading}
use Rattle.host.specs.declared.file_error.FileError.{FileError}

-- the result of reading an optional file
abbrev pub ReadingGiven : Type 0
ReadingGiven = Result (Option (List ℕ)) FileError

-- a result of the code
abbrev pub reading_given_of : Result (Option (Vec ℕ Global)) FileError → ReadingGiven
reading_given_of (Ok bytes) = Ok (option_map (λ b. b.items) bytes)
reading_given_of (Err e) = Err e

-- nothing is read if there is no name
abbrev pub IsReadingGiven : Option FileSystem → Option (List ℕ) → ReadingGiven → Type 0
IsReadingGiven known (Some name) (Ok (Some bytes)) = IsReading known name (Ok bytes)
IsReadingGiven known (Some name) (Ok None) = ⊥
IsReadingGiven known (Some name) (Err e) = IsReading known name (Err e)
IsReadingGiven known None reading = reading ≡ Ok None
