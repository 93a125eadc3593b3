-- Optional files, words of command lines, and ends of programs: what can happen, and what cannot.
use Rattle.std.specs.Prelude.{◌≡◌, ℕ, List, [], ◌∷◌, Some, None, Ok, Err, length, codes}
use Rattle.clap.specs.Words.{Kinds, Text}
use Rattle.host.specs.Rows.{files, first, third}
use Rattle.host.specs.declared.file_error.FileError.TheVariants.{Failed}
use Rattle.host.specs.declared.order_error.OrderError.TheVariants as order_error
use Rattle.streams.specs.Streams.{stream}
use Rattle.cli.specs.Ending.{Asks, AsksNothing, Ending, ProgramEnds, WritesError}
use Rattle.cli.specs.GivenFiles.{IsReadingGiven}
use Rattle.cli.specs.declared.refusal.Refusal.TheVariants.{Words, Memory}

-- a name that is given is read, and no other
pub record GivenRowsStand : Type 0 where
  pub read : IsReadingGiven (Some files) (Some first) (Ok (Some (7 ∷ 8 ∷ [])))
  pub read_otherwise : IsReadingGiven (Some files) (Some first) (Ok (Some [])) → ⊥
  pub unread : IsReadingGiven (Some files) (Some third) (Err Failed)
  pub unread_though_held : IsReadingGiven (Some files) (Some first) (Err Failed) → ⊥
  pub passed_over : IsReadingGiven (Some files) (Some first) (Ok None) → ⊥
  pub left_out : IsReadingGiven (Some files) None (Ok None)
  pub read_though_left_out : IsReadingGiven (Some files) None (Ok (Some [])) → ⊥
  pub failed_though_left_out : IsReadingGiven (Some files) None (Err Failed) → ⊥

-- a command line of two words asks for their number, and has no faults
abbrev pub two_words : List Text
two_words = codes "a" ∷ codes "b" ∷ []

abbrev pub faultless : List Text → Kinds
faultless words = []

pub record AskingRowsStand : Type 0 where
  pub asked : Asks faultless length (Ok two_words) 2
  pub asked_for_another : Asks faultless length (Ok two_words) 3 → ⊥
  pub asked_without_words : Asks faultless length (Err order_error.Memory) 2 → ⊥
  pub refused_without_fault : AsksNothing faultless (Ok two_words) Words → ⊥
  pub no_memory_for_words : AsksNothing faultless (Ok two_words) Memory
  pub no_words : AsksNothing faultless (Err order_error.InvalidArguments) Words
  pub no_memory : AsksNothing faultless (Err order_error.Memory) Memory
  pub words_for_memory : AsksNothing faultless (Err order_error.Memory) Words → ⊥
  pub memory_for_words : AsksNothing faultless (Err order_error.InvalidArguments) Memory → ⊥

-- the program succeeds with this status
abbrev pub IsEndingDone : ℕ → Ending → Type 0
IsEndingDone status ending = ending ≡ Ok status

-- the program refuses its words
abbrev pub IsRefused : Ending → Type 0
IsRefused ending = ending ≡ Err Words

pub record EndingRowsStand : Type 0 where
  pub nothing_said : WritesError (stream (Some []) 0) (stream (Some []) 0) (Ok 0)
  pub done : ProgramEnds (IsEndingDone 1) (stream (Some []) 0) (stream (Some []) 0) 1
  pub done_otherwise : ProgramEnds (IsEndingDone 1) (stream (Some []) 0) (stream (Some []) 0) 0 → ⊥
  pub refused : ProgramEnds IsRefused (stream (Some []) 0) (stream (Some (codes "celbpf: U1\n")) 0) 2
  pub refused_and_cut : ProgramEnds IsRefused (stream (Some []) 0) (stream (Some (codes "cel")) 1) 2
  pub refused_with_another_status : ProgramEnds IsRefused (stream (Some []) 0) (stream (Some (codes "celbpf: U1\n")) 0) 3 → ⊥
