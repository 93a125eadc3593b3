-- The lines of each command.
use Rattle.std.specs.Prelude.{◌≡◌, ◌≢◌, ◌↔◌, ℕ, ◌^◌, ◌<◌, ◌≤◌, List, ◌++◌, codes, decimal, length}
use Rattle.insn_codec.specs.Lines.{hex_digits}
use Rattle.debugger.specs.Commands.{command_of}
use Rattle.debugger.specs.Limits.{line_limit}
use Rattle.debugger.specs.declared.command.Command.{Command, TheVariants.Quit, TheVariants.Unknown}
use Rattle.debugger.specs.declared.command.Command.TheVariants.{SetBreakpoint, ClearBreakpoint, Forward, Back, Go, Continue}
use Rattle.debugger.specs.declared.command.Command.TheVariants.{ReverseContinue, Registers, ValueAt, MemoryAt, Frames, Listing, Verdict}

-- a word and a decimal number; more than `line_limit` digits would exceed the length of a line
pub record IsNumbered (word : List ℕ) (n : ℕ) (line : List ℕ) : Type 0 where
  pub fits : n < 10 ^ line_limit
  pub is : line ≡ word ++ decimal n

-- `m`, an address in 1 to 16 hex digits, and a decimal number
pub record IsMemoryLine (address n : ℕ) (line : List ℕ) : Type 0 where
  pub digits : ℕ
  pub some : 0 < digits
  pub most : digits ≤ 16
  pub fits : address < 16 ^ digits
  pub number_fits : n < 10 ^ line_limit
  pub is : line ≡ codes "m 0x" ++ (hex_digits digits address ++ (codes " " ++ decimal n))

-- the line is one of the command's: its word, and its numbers
abbrev pub IsLine : Command → List ℕ → Type 0
IsLine (SetBreakpoint n) line = IsNumbered (codes "b ") n line
IsLine (ClearBreakpoint n) line = IsNumbered (codes "d ") n line
IsLine (Forward n) line = IsNumbered (codes "s ") n line
IsLine (Back n) line = IsNumbered (codes "rs ") n line
IsLine (Go k) line = IsNumbered (codes "g ") k line
IsLine (Continue n) line = IsNumbered (codes "c ") n line
IsLine ReverseContinue line = line ≡ codes "rc"
IsLine Registers line = line ≡ codes "r"
IsLine (ValueAt h) line = IsNumbered (codes "v ") h line
IsLine (MemoryAt address n) line = IsMemoryLine address n line
IsLine Frames line = line ≡ codes "f"
IsLine Listing line = line ≡ codes "l"
IsLine Verdict line = line ≡ codes "w"
IsLine Quit line = line ≡ codes "q"
IsLine Unknown line = ⊥

-- the line is one of the command's, with at most `line_limit` bytes
pub record AsksFor (line : List ℕ) (c : Command) : Type 0 where
  pub is_line : IsLine c line
  pub short : length line ≤ line_limit

-- `command_of` returns the command of which the line is one, and `Unknown` if there is none
pub record CommandsHaveLines : Type 0 where
  pub known : (line : List ℕ) (c : Command) → c ≢ Unknown → (command_of line ≡ c) ↔ AsksFor line c
  pub unknown : (line : List ℕ) → (command_of line ≡ Unknown) ↔ ((c : Command) → AsksFor line c → ⊥)
