-- Parsing of command lines.
use Rattle.std.specs.Prelude.{ℕ, suc, ◌+◌, ◌-◌, ◌*◌, ◌^◌, ◌<◌, Bool, true, false, ◌&&◌, ◌||◌, List, [], ◌∷◌, length, take, drop, min}
use Rattle.std.specs.Prelude.{Option, Some, None, codes, nat_eq, nat_le, nat_lt, slice_index, if◌then◌else◌}
use Rattle.std.specs.Str.{bytes_eq}
use Rattle.bpf_machine.specs.State.{State}
use Rattle.debugger.specs.Limits.{line_limit}
pub use Rattle.std.specs.Char.{is_ascii_digit as is_digit}
use Rattle.debugger.specs.declared.command.Command.{Command, TheVariants.Quit, TheVariants.Unknown}
use Rattle.debugger.specs.declared.command.Command.TheVariants.{SetBreakpoint, ClearBreakpoint, Forward, Back, Go, Continue}
use Rattle.debugger.specs.declared.command.Command.TheVariants.{ReverseContinue, Registers, ValueAt, MemoryAt, Frames, Listing, Verdict}

-- the number that continues n with these decimal digits
abbrev pub read_digits : ℕ → List ℕ → Option ℕ
read_digits n [] = Some n
read_digits n (c ∷ cs) = if is_digit c then read_digits (n * 10 + (c - 48)) cs else None

-- a number: decimal digits without leading zeros
unfoldable pub number_of : List ℕ → Option ℕ
number_of digits =
    if nat_eq (length digits) 0 then None
    else (if nat_lt 1 (length digits) && nat_eq (slice_index digits 0) 48 then None
    else read_digits 0 digits)

-- the line begins with these bytes
abbrev pub begins_with : List ℕ → List ℕ → Bool
begins_with front line = bytes_eq front (take (length front) line)

-- the command with this number, if one was read
abbrev pub numbered : (ℕ → Command) → Option ℕ → Command
numbered command None = Unknown
numbered command (Some n) = command n

-- whether the byte is a lower-case hex digit
abbrev pub is_hex_digit : ℕ → Bool
is_hex_digit c = is_digit c || (nat_le 97 c && nat_le c 102)

-- the value of a hex digit
abbrev pub hex_value : ℕ → ℕ
hex_value c = if is_digit c then c - 48 else c - 87

-- the command `m` after `digits` hex digits of its address, with this value so far: more of them, at
-- most 16 in all, a space, and the number of bytes
abbrev pub read_address : ℕ → ℕ → List ℕ → Command
read_address digits address [] = Unknown
read_address digits address (c ∷ cs) =
    if nat_eq c 32 && nat_lt 0 digits then numbered (MemoryAt address) (number_of cs)
    else (if is_hex_digit c && nat_lt digits 16 then read_address (suc digits) (address * 16 + hex_value c) cs
    else Unknown)

-- a command that shows a part of the state, by its number or its address
unfoldable pub shown_form_of : List ℕ → Command
shown_form_of line =
    if begins_with (codes "v ") line then numbered ValueAt (number_of (drop 2 line))
    else (if begins_with (codes "m 0x") line then read_address 0 0 (drop 4 line)
    else Unknown)

-- a move: its word, a space and a number
unfoldable pub move_form_of : List ℕ → Command
move_form_of line =
    if begins_with (codes "s ") line then numbered Forward (number_of (drop 2 line))
    else (if begins_with (codes "rs ") line then numbered Back (number_of (drop 3 line))
    else (if begins_with (codes "g ") line then numbered Go (number_of (drop 2 line))
    else (if begins_with (codes "c ") line then numbered Continue (number_of (drop 2 line))
    else shown_form_of line)))

-- a word, a space and a number
unfoldable pub numbered_form_of : List ℕ → Command
numbered_form_of line =
    if begins_with (codes "b ") line then numbered SetBreakpoint (number_of (drop 2 line))
    else (if begins_with (codes "d ") line then numbered ClearBreakpoint (number_of (drop 2 line))
    else move_form_of line)

-- the command of a line of any length
unfoldable pub form_of : List ℕ → Command
form_of line =
    if bytes_eq line (codes "q") then Quit
    else (if bytes_eq line (codes "r") then Registers
    else (if bytes_eq line (codes "rc") then ReverseContinue
    else (if bytes_eq line (codes "l") then Listing
    else (if bytes_eq line (codes "f") then Frames
    else (if bytes_eq line (codes "w") then Verdict
    else numbered_form_of line)))))

-- the command of a line: a line of more than `line_limit` bytes is unknown
unfoldable pub command_of : List ℕ → Command
command_of line = if nat_le (length line) line_limit then form_of line else Unknown

-- whether the command ends the session
abbrev pub is_quit : Command → Bool
is_quit Quit = true
is_quit other = false

-- a number capped at the greatest of 64 bits, which is outside every range
abbrev pub capped : ℕ → ℕ
capped n = min n 18446744073709551615

-- a number that was read, capped at 64 bits
abbrev pub capped_number : Option ℕ → Option ℕ
capped_number None = None
capped_number (Some n) = Some (capped n)

-- a command with its number capped; an address has at most 64 bits
abbrev pub capped_command : Command → Command
capped_command (SetBreakpoint n) = SetBreakpoint (capped n)
capped_command (ClearBreakpoint n) = ClearBreakpoint (capped n)
capped_command (Forward n) = Forward (capped n)
capped_command (Back n) = Back (capped n)
capped_command (Go k) = Go (capped k)
capped_command (Continue n) = Continue (capped n)
capped_command (ValueAt h) = ValueAt (capped h)
capped_command (MemoryAt address n) = MemoryAt address (capped n)
capped_command other = other

-- if the command asks for a value, the references of the state fit 64 bits
abbrev pub FitsWords : State → Command → Type 0
FitsWords s (ValueAt h) = length s.values.values < 2 ^ 64
FitsWords s _ = Unit {0}
