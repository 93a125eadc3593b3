-- The parts of a state that a session shows: a value, bytes of memory, and frames.
use Rattle.std.specs.Prelude.{◌≡◌, ℕ, zero, suc, ◌+◌, ◌≤◌, ◌&&◌, List, [], ◌∷◌, ◌++◌, take, drop, length, codes, decimal, Option}
use Rattle.std.specs.Prelude.{Some, None, nat_le, option_map, slice_get, if◌then◌else◌}
use Rattle.std.specs.Fmt.{signed_decimal}
use Rattle.bpf_machine.specs.State.{State}
use Rattle.bpf_machine.specs.Text.{hex_digits, word_text}
use Rattle.bpf_machine.specs.Trace.{state_after}
use Rattle.bpf_machine.specs.declared.frame.Frame.{Frame}
use Rattle.guest_memory.specs.Access.{region_of}
use Rattle.guest_memory.specs.Memory.{Memory, bytes_in, scratch_length, stack_length, verdict_length}
use Rattle.guest_memory.specs.Word.{part}
use Rattle.value_store.specs.Json.{shown_text}
use Rattle.value_store.specs.Value.{ValueOrError}

-- the writable regions have their sizes
pub record HasRegions (m : Memory) : Type 0 where
  pub stack : length m.stack ≡ stack_length
  pub scratch : length m.scratch ≡ scratch_length
  pub verdict : length m.verdict ≡ verdict_length

-- the regions have their sizes, and there are at most seven records
pub record HasSizes (m : Memory) (records : List Frame) : Type 0 where
  pub regions : HasRegions m
  pub few : length records ≤ 7

-- the memory and the records of a state have these sizes
abbrev pub IsSized : State → Type 0
IsSized s = HasSizes s.memory s.records

-- every state of the run from s has these sizes
abbrev pub StaysSized : State → Type 0
StaysSized s = (k : ℕ) → IsSized (state_after k s)

-- ---- values

-- the line of a reference and the text of its value
unfoldable pub value_line : ℕ → List ℕ → List ℕ
value_line h text = codes "value " ++ (decimal h ++ (codes " " ++ (text ++ 10 ∷ [])))

-- the value at a reference of the state's store
abbrev pub value_at : State → ℕ → Option ValueOrError
value_at s h = slice_get s.values.values h

-- the value at a reference as JSON, or that the reference is invalid
abbrev pub value_text : ℕ → Option ValueOrError → List ℕ
value_text h (Some v) = value_line h (shown_text v)
value_text h None = codes "? range\n"

-- ---- memory

-- n bytes at an address, if all of them are in one region
unfoldable pub bytes_from : Memory → ℕ → ℕ → Option (List ℕ)
bytes_from m address n = option_map (λ place. part (bytes_in place.0 m) place.1 n) (region_of m address n)

-- the bytes that are shown: from 1 to 256 of them
abbrev pub shown_bytes : Memory → ℕ → ℕ → Option (List ℕ)
shown_bytes m address n = if nat_le 1 n && nat_le n 256 then bytes_from m address n else None

-- each byte as a space and two hex digits
unfoldable pub digits_of_bytes : List ℕ → List ℕ
digits_of_bytes [] = []
digits_of_bytes (b ∷ bs) = codes " " ++ (hex_digits 2 b ++ digits_of_bytes bs)

-- the first byte's address, and the bytes
unfoldable pub memory_line : ℕ → List ℕ → List ℕ
memory_line address bytes = word_text address ++ (digits_of_bytes bytes ++ 10 ∷ [])

-- at most `count` lines of up to 16 bytes
unfoldable pub memory_lines : ℕ → ℕ → List ℕ → List ℕ
memory_lines zero address bytes = []
memory_lines (suc count) address [] = []
memory_lines (suc count) address (b ∷ bs) = memory_line address (take 16 (b ∷ bs)) ++ memory_lines count (address + 16) (drop 16 (b ∷ bs))

-- these bytes in at most 16 lines of 16 bytes, or that they cannot be shown
abbrev pub memory_text : ℕ → Option (List ℕ) → List ℕ
memory_text address (Some bytes) = memory_lines 16 address bytes
memory_text address None = codes "? range\n"

-- ---- frames

-- the registers that the call saved
unfoldable pub saved_text : Frame → List ℕ
saved_text f =
    codes " r6 "
    ++ (word_text f.r6 ++ (codes " r7 " ++ (word_text f.r7 ++ (codes " r8 " ++ (word_text f.r8 ++ (codes " r9 " ++ word_text f.r9))))))

-- the caller's return slot, and its registers
unfoldable pub frame_line : Frame → List ℕ
frame_line f = codes "return " ++ (signed_decimal f.return_pc ++ (saved_text f ++ 10 ∷ []))

-- the lines of the records, from the newest, which is the last, to the oldest
unfoldable pub frame_lines : List Frame → List ℕ
frame_lines [] = []
frame_lines (f ∷ newer) = frame_lines newer ++ frame_line f

-- the number of records, and each of them
unfoldable pub frames_text : List Frame → List ℕ
frames_text records = codes "depth " ++ (decimal (length records) ++ (10 ∷ [] ++ frame_lines records))
