-- Lines of sessions and what they show, by hand from the table of a session's commands.
use Rattle.std.specs.Prelude.{◌≡◌, negsuc, true, false, [], ◌∷◌, ◌++◌, Some, codes, length, replicate}
use Rattle.guest_memory.specs.Memory.{start_memory}
use Rattle.debugger.specs.Answers.{can_go_back, can_go_on, is_slot}
use Rattle.debugger.specs.Commands.{command_of}
use Rattle.debugger.specs.Inspection.{frames_text, memory_text, shown_bytes}
use Rattle.debugger.specs.Listing.{is_inside}
use Rattle.debugger.specs.Rows.{five, five_registers, open_ended}
use Rattle.debugger.specs.Session.{dialogue_of, has_quit, says_memory}
use Rattle.debugger.specs.declared.command.Command.TheVariants.{MemoryAt, Unknown}
use Rattle.machine_rows.specs.RunRows.{two_frames}

-- which texts report a failed allocation, which lines end a session, and the last numbers in range
pub record CommandRowsHold : Type 0 where
  pub says_memory_once : says_memory (codes "break 1\n? memory\n") ≡ true
  pub says_no_memory : says_memory (codes "break 1\n") ≡ false
  pub says_memory_within_a_line : says_memory (codes "a? memory\n") ≡ false
  pub quits_at_last : has_quit (codes "r" ∷ codes "q" ∷ []) ≡ true
  pub quits_never : has_quit (codes "r" ∷ []) ≡ false
  pub one_hex_digit : command_of (codes "m 0x1 5") ≡ MemoryAt 1 5
  pub no_hex_digit : command_of (codes "m 0x` 5") ≡ Unknown
  pub no_step : can_go_on 0 0 ≡ false
  pub one_step : can_go_on 0 1 ≡ true
  pub most_steps : can_go_on 0 1000000 ≡ true
  pub more_steps : can_go_on 0 1000001 ≡ false
  pub no_step_back : can_go_back 5 0 ≡ false
  pub all_steps_back : can_go_back 5 5 ≡ true
  pub more_steps_back : can_go_back 5 6 ≡ false
  pub most_steps_back : can_go_back 2000000 1000000 ≡ true
  pub too_many_steps_back : can_go_back 2000000 1000001 ≡ false
  pub last_slot : is_slot 65535 ≡ true
  pub past_the_last_slot : is_slot 65536 ≡ false
  pub before_the_first_slot : is_inside [] (negsuc 0) ≡ false

-- moves, searches and verdicts need memory, unless their number is out of range; registers, and a place outside the
-- code, do not
pub record MarkRowsHold : Type 0 where
  pub moves : (dialogue_of five ((codes "s 1", false) ∷ (codes "rs 1", true) ∷ (codes "g 1", true) ∷ (codes "rc", true) ∷ [])).text
      ≡ codes "step 1 pc 1 running\n? memory\n? memory\n? memory\n"
  pub out_of_range : (dialogue_of five ((codes "rs 1", true) ∷ (codes "g 1000000001", true) ∷ (codes "c 0", true) ∷ [])).text
      ≡ codes "? range\n? range\n? range\n"
  pub registers : (dialogue_of five ((codes "s 1", false) ∷ (codes "r", true) ∷ [])).text ≡ codes "step 1 pc 1 running\n" ++ five_registers
  pub outside : (dialogue_of open_ended ((codes "s 2", false) ∷ (codes "l", true) ∷ (codes "w", true) ∷ [])).text
      ≡ codes "step 2 pc 1 fault F1\n1 outside\n? memory\n"

-- 256 bytes can be shown, in 16 lines: each has an address of 18 letters, 16 bytes of 3, and a line feed. The newest
-- record comes first
pub record ShownRowsHold : Type 0 where
  pub most_bytes : shown_bytes (start_memory []) 0x3_0000_0000 256 ≡ Some (replicate 256 0)
  pub sixteen_lines : length (memory_text 0 (Some (replicate 272 0))) ≡ 1072
  pub frames : frames_text two_frames
      ≡ codes "depth 2\nreturn 2 r6 0x000000000000001a r7 0x000000000000001b r8 0x000000000000001c r9 0x000000000000001d\n"
      ++ codes "return 1 r6 0x0000000000000010 r7 0x0000000000000011 r8 0x0000000000000012 r9 0x0000000000000013\n"
