-- The verdict region as a session shows it: words of eight bytes, in decimal.
use Rattle.std.specs.Prelude.{ℕ, zero, suc, ◌+◌, ◌*◌, List, [], ◌∷◌, ◌++◌, codes, decimal, nat_eq, if◌then◌else◌}
use Rattle.bpf_machine.specs.State.{State}
use Rattle.guest_memory.specs.Memory.{Memory}
use Rattle.guest_memory.specs.Word.{part, word_of}
use Rattle.loader.specs.Contents.{version_number}

-- the word at an offset of the verdict region
abbrev pub verdict_word : Memory → ℕ → ℕ
verdict_word m at = word_of (part m.verdict at 8)

-- the outcome, and the number of denials
unfoldable pub verdict_line : Memory → List ℕ
verdict_line m = codes "verdict " ++ (decimal (verdict_word m 0) ++ (codes " " ++ (decimal (verdict_word m 8) ++ 10 ∷ [])))

-- the line of the word with this number, empty if it is 0
unfoldable pub word_line : List ℕ → ℕ → ℕ → List ℕ
word_line name i word =
    if nat_eq word 0 then []
    else name ++ (codes " " ++ (decimal i ++ (codes " " ++ (decimal word ++ 10 ∷ []))))

-- the lines of the first `n` words from an offset on, numbered from 0
unfoldable pub word_lines : List ℕ → Memory → ℕ → ℕ → List ℕ
word_lines name m from zero = []
word_lines name m from (suc i) = word_lines name m from i ++ word_line name i (verdict_word m (from + 8 * i))

-- the lines of messages, the 64 words from byte 528 on, which only programs of images of version 2 write
abbrev pub message_lines : ℕ → Memory → List ℕ
message_lines version m = if nat_eq version 2 then word_lines (codes "message") m 528 64 else []

-- the lines of a verdict: outcome and denials, the validations, which are the 64 words from byte 16 on, and the messages
unfoldable pub verdict_lines : ℕ → Memory → List ℕ
verdict_lines version m = verdict_line m ++ (word_lines (codes "validation") m 16 64 ++ message_lines version m)

-- the verdict of an image's program in its current state
abbrev pub verdict_text : State → List ℕ
verdict_text s = verdict_lines (version_number s.image.version) s.memory
