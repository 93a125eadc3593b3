-- The words of stack frames and of the scratch region.
use Rattle.std.specs.Prelude.{◌≡◌, ℕ, ◌+◌, ◌-◌, ◌*◌, ◌≤◌, ℤ, negsuc, List, length}
use Rattle.bpf_machine.specs.Limits.{record_limit, frame_length}
use Rattle.guest_memory.specs.Memory.{Memory, Stack, Scratch, Verdict, IsMemory, base_of}
use Rattle.guest_memory.specs.RegionWords.{word_in, put_word}
use Rattle.insn_codec.specs.declared.register.Register.TheVariants.{R10}
use Rattle.bpf_machine.specs.declared.frame.Frame.{Frame}
use Rattle.expression_code.specs.CpuState.{CpuState}
use Rattle.expression_code.specs.Limits.{frame_words}

-- the frame pointer while this number of local calls is open
abbrev pub pointer_of : ℕ → ℕ
pointer_of depth = base_of Stack + frame_length + frame_length * depth

-- the index of word k of a frame among the words of the stack; the word begins 8 * (k + 1) bytes below the frame
-- pointer
abbrev pub stack_index : ℕ → ℕ → ℕ
stack_index depth k = frame_words * depth + (frame_words - 1) - k

-- the offset of word k from the frame pointer
abbrev pub word_offset : ℕ → ℤ
word_offset k = negsuc (8 * k + 7)

-- word k of the frame for this number of open local calls
abbrev pub word_at : ℕ → ℕ → CpuState → ℕ
word_at depth k b = word_in b.memory.stack (stack_index depth k)

-- the CPU state with w in word k of that frame
abbrev pub set_word : ℕ → ℕ → ℕ → CpuState → CpuState
set_word depth k w b = record b { memory = record b.memory { stack = put_word b.memory.stack (stack_index depth k) w } }

-- the address of word i of the scratch region, which is the memo of variable i
abbrev pub memo_address : ℕ → ℕ
memo_address i = base_of Scratch + 8 * i

-- the memo of variable i
abbrev pub memo_at : ℕ → CpuState → ℕ
memo_at i b = word_in b.memory.scratch i

-- the CPU state with w in the memo of variable i
abbrev pub set_memo : ℕ → ℕ → CpuState → CpuState
set_memo i w b = record b { memory = record b.memory { scratch = put_word b.memory.scratch i w } }

-- the address of word i of the verdict region
abbrev pub verdict_address : ℕ → ℕ
verdict_address i = base_of Verdict + 8 * i

-- word i of the verdict region
abbrev pub verdict_at : ℕ → CpuState → ℕ
verdict_at i b = word_in b.memory.verdict i

-- the CPU state with w in word i of the verdict region
abbrev pub set_verdict : ℕ → ℕ → CpuState → CpuState
set_verdict i w b = record b { memory = record b.memory { verdict = put_word b.memory.verdict i w } }

-- this number of local calls is open: the records, the frame pointer and the memory agree with it
pub record HasFrame (depth pointer : ℕ) (records : List Frame) (m : Memory) : Type 0 where
  pub shallow : depth ≤ record_limit
  pub pointer_is : pointer ≡ pointer_of depth
  pub records_are : length records ≡ depth
  pub memory : IsMemory m

-- the same for a CPU state; R10 is the frame pointer
abbrev pub Framed : ℕ → CpuState → Type 0
Framed depth b = HasFrame depth (b.registers R10) b.records b.memory
