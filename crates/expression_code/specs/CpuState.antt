-- The state of the machine, without its place and status.
use Rattle.std.specs.Prelude.{ℕ, pos, List, [], ◌∷◌, nat_eq, if◌then◌else◌}
use Rattle.std.specs.Int.{w64, cast_unsigned}
use Rattle.guest_memory.specs.Memory.{Memory}
use Rattle.insn_codec.specs.Codes.{register_number}
use Rattle.insn_codec.specs.declared.operand.Operand.{Operand, TheVariants.Imm, TheVariants.Reg}
use Rattle.insn_codec.specs.declared.register.Register.{Register}
use Rattle.insn_codec.specs.declared.register.Register.TheVariants.{R0, R1, R2, R3, R4, R5, R6, R7, R8, R9, R10}
use Rattle.loader.specs.Contents as loader
use Rattle.value_store.specs.Placing.{Contents}
use Rattle.bpf_machine.specs.State.{State}
use Rattle.bpf_machine.specs.declared.frame.Frame.{Frame}
use Rattle.bpf_machine.specs.declared.status.Status.TheVariants.{Running}

-- everything that instructions read and change except the place; `values` are those that the program can refer to
pub record CpuState : Type 0 where
  pub registers : Register → ℕ
  pub records : List Frame
  pub memory : Memory
  pub values : Contents

-- the words of R0 to R10, in this order
abbrev pub register_words : (Register → ℕ) → List ℕ
register_words word = word R0 ∷ word R1 ∷ word R2 ∷ word R3 ∷ word R4 ∷ word R5 ∷ word R6 ∷ word R7 ∷ word R8 ∷ word R9 ∷ word R10 ∷ []

-- the state of a machine that runs the image, at slot p with this CPU state
abbrev pub at : loader.Image → ℕ → CpuState → State
at image p b = record {
  image = image;
  pc = pos p;
  registers = register_words b.registers;
  records = b.records;
  memory = b.memory;
  values = b.values;
  status = Running;
}

-- the registers, with another word in one of them
abbrev pub put_register : (Register → ℕ) → Register → ℕ → Register → ℕ
put_register word r w q = if nat_eq (register_number q) (register_number r) then w else word q

-- the CPU state with w in a register
abbrev pub set_register : CpuState → Register → ℕ → CpuState
set_register b r w = record b { registers = put_register b.registers r w }

-- the word of a register, or the immediate with its sign extended to 64 bits
abbrev pub operand_in : Operand → CpuState → ℕ
operand_in (Imm n) b = cast_unsigned w64 n
operand_in (Reg r) b = b.registers r
