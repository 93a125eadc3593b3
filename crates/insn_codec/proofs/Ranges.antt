-- Encoding and decoding of a slot's fields: each instruction is the candidate of its own
-- first slot, and the fields are in range.
use Rattle.insn_codec.proofs.Prelude.{◌≡◌, ℕ, ◌+◌, ◌*◌, ◌/◌, ◌%◌, ◌^◌, ◌<◌, Some, refl, arith, Option, FitsSigned, w32, cast_signed, cast_unsigned, w16, of_z-to_z, arithmetic_at, atomic_at, branch_at, candidate_at, jump_at, memory_at, wide_at, ◌>>=◌, register_number, register_of, atomic_width, operand_at, first_slot, IsInsn, IsOperand, Little, Eq, From8To32, Insn, Alu, Neg, SignExtend, ByteSwap, Jump, JumpLong, Branch, Call, CallLocal, Exit, Load, LoadSigned, StoreImm, Store, Atomic, LoadWide, Imm, Register, W32, IfSome, option_map, Bool, if◌then◌else◌, ◌==◌, alu_of, atomic_of, comparison_of, extension_of, order_of, signed_size_of, size_of_code, swap_of, IsSlot, Operand, Slot, Width}
use Rattle.std.specs.Prelude.{◌&&◌, not}
use Rattle.insn_codec.specs.Families.{holds}
use Rattle.insn_codec.specs.declared.alu_op.AluOp.TheVariants as alu
use Rattle.insn_codec.specs.declared.atomic_op.AtomicOp.TheVariants as atomic
use Rattle.insn_codec.specs.declared.signed_size.SignedSize.TheVariants as signed
use Rattle.insn_codec.specs.declared.size.Size.TheVariants as size
use Rattle.insn_codec.specs.declared.swap_width.SwapWidth.TheVariants as swap

-- the number of a register denotes it again
register_again : (r : Register) → register_of (register_number r) ≡ Some r
register_again r = grind arith

-- the number is the high half of a wide load's value
abbrev pub HighOf : Insn → ℕ → Type 0
HighOf (LoadWide dst value) high = (high ≡ value / 2 ^ 32) × (value < 2 ^ 64)
HighOf _ high = Unit {0}

wide : (value : ℕ) → value < 2 ^ 64 → cast_unsigned w32 (cast_signed w32 (value % 2 ^ 32)) + 2 ^ 32 * (value / 2 ^ 32) ≡ value
wide value h = rw (of_z-to_z w32 (value % 2 ^ 32) (omega arith)) (omega arith)

-- the fields of an instruction's first slot, with the high half of a wide one, denote that instruction
pub candidate_at-first_slot : (i : Insn) (high : ℕ) → HighOf i high → candidate_at (first_slot i) high ≡ Some i
unfolding candidate_at arithmetic_at jump_at branch_at memory_at atomic_at wide_at
candidate_at-first_slot (LoadWide dst value) high h = rw (register_again dst, h.0, wide value h.1) refl
candidate_at-first_slot (Alu alu.Add W32 dst (Imm n)) high h = simp register_again refl
candidate_at-first_slot (Alu _ W32 dst (Imm n)) high h = simp register_again refl
candidate_at-first_slot (Alu _ _ dst (Imm n)) high h = simp register_again refl
candidate_at-first_slot (Neg W32 dst) high h = simp register_again refl
candidate_at-first_slot (SignExtend From8To32 dst src) high h = simp register_again refl
candidate_at-first_slot (ByteSwap Little swap.Bits16 dst) high h = simp register_again refl
candidate_at-first_slot (ByteSwap _ swap.Bits16 dst) high h = simp register_again refl
candidate_at-first_slot (Branch Eq W32 dst (Imm n) offset) high h = simp register_again refl
candidate_at-first_slot (Branch _ W32 dst (Imm n) offset) high h = simp register_again refl
candidate_at-first_slot (Branch _ _ dst (Imm n) offset) high h = simp register_again refl
candidate_at-first_slot (Load size.B dst src offset) high h = simp register_again refl
candidate_at-first_slot (LoadSigned signed.B dst src offset) high h = simp register_again refl
candidate_at-first_slot (StoreImm size.B dst offset imm) high h = simp register_again refl
candidate_at-first_slot (Store size.B dst offset src) high h = simp register_again refl
candidate_at-first_slot (Atomic atomic.Add W32 dst offset src) high h = simp register_again refl
candidate_at-first_slot (Atomic _ W32 dst offset src) high h = simp register_again refl
candidate_at-first_slot (Jump offset) high h = refl
candidate_at-first_slot (JumpLong offset) high h = refl
candidate_at-first_slot (Call helper) high h = refl
candidate_at-first_slot (CallLocal offset) high h = refl
candidate_at-first_slot Exit high h = refl
candidate_at-first_slot _ high h = simp register_again refl

-- the fields of an instruction's first slot are in range

pub first_slot_fits : (i : Insn) → IsInsn i → IsSlot (first_slot i)
first_slot_fits i h = grind arith

-- what the fields denote is in range if the fields are

either : {B : Type 0} (P : B → Type 0) (t : Bool) (x y : Option B) → IfSome x P → IfSome y P → IfSome (if t then x else y) P
either P t x y p q = grind arith

bound : {A B : Type 0} (P : B → Type 0) (o : Option A) (f : A → Option B) → ((x : A) → IfSome (f x) P) → IfSome (o >>= f) P
bound P o f h = grind arith

mapped : {A B : Type 0} (P : B → Type 0) (o : Option A) (f : A → B) → ((x : A) → P (f x)) → IfSome (option_map f o) P
mapped P o f h = grind arith

-- an instruction with an operand is in range if the operand is
with_operand : (o : Option Operand) (f : Operand → Insn) → IfSome o IsOperand → ((x : Operand) → IsOperand x → IsInsn (f x)) → IfSome (o >>= λ x. Some (f x)) IsInsn
with_operand o f q h = grind arith

operand_in_range : (s : Slot) → FitsSigned w32 s.imm → IfSome (operand_at s) IsOperand
operand_in_range s h = grind arith

arithmetic_in_range : (s : Slot) (width : Width) → FitsSigned w32 s.imm → IfSome (arithmetic_at s width) IsInsn
unfolding arithmetic_at
arithmetic_in_range s width h = bound IsInsn (register_of s.dst) _ (λ dst.
    either IsInsn (s.opcode / 16 == 0x8) _ _ tt
    (either IsInsn (s.opcode / 16 == 0xd) _ _ (bound IsInsn (order_of s.opcode) _ (λ order. bound IsInsn (swap_of s.imm) _ (λ bits. tt)))
    (either IsInsn ((s.opcode / 16 == 0xb) && not (holds s.offset 0)) _ _ (bound IsInsn (extension_of width s.offset) _ (λ extension. bound IsInsn (register_of s.src) _ (λ src. tt)))
    (bound IsInsn (alu_of (s.opcode / 16) s.offset) _ (λ op. with_operand (operand_at s) (Alu op width dst) (operand_in_range s h) (λ x f. f))))))

branch_in_range : (s : Slot) (width : Width) → FitsSigned w16 s.offset → FitsSigned w32 s.imm → IfSome (branch_at s width) IsInsn
unfolding branch_at
branch_in_range s width g h =
    bound IsInsn (comparison_of (s.opcode / 16)) _ (λ x. bound IsInsn (register_of s.dst) _ (λ dst. with_operand (operand_at s) (λ operand. Branch x width dst operand s.offset) (operand_in_range s h) (λ x f. (f, g))))

jump_in_range : (s : Slot) (width : Width) → FitsSigned w16 s.offset → FitsSigned w32 s.imm → IfSome (jump_at s width) IsInsn
unfolding jump_at
jump_in_range s width g h = grind (arith, either, branch_in_range)

atomic_in_range : (s : Slot) (dst src : Register) → FitsSigned w16 s.offset → IfSome (atomic_at s dst src) IsInsn
unfolding atomic_at
atomic_in_range s dst src g = bound IsInsn (atomic_width s.opcode) _ (λ width. bound IsInsn (atomic_of s.imm) _ (λ op. g))

memory_in_range : (s : Slot) → FitsSigned w16 s.offset → FitsSigned w32 s.imm → IfSome (memory_at s) IsInsn
unfolding memory_at
memory_in_range s g h = bound IsInsn (register_of s.dst) _ (λ dst. bound IsInsn (register_of s.src) _ (λ src.
    either IsInsn (s.opcode % 8 == 1) _ _
    (either IsInsn (s.opcode / 32 == 3) _ _ (mapped IsInsn (size_of_code (s.opcode / 8 % 4)) _ (λ size. g)) (mapped IsInsn (signed_size_of (s.opcode / 8 % 4)) _ (λ size. g)))
    (either IsInsn (s.opcode % 8 == 2) _ _ (mapped IsInsn (size_of_code (s.opcode / 8 % 4)) _ (λ size. (g, h)))
    (either IsInsn (s.opcode % 8 == 3) _ _ (either IsInsn (s.opcode / 32 == 6) _ _ (atomic_in_range s dst src g) (mapped IsInsn (size_of_code (s.opcode / 8 % 4)) _ (λ size. g))) tt))))

wide_in_range : (s : Slot) (high : ℕ) → FitsSigned w32 s.imm → high < 2 ^ 32 → IfSome (wide_at s high) IsInsn
unfolding wide_at
wide_in_range s high h k = grind arith

pub candidate_in_range : (s : Slot) (high : ℕ) → FitsSigned w16 s.offset → FitsSigned w32 s.imm → high < 2 ^ 32 → IfSome (candidate_at s high) IsInsn
unfolding candidate_at
candidate_in_range s high g h k = grind (arith, either, wide_in_range, arithmetic_in_range, jump_in_range, memory_in_range)
