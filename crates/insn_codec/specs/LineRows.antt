-- Instructions with their lines, written by hand from the page on programs as text.
use Rattle.std.specs.Prelude.{◌≡◌, pos, negsuc, [], ◌∷◌, codes}
use Prim.Native.String.{String}
use Rattle.insn_codec.specs.Lines.{line_text}
use Rattle.insn_codec.specs.Statements.{lines_text, statement_bytes, statement_text}
use Rattle.insn_codec.specs.declared.alu_op.AluOp.TheVariants.{Add, Sub, Mul, Div, Sdiv, Or, And, Lsh, Rsh, Mod, Smod, Xor, Mov, Arsh}
use Rattle.insn_codec.specs.declared.atomic_op.AtomicOp.TheVariants as atomic
use Rattle.insn_codec.specs.declared.byte_order.ByteOrder.TheVariants as order
use Rattle.insn_codec.specs.declared.comparison.Comparison.TheVariants as comparison
use Rattle.insn_codec.specs.declared.extension.Extension.TheVariants.{From8To32, From16To32, From8To64, From16To64, From32To64}
use Rattle.insn_codec.specs.declared.insn.Insn.{Insn as Instruction}
use Rattle.insn_codec.specs.declared.insn.Insn.TheVariants.{Alu, Neg, SignExtend, ByteSwap, Jump, JumpLong, Branch, Call, CallLocal, Exit}
use Rattle.insn_codec.specs.declared.insn.Insn.TheVariants.{Load, LoadSigned, StoreImm, Store, Atomic, LoadWide}
use Rattle.insn_codec.specs.declared.operand.Operand.TheVariants.{Imm, Reg}
use Rattle.insn_codec.specs.declared.register.Register.TheVariants.{R0, R1, R2, R3, R4, R5, R6, R7, R8, R9, R10}
use Rattle.insn_codec.specs.declared.signed_size.SignedSize.TheVariants as signed
use Rattle.insn_codec.specs.declared.size.Size.TheVariants as size
use Rattle.insn_codec.specs.declared.statement.Statement.TheVariants.{Insn, Slot}
use Rattle.insn_codec.specs.declared.swap_width.SwapWidth.TheVariants as swap
use Rattle.insn_codec.specs.declared.width.Width.TheVariants.{W32, W64}

-- the text is the line of the instruction
abbrev pub Reads : Instruction → String → Type 0
Reads i text = line_text i ≡ codes text

-- arithmetic, moves and byte orders
pub record ArithmeticLinesHold : Type 0 where
  pub add_of_64 : Reads (Alu Add W64 R1 (Imm (negsuc 4))) "add64 r1, -5"
  pub sub_of_32 : Reads (Alu Sub W32 R1 (Reg R2)) "sub32 r1, r2"
  pub mul_of_64 : Reads (Alu Mul W64 R1 (Reg R2)) "mul64 r1, r2"
  pub div_of_32 : Reads (Alu Div W32 R1 (Imm (negsuc 4))) "div32 r1, -5"
  pub sdiv_of_64 : Reads (Alu Sdiv W64 R1 (Reg R2)) "sdiv64 r1, r2"
  pub or_of_32 : Reads (Alu Or W32 R1 (Reg R2)) "or32 r1, r2"
  pub and_of_64 : Reads (Alu And W64 R1 (Imm (negsuc 4))) "and64 r1, -5"
  pub lsh_of_32 : Reads (Alu Lsh W32 R1 (Reg R2)) "lsh32 r1, r2"
  pub rsh_of_64 : Reads (Alu Rsh W64 R1 (Reg R2)) "rsh64 r1, r2"
  pub mod_of_32 : Reads (Alu Mod W32 R1 (Imm (negsuc 4))) "mod32 r1, -5"
  pub smod_of_64 : Reads (Alu Smod W64 R1 (Reg R2)) "smod64 r1, r2"
  pub xor_of_32 : Reads (Alu Xor W32 R1 (Reg R2)) "xor32 r1, r2"
  pub mov_of_64 : Reads (Alu Mov W64 R1 (Imm (negsuc 4))) "mov64 r1, -5"
  pub arsh_of_32 : Reads (Alu Arsh W32 R1 (Reg R2)) "arsh32 r1, r2"
  pub add_of_32 : Reads (Alu Add W32 R0 (Imm (pos 0))) "add32 r0, 0"
  pub register_ten : Reads (Alu Mov W64 R10 (Reg R9)) "mov64 r10, r9"
  pub registers_3_and_4 : Reads (Alu Mov W64 R3 (Reg R4)) "mov64 r3, r4"
  pub registers_5_and_6 : Reads (Alu Mov W64 R5 (Reg R6)) "mov64 r5, r6"
  pub registers_7_and_8 : Reads (Alu Mov W64 R7 (Reg R8)) "mov64 r7, r8"
  pub four_digits : Reads (Alu Mov W64 R0 (Imm (pos 1024))) "mov64 r0, 1024"
  pub three_digits_below_zero : Reads (Alu Mov W64 R0 (Imm (negsuc 99))) "mov64 r0, -100"
  pub neg_of_64 : Reads (Neg W64 R1) "neg64 r1"
  pub neg_of_32 : Reads (Neg W32 R3) "neg32 r3"
  pub movsx_8to32 : Reads (SignExtend From8To32 R1 R2) "movsx8to32 r1, r2"
  pub movsx_16to32 : Reads (SignExtend From16To32 R1 R2) "movsx16to32 r1, r2"
  pub movsx_8to64 : Reads (SignExtend From8To64 R1 R2) "movsx8to64 r1, r2"
  pub movsx_16to64 : Reads (SignExtend From16To64 R1 R2) "movsx16to64 r1, r2"
  pub movsx_32to64 : Reads (SignExtend From32To64 R1 R2) "movsx32to64 r1, r2"
  pub little_16 : Reads (ByteSwap order.Little swap.Bits16 R1) "le16 r1"
  pub little_32 : Reads (ByteSwap order.Little swap.Bits32 R1) "le32 r1"
  pub little_64 : Reads (ByteSwap order.Little swap.Bits64 R1) "le64 r1"
  pub big_16 : Reads (ByteSwap order.Big swap.Bits16 R1) "be16 r1"
  pub big_32 : Reads (ByteSwap order.Big swap.Bits32 R1) "be32 r1"
  pub big_64 : Reads (ByteSwap order.Big swap.Bits64 R1) "be64 r1"
  pub swap_16 : Reads (ByteSwap order.Swap swap.Bits16 R1) "swap16 r1"
  pub swap_32 : Reads (ByteSwap order.Swap swap.Bits32 R1) "swap32 r1"
  pub swap_64 : Reads (ByteSwap order.Swap swap.Bits64 R1) "swap64 r1"

-- jumps, calls and the exit
pub record JumpLinesHold : Type 0 where
  pub eq_of_32 : Reads (Branch comparison.Eq W32 R1 (Imm (negsuc 0)) (pos 0)) "jeq32 r1, -1, +0"
  pub gt_of_64 : Reads (Branch comparison.Gt W64 R1 (Reg R2) (pos 12)) "jgt64 r1, r2, +12"
  pub ge_of_32 : Reads (Branch comparison.Ge W32 R1 (Reg R2) (negsuc 2)) "jge32 r1, r2, -3"
  pub set_of_64 : Reads (Branch comparison.Set W64 R1 (Imm (negsuc 0)) (pos 0)) "jset64 r1, -1, +0"
  pub ne_of_32 : Reads (Branch comparison.Ne W32 R1 (Reg R2) (pos 12)) "jne32 r1, r2, +12"
  pub sgt_of_64 : Reads (Branch comparison.Sgt W64 R1 (Reg R2) (negsuc 2)) "jsgt64 r1, r2, -3"
  pub sge_of_32 : Reads (Branch comparison.Sge W32 R1 (Imm (negsuc 0)) (pos 0)) "jsge32 r1, -1, +0"
  pub lt_of_64 : Reads (Branch comparison.Lt W64 R1 (Reg R2) (pos 12)) "jlt64 r1, r2, +12"
  pub le_of_32 : Reads (Branch comparison.Le W32 R1 (Reg R2) (negsuc 2)) "jle32 r1, r2, -3"
  pub slt_of_64 : Reads (Branch comparison.Slt W64 R1 (Imm (negsuc 0)) (pos 0)) "jslt64 r1, -1, +0"
  pub sle_of_32 : Reads (Branch comparison.Sle W32 R1 (Reg R2) (pos 12)) "jsle32 r1, r2, +12"
  pub eq_of_64 : Reads (Branch comparison.Eq W64 R1 (Imm (pos 3)) (pos 4)) "jeq64 r1, 3, +4"
  pub jump : Reads (Jump (negsuc 2)) "ja -3"
  pub jump_ahead : Reads (Jump (pos 12)) "ja +12"
  pub long_jump : Reads (JumpLong (pos 70)) "ja32 +70"
  pub call : Reads (Call (pos 5)) "call 5"
  pub call_below_zero : Reads (Call (negsuc 0)) "call -1"
  pub call_local : Reads (CallLocal (pos 1)) "call_local +1"
  pub exit : Reads Exit "exit"

-- loads, stores and atomic instructions
pub record MemoryLinesHold : Type 0 where
  pub load_b : Reads (Load size.B R1 R2 (pos 4)) "ldxb r1, [r2+4]"
  pub store_immediate_b : Reads (StoreImm size.B R1 (pos 4) (pos 3)) "stb [r1+4], 3"
  pub store_b : Reads (Store size.B R1 (pos 4) R2) "stxb [r1+4], r2"
  pub load_h : Reads (Load size.H R1 R2 (pos 4)) "ldxh r1, [r2+4]"
  pub store_immediate_h : Reads (StoreImm size.H R1 (pos 4) (pos 3)) "sth [r1+4], 3"
  pub store_h : Reads (Store size.H R1 (pos 4) R2) "stxh [r1+4], r2"
  pub load_w : Reads (Load size.W R1 R2 (pos 4)) "ldxw r1, [r2+4]"
  pub store_immediate_w : Reads (StoreImm size.W R1 (pos 4) (pos 3)) "stw [r1+4], 3"
  pub store_w : Reads (Store size.W R1 (pos 4) R2) "stxw [r1+4], r2"
  pub load_dw : Reads (Load size.Dw R1 R2 (pos 4)) "ldxdw r1, [r2+4]"
  pub store_immediate_dw : Reads (StoreImm size.Dw R1 (pos 4) (pos 3)) "stdw [r1+4], 3"
  pub store_dw : Reads (Store size.Dw R1 (pos 4) R2) "stxdw [r1+4], r2"
  pub load_signed_b : Reads (LoadSigned signed.B R1 R2 (pos 4)) "ldxsb r1, [r2+4]"
  pub load_signed_h : Reads (LoadSigned signed.H R1 R2 (pos 4)) "ldxsh r1, [r2+4]"
  pub load_signed_w : Reads (LoadSigned signed.W R1 R2 (pos 4)) "ldxsw r1, [r2+4]"
  pub load_below : Reads (Load size.Dw R1 R10 (negsuc 7)) "ldxdw r1, [r10-8]"
  pub load_at : Reads (Load size.Dw R1 R2 (pos 0)) "ldxdw r1, [r2+0]"
  pub atomic_add : Reads (Atomic atomic.Add W64 R1 (pos 4) R2) "atomic_add64 [r1+4], r2"
  pub atomic_or : Reads (Atomic atomic.Or W32 R1 (pos 4) R2) "atomic_or32 [r1+4], r2"
  pub atomic_and : Reads (Atomic atomic.And W64 R1 (pos 4) R2) "atomic_and64 [r1+4], r2"
  pub atomic_xor : Reads (Atomic atomic.Xor W32 R1 (pos 4) R2) "atomic_xor32 [r1+4], r2"
  pub atomic_fetch_add : Reads (Atomic atomic.FetchAdd W64 R1 (pos 4) R2) "atomic_fetch_add64 [r1+4], r2"
  pub atomic_fetch_or : Reads (Atomic atomic.FetchOr W32 R1 (pos 4) R2) "atomic_fetch_or32 [r1+4], r2"
  pub atomic_fetch_and : Reads (Atomic atomic.FetchAnd W64 R1 (pos 4) R2) "atomic_fetch_and64 [r1+4], r2"
  pub atomic_fetch_xor : Reads (Atomic atomic.FetchXor W32 R1 (pos 4) R2) "atomic_fetch_xor32 [r1+4], r2"
  pub atomic_xchg : Reads (Atomic atomic.Exchange W64 R1 (pos 4) R2) "atomic_xchg64 [r1+4], r2"
  pub atomic_cmpxchg : Reads (Atomic atomic.CompareExchange W32 R1 (pos 4) R2) "atomic_cmpxchg32 [r1+4], r2"
  pub wide_load : Reads (LoadWide R1 0x9122334455667788) "lddw r1, 0x9122334455667788"
  pub wide_load_of_letters : Reads (LoadWide R0 0xabcdef) "lddw r0, 0x0000000000abcdef"

-- statements: a slot as its eight bytes, the first byte first, and lines that each end with a line feed
pub record StatementLinesHold : Type 0 where
  pub a_slot : statement_text (Slot 0x1800000000000001) ≡ codes ".slot 0x1800000000000001"
  pub bytes_of_a_slot : statement_bytes (Slot 0x1800000000000001) ≡ 0x18 ∷ 0 ∷ 0 ∷ 0 ∷ 0 ∷ 0 ∷ 0 ∷ 1 ∷ []
  pub bytes_of_an_instruction : statement_bytes (Insn Exit) ≡ 0x95 ∷ 0 ∷ 0 ∷ 0 ∷ 0 ∷ 0 ∷ 0 ∷ 0 ∷ []
  pub no_lines : lines_text [] ≡ []
  pub two_lines : lines_text (Insn (Alu Mov W64 R0 (Imm (pos 5))) ∷ Insn Exit ∷ []) ≡ codes "mov64 r0, 5\nexit\n"
