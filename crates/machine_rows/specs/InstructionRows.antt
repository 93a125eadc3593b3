-- Instructions and statements byte by byte, from the layout of RFC 9669, sections 3 to 5.
use Rattle.std.specs.Prelude.{◌≡◌, false, pos, negsuc, [], ◌∷◌, Some}
use Rattle.insn_codec.specs.Families.{holds}
use Rattle.insn_codec.specs.Limits.{slot_limit}
use Rattle.insn_codec.specs.Slots.{slot_with}
use Rattle.insn_codec.specs.Spelled.{spelled}
use Rattle.insn_codec.specs.Spelling.{IsInsn, first_slot}
use Rattle.insn_codec.specs.Statements.{IsStatement, after_statement, statement_of, statement_slots}
use Rattle.insn_codec.specs.declared.alu_op.AluOp.TheVariants.{Mov}
use Rattle.insn_codec.specs.declared.atomic_op.AtomicOp.TheVariants as atomic
use Rattle.insn_codec.specs.declared.comparison.Comparison.TheVariants as comparison
use Rattle.insn_codec.specs.declared.insn.Insn.TheVariants.{Alu, Jump, JumpLong, Branch, Call, CallLocal, Load}
use Rattle.insn_codec.specs.declared.insn.Insn.TheVariants.{LoadSigned, StoreImm, Store, Atomic, LoadWide}
use Rattle.insn_codec.specs.declared.operand.Operand.TheVariants.{Imm, Reg}
use Rattle.insn_codec.specs.declared.register.Register.TheVariants.{R0, R1, R4, R5, R6, R7, R8, R9, R10}
use Rattle.insn_codec.specs.declared.signed_size.SignedSize.TheVariants as signed
use Rattle.insn_codec.specs.declared.size.Size.TheVariants as size
use Rattle.insn_codec.specs.declared.statement.Statement.TheVariants.{Insn, Slot}
use Rattle.insn_codec.specs.declared.width.Width.TheVariants.{W64}

-- registers in both halves of the second byte, the destination in its low one (section 3)
pub record RegisterRowsHold : Type 0 where
  pub r4_from_r9 : spelled (0xbf ∷ 0x94 ∷ 0 ∷ 0 ∷ 0 ∷ 0 ∷ 0 ∷ 0 ∷ []) ≡ Some (Alu Mov W64 R4 (Reg R9))
  pub r5_from_r8 : spelled (0xbf ∷ 0x85 ∷ 0 ∷ 0 ∷ 0 ∷ 0 ∷ 0 ∷ 0 ∷ []) ≡ Some (Alu Mov W64 R5 (Reg R8))
  pub r6_from_r7 : spelled (0xbf ∷ 0x76 ∷ 0 ∷ 0 ∷ 0 ∷ 0 ∷ 0 ∷ 0 ∷ []) ≡ Some (Alu Mov W64 R6 (Reg R7))
  pub r7_from_r6 : spelled (0xbf ∷ 0x67 ∷ 0 ∷ 0 ∷ 0 ∷ 0 ∷ 0 ∷ 0 ∷ []) ≡ Some (Alu Mov W64 R7 (Reg R6))
  pub r8_from_r5 : spelled (0xbf ∷ 0x58 ∷ 0 ∷ 0 ∷ 0 ∷ 0 ∷ 0 ∷ 0 ∷ []) ≡ Some (Alu Mov W64 R8 (Reg R5))
  pub r9_from_r4 : spelled (0xbf ∷ 0x49 ∷ 0 ∷ 0 ∷ 0 ∷ 0 ∷ 0 ∷ 0 ∷ []) ≡ Some (Alu Mov W64 R9 (Reg R4))
  pub r10_from_r10 : spelled (0xbf ∷ 0xaa ∷ 0 ∷ 0 ∷ 0 ∷ 0 ∷ 0 ∷ 0 ∷ []) ≡ Some (Alu Mov W64 R10 (Reg R10))
  -- the imm of the first slot has the low half, here with its highest bit (section 5.4)
  pub wide_load : spelled (0x18 ∷ 1 ∷ 0 ∷ 0 ∷ 0x55 ∷ 0x66 ∷ 0x77 ∷ 0x88 ∷ 0 ∷ 0 ∷ 0 ∷ 0 ∷ 1 ∷ 0 ∷ 0 ∷ 0 ∷ [])
      ≡ Some (LoadWide R1 0x0001_8877_6655)
  pub first_slot_of_a_wide_load : first_slot (LoadWide R1 0x0001_8877_6655) ≡ slot_with 0x18 1 0 (pos 0) (negsuc 2005440938)
  -- -1 is not 0
  pub below_zero : holds (negsuc 0) 0 ≡ false

-- the statements at the front of code: a wide load has 16 bytes, and a slot that encodes no instruction 8, the first of
-- which is the highest of its number; code has at most 65,536 slots
pub record StatementRowsHold : Type 0 where
  pub wide_load : statement_of
      (0x18 ∷ 1 ∷ 0 ∷ 0 ∷ 0x88 ∷ 0x77 ∷ 0x66 ∷ 0x55 ∷ 0 ∷ 0 ∷ 0 ∷ 0 ∷ 0x44 ∷ 0x33 ∷ 0x22 ∷ 0x91 ∷ 0x95 ∷ [])
      ≡ Insn (LoadWide R1 0x9122_3344_5566_7788)
  pub slot : statement_of (0x20 ∷ 1 ∷ 2 ∷ 3 ∷ 4 ∷ 5 ∷ 6 ∷ 7 ∷ 8 ∷ []) ≡ Slot 0x2001_0203_0405_0607
  pub after_a_wide_load : after_statement
      (0x18 ∷ 1 ∷ 0 ∷ 0 ∷ 0x88 ∷ 0x77 ∷ 0x66 ∷ 0x55 ∷ 0 ∷ 0 ∷ 0 ∷ 0 ∷ 0x44 ∷ 0x33 ∷ 0x22 ∷ 0x91 ∷ 7 ∷ 9 ∷ [])
      ≡ 7 ∷ 9 ∷ []
  pub after_a_slot : after_statement (0x20 ∷ 1 ∷ 2 ∷ 3 ∷ 4 ∷ 5 ∷ 6 ∷ 7 ∷ 8 ∷ 9 ∷ []) ≡ 8 ∷ 9 ∷ []
  pub one_slot : statement_slots (Slot 0) ≡ 1
  pub most_slots : slot_limit ≡ 65536

-- the greatest numbers of the fields, and numbers past them: an offset has 16 bits, an imm 32, both signed, and the
-- word of a wide load or a slot 64 bits (section 3)
pub record FieldRowsHold : Type 0 where
  pub jump : IsInsn (Jump (pos 32767))
  pub jump_past : IsInsn (Jump (pos 32768)) → ⊥
  pub long_jump : IsInsn (JumpLong (pos 2147483647))
  pub long_jump_past : IsInsn (JumpLong (pos 2147483648)) → ⊥
  pub branch : IsInsn (Branch comparison.Eq W64 R0 (Imm (pos 2147483647)) (pos 32767))
  pub branch_past_its_offset : IsInsn (Branch comparison.Eq W64 R0 (Imm (pos 0)) (pos 32768)) → ⊥
  pub branch_past_its_operand : IsInsn (Branch comparison.Eq W64 R0 (Imm (pos 2147483648)) (pos 0)) → ⊥
  pub call : IsInsn (Call (pos 2147483647))
  pub call_past : IsInsn (Call (pos 2147483648)) → ⊥
  pub local_call : IsInsn (CallLocal (pos 2147483647))
  pub local_call_past : IsInsn (CallLocal (pos 2147483648)) → ⊥
  pub load : IsInsn (Load size.B R0 R1 (pos 32767))
  pub load_past : IsInsn (Load size.B R0 R1 (pos 32768)) → ⊥
  pub load_signed : IsInsn (LoadSigned signed.B R0 R1 (pos 32767))
  pub load_signed_past : IsInsn (LoadSigned signed.B R0 R1 (pos 32768)) → ⊥
  pub store_imm : IsInsn (StoreImm size.B R0 (pos 32767) (pos 2147483647))
  pub store_imm_past_its_offset : IsInsn (StoreImm size.B R0 (pos 32768) (pos 0)) → ⊥
  pub store_imm_past_its_imm : IsInsn (StoreImm size.B R0 (pos 0) (pos 2147483648)) → ⊥
  pub store : IsInsn (Store size.B R0 (pos 32767) R1)
  pub store_past : IsInsn (Store size.B R0 (pos 32768) R1) → ⊥
  pub exchange : IsInsn (Atomic atomic.Exchange W64 R0 (pos 32767) R1)
  pub exchange_past : IsInsn (Atomic atomic.Exchange W64 R0 (pos 32768) R1) → ⊥
  pub wide_load : IsInsn (LoadWide R0 0xffff_ffff_ffff_ffff)
  pub wide_load_past : IsInsn (LoadWide R0 0x0001_0000_0000_0000_0000) → ⊥
  pub slot : IsStatement (Slot 0xffff_ffff_ffff_ffff)
  pub slot_past : IsStatement (Slot 0x0001_0000_0000_0000_0000) → ⊥
