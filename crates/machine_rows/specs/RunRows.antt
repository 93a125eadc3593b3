-- Addresses, sizes, local calls and slots of the machine, by hand from RFC 9669, sections 3 to 5.
use Rattle.std.specs.Prelude.{◌≡◌, ℕ, pos, negsuc, true, false, List, [], ◌∷◌, Some, None, Err, replicate}
use Rattle.guest_memory.specs.declared.fault.Fault.TheVariants.{F3, F4, F9}
use Rattle.guest_memory.specs.declared.size.Size.TheVariants as bytes
use Rattle.insn_codec.specs.declared.byte_order.ByteOrder.TheVariants as order
use Rattle.insn_codec.specs.declared.extension.Extension.TheVariants.{From8To64}
use Rattle.insn_codec.specs.declared.insn.Insn.TheVariants.{Neg, SignExtend, ByteSwap, Exit, LoadWide}
use Rattle.insn_codec.specs.declared.register.Register.TheVariants.{R0, R1, R2, R10}
use Rattle.insn_codec.specs.declared.signed_size.SignedSize.TheVariants as signed
use Rattle.insn_codec.specs.declared.size.Size.TheVariants as size
use Rattle.insn_codec.specs.declared.swap_width.SwapWidth.TheVariants as swap
use Rattle.insn_codec.specs.declared.width.Width.TheVariants.{W32, W64}
use Rattle.bpf_machine.specs.Access.{load_row, load_signed_row, load_wide_row}
use Rattle.bpf_machine.specs.Atomics.{is_read_only, where_stores}
use Rattle.bpf_machine.specs.Conversions.{atomic_memory_size, memory_size, signed_memory_size}
use Rattle.bpf_machine.specs.Decoding.{fetched, insn_at, slot_count}
use Rattle.bpf_machine.specs.HelperCalls.{arguments}
use Rattle.bpf_machine.specs.Jumps.{called, caller, newest, returned}
use Rattle.bpf_machine.specs.Operands.{address}
use Rattle.bpf_machine.specs.Rows.{start_of}
use Rattle.bpf_machine.specs.State.{State}
use Rattle.bpf_machine.specs.Step.{executed, next_state}
use Rattle.bpf_machine.specs.declared.frame.Frame.{Frame}
use Rattle.bpf_machine.specs.declared.status.Status.{Status, TheVariants.Exited, TheVariants.Fault}

-- a record of a call: the slot after it, and the words of R6 to R9
abbrev pub frame_of : (slot r6 r7 r8 r9 : ℕ) → Frame
frame_of slot r6 r7 r8 r9 = record { return_pc = pos slot; r6 = r6; r7 = r7; r8 = r8; r9 = r9 }

-- the records of two local calls
abbrev pub two_frames : List Frame
two_frames = frame_of 1 16 17 18 19 ∷ frame_of 2 26 27 28 29 ∷ []

-- a state at slot 4 after two local calls, with these words of R0 to R10
abbrev pub with_words : List ℕ → State
with_words words = record (start_of []) { registers = words; pc = pos 4; records = two_frames }

-- 0x70 in R0, 1 to 9 in R1 to R9, and a frame pointer above half of all addresses
abbrev pub counting : State
counting = with_words (0x70 ∷ 1 ∷ 0x82 ∷ 3 ∷ 4 ∷ 5 ∷ 6 ∷ 7 ∷ 8 ∷ 9 ∷ 0x8000_0000_0000_0400 ∷ [])

-- the start of a program that only exits, with another status
abbrev pub stopped_with : Status → State
stopped_with status = record (start_of (0x95 ∷ 0 ∷ 0 ∷ 0 ∷ 0 ∷ 0 ∷ 0 ∷ 0 ∷ [])) { status = status }

-- a wide load and an exit
abbrev pub wide_and_exit : List ℕ
wide_and_exit =
    0x18 ∷ 1 ∷ 0 ∷ 0 ∷ 0x88 ∷ 0x77 ∷ 0x66 ∷ 0x55 ∷ 0 ∷ 0 ∷ 0 ∷ 0 ∷ 0x44 ∷ 0x33 ∷ 0x22 ∷ 0x91 ∷ 0x95 ∷ 0 ∷ 0 ∷ 0 ∷ 0 ∷ 0 ∷ 0 ∷ 0 ∷ []

-- the bytes of an access by its size, and its address modulo 2 ^ 64 (sections 5.1 to 5.3)
pub record AddressRowsHold : Type 0 where
  pub load_b : memory_size size.B ≡ bytes.B
  pub load_h : memory_size size.H ≡ bytes.H
  pub load_w : memory_size size.W ≡ bytes.W
  pub load_dw : memory_size size.Dw ≡ bytes.Dw
  pub signed_b : signed_memory_size signed.B ≡ bytes.B
  pub signed_h : signed_memory_size signed.H ≡ bytes.H
  pub signed_w : signed_memory_size signed.W ≡ bytes.W
  pub atomic_w : atomic_memory_size W32 ≡ bytes.W
  pub atomic_dw : atomic_memory_size W64 ≡ bytes.Dw
  pub address_past_half : address (with_words (0x8000_0000_0000_0000 ∷ [])) R0 (pos 8) ≡ 0x8000_0000_0000_0008
  pub address_past_all : address (with_words (0xffff_ffff_ffff_fff8 ∷ [])) R0 (pos 16) ≡ 8
  pub address_below : address (with_words (8 ∷ [])) R0 (negsuc 15) ≡ 0xffff_ffff_ffff_fff8
  -- no instruction writes R10 (section 3, table 1)
  pub no_load : (load_row size.B R10 R0 (pos 0) (start_of [])).status ≡ Fault F9
  pub no_signed_load : (load_signed_row signed.B R10 R0 (pos 0) (start_of [])).status ≡ Fault F9
  pub no_wide_load : (load_wide_row R10 5 (start_of [])).status ≡ Fault F9
  pub read_only : is_read_only (Some R10) ≡ true
  pub not_read_only : is_read_only (Some R1) ≡ false
  pub nothing_is_read_only : is_read_only None ≡ false
  -- an atomic operation has the faults of a store (section 5.3)
  pub no_store : (where_stores (Err F4) counting counting).status ≡ Fault F4

-- a local call saves the slot after it and R6 to R9, and its frame is 512 bytes higher; a return restores them from
-- the newest record, and without a record the program exits with R0 (section 4.3.2)
pub record FrameRowsHold : Type 0 where
  pub saves : caller counting ≡ frame_of 5 6 7 8 9
  pub call_records : (called counting).records ≡ frame_of 1 16 17 18 19 ∷ frame_of 2 26 27 28 29 ∷ frame_of 5 6 7 8 9 ∷ []
  pub call_registers : (called counting).registers ≡ 0x70 ∷ 1 ∷ 0x82 ∷ 3 ∷ 4 ∷ 5 ∷ 6 ∷ 7 ∷ 8 ∷ 9 ∷ 0x8000_0000_0000_0600 ∷ []
  pub call_wraps : (called (with_words (0 ∷ 0 ∷ 0 ∷ 0 ∷ 0 ∷ 0 ∷ 0 ∷ 0 ∷ 0 ∷ 0 ∷ 0xffff_ffff_ffff_fe00 ∷ []))).registers
      ≡ 0 ∷ 0 ∷ 0 ∷ 0 ∷ 0 ∷ 0 ∷ 0 ∷ 0 ∷ 0 ∷ 0 ∷ 0 ∷ []
  pub newest_is_last : newest two_frames ≡ Some (frame_of 2 26 27 28 29)
  pub no_newest : newest [] ≡ None
  pub return_slot : (returned (newest two_frames) counting).pc ≡ pos 2
  pub return_records : (returned (newest two_frames) counting).records ≡ frame_of 1 16 17 18 19 ∷ []
  pub return_registers : (returned (newest two_frames) counting).registers
      ≡ 0x70 ∷ 1 ∷ 0x82 ∷ 3 ∷ 4 ∷ 5 ∷ 26 ∷ 27 ∷ 28 ∷ 29 ∷ 0x8000_0000_0000_0200 ∷ []
  pub exits : (returned None counting).status ≡ Exited 0x70

-- the words of R1 and R2 after one instruction on them, the instructions at the slots of code, and states that have
-- stopped (sections 4.1, 4.2 and 5.4)
pub record RunStepsHold : Type 0 where
  pub negates : (executed (Neg W64 R1) counting).registers
      ≡ 0x70 ∷ 0xffff_ffff_ffff_ffff ∷ 0x82 ∷ 3 ∷ 4 ∷ 5 ∷ 6 ∷ 7 ∷ 8 ∷ 9 ∷ 0x8000_0000_0000_0400 ∷ []
  pub extends : (executed (SignExtend From8To64 R1 R2) counting).registers
      ≡ 0x70 ∷ 0xffff_ffff_ffff_ff82 ∷ 0x82 ∷ 3 ∷ 4 ∷ 5 ∷ 6 ∷ 7 ∷ 8 ∷ 9 ∷ 0x8000_0000_0000_0400 ∷ []
  pub swaps : (executed (ByteSwap order.Big swap.Bits16 R2) counting).registers
      ≡ 0x70 ∷ 1 ∷ 0x8200 ∷ 3 ∷ 4 ∷ 5 ∷ 6 ∷ 7 ∷ 8 ∷ 9 ∷ 0x8000_0000_0000_0400 ∷ []
  -- R1 to R5 are the arguments of a helper (section 4.3.1)
  pub arguments_of_a_helper : arguments counting ≡ 1 ∷ 0x82 ∷ 3 ∷ 4 ∷ 5 ∷ []
  pub wide_load : insn_at wide_and_exit 0 ≡ Some (LoadWide R1 0x9122_3344_5566_7788)
  pub within_a_wide_load : insn_at wide_and_exit 1 ≡ None
  pub exit : fetched wide_and_exit (pos 2) ≡ Some (Some Exit)
  pub past_the_code : fetched wide_and_exit (pos 3) ≡ None
  pub before_the_code : fetched wide_and_exit (negsuc 0) ≡ None
  pub seven_slots : slot_count (replicate 56 0) ≡ 7
  pub stays_at_its_exit : (next_state (stopped_with (Exited 5))).status ≡ Exited 5
  pub stays_at_its_fault : (next_state (stopped_with (Fault F3))).status ≡ Fault F3
