-- The effect of each instruction on a CPU state.
use Rattle.expression_code.proofs.Prelude.{◌≡◌, ℕ, ◌+◌, ◌%◌, ◌^◌, Some, refl, ap, arith, true, false, ◌-◌, ◌<◌, List, [], ◌∷◌, ◌++◌, length, take, ◌∙◌, length-append, ℤ, pos, ◌+ℤ◌, not, if◌then◌else◌, slice_get, nat_le, eq-eqb, eqb-true, ne_eqb, alu64_of, operated, holds_of, AluOp, Eq, Ne, W64, Comparison, Insn, Operand, Register, Width, Image, load_wide_row, alu_row, fetched, branch_row, jump_row, call_local_row, exit_row, newest, returned, is_frame_pointer, jumped, operand_word, with_register, stopped_by, executed, next_state, step_is_row, alu_result, compares, CpuState, at, set_register, operand_in, take-append_seam, F8, HelperAnswer, charged, R0, R10, charge_limit, ValueOrError, call_row, Frame, Exited, HelperReturns, Refuses, answered, entered, frame_at, resumed, Framed, record_limit, frame_length}
use Rattle.insn_codec.specs.declared.alu_op.AluOp.TheVariants as op
use Rattle.bpf_machine.specs.HelperCalls as machine
use Rattle.expression_code.proofs.Values.{get_at}

module _ (image : Image) (p : ℕ) (b : CpuState) where
  pub operand_is : (operand : Operand) → operand_word operand (at image p b) ≡ operand_in operand b
  operand_is operand = grind arith

  pub register_set : (q : ℕ) (r : Register) (w : ℕ) → with_register r w (at image q b) ≡ at image q (set_register b r w)
  register_set q r w = ap (λ rs. record (at image q b) { registers = rs }) (grind arith)

  -- the machine executes the instruction at its slot
  pub does : (i : Insn) → fetched image.code (pos p) ≡ Some (Some i) → next_state (at image p b) ≡ executed i (at image p b)
  does i h = step_is_row (at image p b) i refl h

  pub alu_does : (op : AluOp) (width : Width) (dst : Register) (operand : Operand) → is_frame_pointer dst ≡ false
      → alu_row op width dst operand (at image p b) ≡ at image (p + 1) (set_register b dst (alu_result width op (b.registers dst) (operand_in operand b)))
  unfolding alu_row
  alu_does op width dst operand free = grind arith

  pub load_wide_does : (dst : Register) (value : ℕ) → is_frame_pointer dst ≡ false
      → load_wide_row dst value (at image p b) ≡ at image (p + 2) (set_register b dst value)
  unfolding load_wide_row
  load_wide_does dst value free = grind arith

  pub jump_does : (offset : ℤ) (q : ℕ) → pos p +ℤ pos 1 +ℤ offset ≡ pos q → jump_row offset (at image p b) ≡ at image q b
  unfolding jump_row
  jump_does offset q e = ap (λ (pc : ℤ). record (at image p b) { pc = pc }) e

  pub branch_does : (comparison : Comparison) (width : Width) (dst : Register) (operand : Operand) (offset : ℤ) → branch_row comparison width dst operand offset (at image p b) ≡ (if compares width comparison (b.registers dst) (operand_in operand b) then jumped offset (at image p b) else at image (p + 1) b)
  unfolding branch_row
  branch_does comparison width dst operand offset = grind (arith, operand_is)

-- the results of arithmetic on whole words
pub mov_is : (dst operand : ℕ) → alu_result W64 op.Mov dst operand ≡ operand
unfolding alu64_of operated
mov_is dst operand = refl

pub add_is : (dst operand : ℕ) → alu_result W64 op.Add dst operand ≡ (dst + operand) % 2 ^ 64
unfolding alu64_of operated
add_is dst operand = refl

-- the results of comparing whole words
pub equal_yes : (left right : ℕ) → left ≡ right → compares W64 Eq left right ≡ true
unfolding holds_of
equal_yes left right e = eq-eqb left right e

pub equal_no : (left right : ℕ) → (left ≡ right → ⊥) → compares W64 Eq left right ≡ false
unfolding holds_of
equal_no left right ne = ne_eqb left right ne

pub differs_yes : (left right : ℕ) → (left ≡ right → ⊥) → compares W64 Ne left right ≡ true
unfolding holds_of
differs_yes left right ne = ap not (ne_eqb left right ne)

pub differs_no : (left right : ℕ) → left ≡ right → compares W64 Ne left right ≡ false
unfolding holds_of
differs_no left right e = ap not (eq-eqb left right e)

pub equal_is : (left right : ℕ) → compares W64 Eq left right ≡ true → left ≡ right
unfolding holds_of
equal_is left right e = eqb-true left right e

-- ---- local calls, their exits and calls of helpers

newest-last : (frames : List Frame) (f : Frame) → newest (frames ++ f ∷ []) ≡ Some f
newest-last frames f =
    let long = length-append frames (f ∷ []) in
    let last : length (frames ++ f ∷ []) - 1 ≡ length frames = omega arith in
    ap (slice_get (frames ++ f ∷ [])) last ∙ get_at frames [] f

older : (frames : List Frame) (f : Frame) → take (length (frames ++ f ∷ []) - 1) (frames ++ f ∷ []) ≡ frames
older frames f =
    let long = length-append frames (f ∷ []) in
    let last : length (frames ++ f ∷ []) - 1 ≡ length frames = omega arith in
    ap (λ (n : ℕ). take n (frames ++ f ∷ [])) last ∙ take-append_seam frames (f ∷ [])

module _ (image : Image) (p : ℕ) (b : CpuState) where
  pub call_local_does : (depth : ℕ) (offset : ℤ) (q : ℕ) → Framed depth b → depth < record_limit → pos p +ℤ pos 1 +ℤ offset ≡ pos q → call_local_row offset (at image p b) ≡ at image q (entered p b)
  unfolding call_local_row
  call_local_does depth offset q f room e = grind arith

  pub exit_ends : b.records ≡ [] → exit_row (at image p b) ≡ record (at image p b) { status = Exited (b.registers R0) }
  unfolding exit_row
  exit_ends none = ap (λ (frames : List Frame). returned (newest frames) (at image p b)) none

  pub exit_returns : (caller : CpuState) (q : ℕ) → b.records ≡ caller.records ++ frame_at q caller ∷ [] → b.registers R10 ≡ caller.registers R10 + frame_length
      → caller.registers R10 < 2 ^ 64 → exit_row (at image p b) ≡ at image (q + 1) (resumed caller b)
  unfolding exit_row
  exit_returns caller q frames pointer small = grind (arith, newest-last, older)

  -- the cost of a helper call is charged, and the machine stops if that is above the limit
  pub call_answers : (helper : ℤ) (w cost : ℕ) (list : List ValueOrError) → HelperReturns helper b w list cost → call_row helper (at image p b) ≡ (if nat_le (b.values.charge + cost) charge_limit then at image (p + 1) (answered b w list (b.values.charge + cost)) else stopped_by F8 (at image p b))
  unfolding call_row
  call_answers helper w cost list e = grind arith

  -- a helper that stops for a depth
  pub call_refuses : (helper : ℤ) → Refuses helper b → call_row helper (at image p b) ≡ stopped_by F8 (at image p b)
  unfolding call_row
  call_refuses helper e = ap (λ (a : HelperAnswer). machine.answered (charged a b.values.charge) (at image p b)) e
