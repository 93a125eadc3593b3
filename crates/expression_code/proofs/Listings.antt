-- The laws of instructions for a literal piece, in which places are numerals.
use Rattle.expression_code.proofs.Prelude.{◌≡◌, ℕ, suc, ◌+◌, ◌-◌, ◌^◌, ◌<◌, ◌≤◌, ◌∙◌, ap, refl, Bool, Some, List, arith, true, false, ℤ, pos, slice_get, if◌then◌else◌, ints, AluOp, Mov, Comparison, Insn, Alu, Jump, Branch, Call, Load, Store, LoadWide, Operand, Register, R10, Dw, Width, W64, is_frame_pointer, alu_result, compares, charge_limit, ValueOrError, CpuState, at, set_register, operand_in, HelperReturns, Refuses, answered, Frame, RunContext, RunsToWith, StayFilled, put_length as length_insn, slots, IsCodeAt, Framed, memo_address, memo_at, set_memo, set_word, word_at, word_offset, Scratch, Constants, executed, jumped, frame_words, memo_limit, StoreImm, Imm, w64, cast_unsigned}
use Rattle.expression_code.proofs.Effects.{alu_does, branch_does, does, load_wide_does, mov_is}
use Rattle.expression_code.proofs.Runs.{either, from_place, looser, one_filled}
use Rattle.expression_code.proofs.Steps as step
use Rattle.expression_code.proofs.Accesses.{has_memo, load_does, load_word_does, put_does, store_does, store_word_does}

module _ {s : RunContext} {o : ℕ} {piece : List Insn} {n x p' : ℕ} {b : CpuState} {r : List Frame} {Q : CpuState → Type 0} (has : IsCodeAt s.image.code o piece) where
  pub begins : RunsToWith s n x (o + 0) b r p' Q → RunsToWith s n x o b r p' Q
  begins c = from_place s o (omega arith) c

  -- an instruction that changes neither the records nor the charge, and empties no memo
  goes : {b1 : CpuState} {q p1 : ℕ} (k : ℕ) (i : Insn) → slice_get (slots piece) k ≡ Some (Some i) → executed i (at s.image (o + k) b) ≡ at s.image q b1
      → b1.records ≡ b.records → StayFilled b.memory.scratch b1.memory.scratch → b1.values.charge ≡ b.values.charge → q ≡ p1
      → RunsToWith s n x p1 b1 r p' Q → RunsToWith s (suc n) x (o + k) b r p' Q
  goes {q = q} k i h e same stay v place c = one_filled s (o + k) b (does s.image (o + k) b i (has.here k i h) ∙ e) same stay v (from_place s q place c)

  pub alu : {op : AluOp} {width : Width} {dst : Register} {operand : Operand} (k w : ℕ) → slice_get (slots piece) k ≡ Some (Some (Alu op width dst operand))
      → is_frame_pointer dst ≡ false → alu_result width op (b.registers dst) (operand_in operand b) ≡ w
      → RunsToWith s n x (o + (k + 1)) (set_register b dst w) r p' Q → RunsToWith s (suc n) x (o + k) b r p' Q
  alu {op} {width} {dst} {operand} k w h free e c =
      goes k _ h (alu_does s.image (o + k) b op width dst operand free ∙ ap (λ (v : ℕ). at s.image (o + k + 1) (set_register b dst v)) e) refl (λ i h. h) refl
      (omega arith) c

  pub mov : {dst : Register} {operand : Operand} (k : ℕ) → slice_get (slots piece) k ≡ Some (Some (Alu Mov W64 dst operand)) → is_frame_pointer dst ≡ false
      → RunsToWith s n x (o + (k + 1)) (set_register b dst (operand_in operand b)) r p' Q → RunsToWith s (suc n) x (o + k) b r p' Q
  mov {dst} {operand} k h free c = alu k (operand_in operand b) h free (mov_is (b.registers dst) (operand_in operand b)) c

  pub put_length : {dst : Register} (k count : ℕ) → slice_get (slots piece) k ≡ Some (Some (length_insn dst count)) → is_frame_pointer dst ≡ false → count < 2 ^ 31
      → RunsToWith s n x (o + (k + 1)) (set_register b dst count) r p' Q → RunsToWith s (suc n) x (o + k) b r p' Q
  put_length {dst} k count h free few c = alu k count h free (mov_is (b.registers dst) _ ∙ (omega arith)) c

  pub load_wide : {dst : Register} {value : ℕ} (k : ℕ) → slice_get (slots piece) k ≡ Some (Some (LoadWide dst value)) → is_frame_pointer dst ≡ false
      → RunsToWith s n x (o + (k + 2)) (set_register b dst value) r p' Q → RunsToWith s (suc n) x (o + k) b r p' Q
  load_wide {dst} {value} k h free c = goes k _ h (load_wide_does s.image (o + k) b dst value free) refl (λ i h. h) refl (omega arith) c

  pub load : {dst : Register} {depth : ℕ} (k i : ℕ) → slice_get (slots piece) k ≡ Some (Some (Load Dw dst R10 (word_offset i))) → Framed depth b → i < frame_words
      → is_frame_pointer dst ≡ false → RunsToWith s n x (o + (k + 1)) (set_register b dst (word_at depth i b)) r p' Q → RunsToWith s (suc n) x (o + k) b r p' Q
  load {dst} {depth} k i h f below free c = goes k _ h (load_does s.image (o + k) b depth i dst f below free) refl (λ i h. h) refl (omega arith) c

  pub store : {src : Register} {depth : ℕ} (k i : ℕ) → slice_get (slots piece) k ≡ Some (Some (Store Dw R10 (word_offset i) src)) → Framed depth b → i < frame_words
      → RunsToWith s n x (o + (k + 1)) (set_word depth i (b.registers src) b) r p' Q → RunsToWith s (suc n) x (o + k) b r p' Q
  store {src} {depth} k i h f below c = goes k _ h (store_does s.image (o + k) b depth i src f below) refl (λ i h. h) refl (omega arith) c

  pub put : {m : ℤ} {depth : ℕ} (k i : ℕ) → slice_get (slots piece) k ≡ Some (Some (StoreImm Dw R10 (word_offset i) m)) → Framed depth b → i < frame_words
      → RunsToWith s n x (o + (k + 1)) (set_word depth i (cast_unsigned w64 m) b) r p' Q → RunsToWith s (suc n) x (o + k) b r p' Q
  put {m} {depth} k i h f below c = goes k _ h (put_does s.image (o + k) b depth i m f below) refl (λ i h. h) refl (omega arith) c

  pub load_memo : {dst src : Register} {depth : ℕ} (k i : ℕ) → slice_get (slots piece) k ≡ Some (Some (Load Dw dst src (pos 0))) → Framed depth b → i < memo_limit
      → b.registers src ≡ memo_address i → is_frame_pointer dst ≡ false → RunsToWith s n x (o + (k + 1)) (set_register b dst (memo_at i b)) r p' Q
      → RunsToWith s (suc n) x (o + k) b r p' Q
  load_memo {dst} {src} k i h f below e free c =
      goes k _ h (load_word_does s.image (o + k) b Scratch i dst src f.memory (has_memo i b.memory f.memory below) e (omega arith) free) refl (λ i h. h) refl
      (omega arith) c

  pub store_memo : {dst src : Register} {depth : ℕ} (k i : ℕ) → slice_get (slots piece) k ≡ Some (Some (Store Dw dst (pos 0) src)) → Framed depth b → i < memo_limit
      → b.registers dst ≡ memo_address i → StayFilled b.memory.scratch (set_memo i (b.registers src) b).memory.scratch
      → RunsToWith s n x (o + (k + 1)) (set_memo i (b.registers src) b) r p' Q → RunsToWith s (suc n) x (o + k) b r p' Q
  store_memo {dst} {src} k i h f below e stay c =
      let writes = store_word_does s.image (o + k) b Scratch i dst src f.memory (λ (same : Scratch ≡ Constants). absurd (cc))
      (has_memo i b.memory f.memory below) e (omega arith) in
      goes k _ h writes refl stay refl (omega arith) c

  pub jump : (k off : ℕ) → slice_get (slots piece) k ≡ Some (Some (Jump (pos off))) → RunsToWith s n x (o + (k + 1 + off)) b r p' Q
      → RunsToWith s (suc n) x (o + k) b r p' Q
  jump k off h c = step.jump s (o + k) (o + (k + 1 + off)) b (pos off) (has.here k _ h) (omega (arith, ints)) c

  pub yes : {comparison : Comparison} {width : Width} {dst : Register} {operand : Operand} (k off : ℕ)
      → slice_get (slots piece) k ≡ Some (Some (Branch comparison width dst operand (pos off)))
      → compares width comparison (b.registers dst) (operand_in operand b) ≡ true → RunsToWith s n x (o + (k + 1 + off)) b r p' Q
      → RunsToWith s (suc n) x (o + k) b r p' Q
  yes {comparison} {width} {dst} {operand} k off h e c =
      step.branch_yes s (o + k) (o + (k + 1 + off)) b comparison width dst operand (pos off) (has.here k _ h) e (omega (arith, ints)) c

  pub no : {comparison : Comparison} {width : Width} {dst : Register} {operand : Operand} {offset : ℤ} (k : ℕ)
      → slice_get (slots piece) k ≡ Some (Some (Branch comparison width dst operand offset))
      → compares width comparison (b.registers dst) (operand_in operand b) ≡ false → RunsToWith s n x (o + (k + 1)) b r p' Q → RunsToWith s (suc n) x (o + k) b r p' Q
  no {comparison} {width} {dst} {operand} {offset} k h e c =
      goes k _ h (branch_does s.image (o + k) b comparison width dst operand offset ∙ ap
      (λ (t : Bool). if t then jumped offset (at s.image (o + k) b) else at s.image (o + k + 1) b) e) refl (λ i h. h) refl (omega arith) c

  -- both ways of a branch
  pub branch : {comparison : Comparison} {width : Width} {dst : Register} {operand : Operand} (k off : ℕ)
      → slice_get (slots piece) k ≡ Some (Some (Branch comparison width dst operand (pos off)))
      → (compares width comparison (b.registers dst) (operand_in operand b) ≡ true → RunsToWith s n x (o + (k + 1 + off)) b r p' Q)
      → (compares width comparison (b.registers dst) (operand_in operand b) ≡ false → RunsToWith s n x (o + (k + 1)) b r p' Q)
      → RunsToWith s (suc n) x (o + k) b r p' Q
  branch {comparison} {width} {dst} {operand} k off h on_yes on_no = grind (arith, either, yes, no)

  pub ask : {helper : ℤ} {w cost : ℕ} {list : List ValueOrError} (k : ℕ) → slice_get (slots piece) k ≡ Some (Some (Call helper)) → HelperReturns helper b w list cost
      → (b.values.charge + cost ≤ charge_limit → RunsToWith s n x (o + (k + 1)) (answered b w list (b.values.charge + cost)) r p' Q)
      → RunsToWith s (suc n) (cost + x) (o + k) b r p' Q
  ask {helper} {w} {cost} {list} k h a c = step.ask s (o + k) (o + (k + 1)) b helper w list cost (has.here k _ h) a (omega arith) c

  pub refused : {helper : ℤ} (k : ℕ) → slice_get (slots piece) k ≡ Some (Some (Call helper)) → Refuses helper b → s.is_deep ≡ true
      → RunsToWith s (suc n) x (o + k) b r p' Q
  refused {helper} k h r deep = step.refused s (o + k) (o + (k + 1)) b helper (has.here k _ h) r deep

module _ {s : RunContext} {o : ℕ} {piece : List Insn} {n x p' : ℕ} {b : CpuState} {r : List Frame} {Q : CpuState → Type 0} (has : IsCodeAt s.image.code o piece) where
  -- a helper call whose cost is within the budget
  pub calls : {helper : ℤ} {w cost : ℕ} {list : List ValueOrError} (k : ℕ) → slice_get (slots piece) k ≡ Some (Some (Call helper))
      → HelperReturns helper b w list cost → cost ≤ x
      → (b.values.charge + cost ≤ charge_limit → RunsToWith s n (x - cost) (o + (k + 1)) (answered b w list (b.values.charge + cost)) r p' Q)
      → RunsToWith s (suc n) x (o + k) b r p' Q
  calls k h a within c = looser s (suc n) x (omega arith) (omega arith) (ask has k h a c)
