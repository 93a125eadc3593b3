-- One law for each kind of instruction: it reduces a run to the rest of the run after the step.
use Rattle.expression_code.proofs.Prelude.{◌≡◌, ℕ, suc, ◌+◌, ◌^◌, ◌<◌, ◌≤◌, Some, Bool, List, refl, sym, ap, ◌∙◌, arith, true, false, inl, inr, leb-false, leb-true, ℤ, pos, ◌+ℤ◌, ◌++◌, ◌∷◌, [], nat_le, if◌then◌else◌, Comparison, Jump, Branch, Call, Exit, Store, Operand, Register, R10, Dw, Width, F8, fetched, jumped, stopped_by, next_state, compares, charge_limit, ValueOrError, CpuState, at, operand_in, HelperReturns, Refuses, answered, frame_at, resumed, Frame, RunContext, RunsToWith, Verdict, Constants, Framed, set_verdict, verdict_address, frame_length}
use Rattle.expression_code.proofs.Accesses.{has_verdict, store_word_does}
use Rattle.expression_code.proofs.Effects.{branch_does, call_answers, call_refuses, does, exit_returns, jump_does}
use Rattle.expression_code.proofs.Runs.{last, one, step, stops}

module _ (s : RunContext) {Q : CpuState → Type 0} (p p1 : ℕ) (b : CpuState) where
  -- an exit returns to the slot after the call, with the caller's records
  pub exit : (caller : CpuState) (q : ℕ) → fetched s.image.code (pos p) ≡ Some (Some Exit) → b.records ≡ caller.records ++ frame_at q caller ∷ [] → b.registers R10 ≡ caller.registers R10 + frame_length → caller.registers R10 < 2 ^ 64 → p1 ≡ q + 1 → Q (resumed caller b) → RunsToWith s 1 0 p b caller.records p1 Q
  exit caller q h frames pointer small place fact =
      last s p b (resumed caller b) (does s.image p b _ h ∙ exit_returns s.image p b caller q frames pointer small ∙ ap (λ (r : ℕ). at s.image r (resumed caller b)) (sym place)) refl refl fact

module _ (s : RunContext) {n x p' : ℕ} {r : List Frame} {Q : CpuState → Type 0} (p p1 : ℕ) (b : CpuState) where
  -- stores a register in word i of the verdict region, through a register that holds its address
  pub store_verdict : (depth i : ℕ) (dst src : Register) → fetched s.image.code (pos p) ≡ Some (Some (Store Dw dst (pos 0) src)) → Framed depth b → i < 256 → b.registers dst ≡ verdict_address i → p1 ≡ p + 1 → RunsToWith s n x p1 (set_verdict i (b.registers src) b) r p' Q → RunsToWith s (suc n) x p b r p' Q
  store_verdict depth i dst src h f below e place c =
      one s p b (does s.image p b _ h ∙ store_word_does s.image p b Verdict i dst src f.memory (λ (same : Verdict ≡ Constants). absurd (cc)) (has_verdict i b.memory f.memory below) e (omega arith) ∙ ap (λ (q : ℕ). at s.image q (set_verdict i (b.registers src) b)) (sym place)) refl refl refl c

  pub jump : (offset : ℤ) → fetched s.image.code (pos p) ≡ Some (Some (Jump offset)) → pos p +ℤ pos 1 +ℤ offset ≡ pos p1 → RunsToWith s n x p1 b r p' Q → RunsToWith s (suc n) x p b r p' Q
  jump offset h place c = one s p b (does s.image p b _ h ∙ jump_does s.image p b offset p1 place) refl refl refl c

  pub branch_yes : (comparison : Comparison) (width : Width) (dst : Register) (operand : Operand) (offset : ℤ) → fetched s.image.code (pos p) ≡ Some (Some (Branch comparison width dst operand offset)) → compares width comparison (b.registers dst) (operand_in operand b) ≡ true → pos p +ℤ pos 1 +ℤ offset ≡ pos p1 → RunsToWith s n x p1 b r p' Q → RunsToWith s (suc n) x p b r p' Q
  branch_yes comparison width dst operand offset h e place c =
      one s p b (does s.image p b _ h ∙ branch_does s.image p b comparison width dst operand offset ∙ ap (λ (t : Bool). if t then jumped offset (at s.image p b) else at s.image (p + 1) b) e ∙ ap (λ (pc : ℤ). record (at s.image p b) { pc = pc }) place) refl refl refl c

  ask_by : (helper : ℤ) (w : ℕ) (list : List ValueOrError) (cost : ℕ) (t : Bool) → nat_le (b.values.charge + cost) charge_limit ≡ t → fetched s.image.code (pos p) ≡ Some (Some (Call helper)) → next_state (at s.image p b) ≡ (if t then at s.image (p + 1) (answered b w list (b.values.charge + cost)) else stopped_by F8 (at s.image p b)) → p1 ≡ p + 1 → (b.values.charge + cost ≤ charge_limit → RunsToWith s n x p1 (answered b w list (b.values.charge + cost)) r p' Q) → RunsToWith s (suc n) (cost + x) p b r p' Q
  ask_by helper w list cost true test h e place c =
      step s (suc n) (cost + x) p b (e ∙ ap (λ (q : ℕ). at s.image q (answered b w list (b.values.charge + cost))) (sym place)) refl (λ i h. h) (omega arith) (omega arith) (c (leb-true _ _ test))
  ask_by helper w list cost false test h e place c =
      stops s n (cost + x) p b (stopped_by F8 (at s.image p b)) e refl refl refl (inl (let above = leb-false _ _ test in omega arith))

  -- a helper call; the rest of the run may assume that the charge is within its limit
  pub ask : (helper : ℤ) (w : ℕ) (list : List ValueOrError) (cost : ℕ) → fetched s.image.code (pos p) ≡ Some (Some (Call helper)) → HelperReturns helper b w list cost → p1 ≡ p + 1 → (b.values.charge + cost ≤ charge_limit → RunsToWith s n x p1 (answered b w list (b.values.charge + cost)) r p' Q) → RunsToWith s (suc n) (cost + x) p b r p' Q
  ask helper w list cost h a place c =
      ask_by helper w list cost (nat_le (b.values.charge + cost) charge_limit) refl h (does s.image p b _ h ∙ call_answers s.image p b helper w cost list a) place c

  -- a helper that stops for a depth
  pub refused : (helper : ℤ) → fetched s.image.code (pos p) ≡ Some (Some (Call helper)) → Refuses helper b → s.is_deep ≡ true → RunsToWith s (suc n) x p b r p' Q
  refused helper h r deep = stops s n x p b (stopped_by F8 (at s.image p b)) (does s.image p b _ h ∙ call_refuses s.image p b helper r) refl refl refl (inr deep)
