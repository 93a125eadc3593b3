-- Operands, followed by pieces.
-- For the laws in `specs/Operators`.
use Rattle.expression_code.proofs.Prelude.{◌≡◌, ℕ, suc, ◌+◌, ◌≤◌, List, [], ◌∷◌, ◌++◌, refl, arith, ℤ, Insn, Call, Register, R0, R1, R10, charge_limit, ValueOrError, CpuState, set_register, HelperPlaces, answered, operand_code, operands_code, Context, IsWellFormedState, Evaluates, LeavesValue, RunContext, RunsTo, UnaryHelper, CallsGive, CombinesThen, Converts, ConvertsThen, OneGives, TwoGives, IsCodeAt, size, frame_words}
use Rattle.expression_code.proofs.Sites.{Site, StackFrame, Budget, in_frame, budget, past, EvaluatesAt, ConvertsAt}
use Rattle.expression_code.specs.Instructions as insn
use Rattle.expression_code.proofs.Frames.{begun, fits_registers, moved, placed, shown}
use Rattle.expression_code.proofs.Listings.{ask, begins, mov}
use Rattle.expression_code.proofs.Loaded.{operand_runs, operands_run}
use Rattle.expression_code.proofs.Pieces.{runs_both, shown_behind}
use Rattle.expression_code.proofs.Runs.{done, looser}

-- a helper has left its result in R0; other registers may have changed
pub shows_placed : (frame : StackFrame) (helper : ℤ) (x : ValueOrError) (cost : ℕ) (b : CpuState) (registers : Register → ℕ) → frame.base ≤ frame_words → registers R10 ≡ b.registers R10 → IsWellFormedState frame.context frame.depth frame.base b → (a : HelperPlaces helper (record b { registers = registers }) x cost) → b.values.charge + cost ≤ charge_limit → LeavesValue frame.context frame.depth frame.base x b (answered (record b { registers = registers }) a.word a.list (b.values.charge + cost))
shows_placed frame helper x cost b registers low pointer fits a paid = shown (placed (moved (begun fits) registers pointer) a paid) a.names

pub one_gives : OneGives
one_gives s p l operand piece r c depth base x z n1 x1 n2 x2 free leaf gives converts = record {
  runs = λ b has fits.
      looser s {n = n1 + 1 + n2} {x = x1 + x2} (n1 + (1 + n2)) (x1 + x2) (omega arith) (omega arith)
      (runs_both s p (operand_code l operand r) piece n2 x2 (LeavesValue c depth base z b) has
      (λ front. operand_runs s p r free c depth base x n1 x1 l operand leaf gives b front fits)
      (λ b1 back g. shown_behind s g.keeps (converts.runs b1 back g.fits g.named)));
}

-- code followed by a piece that reads R0
pub result_gives : (site : Site) (first second : List Insn) (x z : ValueOrError) (t u : Budget) → EvaluatesAt site first x t → ConvertsAt (past (size first) site) second R0 x z u → EvaluatesAt site (first ++ second) z (budget (t.steps + u.steps) (t.charge + u.charge))
result_gives site first second x z t u gives converts = record {
  runs = λ b has fits.
      runs_both site.setting site.slot first second u.steps u.charge (LeavesValue site.frame.context site.frame.depth site.frame.base z b) has (λ front. gives.runs b front fits) (λ b1 back g. shown_behind site.setting g.keeps (converts.runs b1 back g.fits g.shows));
}

pub two_gives : TwoGives
two_gives s p k l left m right piece r q c depth x y z n1 x1 n2 x2 n3 x3 low apart leaf gives_left leaf_right gives_right combines = record {
  runs = λ b has fits.
      looser s {n = n1 + (1 + (n2 + 2)) + n3} {x = x1 + x2 + x3} (n1 + (1 + (n2 + (2 + n3)))) (x1 + (x2 + x3)) (omega arith) (omega arith)
      (runs_both s p (operands_code l left m right k r q) piece n3 x3 (LeavesValue c depth k z b) has
      (λ front. operands_run s c depth k r q apart x y p (budget n1 x1) (budget n2 x2) l left m right low leaf gives_left leaf_right gives_right b front fits)
      (λ b1 back g. shown_behind s g.keeps (combines.runs b1 back g.fits g.first g.second)));
}

pub converts_then : ConvertsThen
converts_then s p first second r c depth base x y z n1 x1 n2 x2 before after = record {
  runs = λ b has fits named.
      runs_both s p first second n2 x2 (LeavesValue c depth base z b) has (λ front. before.runs b front fits named) (λ b1 back g. shown_behind s g.keeps (after.runs b1 back g.fits g.shows));
}

pub combines_then : CombinesThen
combines_then s p k first second r q c depth x y w z n1 x1 n2 x2 before after = record {
  runs = λ b has fits left right.
      runs_both s p first second n2 x2 (LeavesValue c depth k z b) has (λ front. before.runs b front fits left right) (λ b1 back g. shown_behind s g.keeps (after.runs b1 back g.fits g.shows));
}

-- ---- calls of helpers with the values in their registers

module _ (s : RunContext) (p : ℕ) (helper : ℤ) (c : Context) (depth base : ℕ) (low : base ≤ frame_words) where
  -- the result, for the values in the CPU state's registers
  answers : (z : ValueOrError) (b : CpuState) → IsCodeAt s.image.code p (Call helper ∷ []) → IsWellFormedState c depth base b → HelperPlaces helper b z 1 → RunsTo s 1 1 p b (p + 1) (LeavesValue c depth base z b)
  answers z b has fits a =
      looser s {n = suc 0} {x = 1 + 0} 1 1 (omega arith) (omega arith)
      (begins has
      (ask has 0 refl a.answers (λ paid.
      done s (p + 1) _ _ (shows_placed (in_frame c depth base) helper z 1 b b.registers low refl fits a paid))))

pub calls_give : CallsGive
calls_give = record {
  one = λ s p helper f c depth base x low unary. record { runs = λ b has fits named. answers s p helper c depth base low (f x) b has fits (unary c.environment.roots b x fits.values named) };
  two = λ s p k helper f c depth x y low binary. record { runs = λ b has fits left right. answers s p helper c depth k (omega arith) (f x y) b has fits (binary c.environment.roots b x y fits.values left right) };
  swapped = λ s p k helper f c depth x y low binary. record { runs = λ b has fits left right. answers s p helper c depth k (omega arith) (f y x) b has fits (binary c.environment.roots b y x fits.values right left) };
}

-- a call with the value in R0
pub call_on_result : (s : RunContext) (p : ℕ) (helper : ℤ) (f : ValueOrError → ValueOrError) (c : Context) (depth base : ℕ) (x : ValueOrError)
    → base ≤ frame_words → UnaryHelper helper f → Converts s p (insn.mov_reg R1 R0 ∷ Call helper ∷ []) R0 c depth base x (f x) 2 1
call_on_result s p helper f c depth base x low unary = record {
  runs = λ b has fits named.
      let asks = set_register b R1 (b.registers R0) in
      let a = unary c.environment.roots asks x (fits_registers c depth base b asks.registers refl fits).values named in
      begins has
      (mov has 0 refl refl
      (ask has 1 refl a.answers (λ paid.
      done s (p + 2) _ _ (shows_placed (in_frame c depth base) helper (f x) 1 b asks.registers low refl fits a paid))));
}
