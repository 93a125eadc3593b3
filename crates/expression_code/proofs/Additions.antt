-- The code of sums, differences and concatenations gives their values.
-- For the laws in `specs/Gives/Arithmetic`.
use Rattle.expression_code.proofs.Prelude.{◌≡◌, ℕ, ◌+◌, ◌^◌, ◌<◌, ◌≤◌, List, Some, refl, sym, subst, arith, suc, [], ◌∷◌, ◌++◌, None, ℤ, pos, ◌+ℤ◌, ◌-ℤ◌, FitsSigned, slice_get, ◌⊎◌, w64, cast_signed, cast_unsigned, IsSigned, signed_of, Names, AluOp, Add, Sub, Comparison, Sge, Sgt, Sle, Slt, Insn, Call, Register, R0, R1, R6, R7, R10, R2, W64, ValueOrError, error, value, int, fits, int_or_error, difference_of, int_part, on_ints, sum_of, alu_result, CpuState, set_register, checked_tail, difference_tail, sum_tail, difference_code, int_operands, sum_code, Context, IsWellFormedState, LeavesValue, RunContext, RunsTo, IsCodeAt, size, slots, answered, IsResultBounded, joined, AdditionsGive, TailGives, join_of, joined_length, Combines, ints, frame_words}
use Rattle.expression_code.proofs.Sites.{Site, Budget, site_at, in_frame, budget, CombinesAt}
use Rattle.expression_code.proofs.Frames.{fits_registers, shows_registers}
use Rattle.expression_code.proofs.HelperAnswers.{helpers}
use Rattle.expression_code.proofs.Ints.{Checked, cast_fits, difference_checked, exact, fits_is, fits_not, over, signed_is, signed_word, sum_checked, word_small}
use Rattle.expression_code.proofs.Listings.{alu, begins, branch, calls, jump, mov, no, ask}
use Rattle.expression_code.proofs.Operators.{shows_placed}
use Rattle.expression_code.proofs.Values.{all_at, names_error}
use Rattle.expression_code.proofs.Runs.{arrived, and_then, from_place, looser, to_place}
use Rattle.expression_code.proofs.Operands.{are_ints, are_others, int_is}
use Rattle.expression_code.proofs.Pieces.{runs_both, shown_behind, size-append, stands_back, stands_front}
use Rattle.expression_code.specs.Instructions as insn

-- ---- the piece for two ints, whose words are in R6 and R7

pub record OnInts (s : RunContext) (p : ℕ) (tail : List Insn) (c : Context) (depth k : ℕ) (m n : ℤ) (z : ValueOrError) (steps charge : ℕ) : Type 0 where
  pub runs : (b : CpuState) → IsCodeAt s.image.code p tail → IsWellFormedState c depth k b → b.registers R6 ≡ cast_unsigned w64 m → b.registers R7 ≡ cast_unsigned w64 n
      → FitsSigned w64 m → FitsSigned w64 n → RunsTo s steps charge p b (p + size tail) (LeavesValue c depth k z b)

-- the result is the int whose word is in R1: three slots create it and jump past the error
module _ (s : RunContext) (c : Context) (depth k o : ℕ) (low : k ≤ frame_words) (piece : List Insn) (has : IsCodeAt s.image.code o piece) (i : ℕ) (call_at : slice_get (slots piece) i ≡ Some (Some (Call (pos 3)))) (jump_at : slice_get (slots piece) (i + 1) ≡ Some (Some (insn.ja 1))) (error_at : slice_get (slots piece) (i + 1 + 1) ≡ Some (Some (insn.mov_imm R0 (pos 0)))) where
  pub answers_int : {t u : ℕ} (b : CpuState) (registers : Register → ℕ) (z : ValueOrError) → registers R10 ≡ b.registers R10 → IsWellFormedState c depth k b
      → registers R1 < 2 ^ 64 → value (int (cast_signed w64 (registers R1))) ≡ z
      → RunsTo s (suc (suc t)) (suc u) (o + i) (record b { registers = registers }) (o + (i + 3)) (LeavesValue c depth k z b)
  answers_int b registers z pointer fits small is =
      let asks = record b { registers = registers } in
      let a = helpers.int_new c.environment.roots asks (fits_registers c depth k b registers pointer fits).values small in
      let last = answered asks a.word a.list (b.values.charge + 1) in
      calls has i call_at a.answers (omega arith) (λ paid.
      jump has (i + 1) 1 jump_at
      (arrived s (omega arith) (subst (λ (x : ValueOrError). LeavesValue c depth k x b last) is
      (shows_placed (in_frame c depth k) (pos 3) _ 1 b registers low pointer fits a paid))))

  pub answers_error : {t u : ℕ} (b : CpuState) (registers : Register → ℕ) (z : ValueOrError) → registers R10 ≡ b.registers R10 → IsWellFormedState c depth k b → error ≡ z
      → RunsTo s (suc t) u (o + (i + 1 + 1)) (record b { registers = registers }) (o + (i + 3)) (LeavesValue c depth k z b)
  answers_error b registers z pointer fits is =
      mov has (i + 1 + 1) error_at refl
      (arrived s (omega arith) (shows_registers c depth k b _ pointer z fits
      (subst (Names b.values.values 0) is (names_error b.values fits.values.table.store))))

-- ---- sums and differences

module _ (op : AluOp) (below above : Comparison) (f : ℤ → ℤ → ℤ) (checked : (a b : ℕ) → a < 2 ^ 64 → b < 2 ^ 64 → Checked below above a b (alu_result W64 op a b) (f (signed_of 64 a) (signed_of 64 b))) (s : RunContext) (c : Context) (depth k o : ℕ) (low : k ≤ frame_words) (m n : ℤ) (has : IsCodeAt s.image.code o (checked_tail op below above)) (b : CpuState) (fitting : IsWellFormedState c depth k b) (first : b.registers R6 ≡ cast_unsigned w64 m) (second : b.registers R7 ≡ cast_unsigned w64 n) (fits_m : FitsSigned w64 m) (fits_n : FitsSigned w64 n) where
  abbrev left : ℕ
  left = b.registers R6

  abbrev right : ℕ
  right = b.registers R7

  abbrev w : ℕ
  w = alu_result W64 op left right

  check : Checked below above left right w (f (signed_of 64 left) (signed_of 64 right))
  check = checked left right (subst (λ (q : ℕ). q < 2 ^ 64) (sym first) (word_small m fits_m)) (subst (λ (q : ℕ). q < 2 ^ 64) (sym second) (word_small n fits_n))

  numbers_are : f (signed_of 64 left) (signed_of 64 right) ≡ f m n
  numbers_are = grind (arith, signed_word)

  result_fits : signed_of 64 w ≡ f (signed_of 64 left) (signed_of 64 right) → value (int (cast_signed w64 w)) ≡ int_or_error (f m n)
  result_fits e = grind (arith, signed_is, check, numbers_are, exact, fits_is, cast_fits)

  result_over : (IsSigned (f (signed_of 64 left) (signed_of 64 right)) → ⊥) → error ≡ int_or_error (f m n)
  result_over no = over (f m n) (fits_not (f m n) (λ h. no (subst IsSigned (sym numbers_are) (grind (arith, ints)))))

  abbrev registers : Register → ℕ
  registers = (set_register (set_register b R1 left) R1 w).registers

  abbrev Q : CpuState → Type 0
  Q = LeavesValue c depth k (int_or_error (f m n)) b

  answers : {t u : ℕ} → value (int (cast_signed w64 w)) ≡ int_or_error (f m n)
      → RunsTo s (suc (suc t)) (suc u) (o + 6) (record b { registers = registers }) (o + 9) Q
  answers e = answers_int s c depth k o low (checked_tail op below above) has 6 refl refl refl b registers (int_or_error (f m n)) refl fitting check.small e

  fails : {t u : ℕ} → error ≡ int_or_error (f m n) → RunsTo s (suc t) u (o + 8) (record b { registers = registers }) (o + 9) Q
  fails e = answers_error s c depth k o low (checked_tail op below above) has 6 refl refl refl b registers (int_or_error (f m n)) refl fitting e

  pub checked_runs : RunsTo s 7 1 o b (o + 9) Q
  checked_runs =
      begins has
      (mov has 0 refl refl
      (alu has 1 w refl refl refl
      (branch has 2 2 refl
      (λ negative. branch has 5 2 refl (λ is. fails (result_over (check.falls_over negative is))) (λ is. answers (result_fits (check.falls negative is))))
      (λ positive. branch has 3 4 refl
      (λ is. fails (result_over (check.rises_over positive is)))
      (λ is. jump has 4 1 refl (answers (result_fits (check.rises positive is))))))))

pub sum_runs : (s : RunContext) (p : ℕ) (c : Context) (depth k : ℕ) (m n : ℤ) → k ≤ frame_words → OnInts s p sum_tail c depth k m n (int_or_error (m +ℤ n)) 7 1
sum_runs s p c depth k m n low = record {
  runs = λ b has fits first second fm fn. checked_runs Add Sge Slt (λ a z. a +ℤ z) sum_checked s c depth k p low m n has b fits first second fm fn;
}

pub difference_runs : (s : RunContext) (p : ℕ) (c : Context) (depth k : ℕ) (m n : ℤ) → k ≤ frame_words → OnInts s p difference_tail c depth k m n (int_or_error (m -ℤ n)) 7 1
difference_runs s p c depth k m n low = record {
  runs = λ b has fits first second fm fn. checked_runs Sub Sle Sgt (λ a z. a -ℤ z) difference_checked s c depth k p low m n has b fits first second fm fn;
}

-- ---- after operands

-- an int in a table fits
pub int_fits : (c : Context) (depth base r : ℕ) (x : ValueOrError) (z : ℤ) (b : CpuState) → IsWellFormedState c depth base b → Names b.values.values r x → int_part x ≡ Some z → FitsSigned w64 z
int_fits c depth base r x z b fits named is = subst (IsResultBounded b.values.charge) (int_is x z is) (all_at b.values.charge b.values.values r x fits.values.table.bounded named)

-- ---- operands that must be ints, and a piece that ends with the error for others

module _ (f : ℤ → ℤ → ValueOrError) (s : RunContext) (p k off : ℕ) (tail : List Insn) (c : Context) (depth steps charge : ℕ) (x y : ValueOrError) (long : size tail ≡ off + 1) (error_at : slice_get (slots tail) off ≡ Some (Some (insn.mov_imm R0 (pos 0)))) (gives : (m n : ℤ) → OnInts s (p + 12) tail c depth k m n (f m n) steps charge) (has : IsCodeAt s.image.code p (int_operands off ++ tail)) (b : CpuState) (fits : IsWellFormedState c depth k b) (left : Names b.values.values (b.registers R6) x) (right : Names b.values.values (b.registers R7) y) where
  abbrev whole : ℕ
  whole = p + size (int_operands off ++ tail)

  has_operands : IsCodeAt s.image.code p (int_operands off)
  has_operands = stands_front s.image.code p (int_operands off) tail has

  has_tail : IsCodeAt s.image.code (p + 12) tail
  has_tail = stands_back s.image.code p (int_operands off) tail has

  of_others : (int_part x ≡ None) ⊎ (int_part y ≡ None) → RunsTo s (12 + steps) (4 + charge) p b whole (LeavesValue c depth k error b)
  of_others none =
      to_place s whole (omega (arith, size-append (int_operands off) tail))
      (looser s {n = 6 + 1} {x = 2 + 0} (12 + steps) (4 + charge) (omega arith) (omega arith)
      (and_then s 1 0 (p + 12 + size tail) (LeavesValue c depth k error b) (are_others s c depth k p off has_operands b fits x y left right none) (λ b1 g.
      shown_behind s g.stays.keeps
      (from_place s (p + (12 + off)) (omega arith)
      (mov has_tail off error_at refl
      (arrived s (omega arith) (shows_registers c depth k b1 _ refl error g.stays.fits (names_error b1.values g.stays.fits.values.table.store))))))))

  of_ints : (m n : ℤ) → int_part x ≡ Some m → int_part y ≡ Some n → RunsTo s (12 + steps) (4 + charge) p b whole (LeavesValue c depth k (f m n) b)
  of_ints m n is_x is_y =
      runs_both s p (int_operands off) tail steps charge (LeavesValue c depth k (f m n) b) has (λ front. are_ints s c depth k p off has_operands b fits x y left right m n is_x is_y) (λ b1 back g.
      shown_behind s g.stays.keeps ((gives m n).runs b1 back g.stays.fits g.first g.second (int_fits c depth k (b.registers R6) x m b fits left is_x) (int_fits c depth k (b.registers R7) y n b fits right is_y)))

  pub ints_run : RunsTo s (12 + steps) (4 + charge) p b whole (LeavesValue c depth k (on_ints f (int_part x) (int_part y)) b)
  ints_run = grind (arith, of_ints, of_others)

-- a piece for two ints gives a piece for any operands
pub ints_give : (f : ℤ → ℤ → ValueOrError) (site : Site) (off : ℕ) (tail : List Insn) (t : Budget) (x y : ValueOrError) → size tail ≡ off + 1 → slice_get (slots tail) off ≡ Some (Some (insn.mov_imm R0 (pos 0))) → ((m n : ℤ) → OnInts site.setting (site.slot + 12) tail site.frame.context site.frame.depth site.frame.base m n (f m n) t.steps t.charge) → CombinesAt site (int_operands off ++ tail) R6 R7 x y (on_ints f (int_part x) (int_part y)) (budget (12 + t.steps) (4 + t.charge))
ints_give f site off tail t x y long error_at gives = record { runs = λ b has fits left right. ints_run f site.setting site.slot site.frame.base off tail site.frame.context site.frame.depth t.steps t.charge x y long error_at gives has b fits left right }

pub difference_gives : TailGives difference_code R6 R7 difference_of 19 5
difference_gives s p k c depth x y low =
    ints_give (λ m n. int_or_error (m -ℤ n)) (site_at s p (in_frame c depth k)) 8 difference_tail (budget 7 1) x y refl refl (λ m n. difference_runs s (p + 12) c depth k m n (omega arith))

-- ---- `+`

-- everything but two ints is concatenated
sum_is : (x y : ValueOrError) → (int_part x ≡ None) ⊎ (int_part y ≡ None) → sum_of x y ≡ join_of x y
sum_is x y none = grind arith

module _ (s : RunContext) (p k : ℕ) (c : Context) (depth : ℕ) (x y : ValueOrError) (low : k < frame_words) (has : IsCodeAt s.image.code p sum_code) (b : CpuState) (fits : IsWellFormedState c depth k b) (left : Names b.values.values (b.registers R6) x) (right : Names b.values.values (b.registers R7) y) where
  abbrev rest : List Insn
  rest = sum_tail ++ insn.ja 3 ∷ insn.mov_reg R1 R6 ∷ insn.mov_reg R2 R7 ∷ Call (pos 11) ∷ []

  abbrev cost : ℕ
  cost = 5 + joined_length (joined (Some x) (Some y))

  has_both : IsCodeAt s.image.code p (int_operands 10)
  has_both = stands_front s.image.code p (int_operands 10) rest has

  has_rest : IsCodeAt s.image.code (p + 12) rest
  has_rest = stands_back s.image.code p (int_operands 10) rest has

  of_joined : (int_part x ≡ None) ⊎ (int_part y ≡ None) → RunsTo s 20 cost p b (p + 25) (LeavesValue c depth k (sum_of x y) b)
  of_joined none =
      looser s {n = 6 + 3} {x = 2 + (1 + joined_length (joined (Some x) (Some y)) + 0)} 20 cost (omega arith) (omega arith)
      (and_then s 3 (1 + joined_length (joined (Some x) (Some y)) + 0) (p + 25) (LeavesValue c depth k (sum_of x y) b) (are_others s c depth k p 10 has_both b fits x y left right none) (λ b1 g1.
      let asks = set_register (set_register b1 R1 (b1.registers R6)) R2 (b1.registers R7) in
      let a = helpers.join c.environment.roots asks x y g1.stays.fits.values g1.first g1.second in
      shown_behind s g1.stays.keeps
      (from_place s (p + (12 + 10)) (omega arith)
      (mov has_rest 10 refl refl
      (mov has_rest 11 refl refl
      (ask has_rest 12 refl a.answers (λ paid.
      arrived s (omega arith) (rw (sum_is x y none) (shows_placed (in_frame c depth k) (pos 11) (join_of x y) _ b1 asks.registers
      (omega arith) refl g1.stays.fits a paid)))))))))

  of_summed : (m n : ℤ) → int_part x ≡ Some m → int_part y ≡ Some n → RunsTo s 20 cost p b (p + 25) (LeavesValue c depth k (int_or_error (m +ℤ n)) b)
  of_summed m n is_x is_y =
      let Q = LeavesValue c depth k (int_or_error (m +ℤ n)) in
      looser s {n = 12 + (7 + 1)} {x = 4 + (1 + 0)} 20 cost (omega arith) (omega arith)
      (and_then s (7 + 1) (1 + 0) (p + 25) (Q b) (are_ints s c depth k p 10 has_both b fits x y left right m n is_x is_y) (λ b1 g1.
      shown_behind s g1.stays.keeps (and_then s 1 0 (p + 25) (Q b1) ((sum_runs s (p + 12) c depth k m n (omega arith)).runs b1 (stands_front s.image.code (p + 12) sum_tail _ has_rest) g1.stays.fits g1.first g1.second (int_fits c depth k (b.registers R6) x m b fits left is_x) (int_fits c depth k (b.registers R7) y n b fits right is_y)) (λ b2 g2.
      jump has_rest 9 3 refl (arrived s (omega arith) g2)))))

pub sum_gives : (s : RunContext) (p k : ℕ) (c : Context) (depth : ℕ) (x y : ValueOrError) → k < frame_words
    → Combines s p sum_code R6 R7 c depth k x y (sum_of x y) 20 (5 + joined_length (joined (Some x) (Some y)))
sum_gives s p k c depth x y low = record { runs = λ b has fits left right. (grind (arith, int_is, of_summed, of_joined)) }

pub additions_give : AdditionsGive
additions_give = record { sum = sum_gives; difference = difference_gives }
