-- The code of products, quotients and remainders gives their values.
-- For the laws in `specs/Gives/Arithmetic`.
use Rattle.expression_code.proofs.Prelude.{◌≡◌, ℕ, ◌+◌, ◌≤◌, true, false, not, inl, inr, refl, sym, ap, ◌∙◌, arith, suc, ℤ, ◌*ℤ◌, w64, cast_unsigned, AluOp, Sdiv, Smod, Eq, Ne, Register, R1, R2, R6, R7, R10, W64, ValueOrError, error, fits, int_or_error, product_of, quotient, quotient_of, remainder, remainder_of, alu_result, compares, CpuState, set_register, divided_code, divided_tail, least_word, product_code, product_tail, Context, IsWellFormedState, LeavesValue, RunContext, RunsTo, ProductsGive, TailGives, IsCodeAt, frame_words}
use Rattle.expression_code.proofs.Sites.{site_at, in_frame, budget}
use Rattle.expression_code.proofs.Additions.{OnInts, answers_error, answers_int, ints_give}
use Rattle.expression_code.proofs.Ints.{fits_is, over}
use Rattle.expression_code.proofs.Listings.{alu, begins, branch, load_wide, mov, no, yes}
use Rattle.expression_code.proofs.Products.{Computes, Divided, IsFar, Multiplied, multiplied, quotient_divided, remainder_divided}
use Rattle.expression_code.proofs.Runs.{either, looser}

-- ---- products

module _ (s : RunContext) (c : Context) (depth k o : ℕ) (low : k ≤ frame_words) (m n : ℤ) (has : IsCodeAt s.image.code o product_tail) (b : CpuState) (fitting : IsWellFormedState c depth k b) (check : Multiplied (b.registers R6) (b.registers R7) (m *ℤ n)) where
  abbrev left : ℕ
  left = b.registers R6

  abbrev right : ℕ
  right = b.registers R7

  abbrev Q : CpuState → Type 0
  Q = LeavesValue c depth k (int_or_error (m *ℤ n)) b

  module _ (registers : Register → ℕ) (pointer : registers R10 ≡ b.registers R10) (r1 : registers R1 ≡ check.result) where
    -- R1 holds the product, which fits
    answers : {t u : ℕ} → fits (m *ℤ n) ≡ true → RunsTo s (suc (suc t)) (suc u) (o + 10) (record b { registers = registers }) (o + 13) Q
    unfolding product_tail
    answers h = grind (arith, answers_int)

    fails : {t u : ℕ} → fits (m *ℤ n) ≡ false → RunsTo s (suc t) u (o + 12) (record b { registers = registers }) (o + 13) Q
    unfolding product_tail
    fails h = answers_error s c depth k o low product_tail has 10 refl refl refl b registers (int_or_error (m *ℤ n)) pointer fitting (over (m *ℤ n) h)

  -- the product is divided back
  divides : (registers : Register → ℕ) → registers R10 ≡ b.registers R10 → registers R1 ≡ check.result → registers R6 ≡ left → registers R7 ≡ right
      → compares W64 Eq right 0 ≡ false → IsFar left right → RunsTo s 5 1 (o + 7) (record b { registers = registers }) (o + 13) Q
  unfolding product_tail
  divides registers pointer r1 r6 r7 some far =
      let here = record b { registers = registers } in
      let q = alu_result W64 Sdiv (registers R1) (registers R7) in
      let tells : compares W64 Ne q (registers R6) ≡ not (fits (m *ℤ n)) = rw (r1, r6, r7) (check.back some far) in
      let last = set_register (set_register here R2 (registers R1)) R2 q in
      mov has 7 refl refl
      (alu has 8 q refl refl refl
      (either (fits (m *ℤ n))
      (λ h. no has 9 refl (tells ∙ ap not h) (answers last.registers pointer r1 h))
      (λ h. yes has 9 2 refl (tells ∙ ap not h) (fails last.registers pointer r1 h))))

  pub product_goes : RunsTo s 11 1 o b (o + 13) Q
  unfolding product_tail
  product_goes =
      let times = set_register (set_register b R1 left) R1 check.result in
      let loaded = set_register times R2 least_word in
      begins has
      (mov has 0 refl refl
      (alu has 1 check.result refl refl check.computed
      (branch has 2 7 refl
      (λ zero. answers times.registers refl refl (check.of_zero zero))
      (λ some. branch has 3 3 refl
      (λ far. looser s _ _ (omega arith) (omega arith) (divides times.registers refl refl refl refl some (inl far)))
      (λ near. load_wide has 4 refl refl
      (branch has 6 5 refl
      (λ lowest. fails loaded.registers refl refl (check.over near lowest))
      (λ far. divides loaded.registers refl refl refl refl some (inr far))))))))

pub product_runs : (s : RunContext) (p : ℕ) (c : Context) (depth k : ℕ) (m n : ℤ) → k ≤ frame_words → OnInts s p product_tail c depth k m n (int_or_error (m *ℤ n)) 11 1
unfolding product_tail
product_runs s p c depth k m n low = grind (arith, product_goes, multiplied, fits_is)

-- ---- quotients and remainders

module _ (op : AluOp) (s : RunContext) (c : Context) (depth k o : ℕ) (low : k ≤ frame_words) (v : ValueOrError) (has : IsCodeAt s.image.code o (divided_tail op)) (b : CpuState) (fitting : IsWellFormedState c depth k b) (check : Divided op (b.registers R6) (b.registers R7) v) where
  -- the division, whose result is the value
  computes : {t u : ℕ} (registers : Register → ℕ) → registers R10 ≡ b.registers R10 → registers R6 ≡ b.registers R6 → registers R7 ≡ b.registers R7
      → Computes op (b.registers R6) (b.registers R7) v
      → RunsTo s (suc (suc (suc (suc t)))) (suc u) (o + 5) (record b { registers = registers }) (o + 10) (LeavesValue c depth k v b)
  computes registers pointer r6 r7 result =
      let last = set_register (set_register (record b { registers = registers }) R1 (registers R6)) R1 result.result in
      mov has 5 refl refl
      (alu has 6 result.result refl refl (rw (r6, r7) result.computed)
      (answers_int s c depth k o low (divided_tail op) has 7 refl refl refl b last.registers v pointer fitting result.small result.exact))

  errs : {t u : ℕ} (registers : Register → ℕ) → registers R10 ≡ b.registers R10 → v ≡ error
      → RunsTo s (suc t) u (o + 9) (record b { registers = registers }) (o + 10) (LeavesValue c depth k v b)
  errs registers pointer e = answers_error s c depth k o low (divided_tail op) has 7 refl refl refl b registers v pointer fitting (sym e)

  pub divided_goes : RunsTo s 8 1 o b (o + 10) (LeavesValue c depth k v b)
  divided_goes =
      let loaded = set_register b R2 least_word in
      begins has
      (branch has 0 8 refl
      (λ zero. errs b.registers refl (check.of_zero zero))
      (λ some. branch has 1 3 refl
      (λ far. computes b.registers refl refl refl (check.computes some (inl far)))
      (λ near. load_wide has 2 refl refl
      (branch has 4 4 refl
      (λ lowest. errs loaded.registers refl (check.over near lowest))
      (λ far. computes loaded.registers refl refl refl (check.computes some (inr far)))))))

divided_runs : (op : AluOp) (f : ℤ → ℤ → ValueOrError) → ((m n : ℤ) → fits m ≡ true → fits n ≡ true → Divided op (cast_unsigned w64 m) (cast_unsigned w64 n) (f m n)) → (s : RunContext) (p : ℕ) (c : Context) (depth k : ℕ) (m n : ℤ) → k ≤ frame_words → OnInts s p (divided_tail op) c depth k m n (f m n) 8 1
divided_runs op f check s p c depth k m n low = grind (arith, divided_goes, fits_is)

-- ---- after any operands

product_gives : TailGives product_code R6 R7 product_of 23 5
unfolding product_tail
product_gives s p k c depth x y low =
    ints_give (λ m n. int_or_error (m *ℤ n)) (site_at s p (in_frame c depth k)) 12 product_tail (budget 11 1) x y refl refl (λ m n. product_runs s (p + 12) c depth k m n (omega arith))

quotient_gives : TailGives (divided_code Sdiv) R6 R7 quotient_of 20 5
quotient_gives s p k c depth x y low =
    ints_give quotient (site_at s p (in_frame c depth k)) 9 (divided_tail Sdiv) (budget 8 1) x y refl refl
    (λ m n. divided_runs Sdiv quotient quotient_divided s (p + 12) c depth k m n (omega arith))

remainder_gives : TailGives (divided_code Smod) R6 R7 remainder_of 20 5
remainder_gives s p k c depth x y low =
    ints_give remainder (site_at s p (in_frame c depth k)) 9 (divided_tail Smod) (budget 8 1) x y refl refl
    (λ m n. divided_runs Smod remainder remainder_divided s (p + 12) c depth k m n (omega arith))

pub products_give : ProductsGive
products_give = record { product = product_gives; quotient = quotient_gives; remainder = remainder_gives }
