-- Two operands as ints.
use Rattle.expression_code.proofs.Prelude.{◌≡◌, ℕ, ◌+◌, ◌≤◌, Some, None, true, false, refl, subst, arith, ◌⊎◌, ℤ, pos, w64, cast_unsigned, kind_number, Names, Ne, R1, R6, R7, W64, charge_limit, outcome_view, ValueOrError, value, int, int_part, compares, CpuState, set_register, Tells, answered, int_operands, Context, IsWellFormedState, RunContext, RunsTo, IsCodeAt}
use Rattle.expression_code.proofs.Effects.{differs_no, differs_yes}
use Rattle.expression_code.proofs.HelperAnswers.{helpers}
use Rattle.expression_code.proofs.Listings.{begins, branch, calls, mov, no, yes}
use Rattle.expression_code.proofs.Frames.{Stays, begun, moved, said}
use Rattle.expression_code.proofs.Runs.{arrived}

-- a helper returns a word, and the values are unchanged
pub fits_told : (c : Context) (depth base : ℕ) (helper : ℤ) (w cost : ℕ) (b : CpuState) → Tells helper b w cost → b.values.charge + cost ≤ charge_limit
    → IsWellFormedState c depth base b → IsWellFormedState c depth base (answered b w b.values.values (b.values.charge + cost))
fits_told c depth base helper w cost b t paid fits = (said (begun fits) t paid).fits

-- ---- the kind of an int

pub int_is : (x : ValueOrError) (z : ℤ) → int_part x ≡ Some z → x ≡ value (int z)
int_is x z e = grind arith

pub kind_of_int : (x : ValueOrError) (z : ℤ) → int_part x ≡ Some z → compares W64 Ne (kind_number (outcome_view x)) 3 ≡ false
kind_of_int x z e = rw (int_is x z e) (differs_no 3 3 refl)

pub kind_of_other : (x : ValueOrError) → int_part x ≡ None → compares W64 Ne (kind_number (outcome_view x)) 3 ≡ true
kind_of_other x none = grind (arith, differs_yes)

-- ---- both operands are ints, or not

module _ (s : RunContext) (c : Context) (depth k o off : ℕ) (has : IsCodeAt s.image.code o (int_operands off)) (b : CpuState) (fits : IsWellFormedState c depth k b) (x y : ValueOrError) (left : Names b.values.values (b.registers R6) x) (right : Names b.values.values (b.registers R7) y) where
  -- R6 and R7 hold the words of the ints
  pub record AreInts (m n : ℤ) (last : CpuState) : Type 0 where
    pub first : last.registers R6 ≡ cast_unsigned w64 m
    pub second : last.registers R7 ≡ cast_unsigned w64 n
    pub stays : Stays c depth k b last

  -- R6 and R7 hold the operands
  pub record AreOthers (last : CpuState) : Type 0 where
    pub first : Names last.values.values (last.registers R6) x
    pub second : Names last.values.values (last.registers R7) y
    pub stays : Stays c depth k b last

  abbrev asks : CpuState
  asks = set_register b R1 (b.registers R6)

  stays1 : Stays c depth k b asks
  stays1 = moved (begun fits) asks.registers refl

  kind1 : Tells (pos 1) asks (kind_number (outcome_view x)) 1
  kind1 = helpers.kind c.environment.roots asks x stays1.fits.values left

  -- R0 holds the kind of the left operand
  abbrev asks2 : CpuState
  asks2 = set_register (answered asks (kind_number (outcome_view x)) b.values.values (b.values.charge + 1)) R1 (b.registers R7)

  stays2 : b.values.charge + 1 ≤ charge_limit → Stays c depth k b asks2
  stays2 paid = moved (said stays1 kind1 paid) asks2.registers refl

  kind2 : b.values.charge + 1 ≤ charge_limit → Tells (pos 1) asks2 (kind_number (outcome_view y)) 1
  kind2 paid = helpers.kind c.environment.roots asks2 y (stays2 paid).fits.values right

  pub are_others : (int_part x ≡ None) ⊎ (int_part y ≡ None) → RunsTo s 6 2 o b (o + (12 + off)) AreOthers
  are_others none =
      begins has
      (mov has 0 refl refl
      (calls has 1 refl kind1.answers (omega arith) (λ paid.
      branch has 2 (off + 9) refl
      (λ other. arrived s (omega arith) (record { first = left; second = right; stays = said stays1 kind1 paid }))
      (λ whole. mov has 3 refl refl
      (calls has 4 refl (kind2 paid).answers (omega arith) (λ paid2.
      yes has 5 (off + 6) refl (kind_of_other y (grind (arith, kind_of_other)))
      (arrived s (omega arith) (record { first = left; second = right; stays = said (stays2 paid) (kind2 paid) paid2 }))))))))

  pub are_ints : (m n : ℤ) → int_part x ≡ Some m → int_part y ≡ Some n → RunsTo s 12 4 o b (o + 12) (AreInts m n)
  are_ints m n is_x is_y =
      let left_int : Names b.values.values (b.registers R6) (value (int m)) = subst (Names b.values.values (b.registers R6)) (int_is x m is_x) left in
      let right_int : Names b.values.values (b.registers R7) (value (int n)) = subst (Names b.values.values (b.registers R7)) (int_is y n is_y) right in
      begins has
      (mov has 0 refl refl
      (calls has 1 refl kind1.answers (omega arith) (λ paid.
      no has 2 refl (kind_of_int x m is_x)
      (mov has 3 refl refl
      (calls has 4 refl (kind2 paid).answers (omega arith) (λ paid2.
      let asks3 = set_register (answered asks2 (kind_number (outcome_view y)) b.values.values (b.values.charge + 1 + 1)) R1 (b.registers R6) in
      let stays3 = moved (said (stays2 paid) (kind2 paid) paid2) asks3.registers refl in
      let of_left = helpers.int_of c.environment.roots asks3 m stays3.fits.values left_int in
      no has 5 refl (kind_of_int y n is_y)
      (mov has 6 refl refl
      (calls has 7 refl of_left.answers (omega arith) (λ paid3.
      let told3 = answered asks3 (cast_unsigned w64 m) b.values.values (b.values.charge + 1 + 1 + 1) in
      let asks4 = set_register (set_register told3 R6 (cast_unsigned w64 m)) R1 (b.registers R7) in
      let stays4 = moved (said stays3 of_left paid3) asks4.registers refl in
      let of_right = helpers.int_of c.environment.roots asks4 n stays4.fits.values right_int in
      mov has 8 refl refl
      (mov has 9 refl refl
      (calls has 10 refl of_right.answers (omega arith) (λ paid4.
      mov has 11 refl refl
      (arrived s refl (record { first = refl; second = refl; stays = moved (said stays4 of_right paid4) _ refl }))))))))))))))
