-- The code of negation gives its value.
-- For the laws in `specs/Gives/Arithmetic`.
use Rattle.expression_code.proofs.Prelude.{◌≡◌, ℕ, suc, ◌+◌, ◌≤◌, List, Some, None, false, refl, ap, ◌∙◌, subst, arith, ℤ, pos, neg_ℤ, slice_get, w64, cast_signed, kind_number, Names, Eq, Insn, Neg, Register, R1, R2, R6, Width, W64, outcome_view, ValueOrError, error, value, int, neg_row, is_frame_pointer, compares, negated, int_or_error, int_part, CpuState, at, set_register, Tells, answered, least_word, negation_tail, Context, IsWellFormedState, LeavesValue, RunContext, RunsTo, NegationGives, IsCodeAt, slots, frame_words}
use Rattle.loader.specs.Contents as loader
use Rattle.expression_code.proofs.Additions.{answers_error, answers_int, int_fits}
use Rattle.expression_code.proofs.Effects.{does}
use Rattle.expression_code.proofs.HelperAnswers.{helpers}
use Rattle.expression_code.proofs.Ints.{Negated, exact, fits_is, least, negated_is, over, word}
use Rattle.expression_code.proofs.Listings.{begins, branch, calls, load_wide, mov, no, yes}
use Rattle.expression_code.proofs.Operands.{int_is, kind_of_int, kind_of_other}
use Rattle.expression_code.proofs.Pieces.{shown_behind}
use Rattle.expression_code.proofs.Runs.{one}
use Rattle.expression_code.proofs.Frames.{Stays, begun, moved, said}

-- ---- the instruction

neg_does : (image : loader.Image) (p : ℕ) (b : CpuState) (width : Width) (dst : Register) → is_frame_pointer dst ≡ false
    → neg_row width dst (at image p b) ≡ at image (p + 1) (set_register b dst (negated width (b.registers dst)))
unfolding neg_row
neg_does image p b width dst free = grind arith

module _ {s : RunContext} {o : ℕ} {piece : List Insn} {n x p' : ℕ} {b : CpuState} {Q : CpuState → Type 0} (has : IsCodeAt s.image.code o piece) where
  neg : {width : Width} {dst : Register} (k : ℕ) → slice_get (slots piece) k ≡ Some (Some (Neg width dst)) → is_frame_pointer dst ≡ false
      → RunsTo s n x (o + (k + 1)) (set_register b dst (negated width (b.registers dst))) p' Q → RunsTo s (suc n) x (o + k) b p' Q
  neg {width} {dst} k h free c =
      let place : o + k + 1 ≡ o + (k + 1) = omega arith in
      one s (o + k) b (does s.image (o + k) b _ (has.here k _ h) ∙ neg_does s.image (o + k) b width dst free ∙ ap (λ (q : ℕ). at s.image q (set_register b dst (negated width (b.registers dst)))) place) refl refl refl c

-- ---- the piece

module _ (s : RunContext) (c : Context) (depth base o : ℕ) (low : base ≤ frame_words) (has : IsCodeAt s.image.code o negation_tail) (b : CpuState) (fitting : IsWellFormedState c depth base b) (x : ValueOrError) (named : Names b.values.values (b.registers R6) x) where
  abbrev asks : CpuState
  asks = set_register b R1 (b.registers R6)

  stays1 : Stays c depth base b asks
  stays1 = moved (begun fitting) asks.registers refl

  kind : Tells (pos 1) asks (kind_number (outcome_view x)) 1
  kind = helpers.kind c.environment.roots asks x stays1.fits.values named

  -- an operand that is not an int
  of_other : int_part x ≡ None → RunsTo s 11 3 o b (o + 13) (LeavesValue c depth base error b)
  unfolding negation_tail
  of_other none =
      begins has
      (mov has 0 refl refl
      (calls has 1 refl kind.answers (omega arith) (λ paid.
      let stays = said stays1 kind paid in
      yes has 2 9 refl (kind_of_other x none)
      (shown_behind s stays.keeps (answers_error s c depth base o low negation_tail has 10 refl refl refl _ _ error refl stays.fits refl)))))

  module _ (z : ℤ) (is : int_part x ≡ Some z) where
    check : Negated (word z) z
    check = negated_is z (fits_is z (int_fits c depth base (b.registers R6) x z b fitting named is))

    exact_is : compares W64 Eq (word z) least ≡ false → value (int (cast_signed w64 (negated W64 (word z)))) ≡ int_or_error (neg_ℤ z)
    exact_is h = grind (arith, check, exact)

    of_int : RunsTo s 11 3 o b (o + 13) (LeavesValue c depth base (int_or_error (neg_ℤ z)) b)
    unfolding negation_tail
    of_int =
        begins has
        (mov has 0 refl refl
        (calls has 1 refl kind.answers (omega arith) (λ paid.
        let asks2 = set_register (answered asks (kind_number (outcome_view x)) b.values.values (b.values.charge + 1)) R1 (b.registers R6) in
        let stays2 = moved (said stays1 kind paid) asks2.registers refl in
        let int_of = helpers.int_of c.environment.roots asks2 z stays2.fits.values (subst (Names b.values.values (b.registers R6)) (int_is x z is) named) in
        no has 2 refl (kind_of_int x z is)
        (mov has 3 refl refl
        (calls has 4 refl int_of.answers (omega arith) (λ paid2.
        let stays3 = said stays2 int_of paid2 in
        let told2 = answered asks2 (word z) b.values.values (b.values.charge + 1 + 1) in
        let loaded = set_register (set_register told2 R1 (word z)) R2 least_word in
        let last = set_register loaded R1 (negated W64 (word z)) in
        mov has 5 refl refl
        (load_wide has 6 refl refl
        (shown_behind s stays3.keeps
        (branch has 8 3 refl
        (λ lowest. answers_error s c depth base o low negation_tail has 10 refl refl refl told2 loaded.registers _ refl stays3.fits
        (over (neg_ℤ z) (check.over lowest)))
        (λ other. neg has 9 refl refl
        (answers_int s c depth base o low negation_tail has 10 refl refl refl told2 last.registers _ refl stays3.fits check.small (exact_is other))))))))))))

pub negation_gives : NegationGives
unfolding negation_tail
negation_gives s p c depth base x low = grind (arith, of_int, of_other)
