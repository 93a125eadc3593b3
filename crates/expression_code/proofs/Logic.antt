-- Operators for which one truth decides, and the code of logical operators and of the conditional.
-- For the laws in `specs/Gives/Logic`.
use Rattle.expression_code.proofs.Prelude.{◌≡◌, ℕ, ◌+◌, List, Some, Bool, true, false, not, refl, sym, ap, ◌∙◌, subst, arith, suc, ◌<◌, ◌≤◌, [], ◌∷◌, ◌++◌, ℤ, pos, slice_get, w64, cast_unsigned, Names, Eq, Ne, Insn, R0, R1, W64, ValueOrError, error, is_error, truth, Truth, Yes, No, Other, and_of, chosen, conjunction, disjunction, not_of, of_truth, or_of, ternary_of, compares, CpuState, set_register, Context, IsWellFormedState, LeavesValue, Evaluates, RunContext, RunsTo, IsCodeAt, slots, size, word_at, absorbing_code, absorbing_tail, false_ref, ternary_code, true_ref, AbsorbingGives, LogicGives, frame_words}
use Rattle.expression_code.proofs.Frames.{shows_registers, keeps_then}
use Rattle.expression_code.proofs.Listings.{mov, no, yes, begins, jump, load}
use Rattle.expression_code.proofs.Values.{Told, names_error, told}
use Rattle.expression_code.proofs.Runs.{arrived, and_then, either, from_place, looser, to_place}
use Rattle.expression_code.proofs.HelperAnswers.{helpers}
use Rattle.expression_code.proofs.Loaded.{keeps_left}
use Rattle.expression_code.proofs.Operators.{calls_give}
use Rattle.expression_code.proofs.Pieces.{runs_both, shown_behind, size-append, size-cons, stands_back, stands_front, stands_rest}
use Rattle.expression_code.specs.Instructions as insn

-- ---- operators for which one truth decides: their results

-- a side of such an operator: the truth that decides, the other one, or neither
pub data Side : Type 0 where
  Decides : Side
  Leaves : Side
  Neither : Side

abbrev pub is_decides : Side → Bool
is_decides Decides = true
is_decides _ = false

abbrev pub is_leaves : Side → Bool
is_leaves Leaves = true
is_leaves _ = false

-- a side that is neither truth is the error
abbrev is_fine_by : Side → Bool → Bool
is_fine_by Neither e = e
is_fine_by _ e = true

-- what tests of a reference show about a side
pub record Tested (decides other : ℤ) (side : Side) (r : ℕ) : Type 0 where
  pub decided : compares W64 Eq r (cast_unsigned w64 decides) ≡ is_decides side
  pub leaves : compares W64 Eq r (cast_unsigned w64 other) ≡ is_leaves side
  pub not_leaves : compares W64 Ne r (cast_unsigned w64 other) ≡ not (is_leaves side)

-- an operator with its sides
pub record Absorbing (decides other : ℤ) (f : ValueOrError → ValueOrError → ValueOrError) : Type 0 where
  pub side : ValueOrError → Side
  pub of_error : side error ≡ Neither
  pub tested : (x : ValueOrError) (r : ℕ) → Told (truth x) (is_error x) r → Tested decides other (side x) r
  pub left_decides : (x y : ValueOrError) → side x ≡ Decides → f x y ≡ x
  pub right_decides : (x y : ValueOrError) → side y ≡ Decides → f x y ≡ y
  pub both_leave : (x y : ValueOrError) → side x ≡ Leaves → side y ≡ Leaves → f x y ≡ y
  pub one_leaves : (x y : ValueOrError) → side x ≡ Leaves → side y ≡ Leaves → x ≡ y
  pub left_neither : (x y : ValueOrError) → side x ≡ Neither → is_decides (side y) ≡ false → f x y ≡ error
  pub right_neither : (x y : ValueOrError) → is_decides (side x) ≡ false → side y ≡ Neither → f x y ≡ error

-- a result of the operator; one that is neither truth is the error
abbrev pub is_answer : {decides other : ℤ} {f : ValueOrError → ValueOrError → ValueOrError} → Absorbing decides other f → ValueOrError → Bool
is_answer op z = is_fine_by (op.side z) (is_error z)

pub told_in : (c : Context) (depth base r : ℕ) (x : ValueOrError) (b : CpuState) → IsWellFormedState c depth base b → Names b.values.values r x → Told (truth x) (is_error x) r
told_in c depth base r x b fits named = told b.values r x fits.values.table.store fits.values.canonical named

module _ (decides other : ℤ) (f : ValueOrError → ValueOrError → ValueOrError) (op : Absorbing decides other f) (x y : ValueOrError) where
  -- if the right side is the other truth, a result on the left is unchanged
  pub left_stays : is_answer op x ≡ true → is_decides (op.side x) ≡ false → op.side y ≡ Leaves → f x y ≡ x
  left_stays fine early is_right = grind arith

  -- a right side that decides is the result
  pub right_named : (values : List ValueOrError) (r : ℕ) → Names values r y → is_decides (op.side y) ≡ true → Names values r (f x y)
  right_named values r named is = subst (Names values r) (sym (op.right_decides x y (grind arith))) named

-- if no side decides, the instructions at slots 2 to 4 of a piece compute the result from the references of both
-- sides
module _ (decides other : ℤ) (f : ValueOrError → ValueOrError → ValueOrError) (op : Absorbing decides other f) (s : RunContext) (c : Context) (depth base k o : ℕ) (piece : List Insn) (has : IsCodeAt s.image.code o piece) (has_left : slice_get (slots piece) 2 ≡ Some (Some (insn.jump_if_imm Ne R1 other 1))) (has_right : slice_get (slots piece) 3 ≡ Some (Some (insn.jump_if_imm Eq R0 other 1))) (has_error : slice_get (slots piece) 4 ≡ Some (Some (insn.mov_imm R0 (pos 0)))) (b : CpuState) (fits : IsWellFormedState c depth base b) (x y : ValueOrError) (left : Tested decides other (op.side x) (word_at depth k b)) (right : Tested decides other (op.side y) (b.registers R0)) (named : Names b.values.values (b.registers R0) y) where
  abbrev Answered : Type 0
  Answered = RunsTo s 3 0 (o + 2) (set_register b R1 (word_at depth k b)) (o + 5) (LeavesValue c depth base (f x y) b)

  fails : {t u : ℕ} → f x y ≡ error → RunsTo s (suc t) u (o + 4) (set_register b R1 (word_at depth k b)) (o + 5) (LeavesValue c depth base (f x y) b)
  fails e =
      mov has 4 has_error refl
      (arrived s refl (shows_registers c depth base b _ refl (f x y) fits (rw e (names_error b.values fits.values.table.store))))

  answer_by : (t u : Side) → op.side x ≡ t → op.side y ≡ u → is_decides t ≡ false → is_decides u ≡ false → Answered
  -- R0 keeps the right side
  answer_by Leaves Leaves is_left is_right early h =
      no has 2 has_left (left.not_leaves ∙ ap (λ (side : Side). not (is_leaves side)) is_left)
      (yes has 3 1 has_right (right.leaves ∙ ap is_leaves is_right)
      (arrived s refl (shows_registers c depth base b _ refl (f x y) fits (rw (op.both_leave x y is_left is_right) named))))
  -- R0 becomes the error's reference
  answer_by Leaves Neither is_left is_right early h =
      no has 2 has_left (left.not_leaves ∙ ap (λ (side : Side). not (is_leaves side)) is_left)
      (no has 3 has_right (right.leaves ∙ ap is_leaves is_right)
      (fails (op.right_neither x y (ap is_decides is_left) is_right)))
  answer_by Neither u is_left is_right early h =
      yes has 2 1 has_left (left.not_leaves ∙ ap (λ (side : Side). not (is_leaves side)) is_left)
      (fails (op.left_neither x y is_left (ap is_decides is_right ∙ h)))
  answer_by _ _ is_left is_right early h = absurd (cc)

  pub answer_runs : is_decides (op.side x) ≡ false → is_decides (op.side y) ≡ false → Answered
  answer_runs early h = answer_by (op.side x) (op.side y) refl refl early h

-- ---- operators for which one truth decides

module _ (decides other : ℤ) (f : ValueOrError → ValueOrError → ValueOrError) (op : Absorbing decides other f) (s : RunContext) (c : Context) (depth base k o : ℕ) (has : IsCodeAt s.image.code o (absorbing_tail decides other k)) (below : k < frame_words) (b : CpuState) (fits : IsWellFormedState c depth base b) (x y : ValueOrError) where
  -- the tail of an operator whose left side does not decide
  absorbing_runs : Tested decides other (op.side x) (word_at depth k b) → Tested decides other (op.side y) (b.registers R0) → Names b.values.values (b.registers R0) y → is_decides (op.side x) ≡ false → RunsTo s 5 0 o b (o + 5) (LeavesValue c depth base (f x y) b)
  absorbing_runs left right named early =
      begins has
      (load has 0 k refl fits.frame below refl
      (either (is_decides (op.side y))
      (λ is. yes has 1 3 refl (right.decided ∙ is)
      (arrived s refl (shows_registers c depth base b _ refl (f x y) fits (right_named decides other f op x y b.values.values (b.registers R0) named is))))
      (λ is_not. no has 1 refl (right.decided ∙ is_not)
      (answer_runs decides other f op s c depth base k o (absorbing_tail decides other k) has refl refl refl b fits x y left right named early is_not))))

absorbing_gives : (decides other : ℤ) (f : ValueOrError → ValueOrError → ValueOrError) → Absorbing decides other f → AbsorbingGives (absorbing_code decides other) f
absorbing_gives decides other f op s p k left right c depth x y n1 x1 n2 x2 low gives_left gives_right = record {
  runs = λ b has fits.
      let code = s.image.code in
      let leave = insn.jump_if_imm Eq R0 decides (size right + 6) in
      let put = insn.store k R0 in
      let tail = absorbing_tail decides other k in
      let q = p + size left in
      let two : q + 2 ≡ q + 1 + 1 = omega arith in
      let right1 = subst (λ (i : ℕ). Evaluates s i right c depth (k + 1) y n2 x2) two gives_right in
      let Q = LeavesValue c depth k (f x y) b in
      runs_both s p left (leave ∷ put ∷ (right ++ tail)) (2 + (n2 + 5)) x2 Q has (λ front. gives_left.runs b front fits) (λ b1 h0 g1.
      let h1 = stands_rest code q leave (put ∷ (right ++ tail)) h0 in
      let h2 : IsCodeAt code (q + 1) (put ∷ right) = stands_front code (q + 1) (put ∷ right) tail h1 in
      let place2 : q + 1 + size (put ∷ right) ≡ q + 1 + 1 + size right = omega (arith, size-cons put right) in
      let h3 : IsCodeAt code (q + 1 + 1 + size right) tail = subst (λ (i : ℕ). IsCodeAt code i tail) place2 (stands_back code (q + 1) (put ∷ right) tail h1) in
      let seen1 = op.tested x (b1.registers R0) (told_in c depth k (b1.registers R0) x b1 g1.fits g1.shows) in
      to_place s _ (omega (arith, size-cons leave (put ∷ (right ++ tail)), size-cons put (right ++ tail), size-append right tail))
      (looser s {n = suc (1 + n2 + 5)} {x = x2 + 0} (2 + (n2 + 5)) x2 (omega arith) (omega arith)
      (begins h0
      (either (is_decides (op.side x))
      (λ is. yes h0 0 (size right + 6) refl (seen1.decided ∙ is)
      (arrived s (omega arith) (subst (λ (z : ValueOrError). LeavesValue c depth k z b b1) (sym (op.left_decides x y (grind arith))) g1)))
      (λ is_not. no h0 0 refl (seen1.decided ∙ is_not)
      (and_then s 5 0 (q + 1 + 1 + size right + 5) Q (keeps_left s k right c depth x y n2 x2 low (q + 1) b1 h2 g1.fits g1.shows right1) (λ b2 g2.
      shown_behind s (keeps_then (omega arith) g1.keeps g2.shown.keeps)
      (absorbing_runs decides other f op s c depth k k (q + 1 + 1 + size right) h3 (omega arith) b2 g2.shown.fits x y (op.tested x (word_at depth k b2) (told_in c depth k (word_at depth k b2) x b2 g2.shown.fits g2.left)) (op.tested y (b2.registers R0) (told_in c depth k (b2.registers R0) y b2 g2.shown.fits g2.shown.shows)) g2.shown.shows is_not))))))));
}

-- ---- `&&` and `||`

-- the effect of a side's truth on `||`, if the flag is true, or on `&&`
abbrev side_of : Bool → Truth → Side
side_of true Yes = Decides
side_of true No = Leaves
side_of false No = Decides
side_of false Yes = Leaves
side_of _ Other = Neither

abbrev joined_by : Bool → Truth → Truth → Truth
joined_by true t u = disjunction t u
joined_by false t u = conjunction t u

abbrev ref_of : Bool → ℤ
ref_of true = true_ref
ref_of false = false_ref

absorbs : (b : Bool) → Absorbing (ref_of b) (ref_of (not b)) (λ x y. of_truth (joined_by b (truth x) (truth y)))
absorbs b = record {
  side = λ x. side_of b (truth x);
  of_error = grind arith;
  tested = λ x r h. grind arith;
  left_decides = λ x y e. grind arith;
  right_decides = λ x y e. grind arith;
  both_leave = λ x y e f. grind arith;
  one_leaves = λ x y e f. grind arith;
  left_neither = λ x y e f. grind arith;
  right_neither = λ x y e f. grind arith;
}

unfoldable pub and_absorbs : Absorbing false_ref true_ref and_of
unfolding absorbs
and_absorbs = absorbs false

unfoldable pub or_absorbs : Absorbing true_ref false_ref or_of
unfolding absorbs
or_absorbs = absorbs true

-- ---- the conditional

module _ (s : RunContext) (p base : ℕ) (condition one other : List Insn) (c : Context) (depth : ℕ) (t x y : ValueOrError) (n1 x1 n2 x2 n3 x3 : ℕ) (low : base ≤ frame_words) (has : IsCodeAt s.image.code p (ternary_code condition one other)) where
  abbrev q : ℕ
  q = p + size condition

  abbrev last : List Insn
  last = insn.ja 1 ∷ insn.mov_imm R0 (pos 0) ∷ []

  abbrev over : Insn
  over = insn.ja (size other + 2)

  abbrev to_other : Insn
  to_other = insn.jump_if_imm Eq R0 false_ref (size one + 2)

  abbrev to_error : Insn
  to_error = insn.jump_if_imm Ne R0 true_ref (size one + size other + 2)

  abbrev sides : List Insn
  sides = one ++ over ∷ (other ++ last)

  abbrev end : ℕ
  end = q + 2 + size one + 1 + size other + 2

  has0 : IsCodeAt s.image.code q (to_other ∷ to_error ∷ sides)
  has0 = stands_back s.image.code p condition (to_other ∷ to_error ∷ sides) has

  has2 : IsCodeAt s.image.code (q + 2) sides
  has2 = stands_back s.image.code q (to_other ∷ to_error ∷ []) sides has0

  has3 : IsCodeAt s.image.code (q + 2 + size one) (over ∷ (other ++ last))
  has3 = stands_back s.image.code (q + 2) one (over ∷ (other ++ last)) has2

  has4 : IsCodeAt s.image.code (q + 2 + size one + 1) (other ++ last)
  has4 = stands_rest s.image.code (q + 2 + size one) over (other ++ last) has3

  has5 : IsCodeAt s.image.code (q + 2 + size one + 1 + size other) last
  has5 = stands_back s.image.code (q + 2 + size one + 1) other last has4

  end_is : end ≡ p + size (ternary_code condition one other)
  end_is = omega (arith, size-append condition (to_other ∷ to_error ∷ sides), size-cons to_other (to_error ∷ sides), size-cons to_error sides, size-append one (over ∷ (other ++ last)), size-cons over (other ++ last), size-append other last)

  -- the chosen branch, if the condition has this truth
  chosen_runs : (u : Truth) → truth t ≡ u → (u ≡ Yes → Evaluates s (q + 2) one c depth base x n2 x2) → (u ≡ No → Evaluates s (q + 2 + size one + 1) other c depth base y n3 x3) → (b : CpuState) → IsWellFormedState c depth base b → Told u (is_error t) (b.registers R0) → RunsTo s (2 + (chosen u n2 n3 0 + 1)) (chosen u x2 x3 0) q b end (LeavesValue c depth base (chosen u x y error) b)
  chosen_runs Yes is gives_one gives_other b fits told =
      looser s {n = suc (suc (n2 + 1))} {x = x2 + 0} (2 + (n2 + 1)) x2 (omega arith) (omega arith)
      (begins has0
      (no has0 0 refl told.no
      (no has0 1 refl told.not_yes
      (and_then s 1 0 end (LeavesValue c depth base x b) ((gives_one refl).runs b (stands_front s.image.code (q + 2) one _ has2) fits) (λ b1 g1.
      begins has3 (jump has3 0 (size other + 2) refl (arrived s (omega arith) g1)))))))
  chosen_runs No is gives_one gives_other b fits told =
      looser s {n = suc (n3 + 1)} {x = x3 + 0} (2 + (n3 + 1)) x3 (omega arith) (omega arith)
      (begins has0
      (yes has0 0 (size one + 2) refl told.no
      (from_place s _ (omega arith)
      (and_then s 1 0 end (LeavesValue c depth base y b) ((gives_other refl).runs b (stands_front s.image.code (q + 2 + size one + 1) other _ has4) fits) (λ b1 g1.
      begins has5 (jump has5 0 1 refl (arrived s (omega arith) g1)))))))
  chosen_runs Other is gives_one gives_other b fits told =
      begins has0
      (no has0 0 refl told.no
      (yes has0 1 (size one + size other + 2) refl told.not_yes
      (from_place s _ (omega arith)
      (mov has5 1 refl refl
      (arrived s (omega arith) (shows_registers c depth base b _ refl error fits (names_error b.values fits.values.table.store)))))))

  ternary_runs : Evaluates s p condition c depth base t n1 x1 → (truth t ≡ Yes → Evaluates s (q + 2) one c depth base x n2 x2)
      → (truth t ≡ No → Evaluates s (q + 2 + size one + 1) other c depth base y n3 x3) → (b : CpuState) → IsWellFormedState c depth base b
      → RunsTo s (n1 + (2 + (chosen (truth t) n2 n3 0 + 1))) (x1 + chosen (truth t) x2 x3 0) p b (p + size (ternary_code condition one other)) (LeavesValue c depth base (ternary_of t x y) b)
  ternary_runs gives_condition gives_one gives_other b fits =
      let Q = LeavesValue c depth base (ternary_of t x y) b in
      to_place s _ end_is
      (and_then s (2 + (chosen (truth t) n2 n3 0 + 1)) (chosen (truth t) x2 x3 0) end Q (gives_condition.runs b (stands_front s.image.code p condition _ has) fits) (λ b1 g1.
      shown_behind s g1.keeps
      (chosen_runs (truth t) refl gives_one gives_other b1 g1.fits (told_in c depth base (b1.registers R0) t b1 g1.fits g1.shows))))

pub logic_gives : LogicGives
logic_gives = record {
  and = absorbing_gives false_ref true_ref and_of and_absorbs;
  or = absorbing_gives true_ref false_ref or_of or_absorbs;
  not = λ s p c depth base x low. calls_give.one s p (pos 23) not_of c depth base x low helpers.not;
  ternary = grind (arith, ternary_runs);
}
