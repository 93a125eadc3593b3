-- Loading operands into registers.
-- For the laws in `specs/Operators`.
use Rattle.expression_code.proofs.Prelude.{◌≡◌, ℕ, suc, ◌+◌, ◌<◌, List, [], ◌∷◌, ◌++◌, Option, Some, None, Bool, false, refl, sym, ap, ◌∙◌, append_assoc, subst, arith, inr, nat_eq, if◌then◌else◌, slice_get, w64, cast_unsigned, eq-eqb, Names, register_number, Insn, Register, R0, ValueOrError, is_frame_pointer, Frame, CpuState, put_register, set_register, kept_code, kept_size, operand_code, operands_code, leaf_insn, Context, IsWellFormedState, Evaluates, Preserves, LeavesValue, variable_count, RunContext, RunsTo, RunsToWith, AreApart, IsLeafIn, IsLeafOf, IsCodeAt, size, slots, Framed, set_word, word_at, SimpleOperand, Reference, Word, word_limit}
use Rattle.expression_code.proofs.Sites.{StackFrame, Budget, in_frame}
use Rattle.expression_code.specs.Instructions as insn
use Rattle.expression_code.proofs.Frames.{fits_above, keeps_same, keeps_then, shows_after, stored}
use Rattle.expression_code.proofs.Listings.{begins, load, mov, store}
use Rattle.expression_code.proofs.Pieces.{runs_both, size-append, size-cons, stands_back, stands_front, stands_rest}
use Rattle.expression_code.proofs.Runs.{and_then, arrived, done, into, looser, to_place}
use Rattle.expression_code.proofs.Values.{small_reference}

-- ---- writing a register

written : (word : Register → ℕ) (r : Register) (w : ℕ) → put_register word r w r ≡ w
written word r w = ap (λ (t : Bool). if t then w else word r) (eq-eqb (register_number r) (register_number r) refl)

unwritten : (word : Register → ℕ) (r q : Register) (w : ℕ) → nat_eq (register_number r) (register_number q) ≡ false → put_register word q w r ≡ word r
unwritten word r q w apart = ap (λ (t : Bool). if t then w else word r) apart

-- ---- simple operands

pub leaf_size : (l : SimpleOperand) (r : Register) → size (leaf_insn l r ∷ []) ≡ 1
leaf_size l r = grind arith

module _ {s : RunContext} {o : ℕ} {piece : List Insn} {n m p' : ℕ} {b : CpuState} {records : List Frame} {Q : CpuState → Type 0} (has : IsCodeAt s.image.code o piece) where
  pub leaf_step : {depth : ℕ} (r : Register) (x : ValueOrError) (k : ℕ) (l : SimpleOperand) → slice_get (slots piece) k ≡ Some (Some (leaf_insn l r)) → Framed depth b
      → is_frame_pointer r ≡ false → IsLeafIn l depth b x
      → ((w : ℕ) → Names b.values.values w x → RunsToWith s n m (o + (k + 1)) (set_register b r w) records p' Q) → RunsToWith s (suc n) m (o + k) b records p' Q
  leaf_step r x k (Reference z) h frame free named next = mov has k h free (next (cast_unsigned w64 z) named)
  leaf_step {depth} r x k (Word i) h frame free named next = load has k i h frame named.0 free (next (word_at depth i b) named.1)

-- ---- one operand

-- the register holds the value, and the CPU state is well-formed again
pub record Loaded (c : Context) (depth base : ℕ) (r : Register) (x : ValueOrError) (old new : CpuState) : Type 0 where
  pub named : Names new.values.values (new.registers r) x
  pub fits : IsWellFormedState c depth base new
  pub keeps : Preserves (variable_count c) depth base old new

loaded : (frame : StackFrame) (r : Register) (x : ValueOrError) (old b : CpuState) (w : ℕ) → is_frame_pointer r ≡ false
    → Names b.values.values w x → IsWellFormedState frame.context frame.depth frame.base b → Preserves (variable_count frame.context) frame.depth frame.base old b → Loaded frame.context frame.depth frame.base r x old (set_register b r w)
loaded frame r x old b w free named fits keeps = grind (arith, written)

module _ (s : RunContext) (p : ℕ) (r : Register) (free : is_frame_pointer r ≡ false) (c : Context) (depth base : ℕ) (x : ValueOrError) (n m : ℕ) where
  pub operand_runs : (l : Option SimpleOperand) (operand : List Insn) → IsLeafOf c depth base l x → Evaluates s p operand c depth base x n m → (b : CpuState) → IsCodeAt s.image.code p (operand_code l operand r) → IsWellFormedState c depth base b → RunsTo s (n + 1) m p b (p + size (operand_code l operand r)) (Loaded c depth base r x b)
  operand_runs (Some l) operand leaf gives b has fits =
      looser s {n = suc 0} {x = 0} (n + 1) m (omega arith) (omega arith)
      (begins has
      (leaf_step has r x 0 l refl fits.frame free (leaf b fits) (λ w named.
      arrived s (omega (arith, leaf_size l r)) (loaded (in_frame c depth base) r x b b w free named fits (keeps_same (variable_count c) depth base b)))))
  operand_runs None operand leaf gives b has fits =
      looser s {n = n + suc 0} {x = m + 0} (n + 1) m (omega arith) (omega arith)
      (runs_both s p operand (insn.mov_reg r R0 ∷ []) (suc 0) 0 (Loaded c depth base r x b) has (λ front. gives.runs b front fits) (λ b1 back g1.
      begins back
      (mov back 0 refl free
      (done s (p + size operand + 1) _ _ (loaded (in_frame c depth base) r x b b1 (b1.registers R0) free g1.shows g1.fits g1.keeps)))))

-- ---- two operands

-- the value in R0 is kept in word k while the right side is evaluated
module _ (s : RunContext) (k : ℕ) (right : List Insn) (c : Context) (depth : ℕ) (x y : ValueOrError) (n m : ℕ) (low : k < word_limit) where
  -- word k and R0 hold both sides
  pub record Both (b last : CpuState) : Type 0 where
    pub left : Names last.values.values (word_at depth k last) x
    pub shown : LeavesValue c depth k y b last

  pub keeps_left : (q : ℕ) (b : CpuState) → IsCodeAt s.image.code q (insn.store k R0 ∷ right) → IsWellFormedState c depth k b → Names b.values.values (b.registers R0) x
      → Evaluates s (q + 1) right c depth (k + 1) y n m → RunsTo s (1 + n) m q b (q + 1 + size right) (Both b)
  keeps_left q b has fits named gives =
      let r = b.registers R0 in
      let stored1 = stored c depth k k r b fits (omega arith) (omega arith) (small_reference b.values r x fits.values.table named) in
      let b1 = set_word depth k r b in
      looser s {n = suc n} {x = m} (1 + n) m (omega arith) (omega arith)
      (begins has
      (store has 0 k refl fits.frame (omega arith)
      (into s (Both b) (λ b2 g2.
      let same : word_at depth k b2 ≡ r = g2.keeps.words depth k (omega arith) (inr (refl, omega arith)) ∙ stored1.here in
      record {
        left = subst (λ (w : ℕ). Names b2.values.values w x) (sym same) (g2.keeps.values r x named);
        shown = shows_after (omega arith) (omega arith) stored1.keeps g2 stored1.fits;
      })
      (gives.runs b1 (stands_rest s.image.code q (insn.store k R0) right has) (fits_above c depth k (k + 1) b1 (omega arith) stored1.fits)))))

-- the registers hold both values, and the CPU state is well-formed again
pub record LoadedBoth (c : Context) (depth k : ℕ) (r q : Register) (x y : ValueOrError) (old new : CpuState) : Type 0 where
  pub first : Names new.values.values (new.registers r) x
  pub second : Names new.values.values (new.registers q) y
  pub fits : IsWellFormedState c depth k new
  pub keeps : Preserves (variable_count c) depth k old new

-- a right operand in R0 is moved to its register, and the left one, now a simple operand, is loaded
module _ (s : RunContext) (c : Context) (depth k : ℕ) (r q : Register) (apart : AreApart r q) (x y : ValueOrError) where
  pub both_loaded : (p : ℕ) (l : SimpleOperand) (old b : CpuState) → IsCodeAt s.image.code p (insn.mov_reg q R0 ∷ leaf_insn l r ∷ []) → IsLeafIn l depth b x
      → LeavesValue c depth k y old b → RunsTo s 2 0 p b (p + 2) (LoadedBoth c depth k r q x y old)
  both_loaded p l old b has leaf shown =
      let w = b.registers R0 in
      let b1 = set_register b q w in
      let one = loaded (in_frame c depth k) q y old b w apart.second shown.shows shown.fits shown.keeps in
      begins has
      (mov has 0 refl apart.second
      (leaf_step has r x 1 l refl one.fits.frame apart.first (grind arith) (λ v named. arrived s refl (grind (arith, unwritten, written)))))

  -- the right one is a simple operand
  right_leaf : (p : ℕ) (t : Budget) (l : Option SimpleOperand) (left : List Insn) (m : SimpleOperand) → IsLeafOf c depth k l x → Evaluates s p left c depth k x t.steps t.charge
      → IsLeafOf c depth (k + 1) (Some m) y → (b : CpuState) → IsCodeAt s.image.code p (operand_code l left r ++ leaf_insn m q ∷ []) → IsWellFormedState c depth k b
      → RunsTo s (t.steps + 1 + 1) (t.charge + 0) p b (p + size (operand_code l left r ++ leaf_insn m q ∷ [])) (LoadedBoth c depth k r q x y b)
  right_leaf p t l left m leaf gives right b has fits =
      runs_both s p (operand_code l left r) (leaf_insn m q ∷ []) 1 0 (LoadedBoth c depth k r q x y b) has
      (λ front. operand_runs s p r apart.first c depth k x t.steps t.charge l left leaf gives b front fits) (λ b1 back g1.
      begins back
      (leaf_step back q y 0 m refl g1.fits.frame apart.second (right b1 (fits_above c depth k (k + 1) b1 (omega arith) g1.fits)) (λ w named.
      arrived s (omega (arith, leaf_size m q)) (grind (arith, unwritten, written)))))

  -- the left one is a simple operand and the right one is not
  left_leaf : (p : ℕ) (t : Budget) (l : SimpleOperand) (left right : List Insn) → k < word_limit → IsLeafOf c depth k (Some l) x → Evaluates s (p + 0) right c depth (k + 1) y t.steps t.charge → (b : CpuState) → IsCodeAt s.image.code p (right ++ insn.mov_reg q R0 ∷ leaf_insn l r ∷ []) → IsWellFormedState c depth k b → RunsTo s (t.steps + 2) (t.charge + 0) p b (p + size (right ++ insn.mov_reg q R0 ∷ leaf_insn l r ∷ [])) (LoadedBoth c depth k r q x y b)
  left_leaf p t l left right low leaf gives b has fits =
      let tail = insn.mov_reg q R0 ∷ leaf_insn l r ∷ [] in
      let here : p + 0 ≡ p = omega arith in
      let given : Evaluates s p right c depth (k + 1) y t.steps t.charge = subst (λ (i : ℕ). Evaluates s i right c depth (k + 1) y t.steps t.charge) here gives in
      runs_both s p right tail 2 0 (LoadedBoth c depth k r q x y b) has (λ front. given.runs b front (fits_above c depth k (k + 1) b (omega arith) fits)) (λ b1 back g1.
      let shown = shows_after {c = c} {depth = depth} {base = k} {k = k + 1} {x = y} {a = b} {b = b} {d = b1} (omega arith) (omega arith) (keeps_same (variable_count c) depth k b) g1 fits in
      to_place s _ (omega (arith, size-cons (insn.mov_reg q R0) (leaf_insn l r ∷ []), leaf_size l r)) (both_loaded (p + size right) l b b1 back (leaf b1 shown.fits) shown))

  -- the left one is kept in word k
  both_kept : (p : ℕ) (t u : Budget) (left right : List Insn) → k < word_limit → Evaluates s p left c depth k x t.steps t.charge → Evaluates s (p + (size left + 1)) right c depth (k + 1) y u.steps u.charge → (b : CpuState) → IsCodeAt s.image.code p (kept_code None left k ++ (right ++ insn.mov_reg q R0 ∷ leaf_insn (Word k) r ∷ [])) → IsWellFormedState c depth k b → RunsTo s (t.steps + (1 + (u.steps + 2))) (t.charge + (u.charge + 0)) p b (p + size (kept_code None left k ++ (right ++ insn.mov_reg q R0 ∷ leaf_insn (Word k) r ∷ []))) (LoadedBoth c depth k r q x y b)
  both_kept p t u left right low gives_left gives_right b has fits =
      let code = s.image.code in
      let put = insn.store k R0 in
      let tail = insn.mov_reg q R0 ∷ leaf_insn (Word k) r ∷ [] in
      let q1 = p + size left in
      let whole = append_assoc left (put ∷ []) (right ++ tail) in
      let has1 = subst (IsCodeAt code p) whole has in
      let h0 = stands_back code p left (put ∷ (right ++ tail)) has1 in
      let place1 : q1 + size (put ∷ right) ≡ q1 + 1 + size right = omega (arith, size-cons put right) in
      let h2 : IsCodeAt code (q1 + 1 + size right) tail = subst (λ (i : ℕ). IsCodeAt code i tail) place1 (stands_back code q1 (put ∷ right) tail h0) in
      let begins : p + (size left + 1) ≡ q1 + 1 = omega arith in
      let given : Evaluates s (q1 + 1) right c depth (k + 1) y u.steps u.charge = subst (λ (i : ℕ). Evaluates s i right c depth (k + 1) y u.steps u.charge) begins gives_right in
      let end = q1 + 1 + size right + 2 in
      let place : end ≡ p + size (kept_code None left k ++ (right ++ tail)) = omega (arith, ap size whole, size-append left (put ∷ (right ++ tail)), size-cons put (right ++ tail), size-append right tail) in
      let Q = LoadedBoth c depth k r q x y b in
      to_place s _ place
      (and_then s (1 + (u.steps + 2)) (u.charge + 0) end Q (gives_left.runs b (stands_front code p left (put ∷ (right ++ tail)) has1) fits) (λ b1 g1.
      looser s {n = 1 + u.steps + 2} {x = u.charge + 0} (1 + (u.steps + 2)) (u.charge + 0) (omega arith) (omega arith)
      (and_then s 2 0 end Q (keeps_left s k right c depth x y u.steps u.charge low q1 b1 (stands_front code q1 (put ∷ right) tail h0) g1.fits g1.shows given) (λ b2 g2.
      into s Q (λ b3 g3. record { first = g3.first; second = g3.second; fits = g3.fits; keeps = keeps_then (omega arith) g1.keeps g3.keeps })
      (both_loaded (q1 + 1 + size right) (Word k) b1 b2 h2 (omega arith, g2.left) g2.shown)))))

  pub operands_run : (p : ℕ) (t u : Budget) (l : Option SimpleOperand) (left : List Insn) (m : Option SimpleOperand) (right : List Insn) → k < word_limit → IsLeafOf c depth k l x → Evaluates s p left c depth k x t.steps t.charge → IsLeafOf c depth (k + 1) m y → Evaluates s (p + kept_size l left) right c depth (k + 1) y u.steps u.charge → (b : CpuState) → IsCodeAt s.image.code p (operands_code l left m right k r q) → IsWellFormedState c depth k b → RunsTo s (t.steps + (1 + (u.steps + 2))) (t.charge + u.charge) p b (p + size (operands_code l left m right k r q)) (LoadedBoth c depth k r q x y b)
  operands_run p t u l left (Some m) right low leaf gives_left leaf_right gives_right b has fits =
      looser s {n = t.steps + 1 + 1} {x = t.charge + 0} (t.steps + (1 + (u.steps + 2))) (t.charge + u.charge) (omega arith) (omega arith) (right_leaf p t l left m leaf gives_left leaf_right b has fits)
  operands_run p t u (Some l) left None right low leaf gives_left leaf_right gives_right b has fits =
      looser s {n = u.steps + 2} {x = u.charge + 0} (t.steps + (1 + (u.steps + 2))) (t.charge + u.charge) (omega arith) (omega arith) (left_leaf p u l left right low leaf gives_right b has fits)
  operands_run p t u None left None right low leaf gives_left leaf_right gives_right b has fits =
      looser s {n = t.steps + (1 + (u.steps + 2))} {x = t.charge + (u.charge + 0)} (t.steps + (1 + (u.steps + 2))) (t.charge + u.charge) (omega arith) (omega arith) (both_kept p t u left right low gives_left gives_right b has fits)
