-- Composing runs.
use Rattle.expression_code.proofs.Prelude.{◌≡◌, ℕ, suc, ◌+◌, ◌≤◌, List, [], ◌++◌, append-nil, Bool, refl, sym, ap, ◌∙◌, subst, arith, false, true, ◌<◌, leb-false, leb-true, nat_le, F8, Image, State, next_state, state_after, state_after-zero, state_after-more, state_after-next, state_after-add, Frame, Fault, CpuState, at, RunContext, RunEnds, Faulted, Arrived, RunsTo, IsSpent, RunsToWith, charge_to, steps_to, FirstUse, StayFilled, first_uses, with_variables}
use Rattle.expression_code.proofs.FirstUses.{uses-join, uses-more}

pub either : {Q : Type 0} (b : Bool) → (b ≡ true → Q) → (b ≡ false → Q) → Q
either b f g = grind arith

-- d is at most n, or above it
pub by_limit : {Q : Type 0} (d n : ℕ) → (d ≤ n → Q) → (n < d → Q) → Q
by_limit d n within above = either (nat_le d n) (λ e. within (leb-true d n e)) (λ e. above (leb-false d n e))

pub state_after-first : (k : ℕ) (t : State) → state_after (k + 1) t ≡ state_after k (next_state t)
state_after-first k t = state_after-more k t ∙ sym (state_after-next k t)

-- a reason to stop at a charge is a reason at a greater charge
pub over : (s : RunContext) (x y : ℕ) → x ≤ y → IsSpent s x → IsSpent s y
over s x y le h = grind arith

-- if the scratch region is unchanged, no memo was emptied
unmoved : {old new : List ℕ} → new ≡ old → StayFilled old new
unmoved {old} {new} e = subst (λ (bytes : List ℕ). StayFilled old bytes) (sym e) (λ i h. h)

module _ (s : RunContext) where
  -- the first uses in two parts of a run are first uses in the whole
  joined_steps : (b b1 : CpuState) (scratch : List ℕ) (calls : List Frame) → StayFilled b.memory.scratch b1.memory.scratch
      → StayFilled b1.memory.scratch scratch → steps_to s 0 b b1.memory.scratch [] + steps_to s 0 b1 scratch calls ≤ steps_to s 0 b scratch calls
  joined_steps b b1 scratch calls first second = grind (arith, uses-join)

  joined_charge : (b b1 : CpuState) (scratch : List ℕ) (calls : List Frame) → StayFilled b.memory.scratch b1.memory.scratch → StayFilled b1.memory.scratch scratch → first_uses s.image s.variables (λ v. v.charge) b.memory.scratch b1.memory.scratch [] + first_uses s.image s.variables (λ v. v.charge) b1.memory.scratch scratch calls ≤ first_uses s.image s.variables (λ v. v.charge) b.memory.scratch scratch calls
  joined_charge b b1 scratch calls first second = uses-join s.image s.variables (λ v. v.charge) b.memory.scratch b1.memory.scratch scratch calls first second

  -- nothing is left to do
  pub done : (p : ℕ) (b : CpuState) (Q : CpuState → Type 0) → Q b → RunsTo s 0 0 p b p Q
  done p b Q q = record { steps = 0; ends = Arrived b (state_after-zero (at s.image p b)) refl (λ i h. h) (omega arith) (omega arith) q }

  -- the end of a run: these records, slot p' and the fact Q
  module _ {r : List Frame} {p' : ℕ} {Q : CpuState → Type 0} where
    -- the end of the rest after k steps is the end of the whole run
    later : {n m x y : ℕ} {b b1 : CpuState} {t : State} (k j : ℕ) → b1.records ≡ b.records → StayFilled b.memory.scratch b1.memory.scratch → k + m ≤ steps_to s n b b1.memory.scratch [] → b1.values.charge + y ≤ charge_to s x b b1.memory.scratch [] → RunEnds s m y b1 r p' Q j t → RunEnds s n x b r p' Q (k + j) t
    later {n} {m} {x} {y} {b} {b1} {t} k j same stay hk hx (Faulted calls e frames f l o) =
        let steps = joined_steps b b1 t.memory.scratch calls stay f in
        let charge = joined_charge b b1 t.memory.scratch calls stay f in
        Faulted calls e (frames ∙ ap (λ (rs : List Frame). rs ++ calls) same) (λ i h. stay i (f i h)) (omega arith) (over s _ _ (omega arith) o)
    later {n} {m} {x} {y} {b} {b1} {t} k j same stay hk hx (Arrived b2 e frames f l o q) =
        let steps = joined_steps b b1 b2.memory.scratch [] stay f in
        let charge = joined_charge b b1 b2.memory.scratch [] stay f in
        Arrived b2 e frames (λ i h. stay i (f i h)) (omega arith) (omega arith) q

    ends_looser : {n x k : ℕ} {b : CpuState} {t : State} (m y : ℕ) → n ≤ m → x ≤ y → RunEnds s n x b r p' Q k t → RunEnds s m y b r p' Q k t
    ends_looser m y hn hx (Faulted calls e frames f l o) = Faulted calls e frames f (omega arith) (over s _ _ (omega arith) o)
    ends_looser m y hn hx (Arrived b1 e frames f l o q) = Arrived b1 e frames f (omega arith) (omega arith) q

    -- larger budgets
    pub looser : {n x p : ℕ} {b : CpuState} (m y : ℕ) → n ≤ m → x ≤ y → RunsToWith s n x p b r p' Q → RunsToWith s m y p b r p' Q
    looser m y hn hx c = record { steps = c.steps; ends = ends_looser m y hn hx c.ends }

    pub from_place : {n x p : ℕ} {b : CpuState} (q : ℕ) → q ≡ p → RunsToWith s n x p b r p' Q → RunsToWith s n x q b r p' Q
    from_place {n} {x} {p} {b} q e c = subst (λ (k : ℕ). RunsToWith s n x k b r p' Q) (sym e) c

    pub to_place : {n x p : ℕ} {b : CpuState} (q : ℕ) → p' ≡ q → RunsToWith s n x p b r p' Q → RunsToWith s n x p b r q Q
    to_place {n} {x} {p} {b} q e c = subst (λ (k : ℕ). RunsToWith s n x p b r k Q) e c

    chain : {n m x y p p1 : ℕ} {b : CpuState} {P : CpuState → Type 0} (k : ℕ) → RunEnds s n x b b.records p1 P k (state_after k (at s.image p b)) → ((b1 : CpuState) → P b1 → b1.records ≡ b.records → RunsToWith s m y p1 b1 r p' Q) → RunsToWith s (n + m) (x + y) p b r p' Q
    chain k (Faulted calls e frames f l o) go = record { steps = k; ends = Faulted calls e frames f (omega arith) (over s _ _ (omega arith) o) }
    chain {n} {m} {x} {y} {p} {p1} {b} {P} k (Arrived b1 e frames f l o q) go =
        let c = go b1 q frames in
        let parts : state_after (c.steps + k) (at s.image p b) ≡ state_after c.steps (at s.image p1 b1) = state_after-add c.steps k (at s.image p b) ∙ ap (state_after c.steps) e in
        let same : k + c.steps ≡ c.steps + k = omega arith in
        record { steps = k + c.steps; ends = subst (RunEnds s (n + m) (x + y) b r p' Q (k + c.steps)) (sym (ap (λ (i : ℕ). state_after i (at s.image p b)) same ∙ parts)) (later k c.steps frames f (omega arith) (omega arith) c.ends) }

    -- a step, followed by the rest
    pub step : {m y p1 : ℕ} {b1 : CpuState} (n x p : ℕ) (b : CpuState) → next_state (at s.image p b) ≡ at s.image p1 b1 → b1.records ≡ b.records → StayFilled b.memory.scratch b1.memory.scratch → suc m ≤ n → b1.values.charge + y ≤ b.values.charge + x → RunsToWith s m y p1 b1 r p' Q → RunsToWith s n x p b r p' Q
    step {m} {y} {p1} {b1} n x p b e same stay hk hx c =
        let twice : 1 + c.steps ≡ c.steps + 1 = omega arith in
        let after : state_after (1 + c.steps) (at s.image p b) ≡ state_after c.steps (at s.image p1 b1) = ap (λ (k : ℕ). state_after k (at s.image p b)) twice ∙ state_after-first c.steps (at s.image p b) ∙ ap (state_after c.steps) e in
        record { steps = 1 + c.steps; ends = subst (RunEnds s n x b r p' Q (1 + c.steps)) (sym after) (later 1 c.steps same stay (omega arith) (omega arith) c.ends) }

    -- a step that changes neither the records nor the charge, and empties no memo
    pub one_filled : {n x p1 : ℕ} {b1 : CpuState} (p : ℕ) (b : CpuState) → next_state (at s.image p b) ≡ at s.image p1 b1 → b1.records ≡ b.records → StayFilled b.memory.scratch b1.memory.scratch → b1.values.charge ≡ b.values.charge → RunsToWith s n x p1 b1 r p' Q → RunsToWith s (suc n) x p b r p' Q
    one_filled {n} {x} {p1} {b1} p b e same stay v c = step (suc n) x p b e same stay (omega arith) (omega arith) c

    -- a step that changes neither the records, the scratch region nor the charge
    pub one : {n x p1 : ℕ} {b1 : CpuState} (p : ℕ) (b : CpuState) → next_state (at s.image p b) ≡ at s.image p1 b1 → b1.records ≡ b.records → b1.memory.scratch ≡ b.memory.scratch → b1.values.charge ≡ b.values.charge → RunsToWith s n x p1 b1 r p' Q → RunsToWith s (suc n) x p b r p' Q
    one p b e same m v c = one_filled p b e same (unmoved m) v c

    -- a step that stops for the charge or a depth
    pub stops : (n x p : ℕ) (b : CpuState) (t : State) → next_state (at s.image p b) ≡ t → t.status ≡ Fault F8 → t.records ≡ b.records → t.memory ≡ b.memory
        → IsSpent s (b.values.charge + x) → RunsToWith s (suc n) x p b r p' Q
    stops n x p b t e h same m o =
        let after : state_after 1 (at s.image p b) ≡ t = state_after-first 0 (at s.image p b) ∙ state_after-zero _ ∙ e in
        let none : StayFilled b.memory.scratch t.memory.scratch = unmoved (ap (λ w. w.scratch) m) in
        record { steps = 1; ends = subst (RunEnds s (suc n) x b r p' Q 1) (sym after) (Faulted [] h (same ∙ sym (append-nil b.records)) none (omega arith) (over s _ _ (omega arith) o)) }

  ends_into : {n x k p : ℕ} {b : CpuState} {r : List Frame} {P Q : CpuState → Type 0} {t : State} → ((b1 : CpuState) → P b1 → Q b1) → RunEnds s n x b r p P k t → RunEnds s n x b r p Q k t
  ends_into f (Faulted calls e frames filled l o) = Faulted calls e frames filled l o
  ends_into f (Arrived b1 e frames filled l o q) = Arrived b1 e frames filled l o (f b1 q)

  -- a weaker fact
  pub into : {n x p : ℕ} {b : CpuState} {r : List Frame} {p1 : ℕ} {P : CpuState → Type 0} (Q : CpuState → Type 0) → ((b1 : CpuState) → P b1 → Q b1) → RunsToWith s n x p b r p1 P → RunsToWith s n x p b r p1 Q
  into Q f c = record { steps = c.steps; ends = ends_into f c.ends }

  -- nothing is left to do, for any remaining budgets
  pub arrived : {n x p q : ℕ} {b : CpuState} {Q : CpuState → Type 0} → p ≡ q → Q b → RunsTo s n x p b q Q
  arrived {n} {x} {p} {q} {b} {Q} e fact = to_place q e (looser n x (omega arith) (omega arith) (done p b Q fact))

  -- the first of two parts
  module _ {n x p : ℕ} {b : CpuState} {p1 : ℕ} {P : CpuState → Type 0} where
    -- one part after another
    pub and_then : (m y p2 : ℕ) (Q : CpuState → Type 0) → RunsTo s n x p b p1 P → ((b1 : CpuState) → P b1 → RunsTo s m y p1 b1 p2 Q)
        → RunsTo s (n + m) (x + y) p b p2 Q
    and_then m y p2 Q c go = chain c.steps c.ends (λ b1 q same. subst (λ (r : List Frame). RunsToWith s m y p1 b1 r p2 Q) same (go b1 q))

    -- a part, followed by one that ends with other records
    pub and_back : {r : List Frame} (m y p2 : ℕ) (Q : CpuState → Type 0) → RunsTo s n x p b p1 P
        → ((b1 : CpuState) → P b1 → RunsToWith s m y p1 b1 r p2 Q) → RunsToWith s (n + m) (x + y) p b r p2 Q
    and_back m y p2 Q c go = chain c.steps c.ends (λ b1 q same. go b1 q)

  -- a step that ends the run with the records of the CPU state it reaches
  pub last : {p1 : ℕ} {Q : CpuState → Type 0} (p : ℕ) (b b1 : CpuState) → next_state (at s.image p b) ≡ at s.image p1 b1
      → b1.memory.scratch ≡ b.memory.scratch → b1.values.charge ≡ b.values.charge → Q b1 → RunsToWith s 1 0 p b b1.records p1 Q
  last p b b1 e m v q =
      record { steps = 1; ends = Arrived b1 (state_after-first 0 (at s.image p b) ∙ state_after-zero _ ∙ e) refl (unmoved m) (omega arith) (omega arith) q }

-- ---- a run with some variables paid for is one with more paid for

module _ (image : Image) (deep : Bool) (few more : List FirstUse) where
  ends_wider : {n x k p : ℕ} {b : CpuState} {r : List Frame} {Q : CpuState → Type 0} {t : State} → RunEnds (with_variables image deep few) n x b r p Q k t
      → RunEnds (with_variables image deep (few ++ more)) n x b r p Q k t
  ends_wider {b = b} {t = t} (Faulted calls e frames f l o) =
      let steps = uses-more image few (λ v. v.steps) more b.memory.scratch t.memory.scratch calls in
      let charge = uses-more image few (λ v. v.charge) more b.memory.scratch t.memory.scratch calls in
      Faulted calls e frames f (omega arith) (over (with_variables image deep (few ++ more)) _ _ (omega arith) o)
  ends_wider {b = b} {t = t} (Arrived b1 e frames f l o q) =
      let steps = uses-more image few (λ v. v.steps) more b.memory.scratch b1.memory.scratch [] in
      let charge = uses-more image few (λ v. v.charge) more b.memory.scratch b1.memory.scratch [] in
      Arrived b1 e frames f (omega arith) (omega arith) q

  pub wider : {n x p : ℕ} {b : CpuState} {r : List Frame} {p1 : ℕ} {Q : CpuState → Type 0} → RunsToWith (with_variables image deep few) n x p b r p1 Q
      → RunsToWith (with_variables image deep (few ++ more)) n x p b r p1 Q
  wider c = record { steps = c.steps; ends = ends_wider c.ends }
