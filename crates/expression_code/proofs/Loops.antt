-- A loop gives the fold over its range.
-- For the laws in `specs/Gives/Folds` and `specs/Loops`.
use Rattle.expression_code.proofs.Prelude.{◌≡◌, ℕ, suc, ◌+◌, ◌^◌, ◌<◌, ◌≤◌, List, [], ◌∷◌, ◌++◌, length, Option, Some, None, Bool, true, false, refl, sym, ap, ◌∙◌, subst, arith, pos, negsuc, slice_get, fold as fold_left, ints, Names, Eq, Ne, Insn, Store, Dw, same, Reg, W64, Register, R0, R1, R2, R10, charge_limit, Value, ValueOrError, error, value, range_of, CpuState, set_register, Tells, answered, Context, IsWellFormedState, Preserves, LeavesValue, variable_count, RunContext, RunsTo, AtTurn, FoldGives, TurnGives, fold_charge, fold_code, fold_of, fold_steps, loop_charge, loop_code, loop_head, loop_steps, loop_tail, range_tail, size, IsCodeAt, set_word, word_at, word_offset, IsResultBounded, length-map, fold_limit}
use Rattle.expression_code.proofs.Effects.{add_is, differs_no, differs_yes, equal_no, equal_yes}
use Rattle.expression_code.proofs.Frames.{Stored, fits_above, fits_answered, fits_below, fits_registers, keeps_answered, keeps_registers, keeps_same, keeps_stored, keeps_then, kept_word, shows_after, shows_registers, stored}
use Rattle.expression_code.proofs.HelperAnswers.{helpers}
use Rattle.expression_code.proofs.Listings.{alu, ask, begins, jump, load, mov, no, store, yes}
use Rattle.expression_code.proofs.Pieces.{size-append, size-cons, stands_back, stands_front, stands_rest}
use Rattle.expression_code.proofs.Runs.{and_then, done, either, from_place, into, looser, to_place}
use Rattle.expression_code.proofs.Steps as step
use Rattle.expression_code.proofs.Values.{all_at, names_error, small_reference}

by_range : {Q : Type 0} (o : Option (List Value)) → ((items : List Value) → o ≡ Some items → Q) → (o ≡ None → Q) → Q
by_range o f g = grind arith

-- a range in a table has few items
bounded_range : (n : ℕ) (x : ValueOrError) (items : List Value) → IsResultBounded n x → range_of x ≡ Some items → length items ≤ n
bounded_range n x items bounded e = grind (arith, length-map)

few_items : (c : Context) (depth base r : ℕ) (x : ValueOrError) (items : List Value) (b : CpuState) → IsWellFormedState c depth base b → Names b.values.values r x
    → range_of x ≡ Some items → length items < 2 ^ 32
few_items c depth base r x items b fits named range =
    omega (arith, bounded_range b.values.charge x items (all_at b.values.charge b.values.values r x fits.values.table.bounded named) range)

-- the number of slots of a loop and of a fold
pub loop_size : (k : ℕ) (turn : List Insn) → size (loop_code k turn) ≡ 6 + (size turn + 6)
loop_size k turn = size-append (loop_head k (size turn + 8)) (turn ++ loop_tail k (size turn + 7)) ∙ ap (λ (n : ℕ). 6 + n) (size-append turn (loop_tail k (size turn + 7)))

pub fold_size : (k : ℕ) (range first turn : List Insn) → size (fold_code k range first turn) ≡ size range + (9 + (size first + (1 + size (loop_code k turn))))
fold_size k range first turn = grind (arith, size-append, size-cons)

-- once the result is the last one, it does not change
fold_last : (f : ValueOrError → Value → ValueOrError) (is_last : ValueOrError → Bool) (acc : ValueOrError) (vs : List Value)
    → ((a : ValueOrError) (v : Value) → is_last a ≡ true → f a v ≡ a) → is_last acc ≡ true → fold_left f acc vs ≡ acc
fold_last f is_last acc [] law last = refl
fold_last f is_last acc (v ∷ vs) law last = ap (λ (a : ValueOrError). fold_left f a vs) (law acc v last) ∙ fold_last f is_last acc vs law last

-- the words of a loop before its i-th turn, except the result so far
pub record Turns (c : Context) (depth k : ℕ) (range : ValueOrError) (n i : ℕ) (b : CpuState) : Type 0 where
  pub fits : IsWellFormedState c depth k b
  pub names_range : Names b.values.values (word_at depth k b) range
  pub count : word_at depth (k + 1) b ≡ n
  pub next : word_at depth (k + 2) b ≡ i

module _ {c : Context} {depth k n i : ℕ} {range : ValueOrError} {a b : CpuState} where
  -- these words are unchanged in a CPU state that preserves them
  turns_kept : k < fold_limit → Turns c depth k range n i a → Preserves (variable_count c) depth (k + 3) a b → IsWellFormedState c depth k b
      → Turns c depth k range n i b
  turns_kept low turns kept fits = grind (arith, kept_word)

-- ---- the end of a turn

-- R2 holds the index of the next item, and R1 the number of items
pub record Advanced (c : Context) (depth k : ℕ) (range : ValueOrError) (n i : ℕ) (acc : ValueOrError) (b0 b : CpuState) : Type 0 where
  pub turns : Turns c depth k range n i b
  pub so_far : Names b.values.values (word_at depth (k + 3) b) acc
  pub keeps : Preserves (variable_count c) depth k b0 b
  pub count : b.registers R1 ≡ n
  pub next : b.registers R2 ≡ i

module _ (s : RunContext) (c : Context) (depth k : ℕ) (range : ValueOrError) (n : ℕ) (low : k < fold_limit) (small : n < 2 ^ 32) where
  turn_ends : (o back i : ℕ) (acc : ValueOrError) (b : CpuState) → IsCodeAt s.image.code o (loop_tail k back) → i < n → Turns c depth k range n i b
      → Names b.values.values (word_at depth (k + 3) b) acc → RunsTo s 4 0 o b (o + 4) (Advanced c depth k range n (i + 1) acc b)
  turn_ends o back i acc b has inside turns so_far =
      let next = turns.next in
      let b1 = set_register (set_register b R2 (word_at depth (k + 2) b)) R2 (i + 1) in
      let fits1 = fits_registers c depth k b b1.registers refl turns.fits in
      let stored2 = stored c depth k (k + 2) (i + 1) b1 fits1 (omega arith) (omega arith) (omega arith) in
      let b2 = set_word depth (k + 2) (i + 1) b1 in
      let b3 = set_register b2 R1 (word_at depth (k + 1) b2) in
      let count2 : word_at depth (k + 1) b2 ≡ n = stored2.other (k + 1) (omega arith) (λ e. omega arith) ∙ turns.count in
      begins has
      (load has 0 (k + 2) refl turns.fits.frame (omega arith) refl
      (alu has 1 (i + 1) refl refl (add_is (word_at depth (k + 2) b) 1 ∙ omega arith)
      (store has 2 (k + 2) refl fits1.frame (omega arith)
      (load has 3 (k + 1) refl stored2.fits.frame (omega arith) refl
      (done s (o + 4) b3 (Advanced c depth k range n (i + 1) acc b) (grind (arith, fits_registers, keeps_then, keeps_registers)))))))

-- ---- all turns

-- the remaining steps from the end of a turn, with these items to come
abbrev next_steps : (Value → ℕ) → List Value → ℕ
next_steps steps [] = 2
next_steps steps (v ∷ vs) = suc (3 + (steps v + (4 + next_steps steps vs)))

steps_are : (steps : Value → ℕ) (vs : List Value) → loop_steps steps vs ≡ 2 + next_steps steps vs
steps_are steps [] = refl
steps_are steps (v ∷ vs) = let more = steps_are steps vs in omega arith

module _ (s : RunContext) (p k depth : ℕ) (turn : List Insn) (c : Context) (range : ValueOrError) (items : List Value) (f : ValueOrError → Value → ValueOrError) (is_last is_fine : ValueOrError → Bool) (steps charge : Value → ℕ) (low : k < fold_limit) (small : length items < 2 ^ 32) (is_range : range_of range ≡ Some items) (end : ℕ) (tg : TurnGives s (p + 6) end turn c depth k items f is_last is_fine steps charge) (end_is : end ≡ p + 6 + size turn + 6) (has : IsCodeAt s.image.code p (loop_code k turn)) where
  abbrev tail : List Insn
  tail = loop_tail k (size turn + 7)

  abbrev tail_place : ℕ
  tail_place = p + 6 + size turn

  abbrev Result : CpuState → List Value → ValueOrError → CpuState → Type 0
  Result b0 vs acc = LeavesValue c depth k (fold_left f acc vs) b0

  -- the state before the i-th turn, with these items to come; what held before the first turn is preserved
  record Before (vs : List Value) (i : ℕ) (acc : ValueOrError) (b0 b : CpuState) : Type 0 where
    pub keeps : Preserves (variable_count c) depth k b0 b
    pub turns : Turns c depth k range (length items) i b
    pub so_far : Names b.values.values (word_at depth (k + 3) b) acc
    pub not_last : is_last acc ≡ false
    pub fine : is_fine acc ≡ true
    pub left : (j : ℕ) (v : Value) → slice_get vs j ≡ Some v → slice_get items (i + j) ≡ Some v
    pub all : i + length vs ≡ length items

  -- only registers have changed
  told_before : {vs : List Value} {i : ℕ} {acc : ValueOrError} {b0 : CpuState} (b : CpuState) (registers : Register → ℕ) → registers R10 ≡ b.registers R10
      → Before vs i acc b0 b → Before vs i acc b0 (record b { registers = registers })
  told_before b registers pointer before = grind arith

  has_head : IsCodeAt s.image.code p (loop_head k (size turn + 8))
  has_head = stands_front s.image.code p (loop_head k (size turn + 8)) _ has

  has_turn : IsCodeAt s.image.code (p + 6) (turn ++ tail)
  has_turn = stands_back s.image.code p (loop_head k (size turn + 8)) (turn ++ tail) has

  has_tail : IsCodeAt s.image.code tail_place tail
  has_tail = stands_back s.image.code (p + 6) turn tail has_turn

  -- the result is loaded
  answers : (i : ℕ) (acc : ValueOrError) (b0 b : CpuState) → Before [] i acc b0 b → RunsTo s 1 0 (tail_place + 5) b end (Result b0 [] acc)
  answers i acc b0 b before =
      load has_tail 5 (k + 3) refl before.turns.fits.frame (omega arith) refl
      (from_place s (tail_place + (5 + 1)) (sym end_is)
      (done s end _ (Result b0 [] acc) (shows_after (omega arith) (omega arith) before.keeps (shows_registers c depth k b _ refl acc before.turns.fits before.so_far) before.turns.fits)))

  -- one turn, with its index in R2, and the code after it
  turn_runs : (v : Value) (vs : List Value) (i more more_charge : ℕ) (acc : ValueOrError) (b0 b : CpuState) → Before (v ∷ vs) i acc b0 b → b.registers R2 ≡ i
      → ((b1 : CpuState) → Before vs (i + 1) (f acc v) b0 b1 → b1.registers R1 ≡ length items → b1.registers R2 ≡ i + 1 → RunsTo s more more_charge (tail_place + 4) b1 end (Result b0 vs (f acc v)))
      → RunsTo s (3 + (steps v + (4 + more))) (1 + (charge v + more_charge)) (p + 3) b end (Result b0 (v ∷ vs) acc)
  turn_runs v vs i more more_charge acc b0 b before placed rest =
      let turns = before.turns in
      let Q = Result b0 (v ∷ vs) acc in
      let place : i + 0 ≡ i = omega arith in
      let item : slice_get items i ≡ Some v = ap (slice_get items) (sym place) ∙ before.left 0 v refl in
      let asks = set_register b R1 (word_at depth k b) in
      let asks_fits = fits_registers c depth k b asks.registers refl turns.fits in
      let a = helpers.item c.environment.roots asks range items v i asks_fits.values turns.names_range placed (omega arith) is_range item in
      looser s {n = suc (suc (suc (steps v + (4 + more))))} {x = 1 + (charge v + (0 + more_charge))} (3 + (steps v + (4 + more))) (1 + (charge v + more_charge)) (omega arith) (omega arith)
      (load has_head 3 k refl turns.fits.frame (omega arith) refl
      (ask has_head 4 refl a.answers (λ paid.
      let b1 = answered asks a.word a.list (asks.values.charge + 1) in
      let table = a.table paid in
      let fits1 = fits_answered depth k a.word (asks.values.charge + 1) a.list asks a.extends c table asks_fits in
      let stored2 = stored c depth k (k + 4) a.word b1 fits1 (omega arith) (omega arith) (small_reference b1.values a.word (value v) table a.names) in
      let b2 = set_word depth (k + 4) a.word b1 in
      store has_head 5 (k + 4) refl fits1.frame (omega arith)
      (let named2 : Names b2.values.values (word_at depth (k + 4) b2) (value v) = subst (λ (q : ℕ). Names a.list q (value v)) (sym stored2.here) a.names in
      let step2 : Preserves (variable_count c) depth (k + 4) b b2 = grind (arith, keeps_then, keeps_registers, keeps_answered, keeps_stored, fits1) in
      let so_far2 = kept_word (k + 3) acc (omega arith) (omega arith) step2 before.so_far in
      let at2 : AtTurn c depth k acc v b2 = record { fits = stored2.fits; so_far = so_far2; item = named2 } in
      let kept2 = keeps_then (omega arith) before.keeps step2 in
      either (is_last (f acc v))
      (λ last. looser s (steps v + (4 + more)) (charge v + (0 + more_charge)) (omega arith) (omega arith)
      (into s Q (λ b4 g4. subst (λ (x : ValueOrError). LeavesValue c depth k x b0 b4) (sym (fold_last f is_last (f acc v) vs tg.last last)) (shows_after (omega arith) (omega arith) kept2 g4 stored2.fits)) (tg.leaves b2 acc i v item before.fine (stands_front s.image.code _ turn _ has_turn) at2 before.not_last last)))
      (λ goes_on. and_then s (4 + more) (0 + more_charge) end Q (tg.goes_on b2 acc i v item before.fine (stands_front s.image.code _ turn _ has_turn) at2 before.not_last goes_on) (λ b4 g4.
      let turns4 = turns_kept low turns
      (keeps_then (omega arith) (keeps_then (omega arith) (keeps_same (variable_count c) depth (k + 3) b) step2) g4.keeps) g4.fits in
      and_then s more more_charge end Q (turn_ends s c depth k range (length items) low small tail_place (size turn + 7) i (f acc v) b4 has_tail (omega arith) turns4 g4.so_far) (λ b5 g5.
      rest b5 (record {
        keeps = keeps_then (omega arith) (keeps_then (omega arith) kept2 g4.keeps) g5.keeps;
        turns = g5.turns;
        so_far = g5.so_far;
        not_last = goes_on;
        fine = tg.fine acc i v item before.fine;
        left = λ j u h. let e : i + 1 + j ≡ i + suc j = omega arith in ap (slice_get items) e ∙ before.left (suc j) u h;
        all = omega arith;
      }) g5.count g5.next)))))))

  -- from the end of a turn
  next_runs : (vs : List Value) (i : ℕ) (acc : ValueOrError) (b0 b : CpuState) → Before vs i acc b0 b → b.registers R1 ≡ length items → b.registers R2 ≡ i
      → RunsTo s (next_steps steps vs) (loop_charge charge vs) (tail_place + 4) b end (Result b0 vs acc)
  next_runs [] i acc b0 b before count next =
      no has_tail 4 refl (differs_no (b.registers R1) (b.registers R2) (omega arith)) (answers i acc b0 b before)
  next_runs (v ∷ vs) i acc b0 b before count next =
      step.branch_yes s (tail_place + 4) (p + 3) b Ne W64 R1 (Reg R2) (negsuc (size turn + 7)) (has_tail.here 4 _ refl) (differs_yes (b.registers R1) (b.registers R2) (λ e. omega arith)) (omega (arith, ints))
      (turn_runs v vs i (next_steps steps vs) (loop_charge charge vs) acc b0 b before next (λ b1 before1 count1 next1.
      next_runs vs (i + 1) (f acc v) b0 b1 before1 count1 next1))

  turns_run : (vs : List Value) (acc : ValueOrError) (b0 b : CpuState) → Before vs 0 acc b0 b → RunsTo s (loop_steps steps vs) (loop_charge charge vs) p b end (Result b0 vs acc)
  turns_run [] acc b0 b before =
      let frame = before.turns.fits.frame in
      let told = set_register (set_register b R1 (word_at depth (k + 1) b)) R2 (word_at depth (k + 2) b) in
      let before1 = told_before b told.registers refl before in
      let all = before.all in
      begins has_head
      (load has_head 0 (k + 1) refl frame (omega arith) refl
      (load has_head 1 (k + 2) refl frame (omega arith) refl
      (step.branch_yes s (p + 2) (tail_place + 5) told Eq W64 R1 (Reg R2) (pos (size turn + 8)) (has_head.here 2 _ refl) (equal_yes _ _ (before.turns.count ∙ omega arith ∙ sym before.turns.next)) (omega (arith, ints))
      (answers 0 acc b0 told before1))))
  turns_run (v ∷ vs) acc b0 b before =
      let turns = before.turns in
      let are = steps_are steps vs in
      let told = set_register (set_register b R1 (word_at depth (k + 1) b)) R2 (word_at depth (k + 2) b) in
      looser s {n = suc (suc (suc (3 + (steps v + (4 + next_steps steps vs)))))} {x = 1 + (charge v + loop_charge charge vs)} (loop_steps steps (v ∷ vs)) (loop_charge charge (v ∷ vs)) (omega arith) (omega arith)
      (begins has_head
      (load has_head 0 (k + 1) refl turns.fits.frame (omega arith) refl
      (load has_head 1 (k + 2) refl turns.fits.frame (omega arith) refl
      (no has_head 2 refl (equal_no (word_at depth (k + 1) b) (word_at depth (k + 2) b) (λ e. let count = turns.count in let next = turns.next in omega arith))
      (turn_runs v vs 0 (next_steps steps vs) (loop_charge charge vs) acc b0 told (told_before b told.registers refl before) turns.next (λ b1 before1 count1 next1.
      next_runs vs (0 + 1) (f acc v) b0 b1 before1 count1 next1))))))

-- ---- the range, and the code before the first turn

module _ (s : RunContext) (c : Context) (depth k o off : ℕ) (low : k < fold_limit) (has : IsCodeAt s.image.code o (range_tail k off)) (b : CpuState) (fitting : IsWellFormedState c depth k b) (range : ValueOrError) (named : Names b.values.values (b.registers R0) range) where
  -- before the first turn of a loop
  pub record Ranged (n : ℕ) (last : CpuState) : Type 0 where
    pub turns : Turns c depth k range n 0 last
    pub keeps : Preserves (variable_count c) depth k b last

  abbrev asks : CpuState
  asks = set_register (set_word depth k (b.registers R0) b) R1 (b.registers R0)

  range_stored : Stored c depth k k (b.registers R0) b
  range_stored = stored c depth k k (b.registers R0) b fitting (omega arith) (omega arith) (small_reference b.values (b.registers R0) range fitting.values.table named)

  asks_fits : IsWellFormedState c depth k asks
  asks_fits = fits_registers c depth k (set_word depth k (b.registers R0) b) asks.registers refl range_stored.fits

  -- after the count
  abbrev counted : ℕ → CpuState
  counted w = answered asks w b.values.values (b.values.charge + 1)

  counted_fits : (w : ℕ) → Tells (pos 21) asks w 1 → b.values.charge + 1 ≤ charge_limit → IsWellFormedState c depth k (counted w)
  counted_fits w t paid = fits_answered depth k w (b.values.charge + 1) b.values.values asks (same b.values.values) c (t.table paid) asks_fits

  counted_keeps : (w : ℕ) → Preserves (variable_count c) depth k b (counted w)
  counted_keeps w = grind (arith, keeps_then, range_stored, keeps_registers, keeps_answered, same)

  pub range_runs : (items : List Value) → range_of range ≡ Some items → RunsTo s 9 1 o b (o + 9) (Ranged (length items))
  range_runs items is =
      let n = length items in
      let small = few_items c depth k (b.registers R0) range items b fitting named is in
      let t = helpers.count c.environment.roots asks range items asks_fits.values named is in
      looser s 9 1 (omega arith) (omega arith) (begins has
      (store has 0 k refl fitting.frame (omega arith)
      (mov has 1 refl refl
      (ask has 2 refl t.answers (λ paid.
      let fits2 = counted_fits n t paid in
      let stored3 = stored c depth k (k + 1) n (counted n) fits2 (omega arith) (omega arith) (omega arith) in
      let b4 = set_register (set_word depth (k + 1) n (counted n)) R0 0 in
      let fits4 = fits_registers c depth k (set_word depth (k + 1) n (counted n)) b4.registers refl stored3.fits in
      let stored5 = stored c depth k (k + 2) 0 b4 fits4 (omega arith) (omega arith) (omega arith) in
      yes has 3 2 refl (differs_yes n 0xffff_ffff_ffff_ffff (λ e. omega arith))
      (store has 6 (k + 1) refl fits2.frame (omega arith)
      (mov has 7 refl refl
      (store has 8 (k + 2) refl fits4.frame (omega arith)
      (done s (o + 9) _ _ (grind (arith, range_stored, keeps_then, counted_keeps, keeps_registers)))))))))))

  -- the value is not a range: jumps to the end with the error
  pub no_range_runs : range_of range ≡ None → RunsTo s 6 1 o b (o + (6 + off)) (LeavesValue c depth k error b)
  no_range_runs none =
      let t = helpers.no_count c.environment.roots asks range asks_fits.values named none in
      looser s 6 1 (omega arith) (omega arith) (begins has
      (store has 0 k refl fitting.frame (omega arith)
      (mov has 1 refl refl
      (ask has 2 refl t.answers (λ paid.
      let fits2 = counted_fits 0xffff_ffff_ffff_ffff t paid in
      no has 3 refl (differs_no 0xffff_ffff_ffff_ffff 0xffff_ffff_ffff_ffff refl)
      (mov has 4 refl refl
      (jump has 5 off refl
      (done s (o + (6 + off)) _ _ (shows_after (omega arith) (omega arith) (counted_keeps 0xffff_ffff_ffff_ffff) (shows_registers c depth k (counted 0xffff_ffff_ffff_ffff) _ refl error fits2 (names_error _ fits2.values.table.store)) fits2)))))))))

pub fold_gives : FoldGives
fold_gives s p k depth n1 x1 n2 x2 range first turn c r acc f is_last is_fine steps charge low not_last fine gives_range gives_first tg = record {
  runs = λ b has fits.
      let code = s.image.code in
      let loop = loop_code k turn in
      let put = Store Dw R10 (word_offset (k + 3)) R0 in
      let tail = range_tail k (size first + size loop + 4) in
      let q = p + size range in
      let h0 = stands_back code p range (tail ++ (first ++ (put ∷ loop))) has in
      let h1 = stands_back code q tail (first ++ (put ∷ loop)) h0 in
      let h2 = stands_back code (q + 9) first (put ∷ loop) h1 in
      let h3 = stands_rest code (q + 9 + size first) put loop h2 in
      let end = p + size (fold_code k range first turn) in
      let Q = LeavesValue c depth k (fold_of f acc (range_of r)) b in
      let total = fold_size k range first turn in
      let inner = loop_size k turn in
      let body_at : q + 9 + size first + 1 + 6 ≡ q + 9 + size first + 7 = omega arith in
      and_then s (9 + (n2 + (1 + fold_steps steps (range_of r)))) (1 + (x2 + fold_charge charge (range_of r))) end Q (gives_range.runs b (stands_front code p range _ has) fits) (λ b1 g1.
      by_range (range_of r)
      (λ items is.
      let tg1 : TurnGives s (q + 9 + size first + 1 + 6) end turn c depth k items f is_last is_fine steps charge = subst (λ (i : ℕ). TurnGives s i end turn c depth k items f is_last is_fine steps charge) (sym body_at) (tg items is) in
      subst (λ (o : Option (List Value)). RunsTo s (9 + (n2 + (1 + fold_steps steps o))) (1 + (x2 + fold_charge charge o)) q b1 end (LeavesValue c depth k (fold_of f acc o) b)) (sym is)
      (and_then s (n2 + (1 + loop_steps steps items)) (x2 + loop_charge charge items) end (LeavesValue c depth k (fold_left f acc items) b) (range_runs s c depth k q (size first + size loop + 4) low (stands_front code q tail _ h0) b1 g1.fits r g1.shows items is) (λ b2 ranged.
      let small = few_items c depth k (word_at depth k b2) r items b2 ranged.turns.fits ranged.turns.names_range is in
      and_then s (1 + loop_steps steps items) (loop_charge charge items) end (LeavesValue c depth k (fold_left f acc items) b) (gives_first.runs b2 (stands_front code (q + 9) first _ h1) (fits_above c depth k (k + 3) b2 (omega arith) ranged.turns.fits)) (λ b3 g3.
      let fits3 = fits_below c depth k (k + 3) b2 b3 (omega arith) (omega arith) ranged.turns.fits g3.keeps g3.fits in
      let stored4 = stored c depth k (k + 3) (b3.registers R0) b3 fits3 (omega arith) (omega arith) (small_reference b3.values (b3.registers R0) acc fits3.values.table g3.shows) in
      let b4 = set_word depth (k + 3) (b3.registers R0) b3 in
      let kept4 = keeps_then (omega arith) g3.keeps
      (keeps_stored depth (k + 3) (b3.registers R0) b3 fits3.frame (omega arith) (variable_count c) (k + 3) (omega arith)) in
      looser s {n = suc (loop_steps steps items)} {x = loop_charge charge items} (1 + loop_steps steps items) (loop_charge charge items) (omega arith) (omega arith)
      (begins h2 (store h2 0 (k + 3) refl fits3.frame (omega arith)
      (turns_run s (q + 9 + size first + 1) k depth turn c r items f is_last is_fine steps charge low small is end tg1 (omega arith) h3 items acc b b4 (record {
        keeps = keeps_then (omega arith) (keeps_then (omega arith) g1.keeps ranged.keeps) kept4;
        turns = turns_kept low ranged.turns kept4 stored4.fits;
        so_far = subst (λ (w : ℕ). Names b4.values.values w acc) (sym stored4.here) g3.shows;
        not_last = not_last;
        fine = fine;
        left = λ j v h. let e : 0 + j ≡ j = omega arith in ap (slice_get items) e ∙ h;
        all = omega arith;
      }))))))))
      (λ none.
      subst (λ (o : Option (List Value)). RunsTo s (9 + (n2 + (1 + fold_steps steps o))) (1 + (x2 + fold_charge charge o)) q b1 end (LeavesValue c depth k (fold_of f acc o) b)) (sym none)
      (looser s (9 + (n2 + (1 + 0))) (1 + (x2 + 0)) (omega arith) (omega arith)
      (to_place s end (omega arith)
      (into s (LeavesValue c depth k error b) (λ b2 g2. shows_after (omega arith) (omega arith) g1.keeps g2 g1.fits) (no_range_runs s c depth k q (size first + size loop + 4) low (stands_front code q tail _ h0) b1 g1.fits r g1.shows none))))));
}
