-- The tails of turns, after the code of the macro's part.
use Rattle.expression_code.proofs.Prelude.{◌≡◌, ℕ, ◌+◌, ◌<◌, true, false, refl, ap, ◌∙◌, arith, List, [], ◌∷◌, Bool, suc, ℤ, pos, Names, R0, R1, R2, R10, ValueOrError, error, value, boolean, null, CpuState, set_register, Context, IsWellFormedState, LeavesValue, RunContext, RunsTo, Turned, IsCodeAt, word_at, absorbing_turn, filter_turn, map_turn, exists_one_turn, exists_one_end, depth_limit, Insn, Call, result_depth, pushed, is_error, when_true, Truth, Yes, No, Other, truth, Eq, W64, compares, Register, fold_limit}
use Rattle.expression_code.proofs.Sites.{in_frame}
use Rattle.expression_code.proofs.Logic.{Absorbing, Decides, Leaves, Neither, Side, Tested, is_answer, is_decides, is_leaves, left_stays, right_named, told_in}
use Rattle.expression_code.proofs.Frames.{shows_registers}
use Rattle.expression_code.proofs.Listings.{begins, mov, no, store, yes, calls, jump, load, refused}
use Rattle.expression_code.proofs.Folds.Turn.{turned_put, turned_same, turned_registers}
use Rattle.expression_code.proofs.Values.{names_error, Told, told, names_no, names_null, names_yes}
use Rattle.expression_code.proofs.Runs.{arrived, and_then, by_limit}
use Rattle.expression_code.proofs.HelperAnswers.{helpers}
use Rattle.expression_code.proofs.Pieces.{stands_front}
use Rattle.expression_code.proofs.Operators.{shows_placed}
use Rattle.expression_code.proofs.Effects.{equal_is}
use Rattle.expression_code.proofs.Folds.Once.{once_more, once_step, once_by, once_end}
use Rattle.expression_code.specs.Instructions as insn

-- ---- `all` and `exists`

module _ (decides other : ℤ) (f : ValueOrError → ValueOrError → ValueOrError) (op : Absorbing decides other f) (s : RunContext) (c : Context) (depth k o : ℕ) (low : k < fold_limit) (b : CpuState) (outer : IsWellFormedState c depth k b) (fits : IsWellFormedState c depth (k + 5) b) (has : IsCodeAt s.image.code o (absorbing_turn decides other k)) (x y : ValueOrError) (named : Names b.values.values (b.registers R0) y) where
  right : Tested decides other (op.side y) (b.registers R0)
  right = op.tested y (b.registers R0) (told_in c depth (k + 5) (b.registers R0) y b fits named)

  goes_by : (u : Side) → op.side y ≡ u → Names b.values.values (word_at depth (k + 3) b) x → is_answer op x ≡ true → is_decides (op.side x) ≡ false
      → is_decides u ≡ false → RunsTo s 4 0 o b (o + 4) (Turned c depth k (f x y) b)
  goes_by Decides is_right so_far fine early on = absurd (cc)
  goes_by Leaves is_right so_far fine early on =
      begins has
      (no has 0 refl (right.decided ∙ ap is_decides is_right)
      (yes has 1 2 refl (right.leaves ∙ ap is_leaves is_right)
      (arrived s refl (turned_same low outer (rw (left_stays decides other f op x y fine early is_right) so_far)))))
  goes_by Neither is_right so_far fine early on =
      begins has
      (no has 0 refl (right.decided ∙ ap is_decides is_right)
      (no has 1 refl (right.leaves ∙ ap is_leaves is_right)
      (mov has 2 refl refl
      (store has 3 (k + 3) refl fits.frame (omega arith)
      (arrived s refl (turned_put low outer (shows_registers c depth (k + 5) b _ refl (f x y) fits
      (rw (op.right_neither x y early is_right) (names_error b.values fits.values.table.store)))))))))

  pub goes_on : Names b.values.values (word_at depth (k + 3) b) x → is_answer op x ≡ true → is_decides (op.side x) ≡ false
      → is_decides (op.side y) ≡ false → RunsTo s 4 0 o b (o + 4) (Turned c depth k (f x y) b)
  goes_on so_far fine early on = goes_by (op.side y) refl so_far fine early on

  pub leaves : is_decides (op.side y) ≡ true → RunsTo s 4 0 o b (o + 10) (LeavesValue c depth (k + 5) (f x y) b)
  leaves ends =
      begins has
      (yes has 0 9 refl (right.decided ∙ ends)
      (arrived s refl (shows_registers c depth (k + 5) b _ refl (f x y) fits (right_named decides other f op x y b.values.values (b.registers R0) named ends))))

-- ---- `map` and `filter`: a list that would be too deep stops the machine

-- appends R0 to the result so far
abbrev pub push_code : ℕ → List Insn
push_code k = insn.mov_reg R2 R0 ∷ insn.load R1 (k + 3) ∷ Call (pos 17) ∷ []

module _ (s : RunContext) (c : Context) (depth k o : ℕ) (low : k < fold_limit) (b : CpuState) (fits : IsWellFormedState c depth (k + 5) b) (acc y : ValueOrError) (has : IsCodeAt s.image.code o (push_code k)) (right : Names b.values.values (b.registers R0) y) (left : Names b.values.values (word_at depth (k + 3) b) acc) where
  pub push_runs : (depth_limit < result_depth (pushed acc y) → s.is_deep ≡ true) → RunsTo s 3 2 o b (o + 3) (LeavesValue c depth (k + 5) (pushed acc y) b)
  push_runs may =
      let asks = set_register (set_register b R2 (b.registers R0)) R1 (word_at depth (k + 3) b) in
      begins has
      (mov has 0 refl refl
      (load has 1 (k + 3) refl fits.frame (omega arith) refl
      (by_limit (result_depth (pushed acc y)) depth_limit
      (λ shallow.
      let place = helpers.push c.environment.roots asks acc y fits.values left right shallow in
      calls has 2 refl place.answers (omega arith) (λ paid.
      arrived s refl (shows_placed (in_frame c depth (k + 5)) (pos 17) (pushed acc y) 2 b asks.registers (omega arith) refl fits place paid)))
      (λ deep. refused has 2 refl (helpers.push_deep asks acc y left right deep) (may deep)))))

-- and this is the next result
module _ (s : RunContext) (c : Context) (depth k o : ℕ) (low : k < fold_limit) (b : CpuState) (outer : IsWellFormedState c depth k b) (fits : IsWellFormedState c depth (k + 5) b) (acc y : ValueOrError) (has : IsCodeAt s.image.code o (map_turn k)) (right : Names b.values.values (b.registers R0) y) (left : Names b.values.values (word_at depth (k + 3) b) acc) where
  pub map_turns : (depth_limit < result_depth (pushed acc y) → s.is_deep ≡ true) → RunsTo s 4 2 o b (o + 4) (Turned c depth k (pushed acc y) b)
  map_turns may =
      and_then s 1 0 (o + 4) (Turned c depth k (pushed acc y) b) (push_runs s c depth k o low b fits acc y (stands_front s.image.code o (push_code k) (insn.store (k + 3) R0 ∷ []) has) right left may) (λ b1 shown.
      store has 3 (k + 3) refl shown.fits.frame (omega arith) (arrived s refl (turned_put low outer shown)))

-- R0 holds the predicate's value, word k + 3 the list so far and word k + 4 the item
module _ (s : RunContext) (c : Context) (depth k o : ℕ) (low : k < fold_limit) (b : CpuState) (outer : IsWellFormedState c depth k b) (fits : IsWellFormedState c depth (k + 5) b) (acc x : ValueOrError) (has : IsCodeAt s.image.code o (filter_turn k)) (so_far : Names b.values.values (word_at depth (k + 3) b) acc) (item : Names b.values.values (word_at depth (k + 4) b) x) where
  filter_by : (t : Truth) (f : Bool) → (t ≡ Yes → depth_limit < result_depth (pushed acc x) → s.is_deep ≡ true) → Told t f (b.registers R0)
      → RunsTo s 7 2 o b (o + 8) (Turned c depth k (when_true t (pushed acc x) acc) b)
  unfolding filter_turn
  filter_by No f may right = begins has (yes has 0 7 refl right.no (arrived s refl (turned_same low outer so_far)))
  filter_by Other f may right =
      begins has
      (no has 0 refl right.no
      (yes has 1 4 refl right.not_yes
      (mov has 6 refl refl
      (store has 7 (k + 3) refl fits.frame (omega arith)
      (arrived s refl (turned_put low outer (shows_registers c depth (k + 5) b _ refl error fits (names_error b.values fits.values.table.store))))))))
  filter_by Yes f may right =
      let asks = set_register (set_register b R1 (word_at depth (k + 3) b)) R2 (word_at depth (k + 4) b) in
      begins has
      (no has 0 refl right.no
      (no has 1 refl right.not_yes
      (load has 2 (k + 3) refl fits.frame (omega arith) refl
      (load has 3 (k + 4) refl fits.frame (omega arith) refl
      (by_limit (result_depth (pushed acc x)) depth_limit
      (λ shallow.
      let place = helpers.push c.environment.roots asks acc x fits.values so_far item shallow in
      calls has 4 refl place.answers (omega arith) (λ paid.
      let shown = shows_placed (in_frame c depth (k + 5)) (pos 17) (pushed acc x) 2 b asks.registers (omega arith) refl fits place paid in
      jump has 5 1 refl
      (store has 7 (k + 3) refl shown.fits.frame (omega arith)
      (arrived s refl (turned_put low outer shown)))))
      (λ deep. refused has 4 refl (helpers.push_deep asks acc x so_far item deep) (may refl deep)))))))

  pub filter_turns : (y : ValueOrError) → (truth y ≡ Yes → depth_limit < result_depth (pushed acc x) → s.is_deep ≡ true)
      → Names b.values.values (b.registers R0) y → RunsTo s 7 2 o b (o + 8) (Turned c depth k (when_true (truth y) (pushed acc x) acc) b)
  filter_turns y may named = filter_by (truth y) (is_error y) may (told b.values _ y fits.values.table.store fits.values.canonical named)

-- ---- `exists_one`, and the code after its loop

module _ (s : RunContext) (c : Context) (depth k o : ℕ) (low : k < fold_limit) (b : CpuState) (outer : IsWellFormedState c depth k b) (fits : IsWellFormedState c depth (k + 5) b) (acc : ValueOrError) (has : IsCodeAt s.image.code o (exists_one_turn k)) (so_far : Names b.values.values (word_at depth (k + 3) b) acc) where
  abbrev r : ℕ
  r = word_at depth (k + 3) b

  abbrev loaded : CpuState
  loaded = set_register b R1 r

  -- R0 holds the next result
  puts : {t u : ℕ} (registers : Register → ℕ) (x : ValueOrError) → registers R10 ≡ b.registers R10 → Names b.values.values (registers R0) x
      → RunsTo s (suc t) u (o + 8) (record b { registers = registers }) (o + 9) (Turned c depth k x b)
  unfolding exists_one_turn
  puts registers x pointer named =
      let shown = shows_registers c depth (k + 5) b registers pointer x fits named in
      store has 8 (k + 3) refl shown.fits.frame (omega arith) (arrived s refl (turned_put low outer shown))

  -- one more item for which the predicate is true; more than once is null
  counts : compares W64 Eq (b.registers R0) 3 ≡ true → (u : Truth) (g : Bool) → Told u g r
      → RunsTo s 5 0 (o + 3) loaded (o + 9) (Turned c depth k (once_more u g) b)
  unfolding exists_one_turn
  counts yes_is u true left =
      yes has 3 5 refl left.error
      (arrived s refl (turned_registers low loaded.registers refl outer (rw (equal_is r 0 left.error) (names_error b.values fits.values.table.store))))
  counts yes_is No false left =
      no has 3 refl left.error
      (yes has 4 3 refl left.no
      (puts loaded.registers (value (boolean true)) refl (rw (equal_is _ 3 yes_is) (names_yes b.values fits.values.table.store))))
  counts yes_is _ false left =
      no has 3 refl left.error
      (no has 4 refl left.no
      (mov has 5 refl refl
      (jump has 6 1 refl
      (puts _ (value null) refl (names_null b.values fits.values.table.store)))))

  turn_by : (t : Truth) (f : Bool) → Told t f (b.registers R0)
      → RunsTo s 8 0 o b (o + 9) (Turned c depth k (when_true t (once_more (truth acc) (is_error acc)) acc) b)
  unfolding exists_one_turn
  turn_by No f right = begins has (yes has 0 8 refl right.no (arrived s refl (turned_same low outer so_far)))
  turn_by Other f right =
      begins has
      (no has 0 refl right.no
      (yes has 1 5 refl right.not_yes
      (mov has 7 refl refl
      (puts _ error refl (names_error b.values fits.values.table.store)))))
  turn_by Yes f right =
      begins has
      (no has 0 refl right.no
      (no has 1 refl right.not_yes
      (load has 2 (k + 3) refl fits.frame (omega arith) refl
      (counts right.yes (truth acc) (is_error acc) (told b.values r acc fits.values.table.store fits.values.canonical so_far)))))

  pub once_turns : (y : ValueOrError) → Names b.values.values (b.registers R0) y → RunsTo s 8 0 o b (o + 9) (Turned c depth k (once_step acc y) b)
  once_turns y named = turn_by (truth y) (is_error y) (told b.values _ y fits.values.table.store fits.values.canonical named)

-- after the loop
module _ (s : RunContext) (c : Context) (depth base o : ℕ) (b : CpuState) (fits : IsWellFormedState c depth base b) (acc : ValueOrError) (has : IsCodeAt s.image.code o exists_one_end) (named : Names b.values.values (b.registers R0) acc) where
  end_by : (u : Truth) (g : Bool) → Told u g (b.registers R0) → RunsTo s 3 0 o b (o + 3) (LeavesValue c depth base (once_by u g) b)
  end_by u true seen =
      begins has
      (yes has 0 2 refl seen.error
      (arrived s refl (shows_registers c depth base b _ refl error fits (rw (equal_is _ 0 seen.error) (names_error b.values fits.values.table.store)))))
  end_by Yes false seen =
      begins has
      (no has 0 refl seen.error
      (yes has 1 1 refl seen.yes
      (arrived s refl (shows_registers c depth base b _ refl (value (boolean true)) fits
      (rw (equal_is _ 3 seen.yes) (names_yes b.values fits.values.table.store))))))
  end_by _ false seen =
      begins has
      (no has 0 refl seen.error
      (no has 1 refl seen.yes
      (mov has 2 refl refl
      (arrived s refl (shows_registers c depth base b _ refl (value (boolean false)) fits (names_no b.values fits.values.table.store))))))

  pub once_ends : RunsTo s 3 0 o b (o + 3) (LeavesValue c depth base (once_end acc) b)
  once_ends = end_by (truth acc) (is_error acc) (told b.values _ acc fits.values.table.store fits.values.canonical named)
