-- The code of `map` with a predicate gives its fold: the transform runs if the predicate is true.
use Rattle.expression_code.proofs.Prelude.{◌≡◌, ℕ, suc, ◌+◌, ◌*◌, ◌<◌, ◌≤◌, List, [], ◌∷◌, ◌++◌, Some, Bool, true, false, refl, subst, arith, pos, Eq, Ne, Insn, R0, Value, ValueOrError, error, value, list, no_items, is_error, map_step, pushed, when_true, Truth, Yes, No, Other, chosen, truth, range_of, CpuState, first_empty, map_where_code, map_where_turn, false_ref, true_ref, Context, Evaluates, RunContext, RunsTo, IsItem, MapWhereGives, charge_budget, is_too_deep, items_spent, items_visits, step_budget, Turned, fold_code, with_item, IsCodeAt, size, fold_limit, part_steps_per_visit, part_charge_per_unit}
use Rattle.expression_code.proofs.Sites.{site_at, in_frame, budget}
use Rattle.expression_code.specs.Instructions as insn
use Rattle.expression_code.proofs.Frames.{shows_registers}
use Rattle.expression_code.proofs.Listings.{begins, jump, mov, no, store, yes}
use Rattle.expression_code.proofs.Logic.{told_in}
use Rattle.expression_code.proofs.Folds.Budgets.{chosen_shallow, deep_excused, empty_gives, fold_within, gives_within, is_shallow}
use Rattle.expression_code.proofs.Folds.Tails.{push_code, push_runs}
use Rattle.expression_code.proofs.Folds.Turn.{BehindPart, TailRuns, behind, item_gives, turn_gives, turned_after, turned_put, turned_same}
use Rattle.expression_code.proofs.Pieces.{size-append, size-cons, stands_back, stands_front}
use Rattle.expression_code.proofs.Runs.{and_then, arrived, from_place, looser, to_place}
use Rattle.expression_code.proofs.Values.{Told, names_error}

-- ---- the tail after the predicate

module _ (s : RunContext) (q : ℕ) (transform : List Insn) (c : Context) (depth k : ℕ) (n : List ℕ) (acc : ValueOrError) (v : Value) (x y : ValueOrError) (n2 x2 : ℕ) (low : k < fold_limit) (has : IsCodeAt s.image.code q (map_where_turn transform k)) where
  abbrev to_kept : Insn
  to_kept = insn.jump_if_imm Eq R0 false_ref (size transform + 7)

  abbrev to_error : Insn
  to_error = insn.jump_if_imm Ne R0 true_ref (size transform + 4)

  abbrev others : List Insn
  others = insn.ja 1 ∷ insn.mov_imm R0 (pos 0) ∷ insn.store (k + 3) R0 ∷ []

  abbrev last : List Insn
  last = push_code k ++ others

  abbrev o : ℕ
  o = q + 2 + size transform

  has2 : IsCodeAt s.image.code (q + 2) (transform ++ last)
  has2 = stands_back s.image.code q (to_kept ∷ to_error ∷ []) (transform ++ last) has

  has3 : IsCodeAt s.image.code o last
  has3 = stands_back s.image.code (q + 2) transform last has2

  pub tail_end : o + 6 ≡ q + size (map_where_turn transform k)
  tail_end = omega (arith, size-cons to_kept (to_error ∷ (transform ++ last)), size-cons to_error (transform ++ last), size-append transform last)

  tail_by : (u : Truth) (fails : Bool) → (u ≡ Yes → Evaluates s (q + 2) transform (with_item c k n v) depth (k + 5) y n2 x2)
      → (u ≡ Yes → is_too_deep y ≡ true → s.is_deep ≡ true) → is_shallow s.is_deep acc ≡ true → (b : CpuState) → BehindPart c depth k acc v x b
      → Told u fails (b.registers R0) → RunsTo s (chosen u n2 0 0 + 7) (chosen u x2 0 0 + 2) q b (o + 6) (Turned c depth k (when_true u (pushed acc y) acc) b)
  tail_by Yes fails gives may fine b at told =
      let Q = Turned c depth k (pushed acc y) b in
      looser s {n = suc (suc (n2 + (3 + 2)))} {x = x2 + (2 + 0)} (n2 + 7) (x2 + 2) (omega arith) (omega arith)
      (begins has
      (no has 0 refl told.no
      (no has 1 refl told.not_yes
      (and_then s (3 + 2) (2 + 0) (o + 6) Q (item_gives (site_at s (q + 2) (in_frame c depth k)) transform n acc v y (budget n2 x2) b low (gives refl) (stands_front s.image.code (q + 2) transform last has2) (record { fits = at.outer; so_far = at.so_far; item = at.item })) (λ b1 g1.
      let at1 = behind (in_frame c depth k) acc v y b b1 low at.outer g1 at.so_far at.item in
      and_then s 2 0 (o + 6) Q (push_runs s c depth k o low b1 at1.fits acc y (stands_front s.image.code o (push_code k) others has3) at1.part_is at1.so_far (deep_excused s.is_deep acc y (may refl) fine)) (λ b2 g2.
      jump has3 3 1 refl
      (store has3 5 (k + 3) refl g2.fits.frame (omega arith) (arrived s refl (turned_after g1.keeps (turned_put low at1.outer g2))))))))))
  tail_by No fails gives may fine b at told = begins has (yes has 0 (size transform + 7) refl told.no
      (arrived s (omega arith) (turned_same low at.outer at.so_far)))
  tail_by Other fails gives may fine b at told =
      begins has
      (no has 0 refl told.no
      (yes has 1 (size transform + 4) refl told.not_yes
      (from_place s _ (omega arith)
      (mov has3 4 refl refl
      (store has3 5 (k + 3) refl at.fits.frame (omega arith)
      (arrived s refl (turned_put low at.outer (shows_registers c depth (k + 5) b _ refl error at.fits (names_error b.values at.fits.values.table.store)))))))))

  pub where_turns : (truth x ≡ Yes → Evaluates s (q + 2) transform (with_item c k n v) depth (k + 5) y n2 x2)
      → (truth x ≡ Yes → is_too_deep y ≡ true → s.is_deep ≡ true) → is_shallow s.is_deep acc ≡ true → (b : CpuState) → BehindPart c depth k acc v x b
      → RunsTo s (chosen (truth x) n2 0 0 + 7) (chosen (truth x) x2 0 0 + 2) q b (q + size (map_where_turn transform k)) (Turned c depth k (when_true (truth x) (pushed acc y) acc) b)
  where_turns gives may fine b at =
      to_place s _ tail_end (tail_by (truth x) (is_error x) gives may fine b at (told_in c depth (k + 5) (b.registers R0) x b at.fits at.part_is))

-- ---- the whole

-- budgets of the code that runs if a predicate is true
chosen_steps : (t : Truth) (n : ℕ) → chosen t (step_budget n) 0 0 ≤ part_steps_per_visit * chosen t n 0 0
chosen_steps t n = grind arith

chosen_charge : (t : Truth) (n : ℕ) → chosen t (charge_budget n) 0 0 ≤ part_charge_per_unit * chosen t n 0 0
chosen_charge t n = grind arith

pub map_where_gives : MapWhereGives
map_where_gives s p k depth range predicate transform c n r t f w x visits spent visits_then spent_then low gives_range gives_predicate gives_transform may =
    let tail = map_where_turn transform k in
    let turn = predicate ++ tail in
    let end = p + size (fold_code k range first_empty turn) in
    let q = p + size range + 17 + size predicate in
    let g = map_step (λ v. truth (t v)) f in
    let all_visits : Value → ℕ = λ v. visits v + chosen (truth (t v)) (visits_then v) 0 0 in
    let all_spent : Value → ℕ = λ v. spent v + chosen (truth (t v)) (spent_then v) 0 0 in
    let more : Value → ℕ = λ v. chosen (truth (t v)) (step_budget (visits_then v)) 0 0 + 7 in
    let more_charge : Value → ℕ = λ v. chosen (truth (t v)) (charge_budget (spent_then v)) 0 0 + 2 in
    let steps = step_budget (1 + w + items_visits all_visits (range_of r)) in
    let charge = charge_budget (9 + x + items_spent all_spent (range_of r)) in
    let tails : (items : List Value) → range_of r ≡ Some items → TailRuns (site_at s q (in_frame c depth k)) end tail items t g (λ a. false) (is_shallow s.is_deep) more more_charge = λ items is. record {
      goes_on = λ b acc i v item fine has at not_last on.
          let inside : IsItem r v = record { items = items; place = i; range_is = is; item_is = item } in
          where_turns s q transform c depth k n acc v (t v) (f v) (step_budget (visits_then v)) (charge_budget (spent_then v)) low has (gives_transform v inside) (may v inside) fine b at;
      leaves = λ b acc i v item fine has at not_last ends. absurd (cc);
      last = λ acc v e. absurd (cc);
      fine = λ acc i v item fine. chosen_shallow s.is_deep (truth (t v)) acc (f v) (may v (record { items = items; place = i; range_is = is; item_is = item })) fine;
    } in
    subst (λ (y : ValueOrError). Evaluates s p (map_where_code k range predicate transform) c depth k y steps charge) (grind arith)
    (gives_within s p (map_where_code k range predicate transform) c depth k _ _ _ _ _ (omega arith) (omega arith)
    (fold_within s p k depth range first_empty turn c r (value (list no_items)) g (λ a. false) (is_shallow s.is_deep) w x all_visits all_spent (λ v. step_budget (visits v) + more v) (λ v. charge_budget (spent v) + more_charge v) low refl (grind arith) refl gives_range (empty_gives s (p + size range + 9) c depth (k + 3) (omega arith))
    (λ items is. turn_gives s (p + size range + 17) end predicate tail c depth k n items t g (λ a. false) (is_shallow s.is_deep) (λ v. step_budget (visits v)) (λ v. charge_budget (spent v)) more more_charge low
    (λ i v item. gives_predicate v (record { items = items; place = i; range_is = is; item_is = item }))
    (tails items is))
    (λ v. omega (arith, chosen_steps (truth (t v)) (visits_then v))) (λ v. omega (arith, chosen_charge (truth (t v)) (spent_then v)))))
