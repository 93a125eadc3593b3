-- A turn of a macro: the code of its part, a tail, and the next result in its word.
use Rattle.expression_code.proofs.Prelude.{◌≡◌, ℕ, ◌+◌, ◌<◌, arith, List, ◌++◌, Some, Bool, true, false, Names, Register, R0, R10, ValueOrError, Value, value, CpuState, Context, IsWellFormedState, Preserves, LeavesValue, variable_count, Evaluates, Turned, AtTurn, TurnGives, with_item, set_word, word_at, slice_get, Insn, RunContext, RunsTo, IsCodeAt, size, fold_limit}
use Rattle.expression_code.proofs.Sites.{Site, StackFrame, Budget, site_at, in_frame, budget}
use Rattle.expression_code.proofs.Frames.{fits_below, keeps_same, keeps_stored, keeps_then, stored, kept_word}
use Rattle.expression_code.proofs.Values.{small_reference}
use Rattle.expression_code.proofs.Pieces.{size-append, stands_back, stands_front}
use Rattle.expression_code.proofs.Runs.{and_then, into, to_place}

module _ {c : Context} {depth k : ℕ} {x : ValueOrError} {b : CpuState} (low : k < fold_limit) where
  -- the result is unchanged; only registers have changed
  pub turned_registers : (registers : Register → ℕ) → registers R10 ≡ b.registers R10 → IsWellFormedState c depth k b
      → Names b.values.values (word_at depth (k + 3) b) x → Turned c depth k x b (record b { registers = registers })
  turned_registers registers same fits named = grind arith

  -- nothing has changed
  pub turned_same : IsWellFormedState c depth k b → Names b.values.values (word_at depth (k + 3) b) x → Turned c depth k x b b
  turned_same fits named = record { fits = fits; so_far = named; keeps = keeps_same (variable_count c) depth (k + 3) b }

  -- R0, which holds the next result, is stored in its word
  pub turned_put : {b1 : CpuState} → IsWellFormedState c depth k b → LeavesValue c depth (k + 5) x b b1 → Turned c depth k x b (set_word depth (k + 3) (b1.registers R0) b1)
  turned_put {b1} fits shown =
      let r = b1.registers R0 in
      let fits1 = fits_below c depth k (k + 5) b b1 (omega arith) (omega arith) fits shown.keeps shown.fits in
      let put = stored c depth k (k + 3) r b1 fits1 (omega arith) (omega arith) (small_reference b1.values r x fits1.values.table shown.shows) in
      grind (arith, keeps_then, keeps_same, keeps_stored)

-- the state before the turn was preserved
pub turned_after : {c : Context} {depth k : ℕ} {x : ValueOrError} {a b d : CpuState} → Preserves (variable_count c) depth (k + 5) a b → Turned c depth k x b d → Turned c depth k x a d
turned_after {c} {depth} {k} {x} {a} kept turned = grind arith

-- ---- the code of the part, followed by a tail

-- after the part the item's name is no longer defined
fits_outside : (c : Context) (depth k : ℕ) (n : List ℕ) (v : Value) (old new : CpuState) → k < fold_limit → IsWellFormedState c depth k old
    → Preserves (variable_count c) depth (k + 5) old new → IsWellFormedState (with_item c k n v) depth (k + 5) new → IsWellFormedState c depth (k + 5) new
fits_outside c depth k n v old new low first kept fits = grind arith

-- code for an expression in which the item has its name is a piece of a turn
pub item_gives : (site : Site) (piece : List Insn) (n : List ℕ) (acc : ValueOrError) (v : Value) (x : ValueOrError) (t : Budget) (b : CpuState)
    → site.frame.base < fold_limit → Evaluates site.setting site.slot piece (with_item site.frame.context site.frame.base n v) site.frame.depth (site.frame.base + 5) x t.steps t.charge → IsCodeAt site.setting.image.code site.slot piece → AtTurn site.frame.context site.frame.depth site.frame.base acc v b
    → RunsTo site.setting t.steps t.charge site.slot b (site.slot + size piece) (LeavesValue site.frame.context site.frame.depth (site.frame.base + 5) x b)
item_gives site piece n acc v x t b low gives has turn =
    into site.setting (LeavesValue site.frame.context site.frame.depth (site.frame.base + 5) x b) (λ b1 shown. record { shows = shown.shows; fits = fits_outside site.frame.context site.frame.depth site.frame.base n v b b1 low turn.fits shown.keeps shown.fits; keeps = shown.keeps }) (gives.runs b has (grind arith))

-- a CPU state after the part; R0 holds its value
pub record BehindPart (c : Context) (depth k : ℕ) (acc : ValueOrError) (v : Value) (x : ValueOrError) (b : CpuState) : Type 0 where
  pub outer : IsWellFormedState c depth k b
  pub fits : IsWellFormedState c depth (k + 5) b
  pub so_far : Names b.values.values (word_at depth (k + 3) b) acc
  pub item : Names b.values.values (word_at depth (k + 4) b) (value v)
  pub part_is : Names b.values.values (b.registers R0) x

pub behind : (frame : StackFrame) (acc : ValueOrError) (v : Value) (x : ValueOrError) (b b1 : CpuState) → frame.base < fold_limit → IsWellFormedState frame.context frame.depth frame.base b → LeavesValue frame.context frame.depth (frame.base + 5) x b b1 → Names b.values.values (word_at frame.depth (frame.base + 3) b) acc → Names b.values.values (word_at frame.depth (frame.base + 4) b) (value v) → BehindPart frame.context frame.depth frame.base acc v x b1
behind frame acc v x b b1 low first shown so_far item = record {
  outer = fits_below frame.context frame.depth frame.base (frame.base + 5) b b1 (omega arith) (omega arith) first shown.keeps shown.fits;
  fits = shown.fits;
  so_far = kept_word (frame.base + 3) acc (omega arith) (omega arith) shown.keeps so_far;
  item = kept_word (frame.base + 4) (value v) (omega arith) (omega arith) shown.keeps item;
  part_is = shown.shows;
}

-- The effect of a tail at slot q after a part that gives f v: it computes the next result, and jumps to slot `end` if
-- that is the last one.
pub record TailRuns (site : Site) (end : ℕ) (tail : List Insn) (items : List Value) (f : Value → ValueOrError) (g : ValueOrError → Value → ValueOrError) (is_last is_fine : ValueOrError → Bool) (steps charge : Value → ℕ) : Type 0 where
  pub goes_on : (b : CpuState) (acc : ValueOrError) (i : ℕ) (v : Value) → slice_get items i ≡ Some v → is_fine acc ≡ true → IsCodeAt site.setting.image.code site.slot tail → BehindPart site.frame.context site.frame.depth site.frame.base acc v (f v) b → is_last acc ≡ false → is_last (g acc v) ≡ false → RunsTo site.setting (steps v) (charge v) site.slot b (site.slot + size tail) (Turned site.frame.context site.frame.depth site.frame.base (g acc v) b)
  pub leaves : (b : CpuState) (acc : ValueOrError) (i : ℕ) (v : Value) → slice_get items i ≡ Some v → is_fine acc ≡ true → IsCodeAt site.setting.image.code site.slot tail → BehindPart site.frame.context site.frame.depth site.frame.base acc v (f v) b → is_last acc ≡ false → is_last (g acc v) ≡ true → RunsTo site.setting (steps v) (charge v) site.slot b end (LeavesValue site.frame.context site.frame.depth (site.frame.base + 5) (g acc v) b)
  pub last : (acc : ValueOrError) (v : Value) → is_last acc ≡ true → g acc v ≡ acc
  pub fine : (acc : ValueOrError) (i : ℕ) (v : Value) → slice_get items i ≡ Some v → is_fine acc ≡ true → is_fine (g acc v) ≡ true

module _ (s : RunContext) (o end : ℕ) (part tail : List Insn) (c : Context) (depth k : ℕ) (n : List ℕ) (items : List Value) (f : Value → ValueOrError) (g : ValueOrError → Value → ValueOrError) (is_last is_fine : ValueOrError → Bool) (steps charge more more_charge : Value → ℕ) (low : k < fold_limit) where
  tail_after : (Q : CpuState → CpuState → Type 0) → ((b1 b2 : CpuState) → Preserves (variable_count c) depth (k + 5) b1 b2 → (b3 : CpuState) → Q b2 b3 → Q b1 b3) → (q : ℕ) (b : CpuState) (acc : ValueOrError) (v : Value) → Evaluates s o part (with_item c k n v) depth (k + 5) (f v) (steps v) (charge v) → IsCodeAt s.image.code o (part ++ tail) → AtTurn c depth k acc v b → ((b1 : CpuState) → BehindPart c depth k acc v (f v) b1 → RunsTo s (more v) (more_charge v) (o + size part) b1 q (Q b1)) → RunsTo s (steps v + more v) (charge v + more_charge v) o b q (Q b)
  tail_after Q after q b acc v gives has turn runs =
      and_then s (more v) (more_charge v) q (Q b) (item_gives (site_at s o (in_frame c depth k)) part n acc v (f v) (budget (steps v) (charge v)) b low gives (stands_front s.image.code o part tail has) turn) (λ b1 g1.
      into s (Q b) (λ b2 g2. after b b1 g1.keeps b2 g2) (runs b1 (behind (in_frame c depth k) acc v (f v) b b1 low turn.fits g1 turn.so_far turn.item)))

  pub turn_gives : ((i : ℕ) (v : Value) → slice_get items i ≡ Some v → Evaluates s o part (with_item c k n v) depth (k + 5) (f v) (steps v) (charge v)) → TailRuns (site_at s (o + size part) (in_frame c depth k)) end tail items f g is_last is_fine more more_charge → TurnGives s o end (part ++ tail) c depth k items g is_last is_fine (λ v. steps v + more v) (λ v. charge v + more_charge v)
  turn_gives gives tails = record {
    goes_on = λ b acc i v item fine has turn not_last on.
        let place : o + size part + size tail ≡ o + size (part ++ tail) = omega (arith, size-append part tail) in
        to_place s _ place (tail_after (Turned c depth k (g acc v)) (λ b1 b2 kept b3 turned. turned_after kept turned) (o + size part + size tail) b acc v (gives i v item) has turn (λ b1 at. tails.goes_on b1 acc i v item fine (stands_back s.image.code o part tail has) at not_last on));
    leaves = λ b acc i v item fine has turn not_last ends.
        tail_after (LeavesValue c depth (k + 5) (g acc v)) (λ b1 b2 kept b3 shown. record { shows = shown.shows; fits = shown.fits; keeps = keeps_then (omega arith) kept shown.keeps }) end b acc v (gives i v item) has turn (λ b1 at. tails.leaves b1 acc i v item fine (stands_back s.image.code o part tail has) at not_last ends);
    last = tails.last;
    fine = tails.fine;
  }
