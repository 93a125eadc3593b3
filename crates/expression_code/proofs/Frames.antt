-- What is preserved when registers, words of the frame, memos and values change.
use Rattle.expression_code.proofs.Prelude.{◌≡◌, ℕ, ◌+◌, ◌^◌, ◌<◌, ◌≤◌, List, Some, refl, arith, inr, ◌⊎◌, slice_get, ℤ, Stack, Scratch, Verdict, IsMemory, Memory, put_word-other, put_word-same, with_word, same, ExtendsValues, Names, IsTable, Register, R0, R10, ValueOrError, Roots, CpuState, HelperPlaces, Tells, answered, Context, IsWellFormedState, HasValues, IsMemo, Preserves, LeavesValue, variable_count, Framed, memo_at, set_memo, set_verdict, set_word, stack_index, word_at, charge_limit, frame_words, memo_limit, word_limit, subst, sym, HoldsLists, IsEmptyOr, list_value, list_word, cases_eq, inl, Cores}
use Rattle.expression_code.proofs.Sites.{StackFrame, in_frame}
use Rattle.expression_code.proofs.Accesses.{has_memo, has_verdict, has_word}

-- ---- defined names

-- the contents of words and memos may change, and which words are in use, if each word in use keeps its value
pub fits_on : (frame : StackFrame) (base1 : ℕ) (old new : CpuState) → frame.base ≤ base1 → IsWellFormedState frame.context frame.depth frame.base old → Framed frame.depth new
    → HasValues frame.context.environment.roots new.values → new.memory.constants ≡ frame.context.constants
    → ((k : ℕ) (u : ValueOrError) → k < frame.base → Names old.values.values (word_at frame.depth k old) u → Names new.values.values (word_at frame.depth k new) u)
    → ((i : ℕ) (x : List ℕ × ValueOrError) → slice_get frame.context.environment.variables i ≡ Some x → IsMemo new.values.values (memo_at i new) x.1)
    → HoldsLists frame.context.words.lists frame.depth new
    → IsWellFormedState frame.context frame.depth base1 new
fits_on frame base1 old new le fits framed values constants names memos lists = record {
  frame = framed;
  values = values;
  holds = record {
    names = λ n. grind arith;
    path = λ x at. let here = fits.holds.path x at in let below = here.0 in (omega arith, names 0 _ below here.1);
    memos = memos;
    lists = lists;
  };
  constants = constants;
}

-- ---- a word of the frame is stored

pub frame_with : (depth : ℕ) (b : CpuState) (m : Memory) → Framed depth b → IsMemory m → Framed depth (record b { memory = m })
frame_with depth b m f is = record { shallow = f.shallow; pointer_is = f.pointer_is; records_are = f.records_are; memory = is }

module _ (depth k w : ℕ) (b : CpuState) (f : Framed depth b) (below : k < frame_words) where
  frame_stored : Framed depth (set_word depth k w b)
  frame_stored = frame_with depth b _ f (with_word b.memory Stack (stack_index depth k) w (has_word depth k b f below) f.memory)

  pub word_stored : w < 2 ^ 64 → word_at depth k (set_word depth k w b) ≡ w
  word_stored small = put_word-same b.memory.stack (stack_index depth k) w (has_word depth k b f below) small

  word_kept : (d j : ℕ) → j < frame_words → (d < depth) ⊎ ((d ≡ depth) × (j ≡ k → ⊥)) → word_at d j (set_word depth k w b) ≡ word_at d j b
  word_kept d j inside apart = grind (arith, put_word-other, has_word)

  pub keeps_stored : (count base : ℕ) → base ≤ k → Preserves count depth base b (set_word depth k w b)
  keeps_stored count base le = grind (arith, word_kept, same)

-- ---- the effect of a store into a word that is not in use

pub record Stored (c : Context) (depth base k w : ℕ) (b : CpuState) : Type 0 where
  pub fits : IsWellFormedState c depth base (set_word depth k w b)
  pub keeps : Preserves (variable_count c) depth base b (set_word depth k w b)
  pub here : word_at depth k (set_word depth k w b) ≡ w
  pub other : (j : ℕ) → j < frame_words → (j ≡ k → ⊥) → word_at depth j (set_word depth k w b) ≡ word_at depth j b

pub stored : (c : Context) (depth base k w : ℕ) (b : CpuState) → IsWellFormedState c depth base b → base ≤ k → k < word_limit → w < 2 ^ 64 → Stored c depth base k w b
stored c depth base k w b fits le low small =
    let below : k < frame_words = omega arith in
    let other : (j : ℕ) → j < frame_words → (j ≡ k → ⊥) → word_at depth j (set_word depth k w b) ≡ word_at depth j b =
    λ j inside ne. word_kept depth k w b fits.frame below depth j inside (inr (refl, ne)) in
    record {
      fits = fits_on (in_frame c depth base) base b _ (omega arith) fits (frame_stored depth k w b fits.frame below) fits.values fits.constants
          (λ j u inside named. rw (other j (omega arith) (λ e. omega arith)) named) fits.holds.memos
          (λ i items is. let held = fits.holds.lists i items is in (held.0, subst (λ (v : ℕ). IsEmptyOr b.values.values v (list_value items)) (sym (other (list_word i) held.0 (λ e. omega arith))) held.1));
      keeps = keeps_stored depth k w b fits.frame below (variable_count c) base le;
      here = word_stored depth k w b fits.frame below small;
      other = other;
    }

-- ---- the effect of a store into the word of a list

module _ (c : Context) (depth base i w : ℕ) (b : CpuState) (fits : IsWellFormedState c depth base b) (inside : list_word i < frame_words) (named : (items : Cores) → slice_get c.words.lists i ≡ Some items → IsEmptyOr b.values.values w (list_value items)) (small : w < 2 ^ 64) where
  abbrev b1 : CpuState
  b1 = set_word depth (list_word i) w b

  -- the word of each list is 0 or holds its value, if w does
  lists_stored : HoldsLists c.words.lists depth b1
  lists_stored j items is =
      let held = fits.holds.lists j items is in
      elim (cases_eq j i) [
        | inl same ↦ (held.0, (grind (arith, word_stored)))
        | inr other ↦ (held.0, subst (λ (v : ℕ). IsEmptyOr b.values.values v (list_value items)) (sym (word_kept depth (list_word i) w b fits.frame inside depth (list_word j) held.0 (inr (refl, λ e. other (omega arith))))) held.1)
      ]

  pub list_stored : base ≤ word_limit → IsWellFormedState c depth base b1
  list_stored low =
      fits_on (in_frame c depth base) base b b1 (omega arith) fits (frame_stored depth (list_word i) w b fits.frame inside) fits.values fits.constants
      (λ j u below u_named. rw (word_kept depth (list_word i) w b fits.frame inside depth j (omega arith) (inr (refl, λ e. omega arith))) u_named) fits.holds.memos lists_stored

-- ---- a memo is stored

module _ (depth i w : ℕ) (b : CpuState) (f : Framed depth b) (below : i < memo_limit) where
  pub frame_memo : Framed depth (set_memo i w b)
  frame_memo = frame_with depth b _ f (with_word b.memory Scratch i w (has_memo i b.memory f.memory below) f.memory)

  pub memo_stored : w < 2 ^ 64 → memo_at i (set_memo i w b) ≡ w
  memo_stored small = put_word-same b.memory.scratch i w (has_memo i b.memory f.memory below) small

  pub memo_kept : (j : ℕ) → (j ≡ i → ⊥) → memo_at j (set_memo i w b) ≡ memo_at j b
  memo_kept j other = put_word-other b.memory.scratch i w (has_memo i b.memory f.memory below) j other

-- ---- a word of the verdict region is stored

pub fits_verdict : (depth i w : ℕ) (b : CpuState) → Framed depth b → i < 256 → (c : Context) (base : ℕ) → IsWellFormedState c depth base b
    → IsWellFormedState c depth base (set_verdict i w b)
fits_verdict depth i w b f below c base fits =
    fits_on (in_frame c depth base) base b _ (omega arith) fits (frame_with depth b _ f
    (with_word b.memory Verdict i w (has_verdict i b.memory f.memory below) f.memory)) fits.values fits.constants
    (λ k u inside named. named) fits.holds.memos fits.holds.lists

-- ---- more or fewer words in use

pub fits_above : (c : Context) (depth base k : ℕ) (b : CpuState) → base ≤ k → IsWellFormedState c depth base b → IsWellFormedState c depth k b
fits_above c depth base k b le fits = fits_on (in_frame c depth base) k b b le fits fits.frame fits.values fits.constants (λ j u inside named. named) fits.holds.memos fits.holds.lists

-- a word in use keeps its value
pub kept_word : {count depth base : ℕ} {a b : CpuState} (k : ℕ) (x : ValueOrError) → k < base → k < frame_words → Preserves count depth base a b
    → Names a.values.values (word_at depth k a) x → Names b.values.values (word_at depth k b) x
kept_word {depth = depth} {a = a} k x below inside kept named = rw (kept.words depth k inside (inr (refl, below))) (kept.values (word_at depth k a) x named)

-- a CPU state that is well-formed with more words in use, with the same words below base as one with fewer
pub fits_below : (c : Context) (depth base k : ℕ) (old new : CpuState) → base ≤ k → base ≤ frame_words → IsWellFormedState c depth base old → Preserves (variable_count c) depth k old new
    → IsWellFormedState c depth k new → IsWellFormedState c depth base new
fits_below c depth base k old new le low first kept fits =
    fits_on (in_frame c depth base) base old new (omega arith) first fits.frame fits.values fits.constants
    (λ j u inside named. kept_word j u (omega arith) (omega arith) kept named) fits.holds.memos fits.holds.lists

-- ---- what is preserved from one CPU state to the next

pub keeps_same : (count depth base : ℕ) (b : CpuState) → Preserves count depth base b b
keeps_same count depth base b = record { words = λ d k inside h. refl; values = λ r x h. h; records = refl; pointer = refl; verdict = refl; constants = refl; memos = λ i above. refl }

pub keeps_then : {count depth base k : ℕ} {a b c : CpuState} → base ≤ k → Preserves count depth base a b → Preserves count depth k b c → Preserves count depth base a c
keeps_then {count} {depth} {base} {k} le f g = grind (arith, same)

-- ---- only registers have changed

module _ (c : Context) (depth base : ℕ) (b : CpuState) (registers : Register → ℕ) (same : registers R10 ≡ b.registers R10) where
  pub fits_registers : IsWellFormedState c depth base b → IsWellFormedState c depth base (record b { registers = registers })
  fits_registers fits = grind arith

  pub keeps_registers : (count : ℕ) → Preserves count depth base b (record b { registers = registers })
  keeps_registers count = record { words = λ d k inside h. refl; values = λ r x h. h; records = refl; pointer = same; verdict = refl; constants = refl; memos = λ i above. refl }

  pub shows_registers : (x : ValueOrError) → IsWellFormedState c depth base b → Names b.values.values (registers R0) x
      → LeavesValue c depth base x b (record b { registers = registers })
  shows_registers x fits h = grind arith

-- ---- a helper has returned

module _ (depth base w charge : ℕ) (list : List ValueOrError) (b : CpuState) (extends : ExtendsValues b.values.values list) where
  pub keeps_answered : (count : ℕ) → Preserves count depth base b (answered b w list charge)
  keeps_answered count = record { words = λ d j inside h. refl; values = extends.kept; records = refl; pointer = refl; verdict = refl; constants = refl; memos = λ j above. refl }

  pub values_answered : (roots : Roots) → IsTable (record { values = list; charge = charge }) → HasValues roots b.values
      → HasValues roots (record { values = list; charge = charge })
  values_answered roots table old = record { table = table; canonical = extends.canonical old.canonical; stand = (grind arith) }

  pub fits_answered : (c : Context) → IsTable (record { values = list; charge = charge }) → IsWellFormedState c depth base b → IsWellFormedState c depth base (answered b w list charge)
  fits_answered c table fits =
      fits_on (in_frame c depth base) base b _ (omega arith) fits (frame_with depth b b.memory fits.frame fits.frame.memory)
      (values_answered c.environment.roots table fits.values) fits.constants
      (λ k u inside named. extends.kept _ u named) (λ i x is. (grind arith))
      (λ i items is. let held = fits.holds.lists i items is in (held.0, elim held.1 [ inl empty ↦ inl empty | inr named ↦ inr (extends.kept _ (list_value items) named) ]))

module _ {c : Context} {depth base k : ℕ} {x : ValueOrError} {a b d : CpuState} where
  -- what follows a state that was preserved
  pub shows_after : base ≤ k → base ≤ frame_words → Preserves (variable_count c) depth base a b → LeavesValue c depth k x b d → IsWellFormedState c depth base b
      → LeavesValue c depth base x a d
  shows_after le low kept shown first = record { shows = shown.shows; fits = fits_below c depth base k b d le low first shown.keeps shown.fits; keeps = keeps_then le kept shown.keeps }

-- ---- a well-formed CPU state, after one from which everything was preserved that code for an expression preserves

pub record Stays (c : Context) (depth base : ℕ) (old new : CpuState) : Type 0 where
  pub fits : IsWellFormedState c depth base new
  pub keeps : Preserves (variable_count c) depth base old new

pub begun : {c : Context} {depth base : ℕ} {b : CpuState} → IsWellFormedState c depth base b → Stays c depth base b b
begun {c} {depth} {base} {b} fits = record { fits = fits; keeps = keeps_same (variable_count c) depth base b }

module _ {c : Context} {depth base : ℕ} {a b : CpuState} (st : Stays c depth base a b) where
  -- only registers change
  pub moved : (registers : Register → ℕ) → registers R10 ≡ b.registers R10 → Stays c depth base a (record b { registers = registers })
  moved registers same = grind arith

  -- a helper returns
  pub placed : {helper : ℤ} {x : ValueOrError} {cost : ℕ} (p : HelperPlaces helper b x cost) → b.values.charge + cost ≤ charge_limit
      → Stays c depth base a (answered b p.word p.list (b.values.charge + cost))
  placed {cost = cost} p paid = record {
    fits = fits_answered depth base p.word (b.values.charge + cost) p.list b p.extends c (p.table paid) st.fits;
    keeps = keeps_then (omega arith) st.keeps (keeps_answered depth base p.word (b.values.charge + cost) p.list b p.extends (variable_count c));
  }

  pub said : {helper : ℤ} {w cost : ℕ} → Tells helper b w cost → b.values.charge + cost ≤ charge_limit
      → Stays c depth base a (answered b w b.values.values (b.values.charge + cost))
  said {w = w} {cost = cost} t paid = grind (arith, fits_answered, same, keeps_then, keeps_answered)

  -- R0 holds a value
  pub shown : {x : ValueOrError} → Names b.values.values (b.registers R0) x → LeavesValue c depth base x a b
  shown named = record { shows = named; fits = st.fits; keeps = st.keeps }
