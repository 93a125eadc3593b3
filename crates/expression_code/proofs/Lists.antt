-- Values that are built part by part in a word of the frame, and the code of a list literal, which gives the list of
-- its items.
-- For the laws in `specs/Gives/Aggregates`.
use Rattle.expression_code.proofs.Prelude.{ℕ, ◌+◌, ◌<◌, ◌≤◌, List, [], ◌∷◌, ◌++◌, refl, sym, subst, arith, ◌≡◌, max, Option, Some, None, ap, ◌∙◌, ℤ, pos, fold as fold_left, depth_limit, Names, Insn, Call, R0, R1, R2, result_depth, items_depth, depth_of, ValueOrError, Value, error, value, list, Items, no_items, item, items_join, items_of, items_push, CpuState, set_register, HelperPlaces, answered, Context, IsWellFormedState, Evaluates, Preserves, LeavesValue, variable_count, RunContext, RunsTo, Builds, Made, MadeInR0, ItemsGive, ListGives, MayHold, IsCodeAt, size, set_word, word_at, le-leb, pushed, values_in, item_code, list_code, push_tail, frame_words, word_limit}
use Rattle.expression_code.proofs.Sites.{Site, Budget, site_at, in_frame, budget, past, above, EvaluatesAt, BuildsAt, ItemsAt}
use Rattle.expression_code.proofs.Frames.{fits_above, keeps_same, keeps_then, kept_word, shows_after, stored}
use Rattle.expression_code.proofs.Listings.{ask, begins, store, calls, load, mov, refused}
use Rattle.expression_code.proofs.Operators.{shows_placed}
use Rattle.expression_code.proofs.Pieces.{runs_both, size-append}
use Rattle.expression_code.proofs.Runs.{done, into, looser, arrived, by_limit, to_place}
use Rattle.expression_code.proofs.Values.{small_reference}
use Rattle.expression_code.proofs.HelperAnswers.{helpers}
use Rattle.expression_code.specs.Instructions as insn

-- ---- values that are built part by part

-- R0 is stored in the word
pub made_stored : (c : Context) (depth k : ℕ) (x : ValueOrError) (a b : CpuState) → k < word_limit → result_depth x ≤ depth_limit → LeavesValue c depth k x a b
    → MadeInR0 c depth k x a (set_word depth k (b.registers R0) b)
made_stored c depth k x a b low within shown =
    let r = b.registers R0 in
    let st = stored c depth k k r b shown.fits (omega arith) low (small_reference b.values r x shown.fits.values.table shown.shows) in
    grind (arith, keeps_then)

-- the value so far is kept while code for a part runs
pub record Beside (c : Context) (depth k : ℕ) (l x : ValueOrError) (old new : CpuState) : Type 0 where
  pub made : Made c depth k l new
  pub shows : Names new.values.values (new.registers R0) x
  pub keeps : Preserves (variable_count c) depth k old new

pub beside : (c : Context) (depth k : ℕ) (l x : ValueOrError) (a b : CpuState) → k < 63 → Made c depth k l a → LeavesValue c depth (k + 1) x a b → Beside c depth k l x a b
beside c depth k l x a b low made shown =
    let whole = shows_after {c = c} {depth = depth} {base = k} {k = k + 1} {x = x} {a = a} {b = a} {d = b} (omega arith) (omega arith) (keeps_same (variable_count c) depth k a) shown made.fits in
    grind (arith, kept_word)

pub part_runs : (site : Site) (part : List Insn) (l x : ValueOrError) (t : Budget) (b : CpuState) → site.frame.base < 63 → IsCodeAt site.setting.image.code site.slot part → Made site.frame.context site.frame.depth site.frame.base l b → EvaluatesAt (above 1 site) part x t → RunsTo site.setting t.steps t.charge site.slot b (site.slot + size part) (Beside site.frame.context site.frame.depth site.frame.base l x b)
part_runs site part l x t b low has made gives =
    into site.setting (Beside site.frame.context site.frame.depth site.frame.base l x b) (λ b1 g1. beside site.frame.context site.frame.depth site.frame.base l x b b1 low made g1) (gives.runs b has (fits_above site.frame.context site.frame.depth site.frame.base (site.frame.base + 1) b (omega arith) made.fits))

module _ (s : RunContext) {c : Context} {depth k : ℕ} {x : ValueOrError} {a b : CpuState} where
  -- what the earlier piece preserved is preserved when something is built after it
  pub made_behind : {n m p q : ℕ} → Preserves (variable_count c) depth k a b
      → RunsTo s n m p b q (MadeInR0 c depth k x b) → RunsTo s n m p b q (MadeInR0 c depth k x a)
  made_behind kept run =
      into s (MadeInR0 c depth k x a) (λ b1 g. record { made = g.made; shows = g.shows; keeps = keeps_then (omega arith) kept g.keeps }) run

-- ---- pieces that build

pub builds_then : (site : Site) (first second : List Insn) (f g : ValueOrError → ValueOrError) (t u : Budget) → BuildsAt site first f t → BuildsAt (past (size first) site) second g u → BuildsAt site (first ++ second) (λ x. g (f x)) (budget (t.steps + u.steps) (t.charge + u.charge))
builds_then site first second f g t u before after = record {
  runs = λ b x has made named.
      runs_both site.setting site.slot first second u.steps u.charge (MadeInR0 site.frame.context site.frame.depth site.frame.base (g (f x)) b) has (λ front. before.runs b x front made named) (λ b1 back g1. made_behind site.setting g1.keeps (after.runs b1 (f x) back g1.made g1.shows));
}

-- ---- a literal: an empty list or map, and its parts

module _ (s : RunContext) (p k : ℕ) (helper : ℤ) (empty : ValueOrError) (low : k < word_limit) (flat : result_depth empty ≤ depth_limit) (c : Context) (depth : ℕ) where
  abbrev head : List Insn
  head = Call helper ∷ insn.store k R0 ∷ []

  head_runs : (b : CpuState) → IsCodeAt s.image.code p head → IsWellFormedState c depth k b → HelperPlaces helper b empty 1 → RunsTo s 2 1 p b (p + 2) (MadeInR0 c depth k empty b)
  head_runs b has fits a =
      looser s {n = 2} {x = 1 + 0} 2 1 (omega arith) (omega arith)
      (begins has
      (ask has 0 refl a.answers (λ paid.
      let shown = shows_placed (in_frame c depth k) helper empty 1 b b.registers (omega arith) refl fits a paid in
      store has 1 k refl shown.fits.frame (omega arith)
      (done s (p + 2) _ _ (made_stored c depth k empty b (answered b a.word a.list (b.values.charge + 1)) low flat shown)))))

  pub literal_runs : (parts : List Insn) (f : ValueOrError → ValueOrError) (n x : ℕ) → ((b : CpuState) → IsWellFormedState c depth k b → HelperPlaces helper b empty 1)
      → Builds s (p + 2) parts c depth k f n x → Evaluates s p (head ++ parts) c depth k (f empty) (2 + n) (1 + x)
  literal_runs parts f n x answers builds = record {
    runs = λ b has fits.
        let Q = LeavesValue c depth k (f empty) b in
        runs_both s p head parts n x Q has (λ front. head_runs b front fits (answers b fits)) (λ b1 back g1.
        into s Q (λ b2 g2. record { shows = g2.shows; fits = g2.made.fits; keeps = keeps_then (omega arith) g1.keeps g2.keeps }) (builds.runs b1 empty back g1.made g1.shows));
  }

-- ---- appending the items from first to last gives the list

join_none : (is : Items) → items_join is no_items ≡ is
join_none no_items = refl
join_none (item v is) = ap (item v) (join_none is)

join_push : (is : Items) (v : Value) (js : Items) → items_join (items_push is v) js ≡ items_join is (item v js)
join_push no_items v js = refl
join_push (item w is) v js = ap (item w) (join_push is v js)

-- a list with these items appended
abbrev joined_with : Items → Option (List Value) → ValueOrError
joined_with is (Some vs) = value (list (items_join is (items_of vs)))
joined_with is None = error

error_stays : (xs : List ValueOrError) → fold_left pushed error xs ≡ error
error_stays [] = refl
error_stays (x ∷ xs) = error_stays xs

pushes_are : (is : Items) (xs : List ValueOrError) → fold_left pushed (value (list is)) xs ≡ joined_with is (values_in xs)
pushes_are is [] = sym (ap (λ (js : Items). value (list js)) (join_none is))
pushes_are is (error ∷ xs) = error_stays xs
pushes_are is (value v ∷ xs) = pushes_are (items_push is v) xs ∙ (grind (arith, join_push))

-- ---- the depth of a list

push_depth : (is : Items) (v : Value) → items_depth (items_push is v) ≡ max (items_depth is) (depth_of v)
push_depth no_items v = omega arith
push_depth (item w is) v = let h = push_depth is v in omega arith

pub pushed_depth : (l x : ValueOrError) → result_depth (pushed l x) ≤ max (result_depth l) (1 + result_depth x)
pushed_depth l x = grind (arith, push_depth)

-- ---- an item

module _ (s : RunContext) (k : ℕ) (c : Context) (depth : ℕ) (low : k < word_limit) (l x : ValueOrError) (held : MayHold s x) where
  push_by : (q : ℕ) (a b : CpuState) → IsCodeAt s.image.code q (push_tail k) → Beside c depth k l x a b → RunsTo s 4 2 q b (q + 4) (MadeInR0 c depth k (pushed l x) b)
  push_by q a b has g =
      let fits = g.made.fits in
      let asks = set_register (set_register b R2 (b.registers R0)) R1 (word_at depth k b) in
      begins has
      (mov has 0 refl refl
      (load has 1 k refl fits.frame (omega arith) refl
      (by_limit (result_depth (pushed l x)) depth_limit
      (λ within.
      let called = helpers.push c.environment.roots asks l x fits.values g.made.named g.shows within in
      calls has 2 refl called.answers (omega arith) (λ paid.
      let shown = shows_placed (in_frame c depth k) (pos 17) (pushed l x) 2 b asks.registers (omega arith) refl fits called paid in
      store has 3 k refl shown.fits.frame (omega arith)
      (arrived s refl (made_stored c depth k (pushed l x) b _ (omega arith) within shown))))
      (λ over.
      let most = pushed_depth l x in
      refused has 2 refl (helpers.push_deep asks l x g.made.named g.shows over) (held (le-leb depth_limit (result_depth x) (omega arith)))))))

item_builds : (site : Site) (part : List Insn) (x : ValueOrError) (t : Budget) → site.frame.base < word_limit → MayHold site.setting x
    → EvaluatesAt (above 1 site) part x t → BuildsAt site (item_code part site.frame.base) (λ l. pushed l x) (budget (t.steps + 4) (t.charge + 2))
item_builds site part x t low held gives = record {
  runs = λ b l has made named.
      runs_both site.setting site.slot part (push_tail site.frame.base) 4 2 (MadeInR0 site.frame.context site.frame.depth site.frame.base (pushed l x) b) has
      (λ front. part_runs site part l x t b (omega arith) front made gives)
      (λ b1 back g. made_behind site.setting g.keeps (push_by site.setting site.frame.base site.frame.context site.frame.depth low l x held (site.slot + size part) b b1 back g));
}

-- ---- the literal

more_items : (site : Site) (part parts : List Insn) (x : ValueOrError) (xs : List ValueOrError) (t u : Budget) → site.frame.base < word_limit
    → MayHold site.setting x → EvaluatesAt (above 1 site) part x t → ItemsAt (past 4 (past (size part) site)) parts xs u
    → ItemsAt site (item_code part site.frame.base ++ parts) (x ∷ xs) (budget (t.steps + 4 + u.steps) (t.charge + 2 + u.charge))
more_items site part parts x xs t u low held gives rest =
    let place : site.slot + size part + 4 ≡ site.slot + size (item_code part site.frame.base) = omega (arith, size-append part (push_tail site.frame.base)) in
    builds_then site (item_code part site.frame.base) parts (λ l. pushed l x) (λ l. fold_left pushed l xs) (budget (t.steps + 4) (t.charge + 2)) u
    (item_builds site part x t low held gives)
    (subst (λ (q : ℕ). ItemsGive site.setting q parts site.frame.context site.frame.depth site.frame.base xs u.steps u.charge) place rest)

pub list_gives : ListGives
list_gives = record {
  none = grind (arith, to_place, done, keeps_same);
  more = λ s p k part parts c depth x xs n1 x1 n2 x2. more_items (site_at s p (in_frame c depth k)) part parts x xs (budget n1 x1) (budget n2 x2);
  whole = λ s p k parts c depth xs n x low builds.
      subst (λ (y : ValueOrError). Evaluates s p (list_code parts k) c depth k y (2 + n) (1 + x)) (pushes_are no_items xs ∙ (grind arith))
      (literal_runs s p k (pos 16) (value (list no_items)) (omega arith) (omega arith) c depth parts (λ l. fold_left pushed l xs) n x (λ b fits. helpers.list_new c.environment.roots b fits.values) builds);
}
