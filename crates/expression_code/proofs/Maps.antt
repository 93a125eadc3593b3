-- The code of a map literal gives the map of its entries, or the error if a key is repeated or is not a text, or if a
-- part is the error.
-- For the laws in `specs/Gives/Aggregates`.
use Rattle.expression_code.proofs.Prelude.{◌≡◌, ℕ, ◌+◌, max, ◌<◌, ◌≤◌, List, ◌∷◌, ◌++◌, Option, Some, true, refl, sym, subst, arith, append_assoc, is_some, pos, fold as fold_left, le-leb, depth_limit, Names, Grows, enters_by, Insn, R0, R1, R2, R3, result_depth, Value, ValueOrError, value, map, no_entries, value_or_error, CpuState, set_register, entry_code, entry_tail, map_code, Context, Evaluates, RunContext, RunsTo, Builds, EntriesGive, Made, MadeInR0, MapGives, MayHold, with_pair, put_of, IsCodeAt, size, word_at, word_limit}
use Rattle.expression_code.proofs.Sites.{Site, Budget, site_at, in_frame, budget, past, above, EvaluatesAt, BuildsAt, EntriesAt}
use Rattle.helper_table.specs.Building.{entered}
use Rattle.expression_code.specs.Instructions as insn
use Rattle.expression_code.proofs.Lists.{Beside, beside, builds_then, literal_runs, made_stored}
use Rattle.expression_code.proofs.Frames.{fits_above, keeps_same, keeps_then}
use Rattle.expression_code.proofs.HelperAnswers.{helpers}
use Rattle.expression_code.proofs.Insertions.{map_is}
use Rattle.expression_code.proofs.Listings.{begins, calls, load, mov, refused, store}
use Rattle.expression_code.proofs.Loaded.{keeps_left}
use Rattle.expression_code.proofs.Operators.{shows_placed}
use Rattle.expression_code.proofs.Pieces.{size-append, size-cons, stands_back, stands_front}
use Rattle.expression_code.proofs.Runs.{and_then, arrived, by_limit, done, into, looser, to_place}

-- ---- the depth of a map

grown_depth : (o : Option Value) (most : ℕ) → (is_some o ≡ true → Grows o most) → result_depth (value_or_error o) ≤ most
grown_depth o most grows = grind arith

-- ---- an entry

-- word k holds the map, word k + 1 the key, and R0 the value
record Ready (c : Context) (depth k : ℕ) (m x y : ValueOrError) (old new : CpuState) : Type 0 where
  beside_it : Beside c depth k m y old new
  key : Names new.values.values (word_at depth (k + 1) new) x

module _ (s : RunContext) (k : ℕ) (c : Context) (depth : ℕ) (low : k + 1 < word_limit) (m x y : ValueOrError) (held : MayHold s y) where
  put_by : (q : ℕ) (a b : CpuState) → IsCodeAt s.image.code q (entry_tail k) → Ready c depth k m x y a b
      → RunsTo s 5 2 q b (q + 5) (MadeInR0 c depth k (put_of m x y) b)
  put_by q a b has g =
      let made = g.beside_it.made in
      let fits = made.fits in
      let asks = set_register (set_register (set_register b R3 (b.registers R0)) R2 (word_at depth (k + 1) b)) R1 (word_at depth k b) in
      begins has
      (mov has 0 refl refl
      (load has 1 (k + 1) refl fits.frame (omega arith) refl
      (load has 2 k refl fits.frame (omega arith) refl
      (by_limit (result_depth (put_of m x y)) depth_limit
      (λ within.
      let called = helpers.put c.environment.roots asks m x y fits.values made.named g.key g.beside_it.shows within in
      calls has 3 refl called.answers (omega arith) (λ paid.
      let shown = shows_placed (in_frame c depth k) (pos 19) (put_of m x y) 2 b asks.registers (omega arith) refl fits called paid in
      store has 4 k refl shown.fits.frame (omega arith)
      (arrived s refl (made_stored c depth k (put_of m x y) b _ (omega arith) within shown))))
      (λ over.
      let most = (grown_depth (entered (Some m) (Some x) (Some y)) (max (result_depth m) (1 + result_depth y)) (enters_by (Some m) (Some x) (Some y))) in
      refused has 3 refl (helpers.put_deep asks m x y made.named g.key g.beside_it.shows over) (held (le-leb depth_limit (result_depth y) (omega arith))))))))

  -- the key, which is kept in word k + 1, and the value
  pair_runs : (p : ℕ) (key part : List Insn) (t u : Budget) (b : CpuState) → IsCodeAt s.image.code p (key ++ insn.store (k + 1) R0 ∷ part) → Made c depth k m b → Evaluates s p key c depth (k + 1) x t.steps t.charge → Evaluates s (p + size key + 1) part c depth (k + 2) y u.steps u.charge → RunsTo s (t.steps + (1 + u.steps)) (t.charge + u.charge) p b (p + size key + 1 + size part) (Ready c depth k m x y b)
  pair_runs p key part t u b has made gives_key gives_part =
      let code = s.image.code in
      let q = p + size key in
      let end = q + 1 + size part in
      let rest = insn.store (k + 1) R0 ∷ part in
      let after : k + 1 + 1 ≡ k + 2 = omega arith in
      let gives2 = subst (λ (i : ℕ). Evaluates s (q + 1) part c depth i y u.steps u.charge) (sym after) gives_part in
      let Q = Ready c depth k m x y b in
      and_then s (1 + u.steps) u.charge end Q (gives_key.runs b (stands_front code p key rest has) (fits_above c depth k (k + 1) b (omega arith) made.fits)) (λ b1 g1.
      into s Q (λ b2 g2.
      let kept = keeps_then {base = k + 1} {k = k + 1} (omega arith) g1.keeps g2.shown.keeps in
      record {
        beside_it = beside c depth k m y b b2 (omega arith) made (record { shows = g2.shown.shows; fits = g2.shown.fits; keeps = kept });
        key = g2.left;
      })
      (keeps_left s (k + 1) part c depth x y u.steps u.charge low q b1 (stands_back code p key rest has) g1.fits g1.shows gives2))

entry_builds : (site : Site) (key part : List Insn) (x y : ValueOrError) (t u : Budget) → site.frame.base + 1 < word_limit → MayHold site.setting y → EvaluatesAt (above 1 site) key x t → EvaluatesAt (above 2 (past 1 (past (size key) site))) part y u → BuildsAt site (entry_code key part site.frame.base) (λ m. put_of m x y) (budget (t.steps + (1 + u.steps + 5)) (t.charge + (u.charge + 2)))
entry_builds site key part x y t u low held gives_key gives_part = record {
  runs = λ b m has made named.
      let code = site.setting.image.code in
      let keep = insn.store (site.frame.base + 1) R0 in
      let pair = key ++ keep ∷ part in
      let tail = entry_tail site.frame.base in
      let whole = subst (IsCodeAt code site.slot) (sym (append_assoc key (keep ∷ part) tail)) has in
      let q = site.slot + size key + 1 + size part in
      let there : site.slot + size pair ≡ q = omega (arith, size-append key (keep ∷ part), size-cons keep part) in
      let place : q + 5 ≡ site.slot + size (entry_code key part site.frame.base) = omega (arith, size-append key (keep ∷ (part ++ tail)), size-cons keep (part ++ tail), size-append part tail) in
      let Q = MadeInR0 site.frame.context site.frame.depth site.frame.base (put_of m x y) b in
      to_place site.setting _ place
      (looser site.setting {n = t.steps + (1 + u.steps) + 5} {x = t.charge + u.charge + 2} (t.steps + (1 + u.steps + 5)) (t.charge + (u.charge + 2)) (omega arith) (omega arith)
      (and_then site.setting 5 2 (q + 5) Q (pair_runs site.setting site.frame.base site.frame.context site.frame.depth low m x y held site.slot key part t u b (stands_front code site.slot pair tail whole) made gives_key gives_part) (λ b1 g1.
      into site.setting Q (λ b2 g2. record { made = g2.made; shows = g2.shows; keeps = keeps_then (omega arith) g1.beside_it.keeps g2.keeps })
      (put_by site.setting site.frame.base site.frame.context site.frame.depth low m x y held q b b1 (subst (λ (i : ℕ). IsCodeAt code i tail) there (stands_back code site.slot pair tail whole)) g1))));
}

-- ---- the literal

more_entries : (site : Site) (key part parts : List Insn) (x y : ValueOrError) (es : List (ValueOrError × ValueOrError)) (t u w : Budget) → site.frame.base + 1 < word_limit → MayHold site.setting y → EvaluatesAt (above 1 site) key x t → EvaluatesAt (above 2 (past 1 (past (size key) site))) part y u → EntriesAt (past 5 (past (size part) (past 1 (past (size key) site)))) parts es w → EntriesAt site (entry_code key part site.frame.base ++ parts) ((x, y) ∷ es) (budget (t.steps + (1 + u.steps + 5) + w.steps) (t.charge + (u.charge + 2) + w.charge))
more_entries site key part parts x y es t u w low held gives_key gives_part rest =
    let keep = insn.store (site.frame.base + 1) R0 in
    let tail = entry_tail site.frame.base in
    let place : site.slot + size key + 1 + size part + 5 ≡ site.slot + size (entry_code key part site.frame.base) = omega (arith, size-append key (keep ∷ (part ++ tail)), size-cons keep (part ++ tail), size-append part tail) in
    builds_then site (entry_code key part site.frame.base) parts (λ m. put_of m x y) (λ m. fold_left with_pair m es) (budget (t.steps + (1 + u.steps + 5)) (t.charge + (u.charge + 2))) w
    (entry_builds site key part x y t u low held gives_key gives_part)
    (subst (λ (q : ℕ). EntriesGive site.setting q parts site.frame.context site.frame.depth site.frame.base es w.steps w.charge) place rest)

pub map_gives : MapGives
map_gives = record {
  none = grind (arith, to_place, done, keeps_same);
  more = λ s p k key part parts c depth x y es n1 x1 n2 x2 n3 x3. more_entries (site_at s p (in_frame c depth k)) key part parts x y es (budget n1 x1) (budget n2 x2) (budget n3 x3);
  whole = λ s p k parts c depth es n x low builds.
      subst (λ (y : ValueOrError). Evaluates s p (map_code parts k) c depth k y (2 + n) (1 + x)) (map_is es)
      (literal_runs s p k (pos 18) (value (map no_entries)) (omega arith) (omega arith) c depth parts (λ m. fold_left with_pair m es) n x (λ b fits. helpers.map_new c.environment.roots b fits.values) builds);
}
