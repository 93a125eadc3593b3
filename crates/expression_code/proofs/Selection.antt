-- The code of selections, indices, sizes, texts and tests of texts gives their values.
-- For the laws in `specs/Gives/Selection`.
use Rattle.expression_code.proofs.Prelude.{◌≡◌, ℕ, ◌+◌, ◌≤◌, List, length, Some, None, refl, arith, suc, ℤ, pos, signed_decimal, kind_number, Names, R1, R2, R3, R6, outcome_view, ValueOrError, error, value, null, int, text, int_part, TextTest, StartsWith, EndsWith, Contains, size_of, string_of, text_test_of, field_of, has_of, index_of, CpuState, set_register, HelperPlaces, answered, call_with_text, string_tail, test_tail, Context, IsWellFormedState, HasValues, LeavesValue, RunContext, RunsTo, TailGives, KeyedGives, SelectionGives, text_length, Holding, KeyHelper, IsCodeAt, frame_words}
use Rattle.expression_code.proofs.Sites.{in_frame}
use Rattle.expression_code.proofs.Effects.{differs_no, differs_yes}
use Rattle.expression_code.proofs.Frames.{Stays, begun, fits_registers, moved, placed, said, shown}
use Rattle.expression_code.proofs.HelperAnswers.{helpers}
use Rattle.expression_code.proofs.Listings.{ask, begins, calls, jump, load_wide, mov, no, put_length, yes}
use Rattle.expression_code.proofs.Operators.{calls_give, shows_placed}
use Rattle.expression_code.proofs.Runs.{arrived, done, looser}

keyed_gives : (helper : ℤ) (f : ValueOrError → List ℕ → ValueOrError) → KeyHelper helper f → KeyedGives (call_with_text helper) f 3 1
keyed_gives helper f keyed s p c depth base x address key low h = record {
  runs = λ b has fits named.
      let asks = set_register (set_register b R2 address) R3 (length key) in
      let a = keyed c.environment.roots asks x key (fits_registers c depth base b asks.registers refl fits).values named (grind arith) in
      begins has
      (load_wide has 0 refl refl
      (put_length has 2 (length key) refl refl h.length_is_immediate
      (ask has 3 refl a.answers (λ paid.
      done s (p + 4) _ _ (shows_placed (in_frame c depth base) helper (f x key) 1 b asks.registers low refl fits a paid)))));
}

test_gives : (t : TextTest) → TailGives (test_tail t) R1 R2 (text_test_of (Some t)) 1 1
test_gives StartsWith s p k c depth x y low = calls_give.two s p k (pos 12) (text_test_of (Some StartsWith)) c depth x y low helpers.starts
test_gives EndsWith s p k c depth x y low = calls_give.two s p k (pos 13) (text_test_of (Some EndsWith)) c depth x y low helpers.ends
test_gives Contains s p k c depth x y low = calls_give.two s p k (pos 14) (text_test_of (Some Contains)) c depth x y low helpers.contains

-- ---- the text of a value

module _ (s : RunContext) (p : ℕ) (c : Context) (depth base : ℕ) (low : base ≤ frame_words) (b : CpuState) (has : IsCodeAt s.image.code p string_tail) (fits : IsWellFormedState c depth base b) where
  -- before and after the call that returns the kind
  abbrev asks : CpuState
  asks = set_register b R1 (b.registers R6)

  abbrev told : ℕ → CpuState
  told w = answered asks w b.values.values (b.values.charge + 1)

  asks_stay : Stays c depth base b asks
  asks_stay = moved (begun fits) asks.registers refl

  -- a text is unchanged
  text_runs : {u : ℕ} (t : List ℕ) → Names b.values.values (b.registers R6) (value (text t))
      → RunsTo s 5 (suc u) p b (p + 7) (LeavesValue c depth base (value (text t)) b)
  text_runs t named =
      let kind = helpers.kind c.environment.roots asks (value (text t)) asks_stay.fits.values named in
      begins has
      (mov has 0 refl refl
      (calls has 1 refl kind.answers (omega arith) (λ paid.
      no has 2 refl (differs_no 4 4 refl)
      (mov has 3 refl refl
      (jump has 4 2 refl
      (arrived s refl (shown (moved (said asks_stay kind paid) _ refl) named)))))))

  -- any other value is passed to helper 22
  made_runs : (x y : ValueOrError) (cost : ℕ) → Names b.values.values (b.registers R6) x → (kind_number (outcome_view x) ≡ 4 → ⊥) → ((d : CpuState) → HasValues c.environment.roots d.values → Holding d R1 x → HelperPlaces (pos 22) d y cost) → RunsTo s 5 (1 + (cost + 0)) p b (p + 7) (LeavesValue c depth base y b)
  made_runs x y cost named other makes =
      let w = kind_number (outcome_view x) in
      let kind = helpers.kind c.environment.roots asks x asks_stay.fits.values named in
      let again = set_register (told w) R1 (b.registers R6) in
      begins has
      (mov has 0 refl refl
      (ask has 1 refl kind.answers (λ paid.
      let stays = moved (said asks_stay kind paid) again.registers refl in
      let a = makes again stays.fits.values named in
      yes has 2 2 refl (differs_yes w 4 other)
      (mov has 5 refl refl
      (ask has 6 refl a.answers (λ paid2. done s (p + 7) _ _ (shown (placed stays a paid2) a.names)))))))

  no_text_runs : (x : ValueOrError) → Names b.values.values (b.registers R6) x → (kind_number (outcome_view x) ≡ 4 → ⊥) → int_part x ≡ None → RunsTo s 5 2 p b (p + 7) (LeavesValue c depth base error b)
  no_text_runs x named other none = made_runs x error 1 named other (λ d values holding. helpers.no_text_of_int c.environment.roots d x values holding none)

  int_runs : (z : ℤ) → Names b.values.values (b.registers R6) (value (int z)) → RunsTo s 5 (2 + length (signed_decimal z)) p b (p + 7) (LeavesValue c depth base (value (text (signed_decimal z))) b)
  int_runs z named =
      let n = length (signed_decimal z) in
      looser s {n = 5} {x = 1 + (1 + n + 0)} 5 (2 + n) (omega arith) (omega arith) (made_runs (value (int z)) (value (text (signed_decimal z))) (1 + n) named (λ e. absurd (omega arith)) (λ d values holding. helpers.text_of_int c.environment.roots d z values holding))

  string_runs : (x : ValueOrError) → Names b.values.values (b.registers R6) x → RunsTo s 5 (2 + text_length (string_of x)) p b (p + 7) (LeavesValue c depth base (string_of x) b)
  string_runs (value (int z)) named = int_runs z named
  string_runs (value (text t)) named = looser s {n = 5} {x = 1} 5 (2 + length t) (omega arith) (omega arith) (text_runs t named)
  string_runs (value null) named = no_text_runs (value null) named (λ e. absurd (omega arith)) refl
  string_runs _ named = no_text_runs _ named (λ e. absurd (omega arith)) refl

pub selection_gives : SelectionGives
selection_gives = record {
  field = keyed_gives (pos 5) field_of helpers.field;
  has = keyed_gives (pos 6) has_of helpers.has;
  index = λ s p k c depth x y low. calls_give.two s p k (pos 7) index_of c depth x y low helpers.index;
  size = λ s p c depth base x low. calls_give.one s p (pos 8) size_of c depth base x low helpers.size;
  string = λ s p c depth base x low. record { runs = λ b has fits named. string_runs s p c depth base low b has fits x named };
  test = test_gives;
}
