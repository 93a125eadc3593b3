-- Steps over the results of calls.
use Rattle.wide_reader.proofs.Prelude.{true, false, ◌≡◌, ◌≢◌, ℕ, suc, ◌-◌, List, [], ◌∷◌, ◌++◌, map, length, Result, sym, ◌∙◌, ap, arith, map-append, length-map, WideReadOutcome, Refused, WideCause, Deep, ReturnsWideOutcome, WideKind, Row, WidePlan, access, look, enter, inside, WidePlanRuns, Access, Plain, Optional, Starts, Prefixed, goes, found, missing, enters, opened, full, WideStepReads, Unary, unary_mark, UnaryOperator, Mark, err_from_is_err_and, IsErrAnd, WideWord, WideToken, token_view, mark, CodeToken, words, WideLook, WideFoundBy, WideIs, this_mark, opens_mark, Refusal}
use Rattle.wide_reader.specs.Reading.{Fails}
use Rattle.cel_reader.specs.declared.operator.UnaryOperator.TheVariants as unary

pub has_room : (room : ℕ) → room ≢ 0 → room ≡ suc (room - 1)
has_room room n = omega arith

pub full_at : {k : WideKind} {p : WidePlan false k} {room : ℕ} {ws : List WideWord} → room ≡ 0 → WidePlanRuns (inside p) room ws (Refused (Deep ws))
full_at e = rw e full

pub opened_at : {k : WideKind} {p : WidePlan false k} {room : ℕ} {ws : List WideWord} {o : WideReadOutcome} → room ≢ 0 → WidePlanRuns p (room - 1) ws o → WidePlanRuns (inside p) room ws o
opened_at {room = room} n r = rw (has_room room n) (opened r)

pub found_at : {k : WideKind} {l : WideLook} {f : WideFoundBy l → WidePlan false k} {p : WidePlan false k} {room : ℕ} {w : WideWord} {ws us : List WideWord} {x : WideFoundBy l} {o : WideReadOutcome}
    → us ≡ w ∷ ws → WideIs l w x → WidePlanRuns (f x) room ws o → WidePlanRuns (look l f p) room us o
found_at e i r = rw e (found i r)

pub enters_at : {k : WideKind} {m : Mark} {fits : opens_mark m ≡ true} {p : WidePlan true k} {q : WidePlan false k} {room : ℕ} {ws us : List WideWord} {o : WideReadOutcome}
    → us ≡ mark m ∷ ws → WidePlanRuns p room ws o → WidePlanRuns (enter m fits p q) room us o
enters_at e r = rw e (enters r)

-- a question mark before a part, or none
pub accessed : {k : WideKind} (f : Access → WidePlan false k) {room : ℕ} {ws us : List WideWord} {r : WideReadOutcome} (o : Access) → Starts o us ws → WidePlanRuns (f o) room ws r
    → WidePlanRuns (access f) room us r
accessed f Plain s r = missing s.1 (rw (s.0) r)
accessed f Optional s r = found_at s this_mark r

pub unary_goes : {room : ℕ} {ws : List WideWord} {o : WideReadOutcome} (op : UnaryOperator) → WideStepReads (Row (Prefixed op true)) room ws o
    → WideStepReads (Row Unary) room (mark (unary_mark op) ∷ ws) o
unary_goes unary.Not r = goes (found this_mark r)
unary_goes unary.Negate r = goes (missing (λ f. cc) (found this_mark r))

pub unary_at : {room : ℕ} {ws us : List WideWord} {o : WideReadOutcome} (op : UnaryOperator) → us ≡ mark (unary_mark op) ∷ ws → WideStepReads (Row (Prefixed op true)) room ws o
    → WideStepReads (Row Unary) room us o
unary_at op e r = rw e (unary_goes op r)

pub pushed : {X Y : Type 0} (f : X → Y) (old new : List X) (x : X) → new ≡ old ++ x ∷ [] → map f new ≡ map f old ++ f x ∷ []
pushed f old new x e = ap (map f) e ∙ map-append f old (x ∷ [])

-- each token is one word
pub words_length : (source : List ℕ) (tokens : List CodeToken) → length tokens ≡ length (words source tokens)
words_length source tokens = sym (length-map (map (token_view source) tokens) (λ (l : WideToken). l.word) ∙ length-map tokens (token_view source))

-- the words from here on, or those after a bracket, are left
module _ (source : List ℕ) (tokens : List CodeToken) (P : List WideWord → Type 0) where
  pub misfit_left : P (words source tokens) → (rest : List WideWord) × (length tokens ≡ length rest) × P rest
  misfit_left p = (words source tokens, words_length source tokens, p)

  pub deep_left : P (words source tokens) → (rest : List WideWord) × (suc (length tokens) ≡ suc (length rest)) × P rest
  deep_left p = (words source tokens, ap suc (words_length source tokens), p)

-- the outcome that an error means, from the code's finding
pub refused : {X : Type 0} (token_view : X → WideReadOutcome) (P Q : WideReadOutcome → Type 0) (e : Refusal) (r : Result X Refusal) → IsErrAnd r (λ f. f ≡ e) → Fails e P
    → ((k : WideCause) → P (Refused k) → Q (Refused k)) → ReturnsWideOutcome token_view r Q
refused token_view P Q e r is g f = let p = err_from_is_err_and r is in rw (p.1, p.2) (grind arith)

-- a result that is passed on
pub hand : {X : Type 0} (token_view : X → WideReadOutcome) (r : Result X Refusal) (P Q : WideReadOutcome → Type 0) → ((o : WideReadOutcome) → P o → Q o) → ReturnsWideOutcome token_view r P → ReturnsWideOutcome token_view r Q
hand token_view r P Q f g = grind arith
