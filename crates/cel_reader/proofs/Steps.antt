-- Steps over the results of calls.
use Rattle.cel_reader.proofs.Prelude.{Bool, true, false, ◌≡◌, ◌≢◌, ℕ, suc, ◌-◌, List, [], ◌∷◌, ◌++◌, map, length, Result, sym, ◌∙◌, ap, arith, map-append, length-map, ReadOutcome, Refused, Cause, Deep, ReturnsOutcome, Kind, Row, Plan, look, enter, inside, operand, PlanRuns, goes, found, missing, enters, opened, full, StepReads, Unary, unary_mark, UnaryOperator, Mark, err_from_is_err_and, if◌then◌else◌, IsErrAnd, Word, Token, token_view, mark, CodeToken, words, Look, FoundBy, Is, this_mark, opens_mark, Refusal}
use Rattle.cel_reader.specs.Reading.{PhraseFails}
use Rattle.cel_reader.specs.declared.operator.UnaryOperator.TheVariants as unary

pub has_room : (room : ℕ) → room ≢ 0 → room ≡ suc (room - 1)
has_room room n = omega arith

pub full_at : {k : Kind} {p : Plan false k} {room : ℕ} {ws : List Word} → room ≡ 0 → PlanRuns (inside p) room ws (Refused (Deep ws))
full_at e = rw e full

pub opened_at : {k : Kind} {p : Plan false k} {room : ℕ} {ws : List Word} {o : ReadOutcome} → room ≢ 0 → PlanRuns p (room - 1) ws o → PlanRuns (inside p) room ws o
opened_at {room = room} n r = rw (has_room room n) (opened r)

pub found_at : {k : Kind} {l : Look} {f : FoundBy l → Plan false k} {p : Plan false k} {room : ℕ} {w : Word} {ws us : List Word} {x : FoundBy l} {o : ReadOutcome}
    → us ≡ w ∷ ws → Is l w x → PlanRuns (f x) room ws o → PlanRuns (look l f p) room us o
found_at e i r = rw e (found i r)

pub enters_at : {k : Kind} {m : Mark} {fits : opens_mark m ≡ true} {p : Plan true k} {q : Plan false k} {room : ℕ} {ws us : List Word} {o : ReadOutcome}
    → us ≡ mark m ∷ ws → PlanRuns p room ws o → PlanRuns (enter m fits p q) room us o
enters_at e r = rw e (enters r)

pub unary_goes : {room : ℕ} {ws : List Word} {o : ReadOutcome} (op : UnaryOperator) → PlanRuns (operand op) room ws o
    → StepReads (Row Unary) room (mark (unary_mark op) ∷ ws) o
unary_goes unary.Not r = goes (found this_mark r)
unary_goes unary.Negate r = goes (missing (λ f. cc) (found this_mark r))

pub unary_at : {room : ℕ} {ws us : List Word} {o : ReadOutcome} (op : UnaryOperator) → us ≡ mark (unary_mark op) ∷ ws → PlanRuns (operand op) room ws o
    → StepReads (Row Unary) room us o
unary_at op e r = rw e (unary_goes op r)

pub pushed : {X Y : Type 0} (f : X → Y) (old new : List X) (x : X) → new ≡ old ++ x ∷ [] → map f new ≡ map f old ++ f x ∷ []
pushed f old new x e = ap (map f) e ∙ map-append f old (x ∷ [])

-- each token is one word
pub words_length : (source : List ℕ) (tokens : List CodeToken) → length tokens ≡ length (words source tokens)
words_length source tokens = sym (length-map (map (token_view source) tokens) (λ (l : Token). l.word) ∙ length-map tokens (token_view source))

-- the words from here on, or those after a bracket, are left
module _ (source : List ℕ) (tokens : List CodeToken) (P : List Word → Type 0) where
  pub misfit_left : P (words source tokens) → (rest : List Word) × (length tokens ≡ length rest) × P rest
  misfit_left p = (words source tokens, words_length source tokens, p)

  pub deep_left : P (words source tokens) → (rest : List Word) × (suc (length tokens) ≡ suc (length rest)) × P rest
  deep_left p = (words source tokens, ap suc (words_length source tokens), p)

-- one of two lists of words, from tokens of the same number
pub either : (b : Bool) (source : List ℕ) (xs ys : List CodeToken) (P : List Word → Type 0) → P (if b then words source xs else words source ys)
    → (rest : List Word) × (length (if b then xs else ys) ≡ length rest) × P rest
either true source xs ys P p = (words source xs, words_length source xs, p)
either false source xs ys P p = (words source ys, words_length source ys, p)

-- the outcome that an error means, from the code's finding
pub refused : {X : Type 0} (token_view : X → ReadOutcome) (P Q : ReadOutcome → Type 0) (e : Refusal) (r : Result X Refusal) → IsErrAnd r (λ f. f ≡ e) → PhraseFails e P
    → ((k : Cause) → P (Refused k) → Q (Refused k)) → ReturnsOutcome token_view r Q
refused token_view P Q e r is g f = let p = err_from_is_err_and r is in rw (p.1, p.2) (grind arith)

-- a result that is passed on
pub hand : {X : Type 0} (token_view : X → ReadOutcome) (r : Result X Refusal) (P Q : ReadOutcome → Type 0) → ((o : ReadOutcome) → P o → Q o) → ReturnsOutcome token_view r P → ReturnsOutcome token_view r Q
hand token_view r P Q f g = grind arith
