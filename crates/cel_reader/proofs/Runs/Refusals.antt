-- The errors of texts, computed.
use Rattle.cel_reader.proofs.Prelude.{◌≡◌, ℕ, zero, suc, ◌+◌, ◌-◌, ◌<◌, ◌≤◌, Bool, true, false, nat_lt, List, [], ◌∷◌, ◌++◌, length, drop, map, Option, Some, None, Result, Ok, Err, refl, subst, ltb-true, ltb-false, Token, run as run_of, between, number_from, escape, content, Lexed, sign_may_follow, Cuts, Lexes, lexeme, ReadError, UnknownCharacter, InvalidTextLiteral, IntOutOfRange, UnexpectedToken, TooManyOpen, is_reserved, role_of, words_only, Expression, One, Many, Keyed, Misfit, Deep, ReadOutcome, Got, Refused, whole, Row, StepReads, place_at, IsReadResult, RefusalRowsStand, Stand, refused_texts, token_limit, text_limit, open_limit}
use Rattle.cel_tokens.specs.Lexed as front
use Rattle.cel_tokens.specs.Lexis as tokens
use Rattle.cel_reader.specs.Reading as reading
use Rattle.cel_reader.proofs.Places.{misfit_at, rest_at, deep_at}
use Rattle.cel_reader.proofs.Theorems.{misfit_never, rest_never, deep_never, deep_openings}
use Rattle.cel_reader.proofs.Looks.{mark_by, mark_seen, one_by, name_by, literal_by, one_level, operator_by, seen}
use Rattle.cel_reader.proofs.Runs.{Run, ran, none, after, of, by_look, by_mark, run}

-- ---- tokens

data Cut (signed : Bool) (so_far : List Token) (place : ℕ) (rest : List ℕ) : Type 0 where
  cut : (r : Result (List Token) ReadError) → Cuts signed so_far place rest r → Cut signed so_far place rest
  uncut : Cut signed so_far place rest

few_by : (so_far : List Token) (b : Bool) → nat_lt (length so_far) token_limit ≡ b → Option (length so_far < token_limit)
few_by so_far true e = Some (ltb-true (length so_far) token_limit e)
few_by so_far false e = None

few : (so_far : List Token) → Option (length so_far < token_limit)
few so_far = few_by so_far (nat_lt (length so_far) token_limit) refl

cut_by : ((signed : Bool) (so_far : List Token) (place : ℕ) (rest : List ℕ) → Cut signed so_far place rest)
    → (signed : Bool) (so_far : List Token) (place : ℕ) (rest : List ℕ) (f : Lexed) → front.front signed rest ≡ f → Cut signed so_far place rest
cut_by go signed so_far place rest front.over e = cut (Ok so_far) (tokens.over e)
cut_by go signed so_far place rest (front.space n) e = elim (go signed so_far (place + n) (drop n rest)) [ cut r c ↦ cut r (tokens.space n e c) | uncut ↦ uncut ]
cut_by go signed so_far place rest (front.word n w) e = elim (few so_far) [
  | Some h ↦ elim (go (sign_may_follow w) (so_far ++ (lexeme place n w ∷ [])) (place + n) (drop n rest)) [ cut r c ↦ cut r (tokens.token n w e h c) | uncut ↦ uncut ]
  | None ↦ uncut
]
cut_by go signed so_far place rest front.wrong_text e = elim (few so_far) [ Some h ↦ cut (Err (InvalidTextLiteral place)) (tokens.wrong_text e h) | None ↦ uncut ]
cut_by go signed so_far place rest (front.wide_int n) e = elim (few so_far) [ Some h ↦ cut (Err (IntOutOfRange (place + n))) (tokens.wide_int n e h) | None ↦ uncut ]
cut_by go signed so_far place rest front.nothing e = cut (Err (UnknownCharacter place)) (tokens.nothing e)

-- with at most this many tokens and gaps
cuts : ℕ → (signed : Bool) (so_far : List Token) (place : ℕ) (rest : List ℕ) → Cut signed so_far place rest
cuts zero signed so_far place rest = uncut
cuts (suc fuel) signed so_far place rest = cut_by (λ (s : Bool) (xs : List Token) (n : ℕ) (bytes : List ℕ). cuts fuel s xs n bytes) signed so_far place rest (front.front signed rest) refl

-- ---- refusals

same_refusal : (source : List ℕ) (e f : ReadError) → Some e ≡ Some f → IsReadResult source (Err e) → IsReadResult source (Err f)
same_refusal source e f is a = let same : e ≡ f = cc in subst (λ (x : ReadError). IsReadResult source (Err x)) same a

refusal_of : ℕ → List Token → ReadOutcome → Option ReadError
refusal_of len lexemes (Refused (Misfit rest)) = Some (UnexpectedToken (place_at len (drop (length (words_only lexemes) - length rest) lexemes)))
refusal_of len lexemes (Refused (Deep rest)) = Some (TooManyOpen (place_at len (drop (length (words_only lexemes) - suc (length rest)) lexemes)))
refusal_of len lexemes (Got (One a) (w ∷ us)) = Some (UnexpectedToken (place_at len (drop (length (words_only lexemes) - suc (length us)) lexemes)))
refusal_of len lexemes o = None

misread : (source : List ℕ) (lexemes : List Token) (o : ReadOutcome) (e : ReadError) → Lexes source (Ok lexemes)
    → StepReads (Row Expression) open_limit (words_only lexemes) o → refusal_of (length source) lexemes o ≡ Some e → IsReadResult source (Err e)
unfolding refusal_of
misread source lexemes (Refused (Misfit rest)) e l r is = same_refusal source _ e is (record {
  some = λ no. cc;
  answers = (lexemes, l, λ room a d. misfit_never open_limit room (words_only lexemes) rest a r d);
  placed = (lexemes, l, (length (words_only lexemes) - length rest, refl, misfit_at (words_only lexemes) rest r));
})
misread source lexemes (Refused (Deep rest)) e l r is = same_refusal source _ e is (record {
  some = λ no. cc;
  answers = (lexemes, l, (λ a d. deep_never open_limit (words_only lexemes) rest a r d, deep_openings open_limit (words_only lexemes) rest r));
  placed = (lexemes, l, (length (words_only lexemes) - suc (length rest), refl, deep_at (words_only lexemes) rest r));
})
misread source lexemes (Got (One a) (w ∷ us)) e l r is = same_refusal source _ e is (record {
  some = λ no. cc;
  answers = (lexemes, l, λ room b d. rest_never open_limit room (words_only lexemes) us w a b r d);
  placed = (lexemes, l, (length (words_only lexemes) - suc (length us), refl, rest_at (words_only lexemes) us w a r));
})
misread source lexemes (Got (One a) []) e l r is = cc
misread source lexemes (Got (Many items) rest) e l r is = cc
misread source lexemes (Got (Keyed pairs) rest) e l r is = cc

refusal_from : ℕ → (lexemes : List Token) → Run false whole (reading.go (Row Expression)) open_limit (words_only lexemes) → Option ReadError
refusal_from len lexemes (ran o r) = refusal_of len lexemes o
refusal_from len lexemes none = None

from_run : (source : List ℕ) (lexemes : List Token) (x : Run false whole (reading.go (Row Expression)) open_limit (words_only lexemes)) (e : ReadError)
    → Lexes source (Ok lexemes) → refusal_from (length source) lexemes x ≡ Some e → IsReadResult source (Err e)
unfolding refusal_from
from_run source lexemes (ran o r) e l is = misread source lexemes o e l r is
from_run source lexemes none e l is = cc

-- with recursion up to this depth in the rows
refusal : (source : List ℕ) → Cut true [] 0 source → Option ReadError
refusal source (cut (Ok lexemes) c) = refusal_from (length source) lexemes (run 10000 (reading.go (Row Expression)) open_limit (words_only lexemes))
refusal source (cut (Err (UnknownCharacter place)) c) = Some (UnknownCharacter place)
refusal source (cut (Err (InvalidTextLiteral place)) c) = Some (InvalidTextLiteral place)
refusal source (cut (Err (IntOutOfRange place)) c) = Some (IntOutOfRange place)
refusal source x = None

from_cut : (source : List ℕ) (x : Cut true [] 0 source) (e : ReadError) → length source ≤ text_limit → refusal source x ≡ Some e → IsReadResult source (Err e)
unfolding refusal
from_cut source (cut (Ok lexemes) c) e h is = from_run source lexemes (run 10000 (reading.go (Row Expression)) open_limit (words_only lexemes)) e (tokens.read h c) is
from_cut source (cut (Err (UnknownCharacter place)) c) e h is = same_refusal source (UnknownCharacter place) e is (record { some = λ no. cc; answers = tokens.read h c; placed = tokens.read h c })
from_cut source (cut (Err (InvalidTextLiteral place)) c) e h is = same_refusal source (InvalidTextLiteral place) e is (record { some = λ no. cc; answers = tokens.read h c; placed = tokens.read h c })
from_cut source (cut (Err (IntOutOfRange place)) c) e h is = same_refusal source (IntOutOfRange place) e is (record { some = λ no. cc; answers = tokens.read h c; placed = tokens.read h c })
from_cut source _ e h is = cc

-- ---- rows

told_by : (source : List ℕ) → Bool → Option ReadError
told_by source true = None
told_by source false = refusal source (cuts 5000 true [] 0 source)

told : List ℕ → Option ReadError
told source = told_by source (nat_lt text_limit (length source))

answered_by : (source : List ℕ) (b : Bool) (e : ReadError) → nat_lt text_limit (length source) ≡ b → told_by source b ≡ Some e → IsReadResult source (Err e)
unfolding told_by
answered_by source true e h is = cc
answered_by source false e h is = from_cut source (cuts 5000 true [] 0 source) e (ltb-false text_limit (length source) h) is

answered : (source : List ℕ) (e : ReadError) → told source ≡ Some e → IsReadResult source (Err e)
unfolding told
answered source e is = answered_by source (nat_lt text_limit (length source)) e refl is

all : (rows : List (List ℕ × ReadError)) → map (λ (row : List ℕ × ReadError). told row.0) rows ≡ map (λ (row : List ℕ × ReadError). Some row.1) rows → Stand rows
all [] is = tt
all (row ∷ rows) is = (answered row.0 row.1 cc, all rows cc)

pub rows_stand : RefusalRowsStand
unfolding told told_by refusal refusal_from refusal_of cuts cut_by few few_by front.front run_of between number_from escape content role_of is_reserved after of by_look by_mark run mark_by mark_seen one_by name_by literal_by one_level operator_by seen
rows_stand = all refused_texts refl
