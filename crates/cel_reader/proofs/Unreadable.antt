-- A text is unreadable with an error exactly where that error is its result.
use Rattle.cel_reader.proofs.Prelude.{ℕ, List, length, Ok, Err, refl, subst, Token, Lexes, ReadError, UnexpectedToken, TooManyOpen, Memory, IsReadResult, StandsAt, UnexpectedAt, DeepAt, IsUnreadable}
use Rattle.cel_reader.proofs.Told.{one_list}

misfit_in : (source : List ℕ) (xs ys : List Token) (place : ℕ) → Lexes source (Ok xs) → Lexes source (Ok ys) → StandsAt (length source) ys place UnexpectedAt → StandsAt (length source) xs place UnexpectedAt
misfit_in source xs ys place x y at = subst (λ (zs : List Token). StandsAt (length source) zs place UnexpectedAt) (one_list source ys xs y x) at

deep_in : (source : List ℕ) (xs ys : List Token) (place : ℕ) → Lexes source (Ok xs) → Lexes source (Ok ys) → StandsAt (length source) ys place DeepAt → StandsAt (length source) xs place DeepAt
deep_in source xs ys place x y at = subst (λ (zs : List Token). StandsAt (length source) zs place DeepAt) (one_list source ys xs y x) at

-- an error that is a result is such an error
pub result_refused : (source : List ℕ) (e : ReadError) → IsReadResult source (Err e) → IsUnreadable source e
result_refused source (UnexpectedToken place) r = (r.answers.0, r.answers.1, r.answers.2, misfit_in source r.answers.0 r.placed.0 place r.answers.1 r.placed.1 r.placed.2)
result_refused source (TooManyOpen place) r = (r.answers.0, r.answers.1, r.answers.2, deep_in source r.answers.0 r.placed.0 place r.answers.1 r.placed.1 r.placed.2)
result_refused source Memory r = absurd (r.some refl)
result_refused source _ r = r.answers

-- such an error is a result
pub refused_result : (source : List ℕ) (e : ReadError) → IsUnreadable source e → IsReadResult source (Err e)
refused_result source (UnexpectedToken place) t = record { some = λ no. cc; answers = (t.0, t.1, t.2); placed = (t.0, t.1, t.3) }
refused_result source (TooManyOpen place) t = record { some = λ no. cc; answers = (t.0, t.1, t.2); placed = (t.0, t.1, t.3) }
refused_result source Memory t = absurd t
refused_result source _ t = record { some = λ no. cc; answers = t; placed = t }
