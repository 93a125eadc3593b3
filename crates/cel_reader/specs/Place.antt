-- The position of an error in the text.
use Rattle.std.specs.Prelude.{ℕ, ◌-◌, List, [], ◌∷◌, length, drop}
use Rattle.cel_tokens.specs.declared.token.Token.{Token}
use Rattle.cel_tokens.specs.declared.read_error.ReadError.{ReadError}
use Rattle.cel_tokens.specs.declared.read_error.ReadError.TheVariants as errors
use Rattle.cel_reader.specs.declared.refusal.Refusal.{Refusal, TheVariants.Misfit, TheVariants.Deep, TheVariants.Memory}

-- the position of the first token, or of the end of a text of `len` bytes
abbrev pub place_of : ℕ → List Token → ℕ
place_of len [] = len
place_of len (t ∷ ts) = t.place

-- the position of the token with which the last `left` ones begin
abbrev pub place_left : ℕ → List Token → ℕ → ℕ
place_left len tokens left = place_of len (drop (length tokens - left) tokens)

-- the error with its position
abbrev pub refused_at : ℕ → List Token → Refusal → ReadError
refused_at len tokens (Misfit left) = errors.UnexpectedToken (place_left len tokens left)
refused_at len tokens (Deep left) = errors.TooManyOpen (place_left len tokens left)
refused_at len tokens Memory = errors.Memory
