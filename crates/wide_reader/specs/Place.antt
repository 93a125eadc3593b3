-- The position of an error in the text.
use Rattle.std.specs.Prelude.{ℕ, ◌-◌, List, [], ◌∷◌, length, take, drop, Option, Some, None}
use Rattle.wide_tokens.specs.declared.token.Token.{Token}
use Rattle.cel_tokens.specs.declared.read_error.ReadError.{ReadError}
use Rattle.cel_tokens.specs.declared.read_error.ReadError.TheVariants as errors
use Rattle.wide_tokens.specs.declared.kind.Kind.{Kind}
use Rattle.wide_tokens.specs.declared.kind.Kind.TheVariants as kinds
use Rattle.wide_reader.specs.declared.wide_error.WideReadError.{WideReadError}
use Rattle.wide_reader.specs.declared.wide_error.WideReadError.TheVariants as wide_errors
use Rattle.wide_reader.specs.declared.refusal.Refusal.{Refusal, TheVariants.Misfit, TheVariants.Deep, TheVariants.Memory}

-- the position of the first token, or of the end of a text of `len` bytes
abbrev pub place_of : ℕ → List Token → ℕ
place_of len [] = len
place_of len (t ∷ ts) = t.place

-- the position of the token with which the last `left` ones begin
abbrev pub place_left : ℕ → List Token → ℕ → ℕ
place_left len tokens left = place_of len (drop (length tokens - left) tokens)

-- the error with its position
abbrev pub refused_at : ℕ → List Token → Refusal → ReadError
refused_at len tokens (Misfit left) = errors.UnexpectedToken (place_left len tokens left)
refused_at len tokens (Deep left) = errors.TooManyOpen (place_left len tokens left)
refused_at len tokens Memory = errors.Memory

-- the error of a token of this kind at this position, if it is bytes or a double, else the other one
abbrev pub or_unsupported : ℕ → Kind → Option WideReadError → Option WideReadError
or_unsupported place kinds.Bytes more = Some (wide_errors.Bytes place)
or_unsupported place kinds.Double more = Some (wide_errors.Double place)
or_unsupported place _ more = more

-- the error of the first of these tokens that is bytes or a double
abbrev pub unsupported_in : List Token → Option WideReadError
unsupported_in [] = None
unsupported_in (t ∷ ts) = or_unsupported t.place t.kind (unsupported_in ts)

-- this error, or that of the refusal
abbrev pub first_error : Option WideReadError → ReadError → WideReadError
first_error (Some e) other = e
first_error None other = wide_errors.Text other

-- the error of a refusal, unless bytes or a double is before it
abbrev pub wide_refused_at : ℕ → List Token → Refusal → WideReadError
wide_refused_at len tokens (Misfit left) =
    first_error (unsupported_in (take (length tokens - left) tokens)) (refused_at len tokens (Misfit left))
wide_refused_at len tokens (Deep left) =
    first_error (unsupported_in (take (length tokens - left) tokens)) (refused_at len tokens (Deep left))
wide_refused_at len tokens Memory = wide_errors.Text errors.Memory
