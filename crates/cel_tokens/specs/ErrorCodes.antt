-- Codes and positions of the errors of a text.
use Rattle.std.specs.Prelude.{ℕ, List, Option, None, Some, codes}
use Rattle.cel_tokens.specs.declared.read_error.ReadError.{ReadError}
use Rattle.cel_tokens.specs.declared.read_error.ReadError.TheVariants.{UnknownCharacter, InvalidTextLiteral, IntOutOfRange, UnexpectedToken, TooManyOpen, TextTooLong, Memory}

-- the code of a syntax error: P1 to P6, or memory
abbrev pub read_error_code : ReadError → List ℕ
read_error_code (UnknownCharacter place) = codes "P1"
read_error_code (InvalidTextLiteral place) = codes "P2"
read_error_code (IntOutOfRange place) = codes "P3"
read_error_code (UnexpectedToken place) = codes "P4"
read_error_code (TooManyOpen place) = codes "P5"
read_error_code (TextTooLong place) = codes "P6"
read_error_code Memory = codes "memory"

-- the byte at which the text is refused, counted from 0
abbrev pub read_error_place : ReadError → Option ℕ
read_error_place (UnknownCharacter place) = Some place
read_error_place (InvalidTextLiteral place) = Some place
read_error_place (IntOutOfRange place) = Some place
read_error_place (UnexpectedToken place) = Some place
read_error_place (TooManyOpen place) = Some place
read_error_place (TextTooLong place) = Some place
read_error_place Memory = None
