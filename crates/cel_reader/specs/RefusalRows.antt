-- Texts that are refused, with their errors, worked out by hand.
use Rattle.std.specs.Prelude.{ℕ, zero, suc, List, [], ◌∷◌, ◌++◌, Err, codes}
use Rattle.cel_tokens.specs.declared.read_error.ReadError.{ReadError, TheVariants.UnknownCharacter, TheVariants.InvalidTextLiteral, TheVariants.IntOutOfRange, TheVariants.UnexpectedToken, TheVariants.TooManyOpen}
use Rattle.cel_reader.specs.Answers.{IsReadResult}

-- the text repeated n times
abbrev pub times : ℕ → List ℕ → List ℕ
times zero text = []
times (suc n) text = text ++ times n text

-- each text with its error
abbrev pub refused_texts : List (List ℕ × ReadError)
refused_texts =
    (codes "namespace", UnexpectedToken 0) ∷
    (codes "f(1,)", UnexpectedToken 4) ∷
    (codes "!-x", UnexpectedToken 1) ∷
    (codes "-!x", UnexpectedToken 1) ∷
    (codes "a.b.", UnexpectedToken 4) ∷
    (codes "a.  ", UnexpectedToken 4) ∷
    (codes "object.spec. <= 3", UnexpectedToken 13) ∷
    (codes "a.in", UnexpectedToken 2) ∷
    (codes "while(1)", UnexpectedToken 0) ∷
    (codes "true(1)", UnexpectedToken 4) ∷
    (codes "in", UnexpectedToken 0) ∷
    (codes "", UnexpectedToken 0) ∷
    (codes "  ", UnexpectedToken 2) ∷
    (codes "1 2", UnexpectedToken 2) ∷
    (codes "(1", UnexpectedToken 2) ∷
    (codes "(1]", UnexpectedToken 2) ∷
    (codes "a[1", UnexpectedToken 3) ∷
    (codes "a[", UnexpectedToken 2) ∷
    (codes "a[]", UnexpectedToken 2) ∷
    (codes "f(,)", UnexpectedToken 2) ∷
    (codes "f(1 2)", UnexpectedToken 4) ∷
    (codes "[,1]", UnexpectedToken 2) ∷
    (codes "[1,,]", UnexpectedToken 3) ∷
    (codes "[1 2]", UnexpectedToken 3) ∷
    (codes "{,1}", UnexpectedToken 2) ∷
    (codes "{'a'}", UnexpectedToken 4) ∷
    (codes "{'a': 1 2}", UnexpectedToken 8) ∷
    (codes "a ? b", UnexpectedToken 5) ∷
    (codes "a ? b ? c : d : e", UnexpectedToken 6) ∷
    (codes "a ? b :", UnexpectedToken 7) ∷
    (codes "-(9223372036854775808)", IntOutOfRange 2) ∷
    (codes "9223372036854775808", IntOutOfRange 0) ∷
    (codes "a # b", UnknownCharacter 2) ∷
    (codes ") #", UnknownCharacter 2) ∷
    (codes "1.5", UnexpectedToken 2) ∷
    (codes "1u", UnexpectedToken 1) ∷
    (codes ".a", UnexpectedToken 0) ∷
    (codes "a.?b", UnexpectedToken 2) ∷
    (codes "a in in b", UnexpectedToken 5) ∷
    (codes "a. // b", UnexpectedToken 7) ∷
    (codes "'ab", InvalidTextLiteral 0) ∷
    (times 101 (codes "("), TooManyOpen 100) ∷
    (times 101 (codes "["), TooManyOpen 100) ∷
    (times 101 (codes "{1:"), TooManyOpen 300) ∷
    (times 101 (codes "f("), TooManyOpen 201) ∷
    (times 101 (codes "a.f("), TooManyOpen 403) ∷
    (times 101 (codes "a["), TooManyOpen 201) ∷
    (times 101 (codes "a?a:") ++ codes "a", TooManyOpen 401) ∷
    (times 101 (codes "(") ++ codes ")", TooManyOpen 100) ∷
    (codes "1 1" ++ times 101 (codes "("), UnexpectedToken 2) ∷
    (times 100 (codes "["), UnexpectedToken 100) ∷
    (times 100 (codes "(") ++ codes "1(", UnexpectedToken 101) ∷ []

-- the error is the result for each text
abbrev pub Stand : List (List ℕ × ReadError) → Type 0
Stand [] = Unit {0}
Stand (row ∷ rows) = IsReadResult row.0 (Err row.1) × Stand rows

-- the errors are the results for all of the texts
abbrev pub RefusalRowsStand : Type 0
RefusalRowsStand = Stand refused_texts
