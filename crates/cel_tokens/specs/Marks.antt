-- Operators and brackets.
use Rattle.std.specs.Prelude.{ℕ, List, [], ◌∷◌, if◌then◌else◌, ◌==◌, ◌&&◌, Option, Some, None}
use Rattle.std.specs.Option.{option_or}
use Rattle.cel_tokens.specs.declared.mark.Mark.{Mark}
use Rattle.cel_tokens.specs.declared.mark.Mark.TheVariants.{Question, Colon, Or, And, Less, LessEqual, GreaterEqual, Greater, Equal}
use Rattle.cel_tokens.specs.declared.mark.Mark.TheVariants.{NotEqual, Plus, Minus, Star, Slash, Percent, Not, Dot, Comma, OpenParen}
use Rattle.cel_tokens.specs.declared.mark.Mark.TheVariants.{CloseParen, OpenBracket, CloseBracket, OpenBrace, CloseBrace}

-- the mark of these two bytes, if any: || && <= >= == !=
abbrev pub two_bytes : ℕ → ℕ → Option Mark
two_bytes a b =
    if (a == 124) && (b == 124) then Some Or
    else (if (a == 38) && (b == 38) then Some And
    else (if (a == 60) && (b == 61) then Some LessEqual
    else (if (a == 62) && (b == 61) then Some GreaterEqual
    else (if (a == 61) && (b == 61) then Some Equal
    else (if (a == 33) && (b == 61) then Some NotEqual
    else None)))))

-- the bracket of this byte, if any: ( ) [ ] { }
abbrev pub bracket : ℕ → Option Mark
bracket b =
    if b == 40 then Some OpenParen
    else (if b == 41 then Some CloseParen
    else (if b == 91 then Some OpenBracket
    else (if b == 93 then Some CloseBracket
    else (if b == 123 then Some OpenBrace
    else (if b == 125 then Some CloseBrace
    else None)))))

-- the operator of this byte, if any: ? : < > + - * / % ! . ,
abbrev pub operator : ℕ → Option Mark
operator b =
    if b == 63 then Some Question
    else (if b == 58 then Some Colon
    else (if b == 60 then Some Less
    else (if b == 62 then Some Greater
    else (if b == 43 then Some Plus
    else (if b == 45 then Some Minus
    else (if b == 42 then Some Star
    else (if b == 47 then Some Slash
    else (if b == 37 then Some Percent
    else (if b == 33 then Some Not
    else (if b == 46 then Some Dot
    else (if b == 44 then Some Comma
    else None)))))))))))

-- the mark of this byte, if any
abbrev pub one_byte : ℕ → Option Mark
one_byte b = option_or (bracket b) (operator b)

-- the mark of a token with these bytes
abbrev pub mark_of : List ℕ → Option Mark
mark_of [] = None
mark_of (a ∷ []) = one_byte a
mark_of (a ∷ b ∷ []) = two_bytes a b
mark_of (a ∷ b ∷ c ∷ bs) = None

-- a mark of one byte with its length
abbrev pub of_one : Option Mark → Option (Mark × ℕ)
of_one None = None
of_one (Some m) = Some (m, 1)

-- the mark of two bytes with its length, else the mark of one byte
abbrev pub of_two : Option Mark → Option Mark → Option (Mark × ℕ)
of_two None one = of_one one
of_two (Some m) one = Some (m, 2)

-- the longest mark at the front with its length
abbrev pub mark_at : List ℕ → Option (Mark × ℕ)
mark_at [] = None
mark_at (a ∷ []) = of_one (one_byte a)
mark_at (a ∷ b ∷ bs) = of_two (two_bytes a b) (one_byte a)
