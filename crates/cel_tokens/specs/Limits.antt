-- The limits of an expression's text.
use Rattle.std.specs.Prelude.{ℕ}

-- the maximum number of bytes of an expression's text
abbrev pub text_limit : ℕ
text_limit = 65536

-- the maximum number of tokens of an expression
abbrev pub token_limit : ℕ
token_limit = 4096
