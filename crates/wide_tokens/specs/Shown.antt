-- What the code finds at the front of a text, in the terms of the definitions.
use Rattle.std.specs.Prelude.{ℕ, ◌≤◌, List, ◌++◌, take}
use Rattle.std.specs.Str.{IsUtf8}
use Rattle.wide_tokens.specs.Token.{word_of}
use Rattle.wide_tokens.specs.Lexed as front
use Rattle.wide_tokens.specs.declared.lexed.Lexed.{Lexed}
use Rattle.wide_tokens.specs.declared.lexed.Lexed.TheVariants.{Over, Space, Word, WrongText, WideInt, Nothing}

-- the code's finding as plain data: its words, with lengths in bytes
abbrev pub lexed_view : List ℕ → Lexed → front.WideLexed
lexed_view bytes Over = front.over
lexed_view bytes (Space n) = front.space n
lexed_view bytes (Word n kind) = front.word n (word_of (take n bytes) kind)
lexed_view bytes WrongText = front.wrong_text
lexed_view bytes (WideInt n) = front.wide_int n
lexed_view bytes Nothing = front.nothing

-- the finding is within a text of this length and consumes at least one byte
abbrev pub WideIsWithin : ℕ → Lexed → Type 0
WideIsWithin len Over = Unit {0}
WideIsWithin len (Space n) = (1 ≤ n) × (n ≤ len)
WideIsWithin len (Word n kind) = (1 ≤ n) × (n ≤ len)
WideIsWithin len WrongText = Unit {0}
WideIsWithin len (WideInt n) = n ≤ len
WideIsWithin len Nothing = Unit {0}

-- the bytes are the end of a UTF-8 text
abbrev pub WideEndsText : List ℕ → Type 0
WideEndsText bytes = (before : List ℕ) × IsUtf8 (before ++ bytes)
