-- Tokens as plain data.
use Rattle.std.specs.Prelude.{ℕ, ◌-◌, ℤ, List, [], take, drop, Option, Some, None, string_bytes}
use Rattle.cel_tokens.specs.Marks.{mark_of}
use Rattle.cel_tokens.specs.declared.mark.Mark.{Mark}
use Rattle.cel_tokens.specs.declared.kind.Kind.{Kind}
use Rattle.cel_tokens.specs.declared.kind.Kind.TheVariants.{Name, Int, Text, Mark as OfMark}
use Rattle.cel_tokens.specs.declared.token.Token.{Token as CodeToken}

-- a name, by its bytes; an int; a text, by its bytes in UTF-8 with the escapes resolved; an operator or a bracket
pub data Word : Type 0 where
  name : List ℕ → Word
  int : ℤ → Word
  text : List ℕ → Word
  mark : Mark → Word

-- a word and its bytes in the text, from `place` to before `end`
pub record Token : Type 0 where
  pub place : ℕ
  pub end : ℕ
  pub word : Word

-- the word of a mark; `None` is no mark and never occurs, so it maps to the empty name, which is no token
abbrev pub mark_word : Option Mark → Word
mark_word (Some m) = mark m
mark_word None = name []

-- the word of a token of the code, from its kind and its bytes
abbrev pub word_of : List ℕ → Kind → Word
word_of bytes Name = name bytes
word_of bytes (Int z) = int z
word_of bytes (Text s) = text (string_bytes s)
word_of bytes OfMark = mark_word (mark_of bytes)

-- the token of the code as plain data
abbrev pub token_view : List ℕ → CodeToken → Token
token_view source t = record {
  place = t.place;
  end = t.end;
  word = word_of (take (t.end - t.place) (drop t.place source)) t.kind;
}
