-- Tokens as plain data.
use Rattle.std.specs.Prelude.{ℕ, ◌-◌, ℤ, List, [], take, drop, length, Option, Some, None, string_bytes}
use Rattle.cel_tokens.specs.Marks.{mark_of}
use Rattle.cel_tokens.specs.declared.mark.Mark.{Mark}
use Rattle.wide_tokens.specs.declared.kind.Kind.{Kind}
use Rattle.wide_tokens.specs.declared.kind.Kind.TheVariants.{Name, Quoted, Int, Uint, Text, Bytes, Double, Mark as OfMark}
use Rattle.wide_tokens.specs.declared.token.Token.{Token as CodeToken}

-- a name, by its bytes; one in back quotes, by those between them; an int; an unsigned int; a text, by its bytes in
-- UTF-8 with the escapes resolved; bytes and a double, whose values no tree has; an operator or a bracket
pub data WideWord : Type 0 where
  name : List ℕ → WideWord
  quoted : List ℕ → WideWord
  int : ℤ → WideWord
  uint : ℕ → WideWord
  text : List ℕ → WideWord
  bytes : WideWord
  double : WideWord
  mark : Mark → WideWord

-- a word and its bytes in the text, from `place` to before `end`
pub record WideToken : Type 0 where
  pub place : ℕ
  pub end : ℕ
  pub word : WideWord

-- the word of a mark; `None` is no mark and never occurs, so it maps to the empty name, which is no token
abbrev pub mark_word : Option Mark → WideWord
mark_word (Some m) = mark m
mark_word None = name []

-- the bytes between the first and the last
abbrev pub inside : List ℕ → List ℕ
inside bs = take (length bs - 2) (drop 1 bs)

-- the word of a token of the code, from its kind and its bytes
abbrev pub word_of : List ℕ → Kind → WideWord
word_of bs Name = name bs
word_of bs Quoted = quoted (inside bs)
word_of bs (Int z) = int z
word_of bs (Uint n) = uint n
word_of bs (Text s) = text (string_bytes s)
word_of bs Bytes = bytes
word_of bs Double = double
word_of bs OfMark = mark_word (mark_of bs)

-- the token of the code as plain data
abbrev pub token_view : List ℕ → CodeToken → WideToken
token_view source t = record {
  place = t.place;
  end = t.end;
  word = word_of (take (t.end - t.place) (drop t.place source)) t.kind;
}
