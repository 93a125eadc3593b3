-- What is answered to a line.
use Rattle.std.specs.Prelude.{◌≡◌, ◌==◌, ℕ, ◌<◌, ◌≤◌, Bool, true, false, List, [], ◌∷◌, ◌++◌, ◌||◌, codes, length, nat_eq, suc, take}
use Rattle.std.specs.List.{list_all, starts_with}
use Rattle.line_answers.specs.declared.line.Line.{Line}

-- a line, and a text that may be answered to it
abbrev pub LineTexts : Type 1
LineTexts = List ℕ → List ℕ → Type 0

-- ---- a line

-- a space, a tab or a carriage return
abbrev pub is_blank_byte : ℕ → Bool
is_blank_byte b = nat_eq b 32 || (nat_eq b 9 || nat_eq b 13)

-- every byte is blank; so is a line without bytes
abbrev pub is_blank : List ℕ → Bool
is_blank line = list_all is_blank_byte line

-- a text and the line feed that ends it
abbrev pub line_of : List ℕ → List ℕ
line_of text = text ++ 10 ∷ []

-- what is written if an allocation for the answer to a line fails
abbrev pub no_memory_text : List ℕ
no_memory_text = codes "{\"refused\":\"memory\"}\n"

-- a line, and what is written for it, which depends on no other line: by the most bytes of a line that are read, the
-- text for a longer one, and the texts for a line that is decided
pub data AnswersInputLine (most : ℕ) (too_long_text : List ℕ) (decides : LineTexts) (line : List ℕ) : List ℕ → Type 0 where
  -- a line of more bytes is refused unread
  too_long : most < length line → AnswersInputLine most too_long_text decides line (line_of too_long_text)
  passed_over : length line ≤ most → is_blank line ≡ true → AnswersInputLine most too_long_text decides line []
  decided : {text : List ℕ} → length line ≤ most → is_blank line ≡ false → decides line text
      → AnswersInputLine most too_long_text decides line (line_of text)
  -- an allocation fails, which implies nothing about the line
  no_memory : 0 < length line → AnswersInputLine most too_long_text decides line no_memory_text

-- ---- answers that allow

-- the beginning of an answer that allows a request
unfoldable pub allowing_text : List ℕ
allowing_text = codes "{\"apiVersion\":\"admission.k8s.io/v1\",\"kind\":\"AdmissionReview\",\"response\":{\"allowed\":true"

-- the answer to a line allows the request, or there is none
abbrev pub passes : List ℕ → Bool
passes answer = length answer == 0 || starts_with nat_eq answer allowing_text

-- ---- the line that is read

-- what is kept of a line: at most its first `most` + 1 bytes, or nothing if an allocation for them failed
abbrev pub IsKeptOfLine : Bool → ℕ → List ℕ → List ℕ → Type 0
IsKeptOfLine true most kept line = 0 < length line
IsKeptOfLine false most kept line = kept ≡ take (suc most) line

-- a line of which at most this many bytes are read
pub record KeepsLine (most : ℕ) (l : Line) (line : List ℕ) : Type 0 where
  pub most_is : l.most ≡ most
  pub kept : IsKeptOfLine l.lacks most l.bytes.items line

-- the most bytes for which there is room between two lines
abbrev pub kept_room : ℕ
kept_room = 1048576
