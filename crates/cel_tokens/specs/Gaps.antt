-- The blanks and comments between tokens (cel-spec, WHITESPACE and COMMENT).
use Rattle.std.specs.Prelude.{◌≡◌, ◌≤◌, ◌+◌, ℕ, List, [], ◌∷◌, ◌++◌, length, drop, true, false, not}
use Rattle.cel_tokens.specs.Bytes.{is_blank, is_line_end, between}
use Rattle.cel_tokens.specs.Longest.{AllPass}

-- the line or the text ends here
abbrev pub IsLineOver : List ℕ → Type 0
IsLineOver [] = Unit {0}
IsLineOver (b ∷ bs) = is_line_end b ≡ true

-- a text is blanks and comments, each from two slashes (47) to the end of its line, followed by this rest
pub data Skips : List ℕ → List ℕ → Type 0 where
  none : {rest : List ℕ} → Skips rest rest
  blank : {b : ℕ} {bs rest : List ℕ} → is_blank b ≡ true → Skips bs rest → Skips (b ∷ bs) rest
  comment : (inside after : List ℕ) {rest : List ℕ} → AllPass (λ b. not (is_line_end b)) inside → IsLineOver after → Skips after rest
      → Skips (47 ∷ 47 ∷ (inside ++ after)) rest

-- the first n bytes of this text are blanks and comments, and no longer prefix is
abbrev pub IsGap : List ℕ → ℕ → Type 0
IsGap bytes n = (n ≤ length bytes) × Skips bytes (drop n bytes) × ((rest : List ℕ) → Skips bytes rest → length bytes ≤ n + length rest)

-- `between` computes the longest run of blanks and comments
abbrev pub IsLongestGap : Type 0
IsLongestGap = (bytes : List ℕ) → IsGap bytes (between false bytes)
