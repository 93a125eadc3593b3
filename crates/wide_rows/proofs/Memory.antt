-- Texts that are refused before anything is allocated.
use Rattle.std.specs.Prelude.{⊤, ℕ, Bool, true, List, drop, codes}
use Rattle.std.proofs.Common.{sym, subst}
use Rattle.wide_tokens.specs.Lexed as front
use Rattle.wide_tokens.specs.Lexed.{front}
use Rattle.wide_tokens.specs.Lexis.{WideTakesMemory}
use Rattle.wide_tokens.specs.Lexis.WideTakesMemory.{for_word, for_text, behind_space}
use Rattle.wide_rows.proofs.OnLiterals.{tokens_on_literals}

-- what it says of the front of a text that reading on allocates
abbrev Taken : Bool → List ℕ → front.WideLexed → Type 0
Taken signed rest (front.word n w) = ⊤
Taken signed rest front.wrong_text = ⊤
Taken signed rest (front.space n) = WideTakesMemory signed (drop n rest)
Taken signed rest _ = ⊥

taken_of : {signed : Bool} {rest : List ℕ} → WideTakesMemory signed rest → Taken signed rest (front signed rest)
taken_of {signed} {rest} (for_word n w f) = subst (Taken signed rest) (sym f) tt
taken_of {signed} {rest} (for_text f) = subst (Taken signed rest) (sym f) tt
taken_of {signed} {rest} (behind_space n f t) = subst (Taken signed rest) (sym f) t

-- nothing is allocated for a byte that begins no token
pub none_at_a_wrong_byte : WideTakesMemory true (codes "#") → ⊥
unfolding tokens_on_literals
none_at_a_wrong_byte t = taken_of t

pub none_behind_a_blank : WideTakesMemory true (codes " #") → ⊥
unfolding tokens_on_literals
none_behind_a_blank t = none_at_a_wrong_byte (taken_of t)
