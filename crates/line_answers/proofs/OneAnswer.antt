-- A line has one answer if what decides it has one text.
use Rattle.line_answers.proofs.Prelude.{◌≡◌, ◌≢◌, ℕ, List, ap, arith, refl, sym, ◌∙◌, true≢false, AnswersInputLine, LineTexts, line_of, decided, no_memory, no_memory_text, passed_over, too_long}

module _ (most : ℕ) (long : List ℕ) (decides : LineTexts) (line : List ℕ) where
  -- what decides the line has one text for it
  abbrev pub HasOneText : Type 0
  HasOneText = (a b : List ℕ) → decides line a → decides line b → a ≡ b

  pub answers_same : HasOneText → (a b : List ℕ) → a ≢ no_memory_text → b ≢ no_memory_text → AnswersInputLine most long decides line a → AnswersInputLine most long decides line b → a ≡ b
  answers_same once a b some other (no_memory full) last = absurd (some refl)
  answers_same once a b some other first (no_memory full) = absurd (other refl)
  answers_same once a b some other (too_long above) (too_long also) = refl
  answers_same once a b some other (too_long above) (passed_over short blank) = absurd (omega (arith, above, short))
  answers_same once a b some other (too_long above) (decided short full by) = absurd (omega (arith, above, short))
  answers_same once a b some other (passed_over short blank) (too_long above) = absurd (omega (arith, above, short))
  answers_same once a b some other (passed_over short blank) (passed_over short2 blank2) = refl
  answers_same once a b some other (passed_over short blank) (decided short2 full by) = absurd (true≢false (sym blank ∙ full))
  answers_same once a b some other (decided short full by) (too_long above) = absurd (omega (arith, above, short))
  answers_same once a b some other (decided short full by) (passed_over short2 blank) = absurd (true≢false (sym blank ∙ full))
  answers_same once a b some other (decided {text = t} short full by) (decided {text = s} short2 full2 by2) = ap line_of (once t s by by2)
