-- Words that ask for a text.
use Rattle.gatekeeper_runner.proofs.Prelude.{◌≡◌, ◌∙◌, ℕ, ◌≤◌, Bool, Option, List, [], ◌∷◌, String, Global, Text, ap, arith, drop, length, map, refl, string_bytes, take, take_all}
use Rattle.std.specs.List.{list_any}
use Rattle.std.specs.Prelude.{◌-◌, ◌||◌}
use Rattle.gatekeeper_runner.specs.About.{is_help, text_after_name, text_of_words}

any_of_strings : (p : List ℕ → Bool) (words : List (String Global)) → list_any (λ w. p (string_bytes w)) words ≡ list_any p (map string_bytes words)
any_of_strings p [] = refl
any_of_strings p (w ∷ ws) = ap (λ b. p (string_bytes w) || b) (any_of_strings p ws)

-- one of the words is --help
pub help_among : (words : List (String Global)) → list_any (λ w. is_help (string_bytes w)) words ≡ list_any is_help (map string_bytes words)
help_among words = any_of_strings is_help words

-- the text for the words after the first
pub after_name : (words : List (String Global)) (text : Option Text) → 1 ≤ length words
    → text ≡ text_of_words (map string_bytes (take (length words - 1) (drop 1 words))) → text ≡ text_after_name (map string_bytes words)
after_name [] text some is = absurd (omega (arith, some))
after_name (w ∷ ws) text some is =
    is ∙ ap (λ (rest : List (String Global)). text_of_words (map string_bytes rest)) (take_all (length (w ∷ ws) - 1) ws (omega (arith)))
