-- The spans of matches, without the text in which they are.
use Rattle.std.proofs.Common.{◌≡◌, ℕ, List, [], ◌∷◌, map, refl, ap}
use Rattle.regex.specs.Strings.{match_span, placed_span}
use Rattle.regex.specs.declared.string.matcher.Match.{Match}

-- a span with its text
abbrev pub placed : List ℕ → ℕ × ℕ → List ℕ × (ℕ × ℕ)
placed text span = (text, span)

abbrev pub span_in : List ℕ × (ℕ × ℕ) → ℕ × ℕ
span_in p = p.1

pub spans_back : (text : List ℕ) (spans : List (ℕ × ℕ)) → map span_in (map (placed text) spans) ≡ spans
spans_back text [] = refl
spans_back text (s ∷ spans) = ap (λ (rest : List (ℕ × ℕ)). s ∷ rest) (spans_back text spans)

pub spans_of : (matches : List Match) → map match_span matches ≡ map span_in (map placed_span matches)
spans_of [] = refl
spans_of (m ∷ matches) = ap (λ (rest : List (ℕ × ℕ)). match_span m ∷ rest) (spans_of matches)
