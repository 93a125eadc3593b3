-- The assembler and the debugger cut a text into the same lines.
use Rattle.std.proofs.Common.{◌≡◌, ◌∙◌, ℕ, Bool, true, false, List, [], ◌∷◌, ◌++◌, ap, append-nil, append_assoc, fold, if◌then◌else◌, nat_eq, refl, sym}
use Rattle.assembler.specs.Cutting.{before_line, lines_of}
use Rattle.streams.specs.Lines.{cut, cut_byte, input_lines, with_rest}

-- the lines after these bytes of a line that has not ended
glued : List ℕ → List (List ℕ) → List (List ℕ)
glued [] lines = lines
glued (b ∷ bs) [] = (b ∷ bs) ∷ []
glued (b ∷ bs) (line ∷ lines) = ((b ∷ bs) ++ line) ∷ lines

abbrev Pieces : Type 0
Pieces = List (List ℕ) × List ℕ

glued_first : (last : List ℕ) (lines : List (List ℕ)) → glued last ([] ∷ lines) ≡ last ∷ lines
unfolding glued
glued_first [] lines = refl
glued_first (b ∷ bs) lines = ap (λ (o : List ℕ). o ∷ lines) (append-nil (b ∷ bs))

glued_next : (last : List ℕ) (x : ℕ) (lines : List (List ℕ)) → glued (last ++ x ∷ []) lines ≡ glued last (before_line x lines)
unfolding glued
glued_next [] x [] = refl
glued_next [] x (line ∷ lines) = refl
glued_next (b ∷ bs) x [] = refl
glued_next (b ∷ bs) x (line ∷ lines) = ap (λ (o : List ℕ). o ∷ lines) (append_assoc (b ∷ bs) (x ∷ []) line)

closed : (ended : List (List ℕ)) (last : List ℕ) → with_rest ended last ≡ ended ++ glued last []
unfolding glued
closed ended [] = sym (append-nil ended)
closed ended (b ∷ bs) = refl

-- the lines of these bytes after ended lines and one that has not ended
abbrev Cuts : List (List ℕ) → List ℕ → List ℕ → List (List ℕ) → Type 0
Cuts ended last xs lines = with_rest (fold cut_byte (ended, last) xs).0 (fold cut_byte (ended, last) xs).1 ≡ ended ++ glued last lines

step : (feed : Bool) (x : ℕ) (xs : List ℕ) (ended : List (List ℕ)) (last : List ℕ) → ((e : List (List ℕ)) (o : List ℕ) → Cuts e o xs (lines_of xs))
    → let p : Pieces = if feed then (ended ++ last ∷ [], []) else (ended, last ++ x ∷ []) in
    with_rest (fold cut_byte p xs).0 (fold cut_byte p xs).1 ≡ ended ++ glued last (if feed then [] ∷ lines_of xs else before_line x (lines_of xs))
unfolding glued
step true x xs ended last rest =
    rest (ended ++ last ∷ []) []
    ∙ append_assoc ended (last ∷ []) (lines_of xs)
    ∙ ap (λ (ls : List (List ℕ)). ended ++ ls) (sym (glued_first last (lines_of xs)))
step false x xs ended last rest = rest ended (last ++ x ∷ []) ∙ ap (λ (ls : List (List ℕ)). ended ++ ls) (glued_next last x (lines_of xs))

cut_on : (xs : List ℕ) (ended : List (List ℕ)) (last : List ℕ) → Cuts ended last xs (lines_of xs)
cut_on [] ended last = closed ended last
cut_on (x ∷ xs) ended last = step (nat_eq x 10) x xs ended last (λ e o. cut_on xs e o)

pub same_lines : (text : List ℕ) → lines_of text ≡ input_lines text
unfolding cut glued
same_lines text = sym (cut_on text [] [])
