-- The lines on message expressions that are left out, one after the other.
use Rattle.gatekeeper_runner.proofs.Prelude.{◌≡◌, ℕ, ◌+◌, ◌<◌, ◌≤◌, List, [], ◌∷◌, ◌++◌, length, take, sym, ap, ◌∙◌, get_or, take_all, take_more, append-nil, append_assoc}
use Rattle.wide_policy.specs.declared.left_out.LeftOut.{LeftOut}
use Rattle.gatekeeper_runner.specs.Cluster.Telling.{note_line, note_lines}

lines_push : (name : List ℕ) (xs : List LeftOut) (x : LeftOut) → note_lines name (xs ++ x ∷ []) ≡ note_lines name xs ++ note_line name x
lines_push name [] x = append-nil (note_line name x)
lines_push name (y ∷ xs) x = ap (λ (t : List ℕ). note_line name y ++ t) (lines_push name xs x) ∙ sym (append_assoc (note_line name y) (note_lines name xs) (note_line name x))

module _ (name : List ℕ) (notes : List LeftOut) (i : ℕ) (before text : List ℕ) (so_far : text ≡ before ++ note_lines name (take i notes)) where
  pub noted_more : (note : LeftOut) (more : List ℕ) → i < length notes → note ≡ get_or notes i note → more ≡ text ++ note_line name note
      → more ≡ before ++ note_lines name (take (i + 1) notes)
  noted_more note more within is grown =
      let one_more : take (i + 1) notes ≡ take i notes ++ note ∷ [] = take_more notes i note within ∙ ap (λ (n : LeftOut). take i notes ++ n ∷ []) (sym is) in
      grown
      ∙ ap (λ (t : List ℕ). t ++ note_line name note) so_far
      ∙ append_assoc before (note_lines name (take i notes)) (note_line name note)
      ∙ ap (λ (t : List ℕ). before ++ t) (sym (lines_push name (take i notes) note) ∙ ap (note_lines name) (sym one_more))

  pub noted_all : length notes ≤ i → text ≡ before ++ note_lines name notes
  noted_all past = so_far ∙ ap (λ (xs : List LeftOut). before ++ note_lines name xs) (take_all i notes past)
