-- Loop invariants and measures of `letters` (src/pieces.rt).
use Rattle.text_functions.proofs.Prelude.{◌≡◌, ◌++◌, IsUtf8, all_spelled, chars, letters}
use Rattle.text_functions.proofs.Splitting.{told}
use Rattle.text_functions.proofs.pieces.letters.Given as goal

abbrev pub invariant-letters : goal.invariant-letters
invariant-letters l = record {
  utf8 : IsUtf8 l.rest;
  is : told l.parts.items ++ all_spelled (letters l.left (chars l.rest)) ≡ all_spelled (letters l.count (chars l.text));
}

abbrev pub decreases-letters : goal.decreases-letters
decreases-letters l = l.left
