-- Loop invariants and measures of `pieces` (src/pieces.rt).
use Rattle.text_functions.proofs.Prelude.{◌≡◌, ◌++◌, IsUtf8, all_spelled, chars, pieces}
use Rattle.text_functions.proofs.Splitting.{told}
use Rattle.text_functions.proofs.pieces.pieces.Given as goal

abbrev pub invariant-pieces : goal.invariant-pieces
invariant-pieces l = record {
  utf8 : IsUtf8 l.rest;
  is : told l.parts.items ++ all_spelled (pieces l.left (chars l.separator) (chars l.rest)) ≡ all_spelled (pieces l.cuts (chars l.separator) (chars l.text));
}

abbrev pub decreases-pieces : goal.decreases-pieces
decreases-pieces l = l.left
