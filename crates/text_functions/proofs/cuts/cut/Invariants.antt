-- Loop invariants and measures of `cut` (src/cuts.rt).
use Rattle.text_functions.proofs.Prelude.{IsUtf8}
use Rattle.text_functions.proofs.Cutting.{Passed}
use Rattle.text_functions.proofs.cuts.cut.Given as goal

abbrev pub invariant-letters : goal.invariant-letters
invariant-letters l = record {
  utf8 : IsUtf8 l.rest;
  passed : Passed l.count l.text l.rest l.left;
}

abbrev pub decreases-letters : goal.decreases-letters
decreases-letters l = l.left
