-- Proofs of `pieces::pieces`: a cut keeps the invariant, and the result meets the contract.
use Rattle.text_functions.proofs.Prelude.{arith, chars, common_steps}
use Rattle.text_functions.proofs.Splitting.{split_end, split_more}
use Rattle.text_functions.proofs.pieces.pieces.Goals as goal

pub pieces-init : goal.pieces-init
pieces-init c = record { utf8 = c.utf8.text; is = grind (arith, common_steps) }

pub pieces-preserved : goal.pieces-preserved
pieces-preserved c = record {
  utf8 = c.in-Some.ensures.utf8.1;
  is =
      rw c.in_ok-push.ensures.items
      (split_more c.pieces.parts.items c.in-Some.part c.pieces.left (chars c.args.separator.now) (chars c.pieces.rest.now) (chars c.in-Some.after.now) _
      c.in-Some.ensures.utf8.0 c.in-Some.ensures.parts c.pieces.invariant.is);
}

pub returns : goal.returns
returns c =
    rw c.in_ok-push-2.ensures.items
    (split_end c.pieces.parts.items c.pieces.rest c.pieces.left (chars c.args.separator.now) _ c.pieces.invariant.utf8 c.in_default.ensures.parts c.pieces.invariant.is)
