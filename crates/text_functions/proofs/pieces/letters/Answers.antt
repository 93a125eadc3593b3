-- Proofs of `pieces::letters`: a code point keeps the invariant, and the result meets the contract.
use Rattle.text_functions.proofs.Prelude.{◌∙◌, arith, common_steps, eqb-true, length, sym}
use Rattle.text_functions.proofs.Splitting.{letters_more_of, letters_no_rest, letters_rest, some_left}
use Rattle.text_functions.proofs.pieces.letters.Goals as goal

pub letters-init : goal.letters-init
letters-init c = record { utf8 = c.utf8.text; is = grind (arith, common_steps) }

pub letters-preserved : goal.letters-preserved
letters-preserved c = record {
  utf8 = c.in-Some.ensures.1.utf8;
  is =
      rw c.in_ok-push.ensures.items
      (letters_more_of c.letters.parts.items c.in-Some.letter c.letters.left c.letters.rest.now c.in-Some.after.now _ c.in-Some.ensures.0 c.in-Some.ensures.1 c.letters.invariant.is);
}

pub returns-then-is_empty : goal.returns-then-is_empty
returns-then-is_empty c =
    letters_no_rest c.letters.parts.items c.letters.left c.letters.rest.now _ (eqb-true (length c.letters.rest.now) 0 (sym c.is_empty.ensures ∙ c.if-is_empty.true)) c.letters.invariant.is

pub returns : goal.returns
returns c =
    rw c.in_ok-push-2.ensures.items
    (letters_rest c.letters.parts.items c.letters.rest c.letters.left _ c.letters.invariant.utf8 c.in_default.ensures (some_left (length c.letters.rest.now) (sym c.if-is_empty.false ∙ c.is_empty.ensures)) c.letters.invariant.is)
