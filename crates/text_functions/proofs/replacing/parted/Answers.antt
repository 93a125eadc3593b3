-- Proofs of `replacing::parted`: a code point keeps the invariant, and the result meets the contract.
use Rattle.text_functions.proofs.Prelude.{◌∙◌, ◌++◌, ap, arith, common_steps, string_bytes}
use Rattle.text_functions.proofs.ReplacedParts.{part_done, part_more}
use Rattle.text_functions.proofs.replacing.parted.Goals as goal

pub letters-init : goal.letters-init
letters-init c = record { utf8 = c.utf8.text; is = grind (arith, common_steps) }

pub letters-preserved : goal.letters-preserved
letters-preserved c = record {
  utf8 = c.in-Some.ensures.1.utf8;
  is =
      rw c.in_ok-push_both.ensures
      (part_more (string_bytes c.letters.made) c.args.other.now c.in-Some.letter.now c.in-Some.after.now c.letters.left c.letters.rest.now _ c.utf8.other
      c.in-Some.ensures.0 c.in-Some.ensures.1 c.letters.invariant.is);
}

pub returns : goal.returns
returns c =
    c.in_ok-push_str.ensures.bytes
    ∙ ap (λ xs. string_bytes c.letters.made ++ xs) c.chosen.ensures
    ∙ part_done (string_bytes c.letters.made) c.args.other.now c.letters.rest.now c.letters.left _ c.utf8.other c.letters.invariant.utf8 c.in_default.ensures
    c.letters.invariant.is
