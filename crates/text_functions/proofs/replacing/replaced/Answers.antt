-- Proofs of `replacing::replaced`: a cut keeps the invariant, and the result meets the contract.
use Rattle.text_functions.proofs.Prelude.{◌∙◌, arith, chars, common_steps, string_bytes}
use Rattle.text_functions.proofs.ReplacedParts.{replace_end, replace_more}
use Rattle.text_functions.proofs.replacing.replaced.Goals as goal

pub places-init : goal.places-init
places-init c = record { utf8 = c.utf8.text; is = grind (arith, common_steps) }

pub places-preserved : goal.places-preserved
places-preserved c = record {
  utf8 = c.in-Some.ensures.utf8.1;
  is =
      rw c.in_ok-push_both.ensures
      (replace_more (string_bytes c.places.made) c.in-Some.before.now c.args.other.now c.places.left (chars c.args.part.now) (chars c.places.rest.now)
      (chars c.in-Some.after.now) _ c.in-Some.ensures.utf8.0 c.utf8.other c.in-Some.ensures.parts c.places.invariant.is);
}

pub returns : goal.returns
returns c =
    c.in_ok-push_str.ensures.bytes
    ∙ replace_end (string_bytes c.places.made) c.places.rest.now c.places.left (chars c.args.part.now) (chars c.args.other.now) _ c.places.invariant.utf8
    c.in_default.ensures.parts c.places.invariant.is
