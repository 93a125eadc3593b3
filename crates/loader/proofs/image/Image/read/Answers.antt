-- Proof obligations of `Image::read` (src/image.rt).
use Rattle.loader.proofs.Prelude.{ap, sym, ◌∙◌, arith, file_of}
use Rattle.loader.proofs.Faults.{HasNoFault}
use Rattle.loader.proofs.RoundTrip.{file_whole}
use Rattle.loader.proofs.image.Image.read.Goals as goal

pub returns-clause-whole : goal.returns-clause-whole
returns-clause-whole c =
    let f : HasNoFault c.args.file.now = record {
      short = sym c.if-is_too_short.ensures;
      magic = sym c.if-has_other_magic.ensures;
      slots = sym c.if-has_bad_slots.ensures;
      constants = sym c.if-has_long_constants.ensures;
      whole = sym c.if-has_other_length.ensures;
    } in
    file_whole c.args.file.now (λ i. let h = c.type_inv.file i in omega arith) f ∙ ap file_of (sym c.in_ok-parts.ensures)
