-- Proof obligations of `place_number` (src/text/shapes.rt).
use Rattle.assembler.proofs.Prelude.{refl, place_text, signed_decimal}
use Rattle.assembler.proofs.NameBytes.{lacks_place}
use Rattle.assembler.proofs.text.shapes.place_number.Goals as goal

pub returns-in_err-first : goal.returns-in_err-first
returns-in_err-first c = rw c.from_residual.ensures (λ r z n e. c.in_err-first.ensures.only (place_text r z) (signed_decimal n) (lacks_place 44 refl refl refl r z) e)

pub returns-in_err-dst : goal.returns-in_err-dst
returns-in_err-dst c = rw c.from_residual-in_err-dst.ensures (λ r z n e.
    let p = c.in_ok-first.ensures.only (place_text r z) (signed_decimal n) (lacks_place 44 refl refl refl r z) e in
    c.in_err-dst.ensures r z p.0)

pub returns-in_err-number : goal.returns-in_err-number
returns-in_err-number c = rw c.from_residual-in_err-number.ensures (λ r z n e.
    let p = c.in_ok-first.ensures.only (place_text r z) (signed_decimal n) (lacks_place 44 refl refl refl r z) e in
    c.in_err-number.ensures n p.1)
