-- Proof obligations of `place_register` (src/text/shapes.rt).
use Rattle.assembler.proofs.Prelude.{refl, place_text, register_text}
use Rattle.assembler.proofs.NameBytes.{lacks_place}
use Rattle.assembler.proofs.text.shapes.place_register.Goals as goal

pub returns-in_err-first : goal.returns-in_err-first
returns-in_err-first c = rw c.from_residual.ensures (λ r s z e. c.in_err-first.ensures.only (place_text r z) (register_text s) (lacks_place 44 refl refl refl r z) e)

pub returns-in_err-dst : goal.returns-in_err-dst
returns-in_err-dst c = rw c.from_residual-in_err-dst.ensures (λ r s z e.
    let p = c.in_ok-first.ensures.only (place_text r z) (register_text s) (lacks_place 44 refl refl refl r z) e in
    c.in_err-dst.ensures r z p.0)

pub returns-in_err-src : goal.returns-in_err-src
returns-in_err-src c = rw c.from_residual-in_err-src.ensures (λ r s z e.
    let p = c.in_ok-first.ensures.only (place_text r z) (register_text s) (lacks_place 44 refl refl refl r z) e in
    c.in_err-src.ensures s p.1)
