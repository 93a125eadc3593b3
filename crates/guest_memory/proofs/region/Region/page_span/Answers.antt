-- Proof obligations of `Region::page_span` (src/region.rt).
use Rattle.guest_memory.proofs.Prelude.{arith, refl}
use Rattle.guest_memory.proofs.Places.{place_beyond, place_in_page}
use Rattle.guest_memory.proofs.Reading.{some_bytes}
use Rattle.guest_memory.proofs.region.Region.page_span.Goals as goal

pub returns-then-page-len : goal.returns-then-page-len
returns-then-page-len g c =
    place_beyond _ _ _ _ _ c.ranges.addr.fits
    (record { word = c.ranges.base.fits; first = c.requires; most = omega (arith, c.len-len.ensures.same, c.len-len.ensures.most) })
    (omega (arith, c.len-len.ensures.same, c.len-len.ensures.whole)) (some_bytes c.args.size) refl
    (omega (arith, c.len-len.ensures.same, c.if-page-len.true))

pub returns : goal.returns
returns g c = (
  place_in_page _ _ _ _ _ c.ranges.addr.fits
      (record { word = c.ranges.base.fits; first = c.requires; most = omega (arith, c.len-len.ensures.same, c.len-len.ensures.most) })
      (omega (arith, c.bytes.ensures.value, c.bytes.ensures.most)) refl
      (omega (arith, c.len-len.ensures.same, c.if-page-len.false)) (omega (arith, c.bytes.ensures.value, c.if-from-bytes.false)),
  omega (arith, c.len-len.ensures.same, c.if-page-len.false),
  omega (arith, c.bytes.ensures.value, c.bytes.ensures.most, c.if-from-bytes.false),
)
