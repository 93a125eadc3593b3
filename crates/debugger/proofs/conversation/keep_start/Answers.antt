-- Proof obligations of `keep_start` (src/conversation.rt).
use Rattle.debugger.proofs.Prelude.{◌∙◌, ◌-◌, arith, length-take}
use Rattle.debugger.proofs.Asked.{fits_ok, keep_all, keep_some}
use Rattle.debugger.proofs.conversation.keep_start.Goals as goal

pub returns-then-part-room : goal.returns-then-part-room
returns-then-part-room c =
    let short = c.len-room.ensures in
    fits_ok _ _ (c.try_extend_from_slice-all.ensures.variant.1 (omega (arith, short.value, short.fits, c.if-part-room.true))) c.try_extend_from_slice-all.ensures.ok
    ∙ keep_all c.args.line.now.items c.args.part.now (omega (arith, short.value, c.if-part-room.true)) (omega (arith, short.value, short.fits))

pub returns : goal.returns
returns c =
    let short = c.len-room.ensures in
    let size = length-take (65 - c.len-room.result) c.args.part.now in
    fits_ok _ _ (c.try_extend_from_slice-some.ensures.variant.1 (omega (arith, short.value, short.fits, size))) c.try_extend_from_slice-some.ensures.ok
    ∙ keep_some c.args.line.now.items c.args.part.now c.len-room.result short.value (omega (arith, c.if-part-room.false)) short.fits
