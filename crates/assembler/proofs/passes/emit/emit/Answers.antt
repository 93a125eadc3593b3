-- Proof obligations of `emit` (src/passes/emit.rt).
use Rattle.assembler.proofs.Prelude.{sym, ◌∙◌, arith}
use Rattle.assembler.proofs.Resolving.{emit_step, room_step}
use Rattle.assembler.proofs.passes.emit.emit.Goals as goal

pub loop-line-preserved : goal.loop-line-preserved
loop-line-preserved c = (omega (arith, c.loop-line.invariant.0), room_step c.loop-line.slot c.slots-slot.result c.loop-line.line-index c.args.lines.now _ c.loop-line-test.true c.slots-slot.ensures c.loop-line.invariant.1, emit_step _ c.loop-line.number c.loop-line.slot c.slots-slot.result c.loop-line.line-index c.args.lines.now _ c.loop-line.out.items c.push_statement.new.out.items c.loop-line-test.true (record { says = c.in-Ok.statement; is = sym c.resolve.ensures ∙ c.in-Ok.is; slots = c.slots-slot.ensures; bytes = c.in_ok-push_statement.ensures }) ∙ c.loop-line.invariant.2)
