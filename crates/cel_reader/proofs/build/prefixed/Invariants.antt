-- Loop invariants of `prefixed` (src/build.rt).
use Rattle.cel_reader.proofs.Prelude.{◌≡◌, view, wrapped}
use Rattle.cel_reader.proofs.build.prefixed.Given as goal

abbrev pub invariant-loop : goal.invariant-loop
invariant-loop l = view l.tree ≡ wrapped l.operator l.counter (view l.fn.operand)
