-- Proof obligations of `prefixes` (src/look.rt).
use Rattle.cel_reader.proofs.Prelude.{suc, arith}
use Rattle.cel_reader.proofs.Prefixed.{more, ended}
use Rattle.cel_reader.proofs.look.prefixes.Goals as goal

pub loop-behind-preserved : goal.loop-behind-preserved
loop-behind-preserved c = record {
  counted = omega (arith, c.in-Some.ensures.shorter);
  goes = λ n m end e p. c.loop-behind.invariant.goes (suc n) m end (omega arith) (more c.args.operator c.mark.result n _ _ end c.mark.ensures c.in-Some.ensures.at p);
}

pub returns-clause-at : goal.returns-clause-at
returns-clause-at c = c.loop-behind.invariant.goes 0 c.loop-behind.count _ (omega arith) (ended c.args.operator c.mark.result _ c.mark.ensures c.in_default.ensures.at)
