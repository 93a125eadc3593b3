-- Proof obligations of `prefixes` (src/look.rt).
use Rattle.wide_reader.proofs.Prelude.{arith}
use Rattle.wide_reader.proofs.Prefixes.{more, ended}
use Rattle.wide_reader.proofs.look.prefixes.Goals as goal

pub loop-behind-preserved : goal.loop-behind-preserved
loop-behind-preserved c = record {
  counted = omega (arith, c.loop-behind.invariant.counted, c.in-Some.ensures.shorter);
  goes = λ last end p. c.loop-behind.invariant.goes last end (more c.args.operator c.unary_mark.result c.loop-behind.odd last _ _ end c.unary_mark.ensures c.in-Some.ensures.at p);
}

pub returns-clause-at : goal.returns-clause-at
returns-clause-at c = c.loop-behind.invariant.goes c.loop-behind.odd _ (ended c.args.operator c.unary_mark.result c.loop-behind.odd _ c.unary_mark.ensures c.in_default.ensures.at)
