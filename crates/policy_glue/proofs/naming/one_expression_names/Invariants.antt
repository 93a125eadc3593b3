-- Loop invariants of `naming::one_expression_names`.
use Rattle.policy_glue.proofs.Prelude.{drop, map, named_view}
use Rattle.policy_glue.proofs.Named.{NamesGo}
use Rattle.policy_glue.specs.Naming.{names}
use Rattle.policy_glue.proofs.naming.one_expression_names.Given as goal

abbrev pub invariant-loop-named : goal.invariant-loop-named
invariant-loop-named l = NamesGo (names l.name) (map named_view l.expressions) (map named_view (drop l.named-index l.expressions))
