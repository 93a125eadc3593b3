-- Loop invariants of `scopes::scopes_of`.
use Rattle.cluster_state.proofs.Prelude.{named_view}
use Rattle.cluster_state.proofs.Scoped.{ScopesGo}
use Rattle.cluster_state.proofs.scopes.scopes_of.Given as goal

abbrev pub invariant-loop-name : goal.invariant-loop-name
invariant-loop-name l = ScopesGo l.scopes (named_view l.initial._name-iterator) (named_view l._name-iterator)
