-- Loop invariants of `naming::+names_of`.
use Rattle.policy_glue.proofs.Prelude.{◌≡◌, drop, view}
use Rattle.std.specs.Prelude as list
use Rattle.cel_reader.specs.Tree.{trees, entries}
use Rattle.policy_glue.specs.Naming.{one_names, one_entry_names}
use Rattle.policy_glue.proofs.naming.+names_of.Given as goal

abbrev pub invariant-one_names-loop-expression : goal.invariant-one_names-loop-expression
invariant-one_names-loop-expression l =
    one_names l.name (trees (list.map view l.expressions)) ≡ one_names l.name (trees (list.map view (drop l.expression-index l.expressions)))

abbrev pub invariant-one_entry_names-loop-key : goal.invariant-one_entry_names-loop-key
invariant-one_entry_names-loop-key l =
    one_entry_names l.name (entries (list.map (λ e. (view e.0, view e.1)) l.pairs)) ≡ one_entry_names l.name (entries (list.map (λ e. (view e.0, view e.1)) (drop l.key-index l.pairs)))
