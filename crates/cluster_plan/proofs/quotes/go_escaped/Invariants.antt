-- Loop invariants of `quotes::go_escaped`.
use Rattle.cluster_plan.proofs.Prelude.{◌≡◌, flat_map, go_escape, string_bytes}
use Rattle.cluster_plan.proofs.quotes.go_escaped.Given as goal

abbrev pub invariant-loop-c : goal.invariant-loop-c
invariant-loop-c l = string_bytes l.escaped ≡ flat_map go_escape l.yielded
