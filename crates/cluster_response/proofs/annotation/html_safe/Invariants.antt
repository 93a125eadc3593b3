-- Loop invariants of `annotation::html_safe`.
use Rattle.cluster_response.proofs.Prelude.{◌≡◌, flat_map, html_escape, string_bytes}
use Rattle.cluster_response.proofs.annotation.html_safe.Given as goal

abbrev pub invariant-loop-c : goal.invariant-loop-c
invariant-loop-c l = string_bytes l.safe ≡ flat_map html_escape l.yielded
