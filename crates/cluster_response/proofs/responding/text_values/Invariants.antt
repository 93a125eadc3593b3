-- Loop invariants of `responding::text_values`.
use Rattle.serde_json.specs.Data as json
use Rattle.cluster_response.proofs.Prelude.{◌≡◌, ◌++◌, drop, map, string_bytes, view}
use Rattle.cluster_response.proofs.responding.text_values.Given as goal

abbrev pub invariant-loop-text : goal.invariant-loop-text
invariant-loop-text l =
    map view l.values.items ++ map json.string (map string_bytes (drop l.text-index l.texts)) ≡ map json.string (map string_bytes l.texts)
