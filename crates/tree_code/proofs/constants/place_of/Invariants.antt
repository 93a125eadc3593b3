-- Loop invariant of `constants::place_of`.

use Rattle.tree_code.proofs.Prelude.{◌≡◌, ◌+◌, map, drop, option_map, string_bytes, saturated}
use Rattle.tree_code.specs.Constants as specs
use Rattle.tree_code.proofs.constants.place_of.Given as goal

abbrev pub invariant-loop-other : goal.invariant-loop-other
invariant-loop-other l = record {
  fits : l.place ≡ saturated l.place;
  so_far : option_map saturated (specs.place_of l.text (map string_bytes l.texts))
      ≡ option_map (λ n. saturated (l.place + n)) (specs.place_of l.text (map string_bytes (drop l.other-index l.texts)));
}
