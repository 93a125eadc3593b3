-- Loop invariant of `constants::joined`.

use Rattle.tree_code.proofs.Prelude.{◌≡◌, ◌++◌, map, drop, string_bytes}
use Rattle.tree_code.specs.Constants as specs
use Rattle.tree_code.proofs.constants.joined.Given as goal

abbrev pub invariant-loop-text : goal.invariant-loop-text
invariant-loop-text l = specs.joined (map string_bytes l.texts) ≡ l.bytes.items ++ specs.joined (map string_bytes (drop l.text-index l.texts))
