-- Loop invariant of `constants::take_each`.

use Rattle.tree_code.proofs.Prelude.{◌≡◌, length, map, drop, take, string_bytes, with_texts}
use Rattle.tree_code.proofs.constants.take_each.Given as goal

abbrev pub invariant-loop-text : goal.invariant-loop-text
invariant-loop-text l = record {
  so_far : with_texts (map string_bytes l.texts.keys) (map string_bytes (drop l.text-index l.used)) ≡ with_texts (map string_bytes l.initial.texts.keys) (map string_bytes l.used);
  front : take (length l.initial.texts.keys) l.texts.keys ≡ l.initial.texts.keys;
}
