-- Loop invariant of `ending::texts_of`.

use Rattle.cli.proofs.Prelude.{◌≡◌, map, string_bytes, take}
use Rattle.cli.proofs.ending.texts_of.Given as goal

abbrev pub invariant-loop-word : goal.invariant-loop-word
invariant-loop-word l = map (λ s. s.now) l.texts.items ≡ map string_bytes (take l.word-index l.words)
