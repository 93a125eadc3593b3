-- Loop invariant of `equality::alike::same_keys`.

use Rattle.value_table.proofs.Prelude.{◌≡◌, take, texts_of}
use Rattle.value_table.proofs.equality.alike.same_keys.Given as goal

abbrev pub invariant-loop-i : goal.invariant-loop-i
invariant-loop-i l = texts_of l.bytes (take l.i l.left) ≡ texts_of l.bytes (take l.i l.right)
