-- Loop invariants of the functions of the cycle `copying` (src/copying.rt).
use Rattle.std.proofs.Common.{◌≡◌, take}
use Rattle.std.specs.Prelude as list
use Rattle.std.specs.Prelude.{IfOk}
use Rattle.cel_reader.specs.Tree.{view, entry_view}
use Rattle.wide_translation.proofs.copying.+copying.Given as goal

abbrev pub invariant-copies-loop-item : goal.invariant-copies-loop-item
invariant-copies-loop-item l = IfOk l.out (λ v. list.map view v.items ≡ list.map view (take l.item-index l.items))

abbrev pub invariant-entry_copies-loop-key : goal.invariant-entry_copies-loop-key
invariant-entry_copies-loop-key l = IfOk l.out (λ v. list.map entry_view v.items ≡ list.map entry_view (take l.key-index l.pairs))
