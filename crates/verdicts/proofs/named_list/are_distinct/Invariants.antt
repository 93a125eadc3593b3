-- Loop invariant of `named_list::are_distinct`.

use Rattle.verdicts.proofs.Prelude.{◌≡◌, true, map, take, named_view, are_distinct}
use Rattle.verdicts.proofs.Distinct.{HasNames}
use Rattle.verdicts.proofs.named_list.are_distinct.Given as goal

abbrev pub invariant-loop-named : goal.invariant-loop-named
invariant-loop-named l = record {
  distinct : are_distinct (map named_view (take l.named-index l.list)) ≡ true;
  names : HasNames l.names (take l.named-index l.list);
}
