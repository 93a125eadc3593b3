-- Loop invariant of `roots::start_places`.

use Rattle.value_table.proofs.Prelude.{◌≡◌, ◌++◌, map, array_into_iter_items, AllByRecursion, view, value, first_values, plain_value, StartsWithValues, IsWelcome}
use Rattle.value_table.proofs.roots.start_places.Given as goal

abbrev pub invariant-loop-root : goal.invariant-loop-root
invariant-loop-root l = record {
  starts : StartsWithValues l.heap l.places (first_values ++ map value (map plain_value (map view l.yielded)));
  welcome : AllByRecursion IsWelcome (map view (array_into_iter_items l.root-iterator));
  all : l.yielded ++ array_into_iter_items l.root-iterator ≡ array_into_iter_items l.initial.root-iterator;
}
