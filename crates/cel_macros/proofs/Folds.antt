-- The fold of each macro gives the meaning of the macro.
use Rattle.cel_macros.proofs.Prelude.{◌≡◌, List, Option, Some, None, refl, arith, Value, ValueOrError, Macro, All, Exists, ExistsOne, Filter, Map, over_range, map_over_range, folded, folded_map, ℕ, true, false, Yes, No, truth}
use Rattle.cel_macros.proofs.Quantified.{folds_behind}
use Rattle.cel_macros.proofs.Kept.{folds_exists_one, folds_filter, folds_map, folds_map_where}

pub folds_mean : (m : Macro) (n : List ℕ) (f : List ℕ → Value → ValueOrError) (r : Option (List Value)) → folded m (f n) r ≡ over_range (Some m) (Some n) f r
folds_mean m n f None = refl
folds_mean All n f (Some items) = folds_behind false (f n) Yes items
folds_mean Exists n f (Some items) = folds_behind true (f n) No items
folds_mean ExistsOne n f (Some items) = folds_exists_one (f n) items
folds_mean Filter n f (Some items) = folds_filter (f n) items
folds_mean Map n f (Some items) = folds_map (f n) items

pub fold_maps_mean : (n : List ℕ) (p f : List ℕ → Value → ValueOrError) (r : Option (List Value)) → folded_map (λ x. truth (p n x)) (f n) r ≡ map_over_range true (Some n) p f r
fold_maps_mean n p f r = grind (arith, folds_map_where)
