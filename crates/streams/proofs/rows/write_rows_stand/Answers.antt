-- Proof obligations of `write_rows_stand` (src/rows.rt).
use Rattle.std.proofs.Common.{ℕ, zero, suc, ◌<◌, [], ◌∷◌, Some, refl, take, arith}
use Rattle.streams.specs.Streams.{AddsBytes}
use Rattle.streams.proofs.rows.write_rows_stand.Goals as goal

all_is_no_part : (many : ℕ) → many < 2 → AddsBytes (Some (1 ∷ [])) (Some (1 ∷ 2 ∷ 3 ∷ [])) (take many (2 ∷ 3 ∷ [])) → ⊥
all_is_no_part zero less adds = let is = adds (1 ∷ []) refl in cc
all_is_no_part (suc zero) less adds = let is = adds (1 ∷ []) refl in cc
all_is_no_part (suc (suc n)) less adds = omega arith

pub returns : goal.returns
returns c = record {
  behind = λ before is. cc;
  in_front = λ adds. let is = adds (1 ∷ []) refl in cc;
  in_place = λ adds. let is = adds (1 ∷ []) refl in cc;
  forgotten = λ adds. let is = adds (1 ∷ []) refl in cc;
  unknown = λ before is. cc;
  all = record { adds = λ before is. cc; failed = refl };
  all_and_a_failure = λ w. let is = w.failed in cc;
  only_a_part = λ w. let is = w.adds (1 ∷ []) refl in cc;
  a_part = record { many = 1; is_cut = omega arith; adds = λ before is. cc; failed = refl };
  nothing = record { many = 0; is_cut = omega arith; adds = λ before is. cc; failed = refl };
  a_part_without_failure = λ w. let is = w.failed in cc;
  all_as_a_part = λ w. all_is_no_part w.many w.is_cut w.adds;
}
