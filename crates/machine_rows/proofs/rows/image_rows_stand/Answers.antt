-- Proof obligations of `image_rows_stand` (src/rows.rt).
use Rattle.std.proofs.Common.{[], ◌∷◌, refl, replicate}
use Rattle.loader.specs.Format.{file_of, magic}
use Rattle.machine_rows.proofs.Lengths.{made, refused, zeros}
use Rattle.machine_rows.proofs.rows.image_rows_stand.Goals as goal

pub returns-clause-images : goal.returns-clause-images
unfolding file_of magic
returns-clause-images c = record {
  seven_slots = refl;
  one_slot = made (replicate 8 0) [] 8 0 refl refl;
  part_of_a_slot = made (1 ∷ []) (replicate 1048577 0) 1 1048577 refl (zeros 1048577);
  no_slot = made [] (replicate 1048577 0) 0 1048577 refl (zeros 1048577);
  long_constants = made (replicate 8 0) (replicate 1048577 0) 8 1048577 refl (zeros 1048577);
  many_slots = made (replicate 458760 0) [] 458760 0 (zeros 458760) refl;
}

pub returns-clause-listings : goal.returns-clause-listings
returns-clause-listings c = record {
  no_code = refl;
  one_slot = refl;
  seven_bytes = refl;
  nine_bytes = refl;
  most_slots = refused (replicate 524288 0) 524288 (zeros 524288);
  many_slots = refused (replicate 524296 0) 524296 (zeros 524296);
  many_slots_and_a_part = refused (replicate 524297 0) 524297 (zeros 524297);
  fails_by_a_part = refl;
  fails_by_no_part = λ h. cc;
  fails_by_length = refused (replicate 524296 0) 524296 (zeros 524296);
  fails_by_no_length = λ h. cc;
  fails_for_memory = refl;
  fails_for_no_memory = λ h. cc;
}
