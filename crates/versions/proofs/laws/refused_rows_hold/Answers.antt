-- Proofs of `laws::refused_rows_hold`: each text computes.
use Rattle.std.proofs.Common.{rules}
use Rattle.text_numbers.specs.Numbers.{number_after}
use Rattle.versions.proofs.laws.refused_rows_hold.Goals as goal
use Rattle.versions.specs.Identifiers.{are_identifiers, are_pre_identifiers, is_identifier, is_number, is_pre_identifier}
use Rattle.versions.specs.Versions.{last_at, minor_at, number_at, patch_at, version_of}

pub returns : goal.returns
unfolding number_after are_identifiers are_pre_identifiers is_identifier is_number is_pre_identifier last_at minor_at number_at patch_at version_of
returns c = search rules
