-- Proof obligations of `laws::printed_rows_hold`.
use Rattle.std.proofs.Common.{refl}
unfoldable use Rattle.std.specs.Char.{encode_utf8}
unfoldable use Rattle.std.specs.Fmt.{digits}
unfoldable use Rattle.std.specs.Str.{chars}
unfoldable use Rattle.cel_writer.specs.Printed.{printed_in}
use Rattle.cel_writer.proofs.laws.printed_rows_hold.Goals as goal

pub returns : goal.returns
unfolding printed_in chars digits encode_utf8
returns c = record {
  chain = refl;
  right = refl;
  mixed = refl;
  sign = refl;
  negative = refl;
  call = refl;
  method = refl;
  choice = refl;
  list = refl;
  map = refl;
}
