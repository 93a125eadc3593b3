-- The names of the library, of the crates below and of the definitions that these proofs use. Declares nothing.
pub use Rattle.std.proofs.Common.{Err, List, None, Ok, OnErr, OnOk, Option, Result, Some, ℕ, [], ap, arith, inl, inr}
pub use Rattle.std.proofs.Common.{length, map, refl, string_bytes, subst, take, true, ◌<◌, ◌^◌, ◌∙◌, ◌∷◌, ◌≡◌}
pub use Rattle.std.proofs.lemmas.Bool.{and_from, and_parts, lt-ltb, ltb-true}
pub use Rattle.std.specs.Str.Parse.{AllDigits, ExplainsUnsignedError, HasUnsignedDigitsIfOk, IsNumeral}
pub use Rattle.std.specs.Str.Parse.{ParsesUnsigned, digits_value}
pub use Rattle.clap.proofs.WalkLemmas.{first_value-rows, one_text-rows}
pub use Rattle.clap.specs.Words.{ReadsOne, found_of, one_text}
pub use Rattle.streams.specs.Streams.{AddsBytes, Stream, one_more}
pub use Rattle.streams.specs.Writing.{WritesBytes, WritesPart}
pub use Rattle.cli.specs.Ending.{Ending, ending_line}
pub use Rattle.cli.specs.Number.{are_digits, number_written}
unfoldable pub use Rattle.cli.specs.Number.{number_of}
