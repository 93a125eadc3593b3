-- The names of the library and of the definitions that these proofs use. Declares nothing.
pub use Rattle.std.proofs.Common.{ap, ap₂, arith, cond, drop, encode_utf8, encode_utf8_all, eqb, false, inl, inr, length, map}
pub use Rattle.std.proofs.Common.{min, option_map, refl, rules, string_bytes, subst, suc, sym, take, true, zero}
pub use Rattle.std.proofs.Common.{Err, FitsSigned, Ok, Result, ℤ, neg_ℤ, negsuc, pos, w64, ◌^◌}
pub use Rattle.std.proofs.Common.{Bool, List, None, Option, Some, [], ℕ, ◌+◌, ◌++◌, ◌-◌, ◌<◌, ◌≤◌, ◌≡◌, ◌≢◌, ◌∙◌, ◌∷◌, ◌⊎◌, ◌&&◌, ◌||◌}
pub use Rattle.std.proofs.Common.{◌==◌, slice_index}
pub use Rattle.std.proofs.Common.{IfSome, MatchOption, append_assoc, is_none, length-append, nat_eq, nat_le, nat_lt}
pub use Rattle.std.proofs.lemmas.Bool.{and_from, and_parts, cases_lt, eq-eqb, eqb-true, false_from_ne_true, true≢false}
pub use Rattle.std.proofs.lemmas.Bool.Decides.{nat_tests}
pub use Rattle.std.proofs.lemmas.Grind.{common_steps}
pub use Rattle.std.proofs.lemmas.List.{append-nil, append_cancel_right, drop-append-le, drop-drop, drop-take, drop_at, drop_min, length-drop, length-take}
pub use Rattle.std.proofs.lemmas.List.{length-take-le}
pub use Rattle.std.proofs.lemmas.List.{map_push, take-append-drop, take-take, take_at}
pub use Rattle.std.proofs.lemmas.Option.{IfSome_then, none-some, same_Some, some_pair_parts}
pub use Rattle.std.proofs.lemmas.Str.{IsAscii-append, IsCharBoundary-at_seam, IsUtf8-append, IsUtf8-drop, IsUtf8-past_char, IsUtf8-take}
pub use Rattle.std.proofs.lemmas.Str.{chars-IsAscii, chars-append, chars-encodes, chars_past_char, encodes-IsAscii, encodes-append}
pub use Rattle.std.proofs.lemmas.Str.{encodes-chars, length-le-encodes, scalars-chars}
pub use Rattle.std.proofs.lemmas.List.Splits.{join_with_byte-slice_split}
pub use Rattle.std.specs.List.{join_with_byte, list_all, slice_split}
pub use Rattle.std.specs.Str.{IsAscii, IsCharBoundary, IsUtf8, all_scalars}
unfoldable pub use Rattle.std.specs.Str.{chars}
pub use lib.Utf8.{scalar}
pub use Rattle.std.proofs.lemmas.Str.Parse.{IsNumeralModel, numerals_by_value, tells_all_ascii_digits}
pub use Rattle.std.specs.Result.{OkIff, result_ok}
pub use Rattle.std.specs.Str.{all_ascii_digits}
pub use Rattle.std.specs.Str.Parse.{AllDigits, IsNumeral, ParsesSigned, digits_value, signed_digits_value, without_leading_sign}
pub use Rattle.std.specs.Str.Pattern.{FindsText, HasTextAt, LacksTextAt, RFindsText, SplitsAroundMatch}
pub use denote.Ref.{Bor}
pub use Rattle.text_functions.specs.Cuts.{IsLetterAndRest, IsCut, chosen}
pub use Rattle.text_functions.specs.Formats.{has_ends, is_alphanumeric, is_framed, is_label_character, is_lower_alphanumeric}
pub use Rattle.text_functions.specs.Formats.{is_lower_letter, is_value_character}
unfoldable pub use Rattle.text_functions.specs.Formats.{is_dns1035_label, is_dns1123_label, is_dns1123_subdomain, is_label}
unfoldable pub use Rattle.text_functions.specs.Formats.{is_label_value}
pub use Rattle.text_functions.specs.Ints.{fits64, is_numeral}
unfoldable pub use Rattle.text_functions.specs.Ints.{int_of}
pub use Rattle.text_functions.specs.Parts.{code_point_at, first_from_place, from_on, from_to, last_to_place, last_within, place_or_none}
pub use Rattle.text_functions.specs.Parts.{spelled}
pub use Rattle.text_functions.specs.Pieces.{all_spelled, letters, next_cut, on_cut, parted, pieces, replaced}
pub use Rattle.text_functions.specs.Places.{around, begins, first_from, first_place, is_at, last_below, last_place}
pub use Rattle.text_kernels.proofs.Scalars.{count}
pub use Rattle.text_kernels.specs.Scans.{code_points_of}
pub use Rattle.std.proofs.lemmas.Int.{to_z-of_z}
pub use mir.Val.{of_z, to_z}
