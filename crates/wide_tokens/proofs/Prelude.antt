-- The names that these proofs use, from the library, the crates below and these definitions. It declares nothing.
pub use Rattle.std.proofs.Common.{All, Bool, Err, IfOk, IfSome, List, None, Ok, OnErr, Option, Result, Some, Vec, ℕ}
pub use Rattle.std.proofs.Common.{ℤ, [], ap, arith, bytes_eq, codes, cond, drop, drop-cons, encode_utf8, false}
pub use Rattle.std.proofs.Common.{get_or, if◌then◌else◌, inl, inr, length, lit≤, map, min, nat_le, nat_lt, neg_ℤ, not}
pub use Rattle.std.proofs.Common.{option_and_then, option_map, pos, refl, subst, suc, sym, take, true, zero, ◌&&◌}
pub use Rattle.std.proofs.Common.{◌*◌, ◌++◌, ◌+◌, ◌-◌, ◌<◌, ◌==◌, ◌^◌, ◌||◌, ◌↔◌, ◌∙◌, ◌∷◌, ◌≡◌, ◌≢◌, ◌≤◌, ◌⊎◌}
pub use Rattle.std.proofs.Math.Nat.{le-mul_of_pos_right}
pub use Rattle.std.proofs.Math.Seq.{drop-append-add, drop-append_seam, take-append_seam}
pub use Rattle.std.proofs.lemmas.Bool.{cases_lt, false_from_ne_true}
pub use Rattle.std.proofs.lemmas.Bool.Decides.{nat_tests, not_from_Decides}
pub use Rattle.std.proofs.lemmas.List.{append-nil, append_assoc, drop-drop, drop-take, get_or-append-add, get_or-drop}
pub use Rattle.std.proofs.lemmas.List.{get_or-take, length-append, length-drop, length-map, length-take}
pub use Rattle.std.proofs.lemmas.List.{length-take-le, map-append, take-append-drop, take-append-le, take-take}
pub use Rattle.std.proofs.lemmas.List.{take_all}
pub use Rattle.std.proofs.lemmas.List.Elements.{All-push}
pub use Rattle.std.proofs.lemmas.List.Sums.{prefix_len-le-length}
pub use Rattle.std.proofs.lemmas.Result.{err_from_is_err_and}
pub use Rattle.std.proofs.lemmas.Slice.Eq.{bytes_eq-Decides}
pub use Rattle.std.proofs.lemmas.Str.{IsCharBoundary-after_ascii, IsCharBoundary-before_ascii, IsUtf8-append}
pub use Rattle.std.proofs.lemmas.Str.{IsUtf8-drop, IsUtf8-encode, IsUtf8-take}
pub use Rattle.std.specs.Char.{IsScalar, digit_value}
pub use Rattle.std.specs.Global.{Global}
pub use Rattle.std.specs.Str.{IsUtf8}
pub use Rattle.cel_tokens.specs.Bytes.{is_between, is_blank, is_digit_of, is_letter, is_line_end, is_name_byte}
pub use Rattle.cel_tokens.specs.Bytes.{opens_comment}
pub use Rattle.cel_tokens.specs.Ints.{digit_begins, fits64, hex_begins, int_at, int_of, number, spelled}
pub use Rattle.wide_tokens.specs.Lexis.{WideTokensReturns, WideTokenBegins, WideCuts, WideIsTokens, WideLexes, WideTakesMemory, WideTokens, lexeme}
pub use Rattle.wide_tokens.specs.Lexis.WideTokenBegins.{a_word}
pub use Rattle.wide_tokens.specs.Lexis.WideCuts.{nothing, over, space, token, too_many, wide_int, wrong_text}
pub use Rattle.wide_tokens.specs.Lexis.WideLexes.{read, too_long}
pub use Rattle.wide_tokens.specs.Lexis.WideTakesMemory.{behind_space, for_text, for_word}
pub use Rattle.cel_tokens.specs.Limits.{text_limit, token_limit}
pub use Rattle.cel_tokens.specs.Marks.{mark_at, mark_of, of_one, of_two, one_byte, two_bytes}
pub use Rattle.wide_tokens.specs.Shown.{WideEndsText}
pub use Rattle.wide_tokens.specs.Steps.{WideCutsTo, WideEndsAs, WideIsTextRefused, refusal_of}
pub use Rattle.cel_tokens.specs.Texts.{code_point, is_code_point, is_quote, is_raw_prefix}
pub use Rattle.wide_tokens.specs.Gap.{stays_in_comment}
pub use Rattle.wide_tokens.specs.Lexed.{WideLexed, before_digits, front_mark, front_number, front_other, front_plain}
pub use Rattle.wide_tokens.specs.Lexed.{front_text, front_word, int_front, literal_word, sign_may_follow, uint_front}
pub use Rattle.wide_tokens.specs.Numbers.{number_at, uint_of}
pub use Rattle.wide_tokens.specs.Quoted.{is_quoted_byte, quoted_at}
pub use Rattle.wide_tokens.specs.Texts.{IsOpened, closes, closing_len, is_bytes_prefix, opening, opening_len, piece}
pub use Rattle.wide_tokens.specs.Texts.{quote_at, raw_at, two_more}
pub use Rattle.wide_tokens.specs.declared.opening.Opening.{Opening}
pub use Rattle.wide_tokens.specs.Token.{WideToken, WideWord, bytes, int, mark, mark_word, name, quoted, token_view, text, uint, word_of}
pub use Rattle.wide_tokens.specs.declared.kind.Kind.{Kind}
pub use Rattle.cel_tokens.specs.declared.mark.Mark.{Mark}
pub use Rattle.cel_tokens.specs.declared.mark.Mark.TheVariants.{CloseBrace, CloseBracket, CloseParen, Minus}
pub use Rattle.cel_tokens.specs.declared.read_error.ReadError.{ReadError}
pub use Rattle.cel_tokens.specs.declared.read_error.ReadError.TheVariants.{Memory, UnknownCharacter}
pub use Rattle.cel_tokens.specs.declared.read_error.ReadError.TheVariants.{InvalidTextLiteral, IntOutOfRange}
pub use Rattle.cel_tokens.specs.declared.read_error.ReadError.TheVariants.{UnexpectedToken, TooManyOpen, TextTooLong}
pub use Rattle.wide_tokens.specs.declared.token.Token.{Token as CodeToken}
unfoldable pub use Rattle.cel_tokens.specs.Bytes.{run}
unfoldable pub use Rattle.cel_tokens.specs.Ints.{number_from}
unfoldable pub use Rattle.wide_tokens.specs.Gap.{between}
unfoldable pub use Rattle.wide_tokens.specs.Lexed.{front}
unfoldable pub use Rattle.wide_tokens.specs.Texts.{content}
