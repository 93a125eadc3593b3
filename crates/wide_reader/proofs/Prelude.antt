-- The names that these proofs use, from the library, the crates below and these definitions. It declares nothing.
pub use Rattle.std.proofs.Common.{All, Bool, Err, IfOk, IfSome, IsErrAnd, List, MatchResult, None, Ok, Option, Result}
pub use Rattle.std.proofs.Common.{Some, ℕ, [], ap, arith, codes, drop, false, if◌then◌else◌, inl, inr, length, map}
pub use Rattle.std.proofs.Common.{nat_lt, not, pos, refl, subst, suc, sym, take, true, true≢false, zero, ◌&&◌}
pub use Rattle.std.proofs.Common.{◌*◌, ◌++◌, ◌+◌, ◌-◌, ◌<◌, ◌||◌, ◌∙◌, ◌∷◌, ◌≡◌, ◌≢◌, ◌≤◌, ◌⊎◌}
pub use Rattle.std.proofs.Math.Seq.{take-append-add, take-append_seam}
pub use Rattle.std.proofs.lemmas.Bool.{cases_order, ltb-false, ltb-true, or_left}
pub use Rattle.std.proofs.lemmas.Bool.Decides.{nat_tests}
pub use Rattle.std.proofs.lemmas.List.{append_assoc, drop-map, length-append, length-map, length-take, length-take-le}
pub use Rattle.std.proofs.lemmas.List.{map-append, take-append-drop, take-append-le}
pub use Rattle.std.proofs.lemmas.Result.{IfOk-weaker, err_from_is_err_and}
pub use Rattle.std.proofs.lemmas.Str.{IsUtf8-from_ascii}
pub use Rattle.std.proofs.lemmas.Str.Ascii.{IsAscii-cons, IsAscii-nil}
pub use Rattle.std.specs.List.{list_all}
pub use Rattle.std.specs.Prelude.{string_bytes}
pub use Rattle.std.specs.Str.{IsAscii, IsUtf8}
pub use Rattle.std.specs.declared.alloc.AllocError.{AllocError}
pub use Rattle.cel_tokens.specs.Bytes.{is_letter, is_name, is_name_byte}
pub use Rattle.cel_tokens.specs.Limits.{text_limit, token_limit}
pub use Rattle.cel_tokens.specs.Marks.{mark_of}
pub use Rattle.cel_tokens.specs.declared.mark.Mark.{Mark}
pub use Rattle.cel_tokens.specs.declared.mark.Mark.TheVariants.{CloseBrace, CloseBracket, CloseParen, Colon, Comma}
pub use Rattle.cel_tokens.specs.declared.mark.Mark.TheVariants.{Dot, Minus, Not, OpenBrace, OpenBracket, OpenParen}
pub use Rattle.cel_tokens.specs.declared.mark.Mark.TheVariants.{Question}
pub use Rattle.cel_tokens.specs.declared.read_error.ReadError.{ReadError}
pub use Rattle.cel_tokens.specs.declared.read_error.ReadError.TheVariants.{Memory, UnknownCharacter}
pub use Rattle.cel_tokens.specs.declared.read_error.ReadError.TheVariants.{InvalidTextLiteral, IntOutOfRange}
pub use Rattle.cel_tokens.specs.declared.read_error.ReadError.TheVariants.{UnexpectedToken, TooManyOpen, TextTooLong}
pub use Rattle.cel_reader.specs.Words.{is_identifier, is_selector, operator_mark, unary_mark}
pub use Rattle.cel_reader.specs.declared.operator.BinaryOperator.{BinaryOperator}
pub use Rattle.cel_reader.specs.declared.operator.UnaryOperator.{UnaryOperator}
pub use Rattle.wide_tokens.proofs.OneReading.{one_end}
pub use Rattle.wide_tokens.proofs.Taking.{some_taken}
pub use Rattle.wide_tokens.specs.Lexis.{WideLexes}
pub use Rattle.wide_tokens.specs.Quoted.{is_quoted_byte, is_quoted_name}
pub use Rattle.wide_tokens.specs.Token.{WideToken, WideWord, int, mark, mark_word, name, quoted, token_view, word_of}
pub use Rattle.wide_tokens.specs.declared.token.Token.{Token as CodeToken}
pub use Rattle.wide_reader.specs.Answers.{AreSupported, WideDeepAt, IsWideExpression, InTokens, FormsWide, IsNoWideExpression, IsWide}
pub use Rattle.wide_reader.specs.Answers.{WideIsViablePrefix, WideParseReturns, WideReadReturns, WideStandsAt, WideUnexpectedAt}
pub use Rattle.wide_reader.specs.Answers.{UnsupportedAt, place_at}
pub use Rattle.wide_reader.specs.Forms.{call_of, method_of}
pub use Rattle.wide_reader.specs.Grammar.{Arguments, WideClass, WideDerives, Expression, Infix, Items, Keyed, Listed, Many, Marked}
pub use Rattle.wide_reader.specs.Grammar.{Member, One, OptionalArguments, WideOptionalComma, OptionalItems, OptionalPairs}
pub use Rattle.wide_reader.specs.Grammar.{Pairs, WidePhrase, Prefixed, Primary, Unary, applied, below}
pub use Rattle.wide_reader.specs.Limits.{open_limit}
pub use Rattle.wide_reader.specs.Look.{WideCloses, WideFoundBy, WideGoesOn, WideIs, WideIsNot, WideIsNotNext, WideLook, at, back_quoted, closing_mark}
pub use Rattle.wide_reader.specs.Look.{constant, in_literal, named, opens, opens_mark, operator, takes_comma}
pub use Rattle.wide_reader.specs.Look.{this_literal, this_mark, this_name, this_one, this_operator, this_quoted, words}
pub use Rattle.wide_reader.specs.Look.{words_only}
pub use Rattle.wide_reader.specs.Place.{place_left, refused_at}
pub use Rattle.wide_reader.specs.Prefixes.{WidePrefixes, none, one_more}
pub use Rattle.wide_reader.specs.Reading.{Argument, BehindArgument, BehindEntry, BehindItem, Bracketed, Called, WideCause}
pub use Rattle.wide_reader.specs.Reading.{Deep, Enclosed, Entry, Got, Indexed, Item, WideKind, Mapped, Misfit, WideOf, WidePlan}
pub use Rattle.wide_reader.specs.Reading.{WidePlanRuns, WideReadOutcome, Refused, ReturnsWideOutcome, Row, Selection, WideReadStep, WideStepReads}
pub use Rattle.wide_reader.specs.Reading.{Suffix, Tail, access, behind, call, calls, done, enter, enters, fails, first_part}
pub use Rattle.wide_reader.specs.Reading.{found, full, go, goes, inside, keyed, listed, look, many, maybe_call, misfit}
pub use Rattle.wide_reader.specs.Reading.{entry_after, index_after, item_after}
pub use Rattle.wide_reader.specs.Reading.{missing, opened, passes, phrase, plan, stands, unfit, up_to, whole}
pub use Rattle.wide_reader.specs.Starts.{Starts}
pub use Rattle.wide_reader.specs.Tree.{Wide, entries, entry_view, item_view, items, view, wides}
pub use Rattle.wide_reader.specs.Words.{is_unsupported, level_of, literal_of, operator_of}
pub use Rattle.wide_reader.specs.declared.closing.Closing.{Closing}
pub use Rattle.wide_reader.specs.declared.closing.Closing.TheVariants.{Call, Map}
pub use Rattle.wide_reader.specs.declared.level.Level.{Level}
pub use Rattle.wide_reader.specs.declared.level.Level.TheVariants.{And, Or, Product, Relation, Sum}
pub use Rattle.wide_reader.specs.declared.refusal.Refusal.{Refusal}
pub use Rattle.wide_reader.specs.declared.wide.Access.{Access}
pub use Rattle.wide_reader.specs.declared.wide.Access.TheVariants.{Optional, Plain}
pub use Rattle.wide_reader.specs.declared.wide.Wide.{Wide as CodeWide}
pub use Rattle.wide_reader.specs.declared.wide_error.WideReadError.{WideReadError}
unfoldable pub use Rattle.cel_reader.specs.Words.{is_reserved, role_of}
unfoldable pub use Rattle.cel_tokens.specs.Bytes.{run}
