-- The names that these proofs use, from the library, the crates below and these definitions. It declares nothing.
pub use Rattle.std.proofs.Common.{All, Bool, Err, FitsSigned, IfOk, IfSome, IsErrAnd, List, MatchResult, None, Ok}
pub use Rattle.std.proofs.Common.{Option, Result, Some, ℕ, [], ap, arith, codes, drop, false, if◌then◌else◌, inl, inr}
pub use Rattle.std.proofs.Common.{length, map, nat_lt, pos, refl, subst, suc, sym, take, true, true≢false, zero, ◌&&◌}
pub use Rattle.std.proofs.Common.{◌*◌, ◌++◌, ◌+◌, ◌-◌, ◌<◌, ◌||◌, ◌∙◌, ◌∷◌, ◌≡◌, ◌≢◌, ◌≤◌, ◌⊎◌}
pub use Rattle.std.proofs.Math.Seq.{take-append-add, take-append_seam}
pub use Rattle.std.proofs.lemmas.Bool.{cases_order, ltb-false, ltb-true, or_left}
pub use Rattle.std.proofs.lemmas.Bool.Decides.{nat_tests}
pub use Rattle.std.proofs.lemmas.List.{append_assoc, drop-map, length-append, length-map, length-take, length-take-le}
pub use Rattle.std.proofs.lemmas.List.{map-append, take-append-drop, take-append-le}
pub use Rattle.std.proofs.lemmas.List.Elements.{All-cons, All-head, All-nil, All-push, All-tail}
pub use Rattle.std.proofs.lemmas.Result.{err_from_is_err_and}
pub use Rattle.std.proofs.lemmas.Str.{IsUtf8-from_ascii, IsUtf8-string_bytes}
pub use Rattle.std.proofs.lemmas.Str.Ascii.{IsAscii-cons, IsAscii-nil}
pub use Rattle.std.specs.Int.{w64}
pub use Rattle.std.specs.List.{list_all}
pub use Rattle.std.specs.Str.{IsAscii, IsUtf8}
pub use Rattle.cel_tokens.proofs.IntsFit.{lexemes_fit}
pub use Rattle.cel_tokens.proofs.OneReading.{one_end}
pub use Rattle.cel_tokens.proofs.Taking.{some_taken}
pub use Rattle.cel_tokens.specs.Bytes.{is_letter, is_name, is_name_byte}
pub use Rattle.cel_tokens.specs.Lexed.{Lexed, sign_may_follow}
pub use Rattle.cel_tokens.specs.Laws.{IntFits}
pub use Rattle.cel_tokens.specs.Lexis.{Cuts, Lexes, lexeme}
pub use Rattle.cel_tokens.specs.Limits.{text_limit, token_limit}
pub use Rattle.cel_tokens.specs.Marks.{mark_of}
pub use Rattle.cel_tokens.specs.Token.{Token, Word, int, mark, mark_word, name, token_view, word_of}
pub use Rattle.cel_tokens.specs.declared.mark.Mark.{Mark}
pub use Rattle.cel_tokens.specs.declared.mark.Mark.TheVariants.{CloseBrace, CloseBracket, CloseParen, Colon, Comma}
pub use Rattle.cel_tokens.specs.declared.mark.Mark.TheVariants.{Dot, Minus, Not, OpenBrace, OpenBracket, OpenParen}
pub use Rattle.cel_tokens.specs.declared.mark.Mark.TheVariants.{Question}
pub use Rattle.cel_tokens.specs.declared.read_error.ReadError.{ReadError}
pub use Rattle.cel_tokens.specs.declared.read_error.ReadError.TheVariants.{Memory, UnknownCharacter}
pub use Rattle.cel_tokens.specs.declared.read_error.ReadError.TheVariants.{InvalidTextLiteral, IntOutOfRange}
pub use Rattle.cel_tokens.specs.declared.read_error.ReadError.TheVariants.{UnexpectedToken, TooManyOpen, TextTooLong}
pub use Rattle.cel_tokens.specs.declared.token.Token.{Token as CodeToken}
unfoldable pub use Rattle.cel_tokens.specs.Bytes.{between, run}
unfoldable pub use Rattle.cel_tokens.specs.Ints.{number_from}
unfoldable pub use Rattle.cel_tokens.specs.Texts.{content, escape}
pub use Rattle.cel_reader.specs.Answers.{ReadReturns, DeepAt, IsReadResult, IsExpression, IsNoExpression}
pub use Rattle.cel_reader.specs.Answers.{UnexpectedAt, StandsAt, ParseReturns, ErrorIsAt, ParseErrorIsAt, IsViablePrefix}
pub use Rattle.cel_reader.specs.Answers.{IsUnreadable}
pub use Rattle.cel_reader.specs.Answers.{place_at}
pub use Rattle.cel_reader.specs.Grammar.{Class, Derives, Expression, Infix, Items, Keyed, Many, Member, One}
pub use Rattle.cel_reader.specs.Grammar.{OptionalComma, OptionalItems, OptionalPairs, Pairs, Phrase, Prefixed}
pub use Rattle.cel_reader.specs.Grammar.{Primary, Unary, below}
pub use Rattle.cel_reader.specs.Laws.{GoesWrongOnce, ReadHasOneResult}
pub use Rattle.cel_reader.specs.Limits.{open_limit}
pub use Rattle.cel_reader.specs.Look.{Closes, FoundBy, GoesOn, Is, IsNot, IsNotNext, Look, at, closing_mark, constant}
pub use Rattle.cel_reader.specs.Look.{in_literal, named, openings, opens, opens_mark, operator, words_only}
pub use Rattle.cel_reader.specs.Look.{takes_comma, this_literal, this_mark, this_name, this_one, this_operator, words}
pub use Rattle.cel_reader.specs.Place.{place_left, refused_at}
pub use Rattle.cel_reader.specs.Prefixes.{Prefixes, none, one_more, wrapped}
pub use Rattle.cel_reader.specs.Reading.{Behind, BehindEntry, Cause, Deep, Enclosed, Entry, ReturnsOutcome, Got, Item}
pub use Rattle.cel_reader.specs.Reading.{Kind, Listed, Mapped, Misfit, Of, ReadOutcome, Plan, StepReads, Refused, Row}
pub use Rattle.cel_reader.specs.Reading.{PlanRuns, Selection, Step, Suffix, Tail, behind, call, calls, done, enter}
pub use Rattle.cel_reader.specs.Reading.{enters, fails, found, full, go, goes, inside, keyed, listed, look, many}
pub use Rattle.cel_reader.specs.Reading.{maybe_call, misfit, missing, opened, operand, passes, phrase, plan, stands}
pub use Rattle.cel_reader.specs.Reading.{unfit, whole}
pub use Rattle.cel_reader.specs.RefusalRows.{RefusalRowsStand, Stand, refused_texts}
pub use Rattle.cel_reader.specs.Tree.{TreeEntries, Literal, Tree, Trees, entries, entry_count, entry_list, entry_view}
pub use Rattle.cel_reader.specs.Tree.{more_entries, more_trees, no_entries, no_trees, tree_count, tree_list, trees}
pub use Rattle.cel_reader.specs.Tree.{view}
pub use Rattle.cel_reader.specs.WellFormed.{AreWellFormed, HasWellFormedEntries, IsWellFormed, IsWellFormedLiteral}
pub use Rattle.cel_reader.specs.Words.{is_identifier, is_selector, level_of, literal_of}
pub use Rattle.cel_reader.specs.Words.{operator_mark, operator_of, unary_mark}
pub use Rattle.cel_reader.specs.declared.closing.Closing.{Closing}
pub use Rattle.cel_reader.specs.declared.closing.Closing.TheVariants.{Call, Map}
pub use Rattle.cel_reader.specs.declared.expr.Expr.{Expr}
pub use Rattle.cel_reader.specs.declared.level.Level.{Level}
pub use Rattle.cel_reader.specs.declared.level.Level.TheVariants.{And, Or, Product, Relation, Sum}
pub use Rattle.cel_reader.specs.declared.operator.BinaryOperator.{BinaryOperator}
pub use Rattle.cel_reader.specs.declared.operator.UnaryOperator.{UnaryOperator}
pub use Rattle.cel_reader.specs.declared.refusal.Refusal.{Refusal}
pub use Rattle.cel_reader.specs.declared.role.Role.{Role}
unfoldable pub use Rattle.cel_reader.specs.Words.{is_reserved, role_of}
