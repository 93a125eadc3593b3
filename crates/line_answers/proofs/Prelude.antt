-- The names that these proofs cite of the library, of `streams` and of the definitions here. Declares nothing.
pub use Rattle.std.proofs.Common.{Bool, Err, List, Ok, Option, Result, Some, ℕ, [], ap, append-nil, append_assoc, arith}
pub use Rattle.std.proofs.Common.{drop, false, inl, inr, length, length-drop, length-take, nat_lt, refl, subst, suc, sym}
pub use Rattle.std.proofs.Common.{length-append, take, true, true≢false, ◌≢◌, ◌++◌, ◌+◌, ◌-◌, ◌^◌, ◌&&◌, ◌<◌, ◌∙◌, ◌∷◌, ◌≡◌, ◌≤◌, ◌⊎◌}
pub use Rattle.std.proofs.lemmas.Bool.{ltb-false, ltb-true}
pub use Rattle.std.proofs.lemmas.List.{take-append-drop, take-append-le, take_all}
pub use Rattle.std.proofs.lemmas.Result.{IfOk-weaker, on_err_weaker, on_ok_weaker}
pub use Rattle.streams.proofs.Cut.{Pieces, cut-line, cut-none, cut-part, input_lines-ended, readable-all}
pub use Rattle.streams.specs.Failures.{FailsByResult}
pub use Rattle.streams.specs.Hearing.{HasNoFeed, HeardByResult}
pub use Rattle.streams.specs.Lines.{input_lines, with_rest}
pub use Rattle.streams.specs.Streams.{AddsBytes, Stream, one_more}
pub use Rattle.streams.specs.Writing.{WritesBytes, WritesPart}
pub use Rattle.streams.specs.declared.session_error.SessionError.{SessionError}
pub use Rattle.streams.specs.declared.session_error.SessionError.TheVariants.{ReadFailed, WriteFailed}
unfoldable pub use Rattle.streams.specs.Lines.{cut, readable}
pub use Rattle.line_answers.specs.Lines.{AnswersInputLine, IsKeptOfLine, KeepsLine, LineTexts, is_blank, line_of, passes}
pub use Rattle.line_answers.specs.Lines.{decided, no_memory, no_memory_text, passed_over, too_long}
pub use Rattle.line_answers.specs.AnsweredLines.{AnsweredAllLines, AnsweredPart, AnsweredPartOfLines}
pub use Rattle.line_answers.specs.AnsweredLines.{AnsweredSomeLines, AnswersBreak, AnswersByResult, AnswersCut}
pub use Rattle.line_answers.specs.AnsweredLines.{AnswersEach, AnswersEnd, AnswersInput, AnswersSoFar, AnswersToEnd}
pub use Rattle.line_answers.specs.AnsweredLines.{JoinedTexts, answered, ended, judged}
pub use Rattle.line_answers.specs.Telling.{TakesOf, TellsBreak, TellsEach, TellsEnd, TellsInput, TellsSoFar, telling, told_of}
