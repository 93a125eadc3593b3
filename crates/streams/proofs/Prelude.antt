-- The names that these proofs use, from the library, the crates below and these definitions. It declares nothing.
pub use Rattle.std.proofs.Common.{Bool, IfErr, List, None, OnErr, OnOk, Option, Result, Some, ℕ, [], ap, append-nil}
pub use Rattle.std.proofs.Common.{append_assoc, arith, cond, drop, fold, length, length-drop, length-take}
pub use Rattle.std.proofs.Common.{nat_eq, refl, rules, suc, sym, take, ◌++◌, ◌+◌, ◌-◌, ◌<◌, ◌∙◌, ◌∷◌, ◌≡◌, ◌≤◌}
pub use Rattle.std.proofs.Common.{Err, Ok, drop-drop, eq-eqb, eqb-true, get_or-take, inl, inr, length-append, subst}
pub use Rattle.std.proofs.Common.{false, take-suc, take-take, true, zero}
pub use Rattle.std.specs.Prelude.{is_err}
pub use Rattle.std.proofs.Math.Seq.{take-add}
pub use Rattle.memchr.specs.Find.{IsFirstByte, is_byte}
pub use Rattle.std.proofs.lemmas.Bool.Decides.{nat_tests}
pub use Rattle.std.proofs.lemmas.List.{drop-append-le, take-append-drop, take-append-le, take_all}
pub use Rattle.std.proofs.lemmas.Grind.{common_steps}
pub use Rattle.std.proofs.lemmas.List.Sums.{fold-append, fold_push}
pub use Rattle.streams.specs.Buffers.{buffered}
pub use Rattle.streams.specs.Failures.{FailsByResult}
pub use Rattle.streams.specs.Lines.{cut_byte, input_lines, with_rest}
pub use Rattle.streams.specs.Streams.{AddsBytes, GivesBytes, one_more}
pub use Rattle.streams.specs.declared.session_error.SessionError.{SessionError}
pub use Rattle.streams.specs.declared.session_error.SessionError.TheVariants.{WriteFailed}
unfoldable pub use Rattle.streams.specs.Lines.{cut, readable}
