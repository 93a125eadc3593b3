-- The start and the end of a program.
use Rattle.cli.proofs.Prelude.{◌≡◌, ℕ, ◌<◌, List, length, take, Result, Ok, Err, subst, inl, inr, OnErr, OnOk, AddsBytes, Stream, one_more, Ending, WritesBytes, WritesPart, ending_line}
use Rattle.streams.specs.declared.failed.Failed.{Failed}
use Rattle.clap.specs.Words.{Kinds, Text}
use Rattle.host.specs.declared.order_error.OrderError.{OrderError, TheVariants.InvalidArguments}
use Rattle.host.specs.declared.order_error.OrderError.TheVariants as order_error
use Rattle.cli.specs.Ending.{AsksNothing, WritesError, no_memory, not_taken}
use Rattle.cli.specs.Parsing.{IsNotTaken}
use Rattle.cli.specs.Refusals.{order_refusal}

pub says : (old new : Stream) (bytes : List ℕ) (ending : Ending) (result : Result (Unit {0}) Failed) → bytes ≡ ending_line ending → OnOk result (AddsBytes old.bytes new.bytes bytes)
    → OnOk result (new.failed ≡ old.failed) → OnErr result ((many : ℕ) × (many < length bytes) × AddsBytes old.bytes new.bytes (take many bytes)) → OnErr result (new.failed ≡ one_more old.failed) → WritesError old new ending
says old new bytes ending (Ok u) line adds failed part fails = inl (subst (WritesBytes old new) line (record { adds = adds; failed = failed }))
says old new bytes ending (Err e) line adds failed part fails =
    inr (subst (WritesPart old new) line (record { many = part.0; is_cut = part.1; adds = part.2; failed = fails }))

-- words that are refused
pub words_refused : (faults : List Text → Kinds) (words : List Text) (e : OrderError) → IsNotTaken (faults words) e → AsksNothing faults (Ok words) (order_refusal e)
words_refused faults words InvalidArguments bad = not_taken bad
words_refused faults words order_error.Memory u = no_memory
