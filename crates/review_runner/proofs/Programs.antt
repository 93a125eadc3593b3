-- The end of the program.
use Rattle.review_runner.proofs.Prelude.{◌≡◌, ◌∙◌, ℕ, ◌<◌, ◌==◌, ◌∷◌, ◌++◌, Bool, true, false, List, [], length, take, Option, Result, Ok, Err, Some, refl, sym, ap, subst, arith, append-nil, OnErr, OnOk, OneImage, AddsBytes, Stream, one_more, FileSystem, Order, OrderOutcome, output_by, output_of, IsDone, Performs, performs, AnswersOrder, AsksOrder, ProgramEffect, DoesOrder, Ending, EndsBy, Given, Puts, System, WritesBytes, WritesPart, cut, ending_line, order, does_order, whole, Done as CodeDone, Refusal, File}
use Rattle.review_runner.proofs.Effects.{ReviewLaws}
use Rattle.streams.specs.declared.failed.Failed.{Failed}
use Rattle.review_runner.specs.Output.{Done}
use Rattle.review_runner.specs.Program.{ProgramResult, refused}
use Rattle.cli.specs.Ending.{WritesError}
use Rattle.cli.proofs.Endings.{says}
use Rattle.review_runner.proofs.EffectWords.{by_words}

-- ---- standard output

no_length : (n : ℕ) (empty : Bool) → empty ≡ (n == 0) → empty ≡ true → n ≡ 0
no_length n empty is so = grind arith

no_bytes : (bytes : List ℕ) → length bytes ≡ 0 → bytes ≡ []
no_bytes [] none = refl
no_bytes (b ∷ more) none = absurd (omega (arith, none))

pub is_none : (bytes : List ℕ) (empty : Bool) → empty ≡ (length bytes == 0) → empty ≡ true → bytes ≡ []
is_none bytes empty is so = no_bytes bytes (no_length (length bytes) empty is so)

pub is_some : (bytes : List ℕ) (empty : Bool) → empty ≡ (length bytes == 0) → empty ≡ false → bytes ≡ [] → ⊥
is_some bytes empty is so none = grind arith

pub puts_none : (s : Stream) (bytes : List ℕ) → bytes ≡ [] → Puts s s bytes (Ok tt)
puts_none s bytes none = (record { adds = λ before is. is ∙ ap Some (sym (append-nil before) ∙ ap (λ (b : List ℕ). before ++ b) (sym none)); failed = refl }, λ e. refl)

pub puts_all : (old new : Stream) (bytes : List ℕ) (result : Result (Unit {0}) Failed) → (bytes ≡ [] → ⊥) → OnOk result (AddsBytes old.bytes new.bytes bytes)
    → OnOk result (new.failed ≡ old.failed) → OnErr result ((many : ℕ) × (many < length bytes) × AddsBytes old.bytes new.bytes (take many bytes)) → OnErr result (new.failed ≡ one_more old.failed) → Puts old new bytes result
puts_all old new bytes (Ok u) some adds failed part fails = (record { adds = adds; failed = failed }, λ none. absurd (some none))
puts_all old new bytes (Err e) some adds failed part fails = record { many = part.0; is_cut = part.1; adds = part.2; failed = fails }

-- ---- the result of an order

module _ (files files_after : Option FileSystem) (asked : Order) (old new : Stream) where
  abbrev Answers : Ending → Type 0
  Answers = AnswersOrder OneImage files files_after asked old new

  whole_by : (d : CodeDone) (outcome : OrderOutcome) → Performs OneImage files asked files_after outcome → output_of d ≡ output_by outcome → Puts old new d.out.items (Ok tt) → EndsBy Answers (Ok d)
  whole_by d (Ok report) p is puts = (
    Ok report.status,
    record { outcome = Ok report; performs = performs p; delivers = whole (subst (WritesBytes old new) (ap (λ (o : Done). o.out) is) puts.0) },
    record { status = ap (λ (o : Done). o.status) is; line = ap (λ (o : Done). o.err) is },
  )
  whole_by d (Err r) p is puts = (
    Err r,
    record { outcome = Err r; performs = performs p; delivers = refused (puts.1 (ap (λ (o : Done). o.out) is)) },
    record { status = ap (λ (o : Done). o.status) is; line = ap (λ (o : Done). o.err) is },
  )

  -- an order was carried out, and its output was written to standard output
  pub was_put : (d : CodeDone) → IsDone OneImage files asked files_after (output_of d) → Puts old new d.out.items (Ok tt) → EndsBy Answers (Ok d)
  was_put d done puts = whole_by d done.outcome done.performs done.output_is puts

  cut_by : (d : CodeDone) (outcome : OrderOutcome) → Performs OneImage files asked files_after outcome → output_of d ≡ output_by outcome → WritesPart old new d.out.items → Answers (Err File)
  cut_by d (Ok report) p is part =
      record { outcome = Ok report; performs = performs p; delivers = cut (subst (WritesPart old new) (ap (λ (o : Done). o.out) is) part) }
  cut_by d (Err r) p is part = absurd (omega (arith, part.is_cut, ap length (ap (λ (o : Done). o.out) is)))

  -- the same if a write failed
  pub was_cut : (d : CodeDone) → IsDone OneImage files asked files_after (output_of d) → WritesPart old new d.out.items → Answers (Err File)
  was_cut d done part = cut_by d done.outcome done.performs done.output_is part

-- ---- endings

pub as_task : (old new : System) (asked : Order) (result : Result CodeDone Refusal) → EndsBy (AnswersOrder OneImage old.files new.files asked old.output new.output) result → new.input ≡ old.input
    → EndsBy (DoesOrder OneImage old new asked) result
as_task old new asked (Ok d) by same = (by.0, order by.1 same, by.2)
as_task old new asked (Err r) by same = order by same

pub as_asked : (given : Given) (old new : System) (asked : Order) (result : Result CodeDone Refusal) → AsksOrder given asked → EndsBy (DoesOrder OneImage old new asked) result
    → EndsBy (ProgramEffect OneImage given old new) result
as_asked given old new asked (Ok d) asks by = (by.0, does_order asks by.1, by.2)
as_asked given old new asked (Err r) asks by = does_order asks by

-- the remaining output was written
pub closes : ReviewLaws → (given : Given) (old new : System) (errors errors_after : Stream) (d : CodeDone) (status : ℕ) → EndsBy (ProgramEffect OneImage given old new) (Ok d) → status ≡ d.status
    → ((ending : Ending) → d.err.items ≡ ending_line ending → WritesError errors errors_after ending) → ProgramResult OneImage given old new errors errors_after status
closes laws given old new errors errors_after d status by is says =
    record { ending = by.0; does = by_words laws _ given old new by.0 by.1; status_is = is ∙ by.2.status; says = says by.0 by.2.line }
