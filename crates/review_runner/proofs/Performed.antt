-- Orders that are carried out, and their outputs.
use Rattle.review_runner.proofs.Prelude.{◌≡◌, ◌∙◌, ℕ, true, false, List, [], Result, Ok, Err, Option, refl, sym, ap, subst, arith, IfOk, IsErr, OnErr, OnOk, AllocError, OneImage, FileSystem, KeepsFiles, OpensFile, RunsOut, ReviewFiles, Order, is_session, OrderOutcome, output_by, output_of, refused, report_of, lacks_memory, performs, IsDone, LacksMemory, Performs, PerformsBy, WritesImage, only_reads, named_files, unread, Done as CodeDone, Refusal, Memory, SourceKind, PolicyDocument, ProgramText}
use Rattle.std.proofs.Common.{◌≢◌}
use Rattle.review_runner.specs.Order.{assemble, compile, debug, list, review, run_image}
use Rattle.review_runner.specs.Output.{Done}
use Rattle.review_runner.specs.PolicyFiles.{HoldsReviewFiles}
use Rattle.review_runner.specs.declared.report.Report.{Report as CodeReport}
use Rattle.host.specs.declared.file_error.FileError.TheVariants as file_error
use Rattle.review_runner.proofs.HeldFiles.{holds, unread as unread_file}
use Rattle.review_runner.proofs.MadeFiles.{same_files}

-- ---- files

-- an order that only reads does not change the files
pub stays : (old new : Option FileSystem) (wanted : Order) (outcome : OrderOutcome) → PerformsBy OneImage old wanted new outcome → only_reads wanted ≡ true → new ≡ old
stays old new wanted outcome p is = grind arith

kept_by_image : (old new : Option FileSystem) (name : List ℕ) (file : Result (List ℕ) Refusal) (outcome : OrderOutcome) → WritesImage old name file new outcome
    → IsErr outcome → KeepsFiles old new
kept_by_image old new name file outcome w is = grind arith

kept_by_order : (old new : Option FileSystem) (wanted : Order) (outcome : OrderOutcome) → Performs OneImage old wanted new outcome → IsErr outcome → KeepsFiles old new
kept_by_order old new wanted outcome p is = grind (arith, kept_by_image)

kept_by_lack : (old new : Option FileSystem) (wanted : Order) → LacksMemory old wanted new → KeepsFiles old new
kept_by_lack old new wanted l = grind arith

-- an order that is refused does not change the files
pub kept : (old new : Option FileSystem) (wanted : Order) (r : Refusal) → PerformsBy OneImage old wanted new (Err r) → KeepsFiles old new
kept old new wanted r p = by (Err r) p refl
  where
    by : (outcome : OrderOutcome) → PerformsBy OneImage old wanted new outcome → IsErr outcome → KeepsFiles old new
    by outcome (performs p) is = kept_by_order old new wanted outcome p is
    by outcome (lacks_memory l) is = kept_by_lack old new wanted l

unread_source : (kind : SourceKind) (known : Option FileSystem) (name : List ℕ) → RunsOut kind known name
unread_source PolicyDocument known name = record { reading = Err file_error.Memory; is_reading = λ f is. tt; may = λ e. cc }
unread_source ProgramText known name = record { reading = Err file_error.Memory; is_reading = λ f is. tt; may = (λ e. cc, λ held e. cc) }

unread_image : (known : Option FileSystem) (image : List ℕ) → OpensFile known image (Err Memory)
unread_image known image = record { reading = Err file_error.Memory; is_reading = λ f is. tt; opens = λ r is. cc }

unread_review : (known : Option FileSystem) (files : ReviewFiles) → HoldsReviewFiles known files (Err file_error.Memory)
unread_review known files =
    holds known files.policy (named_files files) (Err file_error.Memory) (λ f is. tt) (unread_file known (named_files files).review) (unread_file known (named_files files).namespace)
    (unread_file known (named_files files).params)

-- an allocation may fail before a file is read
pub no_room : (old : Option FileSystem) (wanted : Order) → is_session wanted ≡ false → PerformsBy OneImage old wanted old (Err Memory)
no_room old (compile policy image) is = lacks_memory (same_files old old refl, unread_source PolicyDocument old policy)
no_room old (review files n) is = performs (record { held = Err file_error.Memory; holds = unread_review old files; stays = refl; reviews = unread })
no_room old (run_image image n) is = lacks_memory (refl, unread_image old image)
no_room old (assemble text image) is = lacks_memory (same_files old old refl, unread_source ProgramText old text)
no_room old (list image) is = lacks_memory (refl, unread_image old image)
no_room old (debug image documents) is = cc

-- ---- the outputs

-- the outputs for a result, with these bytes on standard error
abbrev pub answered_with : CodeReport → List ℕ → Done
answered_with answer err = record { status = answer.status; out = answer.out.items; err = err }

-- an order with a result
pub is_answered : (old new : Option FileSystem) (wanted : Order) (answer : CodeReport) (err : List ℕ) → PerformsBy OneImage old wanted new (Ok (report_of answer)) → err ≡ []
    → IsDone OneImage old wanted new (answered_with answer err)
is_answered old new wanted answer err p none = by (Ok (report_of answer)) p refl
  where
    by : (outcome : OrderOutcome) → PerformsBy OneImage old wanted new outcome → outcome ≡ Ok (report_of answer) → IsDone OneImage old wanted new (answered_with answer err)
    by outcome (performs p) is = record {
      outcome = outcome;
      performs = p;
      has_memory = λ lacks. cc;
      output_is = ap (answered_with answer) none ∙ ap output_by (sym is);
    }
    by outcome (lacks_memory l) is = cc

-- an order with a refusal
pub is_refused : (old new : Option FileSystem) (wanted : Order) (r : Refusal) (result : Result CodeDone AllocError) → PerformsBy OneImage old wanted new (Err r) → OnOk result (r ≢ Memory)
    → IfOk result (λ d. output_of d ≡ refused r) → IfOk result (λ d. IsDone OneImage old wanted new (output_of d))
is_refused old new wanted r (Err e) p other is = tt
is_refused old new wanted r (Ok d) p other is = by (Err r) p refl
  where
    by : (outcome : OrderOutcome) → PerformsBy OneImage old wanted new outcome → outcome ≡ Err r → IsDone OneImage old wanted new (output_of d)
    by outcome (performs p) so = record {
      outcome = outcome;
      performs = p;
      has_memory = λ lacks. other (let same : r ≡ Memory = cc in same);
      output_is = is ∙ ap output_by (sym so);
    }
    by outcome (lacks_memory l) so = absurd (other (let same : r ≡ Memory = cc in same))

pub lacks_on_err : (old new : Option FileSystem) (wanted : Order) (r : Refusal) (result : Result CodeDone AllocError) → PerformsBy OneImage old wanted new (Err r) → OnErr result (r ≡ Memory)
    → OnErr result (PerformsBy OneImage old wanted new (Err Memory))
lacks_on_err old new wanted r (Ok d) p is = tt
lacks_on_err old new wanted r (Err e) p is = subst (λ (q : Refusal). PerformsBy OneImage old wanted new (Err q)) is p

pub kept_on_err : (old new : Option FileSystem) (wanted : Order) (r : Refusal) (result : Result CodeDone AllocError) → PerformsBy OneImage old wanted new (Err r)
    → OnErr result (KeepsFiles old new)
kept_on_err old new wanted r (Ok d) p = tt
kept_on_err old new wanted r (Err e) p = kept old new wanted r p
