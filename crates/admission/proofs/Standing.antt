-- The runs of images while a review is answered.
use Rattle.admission.proofs.Prelude.{Bool, Result, Ok, Err, arith, sym, subst, OneImage, Policy, Verdict, Documents, IsSaid, PolicyRunEnds, RunAgrees, exactly, RunError, OutOfSteps, OverLimit, OutOfReads}
use Rattle.loader.specs.Contents as loader
use Rattle.std.proofs.Common.{ℕ}
use Rattle.std.specs.Prelude.{◌≢◌}
use Rattle.bpf_machine.specs.Reads.{no_limit}
use Rattle.admission.specs.Deciding.{IsUnread, Reviews, answer_view}
use Rattle.admission.specs.Standing.{RunEnding, steps_alone}
use Rattle.admission.specs.declared.reply.Reply.{Reply as CodeReply}
use Rattle.admission.specs.declared.limits.Limits.{Limits}
use Rattle.admission.proofs.Said.{said_once}

-- a review with no limit of reads is not out of reads
pub not_read_out : (d : Documents) (n : ℕ) (r : Result CodeReply RunError) → Reviews d (steps_alone n) (answer_view r) → r ≢ Err OutOfReads
not_read_out d n r why is =
    let unread : IsUnread d no_limit = subst (λ (q : Result CodeReply RunError). Reviews d (steps_alone n) (answer_view q)) is why in
    omega (arith, unread.limited)

one_stands : (d : Documents) (limits : Limits) (due : Verdict → RunEnding) (told p : Policy) (wrapped : Bool) (image : loader.Image) → IsSaid d.language d.policy told p wrapped → OneImage p image
    → PolicyRunEnds (exactly image) d limits due → PolicyRunEnds OneImage d limits due
one_stands d limits due told p wrapped image said one stands =
    let policy = stands.run.case.policy in
    let same = (said_once d.language d.policy told p policy.told policy.parsed wrapped policy.wrapped said policy.is_said).parsed_is in
    record {
      run = stands.run;
      is_chosen = subst (λ (i : loader.Image). OneImage policy.parsed i) (sym stands.is_chosen) (subst (λ (q : Policy). OneImage q image) same one);
      ends = stands.ends;
    }

-- if the image that runs is the one image, the one image's run matches the result
pub of_one : {A : Type 0} (d : Documents) (limits : Limits) (told p : Policy) (wrapped : Bool) (image : loader.Image) (result : Result A RunError) → IsSaid d.language d.policy told p wrapped
    → OneImage p image → RunAgrees (exactly image) d limits result → RunAgrees OneImage d limits result
of_one d limits told p wrapped image (Ok a) said one stands = one_stands d limits _ told p wrapped image said one stands
of_one d limits told p wrapped image (Err OutOfSteps) said one stands = one_stands d limits _ told p wrapped image said one stands
of_one d limits told p wrapped image (Err OverLimit) said one stands = one_stands d limits _ told p wrapped image said one stands
of_one d limits told p wrapped image (Err OutOfReads) said one stands = one_stands d limits _ told p wrapped image said one stands
of_one d limits told p wrapped image (Err e) said one stands = stands
