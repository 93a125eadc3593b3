-- Proof obligations of `skip_plain` (src/skipping.rt).
use Rattle.text_kernels.proofs.Prelude.{length, take, drop, ◌+◌, ◌-◌, sym, ap, ◌∙◌, arith, chunk-drop, length-chunk, length-take, prefix_len-le-length, is_special, is_plain, skip_plain_of}
use lib.Lanes.{chunk}
use lib.Count.{count_trailing_zeros}
use Rattle.text_kernels.proofs.Runs.{run_through, run_stops}
use Rattle.text_kernels.proofs.skipping.skip_plain.Goals as goal

pub returns-then-found-ne0 : goal.returns-then-found-ne0
returns-then-found-ne0 c =
    let bytes = c.args.bytes.now in
    let at = c.loop-at.at in
    let found = c.special-found.ensures in
    let long = length-chunk at 32 bytes (omega arith) in
    let run = ap skip_plain_of (chunk-drop at 32 bytes) ∙ run_stops is_special (chunk at 32 bytes) (drop (at + 32) bytes) (omega (arith, long)) (omega (arith, found)) ∙ ap (count_trailing_zeros 64) (sym found) in
    omega (arith, run, c.loop-at.invariant.skipped)

pub loop-at-preserved : goal.loop-at-preserved
loop-at-preserved c =
    let bytes = c.args.bytes.now in
    let at = c.loop-at.at in
    let long = length-chunk at 32 bytes (omega arith) in
    let run = ap skip_plain_of (chunk-drop at 32 bytes) ∙ run_through is_special (chunk at 32 bytes) (drop (at + 32) bytes) (omega (arith, c.special-found.ensures)) in
    record { skipped = omega (arith, run, long, c.loop-at.invariant.skipped); within = omega arith }

pub overflow_add-result-2 : goal.overflow_add-result-2
overflow_add-result-2 c =
    let bytes = c.args.bytes.now in
    let at = c.loop-at.at in
    let rest = take (length bytes - at) (drop at bytes) in
    record { fits = omega (arith, c.skip_slowly.ensures, prefix_len-le-length is_plain rest, length-take (length bytes - at) (drop at bytes)) }
