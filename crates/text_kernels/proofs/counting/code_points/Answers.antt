-- Proof obligations of `code_points` (src/counting.rt).
use Rattle.text_kernels.proofs.Prelude.{◌≡◌, ◌+◌, ℕ, List, cond, drop, ap, ◌∙◌, arith, chunk-drop, sum_by-append, count_by-le-length, is_leading, code_points_of}
use lib.Lanes.{chunk}
use Rattle.text_kernels.proofs.counting.code_points.Goals as goal

block_and_rest : (bytes : List ℕ) (i n : ℕ) → code_points_of (drop i bytes) ≡ code_points_of (chunk i n bytes) + code_points_of (drop (i + n) bytes)
block_and_rest bytes i n = ap code_points_of (chunk-drop i n bytes) ∙ sum_by-append (λ x. cond (is_leading x) 1 0) (chunk i n bytes) (drop (i + n) bytes)

pub overflow_add-count : goal.overflow_add-count
overflow_add-count c =
    let bytes = c.args.bytes.now in
    let both = block_and_rest bytes c.loop-at.at 32 in
    record { fits = omega (arith, both, c.count_in_block-count.ensures, c.loop-at.invariant.counted, count_by-le-length is_leading bytes) }

pub loop-at-preserved : goal.loop-at-preserved
loop-at-preserved c =
    let both = block_and_rest c.args.bytes.now c.loop-at.at 32 in
    record { counted = omega (arith, both, c.count_in_block-count.ensures, c.loop-at.invariant.counted); within = omega arith }
