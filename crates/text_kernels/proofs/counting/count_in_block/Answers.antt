-- Proof obligations of `count_in_block` (src/counting.rt).
use Rattle.text_kernels.proofs.Prelude.{ap, ◌∙◌, ones-mask_l, count_ones, is_leading}
use lib.Lanes.{chunk}
use Rattle.text_kernels.proofs.counting.count_in_block.Goals as goal

pub returns : goal.returns
returns c = ap count_ones c.leading.ensures ∙ ones-mask_l is_leading (chunk c.args.at 32 c.args.bytes.now)
