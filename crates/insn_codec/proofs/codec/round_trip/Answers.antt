-- Proof obligations of `round_trip` (src/codec.rt).
use Rattle.insn_codec.proofs.Prelude.{[], append-nil, sym, ◌∙◌}
use Rattle.insn_codec.proofs.codec.round_trip.Goals as goal

pub returns : goal.returns
returns c = c.decode.ensures.only c.args.insn.now c.in_range.ensures ([], c.encode-first.ensures ∙ sym (append-nil _))
