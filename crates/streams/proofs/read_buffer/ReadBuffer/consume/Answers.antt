-- Proof obligations of `ReadBuffer::consume` (src/read_buffer.rt).
use Rattle.streams.proofs.Prelude.{◌∙◌, ap, drop}
use Rattle.streams.proofs.Filled.{range_rest}
use Rattle.streams.proofs.read_buffer.ReadBuffer.consume.Goals as goal

pub returns : goal.returns
returns g c = range_rest c.self.inside.bytes c.self.inside.start c.self.inside.end c.args.n ∙ ap (drop c.args.n) c.self.view_is
