-- Proof obligations of `opened_tables::found`.
use Rattle.serde_json.specs.Data.{Data}
use Rattle.cluster_gate.proofs.Places.{here_at}
use Rattle.cluster_gate.proofs.Prelude.{subst}
use Rattle.cluster_gate.specs.Opened.{IsReadHere}
use Rattle.cluster_gate.proofs.opened_tables.found.Goals as goal

pub returns-then-is_read : goal.returns-then-is_read
returns-then-is_read c vs here =
    subst (λ (d : Data). IsReadHere vs d c.read-item.result.pooled) (c.is_read.ensures c.if-is_read.true)
    (here_at vs c.args.documents.now c.loop-read.read-index c.read-item.result c.loop-read-test.true c.read-item.is here)
