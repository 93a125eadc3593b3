-- Proof obligations of `endings::tell_bytes`.
use Rattle.gatekeeper_runner.proofs.OfClusters.Ends.{tells}
use Rattle.gatekeeper_runner.proofs.endings.tell_bytes.Goals as goal

pub returns : goal.returns
returns g c = tells _ _ _ c.write_all.result c.write_all.ensures.whole c.write_all.ensures.ok c.write_all.ensures.part c.write_all.ensures.err
