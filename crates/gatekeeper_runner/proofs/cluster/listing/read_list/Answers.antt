-- Proof obligations of `cluster::listing::read_list`.
use Rattle.gatekeeper_runner.proofs.Prelude.{◌∙◌, ap, is_err, option_map, sym}
use Rattle.serde_json.specs.View.{view}
use Rattle.gatekeeper_runner.specs.Cluster.Starting.{no_json, no_memory, unread}
use Rattle.gatekeeper_runner.proofs.cluster.listing.read_list.Goals as goal

pub returns-in_err-text-clause-list : goal.returns-in_err-text-clause-list
returns-in_err-text-clause-list g c = rw (is_err c.from_residual.ensures.1) (unread c.in_err-text.ensures.read)

pub returns-in_err-list-clause-list : goal.returns-in_err-list-clause-list
returns-in_err-list-clause-list g c = rw (is_err c.from_residual-in_err-list.ensures.1) no_memory

pub returns-in_err-name-in-None-clause-list : goal.returns-in_err-name-in-None-clause-list
returns-in_err-name-in-None-clause-list g c = rw (is_err c.from_residual-in_err-name-in-None.ensures.1) no_memory

pub returns-clause-list : goal.returns-clause-list
returns-clause-list g c =
    no_json c.in_ok-name-in-None.name c.in_ok-text.ensures.read
    (rw c.as_slice.ensures.value at (sym c.in_ok-list.ensures) ∙ ap (option_map view) c.in-None.is) c.in_ok-name-in-None.ensures.ok
