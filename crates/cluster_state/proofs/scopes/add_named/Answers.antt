-- Proof obligations of `scopes::add_named`.
use Rattle.cluster_state.proofs.Prelude.{◌∙◌, Some, None, ap, bytes_eq, sym, if◌then◌else◌}
use Rattle.std.specs.Option.{option_or}
use Rattle.cluster_state.specs.Scopes.{version_at}
use Rattle.cluster_state.proofs.Scoped.{or_none}
use Rattle.cluster_state.proofs.scopes.add_named.Goals as goal

pub returns-in_ok-add_name-in-Some : goal.returns-in_ok-add_name-in-Some
returns-in_ok-add_name-in-Some c v =
    rw c.in-Some.is
    (c.in_ok-add_name-in-Some.ensures v
    ∙ ap (λ t. option_or (version_at c.args.served.now v) (if bytes_eq t v then Some c.args.scope else None)) c.as_bytes.ensures.value)

pub returns-in-None : goal.returns-in-None
returns-in-None c v = rw c.in-None.is (sym (or_none (version_at c.args.served.now v)))
