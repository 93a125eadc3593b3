-- Proofs of `ordering::names_in`: the result meets the contract.

use Rattle.gatekeeper_runner.proofs.Prelude.{◌∙◌, ap, map, string_bytes, unwrap_or, List, [], Option, IfOk-weaker, Text, found_of, raw_values-rows}
use Rattle.gatekeeper_runner.proofs.ordering.names_in.Goals as goal

pub returns-in-Some : goal.returns-in-Some
returns-in-Some c =
    let texts = c.in-Some.ensures ∙ raw_values-rows (found_of c.args.matches.now) c.args.id.now in
    IfOk-weaker c.names_of.result _ _ (λ names is. is ∙ ap (λ (o : Option (List Text)). unwrap_or o []) texts) c.names_of.ensures

pub returns-in-None : goal.returns-in-None
returns-in-None c =
    let texts = c.in-None.ensures ∙ raw_values-rows (found_of c.args.matches.now) c.args.id.now in
    ap (map string_bytes) c.new.ensures.items ∙ ap (λ (o : Option (List Text)). unwrap_or o []) texts
