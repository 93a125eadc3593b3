-- Proof obligations of `translating::ordering::translation_matches`.
use Rattle.gatekeeper_runner.proofs.Prelude.{ap, ◌∙◌, map, List, subst, IfOk-weaker, App, Text, fault_of, is_simple, is_simple_and_free, matches_of}
use Rattle.cli.specs.Parsing.{TakesWords}
use Rattle.gatekeeper_runner.proofs.Shape.{translation_simple, translation_free}
use Rattle.gatekeeper_runner.proofs.translating.ordering.translation_matches.Goals as goal

pub returns-clause-rows : goal.returns-clause-rows
returns-clause-rows c =
    let is = c.in_ok-command.ensures in
    let texts : List Text = map (λ s. s.now) c.args.words.now in
    let same = ap (λ (a : App). matches_of a texts) is in
    let plain = ap is_simple is ∙ translation_simple in
    IfOk-weaker c.parse.result _ _ (λ m h. (h plain).0 ∙ same)
    c.parse.ensures.matches

pub returns-clause-taken : goal.returns-clause-taken
returns-clause-taken c =
    let is = c.in_ok-command.ensures in
    let texts : List Text = map (λ s. s.now) c.args.words.now in
    subst (λ (a : App). TakesWords (fault_of a texts) (λ _. Unit {0}) c.parse.result) is
    (c.parse.ensures.taken (ap is_simple_and_free is ∙ translation_free))
