-- Proofs of `command_line::commands::celbpf_matches`: the result meets the contract.

use Rattle.review_runner.proofs.Prelude.{ap, ◌∙◌, map, List, subst, IfOk-weaker, fault_of, is_simple, is_simple_and_free, subcommand_of, subcommand_required, celbpf_app, commands, with_commands, faults, entered}
use Rattle.clap.specs.Words.{App, Text}
use Rattle.cli.specs.Parsing.{TakesWords}
use Rattle.review_runner.proofs.Shape.{simple, free}
use Rattle.review_runner.proofs.command_line.commands.celbpf_matches.Goals as goal

pub returns-clause-rows : goal.returns-clause-rows
unfolding entered
returns-clause-rows c =
    let is = c.in_ok-command.ensures.shape in
    let texts : List Text = map (λ s. s.now) c.args.words.now in
    let same = ap (λ (a : App). subcommand_of a texts) is in
    let plain = ap is_simple is ∙ simple in
    IfOk-weaker c.parse.result _ _ (λ m h. (h plain).1 ∙ same)
    c.parse.ensures.matches

pub returns-clause-taken : goal.returns-clause-taken
unfolding faults
returns-clause-taken c =
    let is = c.in_ok-command.ensures.shape in
    let texts : List Text = map (λ s. s.now) c.args.words.now in
    subst (λ (a : App). TakesWords (fault_of a texts) (λ _. Unit {0}) c.parse.result) is
    (c.parse.ensures.taken (ap is_simple_and_free is ∙ free))

pub returns-clause-named : goal.returns-clause-named
unfolding celbpf_app with_commands commands
returns-clause-named c =
    let local = c.in_ok-command.ensures.local in
    let wanted = ap (λ (a : App). a.top.subcommand_required) c.in_ok-command.ensures.shape in
    IfOk-weaker c.parse.result _ _
    (λ m parsed. subcommand_required c.in_ok-command.command m parsed local wanted)
    c.parse.ensures.parsed
