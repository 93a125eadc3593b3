-- Proofs of `rows::command_rows_stand`: the results meet the contract.

use Rattle.std.proofs.Common.{refl}
use Rattle.clap.proofs.OnLiterals.{clap_on_literals}
use Rattle.review_runner.specs.Commands.{celbpf_app, with_commands, commands, command, file_rule, faults, entered}
use Rattle.cli.specs.Arguments.{option_rule, required_option_rule, steps_rule}
use Rattle.review_runner.specs.Order.{assemble_in, compile_in, debug_in, list_in, review_in, run_image_in}
use Rattle.cli.specs.Number.{number_of}
use Rattle.cluster_rows.proofs.rows.command_rows_stand.Goals as goal

pub returns-clause-lines : goal.returns-clause-lines
unfolding clap_on_literals celbpf_app with_commands commands command file_rule option_rule required_option_rule steps_rule faults entered assemble_in compile_in debug_in list_in review_in run_image_in number_of
returns-clause-lines c = record {
  no_file = λ e. cc;
  no_command = λ e. cc;
  no_policy = λ e. cc;
  no_step = refl;
  two_digits = refl;
}

pub returns-clause-ends : goal.returns-clause-ends
returns-clause-ends c = record {
  exited = refl;
  exited_with_zero = refl;
  stopped = refl;
  stopped_by_its_charge = refl;
  running = refl;
  session = refl;
  session_unread = refl;
  session_unwritten = refl;
  session_without_memory = refl;
}

pub returns-clause-held : goal.returns-clause-held
returns-clause-held c = record {
  no_names = tt;
  left_out = tt;
  held_though_left_out = λ is. is;
  not_held = λ is. is;
  one_of_two = λ is. is.1;
  more_than_named = λ is. is;
}
