-- Proofs of `rows::word_rows_stand`: the results meet the contract.

use Rattle.std.proofs.Common.{refl}
use Rattle.clap.proofs.OnLiterals.{clap_on_literals}
use Rattle.cli.specs.Arguments.{option_rule, reads_rule, required_option_rule, steps_rule, with_documents}
use Rattle.cli.specs.Number.{number_of}
use Rattle.gatekeeper_runner.specs.About.{help_text, version_text}
use Rattle.gatekeeper_runner.specs.Orders.{cluster_from, entered, faults, files_rule, gatekeeper_app, is_translate, lines_app, lines_faults, max_line_rule}
use Rattle.gatekeeper_runner.specs.Orders.{order_of_words, policies_app, policies_from, switch_rule, translation_app, translation_from}
use Rattle.cluster_rows.proofs.rows.word_rows_stand.Goals as goal

pub returns-clause-orders : goal.returns-clause-orders
unfolding clap_on_literals gatekeeper_app lines_app policies_app max_line_rule files_rule switch_rule with_documents option_rule steps_rule reads_rule entered faults lines_faults is_translate order_of_words translation_app translation_from required_option_rule policies_from cluster_from number_of help_text version_text
returns-clause-orders c = record {
  policy = refl;
  more = refl;
  reads = refl;
  cluster = refl;
  limited_cluster = refl;
  partial = refl;
  verbose = refl;
  verbose_cluster = refl;
  status = refl;
  status_cluster = refl;
  profile = refl;
  profile_cluster = refl;
  leave_messages = refl;
}

pub returns-clause-translations : goal.returns-clause-translations
unfolding clap_on_literals gatekeeper_app lines_app policies_app max_line_rule files_rule switch_rule with_documents option_rule steps_rule reads_rule entered faults lines_faults is_translate order_of_words translation_app translation_from required_option_rule policies_from cluster_from number_of help_text version_text
returns-clause-translations c = record { translate = refl; value = refl; leaving = refl; other_words = refl; program_name = refl }

pub returns-clause-faults : goal.returns-clause-faults
unfolding clap_on_literals gatekeeper_app lines_app policies_app max_line_rule files_rule switch_rule with_documents option_rule steps_rule reads_rule entered faults lines_faults is_translate order_of_words translation_app translation_from required_option_rule policies_from cluster_from number_of help_text version_text
returns-clause-faults c = record {
  policy_taken = refl;
  partial_taken = refl;
  no_switch = refl;
  partial_is_no_other_switch = refl;
  partial_twice = λ e. cc;
  partial_policy = λ e. cc;
  both = λ e. cc;
  cluster_with_namespace = λ e. cc;
  cluster_with_params = λ e. cc;
  neither = λ e. cc;
  verbose_taken = refl;
  verbose_twice = λ e. cc;
  verbose_value = λ e. cc;
  status_taken = refl;
  status_twice = λ e. cc;
  status_value = λ e. cc;
  profile_taken = refl;
  profile_twice = λ e. cc;
  leave_messages_taken = refl;
  leave_messages_policy = λ e. cc;
  leave_messages_profile = λ e. cc;
  translate_taken = refl;
  translate_value = refl;
  translate_leaving = refl;
  translate_twice = λ e. cc;
  translate_none = λ e. cc;
  translate_policy = λ e. cc;
  policy_translate = λ e. cc;
  translate_cluster = λ e. cc;
  translate_profile = λ e. cc;
  translate_status = λ e. cc;
  translate_steps = λ e. cc;
  names_translate = refl;
  longest = refl;
  longer = λ e. cc;
  shortest = refl;
  no_bytes = λ e. cc;
  most_reads = refl;
  more_reads = λ e. cc;
  no_reads = refl;
  reads_value = λ e. cc;
  reads_twice = λ e. cc;
}

pub returns-clause-help : goal.returns-clause-help
unfolding clap_on_literals gatekeeper_app lines_app policies_app max_line_rule files_rule switch_rule with_documents option_rule steps_rule reads_rule entered faults lines_faults is_translate order_of_words translation_app translation_from required_option_rule policies_from cluster_from number_of help_text version_text
returns-clause-help c = record {
  help = refl;
  help_before_others = refl;
  help_after_others = refl;
  help_between_others = refl;
  help_as_a_value = refl;
  help_as_the_name = refl;
  help_after_version = refl;
  other_option = refl;
  version = refl;
  version_after_others = refl;
  other_word = refl;
  no_word = refl;
  no_words = refl;
}
