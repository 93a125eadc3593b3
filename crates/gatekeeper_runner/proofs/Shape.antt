-- The program's commands are simple in the sense of `clap`, which states exactly what such a command accepts.
use Rattle.gatekeeper_runner.proofs.Prelude.{◌≡◌, true, refl, is_simple, is_simple_and_free, option_rule, reads_rule, required_option_rule, steps_rule, with_documents, files_rule, gatekeeper_app, lines_app, max_line_rule, policies_app, switch_rule, translation_app}
use Rattle.clap.proofs.OnLiterals.{clap_on_literals}

pub simple : is_simple gatekeeper_app ≡ true
unfolding clap_on_literals gatekeeper_app lines_app policies_app max_line_rule files_rule switch_rule with_documents option_rule steps_rule reads_rule
simple = refl

pub free : is_simple_and_free gatekeeper_app ≡ true
unfolding clap_on_literals gatekeeper_app lines_app policies_app max_line_rule files_rule switch_rule with_documents option_rule steps_rule reads_rule
free = refl

pub translation_simple : is_simple translation_app ≡ true
unfolding clap_on_literals translation_app switch_rule required_option_rule option_rule
translation_simple = refl

pub translation_free : is_simple_and_free translation_app ≡ true
unfolding clap_on_literals translation_app switch_rule required_option_rule option_rule
translation_free = refl
