-- The program's commands are simple in the sense of `clap`, which states exactly what such commands accept.
use Rattle.review_runner.proofs.Prelude.{◌≡◌, true, refl, ⊤, is_simple, is_simple_and_free, celbpf_app, command, commands, entered, faults, file_rule, option_rule, required_option_rule, steps_rule, with_commands, number_of, assemble_in, compile_in, debug_in, list_in, review_in, run_image_in}
use Rattle.clap.proofs.OnLiterals.{clap_on_literals}

-- what a proof unfolds to compute the order that literal words give
unfoldable pub words_on_literals : ⊤
unfolding clap_on_literals celbpf_app with_commands commands command file_rule option_rule required_option_rule steps_rule faults entered assemble_in compile_in debug_in list_in review_in run_image_in number_of
words_on_literals = tt

pub simple : is_simple celbpf_app ≡ true
unfolding words_on_literals
simple = refl

pub free : is_simple_and_free celbpf_app ≡ true
unfolding words_on_literals
free = refl
