-- The commands of celbpf as declared to clap, and clap's result for a command line.
use Rattle.std.specs.Prelude.{true, List, [], ◌∷◌, Option, codes, fold}
use Rattle.clap.specs.Words.{App, Kinds, Row, Rule, Text, fault_of, new_app, new_rule, subcommand_of, with_rule, with_subcommand}
use Rattle.clap.specs.Simple.{on_top}
use Rattle.cli.specs.Arguments.{option_rule, required_option_rule, steps_rule}

-- ---- commands

-- a required file name
unfoldable pub file_rule : Text → Rule
file_rule name = record (new_rule name) { required = true }

-- a command with these arguments
unfoldable pub command : Text → List Rule → App
command name arguments = fold with_rule (new_app name) arguments

-- each command with its arguments
unfoldable pub commands : List App
commands =
    command (codes "run-image") (file_rule (codes "IMAGE") ∷ steps_rule ∷ [])
    ∷ command (codes "debug") (file_rule (codes "IMAGE") ∷ option_rule (codes "review") ∷ option_rule (codes "namespace")
    ∷ option_rule (codes "params") ∷ [])
    ∷ command (codes "compile") (file_rule (codes "POLICY") ∷ file_rule (codes "IMAGE") ∷ [])
    ∷ command (codes "review") (required_option_rule (codes "policy") ∷ required_option_rule (codes "review")
    ∷ option_rule (codes "namespace") ∷ option_rule (codes "params") ∷ steps_rule ∷ [])
    ∷ command (codes "asm") (file_rule (codes "TEXT") ∷ file_rule (codes "IMAGE") ∷ [])
    ∷ command (codes "list") (file_rule (codes "IMAGE") ∷ []) ∷ []

-- celbpf with these commands, of which one is required
unfoldable pub with_commands : List App → App
with_commands apps =
    fold (λ app c. with_subcommand app c.top) (on_top (λ s. record s { subcommand_required = true }) (new_app (codes "celbpf"))) apps

-- celbpf
unfoldable pub celbpf_app : App
celbpf_app = with_commands commands

-- ---- a command line

-- the errors of the words; there are none if the words are accepted
unfoldable pub faults : List Text → Kinds
faults words = fault_of celbpf_app words

-- the name of the command that the words call, with the values of its arguments
unfoldable pub entered : List Text → Option (Text × List Row)
entered words = subcommand_of celbpf_app words
