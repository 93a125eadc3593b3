-- The arguments that both programs accept, and the gatekeeper's limit of reads, as declared to clap.
use Rattle.std.specs.Prelude.{true, [], ◌∷◌, Some, codes}
use Rattle.clap.specs.Words.{App, Rule, Text, new_rule, with_rule}
use Rattle.clap.specs.declared.builder.value_parser.ValueParser.TheVariants as parser
use Rattle.cli.specs.Limits.{most_reads, step_limit}

-- an optional file name
unfoldable pub option_rule : Text → Rule
option_rule name = record (new_rule name) { long = Some name }

-- a required file name
unfoldable pub required_option_rule : Text → Rule
required_option_rule name = record (new_rule name) { long = Some name; required = true }

-- a number of steps, at most 1,000,000,000
unfoldable pub steps_rule : Rule
steps_rule = record (new_rule (codes "steps")) {
  long = Some (codes "steps");
  defaults = codes "10000000" ∷ [];
  parser = Some (parser.Unsigned 0 step_limit);
}

-- a number of bytes that helper calls read, at most 2^62
unfoldable pub reads_rule : Rule
reads_rule = record (new_rule (codes "reads")) {
  long = Some (codes "reads");
  defaults = codes "16777216" ∷ [];
  parser = Some (parser.Unsigned 0 most_reads);
}

-- a command with [--namespace F] [--params F]
unfoldable pub with_documents : App → App
with_documents app = with_rule (with_rule app (option_rule (codes "namespace"))) (option_rule (codes "params"))
