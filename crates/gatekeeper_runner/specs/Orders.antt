-- What the command line asks for.
use Rattle.std.specs.Prelude.{◌≡◌, ℕ, Bool, false, not, ◌&&◌, ◌||◌, nat_eq, List, [], ◌∷◌}
use Rattle.std.specs.Prelude.{◌++◌, map, Option, Some, is_some, option_map, Result, codes, string_bytes, unwrap_or, if◌then◌else◌}
use Rattle.std.specs.List.{list_any, starts_with}
use Rattle.std.specs.Option.{option_map_or}
use Rattle.std.specs.Str.{bytes_eq}
use Rattle.clap.specs.Words.{App, Kinds, Row, Rule, Text, fault_of, first_of, matches_of, new_app, new_rule, one_of, with_rule}
use Rattle.clap.specs.Walk.{all_of}
use Rattle.clap.specs.declared.builder.action.ArgAction.TheVariants as arg_action
use Rattle.clap.specs.declared.builder.value_parser.ValueParser.TheVariants as parser
use Rattle.clap.specs.declared.error.kind.ErrorKind.TheVariants.{ArgumentConflict}
use Rattle.cli.specs.Arguments.{option_rule, reads_rule, required_option_rule, steps_rule, with_documents}
use Rattle.cli.specs.Number.{number_of}
use Rattle.cli.specs.Parsing.{TakesWords}
use Rattle.cli.specs.Limits.{default_reads, default_steps}
use Rattle.host.specs.declared.order_error.OrderError.{OrderError}
use Rattle.wide_policy.specs.declared.message_rule.MessageRule.{MessageRule, TheVariants.Required, TheVariants.LeftOut}
use Rattle.admission.specs.declared.language.Language.{Language, TheVariants.Profile, TheVariants.Wide}
use Rattle.admission.specs.declared.limits.Limits.{Limits}
use Rattle.gatekeeper_runner.specs.declared.cluster.order.ClusterOrder.{ClusterOrder as CodeClusterOrder}
use Rattle.gatekeeper_runner.specs.declared.order.Order.{Order as CodeOrder}
use Rattle.gatekeeper_runner.specs.declared.order.Order.TheVariants as code
use Rattle.gatekeeper_runner.specs.declared.policies.order.PolicyOrder.{PolicyOrder as CodePolicyOrder}
use Rattle.gatekeeper_runner.specs.declared.settings.Settings.{Settings}
use Rattle.gatekeeper_runner.specs.declared.translating.order.TranslationOrder.{TranslationOrder as CodeTranslationOrder}

-- an option with a file's name, once or more
unfoldable pub files_rule : Text → Rule
files_rule name = record (option_rule name) { action = Some arg_action.Append }

-- a switch
unfoldable pub switch_rule : Text → Rule
switch_rule name = record (option_rule name) { action = Some arg_action.SetTrue }

-- the largest value of --max-line, and its default
abbrev pub longest_line : ℕ
longest_line = 16777216

-- --max-line N, at least 1
unfoldable pub max_line_rule : Rule
max_line_rule = record (new_rule (codes "max-line")) {
  long = Some (codes "max-line");
  defaults = codes "16777216" ∷ [];
  parser = Some (parser.Unsigned 1 longest_line);
}

-- what is asked under policies: [--policy F ..] [--namespace F] [--params F]
unfoldable pub policies_app : App
policies_app = with_documents (with_rule (new_app (codes "gatekeeper")) (files_rule (codes "policy")))

-- the arguments under policies, and [--cluster F ..] [--partial] [--steps N] [--reads N] [--max-line N] [--verbose]
-- [--status]
unfoldable pub lines_app : App
lines_app =
    with_rule (with_rule (with_rule (with_rule (with_rule (with_rule (with_rule policies_app (files_rule (codes "cluster")))
    (switch_rule (codes "partial"))) steps_rule) reads_rule) max_line_rule) (switch_rule (codes "verbose")))
    (switch_rule (codes "status"))

-- these, and [--profile] [--leave-messages]
unfoldable pub gatekeeper_app : App
gatekeeper_app = with_rule (with_rule lines_app (switch_rule (codes "profile"))) (switch_rule (codes "leave-messages"))

-- what is asked of a translation: --translate F [--leave-messages]
unfoldable pub translation_app : App
translation_app =
    with_rule (with_rule (new_app (codes "gatekeeper")) (required_option_rule (codes "translate"))) (switch_rule (codes "leave-messages"))

-- ---- words that go together

-- an option was given
abbrev pub is_named : Text → List Row → Bool
is_named id rows = is_some (first_of id rows)

-- the switch was given
abbrev pub has_switch : Text → List Row → Bool
has_switch id rows = option_map_or (λ t. bytes_eq t (codes "true")) (first_of id rows) false

-- with --cluster there is no --policy, --namespace or --params, and not both of --profile and --leave-messages; without it
-- there is --policy, and no --partial or --leave-messages
abbrev pub go_together : List Row → Bool
go_together rows =
    if is_named (codes "cluster") rows
    then not (is_named (codes "policy") rows) && (not (is_named (codes "namespace") rows) && (not (is_named (codes "params") rows)
    && not (has_switch (codes "profile") rows && has_switch (codes "leave-messages") rows)))
    else is_named (codes "policy") rows && (not (has_switch (codes "partial") rows) && not (has_switch (codes "leave-messages") rows))

-- the reason to refuse arguments that do not go together
abbrev pub choice_faults : List Row → Kinds
choice_faults rows = if go_together rows then [] else ArgumentConflict ∷ []

-- the values of the arguments
unfoldable pub entered : List Text → List Row
entered words = matches_of gatekeeper_app words

-- the reasons to refuse words that do not ask for a translation
unfoldable pub lines_faults : List Text → Kinds
lines_faults words = fault_of gatekeeper_app words ++ choice_faults (entered words)

-- the word is --translate, or that with a value
unfoldable pub is_translate : Text → Bool
is_translate word = bytes_eq word (codes "--translate") || starts_with nat_eq word (codes "--translate=")

-- one of the words after the program's name is --translate
abbrev pub asks_translation : List Text → Bool
asks_translation [] = false
asks_translation (name ∷ words) = list_any is_translate words

-- the reasons to refuse the words; there are none if they are accepted
unfoldable pub faults : List Text → Kinds
faults words = if asks_translation words then fault_of translation_app words else lines_faults words

-- ---- what they ask for

-- the names of the files: of the policies, in the order of the words, and of the other documents; and how lines are answered
pub record GatekeeperOrder : Type 0 where
  pub policies : List Text
  pub namespace : Option Text
  pub params : Option Text
  pub settings : Settings

-- the names of the files of a cluster's state in the order of the words, whether a policy may be refused, and how lines are
-- answered
pub record ClusterOrder : Type 0 where
  pub files : List Text
  pub partial : Bool
  pub settings : Settings

-- the name of the file of the policy that is translated, and what happens to a message expression that is refused
pub record TranslationOrder : Type 0 where
  pub file : Text
  pub rule : MessageRule

-- lines are answered under policies, or as a cluster does; or no line is, and a policy is translated
pub data LinesOrder : Type 0 where
  by_policies : GatekeeperOrder → LinesOrder
  by_cluster : ClusterOrder → LinesOrder
  by_translation : TranslationOrder → LinesOrder

-- the texts of an option, in the order of the words
abbrev pub texts_of : Text → List Row → List Text
texts_of id rows = unwrap_or (all_of id rows) []

-- the most steps; the default if no number is given
abbrev pub steps_from : List Row → ℕ
steps_from rows = unwrap_or (number_of (one_of (codes "steps") rows)) default_steps

-- the most bytes that helper calls read; the default if no number is given
abbrev pub reads_from : List Row → ℕ
reads_from rows = unwrap_or (number_of (one_of (codes "reads") rows)) default_reads

-- the limits of a policy's program
abbrev pub limits_from : List Row → Limits
limits_from rows = record { steps = steps_from rows; reads = reads_from rows }

-- the most bytes of a line
abbrev pub max_line_from : List Row → ℕ
max_line_from rows = unwrap_or (number_of (one_of (codes "max-line") rows)) longest_line

-- a message expression that is refused is left out if --leave-messages is given
abbrev pub rule_from : List Row → MessageRule
rule_from rows = if has_switch (codes "leave-messages") rows then LeftOut else Required

-- the language of the policies: the wide one, unless --profile is given
abbrev pub language_from : List Row → Language
language_from rows = if has_switch (codes "profile") rows then Profile else Wide (rule_from rows)

-- the language of the policies, the limits of a policy's program, the most bytes of a line, whether refused lines are
-- reported, and whether the status reports answers that do not allow
abbrev pub settings_from : List Row → Settings
settings_from rows = record {
  language = language_from rows;
  limits = limits_from rows;
  max_line = max_line_from rows;
  verbose = has_switch (codes "verbose") rows;
  status = has_switch (codes "status") rows;
}

-- from the values of the arguments
unfoldable pub policies_from : List Row → GatekeeperOrder
policies_from rows = record {
  policies = texts_of (codes "policy") rows;
  namespace = first_of (codes "namespace") rows;
  params = first_of (codes "params") rows;
  settings = settings_from rows;
}

-- from the values of the arguments
unfoldable pub cluster_from : List Row → ClusterOrder
cluster_from rows = record {
  files = texts_of (codes "cluster") rows;
  partial = has_switch (codes "partial") rows;
  settings = settings_from rows;
}

-- by whether files of a cluster's state are named
abbrev pub order_from : List Row → LinesOrder
order_from rows = if is_named (codes "cluster") rows then by_cluster (cluster_from rows) else by_policies (policies_from rows)

-- from the values of the arguments of a translation
unfoldable pub translation_from : List Row → TranslationOrder
translation_from rows = record { file = unwrap_or (first_of (codes "translate") rows) []; rule = rule_from rows }

-- what words that are accepted ask for
unfoldable pub order_of_words : List Text → LinesOrder
order_of_words words =
    if asks_translation words then by_translation (translation_from (matches_of translation_app words)) else order_from (entered words)

-- ---- the code's

-- the order of the code
abbrev pub order_view : CodePolicyOrder → GatekeeperOrder
order_view o = record {
  policies = map string_bytes o.policies.items;
  namespace = option_map string_bytes o.namespace;
  params = option_map string_bytes o.params;
  settings = o.settings;
}

abbrev pub cluster_order_view : CodeClusterOrder → ClusterOrder
cluster_order_view o = record { files = map string_bytes o.files.items; partial = o.partial; settings = o.settings }

abbrev pub translation_order_view : CodeTranslationOrder → TranslationOrder
translation_order_view o = record { file = string_bytes o.file; rule = o.rule }

abbrev pub lines_order_view : CodeOrder → LinesOrder
lines_order_view (code.Policies o) = by_policies (order_view o)
lines_order_view (code.Cluster o) = by_cluster (cluster_order_view o)
lines_order_view (code.Translation o) = by_translation (translation_order_view o)

-- an order is returned only if the words are accepted, and then it is theirs
abbrev pub GatekeeperOrderReturns : List Text → Result CodeOrder OrderError → Type 0
GatekeeperOrderReturns words result = TakesWords (faults words) (λ o. order_of_words words ≡ lines_order_view o) result
