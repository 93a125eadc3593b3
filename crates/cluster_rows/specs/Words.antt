-- The program gatekeeper: its command lines, with what they ask for according to its pages, and its help.
use Rattle.std.specs.Prelude.{◌≡◌, true, false, ℕ, List, [], ◌∷◌, ◌++◌, Some, None, Ok, Err, codes}
use Rattle.clap.specs.Words.{Text}
use Rattle.host.specs.declared.order_error.OrderError.TheVariants.{InvalidArguments}
use Rattle.gatekeeper_runner.specs.About.{text_asked, version_text}
use Rattle.gatekeeper_runner.specs.Orders.{LinesOrder, by_cluster, by_policies, by_translation, entered, faults, has_switch}
use Rattle.gatekeeper_runner.specs.Orders.{order_from, order_of_words}
use Rattle.gatekeeper_runner.specs.declared.settings.Settings.{Settings}
use Rattle.wide_policy.specs.declared.message_rule.MessageRule.TheVariants.{Required, LeftOut}
use Rattle.admission.specs.declared.language.Language.TheVariants.{Profile, Wide}
use Rattle.admission.specs.declared.limits.Limits.{Limits}

-- gatekeeper --policy a.json
abbrev pub under_policy : List Text
under_policy = codes "gatekeeper" ∷ codes "--policy" ∷ codes "a.json" ∷ []

-- gatekeeper --cluster c.json
abbrev pub as_cluster : List Text
as_cluster = codes "gatekeeper" ∷ codes "--cluster" ∷ codes "c.json" ∷ []

-- gatekeeper --translate a.json
abbrev pub translating : List Text
translating = codes "gatekeeper" ∷ codes "--translate" ∷ codes "a.json" ∷ []

-- gatekeeper --policy a.json --max-line N
abbrev pub with_line : Text → List Text
with_line number = under_policy ++ codes "--max-line" ∷ number ∷ []

-- gatekeeper --policy a.json --reads N
abbrev pub with_reads : Text → List Text
with_reads number = under_policy ++ codes "--reads" ∷ number ∷ []

-- this many steps, and this many bytes read
abbrev pub limited : ℕ → ℕ → Limits
limited steps reads = record { steps = steps; reads = reads }

-- how lines are answered if the words name files alone: 10,000,000 steps, 16,777,216 bytes read and lines of 16 MiB
abbrev pub by_default : Settings
by_default = record {
  language = Wide Required;
  limits = limited 10000000 16777216;
  max_line = 16777216;
  verbose = false;
  status = false;
}

-- lines are answered under the policy in a.json
abbrev pub of_policy : Settings → LinesOrder
of_policy settings = by_policies (record { policies = codes "a.json" ∷ []; namespace = None; params = None; settings = settings })

-- lines are answered as the cluster in c.json does, in which no policy may be refused
abbrev pub of_cluster : Settings → LinesOrder
of_cluster settings = by_cluster (record { files = codes "c.json" ∷ []; partial = false; settings = settings })

-- what command lines ask for
pub record CommandOrdersHold : Type 0 where
  pub policy : order_from (entered under_policy) ≡ of_policy by_default
  pub more : order_from
      (entered (under_policy
      ++ codes "--policy" ∷ codes "b.json" ∷ codes "--namespace" ∷ codes "n.json" ∷ codes "--steps" ∷ codes "5" ∷ []))
      ≡ by_policies (record {
        policies = codes "a.json" ∷ codes "b.json" ∷ [];
        namespace = Some (codes "n.json");
        params = None;
        settings = record by_default { limits = limited 5 16777216 };
      })
  pub reads : order_from (entered (with_reads (codes "7"))) ≡ of_policy (record by_default { limits = limited 10000000 7 })
  pub cluster : order_from (entered as_cluster) ≡ of_cluster by_default
  pub limited_cluster : order_from (entered (as_cluster ++ codes "--reads" ∷ codes "0" ∷ codes "--steps" ∷ codes "5" ∷ []))
      ≡ of_cluster (record by_default { limits = limited 5 0 })
  pub partial : order_from (entered (as_cluster ++ codes "--partial" ∷ []))
      ≡ by_cluster (record { files = codes "c.json" ∷ []; partial = true; settings = by_default })
  pub verbose : order_from (entered (under_policy ++ codes "--verbose" ∷ [])) ≡ of_policy (record by_default { verbose = true })
  pub verbose_cluster : order_from (entered (codes "gatekeeper" ∷ codes "--verbose" ∷ codes "--cluster" ∷ codes "c.json" ∷ []))
      ≡ of_cluster (record by_default { verbose = true })
  pub status : order_from (entered (under_policy ++ codes "--status" ∷ [])) ≡ of_policy (record by_default { status = true })
  pub status_cluster : order_from (entered (as_cluster ++ codes "--status" ∷ codes "--verbose" ∷ []))
      ≡ of_cluster (record by_default { verbose = true; status = true })
  pub profile : order_from (entered (under_policy ++ codes "--profile" ∷ [])) ≡ of_policy (record by_default { language = Profile })
  pub profile_cluster : order_from (entered (as_cluster ++ codes "--profile" ∷ [])) ≡ of_cluster (record by_default { language = Profile })
  pub leave_messages : order_from (entered (as_cluster ++ codes "--leave-messages" ∷ []))
      ≡ of_cluster (record by_default { language = Wide LeftOut })

-- the same of command lines that name a translation
pub record TranslationOrdersHold : Type 0 where
  pub translate : order_of_words translating ≡ by_translation (record { file = codes "a.json"; rule = Required })
  pub value : order_of_words (codes "gatekeeper" ∷ codes "--translate=b.json" ∷ [])
      ≡ by_translation (record { file = codes "b.json"; rule = Required })
  pub leaving : order_of_words (codes "gatekeeper" ∷ codes "--leave-messages" ∷ codes "--translate" ∷ codes "a.json" ∷ [])
      ≡ by_translation (record { file = codes "a.json"; rule = LeftOut })
  pub other_words : order_of_words under_policy ≡ order_from (entered under_policy)
  pub program_name : order_of_words (codes "--translate" ∷ codes "--policy" ∷ codes "a.json" ∷ [])
      ≡ order_from (entered (codes "--translate" ∷ codes "--policy" ∷ codes "a.json" ∷ []))

-- words that go together, and others
pub record FaultRowsHold : Type 0 where
  pub policy_taken : faults under_policy ≡ []
  pub partial_taken : faults (as_cluster ++ codes "--partial" ∷ []) ≡ []
  pub no_switch : has_switch (codes "partial") [] ≡ false
  pub partial_is_no_other_switch : has_switch (codes "verbose") (entered (as_cluster ++ codes "--partial" ∷ [])) ≡ false
  -- --partial is a switch, and goes with --cluster alone
  pub partial_twice : faults (as_cluster ++ codes "--partial" ∷ codes "--partial" ∷ []) ≡ [] → ⊥
  pub partial_policy : faults (under_policy ++ codes "--partial" ∷ []) ≡ [] → ⊥
  pub both : faults (as_cluster ++ codes "--policy" ∷ codes "a.json" ∷ []) ≡ [] → ⊥
  pub cluster_with_namespace : faults (as_cluster ++ codes "--namespace" ∷ codes "n.json" ∷ []) ≡ [] → ⊥
  pub cluster_with_params : faults (as_cluster ++ codes "--params" ∷ codes "p.json" ∷ []) ≡ [] → ⊥
  pub neither : faults (codes "gatekeeper" ∷ []) ≡ [] → ⊥
  -- --verbose is a switch
  pub verbose_taken : faults (under_policy ++ codes "--verbose" ∷ []) ≡ []
  pub verbose_twice : faults (under_policy ++ codes "--verbose" ∷ codes "--verbose" ∷ []) ≡ [] → ⊥
  pub verbose_value : faults (under_policy ++ codes "--verbose" ∷ codes "yes" ∷ []) ≡ [] → ⊥
  -- so is --status
  pub status_taken : faults (as_cluster ++ codes "--status" ∷ []) ≡ []
  pub status_twice : faults (under_policy ++ codes "--status" ∷ codes "--status" ∷ []) ≡ [] → ⊥
  pub status_value : faults (under_policy ++ codes "--status" ∷ codes "1" ∷ []) ≡ [] → ⊥
  -- --profile and --leave-messages are switches, of which the second goes with --cluster alone, without the first
  pub profile_taken : faults (under_policy ++ codes "--profile" ∷ []) ≡ []
  pub profile_twice : faults (under_policy ++ codes "--profile" ∷ codes "--profile" ∷ []) ≡ [] → ⊥
  pub leave_messages_taken : faults (as_cluster ++ codes "--leave-messages" ∷ []) ≡ []
  pub leave_messages_policy : faults (under_policy ++ codes "--leave-messages" ∷ []) ≡ [] → ⊥
  pub leave_messages_profile : faults (as_cluster ++ codes "--leave-messages" ∷ codes "--profile" ∷ []) ≡ [] → ⊥
  -- --translate goes with --leave-messages alone, in either order, and with no option at its default
  pub translate_taken : faults translating ≡ []
  pub translate_value : faults (codes "gatekeeper" ∷ codes "--translate=a.json" ∷ []) ≡ []
  pub translate_leaving : faults (translating ++ codes "--leave-messages" ∷ []) ≡ []
  pub translate_twice : faults (translating ++ codes "--translate" ∷ codes "b.json" ∷ []) ≡ [] → ⊥
  pub translate_none : faults (codes "gatekeeper" ∷ codes "--translate" ∷ []) ≡ [] → ⊥
  pub translate_policy : faults (translating ++ codes "--policy" ∷ codes "a.json" ∷ []) ≡ [] → ⊥
  pub policy_translate : faults (under_policy ++ codes "--translate" ∷ codes "a.json" ∷ []) ≡ [] → ⊥
  pub translate_cluster : faults (as_cluster ++ codes "--translate=a.json" ∷ []) ≡ [] → ⊥
  pub translate_profile : faults (translating ++ codes "--profile" ∷ []) ≡ [] → ⊥
  pub translate_status : faults (translating ++ codes "--status" ∷ []) ≡ [] → ⊥
  pub translate_steps : faults (translating ++ codes "--steps" ∷ codes "10000000" ∷ []) ≡ [] → ⊥
  -- a file of this name is none of the words, but a value
  pub names_translate : faults (codes "gatekeeper" ∷ codes "--policy=--translate" ∷ []) ≡ []
  -- a line may have 1 to 16,777,216 bytes
  pub longest : faults (with_line (codes "16777216")) ≡ []
  pub longer : faults (with_line (codes "16777217")) ≡ [] → ⊥
  pub shortest : faults (with_line (codes "1")) ≡ []
  pub no_bytes : faults (with_line (codes "0")) ≡ [] → ⊥
  -- 0 to 2^62 bytes may be read
  pub most_reads : faults (with_reads (codes "4611686018427387904")) ≡ []
  pub more_reads : faults (with_reads (codes "4611686018427387905")) ≡ [] → ⊥
  pub no_reads : faults (with_reads (codes "0")) ≡ []
  pub reads_value : faults (with_reads (codes "all")) ≡ [] → ⊥
  pub reads_twice : faults (with_reads (codes "1") ++ codes "--reads" ∷ codes "1" ∷ []) ≡ [] → ⊥

-- the usage that the program prints
abbrev pub usage : Text
usage =
    codes "usage: gatekeeper --policy F [--policy F ..] [--namespace F] [--params F]\n                  [--profile] [--steps N] [--reads N] [--max-line N]\n                  [--verbose] [--status]\n"
    ++ (codes "       gatekeeper --cluster F [--cluster F ..] [--partial]\n                  [--profile | --leave-messages] [--steps N] [--reads N]\n"
    ++ (codes "                  [--max-line N] [--verbose] [--status]\n"
    ++ (codes "       gatekeeper --translate F [--leave-messages]\n\n"
    ++ (codes "Compiles the policies, and answers each review on standard input, a JSON document\n"
    ++ (codes "a line, with a line on standard output.\n\n"
    ++ (codes "  --policy F     a ValidatingAdmissionPolicy; once or more\n  --namespace F  the namespace of the requests\n"
    ++ (codes "  --params F     the params of the policies\n"
    ++ (codes "  --cluster F    a List of what a cluster holds, as kubectl get -o json prints it;\n                 once or more\n"
    ++ (codes "  --partial      a policy of the cluster that is refused does not end the start;\n"
    ++ (codes "                 the requests that it matches are refused, if none denies them\n"
    ++ (codes "  --translate F  prints the policy of the file in the language that is compiled\n"
    ++ (codes "  --profile      policies are read in the language that is compiled, as celbpf reads\n"
    ++ (codes "                 them, and not as clusters store them\n"
    ++ (codes "  --leave-messages\n                 a message expression that is refused is left out of its policy\n"
    ++ (codes "  --steps N      the most steps of a policy's program; 10000000 if not given\n"
    ++ (codes "  --reads N      the most bytes that its helper calls read; 16777216 if not given\n"
    ++ (codes "  --max-line N   the most bytes of a line; 16777216 if not given\n"
    ++ (codes "  --verbose      tells of each refused line on standard error, with its number\n"
    ++ (codes "  --status       ends with status 1 if an answer is a denial or a refusal\n"
    ++ codes "  --help         prints this text\n  --version      prints the version\n")))))))))))))))))))

-- --help anywhere after the program's name asks for a text, --version in front of the other words
pub record HelpRowsHold : Type 0 where
  pub help : text_asked (Ok (codes "gatekeeper" ∷ codes "--help" ∷ [])) ≡ Some usage
  pub help_before_others : text_asked (Ok (codes "gatekeeper" ∷ codes "--help" ∷ codes "--policy" ∷ [])) ≡ Some usage
  pub help_after_others : text_asked (Ok (under_policy ++ codes "--help" ∷ [])) ≡ Some usage
  pub help_between_others : text_asked (Ok (under_policy ++ codes "--help" ∷ codes "--status" ∷ [])) ≡ Some usage
  pub help_as_a_value : text_asked (Ok (codes "gatekeeper" ∷ codes "--policy" ∷ codes "--help" ∷ [])) ≡ Some usage
  pub help_as_the_name : text_asked (Ok (codes "--help" ∷ [])) ≡ None
  pub help_after_version : text_asked (Ok (codes "gatekeeper" ∷ codes "--version" ∷ codes "--help" ∷ [])) ≡ Some usage
  pub other_option : text_asked (Ok (codes "gatekeeper" ∷ codes "--helper" ∷ [])) ≡ None
  pub version : text_asked (Ok (codes "gatekeeper" ∷ codes "--version" ∷ codes "--policy" ∷ [])) ≡ Some version_text
  pub version_after_others : text_asked (Ok (under_policy ++ codes "--version" ∷ [])) ≡ None
  pub other_word : text_asked (Ok under_policy) ≡ None
  pub no_word : text_asked (Ok (codes "gatekeeper" ∷ [])) ≡ None
  pub no_words : text_asked (Err InvalidArguments) ≡ None
