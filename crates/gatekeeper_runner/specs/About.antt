-- The help and version texts.
use Rattle.std.specs.Prelude.{Bool, List, [], ◌∷◌, ◌++◌, codes, Option, Some, None, Ok, if◌then◌else◌}
use Rattle.std.specs.List.{list_any}
use Rattle.std.specs.Str.{bytes_eq}
use Rattle.clap.specs.Words.{Text}
use Rattle.cli.specs.Ending.{Given}

-- the text for `--help`
unfoldable pub help_text : Text
help_text =
    codes "usage: gatekeeper --policy F [--policy F ..] [--namespace F] [--params F]\n"
    ++ (codes "                  [--profile] [--steps N] [--reads N] [--max-line N]\n"
    ++ (codes "                  [--verbose] [--status]\n"
    ++ (codes "       gatekeeper --cluster F [--cluster F ..] [--partial]\n"
    ++ (codes "                  [--profile | --leave-messages] [--steps N] [--reads N]\n"
    ++ (codes "                  [--max-line N] [--verbose] [--status]\n"
    ++ (codes "       gatekeeper --translate F [--leave-messages]\n"
    ++ (codes "\n"
    ++ (codes "Compiles the policies, and answers each review on standard input, a JSON document\n"
    ++ (codes "a line, with a line on standard output.\n"
    ++ (codes "\n"
    ++ (codes "  --policy F     a ValidatingAdmissionPolicy; once or more\n"
    ++ (codes "  --namespace F  the namespace of the requests\n"
    ++ (codes "  --params F     the params of the policies\n"
    ++ (codes "  --cluster F    a List of what a cluster holds, as kubectl get -o json prints it;\n"
    ++ (codes "                 once or more\n"
    ++ (codes "  --partial      a policy of the cluster that is refused does not end the start;\n"
    ++ (codes "                 the requests that it matches are refused, if none denies them\n"
    ++ (codes "  --translate F  prints the policy of the file in the language that is compiled\n"
    ++ (codes "  --profile      policies are read in the language that is compiled, as celbpf reads\n"
    ++ (codes "                 them, and not as clusters store them\n"
    ++ (codes "  --leave-messages\n"
    ++ (codes "                 a message expression that is refused is left out of its policy\n"
    ++ (codes "  --steps N      the most steps of a policy's program; 10000000 if not given\n"
    ++ (codes "  --reads N      the most bytes that its helper calls read; 16777216 if not given\n"
    ++ (codes "  --max-line N   the most bytes of a line; 16777216 if not given\n"
    ++ (codes "  --verbose      tells of each refused line on standard error, with its number\n"
    ++ (codes "  --status       ends with status 1 if an answer is a denial or a refusal\n"
    ++ (codes "  --help         prints this text\n"
    ++ codes "  --version      prints the version\n"))))))))))))))))))))))))))))

-- the text for `--version`
unfoldable pub version_text : Text
version_text = codes "gatekeeper 0.20261201\n"

abbrev pub is_help : Text → Bool
is_help word = bytes_eq word (codes "--help")

-- the text for `--version`, if it is the first of these words
abbrev pub version_asked : List Text → Option Text
version_asked [] = None
version_asked (word ∷ words) = if bytes_eq word (codes "--version") then Some version_text else None

-- the text for the words after the program's name: for `--help` wherever it is, or else for `--version` in front
abbrev pub text_of_words : List Text → Option Text
text_of_words words = if list_any is_help words then Some help_text else version_asked words

-- the text for all words
abbrev pub text_after_name : List Text → Option Text
text_after_name [] = None
text_after_name (name ∷ words) = text_of_words words

-- the text that the words ask for
abbrev pub text_asked : Given → Option Text
text_asked (Ok words) = text_after_name words
text_asked _ = None
