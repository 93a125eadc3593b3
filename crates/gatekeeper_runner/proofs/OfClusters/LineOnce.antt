-- A line has one answer in a cluster.
use Rattle.gatekeeper_runner.proofs.Prelude.{◌≡◌, ℕ, Limits, List, ap, OneImage, too_long_text}
use Rattle.std.proofs.Common.{Bool, true, false, Option, Some, None}
use Rattle.std.proofs.lemmas.List.Elements.{All-nil, All-push}
use Rattle.std.specs.List.{All}
use Rattle.std.specs.Prelude.{if◌then◌else◌}
use Rattle.std.specs.Str.{is_utf8}
use Rattle.serde_json.proofs.Nesting.{depth-read}
use Rattle.serde_json.specs.Data as json
use Rattle.serde_json.specs.Read.{read}
use Rattle.clap.specs.Words.{Text}
use Rattle.host.specs.FileSystem.{FileSystem}
use Rattle.value_store.specs.Documents.{document_of}
use Rattle.line_answers.proofs.OneAnswer.{HasOneText, answers_same}
use Rattle.admission.specs.declared.language.Language.{Language}
use Rattle.cluster_state.specs.State.{ClusterState}
use Rattle.cluster_gate.specs.Laws.{HasShallowDocuments, IsShallow, ReviewsHaveOneAnswer, StatesAreShallow}
use Rattle.gatekeeper_runner.specs.Cluster.Lines.{DecidesClusterLine, decides, decision_text}
use Rattle.gatekeeper_runner.specs.Cluster.Starting.{HoldLists, next, none, ready}
use Rattle.gatekeeper_runner.specs.SameAnswers.{ClusterLinesHaveOneAnswer}

-- ---- lists that are read

if_utf8 : (b : Bool) (text : List ℕ) (d : json.Data) → (if b then read text else None) ≡ Some d → IsShallow d
if_utf8 true text d e = depth-read text d e
if_utf8 false text d e = absurd (cc)

read_shallow : (text : List ℕ) (d : json.Data) → document_of text ≡ Some d → IsShallow d
unfolding document_of
read_shallow text d e = if_utf8 (is_utf8 text) text d e

lists_shallow : (known : Option FileSystem) (names : List Text) (lists : List json.Data) → HoldLists known names lists → All IsShallow lists
lists_shallow known _ _ none = All-nil IsShallow
lists_shallow known _ _ (next {names = names} {lists = lists} {list = list} {text = text} rest reading is) =
    All-push IsShallow lists list (lists_shallow known names lists rest) (read_shallow text list is)

-- ---- lines

text_once : ReviewsHaveOneAnswer → (l : Language) (s : ClusterState) (limits : Limits) (most : ℕ) (line : List ℕ) → HasShallowDocuments s → HasOneText most too_long_text (DecidesClusterLine l OneImage s limits) line
text_once one l s limits most line shallow _ _ (decides {decision = x} by) (decides {decision = y} also) =
    ap (decision_text line) (one l s line limits x y shallow by also)

pub cluster_lines_once : ReviewsHaveOneAnswer → StatesAreShallow → ClusterLinesHaveOneAnswer
cluster_lines_once one shallow known order _ line a b (ready {lists = lists} {s = s} hold is opens) some other first second =
    answers_same order.settings.max_line too_long_text (DecidesClusterLine order.settings.language OneImage s order.settings.limits) line
    (text_once one order.settings.language s order.settings.limits order.settings.max_line line (shallow lists s (lists_shallow known order.files lists hold) is)) a b some other first second
