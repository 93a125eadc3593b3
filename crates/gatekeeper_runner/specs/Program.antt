-- The program's effect: what it reads and writes, and its status.
use Rattle.std.specs.Prelude.{◌≡◌, ℕ, Bool, List, Option, Some, None, Result, Ok, Err}
use Rattle.clap.specs.Words.{Text}
use Rattle.streams.specs.Streams.{Stream}
use Rattle.host.specs.FileSystem.{FileSystem}
use Rattle.host.specs.declared.order_error.OrderError.{OrderError}
use Rattle.cli.specs.Ending.{Asks, AsksNothing, Given, ProgramEnds, System}
use Rattle.cli.specs.Refusals.{order_refusal}
use Rattle.cli.specs.declared.refusal.Refusal.{Refusal}
use Rattle.admission.specs.Standing.{Images}
use Rattle.gatekeeper_runner.specs.About.{text_asked}
use Rattle.gatekeeper_runner.specs.Orders.{ClusterOrder, GatekeeperOrder, LinesOrder, TranslationOrder, by_cluster, by_policies}
use Rattle.gatekeeper_runner.specs.Orders.{by_translation, faults, lines_order_view, order_of_words}
use Rattle.gatekeeper_runner.specs.Endings.{EndsLines, StartsThen, TellsBytes, TellsStart, TellsText}
use Rattle.gatekeeper_runner.specs.Policies.Lines.{AnswersReviewLine}
use Rattle.gatekeeper_runner.specs.Policies.Starting.{GatekeeperStarts}
use Rattle.gatekeeper_runner.specs.Cluster.Lines.{AnswersClusterLine}
use Rattle.gatekeeper_runner.specs.Cluster.Starting.{AnsweringCluster, ClusterStarts}
use Rattle.gatekeeper_runner.specs.Cluster.Telling.{TellsPolicies}
use Rattle.gatekeeper_runner.specs.Translating.{Translates, TranslationTexts}
use Rattle.gatekeeper_runner.specs.declared.order.Order.{Order as CodeOrder}
use Rattle.gatekeeper_runner.specs.declared.start_refusal.StartRefusal.TheVariants.{Plain}

-- the words are accepted, and ask for this
abbrev pub AsksGatekeeper : Given → LinesOrder → Type 0
AsksGatekeeper given order = Asks faults order_of_words given order

-- ---- orders

-- under policies: they are opened, then the lines are answered
abbrev pub PoliciesEnd : Images → Option FileSystem → GatekeeperOrder → Stream → Stream → Stream → Stream → Stream → Stream → ℕ → Type 0
PoliciesEnd chosen known order r r_after w w_after e e_after status = StartsThen (GatekeeperStarts known order)
    (λ t. EndsLines order.settings.verbose order.settings.status (AnswersReviewLine chosen t) r r_after w w_after e e_after status)
    r r_after w w_after e e_after status

-- standard error gets a line on each policy, then the lines are answered, and the program ends with this status
pub record TellsAndAnswers (chosen : Images) (c : AnsweringCluster) (verbose reports : Bool)
    (r r_after w w_after e e_after : Stream) (status : ℕ) : Type 0 where
  pub text : List ℕ
  pub policies : TellsPolicies c.language c.lists c.state c.state.policies text
  pub told : Stream
  pub tells : TellsBytes e told text
  pub ends : EndsLines verbose reports (AnswersClusterLine chosen c) r r_after w w_after told e_after status

-- as a cluster: it is opened, its policies are told of, and the lines are answered
abbrev pub ClusterEnds : Images → Option FileSystem → ClusterOrder → Stream → Stream → Stream → Stream → Stream → Stream → ℕ → Type 0
ClusterEnds chosen known order r r_after w w_after e e_after status = StartsThen (ClusterStarts known order)
    (λ c. TellsAndAnswers chosen c order.settings.verbose order.settings.status r r_after w w_after e e_after status)
    r r_after w w_after e e_after status

-- no line is read; the lines on what is left out are written, then the text of the translation
pub record TellsTranslation (t : TranslationTexts) (r r_after w w_after e e_after : Stream) (status : ℕ) : Type 0 where
  pub unread : r_after ≡ r
  pub told : Stream
  pub notes : TellsBytes e told t.notes
  pub ends : ProgramEnds (TellsText t.text w w_after) told e_after status

-- a policy is translated
abbrev pub TranslationEnds : Option FileSystem → TranslationOrder → Stream → Stream → Stream → Stream → Stream → Stream → ℕ → Type 0
TranslationEnds known order r r_after w w_after e e_after status = StartsThen (Translates known order)
    (λ t. TellsTranslation t r r_after w w_after e e_after status) r r_after w w_after e e_after status

-- what is read and written for an order, by the files: of the input, of standard output and of standard error
abbrev pub DoesOrder : Images → Option FileSystem → LinesOrder → Stream → Stream → Stream → Stream → Stream → Stream → ℕ → Type 0
DoesOrder chosen known (by_policies order) r r_after w w_after e e_after status =
    PoliciesEnd chosen known order r r_after w w_after e e_after status
DoesOrder chosen known (by_cluster order) r r_after w w_after e e_after status =
    ClusterEnds chosen known order r r_after w w_after e e_after status
DoesOrder chosen known (by_translation order) r r_after w w_after e e_after status =
    TranslationEnds known order r r_after w w_after e e_after status

-- ---- the program

-- the program ends with this status
pub data GatekeeperResult (chosen : Images) (given : Given) (old new : System) (errors errors_after : Stream) (status : ℕ) : Type 0 where
  -- the words ask for a text, which is written, or only a part of it if a write fails
  tells : {text : Text} → text_asked given ≡ Some text → new.files ≡ old.files → new.input ≡ old.input
      → ProgramEnds (TellsText text old.output new.output) errors errors_after status
      → GatekeeperResult chosen given old new errors errors_after status
  -- they ask for nothing
  refuses : {r : Refusal} → text_asked given ≡ None → AsksNothing faults given r → new ≡ old
      → TellsStart errors errors_after status (Plain r)
      → GatekeeperResult chosen given old new errors errors_after status
  does : {order : LinesOrder} → text_asked given ≡ None → AsksGatekeeper given order → new.files ≡ old.files
      → DoesOrder chosen old.files order old.input new.input old.output new.output errors errors_after status
      → GatekeeperResult chosen given old new errors errors_after status

-- ---- the code's

-- the order that the words give, or why they give none
abbrev pub AsksOrder : Given → Result CodeOrder OrderError → Type 0
AsksOrder given (Ok order) = AsksGatekeeper given (lines_order_view order)
AsksOrder given (Err e) = AsksNothing faults given (order_refusal e)
