-- The start of the gatekeeper, before a line is read.
use Rattle.std.specs.Prelude.{◌≡◌, ℕ, List, [], ◌∷◌, ◌++◌, Option, Result, Ok, Err, Vec}
use Rattle.std.specs.declared.alloc.Global.{Global}
use Rattle.clap.specs.Words.{Text}
use Rattle.cli.specs.GivenFiles.{IsReadingGiven}
use Rattle.admission.specs.Deciding.{IsGateOn, IsPolicy, IsPolicyRefused, IsWideRefused}
use Rattle.admission.specs.GatePolicies.{GatePolicy}
use Rattle.admission.specs.declared.language.Language.{Language, TheVariants.Profile, TheVariants.Wide}
use Rattle.admission.specs.declared.wide_refusal.WideRefusal.{WideRefusal}
use Rattle.policy_glue.specs.OneImage.{OneImage}
use Rattle.wide_policy.specs.declared.message_rule.MessageRule.{MessageRule}
use Rattle.host.specs.FileSystem.{FileSystem, IsReading, IsReadFailure}
use Rattle.host.specs.declared.file_read_error.FileReadError.{FileReadError}
use Rattle.admission.specs.declared.policy_refusal.PolicyRefusal.{PolicyRefusal}
use Rattle.gatekeeper_runner.specs.FileFaults.{IsRefusalOf, IsUnreadGiven, fault_of_read}
use Rattle.gatekeeper_runner.specs.declared.file_fault.FileFault.{FileFault, TheVariants.Refused, TheVariants.RefusedWide}
use Rattle.gatekeeper_runner.specs.declared.file_fault.FileFault.TheVariants as file_fault
use Rattle.gatekeeper_runner.specs.declared.start_refusal.StartRefusal.{StartRefusal}
use Rattle.gatekeeper_runner.specs.Orders.{GatekeeperOrder}
use Rattle.gatekeeper_runner.specs.Policies.Together.{AreGates, IsGateOf, Gatekeeper, PolicyFile, gatekeeper_of}
use Rattle.gatekeeper_runner.specs.declared.policies.gatekeeper.Gatekeeper.{Gatekeeper as CodeGatekeeper}
use Rattle.gatekeeper_runner.specs.declared.policies.named_gate.NamedGate.{NamedGate}

-- the files with these names hold these policies of a language, and each compiles
pub data Opens (known : Option FileSystem) (language : Language) : List Text → List PolicyFile → Type 0 where
  none : Opens known language [] []
  next : {names : List Text} {name : Text} {policies : List PolicyFile} {document : List ℕ} → Opens known language names policies
      → IsReading known name (Ok document) → IsPolicy language document
      → Opens known language (names ++ name ∷ []) (policies ++ record { file = name; language = language; document = document } ∷ [])

-- what is wrong with a file that gives no policy of a language
pub data HasFileFault (known : Option FileSystem) (language : Language) (name : Text) : FileFault → Type 0 where
  unread : (e : FileReadError) → IsReadFailure known name e → HasFileFault known language name (fault_of_read e)
  refused : {document : List ℕ} {e : PolicyRefusal} → language ≡ Profile → IsReading known name (Ok document)
      → IsPolicyRefused document e → HasFileFault known language name (Refused e)
  refused_wide : {rule : MessageRule} {document : List ℕ} {e : WideRefusal} → language ≡ Wide rule
      → IsReading known name (Ok document) → IsWideRefused rule document e
      → HasFileFault known language name (RefusedWide e)
  no_memory : HasFileFault known language name file_fault.Memory

-- why a policy's file gives no policy of a language
pub record IsUnopened (known : Option FileSystem) (language : Language) (name : Text) (r : StartRefusal) : Type 0 where
  pub fault : FileFault
  pub has : HasFileFault known language name fault
  pub told : IsRefusalOf name fault r

-- one policy does not open, and those before it do
pub record OneUnopened (known : Option FileSystem) (language : Language) (names : List Text) (r : StartRefusal) : Type 0 where
  pub before : List Text
  pub name : Text
  pub after : List Text
  pub are : names ≡ before ++ name ∷ after
  pub policies : List PolicyFile
  pub opens : Opens known language before policies
  pub unopened : IsUnopened known language name r

-- what every line is answered under, or why no line is read. The policies are opened first, then the other files are
-- read.
pub data GatekeeperStarts (known : Option FileSystem) (order : GatekeeperOrder) : Result Gatekeeper StartRefusal → Type 0 where
  no_policy : {r : StartRefusal} → OneUnopened known order.settings.language order.policies r → GatekeeperStarts known order (Err r)
  no_namespace : {r : StartRefusal} {policies : List PolicyFile} → Opens known order.settings.language order.policies policies
      → IsUnreadGiven known order.namespace r → GatekeeperStarts known order (Err r)
  no_params : {r : StartRefusal} (namespace : Option (List ℕ)) {policies : List PolicyFile}
      → Opens known order.settings.language order.policies policies
      → IsReadingGiven known order.namespace (Ok namespace) → IsUnreadGiven known order.params r
      → GatekeeperStarts known order (Err r)
  ready : {policies : List PolicyFile} {namespace params : Option (List ℕ)} → Opens known order.settings.language order.policies policies
      → IsReadingGiven known order.namespace (Ok namespace) → IsReadingGiven known order.params (Ok params)
      → GatekeeperStarts known order (Ok (record {
        policies = policies;
        namespace = namespace;
        params = params;
        limits = order.settings.limits;
        max_line = order.settings.max_line;
      }))

-- ---- parts

-- what is kept is what the lines are answered under, or the start ends with this refusal
abbrev pub KeepsFrom : Option FileSystem → GatekeeperOrder → Result CodeGatekeeper StartRefusal → Type 0
KeepsFrom known order (Ok k) = (policies : List PolicyFile) × AreGates policies k.gates.items
    × GatekeeperStarts known order (Ok (gatekeeper_of policies k))
KeepsFrom known order (Err r) = GatekeeperStarts known order (Err r)

-- the gate of the policy in this file, or what is wrong with the file
abbrev pub OpensPolicyFile : Option FileSystem → Language → Text → Result NamedGate FileFault → Type 0
OpensPolicyFile known language name (Ok gate) =
    (document : List ℕ) × IsReading known name (Ok document)
    × IsGateOf (record { file = name; language = language; document = document }) gate
OpensPolicyFile known language name (Err f) = HasFileFault known language name f

-- the gate of the policy in this file, or its refusal
abbrev pub OpensNamed : Option FileSystem → Language → Text → Result NamedGate StartRefusal → Type 0
OpensNamed known language name (Ok gate) = OpensPolicyFile known language name (Ok gate)
OpensNamed known language name (Err r) = IsUnopened known language name r

-- the gate of the policy in a document of a language, or what is wrong with a file that holds it
abbrev pub OpensIn : Language → List ℕ → Result GatePolicy FileFault → Type 0
OpensIn language document (Ok gate) = IsGateOn language document gate × OneImage gate.policy gate.image
OpensIn language document (Err f) =
    (known : Option FileSystem) (name : Text) → IsReading known name (Ok document) → HasFileFault known language name f

-- the gates of the policies in these files, or the first refusal
abbrev pub GatesFrom : Option FileSystem → Language → List Text → Result (Vec NamedGate Global) StartRefusal → Type 0
GatesFrom known language names (Ok gates) =
    (policies : List PolicyFile) × AreGates policies gates.items × Opens known language names policies
GatesFrom known language names (Err r) = OneUnopened known language names r
