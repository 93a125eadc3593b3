-- The start of a cluster, before a line is read.
use Rattle.std.specs.Prelude.{◌≡◌, ℕ, false, List, [], ◌∷◌, ◌++◌, codes, decimal, get_or, map, None, Option, Some, Result, Ok, Err, String, Vec, string_bytes}
use Rattle.std.specs.declared.alloc.Global.{Global}
use Rattle.serde_json.specs.Data as json
use Rattle.serde_json.specs.View.{view}
use Rattle.serde_json.specs.declared.value.Value.{Value}
use Rattle.clap.specs.Words.{Text}
use Rattle.host.specs.FileSystem.{FileSystem, IsReading}
use Rattle.cli.specs.Refusals.{policy_text}
use Rattle.cli.specs.WideTexts.{wide_text}
use Rattle.cli.specs.declared.refusal.Refusal.TheVariants.{Memory}
use Rattle.value_store.specs.Documents.{document_of}
use Rattle.cluster_state.specs.Parts.{binding_part_path}
use Rattle.cluster_state.specs.Refusals.{IsDueRefusal, not_a_list}
use Rattle.cluster_state.specs.State.{ClusterState, state_of}
use Rattle.cluster_state.specs.declared.state_error.StateError.{StateError}
use Rattle.cluster_state.specs.declared.state_error.StateError.TheVariants.{NotAList, InvalidItem, DuplicateItem, NoNamespace, InvalidBinding, InvalidPolicy}
use Rattle.cluster_state.specs.declared.state_error.StateError.TheVariants as state_error
use Rattle.cluster_response.specs.Refusals.{cluster_refusal_code}
use Rattle.cluster_gate.specs.Dispatch.{block_refusal}
use Rattle.cluster_gate.specs.Gates.{FirstIsBlocked, NoneIsBlocked, block_of}
use Rattle.cluster_gate.specs.declared.block_cause.BlockCause.{BlockCause, TheVariants.Refused, TheVariants.RefusedWide, TheVariants.NamesNamespace, TheVariants.UnknownParamKind}
use Rattle.cluster_gate.specs.declared.cluster_error.ClusterError.{ClusterError, TheVariants.BlockedPolicy}
use Rattle.cluster_gate.specs.declared.cluster_error.ClusterError.TheVariants as cluster_error
use Rattle.admission.specs.declared.language.Language.{Language}
use Rattle.admission.specs.declared.limits.Limits.{Limits}
use Rattle.gatekeeper_runner.specs.FileFaults.{IsFileUnread, file_text}
use Rattle.gatekeeper_runner.specs.Orders.{ClusterOrder}
use Rattle.gatekeeper_runner.specs.declared.cluster_fault.ClusterFault.{ClusterFault, TheVariants.NoList, TheVariants.NoState, TheVariants.Blocked, TheVariants.InFile}
use Rattle.gatekeeper_runner.specs.declared.start_refusal.StartRefusal.{StartRefusal, TheVariants.Plain, TheVariants.Cluster}

-- what every line is answered under: the lists and the state in them, the language of its policies, the limits of each
-- evaluation, the most bytes of a line
pub record AnsweringCluster : Type 0 where
  pub lists : List json.Data
  pub language : Language
  pub state : ClusterState
  pub limits : Limits
  pub max_line : ℕ

-- ---- the lists

-- the files of these names hold these documents
pub data HoldLists (known : Option FileSystem) : List Text → List json.Data → Type 0 where
  none : HoldLists known [] []
  next : {names : List Text} {name : Text} {lists : List json.Data} {list : json.Data} {text : List ℕ} → HoldLists known names lists
      → IsReading known name (Ok text) → document_of text ≡ Some list → HoldLists known (names ++ name ∷ []) (lists ++ list ∷ [])

-- why a file gives no document: it is not read, or is not JSON
pub data IsNoList (known : Option FileSystem) (name : Text) : StartRefusal → Type 0 where
  unread : {r : StartRefusal} → IsFileUnread known name r → IsNoList known name r
  no_json : {text : List ℕ} (told : String Global) → IsReading known name (Ok text) → document_of text ≡ None → string_bytes told ≡ name
      → IsNoList known name (Cluster (NoList told))
  no_memory : IsNoList known name (Plain Memory)

-- a file gives no document, and those before it do
pub record OneIsNoList (known : Option FileSystem) (names : List Text) (r : StartRefusal) : Type 0 where
  pub before : List Text
  pub name : Text
  pub after : List Text
  pub are : names ≡ before ++ name ∷ after
  pub lists : List json.Data
  pub hold : HoldLists known before lists
  pub why : IsNoList known name r

-- ---- the start

-- why lists are not the state of a cluster, if each of them is a List and no allocation failed
abbrev pub IsNoState : List json.Data → StateError → Type 0
IsNoState lists (NotAList place) = ⊥
IsNoState lists state_error.Memory = ⊥
IsNoState lists e = IsDueRefusal (state_of lists) e

-- what every line is answered under, or why no line is read: the files are read first, then the state in their lists, then
-- the policies are compiled
pub data ClusterStarts (known : Option FileSystem) (order : ClusterOrder) : Result AnsweringCluster StartRefusal → Type 0 where
  no_list : {r : StartRefusal} → OneIsNoList known order.files r → ClusterStarts known order (Err r)
  not_listed : {lists : List json.Data} (place : ℕ) (told : String Global) → HoldLists known order.files lists
      → state_of lists ≡ Err (not_a_list place) → string_bytes told ≡ get_or order.files place []
      → ClusterStarts known order (Err (Cluster (NoList told)))
  no_state : {lists : List json.Data} (e : StateError) → HoldLists known order.files lists → IsNoState lists e
      → ClusterStarts known order (Err (Cluster (NoState e)))
  is_blocked : {lists : List json.Data} {s : ClusterState} (name : String Global) (cause : BlockCause) → HoldLists known order.files lists
      → state_of lists ≡ Ok s → order.partial ≡ false → FirstIsBlocked order.settings.language s s.policies (string_bytes name) cause
      → ClusterStarts known order (Err (Cluster (Blocked name cause)))
  no_memory : ClusterStarts known order (Err (Plain Memory))
  ready : {lists : List json.Data} {s : ClusterState} → HoldLists known order.files lists → state_of lists ≡ Ok s
      → (order.partial ≡ false → NoneIsBlocked order.settings.language s s.policies)
      → ClusterStarts known order (Ok (record {
        lists = lists;
        language = order.settings.language;
        state = s;
        limits = order.settings.limits;
        max_line = order.settings.max_line;
      }))

-- ---- the line of a start that is refused

-- a code and a name, with a space between
abbrev pub code_and_name : List ℕ → List ℕ → List ℕ
code_and_name code name = code ++ (codes " " ++ name)

-- why the lists are not the state of a cluster
abbrev pub state_text : StateError → List ℕ
state_text (NotAList place) = codes "C1 " ++ decimal place
state_text (InvalidItem place) = codes "C2 " ++ decimal place
state_text (DuplicateItem name) = codes "C3 " ++ string_bytes name
state_text NoNamespace = codes "C4"
state_text (InvalidBinding name part) = code_and_name (codes "C5") (string_bytes name) ++ (codes ": " ++ binding_part_path part)
state_text (InvalidPolicy name) = codes "C6 " ++ string_bytes name
state_text state_error.Memory = codes "memory"

-- what the line on a blocked policy has after its code
abbrev pub cause_text : BlockCause → List ℕ
cause_text (Refused e) = codes " " ++ policy_text e
cause_text (RefusedWide e) = codes " " ++ wide_text e
cause_text NamesNamespace = codes " namespaceObject"
cause_text UnknownParamKind = []

-- the code of a blocked policy
abbrev pub cause_code : BlockCause → List ℕ
cause_code cause = cluster_refusal_code (block_refusal (block_of cause))

-- the text of a fault
abbrev pub fault_text : ClusterFault → List ℕ
fault_text (NoList name) = code_and_name (codes "C1") (string_bytes name)
fault_text (NoState e) = state_text e
fault_text (InFile name fault) = file_text (string_bytes name) fault
fault_text (Blocked name cause) = code_and_name (cause_code cause) (string_bytes name) ++ cause_text cause

-- the line of standard error on a fault
abbrev pub fault_line : ClusterFault → List ℕ
fault_line fault = codes "celbpf: " ++ (fault_text fault ++ 10 ∷ [])

-- ---- the code's

-- the refusal of a state; out of memory is a refusal of its own
abbrev pub refusal_of_state : StateError → StartRefusal
refusal_of_state state_error.Memory = Plain Memory
refusal_of_state e = Cluster (NoState e)

-- the refusal of a cluster with a blocked policy; out of memory likewise
abbrev pub refusal_of_cluster : ClusterError → StartRefusal
refusal_of_cluster cluster_error.Memory = Plain Memory
refusal_of_cluster (BlockedPolicy name cause) = Cluster (Blocked name cause)

-- the file at this place holds no List; or an allocation failed
abbrev pub IsNotListed : List Text → ℕ → StartRefusal → Type 0
IsNotListed files place (Plain r) = r ≡ Memory
IsNotListed files place (Cluster (NoList name)) = string_bytes name ≡ get_or files place []
IsNotListed files place (Cluster _) = ⊥

-- the documents in the files, or the first reason why there are none
abbrev pub ListsRead : Option FileSystem → List Text → Result (Vec Value Global) StartRefusal → Type 0
ListsRead known names (Ok lists) = HoldLists known names (map view lists.items)
ListsRead known names (Err r) = OneIsNoList known names r

-- the document in the file of this name, or why there is none
abbrev pub ListRead : Option FileSystem → Text → Result Value StartRefusal → Type 0
ListRead known name (Ok list) = (text : List ℕ) × IsReading known name (Ok text) × (document_of text ≡ Some (view list))
ListRead known name (Err r) = IsNoList known name r
