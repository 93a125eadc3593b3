-- The policies are opened one after the other.
use Rattle.gatekeeper_runner.proofs.Prelude.{◌≡◌, ℕ, suc, ◌+◌, ◌<◌, List, [], ◌∷◌, ◌++◌, drop, length, map, take, Option, Ok, Err, String, string_bytes, sym, ap, ◌∙◌, get_or, Global, map-append, take_more, split_at, Text, CompilesDocument, IsPolicy, FileSystem, PolicyRefusal, IsUnopened, OneUnopened, Opens, refl, refused, AreGates, IsGateOf, NamedGate, PolicyFile}
use Rattle.wide_policy.specs.declared.message_rule.MessageRule.{MessageRule}
use Rattle.admission.specs.Deciding.{OpensWideGate}
use Rattle.admission.specs.declared.language.Language.{Language, TheVariants.Profile, TheVariants.Wide}
use Rattle.admission.specs.declared.policy_refusal.PolicyRefusal.TheVariants.{Unread, Uncompiled}
use Rattle.admission.specs.declared.policy_refusal.PolicyRefusal.TheVariants as policy_refusal
use Rattle.admission.specs.declared.wide_refusal.WideRefusal.{WideRefusal}
use Rattle.admission.specs.declared.wide_refusal.WideRefusal.TheVariants as wide_refusal
use Rattle.gatekeeper_runner.specs.FileFaults.{fault_of_policy, fault_of_wide}
use Rattle.gatekeeper_runner.specs.Policies.Starting.{OpensIn, OpensNamed, next, no_memory, refused_wide}
use Rattle.gatekeeper_runner.specs.declared.start_refusal.StartRefusal.{StartRefusal}

-- why a policy that was read gives no gate
pub unopened_by : (document : List ℕ) (e : PolicyRefusal) → CompilesDocument document (Err e) → OpensIn Profile document (Err (fault_of_policy e))
unopened_by document policy_refusal.Memory why = λ known name reading. no_memory
unopened_by document (Unread e) why = λ known name reading. refused refl reading why
unopened_by document (Uncompiled e) why = λ known name reading. refused refl reading why

pub untaken_by : (rule : MessageRule) (document : List ℕ) (e : WideRefusal) → OpensWideGate rule document (Err e) → OpensIn (Wide rule) document (Err (fault_of_wide e))
untaken_by rule document wide_refusal.Memory why = λ known name reading. no_memory
untaken_by rule document (wide_refusal.Unread e) why = λ known name reading. refused_wide refl reading why
untaken_by rule document (wide_refusal.Uncompiled e) why = λ known name reading. refused_wide refl reading why

is_policy : (p : PolicyFile) (g : NamedGate) → IsGateOf p g → IsPolicy p.language p.document
is_policy p g of = record { told = g.gate.told; parsed = g.gate.policy; wrapped = g.gate.wrapped; is_said = of.policy.0; trees = of.policy.1.trees; compiles = of.policy.1.compiles }

gates_more : (policies : List PolicyFile) (gates : List NamedGate) (policy : PolicyFile) (gate : NamedGate) → AreGates policies gates
    → IsGateOf policy gate → AreGates (policies ++ policy ∷ []) (gates ++ gate ∷ [])
gates_more [] [] policy gate are of = (of, tt)
gates_more (p ∷ ps) (g ∷ gs) policy gate are of = (are.0, gates_more ps gs policy gate are.1 of)
gates_more policies gates policy gate are of = absurd are

-- the policies in the files with these names are opened
abbrev pub Opened : Option FileSystem → Language → List Text → List NamedGate → Type 0
Opened known language names gates = (policies : List PolicyFile) × AreGates policies gates × Opens known language names policies

-- the loop is at a word, and the policies in the files of the earlier words are opened
module _ (known : Option FileSystem) (language : Language) (words : List (String Global)) (i : ℕ) (word : String Global) (gates : List NamedGate) (within : i < length words) (is : word ≡ get_or words i word)
    (opened : Opened known language (map string_bytes (take i words)) gates) where
  one_more : take (i + 1) words ≡ take i words ++ word ∷ []
  one_more = take_more words i word within ∙ ap (λ (w : String Global). take i words ++ w ∷ []) (sym is)

  pub opened_more : (more : List NamedGate) (gate : NamedGate) → OpensNamed known language (string_bytes word) (Ok gate) → more ≡ gates ++ gate ∷ []
      → Opened known language (map string_bytes (take (i + 1) words)) more
  opened_more more gate opens grown =
      let policy : PolicyFile = record { file = string_bytes word; language = language; document = opens.0 } in (
        opened.0 ++ policy ∷ [],
        rw grown (gates_more opened.0 gates policy gate opened.1 opens.2),
        rw (one_more, map-append) (next opened.2 opens.1 (is_policy policy gate opens.2)),
      )

  pub unopened : (r : StartRefusal) → IsUnopened known language (string_bytes word) r → OneUnopened known language (map string_bytes words) r
  unopened r why = record {
    before = map string_bytes (take i words);
    name = string_bytes word;
    after = map string_bytes (drop (suc i) words);
    are = ap (map string_bytes) (split_at words i word within ∙ ap (λ (w : String Global). take i words ++ w ∷ drop (suc i) words) (sym is)) ∙ map-append string_bytes (take i words) (word ∷ drop (suc i) words);
    policies = opened.0;
    opens = opened.2;
    unopened = why;
  }
