-- Policies and reviews in files.
use Rattle.review_runner.proofs.Prelude.{◌≡◌, ℕ, List, Option, Some, None, Result, Ok, Err, refl, sym, subst, inl, inr, arith, IsSome, OneImage, HoldsFiles, IsReadingGiven, ReadingGiven, held_by, Reply, CompilesDocument, Documents, Reviews, FileSystem, FileRead, MadeBy, ReviewFiles, review, OrderOutcome, PerformsBy, performs, ReviewsHeld, held_with, named_files, no_image, review_outcome, reviewed, policy_refusal_of, RunAgrees, PolicyRefusal, RunError, PolicyDocument}
use Rattle.review_runner.specs.Debugging.{SessionFiles}
use Rattle.admission.specs.Standing.{steps_alone}
use Rattle.admission.specs.declared.language.Language.TheVariants.{Profile}
use Rattle.admission.specs.declared.policy_refusal.PolicyRefusal.TheVariants as policy_refusal

-- a policy that gives no image
pub refused_so : (document : List ℕ) (e : PolicyRefusal) → CompilesDocument document (Err e)
    → MadeBy OneImage PolicyDocument (Ok document) (Err (policy_refusal_of e))
refused_so document policy_refusal.Memory is = inr (refl, λ e. cc)
refused_so document e is = inl (no_image is)

-- ---- the files of a review

review_by : (known : Option FileSystem) (name : List ℕ) (s : FileRead) (r n p : ReadingGiven) (h : SessionFiles) → IsReadingGiven known (Some name) r
    → held_by s r n p ≡ Ok h → IsSome h.review
review_by known name s r n p h is are = grind arith

-- a review with a name was read, if all files were read
pub has_review : (known : Option FileSystem) (name bytes : List ℕ) (namespace params : Option (List ℕ)) (h : SessionFiles)
    → HoldsFiles known name (record { review = Some bytes; namespace = namespace; params = params }) (Ok h) → IsSome h.review
has_review known name bytes namespace params h holds = review_by known bytes _ _ _ _ h holds.readings.is_review holds.are

documents_in : (h : SessionFiles) (r : Option (List ℕ)) → h.review ≡ r → IsSome r → (d : Documents) × (d.language ≡ Profile) × (held_with d.policy d ≡ h)
documents_in h (Some bytes) is some = (
  record { language = Profile; policy = h.subject; review = bytes; namespace = h.namespace; params = h.params },
  refl,
  λ i. record { subject = h.subject; review = sym is i; namespace = h.namespace; params = h.params },
)
documents_in h None is some = cc

-- ---- reviews

-- the same documents
pub same_documents : (d e : Documents) (h : SessionFiles) → d.language ≡ e.language → held_with e.policy e ≡ h → d.policy ≡ h.subject → Some d.review ≡ h.review → d.namespace ≡ h.namespace
    → d.params ≡ h.params → d ≡ e
same_documents d e h language is policy given namespace params = grind arith

pub was_reviewed : (d e : Documents) (n : ℕ) (answer : Result Reply RunError) → d ≡ e → e.language ≡ Profile
    → Reviews d (steps_alone n) answer → RunAgrees OneImage d (steps_alone n) answer
    → ReviewsHeld OneImage n (Ok e) (review_outcome answer)
was_reviewed d e n answer same profile reviews stands =
    reviewed answer profile (subst (λ (held : Documents). Reviews held (steps_alone n) answer) same reviews)
    (subst (λ (held : Documents). RunAgrees OneImage held (steps_alone n) answer) same stands)

pub was_held : (old new : Option FileSystem) (files : ReviewFiles) (n : ℕ) (h : SessionFiles) (outcome : OrderOutcome)
    → HoldsFiles old files.policy (named_files files) (Ok h) → IsSome h.review → new ≡ old
    → ((d : Documents) → d.language ≡ Profile → held_with d.policy d ≡ h → ReviewsHeld OneImage n (Ok d) outcome) → PerformsBy OneImage old (review files n) new outcome
was_held old new files n h outcome holds some stays reviews =
    let d = documents_in h h.review refl some in
    let holds = subst (λ (k : SessionFiles). HoldsFiles old files.policy (named_files files) (Ok k)) (sym d.2) holds in
    performs (record { held = Ok d.0; holds = holds; stays = stays; reviews = reviews d.0 d.1 d.2 })
