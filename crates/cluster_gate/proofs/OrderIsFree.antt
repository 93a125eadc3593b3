-- A decision does not depend on the order of policies and of bindings.
use Rattle.cluster_gate.specs.Laws.{HasShallowDocuments}
use Rattle.cluster_response.specs.Response.{cluster_response}
use Rattle.cluster_gate.specs.Dispatch.{no_review, decided}
use Rattle.cluster_gate.proofs.Prelude.{OneImage, ◌≡◌, ◌∙◌, ◌∷◌, ℕ, List, [], Bool, true, false, Some, refl, subst, sym, Event, Request, policies_asked, Dispatches, ClusterState}
use Rattle.std.proofs.lemmas.List.Sorted.{list_any-IsPermutation}
use Rattle.std.specs.List.{list_any}
use Rattle.value_store.specs.Reviews.{uid_in}
use Rattle.policy_glue.specs.OneAnswer.{CompileHasOneResult}
use Rattle.admission.specs.OneAnswer.{FindingsHaveOneResult}
use Rattle.admission_match.specs.Requests.{is_exempt}
use Rattle.cluster_response.specs.Events as event
use Rattle.cluster_response.specs.Events.{has_end}
use Rattle.cluster_response.specs.Laws.{AllowedExactly, WarningsAreThoseOfEvents, allowed_in, is_against, is_refusal, warns_by}
use Rattle.cluster_gate.proofs.Each.{to_permutation}
use Rattle.cluster_gate.proofs.OneAnswer.{asked_shallow, dispatches_once}
use Rattle.cluster_gate.proofs.OtherOrder.{also_shallow, differ_back, other_events}
use Rattle.cluster_gate.proofs.ToldSteps.{GoesOn}
use Rattle.cluster_gate.specs.Orders.{InAnyOrder, OrderIsFree, answer, Agree, no_reviews, decisions, HaveInCommon, DifferInOrder}
use Rattle.admission.specs.declared.language.Language.{Language}
use Rattle.admission.specs.declared.limits.Limits.{Limits}

-- The policies are read in this language.
module _ (language : Language) where
  -- ---- ends

  is_end : Event → Bool
  is_end (event.denies d) = false
  is_end (event.warns t) = false
  is_end (event.audits a) = false
  is_end (event.refuses r) = false
  is_end event.ends = true

  some_end : (es : List Event) → has_end es ≡ list_any is_end es
  unfolding is_end
  some_end [] = refl
  some_end (event.denies d ∷ es) = some_end es
  some_end (event.warns t ∷ es) = some_end es
  some_end (event.audits a ∷ es) = some_end es
  some_end (event.refuses r ∷ es) = some_end es
  some_end (event.ends ∷ es) = refl

  same_end : (es fs : List Event) → InAnyOrder es fs → has_end es ≡ has_end fs
  same_end es fs same = some_end es ∙ (list_any-IsPermutation is_end es fs (to_permutation es fs same) ∙ sym (some_end fs))

  -- an end is against the request
  end_against : (es : List Event) → has_end es ≡ true → list_any is_against es ≡ true
  end_against [] end = absurd (cc)
  end_against (event.denies d ∷ es) end = refl
  end_against (event.warns t ∷ es) end = end_against es end
  end_against (event.audits a ∷ es) end = end_against es end
  end_against (event.refuses r ∷ es) end = end_against es end
  end_against (event.ends ∷ es) end = refl

  -- ---- what is allowed

  module _ (exactly : AllowedExactly) (q : Request) (uid : List ℕ) where
    alike : (es fs : List Event) (against refuses : Bool) → list_any is_against es ≡ against → list_any is_against fs ≡ against
        → list_any is_refusal es ≡ refuses → list_any is_refusal fs ≡ refuses → allowed_in (answer q uid es) ≡ allowed_in (answer q uid fs)
    alike es fs true refuses a b c d = (exactly q uid es).denied a ∙ sym ((exactly q uid fs).denied b)
    alike es fs false true a b c d = (exactly q uid es).undecided a c ∙ sym ((exactly q uid fs).undecided b d)
    alike es fs false false a b c d = (exactly q uid es).allowed a c ∙ sym ((exactly q uid fs).allowed b d)

    -- the same events in any order, or an end in both
    same_allowed : (es fs : List Event) (end : Bool) → has_end es ≡ end → has_end fs ≡ end → (GoesOn language es → InAnyOrder es fs)
        → allowed_in (answer q uid es) ≡ allowed_in (answer q uid fs)
    same_allowed es fs true a b same = (exactly q uid es).denied (end_against es a) ∙ sym ((exactly q uid fs).denied (end_against fs b))
    same_allowed es fs false a b same =
        let order = to_permutation es fs (same a) in
        alike es fs (list_any is_against es) (list_any is_refusal es) refl (sym (list_any-IsPermutation is_against es fs order))
        refl (sym (list_any-IsPermutation is_refusal es fs order))

  -- ---- both orders

  both_end : (es fs : List Event) (x y : Bool) → has_end es ≡ x → has_end fs ≡ y → (has_end es ≡ false → has_end es ≡ has_end fs)
      → (has_end fs ≡ false → has_end es ≡ has_end fs) → has_end es ≡ has_end fs
  both_end es fs true true a b left right = a ∙ sym b
  both_end es fs false y a b left right = left a
  both_end es fs true false a b left right = right b

  in_common : CompileHasOneResult → FindingsHaveOneResult → AllowedExactly → WarningsAreThoseOfEvents
      → (s t : ClusterState) (review : List ℕ) (limits : Limits) (q : Request) (es fs : List Event) → HasShallowDocuments s → DifferInOrder s t
      → Dispatches language OneImage s review limits q (policies_asked s q) es → Dispatches language OneImage t review limits q (policies_asked t q) fs → HaveInCommon q (uid_in review) es fs
  in_common compiles findings exactly warn s t review limits q es fs shallow differ one other =
      let also = also_shallow language s t differ review limits q shallow in
      let same : GoesOn language es → InAnyOrder es fs = λ on.
      let events = other_events language s t differ review limits q es one on in
      subst (λ (l : List Event). InAnyOrder es l)
      (dispatches_once language compiles findings review limits t q also (policies_asked t q) events.0 fs (asked_shallow language compiles findings review limits t (is_exempt q.attributes.resource) also) events.1 other)
      events.2 in
      let reverse : GoesOn language fs → InAnyOrder fs es = λ on.
      let events = other_events language t s (differ_back language s t differ) review limits q fs other on in
      subst (λ (l : List Event). InAnyOrder fs l)
      (dispatches_once language compiles findings review limits s q shallow (policies_asked s q) events.0 es (asked_shallow language compiles findings review limits s (is_exempt q.attributes.resource) shallow) events.1 one)
      events.2 in
      let end : has_end es ≡ has_end fs = both_end es fs _ _ refl refl (λ no. same_end es fs (same no)) (λ no. sym (same_end fs es (reverse no))) in
      record {
        allowed = same_allowed exactly q (uid_in review) es fs (has_end fs) end refl same;
        not_found = end;
        events = λ no. to_permutation es fs (same no);
        warnings = λ no text. warn text es ∙ (list_any-IsPermutation (warns_by text) es fs (to_permutation es fs (same no)) ∙ sym (warn text fs));
      }

pub order_is_free : CompileHasOneResult → FindingsHaveOneResult → AllowedExactly → WarningsAreThoseOfEvents → OrderIsFree
order_is_free compiles findings exactly warn language s t review limits _ _ shallow differ (no_review none) (no_review other) = no_reviews none
order_is_free compiles findings exactly warn language s t review limits _ _ shallow differ (no_review none) (decided given dispatches) =
    let both = sym none ∙ given in absurd (cc)
order_is_free compiles findings exactly warn language s t review limits _ _ shallow differ (decided given dispatches) (no_review none) =
    let both = sym none ∙ given in absurd (cc)
order_is_free compiles findings exactly warn language s t review limits _ _ shallow differ (decided {q = q} {es = es} given one) (decided {q = r} {es = fs} also other) =
    let both : Some q ≡ Some r = sym given ∙ also in
    let same : r ≡ q = cc in
    let moved = subst (λ (x : Request). Dispatches language OneImage t review limits x (policies_asked t x) fs) same other in
    subst (λ (x : Request). Agree language s t review limits (Some (cluster_response q (uid_in review) es)) (Some (cluster_response x (uid_in review) fs))) (sym same)
    (decisions given one moved (in_common language compiles findings exactly warn s t review limits q es fs shallow differ one moved))
