-- What is allowed, and which warnings there are.
use Rattle.serde_json.specs.Data as json
use Rattle.cluster_response.proofs.Prelude.{◌≡◌, ◌||◌, ◌∙◌, ◌∷◌, ℕ, Bool, true, false, true≢false, List, [], Option, None, Some, Request, ClusterAudit, ClusterDenial, Event, Undecided, AllowsByEvents, allowed_in, answer_tree, ap, sym, refl, bytes_eq, denies, warns, audits, refuses, ends, each_once, all_undecided, first_denial, has_end, is_closed, is_closed_refusal, told_of, told_undecided, is_against, is_refusal, is_some, list_any, review_tree, summary_of, warning_texts, warns_by}
use Rattle.std.specs.Option.{option_or}
use Rattle.std.specs.Prelude.{find}
use Rattle.cluster_response.proofs.Firsts.{told_fails}
use Rattle.cluster_response.proofs.Kept.{any-without, or_true, without}

-- ---- what is allowed

some_of : (o : Option Undecided) (r : Undecided) → is_some (option_or o (Some r)) ≡ true
some_of (Some u) r = refl
some_of None r = refl

-- `allowed`, by whether the dispatch ends, something denies and a policy does not decide
decides : Bool → Bool → Bool → Option json.Data
decides true d r = Some (json.boolean false)
decides false true r = Some (json.boolean false)
decides false false true = None
decides false false false = Some (json.boolean true)

allowed_at : (q : Request) (uid : List ℕ) (d : Option ClusterDenial) (ts : List (List ℕ)) (a : Option ClusterAudit) (r : Option Undecided) (b : Bool)
    → allowed_in (answer_tree q uid (record { denial = d; warnings = ts; audit = a; undecided = r; ended = b })) ≡ decides b (is_some d) (is_some r)
unfolding review_tree decides
allowed_at q uid d ts a r true = refl
allowed_at q uid (Some d) ts a r false = refl
allowed_at q uid None ts a (Some r) false = refl
allowed_at q uid None ts a None false = refl

against_is : (es : List Event) → list_any is_against es ≡ has_end es || is_some (first_denial es)
against_is [] = refl
against_is (denies d ∷ es) = sym (or_true (has_end es))
against_is (warns t ∷ es) = against_is es
against_is (audits a ∷ es) = against_is es
against_is (refuses r ∷ es) = against_is es
against_is (ends ∷ es) = refl

-- a policy is told of a list exactly if there is one
some_told : (r : Undecided) (rs : List Undecided) → is_some (told_of is_closed (r ∷ rs)) ≡ true
some_told r rs = some_of (find is_closed (r ∷ rs)) r

refusal_is : (es : List Event) → list_any is_refusal es ≡ is_some (told_undecided es)
refusal_is [] = refl
refusal_is (denies d ∷ es) = refusal_is es
refusal_is (warns t ∷ es) = refusal_is es
refusal_is (audits a ∷ es) = refusal_is es
refusal_is (refuses r ∷ es) = sym (some_told r (all_undecided es))
refusal_is (ends ∷ es) = refusal_is es

-- the policies that fail closed and do not decide
closed_is : (es : List Event) → list_any is_closed_refusal es ≡ list_any is_closed (all_undecided es)
closed_is [] = refl
closed_is (denies d ∷ es) = closed_is es
closed_is (warns t ∷ es) = closed_is es
closed_is (audits a ∷ es) = closed_is es
closed_is (refuses r ∷ es) = ap (λ b. is_closed r || b) (closed_is es)
closed_is (ends ∷ es) = closed_is es

pub hide_no_fail : (es : List Event) (r : Undecided) → (summary_of es).undecided ≡ Some r → r.fails_closed ≡ false → list_any is_closed_refusal es ≡ false
hide_no_fail es r told ignored = closed_is es ∙ told_fails is_closed (all_undecided es) r told ignored

decides_against : (b d r : Bool) → b || d ≡ true → decides b d r ≡ Some (json.boolean false)
unfolding decides
decides_against true d r e = refl
decides_against false true r e = refl
decides_against false false r e = absurd (true≢false (sym e))

decides_nothing : (b d r : Bool) → b || d ≡ false → r ≡ true → decides b d r ≡ None
unfolding decides
decides_nothing true d r e h = absurd (true≢false e)
decides_nothing false true r e h = absurd (true≢false e)
decides_nothing false false true e h = refl
decides_nothing false false false e h = absurd (true≢false (sym h))

decides_for : (b d r : Bool) → b || d ≡ false → r ≡ false → decides b d r ≡ Some (json.boolean true)
unfolding decides
decides_for true d r e h = absurd (true≢false e)
decides_for false true r e h = absurd (true≢false e)
decides_for false false true e h = absurd (true≢false h)
decides_for false false false e h = refl

pub allows_by_events : (q : Request) (uid : List ℕ) (es : List Event) → AllowsByEvents q uid es
allows_by_events q uid es =
    let at = allowed_at q uid (first_denial es) _ _ (told_undecided es) (has_end es) in
    record {
      denied = λ e. at ∙ decides_against (has_end es) _ _ (sym (against_is es) ∙ e);
      undecided = λ e h. at ∙ decides_nothing (has_end es) _ _ (sym (against_is es) ∙ e) (sym (refusal_is es) ∙ h);
      allowed = λ e h. at ∙ decides_for (has_end es) _ _ (sym (against_is es) ∙ e) (sym (refusal_is es) ∙ h);
    }

-- ---- warnings

any_at : (t x : List ℕ) (ts us : List (List ℕ)) (b : Bool) → bytes_eq t x ≡ b → list_any (bytes_eq t) us ≡ list_any (bytes_eq t) ts
    → bytes_eq t x || list_any (bytes_eq t) (without x us) ≡ bytes_eq t x || list_any (bytes_eq t) ts
any_at t x ts us true e same = rw e refl
any_at t x ts us false e same = rw e (any-without t x us e ∙ same)

any-each_once : (t : List ℕ) (ts : List (List ℕ)) → list_any (bytes_eq t) (each_once ts) ≡ list_any (bytes_eq t) ts
any-each_once t [] = refl
any-each_once t (x ∷ ts) = any_at t x ts (each_once ts) _ refl (any-each_once t ts)

any-warning_texts : (t : List ℕ) (es : List Event) → list_any (bytes_eq t) (warning_texts es) ≡ list_any (warns_by t) es
any-warning_texts t [] = refl
any-warning_texts t (denies d ∷ es) = any-warning_texts t es
any-warning_texts t (warns u ∷ es) = ap (λ b. bytes_eq t u || b) (any-warning_texts t es)
any-warning_texts t (audits a ∷ es) = any-warning_texts t es
any-warning_texts t (refuses r ∷ es) = any-warning_texts t es
any-warning_texts t (ends ∷ es) = any-warning_texts t es

pub warnings_are_of_events : (t : List ℕ) (es : List Event) → list_any (bytes_eq t) (summary_of es).warnings ≡ list_any (warns_by t) es
warnings_are_of_events t es = any-each_once t (warning_texts es) ∙ any-warning_texts t es
