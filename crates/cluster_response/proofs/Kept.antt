-- What counts of events after more of them.
use Rattle.cluster_response.proofs.Firsts.{told_more}
use Rattle.cluster_response.proofs.Prelude.{◌≡◌, ◌||◌, ◌∙◌, ◌++◌, ◌∷◌, ℕ, Bool, true, false, not, List, [], Option, None, Some, ap, sym, refl, append-nil, append_assoc, filter, filter-append, bytes_eq, bytes_eq-Decides, list_any, Event, KeepsEvents, denies, warns, audits, refuses, ends, each_once, events_view, all_undecided, first_audit, first_denial, has_end, is_closed, preferred, summary_of, told_undecided, warning_texts, or_first, or_there, with_event, with_events, CodeEvents, Undecided, told_of}

-- ---- texts, each once

-- the texts that are not t
abbrev pub without : List ℕ → List (List ℕ) → List (List ℕ)
without t ts = filter (λ u. not (bytes_eq u t)) ts

-- equal texts have the same equals
same_equals : (t x y : List ℕ) → bytes_eq y x ≡ true → bytes_eq t y ≡ bytes_eq t x
same_equals t x y e = ap (bytes_eq t) ((bytes_eq-Decides y x).0 e)

any-without_at : (t x y : List ℕ) (ys : List (List ℕ)) (b : Bool) → bytes_eq y x ≡ b → bytes_eq t x ≡ false
    → list_any (bytes_eq t) (without x ys) ≡ list_any (bytes_eq t) ys → list_any (bytes_eq t) (without x (y ∷ ys)) ≡ list_any (bytes_eq t) (y ∷ ys)
any-without_at t x y ys true same other more = rw (same, same_equals t x y same, other) more
any-without_at t x y ys false same other more = rw same (ap (λ b. bytes_eq t y || b) more)

-- a text is among those that are not another one as it is among all
pub any-without : (t x : List ℕ) (ys : List (List ℕ)) → bytes_eq t x ≡ false → list_any (bytes_eq t) (without x ys) ≡ list_any (bytes_eq t) ys
any-without t x [] other = refl
any-without t x (y ∷ ys) other = any-without_at t x y ys _ refl other (any-without t x ys other)

there_at : (x t : List ℕ) (ys : List (List ℕ)) (same there : Bool) → bytes_eq t x ≡ same → list_any (bytes_eq t) ys ≡ there
    → x ∷ without x (or_there ys t) ≡ or_there (x ∷ without x ys) t
there_at x t ys true true same there = rw (there, same) refl
there_at x t ys true false same there = rw (there, same, filter-append, same, append-nil) refl
there_at x t ys false true same there = rw (there, same, any-without t x ys same, there) refl
there_at x t ys false false same there = rw (there, same, any-without t x ys same, there, filter-append, same) refl

-- one more text, unless it is there
pub each_once-more : (ts : List (List ℕ)) (t : List ℕ) → each_once (ts ++ t ∷ []) ≡ or_there (each_once ts) t
each_once-more [] t = refl
each_once-more (x ∷ ts) t = ap (λ us. x ∷ without x us) (each_once-more ts t) ∙ there_at x t (each_once ts) _ _ refl refl

-- ---- the first of each kind

-- the first, or else the other
abbrev pub or_else : {A : Type 0} → Option A → Option A → Option A
or_else (Some a) o = Some a
or_else None o = o

or_else-Some : {A : Type 0} (o : Option A) (a : A) → or_else o (Some a) ≡ or_first o a
or_else-Some (Some b) a = refl
or_else-Some None a = refl

or_else-None : {A : Type 0} (o : Option A) → or_else o None ≡ o
or_else-None (Some b) = refl
or_else-None None = refl

first_denial-append : (es fs : List Event) → first_denial (es ++ fs) ≡ or_else (first_denial es) (first_denial fs)
first_denial-append [] fs = refl
first_denial-append (denies d ∷ es) fs = refl
first_denial-append (warns t ∷ es) fs = first_denial-append es fs
first_denial-append (audits a ∷ es) fs = first_denial-append es fs
first_denial-append (refuses r ∷ es) fs = first_denial-append es fs
first_denial-append (ends ∷ es) fs = first_denial-append es fs

first_audit-append : (es fs : List Event) → first_audit (es ++ fs) ≡ or_else (first_audit es) (first_audit fs)
first_audit-append [] fs = refl
first_audit-append (denies d ∷ es) fs = first_audit-append es fs
first_audit-append (warns t ∷ es) fs = first_audit-append es fs
first_audit-append (audits a ∷ es) fs = refl
first_audit-append (refuses r ∷ es) fs = first_audit-append es fs
first_audit-append (ends ∷ es) fs = first_audit-append es fs

all_undecided-append : (es fs : List Event) → all_undecided (es ++ fs) ≡ all_undecided es ++ all_undecided fs
all_undecided-append [] fs = refl
all_undecided-append (denies d ∷ es) fs = all_undecided-append es fs
all_undecided-append (warns t ∷ es) fs = all_undecided-append es fs
all_undecided-append (audits a ∷ es) fs = all_undecided-append es fs
all_undecided-append (refuses r ∷ es) fs = ap (λ rs. r ∷ rs) (all_undecided-append es fs)
all_undecided-append (ends ∷ es) fs = all_undecided-append es fs

-- no more policies that do not decide, and one more
same_undecided : (es : List Event) (f : Event) → all_undecided (f ∷ []) ≡ [] → told_undecided (es ++ f ∷ []) ≡ told_undecided es
same_undecided es f e = ap (told_of is_closed) (all_undecided-append es (f ∷ []) ∙ ap (λ rs. all_undecided es ++ rs) e ∙ append-nil _)

more_undecided : (es : List Event) (r : Undecided) → told_undecided (es ++ refuses r ∷ []) ≡ Some (preferred is_closed (told_undecided es) r)
more_undecided es r = ap (told_of is_closed) (all_undecided-append es (refuses r ∷ [])) ∙ told_more is_closed (all_undecided es) r

warning_texts-append : (es fs : List Event) → warning_texts (es ++ fs) ≡ warning_texts es ++ warning_texts fs
warning_texts-append [] fs = refl
warning_texts-append (denies d ∷ es) fs = warning_texts-append es fs
warning_texts-append (warns t ∷ es) fs = ap (λ ts. t ∷ ts) (warning_texts-append es fs)
warning_texts-append (audits a ∷ es) fs = warning_texts-append es fs
warning_texts-append (refuses r ∷ es) fs = warning_texts-append es fs
warning_texts-append (ends ∷ es) fs = warning_texts-append es fs

pub has_end-append : (es fs : List Event) → has_end (es ++ fs) ≡ has_end es || has_end fs
has_end-append [] fs = refl
has_end-append (denies d ∷ es) fs = has_end-append es fs
has_end-append (warns t ∷ es) fs = has_end-append es fs
has_end-append (audits a ∷ es) fs = has_end-append es fs
has_end-append (refuses r ∷ es) fs = has_end-append es fs
has_end-append (ends ∷ es) fs = refl

pub or_false : (b : Bool) → b || false ≡ b
or_false true = refl
or_false false = refl

pub or_true : (b : Bool) → b || true ≡ true
or_true true = refl
or_true false = refl

-- ---- summaries

no_more_texts : (es : List Event) (f : Event) → warning_texts (f ∷ []) ≡ [] → warning_texts (es ++ f ∷ []) ≡ warning_texts es
no_more_texts es f e = warning_texts-append es (f ∷ []) ∙ ap (λ ts. warning_texts es ++ ts) e ∙ append-nil _

-- what counts after one more event
pub summary-more : (es : List Event) (f : Event) → with_event (summary_of es) f ≡ summary_of (es ++ f ∷ [])
summary-more es (denies d) =
    rw (first_denial-append, or_else-Some, no_more_texts es (denies d) refl, first_audit-append, or_else-None, same_undecided es (denies d) refl, has_end-append, or_false) refl
summary-more es (warns t) =
    rw (first_denial-append, or_else-None, warning_texts-append es (warns t ∷ []), each_once-more, first_audit-append, or_else-None, same_undecided es (warns t) refl, has_end-append, or_false) refl
summary-more es (audits a) =
    rw (first_denial-append, or_else-None, no_more_texts es (audits a) refl, first_audit-append, or_else-Some, same_undecided es (audits a) refl, has_end-append, or_false) refl
summary-more es (refuses r) =
    rw (first_denial-append, or_else-None, no_more_texts es (refuses r) refl, first_audit-append, or_else-None, more_undecided es r, has_end-append, or_false) refl
summary-more es ends =
    rw (first_denial-append, or_else-None, no_more_texts es ends refl, first_audit-append, or_else-None, same_undecided es ends refl, has_end-append, or_true) refl

-- what counts after more events
pub summary-append : (es fs : List Event) → with_events (summary_of es) fs ≡ summary_of (es ++ fs)
summary-append es [] = ap summary_of (sym (append-nil es))
summary-append es (f ∷ fs) =
    ap (λ s. with_events s fs) (summary-more es f) ∙ summary-append (es ++ f ∷ []) fs ∙ ap summary_of (append_assoc es (f ∷ []) fs)

-- ---- the code's

-- after one event more, the code keeps what counts
pub kept_one : (old new : CodeEvents) (es : List Event) (f : Event) → KeepsEvents old es → events_view new ≡ with_event (events_view old) f
    → KeepsEvents new (es ++ f ∷ [])
kept_one old new es f kept e = e ∙ ap (λ s. with_event s f) kept ∙ summary-more es f

-- so it does after more events
pub kept_later : (old new : CodeEvents) (es fs : List Event) → KeepsEvents old es → events_view new ≡ with_events (events_view old) fs
    → KeepsEvents new (es ++ fs)
kept_later old new es fs kept e = e ∙ ap (λ s. with_events s fs) kept ∙ summary-append es fs
