-- A plan has one outcome, and more room changes only an outcome that was too deep.
use Rattle.wide_reader.proofs.Prelude.{◌≡◌, ℕ, zero, suc, ◌≤◌, List, ◌∷◌, Bool, true, false, refl, sym, subst, arith, WideWord, mark, Mark, at, WideIsNotNext, opens_mark, WidePhrase, WideKind, whole, many, listed, keyed, WideOf, phrase, Deep, WideReadOutcome, Got, Refused, WidePlan, enter, WidePlanRuns, stands, unfit, goes, fails, calls, found, missing, enters, passes, opened, full}
use Rattle.wide_reader.proofs.Looks.{one_found, not_both}

pub one_phrase : (k : WideKind) (x y : WideOf k) → phrase k x ≡ phrase k y → x ≡ y
one_phrase whole x y e = cc
one_phrase many x y e = cc
one_phrase listed x y e = cc
one_phrase keyed x y e = cc

same_got : (p q : WidePhrase) (rest end : List WideWord) → Got p rest ≡ Got q end → (p ≡ q) × (rest ≡ end)
same_got p q rest end e = (cc, cc)

-- after the opening mark
entered : {k : WideKind} {m : Mark} {e : opens_mark m ≡ true} {p : WidePlan true k} {q : WidePlan false k} {room : ℕ} {ws us : List WideWord} {o : WideReadOutcome}
    → WidePlanRuns (enter m e p q) room ws o → ws ≡ mark m ∷ us → WidePlanRuns p room us o
entered {p = p} {room = room} {us = us} {o = o} (enters {ws = vs} r) g = let f : vs ≡ us = cc in subst (λ (y : List WideWord). WidePlanRuns p room y o) f r
entered {m = m} (passes n r) g = absurd (subst (λ (y : List WideWord). WideIsNotNext (at m) y) g n refl)

-- the outcome of a plan is unique
pub one_outcome : {b : Bool} {k : WideKind} {p : WidePlan b k} {room : ℕ} {ws : List WideWord} {o other : WideReadOutcome} → WidePlanRuns p room ws o → WidePlanRuns p room ws other → o ≡ other
one_outcome stands stands = refl
one_outcome unfit unfit = refl
one_outcome (goes r) (goes s) = one_outcome r s
one_outcome (fails r) (fails s) = one_outcome r s
one_outcome (fails r) (calls x s t) = let e = one_outcome r s in absurd cc
one_outcome (calls x r t) (fails s) = let e = one_outcome r s in absurd cc
one_outcome {other = other} (calls {j = j} {f = f} {room = room} {rest = rest} x r t) (calls {rest = end} y s u) =
    let same = same_got (phrase j x) (phrase j y) rest end (one_outcome r s) in
    one_outcome t (subst (λ (z : WideOf j). WidePlanRuns (f z) room rest other) (sym (one_phrase j x y same.0))
    (subst (λ (z : List WideWord). WidePlanRuns (f y) room z other) (sym same.1) u))
one_outcome {other = other} (found {f = f} {room = room} {ws = ws} i r) (found j s) =
    one_outcome r (subst (λ z. WidePlanRuns (f z) room ws other) (sym (one_found i j)) s)
one_outcome (found i r) (missing n s) = absurd (not_both i n)
one_outcome (missing n r) (found i s) = absurd (not_both i n)
one_outcome (missing n r) (missing m s) = one_outcome r s
one_outcome (enters r) s = one_outcome r (entered s refl)
one_outcome (passes n r) (enters s) = absurd (n refl)
one_outcome (passes n r) (passes m s) = one_outcome r s
one_outcome (opened r) (opened s) = one_outcome r s
one_outcome full full = refl

pub roomier : {b : Bool} {k : WideKind} {p : WidePlan b k} {room : ℕ} {ws : List WideWord} {o : WideReadOutcome} → WidePlanRuns p room ws o → (more : ℕ) → room ≤ more
    → ((us : List WideWord) → o ≡ Refused (Deep us) → ⊥) → WidePlanRuns p more ws o
roomier stands more h fits = stands
roomier unfit more h fits = unfit
roomier (goes r) more h fits = goes (roomier r more h fits)
roomier (fails r) more h fits = fails (roomier r more h fits)
roomier (calls x r t) more h fits = calls x (roomier r more h (λ us e. cc)) (roomier t more h fits)
roomier (found i r) more h fits = found i (roomier r more h fits)
roomier (missing n r) more h fits = missing n (roomier r more h fits)
roomier (enters r) more h fits = enters (roomier r more h fits)
roomier (passes n r) more h fits = passes n (roomier r more h fits)
roomier (opened r) (suc more) h fits = opened (roomier r more (omega arith) fits)
roomier (opened r) zero h fits = absurd (omega arith)
roomier full more h fits = absurd (fits _ refl)
