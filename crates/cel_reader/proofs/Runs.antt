-- The reader's runs, computed.
pub mod Refusals
use Rattle.cel_reader.proofs.Prelude.{◌≡◌, ℕ, zero, suc, List, ◌∷◌, Bool, true, false, Option, Some, None, refl, sym, subst, Word, Mark, Look, at, Is, this_mark, FoundBy, opens_mark, Phrase, One, Many, Keyed, Kind, whole, many, keyed, Of, phrase, ReadOutcome, Got, Refused, Plan, done, misfit, go, call, look, enter, inside, plan, PlanRuns, stands, unfit, goes, fails, calls, found, missing, enters, passes, opened, full}
use Rattle.cel_reader.proofs.Looks.{Seen, yes, no, seen}

-- an outcome of the plan, or none known
pub data Run (b : Bool) (k : Kind) (p : Plan b k) (room : ℕ) (ws : List Word) : Type 0 where
  ran : (o : ReadOutcome) → PlanRuns p room ws o → Run b k p room ws
  none : Run b k p room ws

unfoldable pub after : {b c : Bool} {j k : Kind} {p : Plan b j} {q : Plan c k} {room other : ℕ} {ws us : List Word} → Run b j p room ws
    → ((o : ReadOutcome) → PlanRuns p room ws o → PlanRuns q other us o) → Run c k q other us
after (ran o r) f = ran o (f o r)
after none f = none

-- the value of a phrase
unfoldable pub of : (k : Kind) (p : Phrase) → Option ((x : Of k) × (phrase k x ≡ p))
of whole (One a) = Some (a, refl)
of many (Many items) = Some (items, refl)
of keyed (Keyed pairs) = Some (pairs, refl)
of _ _ = None

unfoldable pub by_look : {k : Kind} {l : Look} {f : FoundBy l → Plan false k} {p : Plan false k} {room : ℕ} {ws : List Word}
    → ((x : FoundBy l) (us : List Word) → Run false k (f x) room us) → (Unit {0} → Run false k p room ws) → Seen l ws → Run false k (look l f p) room ws
by_look g h (yes {ws = us} x i) = after (g x us) (λ o r. found i r)
by_look g h (no n) = after (h tt) (λ o r. missing n r)

pub enters_by : {k : Kind} {m : Mark} {e : opens_mark m ≡ true} {p : Plan true k} {q : Plan false k} {room : ℕ} {w : Word} {ws : List Word} {o : ReadOutcome}
    {x : Unit {0}} → Is (at m) w x → PlanRuns p room ws o → PlanRuns (enter m e p q) room (w ∷ ws) o
enters_by this_mark r = enters r

unfoldable pub by_mark : {k : Kind} {m : Mark} {e : opens_mark m ≡ true} {p : Plan true k} {q : Plan false k} {room : ℕ} {ws : List Word}
    → ((us : List Word) → Run true k p room us) → (Unit {0} → Run false k q room ws) → Seen (at m) ws → Run false k (enter m e p q) room ws
by_mark g h (yes {ws = us} x i) = after (g us) (λ o r. enters_by i r)
by_mark g h (no n) = after (h tt) (λ o r. passes n r)

-- runs with recursion up to this depth
unfoldable pub run : ℕ → {b : Bool} {k : Kind} (p : Plan b k) (room : ℕ) (ws : List Word) → Run b k p room ws
run fuel {k = k} (done x) room ws = ran (Got (phrase k x) ws) stands
run fuel misfit room ws = ran _ unfit
run (suc fuel) (go s) room ws = after (run fuel (plan s) room ws) (λ o r. goes r)
run (suc fuel) (call {j = j} s f) room ws = elim (run fuel (go s) room ws) [
  | ran (Refused e) r ↦ ran (Refused e) (fails r)
  | ran (Got p rest) r ↦ elim (of j p) [
    | Some x ↦ after (run fuel (f x.0) room rest) (λ o t. calls x.0 (subst (λ (q : Phrase). PlanRuns (go s) room ws (Got q rest)) (sym x.1) r) t)
    | None ↦ none
  ]
  | none ↦ none
]
run (suc fuel) (look l f p) room ws = by_look (λ x us. run fuel (f x) room us) (λ u. run fuel p room ws) (seen l ws)
run (suc fuel) (enter m e p q) room ws = by_mark (λ us. run fuel p room us) (λ u. run fuel q room ws) (seen (at m) ws)
run (suc fuel) (inside p) (suc room) ws = after (run fuel p room ws) (λ o r. opened r)
run (suc fuel) (inside p) zero ws = ran _ full
run fuel _ room ws = none
