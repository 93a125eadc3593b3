-- If the reader refuses, some words in place of those left complete its step. If a bracket or conditional is too
-- many, they do so with room for one more, and some words in place of that bracket and those after it do so without.
use Rattle.cel_reader.proofs.Prelude.{◌≡◌, ℕ, suc, ◌≤◌, List, [], ◌∷◌, ◌++◌, pos, Bool, true, false, ◌⊎◌, inl, inr, refl, codes, arith, Word, int, mark, Mark, Colon, CloseBrace, Tree, trees, is_selector, is_identifier, is_reserved, role_of, Look, opens, opens_mark, closing_mark, FoundBy, Is, this_mark, this_name, this_literal, Class, Expression, Infix, Unary, Prefixed, Member, Primary, Items, OptionalItems, Pairs, OptionalPairs, below, Cause, Misfit, Deep, Refused, Kind, whole, Of, Step, Row, Tail, Suffix, Selection, Enclosed, Listed, Item, Behind, Mapped, Entry, BehindEntry, Plan, done, misfit, go, call, look, enter, inside, operand, maybe_call, listed, behind, plan, PlanRuns, StepReads, Level, Or, Sum, Product, Closing, Map, UnaryOperator}
use Rattle.cel_reader.specs.Tree as tree
use Rattle.cel_reader.specs.Reading as runs
use Rattle.cel_reader.specs.declared.operator.UnaryOperator.TheVariants as unary
use Rattle.cel_reader.proofs.Loose.{Loose, stands, goes, calls, found, skips, enters, passes, opened, loosely, wide, carried}
use Rattle.cel_reader.proofs.Alike.{Alike, over, down, same}

-- ---- each plan can be completed

-- the literal 0, in each row
abbrev pub nil : Tree
nil = tree.literal (tree.int (pos 0))

abbrev pub Nought : Class → Type 0
Nought c = (room : ℕ) (end : List Word) → Loose (go (Row c)) room (int (pos 0) ∷ end) nil end

primary : Nought Primary
primary room end = goes (passes (passes (passes (found (this_literal refl) stands))))

member : Nought Member
member room end = goes (calls nil (primary room end) (goes (skips (passes stands))))

nought_unary : Nought Unary
nought_unary room end = goes (skips (skips (member room end)))

level : (l : Level) → Nought (below l) → Nought (Infix l)
level l d room end = goes (calls nil (d room end) (goes (skips stands)))

sum : Nought (Infix Sum)
sum = level Sum (level Product nought_unary)

nought_below : (l : Level) → Nought (below l)
nought_below l = grind (arith, level, sum, nought_unary)

pub nought_whole : Nought Expression
nought_whole room end = goes (calls nil (level Or (nought_below Or) room end) (passes stands))

selects : is_selector (codes "x") ≡ true
unfolding role_of is_reserved
selects = refl

identifies : is_identifier (codes "x") ≡ true
unfolding role_of is_reserved
identifies = refl

-- the reader can be in this state
abbrev Stood : {b : Bool} {k : Kind} → Step b k → Type 0
Stood (Row Items) = ⊥
Stood (Row OptionalItems) = ⊥
Stood (Row Pairs) = ⊥
Stood (Row OptionalPairs) = ⊥
Stood _ = Unit {0}

-- some words are the plan's phrase
abbrev Ends : {b : Bool} {k : Kind} → Plan b k → ℕ → Type 0
Ends {k = k} p room = (us : List Word) × (x : Of k) × Loose p room us x []

ends : {k : Kind} (s : Step false k) → Stood s → (room : ℕ) → Ends (go s) room
ends (Row Expression) h room = (_, nil, nought_whole room [])
ends (Row (Infix l)) h room = (_, nil, level l (nought_below l) room [])
ends (Row Unary) h room = (_, nil, nought_unary room [])
ends (Row (Prefixed op)) h room = (_, nil, goes (skips (member room [])))
ends (Row Member) h room = (_, nil, member room [])
ends (Row Primary) h room = (_, nil, primary room [])
ends (Row _) h room = absurd h
ends (Tail l a) h room = ([], a, goes (skips stands))
ends (Suffix a) h room = ([], a, goes (skips (passes stands)))
ends (Selection a) h room = (_, _, goes (found {x = codes "x"} (this_name selects) (passes stands)))
ends (Item c items) h room = (_, items ++ nil ∷ [], goes (calls nil (nought_whole room (mark (closing_mark c) ∷ [])) (goes (found this_mark stands))))
ends (Behind c items) h room = (_, items, goes (found this_mark stands))
ends (Entry pairs) h room = (
  _,
  pairs ++ (nil, nil) ∷ [],
  goes (calls nil (nought_whole room (mark Colon ∷ int (pos 0) ∷ mark CloseBrace ∷ []))
      (found this_mark (calls nil (nought_whole room (mark CloseBrace ∷ [])) (goes (found this_mark stands))))),
)
ends (BehindEntry pairs) h room = (_, pairs, goes (found this_mark stands))

-- the plan, and each that it continues with, has a phrase
data Whole : (b : Bool) (k : Kind) → Plan b k → Type 0 where
  at_done : {k : Kind} {x : Of k} → Whole false k (done x)
  at_step : {b : Bool} {k : Kind} {s : Step b k} → Stood s → Whole b k (go s)
  at_call : {b : Bool} {j k : Kind} {s : Step b j} {f : Of j → Plan false k} → Stood s → ((x : Of j) → Whole false k (f x)) → Whole b k (call s f)
  at_last : {k : Kind} {l : Look} {f : FoundBy l → Plan false k} {w : Word} {x : FoundBy l} → Is l w x → ((y : FoundBy l) → Whole false k (f y))
      → Whole false k (look l f misfit)
  at_look : {k : Kind} {l : Look} {f : FoundBy l → Plan false k} {p : Plan false k} → ((x : FoundBy l) → Whole false k (f x)) → Whole false k p
      → Whole false k (look l f p)
  at_bracket : {k : Kind} {m : Mark} {e : opens_mark m ≡ true} {p : Plan true k} {q : Plan false k} → Whole true k p → Whole false k q
      → Whole false k (enter m e p q)
  within : {k : Kind} {p : Plan false k} → Whole false k p → Whole true k (inside p)

whole_end : {k : Kind} {p : Plan false k} → Whole false k p → (room : ℕ) → Ends p room
whole_end at_done room = ([], _, stands)
whole_end (at_step {s = s} h) room = ends s h room
whole_end (at_call {s = s} h f) room =
    let t = ends s h room in let u = whole_end (f t.1) room in let v = carried t.2 u.0 in (v.0, u.1, calls t.1 v.2 u.2)
whole_end (at_last {w = w} {x = x} i f) room = let t = whole_end (f x) room in (w ∷ t.0, t.1, found i t.2)
whole_end (at_look f p) room = let t = whole_end p room in (t.0, t.1, skips t.2)
whole_end (at_bracket p q) room = let t = whole_end q room in (t.0, t.1, passes t.2)

operand_whole : (op : UnaryOperator) → Whole false whole (operand op)
operand_whole op = at_call tt (λ a. at_done)

call_whole : (a : Tree) (of : List Tree → Tree) → Whole false whole (maybe_call a of)
call_whole a of = at_bracket (at_call tt (λ items. at_done)) at_done

list_whole : {k : Kind} (c : Closing) (none : Of k) (first : Step false k) → Stood first → Whole true k (listed c none first)
list_whole c none first h = within (at_look (λ x. at_done) (at_look (λ x. at_last this_mark (λ y. at_done)) (at_step h)))

behind_whole : {k : Kind} (c : Closing) (all : Of k) (next : Step false k) → Stood next → Whole false k (behind c all next)
behind_whole c all next h = at_look (λ x. at_done) (at_last this_mark (λ x. at_look (λ y. at_done) (at_step h)))

stood_below : (l : Level) → Stood (Row (below l))
stood_below Or = tt
stood_below _ = tt

plan_whole : {b : Bool} {k : Kind} (s : Step b k) → Stood s → Whole b k (plan s)
plan_whole (Row Expression) h = at_call tt (λ a. at_bracket (within (at_call tt (λ b. at_last this_mark (λ x. at_call tt (λ c. at_done))))) at_done)
plan_whole (Row (Infix l)) h = at_call (stood_below l) (λ a. at_step tt)
plan_whole (Tail l a) h = at_look (λ op. at_call (stood_below l) (λ b. at_step tt)) at_done
plan_whole (Row Unary) h = at_look (λ x. operand_whole unary.Not) (at_look (λ x. operand_whole unary.Negate) (at_step tt))
plan_whole (Row (Prefixed op)) h = at_look (λ x. operand_whole op) (at_step tt)
plan_whole (Row Member) h = at_call tt (λ a. at_step tt)
plan_whole (Suffix a) h = at_look (λ x. at_call tt (λ b. at_step tt)) (at_bracket (at_call tt (λ b. at_step tt)) at_done)
plan_whole (Selection a) h = at_last {x = codes "x"} (this_name selects) (λ n. call_whole (tree.select a n) (λ items. tree.method a n (trees items)))
plan_whole (Row Primary) h =
    at_bracket (at_step tt) (at_bracket (at_call tt (λ items. at_done)) (at_bracket (at_call tt (λ pairs. at_done)) (at_look (λ v. at_done)
    (at_last {x = codes "x"} (this_name identifies) (λ n. call_whole (tree.name n) (λ items. tree.call n (trees items)))))))
plan_whole (Row _) h = absurd h
plan_whole (Enclosed m) h = within (at_call tt (λ a. at_last this_mark (λ x. at_done)))
plan_whole (Listed c) h = list_whole c [] (Item c []) tt
plan_whole (Item c items) h = at_call tt (λ a. at_step tt)
plan_whole (Behind c items) h = behind_whole c items (Item c items) tt
plan_whole Mapped h = list_whole Map [] (Entry []) tt
plan_whole (Entry pairs) h = at_call tt (λ a. at_last this_mark (λ x. at_call tt (λ b. at_step tt)))
plan_whole (BehindEntry pairs) h = behind_whole Map pairs (Entry pairs) tt

-- ---- the rest of a plan

-- the same room, or room for one more
abbrev extra : Bool → ℕ → ℕ
extra false room = room
extra true room = suc room

enough : (by : Bool) (room : ℕ) → room ≤ extra by room
enough false room = omega arith
enough true room = omega arith

extra_inner : (by : Bool) (room : ℕ) → extra by (suc room) ≡ suc (extra by room)
extra_inner false room = refl
extra_inner true room = refl

-- with some words in place of those left, the plan is completed
abbrev pub Finishes : {b : Bool} {k : Kind} → Plan b k → ℕ → List Word → List Word → Type 0
Finishes {k = k} p room ws rest = (us more : List Word) × (x : Of k) × Alike rest more ws us × Loose p room us x []

-- the words left follow the bracket before the plan, or a bracket or question mark in place of which some words
-- complete the plan
abbrev pub Opening : (b : Bool) {k : Kind} → Plan b k → ℕ → List Word → List Word → Type 0
Opening b p room ws rest = ((b ≡ true) × (ws ≡ rest)) ⊎ ((w : Word) × (opens w ≡ true) × Finishes p room ws (w ∷ rest))

-- the words before a refusal can be extended to the plan's end
abbrev pub Ended : (b : Bool) {k : Kind} → Plan b k → ℕ → List Word → Cause → Type 0
Ended b p room ws (Misfit rest) = Finishes p room ws rest
Ended b p room ws (Deep rest) = Finishes p (suc room) ws rest × Opening b p room ws rest

-- a refusal of a plan inside another
raised : {b c : Bool} {j k : Kind} {p : Plan b j} {q : Plan c k} {room other : ℕ} {ws us : List Word} (e : Cause)
    → ((by : Bool) (cut : List Word) → Finishes q (extra by other) us cut → Finishes p (extra by room) ws cut)
    → ((rest : List Word) → c ≡ true → us ≡ rest → Opening b p room ws rest) → Ended c q other us e → Ended b p room ws e
raised (Misfit rest) f own d = f false rest d
raised (Deep rest) f own d =
    (f true rest d.0, elim d.1 [ inl x ↦ own rest x.0 x.1 | inr x ↦ inr (x.0, x.1, f false (x.0 ∷ rest) x.2) ])

-- more words after an end
ahead : {x y ws us vs xs : List Word} → Alike x y ws us → Alike [] vs us xs → (more : List Word) × Alike x more ws xs
ahead same b = (_, same)
ahead (down a) (down b) = let t = ahead a b in (t.0, down t.1)

afresh : {k : Kind} {p : Plan false k} (room : ℕ) (ws : List Word) → Ends p room → Finishes p room ws ws
afresh room ws t = (t.0, t.0, t.1, same, t.2)

no_bracket : {P : Type 0} → false ≡ true → P
no_bracket e = absurd cc

-- some words are the plan's phrase, unless a bracket precedes it
abbrev EndsHere : (b : Bool) {k : Kind} → Plan b k → Type 0
EndsHere true p = Unit {0}
EndsHere false p = (room : ℕ) → Ends p room

step_ends : {b : Bool} {k : Kind} (s : Step b k) → Stood s → EndsHere b (go s)
step_ends {b = true} s h = tt
step_ends {b = false} s h = ends s h

-- after a refusal by q the words before it can be extended to the end of p, if each phrase of q is one of p
ended_by : {b : Bool} {k : Kind} {p q : Plan b k} {room : ℕ} {ws : List Word} {e : Cause}
    → ((n : ℕ) (us : List Word) (x : Of k) → Loose q n us x [] → Loose p n us x []) → EndsHere b p → Whole b k q → PlanRuns q room ws (Refused e)
    → Ended b p room ws e
ended_by f here at_done r = elim r [ ]
ended_by f here (at_step {s = s} h) (runs.goes r) = ended_by (λ n us x d. f n us x (goes d)) here (plan_whole s h) r
ended_by {room = room} {e = e} f here (at_call {s = s} h g) (runs.fails r) =
    raised e (λ by cut d.
    let t = whole_end (g d.2) (extra by room) in
    let v = carried d.4 t.0 in
    let a = ahead d.3 v.1 in
    (v.0, a.0, t.1, a.1, f _ _ _ (calls d.2 v.2 t.2)))
    (λ rest before i. inl (before, i)) (ended_by (λ n us x d. d) (step_ends s h) (at_step h) r)
ended_by {room = room} {e = e} f here (at_call h g) (runs.calls x r t) =
    raised e (λ by cut d. let u = carried (wide (loosely r) (extra by room) (enough by room)) d.0 in (u.0, d.1, d.2, over d.3 u.1, f _ _ _ (calls x u.2 d.4)))
    (λ rest before i. no_bracket before) (ended_by (λ n us y d. d) (whole_end (g x)) (g x) t)
ended_by {e = e} f here (at_last j g) (runs.found {w = w} {x = x} i r) =
    raised e (λ by cut d. (w ∷ d.0, d.1, d.2, down d.3, f _ _ _ (found i d.4)))
    (λ rest before i. no_bracket before) (ended_by (λ n us y d. d) (whole_end (g x)) (g x) r)
ended_by {room = room} {ws = ws} f here (at_last j g) (runs.missing n runs.unfit) = afresh room ws (here room)
ended_by {e = e} f here (at_look g p) (runs.found {w = w} {x = x} i r) =
    raised e (λ by cut d. (w ∷ d.0, d.1, d.2, down d.3, f _ _ _ (found i d.4)))
    (λ rest before i. no_bracket before) (ended_by (λ n us y d. d) (whole_end (g x)) (g x) r)
ended_by f here (at_look g p) (runs.missing n r) = ended_by (λ n us x d. f n us x (skips d)) here p r
ended_by {room = room} {e = e} f here (at_bracket p q) (runs.enters {m = m} {e = o} {ws = ws} r) =
    raised e (λ by cut d. (mark m ∷ d.0, d.1, d.2, down d.3, f _ _ _ (enters d.4)))
    (λ rest before i. inr (mark m, o, rw (← i) (afresh room (mark m ∷ ws) (here room)))) (ended_by (λ n us y d. d) tt p r)
ended_by f here (at_bracket p q) (runs.passes n r) = ended_by (λ n us x d. f n us x (passes d)) here q r
ended_by {e = e} f here (within p) (runs.opened {room = inner} r) =
    raised e (λ by cut d. (d.0, d.1, d.2, d.3, rw (extra_inner by inner) (f _ _ _ (opened d.4))))
    (λ rest before i. no_bracket before) (ended_by (λ n us y d. d) (whole_end p) p r)
ended_by f here (within p) (runs.full {ws = ws}) =
    let t = whole_end p 0 in ((t.0, t.0, t.1, same, f _ _ _ (opened t.2)), inl (refl, refl))

pub ended : {room : ℕ} {ws : List Word} {e : Cause} → StepReads (Row Expression) room ws (Refused e) → Ended false (go (Row Expression)) room ws e
ended r = ended_by (λ n us x d. d) (ends (Row Expression) tt) (at_step tt) r
