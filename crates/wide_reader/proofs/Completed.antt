-- If the reader refuses, some words in place of those left complete its step. If a bracket or conditional is too
-- many, they do so with room for one more, and some words in place of that bracket and those after it do so without.
use Rattle.wide_reader.proofs.Prelude.{◌≡◌, ℕ, suc, ◌≤◌, List, [], ◌∷◌, ◌++◌, pos, Bool, true, false, ◌⊎◌, inl, inr, refl, codes, arith, WideWord, int, mark, Mark, Colon, CloseBrace, CloseBracket, CloseParen, Wide, wides, is_selector, is_identifier, is_reserved, role_of, is_quoted_name, WideLook, opens, opens_mark, closing_mark, WideFoundBy, WideIs, this_mark, this_name, this_quoted, this_literal, WideClass, Expression, Infix, Unary, Prefixed, Member, Primary, Arguments, OptionalArguments, Items, OptionalItems, Pairs, OptionalPairs, below, WideCause, Misfit, Deep, Refused, WideKind, whole, WideOf, WideReadStep, Row, Tail, Suffix, Selection, Indexed, Enclosed, Called, Argument, BehindArgument, Bracketed, Item, BehindItem, Mapped, Entry, BehindEntry, WidePlan, done, misfit, go, call, look, enter, inside, access, up_to, index_after, item_after, entry_after, maybe_call, first_part, behind, plan, WidePlanRuns, WideStepReads, Level, Or, Sum, Product, Closing, Call, Map, Access, Plain, Optional, method_of, call_of}
use Rattle.cel_reader.specs.Tree as literals
use Rattle.wide_reader.specs.Tree as tree
use Rattle.wide_reader.specs.declared.closing.Closing.TheVariants.{List as ListLiteral}
use Rattle.wide_reader.specs.Reading as runs
use Rattle.wide_reader.proofs.Loose.{Loose, stands, goes, calls, found, skips, enters, passes, opened, loosely, wide, carried}
use Rattle.wide_reader.proofs.Alike.{Alike, over, down, same}

-- ---- each plan can be completed

-- the literal 0, in each row
abbrev pub nil : Wide
nil = tree.literal (literals.int (pos 0))

abbrev pub Nought : WideClass → Type 0
Nought c = (room : ℕ) (end : List WideWord) → Loose (go (Row c)) room (int (pos 0) ∷ end) nil end

primary : Nought Primary
primary room end = goes (passes (passes (passes (found (this_literal refl) stands))))

member : Nought Member
member room end = goes (calls nil (primary room end) (goes (skips (passes stands))))

nought_unary : Nought Unary
nought_unary room end = goes (skips (skips (member room end)))

level : (l : Level) → Nought (below l) → Nought (Infix l)
level l d room end = goes (calls nil (d room end) (goes (skips stands)))

sum : Nought (Infix Sum)
sum = level Sum (level Product nought_unary)

nought_below : (l : Level) → Nought (below l)
nought_below l = grind (arith, level, sum, nought_unary)

pub nought_whole : Nought Expression
nought_whole room end = goes (calls nil (level Or (nought_below Or) room end) (passes stands))

selects : is_selector (codes "x") ≡ true
unfolding role_of is_reserved
selects = refl

identifies : is_identifier (codes "x") ≡ true
unfolding role_of is_reserved
identifies = refl

-- the reader can be in this state
abbrev Stood : {b : Bool} {k : WideKind} → WideReadStep b k → Type 0
Stood (Row Arguments) = ⊥
Stood (Row OptionalArguments) = ⊥
Stood (Row Items) = ⊥
Stood (Row OptionalItems) = ⊥
Stood (Row Pairs) = ⊥
Stood (Row OptionalPairs) = ⊥
Stood _ = Unit {0}

-- some words are the plan's phrase
abbrev Ends : {b : Bool} {k : WideKind} → WidePlan b k → ℕ → Type 0
Ends {k = k} p room = (us : List WideWord) × (x : WideOf k) × Loose p room us x []

ends : {k : WideKind} (s : WideReadStep false k) → Stood s → (room : ℕ) → Ends (go s) room
ends (Row Expression) h room = (_, nil, nought_whole room [])
ends (Row (Infix l)) h room = (_, nil, level l (nought_below l) room [])
ends (Row Unary) h room = (_, nil, nought_unary room [])
ends (Row (Prefixed op odd)) h room = (_, _, goes (skips (calls nil (member room []) stands)))
ends (Row Member) h room = (_, nil, member room [])
ends (Row Primary) h room = (_, nil, primary room [])
ends (Row _) h room = absurd h
ends (Tail l a) h room = ([], a, goes (skips stands))
ends (Suffix a) h room = ([], a, goes (skips (passes stands)))
ends (Selection a) h room = (_, _, goes (skips (found {x = codes "x"} (this_name selects) (passes stands))))
ends (Argument before) h room = (_, before ++ nil ∷ [], goes (calls nil (nought_whole room (mark (closing_mark Call) ∷ [])) (goes (found this_mark stands))))
ends (BehindArgument before) h room = (_, before, goes (found this_mark stands))
ends (Item before) h room =
    (_, before ++ (Plain, nil) ∷ [], goes (skips (calls nil (nought_whole room (mark (closing_mark ListLiteral) ∷ [])) (goes (found this_mark stands)))))
ends (BehindItem before) h room = (_, before, goes (found this_mark stands))
ends (Entry before) h room = (
  _,
  before ++ (Plain, nil, nil) ∷ [],
  goes (skips (calls nil (nought_whole room (mark Colon ∷ int (pos 0) ∷ mark CloseBrace ∷ []))
      (found this_mark (calls nil (nought_whole room (mark CloseBrace ∷ [])) (goes (found this_mark stands)))))),
)
ends (BehindEntry before) h room = (_, before, goes (found this_mark stands))

-- the plan, and each that it continues with, has a phrase
data Whole : (b : Bool) (k : WideKind) → WidePlan b k → Type 0 where
  at_done : {k : WideKind} {x : WideOf k} → Whole false k (done x)
  at_step : {b : Bool} {k : WideKind} {s : WideReadStep b k} → Stood s → Whole b k (go s)
  at_call : {b : Bool} {j k : WideKind} {s : WideReadStep b j} {f : WideOf j → WidePlan false k} → Stood s → ((x : WideOf j) → Whole false k (f x)) → Whole b k (call s f)
  at_last : {k : WideKind} {l : WideLook} {f : WideFoundBy l → WidePlan false k} {w : WideWord} {x : WideFoundBy l} → WideIs l w x → ((y : WideFoundBy l) → Whole false k (f y))
      → Whole false k (look l f misfit)
  at_look : {k : WideKind} {l : WideLook} {f : WideFoundBy l → WidePlan false k} {p : WidePlan false k} → ((x : WideFoundBy l) → Whole false k (f x)) → Whole false k p
      → Whole false k (look l f p)
  at_bracket : {k : WideKind} {m : Mark} {e : opens_mark m ≡ true} {p : WidePlan true k} {q : WidePlan false k} → Whole true k p → Whole false k q
      → Whole false k (enter m e p q)
  within : {k : WideKind} {p : WidePlan false k} → Whole false k p → Whole true k (inside p)

whole_end : {k : WideKind} {p : WidePlan false k} → Whole false k p → (room : ℕ) → Ends p room
whole_end at_done room = ([], _, stands)
whole_end (at_step {s = s} h) room = ends s h room
whole_end (at_call {s = s} h f) room =
    let t = ends s h room in let u = whole_end (f t.1) room in let v = carried t.2 u.0 in (v.0, u.1, calls t.1 v.2 u.2)
whole_end (at_last {w = w} {x = x} i f) room = let t = whole_end (f x) room in (w ∷ t.0, t.1, found i t.2)
whole_end (at_look f p) room = let t = whole_end p room in (t.0, t.1, skips t.2)
whole_end (at_bracket p q) room = let t = whole_end q room in (t.0, t.1, passes t.2)

call_whole : (a : Wide) (of : List Wide → Wide) → Whole false whole (maybe_call a of)
call_whole a of = at_bracket (at_call tt (λ more. at_done)) at_done

list_whole : {k : WideKind} (c : Closing) (none : WideOf k) (first : WideReadStep false k) → Stood first → Whole true k (first_part c none first)
list_whole c none first h = within (at_look (λ x. at_done) (at_look (λ x. at_last this_mark (λ y. at_done)) (at_step h)))

behind_whole : {k : WideKind} (c : Closing) (all : WideOf k) (next : WideReadStep false k) → Stood next → Whole false k (behind c all next)
behind_whole c all next h = at_look (λ x. at_done) (at_last this_mark (λ x. at_look (λ y. at_done) (at_step h)))

access_whole : {k : WideKind} (f : Access → WidePlan false k) → ((o : Access) → Whole false k (f o)) → Whole false k (access f)
access_whole f h = at_look (λ x. h Optional) (h Plain)

up_to_whole : {k : WideKind} (m : Mark) (f : Wide → WidePlan false k) → ((a : Wide) → Whole false k (f a)) → Whole false k (up_to m f)
up_to_whole m f h = at_call tt (λ a. at_last this_mark (λ x. h a))

quotes : is_quoted_name (codes "x") ≡ true
quotes = refl

stood_below : (l : Level) → Stood (Row (below l))
stood_below Or = tt
stood_below _ = tt

plan_whole : {b : Bool} {k : WideKind} (s : WideReadStep b k) → Stood s → Whole b k (plan s)
plan_whole (Row Expression) h = at_call tt (λ a. at_bracket (within (at_call tt (λ b. at_last this_mark (λ x. at_call tt (λ c. at_done))))) at_done)
plan_whole (Row (Infix l)) h = at_call (stood_below l) (λ a. at_step tt)
plan_whole (Tail l a) h = at_look (λ op. at_call (stood_below l) (λ b. at_step tt)) at_done
plan_whole (Row Unary) h = at_look (λ x. at_step tt) (at_look (λ x. at_step tt) (at_step tt))
plan_whole (Row (Prefixed op odd)) h = at_look (λ x. at_step tt) (at_call tt (λ a. at_done))
plan_whole (Row Member) h = at_call tt (λ a. at_step tt)
plan_whole (Suffix a) h = at_look (λ x. at_call tt (λ b. at_step tt)) (at_bracket (at_call tt (λ b. at_step tt)) at_done)
plan_whole (Selection a) h =
    at_look (λ x. at_look (λ n. at_done) (at_last {x = codes "x"} (this_quoted quotes) (λ n. at_done)))
    (at_look (λ n. call_whole (tree.select a Plain n) (λ more. method_of a n (wides more))) (at_last {x = codes "x"} (this_quoted quotes) (λ n. at_done)))
plan_whole (Indexed a) h = within (access_whole (index_after a) (λ o. up_to_whole CloseBracket (λ b. done (tree.index a o b)) (λ b. at_done)))
plan_whole (Row Primary) h =
    at_bracket (at_step tt) (at_bracket (at_call tt (λ more. at_done)) (at_bracket (at_call tt (λ pairs. at_done)) (at_look (λ v. at_done)
    (at_look (λ x. at_last {x = codes "x"} (this_name identifies) (λ n. call_whole (tree.root n) (λ more. call_of n (wides more))))
    (at_last {x = codes "x"} (this_name identifies) (λ n. call_whole (tree.name n) (λ more. call_of n (wides more))))))))
plan_whole (Row _) h = absurd h
plan_whole Enclosed h = within (up_to_whole CloseParen (λ a. done a) (λ a. at_done))
plan_whole Called h = list_whole Call [] (Argument []) tt
plan_whole (Argument before) h = at_call tt (λ a. at_step tt)
plan_whole (BehindArgument before) h = behind_whole Call before (Argument before) tt
plan_whole Bracketed h = list_whole ListLiteral [] (Item []) tt
plan_whole (Item before) h = access_whole (item_after before) (λ o. at_call tt (λ a. at_step tt))
plan_whole (BehindItem before) h = behind_whole ListLiteral before (Item before) tt
plan_whole Mapped h = list_whole Map [] (Entry []) tt
plan_whole (Entry before) h = access_whole (entry_after before) (λ o. up_to_whole Colon (λ a. call (Row Expression) (λ b. go (BehindEntry (before ++ (o, a, b) ∷ [])))) (λ a. at_call tt (λ b. at_step tt)))
plan_whole (BehindEntry before) h = behind_whole Map before (Entry before) tt

-- ---- the rest of a plan

-- the same room, or room for one more
abbrev extra : Bool → ℕ → ℕ
extra false room = room
extra true room = suc room

enough : (by : Bool) (room : ℕ) → room ≤ extra by room
enough false room = omega arith
enough true room = omega arith

extra_inner : (by : Bool) (room : ℕ) → extra by (suc room) ≡ suc (extra by room)
extra_inner false room = refl
extra_inner true room = refl

-- with some words in place of those left, the plan is completed
abbrev pub Finishes : {b : Bool} {k : WideKind} → WidePlan b k → ℕ → List WideWord → List WideWord → Type 0
Finishes {k = k} p room ws rest = (us more : List WideWord) × (x : WideOf k) × Alike rest more ws us × Loose p room us x []

-- the words left follow the bracket before the plan, or a bracket or question mark in place of which some words
-- complete the plan
abbrev pub Opening : (b : Bool) {k : WideKind} → WidePlan b k → ℕ → List WideWord → List WideWord → Type 0
Opening b p room ws rest = ((b ≡ true) × (ws ≡ rest)) ⊎ ((w : WideWord) × (opens w ≡ true) × Finishes p room ws (w ∷ rest))

-- the words before a refusal can be extended to the plan's end
abbrev pub Ended : (b : Bool) {k : WideKind} → WidePlan b k → ℕ → List WideWord → WideCause → Type 0
Ended b p room ws (Misfit rest) = Finishes p room ws rest
Ended b p room ws (Deep rest) = Finishes p (suc room) ws rest × Opening b p room ws rest

-- a refusal of a plan inside another
raised : {b c : Bool} {j k : WideKind} {p : WidePlan b j} {q : WidePlan c k} {room other : ℕ} {ws us : List WideWord} (e : WideCause)
    → ((by : Bool) (cut : List WideWord) → Finishes q (extra by other) us cut → Finishes p (extra by room) ws cut)
    → ((rest : List WideWord) → c ≡ true → us ≡ rest → Opening b p room ws rest) → Ended c q other us e → Ended b p room ws e
raised (Misfit rest) f own d = f false rest d
raised (Deep rest) f own d =
    (f true rest d.0, elim d.1 [ inl x ↦ own rest x.0 x.1 | inr x ↦ inr (x.0, x.1, f false (x.0 ∷ rest) x.2) ])

-- more words after an end
ahead : {x y ws us vs xs : List WideWord} → Alike x y ws us → Alike [] vs us xs → (more : List WideWord) × Alike x more ws xs
ahead same b = (_, same)
ahead (down a) (down b) = let t = ahead a b in (t.0, down t.1)

afresh : {k : WideKind} {p : WidePlan false k} (room : ℕ) (ws : List WideWord) → Ends p room → Finishes p room ws ws
afresh room ws t = (t.0, t.0, t.1, same, t.2)

no_bracket : {P : Type 0} → false ≡ true → P
no_bracket e = absurd cc

-- some words are the plan's phrase, unless a bracket precedes it
abbrev EndsHere : (b : Bool) {k : WideKind} → WidePlan b k → Type 0
EndsHere true p = Unit {0}
EndsHere false p = (room : ℕ) → Ends p room

step_ends : {b : Bool} {k : WideKind} (s : WideReadStep b k) → Stood s → EndsHere b (go s)
step_ends {b = true} s h = tt
step_ends {b = false} s h = ends s h

-- after a refusal by q the words before it can be extended to the end of p, if each phrase of q is one of p
ended_by : {b : Bool} {k : WideKind} {p q : WidePlan b k} {room : ℕ} {ws : List WideWord} {e : WideCause}
    → ((n : ℕ) (us : List WideWord) (x : WideOf k) → Loose q n us x [] → Loose p n us x []) → EndsHere b p → Whole b k q → WidePlanRuns q room ws (Refused e)
    → Ended b p room ws e
ended_by f here at_done r = elim r [ ]
ended_by f here (at_step {s = s} h) (runs.goes r) = ended_by (λ n us x d. f n us x (goes d)) here (plan_whole s h) r
ended_by {room = room} {e = e} f here (at_call {s = s} h g) (runs.fails r) =
    raised e (λ by cut d.
    let t = whole_end (g d.2) (extra by room) in
    let v = carried d.4 t.0 in
    let a = ahead d.3 v.1 in
    (v.0, a.0, t.1, a.1, f _ _ _ (calls d.2 v.2 t.2)))
    (λ rest before i. inl (before, i)) (ended_by (λ n us x d. d) (step_ends s h) (at_step h) r)
ended_by {room = room} {e = e} f here (at_call h g) (runs.calls x r t) =
    raised e (λ by cut d. let u = carried (wide (loosely r) (extra by room) (enough by room)) d.0 in (u.0, d.1, d.2, over d.3 u.1, f _ _ _ (calls x u.2 d.4)))
    (λ rest before i. no_bracket before) (ended_by (λ n us y d. d) (whole_end (g x)) (g x) t)
ended_by {e = e} f here (at_last j g) (runs.found {w = w} {x = x} i r) =
    raised e (λ by cut d. (w ∷ d.0, d.1, d.2, down d.3, f _ _ _ (found i d.4)))
    (λ rest before i. no_bracket before) (ended_by (λ n us y d. d) (whole_end (g x)) (g x) r)
ended_by {room = room} {ws = ws} f here (at_last j g) (runs.missing n runs.unfit) = afresh room ws (here room)
ended_by {e = e} f here (at_look g p) (runs.found {w = w} {x = x} i r) =
    raised e (λ by cut d. (w ∷ d.0, d.1, d.2, down d.3, f _ _ _ (found i d.4)))
    (λ rest before i. no_bracket before) (ended_by (λ n us y d. d) (whole_end (g x)) (g x) r)
ended_by f here (at_look g p) (runs.missing n r) = ended_by (λ n us x d. f n us x (skips d)) here p r
ended_by {room = room} {e = e} f here (at_bracket p q) (runs.enters {m = m} {e = o} {ws = ws} r) =
    raised e (λ by cut d. (mark m ∷ d.0, d.1, d.2, down d.3, f _ _ _ (enters d.4)))
    (λ rest before i. inr (mark m, o, rw (← i) (afresh room (mark m ∷ ws) (here room)))) (ended_by (λ n us y d. d) tt p r)
ended_by f here (at_bracket p q) (runs.passes n r) = ended_by (λ n us x d. f n us x (passes d)) here q r
ended_by {e = e} f here (within p) (runs.opened {room = inner} r) =
    raised e (λ by cut d. (d.0, d.1, d.2, d.3, rw (extra_inner by inner) (f _ _ _ (opened d.4))))
    (λ rest before i. no_bracket before) (ended_by (λ n us y d. d) (whole_end p) p r)
ended_by f here (within p) (runs.full {ws = ws}) =
    let t = whole_end p 0 in ((t.0, t.0, t.1, same, f _ _ _ (opened t.2)), inl (refl, refl))

pub ended : {room : ℕ} {ws : List WideWord} {e : WideCause} → WideStepReads (Row Expression) room ws (Refused e) → Ended false (go (Row Expression)) room ws e
ended r = ended_by (λ n us x d. d) (ends (Row Expression) tt) (at_step tt) r
