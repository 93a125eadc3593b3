-- What the reader reads is derived by the grammar.
use Rattle.wide_reader.proofs.Prelude.{◌≡◌, ℕ, suc, List, [], ◌∷◌, ◌++◌, Bool, false, true, ◌⊎◌, inl, inr, refl, WideWord, name, mark, Mark, Colon, Dot, Comma, OpenParen, CloseParen, OpenBracket, OpenBrace, Wide, wides, items, entries, is_identifier, is_selector, WideLook, WideFoundBy, WideIs, opens_mark, this_mark, this_one, this_name, this_quoted, this_literal, this_operator, WideCloses, closing_mark, WideClass, Expression, Infix, Unary, Prefixed, Member, Primary, Arguments, OptionalArguments, Items, OptionalItems, Pairs, OptionalPairs, One, WidePhrase, Many, Listed, Keyed, WideOptionalComma, Marked, WideDerives, WideKind, WideOf, WideReadStep, Row, Tail, Suffix, Selection, Indexed, Enclosed, Called, Argument, BehindArgument, Bracketed, Item, BehindItem, Mapped, Entry, BehindEntry, WidePlan, done, whole, go, call, look, enter, inside, plan, Closing, Call, Map, Access, Plain, Optional, method_of, call_of}
use Rattle.wide_reader.specs.Tree as tree
use Rattle.wide_reader.specs.Grammar as derives
use Rattle.wide_reader.specs.declared.closing.Closing.TheVariants.{List as ListLiteral}
use Rattle.cel_reader.specs.declared.operator.UnaryOperator.TheVariants as unary
use Rattle.wide_reader.proofs.Loose.{Loose}
use Rattle.wide_reader.proofs.Loose as loose

-- the parts of a list from `start` on so far; the next one begins at `ws`
abbrev PartsBefore : {X : Type 0} → WideClass → (List X → WidePhrase) → ℕ → List WideWord → List X → List WideWord → Type 0
PartsBefore c seen room start xs ws = ((xs ≡ []) × (start ≡ ws)) ⊎ WideDerives c room start (seen xs) (mark Comma ∷ ws)

-- the parts up to an end, followed by the closing mark
abbrev PartsEnd : {X : Type 0} → WideClass → (List X → WidePhrase) → Closing → ℕ → List WideWord → List X → List WideWord → Type 0
PartsEnd c seen closing room start xs rest = (end : List WideWord) × WideDerives c room start (seen xs) end × WideCloses closing end rest

-- the result of a step in terms of the grammar; after the first part of a phrase, the derivation is extended
abbrev pub Sound : {b : Bool} {k : WideKind} → WideReadStep b k → ℕ → List WideWord → WideOf k → List WideWord → Type 0
Sound (Row c) room ws a rest = WideDerives c room ws (One a) rest
Sound (Tail l left) room ws a rest = (start : List WideWord) → WideDerives (Infix l) room start (One left) ws → WideDerives (Infix l) room start (One a) rest
Sound (Suffix left) room ws a rest = (start : List WideWord) → WideDerives Member room start (One left) ws → WideDerives Member room start (One a) rest
Sound (Selection left) room ws a rest = (start : List WideWord) → WideDerives Member room start (One left) (mark Dot ∷ ws) → WideDerives Member room start (One a) rest
Sound (Indexed left) room ws a rest = (start : List WideWord) → WideDerives Member room start (One left) (mark OpenBracket ∷ ws) → WideDerives Member room start (One a) rest
Sound Enclosed room ws a rest = (inner : ℕ) × (room ≡ suc inner) × WideDerives Expression inner ws (One a) (mark CloseParen ∷ rest)
Sound Called room ws more rest = (inner : ℕ) × (room ≡ suc inner) × PartsEnd OptionalArguments Many Call inner ws more rest
Sound (Argument before) room ws more rest = (start : List WideWord) → PartsBefore Arguments Many room start before ws → PartsEnd Arguments Many Call room start more rest
Sound (BehindArgument before) room ws more rest = (start : List WideWord) → WideDerives Arguments room start (Many before) ws → PartsEnd Arguments Many Call room start more rest
Sound Bracketed room ws more rest = (inner : ℕ) × (room ≡ suc inner) × PartsEnd OptionalItems Listed ListLiteral inner ws more rest
Sound (Item before) room ws more rest = (start : List WideWord) → PartsBefore Items Listed room start before ws → PartsEnd Items Listed ListLiteral room start more rest
Sound (BehindItem before) room ws more rest = (start : List WideWord) → WideDerives Items room start (Listed before) ws → PartsEnd Items Listed ListLiteral room start more rest
Sound Mapped room ws pairs rest = (inner : ℕ) × (room ≡ suc inner) × PartsEnd OptionalPairs Keyed Map inner ws pairs rest
Sound (Entry before) room ws pairs rest = (start : List WideWord) → PartsBefore Pairs Keyed room start before ws → PartsEnd Pairs Keyed Map room start pairs rest
Sound (BehindEntry before) room ws pairs rest = (start : List WideWord) → WideDerives Pairs room start (Keyed before) ws → PartsEnd Pairs Keyed Map room start pairs rest

-- arguments end without a comma
ends_call : (ws rest : List WideWord) → WideCloses Call ws rest → ws ≡ mark (closing_mark Call) ∷ rest
ends_call ws rest (inl e) = e
ends_call ws rest (inr p) = absurd (let e : false ≡ true = p.0 in cc)

ends_list : (c : Closing) (ws rest : List WideWord) → WideCloses c ws rest → WideOptionalComma ws (mark (closing_mark c) ∷ rest)
ends_list c ws rest (inl e) = inl e
ends_list c ws rest (inr p) = inr p.1

-- one more argument
argument_added : (room : ℕ) (start ws us : List WideWord) (more : List Wide) (a : Wide) → PartsBefore Arguments Many room start more ws → WideDerives Expression room ws (One a) us
    → WideDerives Arguments room start (Many (more ++ a ∷ [])) us
argument_added room start ws us more a (inl p) d = rw (p.0, p.1) (derives.first_argument d)
argument_added room start ws us more a (inr before) d = derives.next_argument before d

-- one more item
item_added : (room : ℕ) (start ws us vs : List WideWord) (more : List (Access × Wide)) (o : Access) (a : Wide) → PartsBefore Items Listed room start more ws → Marked o ws us
    → WideDerives Expression room us (One a) vs → WideDerives Items room start (Listed (more ++ (o, a) ∷ [])) vs
item_added room start ws us vs more o a (inl p) m d = rw (p.0, p.1) (derives.first_item o m d)
item_added room start ws us vs more o a (inr before) m d = derives.next_item o before m d

-- one more entry
pair_added : (room : ℕ) (start ws us vs xs : List WideWord) (pairs : List (Access × Wide × Wide)) (o : Access) (a b : Wide) → PartsBefore Pairs Keyed room start pairs ws
    → Marked o ws us → WideDerives Expression room us (One a) (mark Colon ∷ vs) → WideDerives Expression room vs (One b) xs
    → WideDerives Pairs room start (Keyed (pairs ++ (o, a, b) ∷ [])) xs
pair_added room start ws us vs xs pairs o a b (inl p) m d e = rw (p.0, p.1) (derives.first_pair o m d e)
pair_added room start ws us vs xs pairs o a b (inr before) m d e = derives.next_pair o before m d e

-- phrases with brackets
module _ {room : ℕ} {us rest : List WideWord} where
  method_called : {start : List WideWord} {a : Wide} {n : List ℕ} {more : List Wide} → is_selector n ≡ true
      → WideDerives Member room start (One a) (mark Dot ∷ name n ∷ mark OpenParen ∷ us) → Sound Called room us more rest
      → WideDerives Member room start (One (method_of a n (wides more))) rest
  method_called is d x = rw x.1 (derives.method_call is (rw x.1 at d) (rw (ends_call x.2.0 rest x.2.2) at x.2.1))

  called : {n : List ℕ} {more : List Wide} → is_identifier n ≡ true → Sound Called room us more rest
      → WideDerives Primary room (name n ∷ mark OpenParen ∷ us) (One (call_of n (wides more))) rest
  called is x = rw x.1 (derives.function_call is (rw (ends_call x.2.0 rest x.2.2) at x.2.1))

  root_called : {n : List ℕ} {more : List Wide} → is_identifier n ≡ true → Sound Called room us more rest
      → WideDerives Primary room (mark Dot ∷ name n ∷ mark OpenParen ∷ us) (One (call_of n (wides more))) rest
  root_called is x = rw x.1 (derives.root_call is (rw (ends_call x.2.0 rest x.2.2) at x.2.1))

  bracketed : {a : Wide} → Sound Enclosed room us a rest → WideDerives Primary room (mark OpenParen ∷ us) (One a) rest
  bracketed x = rw x.1 (derives.bracket x.2)

  list_bracketed : {more : List (Access × Wide)} → Sound Bracketed room us more rest
      → WideDerives Primary room (mark OpenBracket ∷ us) (One (tree.list (items more))) rest
  list_bracketed x = rw x.1 (derives.list_literal x.2.1 (ends_list ListLiteral x.2.0 rest x.2.2))

  map_bracketed : {pairs : List (Access × Wide × Wide)} → Sound Mapped room us pairs rest
      → WideDerives Primary room (mark OpenBrace ∷ us) (One (tree.map (entries pairs))) rest
  map_bracketed x = rw x.1 (derives.map_literal x.2.1 (ends_list Map x.2.0 rest x.2.2))

-- a plan with the results of its steps, in terms of the grammar
data Once : (b : Bool) (k : WideKind) → WidePlan b k → ℕ → List WideWord → WideOf k → List WideWord → Type 0 where
  stands : {k : WideKind} {x : WideOf k} {room : ℕ} {ws : List WideWord} → Once false k (done x) room ws x ws
  goes : {b : Bool} {k : WideKind} {s : WideReadStep b k} {room : ℕ} {ws rest : List WideWord} {x : WideOf k} → Sound s room ws x rest → Once b k (go s) room ws x rest
  calls : {b : Bool} {j k : WideKind} {s : WideReadStep b j} {f : WideOf j → WidePlan false k} {room : ℕ} {ws us rest : List WideWord} {y : WideOf k} (x : WideOf j)
      → Sound s room ws x us → Once false k (f x) room us y rest → Once b k (call s f) room ws y rest
  found : {k : WideKind} {l : WideLook} {f : WideFoundBy l → WidePlan false k} {p : WidePlan false k} {room : ℕ} {w : WideWord} {ws rest : List WideWord} {x : WideFoundBy l} {y : WideOf k}
      → WideIs l w x → Once false k (f x) room ws y rest → Once false k (look l f p) room (w ∷ ws) y rest
  skips : {k : WideKind} {l : WideLook} {f : WideFoundBy l → WidePlan false k} {p : WidePlan false k} {room : ℕ} {ws rest : List WideWord} {x : WideOf k}
      → Once false k p room ws x rest → Once false k (look l f p) room ws x rest
  enters : {k : WideKind} {m : Mark} {e : opens_mark m ≡ true} {p : WidePlan true k} {q : WidePlan false k} {room : ℕ} {ws rest : List WideWord} {x : WideOf k}
      → Once true k p room ws x rest → Once false k (enter m e p q) room (mark m ∷ ws) x rest
  passes : {k : WideKind} {m : Mark} {e : opens_mark m ≡ true} {p : WidePlan true k} {q : WidePlan false k} {room : ℕ} {ws rest : List WideWord} {x : WideOf k}
      → Once false k q room ws x rest → Once false k (enter m e p q) room ws x rest
  opened : {k : WideKind} {p : WidePlan false k} {room : ℕ} {ws rest : List WideWord} {x : WideOf k} → Once false k p room ws x rest
      → Once true k (inside p) (suc room) ws x rest

-- a plan that is done with this expression
ended : {c : WideClass} {room other : ℕ} {start us rest : List WideWord} {x y : Wide} → Once false whole (done y) other us x rest
    → WideDerives c room start (One y) us → WideDerives c room start (One x) rest
ended stands d = d

abbrev Follows : {b : Bool} {k : WideKind} → WideReadStep b k → Type 0
Follows {b} {k} s = (room : ℕ) (ws : List WideWord) (x : WideOf k) (rest : List WideWord) → Once b k (plan s) room ws x rest → Sound s room ws x rest

expression : Follows (Row Expression)
expression room ws x rest (calls a r (passes stands)) = derives.plain r
expression room ws x rest (calls a r (enters (opened (calls b s (found this_mark (calls c t stands)))))) = derives.conditional r s t
expression room ws x rest (calls a r (enters (opened (calls b s (skips d))))) = elim d [ ]

row : (c : WideClass) → Follows (Row c)
row Expression room ws x rest d = expression room ws x rest d
row (Infix l) room ws x rest (calls a r (goes t)) = t ws (derives.operand l r)
row Unary room ws x rest (found this_mark (goes r)) = derives.prefixed unary.Not r
row Unary room ws x rest (skips (found this_mark (goes r))) = derives.prefixed unary.Negate r
row Unary room ws x rest (skips (skips (goes r))) = derives.unprefixed r
row (Prefixed op odd) room ws x rest (found this_mark (goes r)) = derives.next_prefix op odd r
row (Prefixed op odd) room ws x rest (skips (calls a r stands)) = derives.last_prefix op odd r
row Member room ws x rest (calls a r (goes t)) = t ws (derives.whole r)
row Primary room ws x rest (enters (goes r)) = bracketed r
row Primary room ws x rest (passes (enters (calls more r stands))) = list_bracketed r
row Primary room ws x rest (passes (passes (enters (calls pairs r stands)))) = map_bracketed r
row Primary room ws x rest (passes (passes (passes (found (this_literal e) stands)))) = derives.constant e
row Primary room ws x rest (passes (passes (passes (skips (found this_mark (found (this_name is) (passes stands))))))) = derives.root is
row Primary room ws x rest (passes (passes (passes (skips (found this_mark (found (this_name is) (enters (calls more r e)))))))) = ended e (root_called is r)
row Primary room ws x rest (passes (passes (passes (skips (found this_mark (skips d)))))) = elim d [ ]
row Primary room ws x rest (passes (passes (passes (skips (skips (found (this_name is) (passes stands))))))) = derives.identifier is
row Primary room ws x rest (passes (passes (passes (skips (skips (found (this_name is) (enters (calls more r e)))))))) = ended e (called is r)
row Primary room ws x rest (passes (passes (passes (skips (skips (skips d)))))) = elim d [ ]
row _ room ws x rest d = elim d [ ]

suffix : (a : Wide) → Follows (Suffix a)
suffix a room ws x rest (skips (passes stands)) = λ start d. d
suffix a room ws x rest (found this_mark (calls b r (goes t))) = λ start d. t start (r start d)
suffix a room ws x rest (skips (enters (calls b r (goes t)))) = λ start d. t start (r start d)

selection : (a : Wide) → Follows (Selection a)
selection a room ws x rest (found this_mark (found (this_name is) stands)) = λ start d. derives.optional_selection is d
selection a room ws x rest (found this_mark (skips (found (this_quoted is) stands))) = λ start d. derives.optional_quoted_selection is d
selection a room ws x rest (found this_mark (skips (skips d))) = elim d [ ]
selection a room ws x rest (skips (found (this_name is) (passes stands))) = λ start d. derives.selection is d
selection a room ws x rest (skips (found (this_name is) (enters (calls more r e)))) = λ start d. ended e (method_called is d r)
selection a room ws x rest (skips (skips (found (this_quoted is) stands))) = λ start d. derives.quoted_selection is d
selection a room ws x rest (skips (skips (skips d))) = elim d [ ]

indexed : (a : Wide) → Follows (Indexed a)
indexed a room ws x rest (opened (found this_mark (calls b r (found this_mark stands)))) = λ start d. derives.indexing Optional d refl r
indexed a room ws x rest (opened (found this_mark (calls b r (skips d)))) = elim d [ ]
indexed a room ws x rest (opened (skips (calls b r (found this_mark stands)))) = λ start d. derives.indexing Plain d refl r
indexed a room ws x rest (opened (skips (calls b r (skips d)))) = elim d [ ]

arguments_called : Follows Called
arguments_called room ws x rest (opened {room = inner} (found this_mark stands)) = (inner, refl, (_, derives.no_arguments, inl refl))
arguments_called room ws x rest (opened {room = inner} (skips (found (this_one t) (found this_mark stands)))) =
    (inner, refl, (_, derives.no_arguments, inr (t, refl)))
arguments_called room ws x rest (opened (skips (found t (skips d)))) = elim d [ ]
arguments_called room ws x rest (opened {room = inner} (skips (skips (goes r)))) =
    let y = r ws (inl (refl, refl)) in (inner, refl, (y.0, derives.some_arguments y.1, y.2))

behind_argument : (before : List Wide) → Follows (BehindArgument before)
behind_argument before room ws x rest (found this_mark stands) = λ start d. (_, d, inl refl)
behind_argument before room ws x rest (skips (found this_mark (found (this_one t) stands))) = λ start d. (_, d, inr (t, refl))
behind_argument before room ws x rest (skips (found this_mark (skips (goes r)))) = λ start d. r start (inr d)
behind_argument before room ws x rest (skips (skips d)) = elim d [ ]

items_listed : Follows Bracketed
items_listed room ws x rest (opened {room = inner} (found this_mark stands)) = (inner, refl, (_, derives.no_items, inl refl))
items_listed room ws x rest (opened {room = inner} (skips (found (this_one t) (found this_mark stands)))) =
    (inner, refl, (_, derives.no_items, inr (t, refl)))
items_listed room ws x rest (opened (skips (found t (skips d)))) = elim d [ ]
items_listed room ws x rest (opened {room = inner} (skips (skips (goes r)))) =
    let y = r ws (inl (refl, refl)) in (inner, refl, (y.0, derives.some_items y.1, y.2))

item_behind : (before : List (Access × Wide)) → Follows (BehindItem before)
item_behind before room ws x rest (found this_mark stands) = λ start d. (_, d, inl refl)
item_behind before room ws x rest (skips (found this_mark (found (this_one t) stands))) = λ start d. (_, d, inr (t, refl))
item_behind before room ws x rest (skips (found this_mark (skips (goes r)))) = λ start d. r start (inr d)
item_behind before room ws x rest (skips (skips d)) = elim d [ ]

item : (before : List (Access × Wide)) → Follows (Item before)
item before room ws x rest (found {ws = us} this_mark (calls {us = vs} a r (goes t))) = λ start b. t start (item_added room start ws us vs before Optional a b refl r)
item before room ws x rest (skips (calls {us = vs} a r (goes t))) = λ start b. t start (item_added room start ws ws vs before Plain a b refl r)

pairs_listed : Follows Mapped
pairs_listed room ws x rest (opened {room = inner} (found this_mark stands)) = (inner, refl, (_, derives.no_pairs, inl refl))
pairs_listed room ws x rest (opened {room = inner} (skips (found (this_one t) (found this_mark stands)))) =
    (inner, refl, (_, derives.no_pairs, inr (t, refl)))
pairs_listed room ws x rest (opened (skips (found t (skips d)))) = elim d [ ]
pairs_listed room ws x rest (opened {room = inner} (skips (skips (goes r)))) =
    let y = r ws (inl (refl, refl)) in (inner, refl, (y.0, derives.some_pairs y.1, y.2))

pair_behind : (before : List (Access × Wide × Wide)) → Follows (BehindEntry before)
pair_behind before room ws x rest (found this_mark stands) = λ start d. (_, d, inl refl)
pair_behind before room ws x rest (skips (found this_mark (found (this_one t) stands))) = λ start d. (_, d, inr (t, refl))
pair_behind before room ws x rest (skips (found this_mark (skips (goes r)))) = λ start d. r start (inr d)
pair_behind before room ws x rest (skips (skips d)) = elim d [ ]

pair : (before : List (Access × Wide × Wide)) → Follows (Entry before)
pair before room ws x rest (found {ws = us} this_mark (calls a r (found {ws = vs} this_mark (calls {us = xs} b s (goes t))))) =
    λ start c. t start (pair_added room start ws us vs xs before Optional a b c refl r s)
pair before room ws x rest (found this_mark (calls a r (skips d))) = elim d [ ]
pair before room ws x rest (skips (calls a r (found {ws = vs} this_mark (calls {us = xs} b s (goes t))))) =
    λ start c. t start (pair_added room start ws ws vs xs before Plain a b c refl r s)
pair before room ws x rest (skips (calls a r (skips d))) = elim d [ ]

follows : {b : Bool} {k : WideKind} (s : WideReadStep b k) → Follows s
follows (Row c) room ws x rest d = row c room ws x rest d
follows (Tail l a) room ws x rest (skips stands) = λ start d. d
follows (Tail l a) room ws x rest (found (this_operator {op = op} e f) (calls b r (goes t))) = λ start d. t start (derives.operation op e f d r)
follows (Suffix a) room ws x rest d = suffix a room ws x rest d
follows (Selection a) room ws x rest d = selection a room ws x rest d
follows (Indexed a) room ws x rest d = indexed a room ws x rest d
follows Enclosed room ws x rest (opened {room = inner} (calls a r (found this_mark stands))) = (inner, refl, r)
follows Enclosed room ws x rest (opened (calls a r (skips d))) = elim d [ ]
follows Called room ws x rest d = arguments_called room ws x rest d
follows (Argument before) room ws x rest (calls {us = us} a r (goes t)) = λ start b. t start (argument_added room start ws us before a b r)
follows (BehindArgument before) room ws x rest d = behind_argument before room ws x rest d
follows Bracketed room ws x rest d = items_listed room ws x rest d
follows (Item before) room ws x rest d = item before room ws x rest d
follows (BehindItem before) room ws x rest d = item_behind before room ws x rest d
follows Mapped room ws x rest d = pairs_listed room ws x rest d
follows (Entry before) room ws x rest d = pair before room ws x rest d
follows (BehindEntry before) room ws x rest d = pair_behind before room ws x rest d

of_step : {b : Bool} {k : WideKind} {s : WideReadStep b k} {room : ℕ} {ws rest : List WideWord} {x : WideOf k} → Once b k (go s) room ws x rest → Sound s room ws x rest
of_step (goes r) = r

once : {b : Bool} {k : WideKind} {p : WidePlan b k} {room : ℕ} {ws rest : List WideWord} {x : WideOf k} → Loose p room ws x rest → Once b k p room ws x rest
once loose.stands = stands
once (loose.goes {s = s} d) = goes (follows s _ _ _ _ (once d))
once (loose.calls x d e) = calls x (of_step (once d)) (once e)
once (loose.found i d) = found i (once d)
once (loose.skips d) = skips (once d)
once (loose.enters d) = enters (once d)
once (loose.passes d) = passes (once d)
once (loose.opened d) = opened (once d)

pub sound : {b : Bool} {k : WideKind} {s : WideReadStep b k} {room : ℕ} {ws rest : List WideWord} {x : WideOf k} → Loose (go s) room ws x rest → Sound s room ws x rest
sound d = of_step (once d)
