-- What the reader reads is derived by the grammar.
use Rattle.cel_reader.proofs.Prelude.{◌≡◌, ℕ, suc, List, [], ◌∷◌, ◌++◌, Bool, false, true, ◌⊎◌, inl, inr, refl, Word, name, mark, Mark, Colon, Dot, Comma, OpenParen, CloseParen, OpenBracket, CloseBracket, OpenBrace, Tree, trees, entries, is_identifier, is_selector, Look, FoundBy, Is, opens_mark, this_mark, this_one, this_name, this_literal, this_operator, Closes, closing_mark, Class, Expression, Infix, Unary, Prefixed, Member, Primary, Items, OptionalItems, Pairs, OptionalPairs, One, Phrase, Many, Keyed, OptionalComma, Derives, Kind, Of, Step, Row, Tail, Suffix, Selection, Enclosed, Listed, Item, Behind, Mapped, Entry, BehindEntry, Plan, done, go, call, look, enter, inside, plan, Closing, Call, Map}
use Rattle.cel_reader.specs.Tree as tree
use Rattle.cel_reader.specs.Grammar as derives
use Rattle.cel_reader.specs.declared.closing.Closing.TheVariants.{List as ListLiteral}
use Rattle.cel_reader.specs.declared.operator.UnaryOperator.TheVariants as unary
use Rattle.cel_reader.proofs.Loose.{Loose}
use Rattle.cel_reader.proofs.Loose as loose

-- the parts of a list from `start` on so far; the next one begins at `ws`
abbrev PartsBefore : {X : Type 0} → Class → (List X → Phrase) → ℕ → List Word → List X → List Word → Type 0
PartsBefore c seen room start xs ws = ((xs ≡ []) × (start ≡ ws)) ⊎ Derives c room start (seen xs) (mark Comma ∷ ws)

-- the parts up to an end, followed by the closing mark
abbrev PartsEnd : {X : Type 0} → Class → (List X → Phrase) → Closing → ℕ → List Word → List X → List Word → Type 0
PartsEnd c seen closing room start xs rest = (end : List Word) × Derives c room start (seen xs) end × Closes closing end rest

-- the result of a step in terms of the grammar; after the first part of a phrase, the derivation is extended
abbrev pub Sound : {b : Bool} {k : Kind} → Step b k → ℕ → List Word → Of k → List Word → Type 0
Sound (Row c) room ws a rest = Derives c room ws (One a) rest
Sound (Tail l left) room ws a rest = (start : List Word) → Derives (Infix l) room start (One left) ws → Derives (Infix l) room start (One a) rest
Sound (Suffix left) room ws a rest = (start : List Word) → Derives Member room start (One left) ws → Derives Member room start (One a) rest
Sound (Selection left) room ws a rest = (start : List Word) → Derives Member room start (One left) (mark Dot ∷ ws) → Derives Member room start (One a) rest
Sound (Enclosed m) room ws a rest = (inner : ℕ) × (room ≡ suc inner) × Derives Expression inner ws (One a) (mark m ∷ rest)
Sound (Listed c) room ws items rest = (inner : ℕ) × (room ≡ suc inner) × PartsEnd OptionalItems Many c inner ws items rest
Sound (Item c before) room ws items rest = (start : List Word) → PartsBefore Items Many room start before ws → PartsEnd Items Many c room start items rest
Sound (Behind c before) room ws items rest = (start : List Word) → Derives Items room start (Many before) ws → PartsEnd Items Many c room start items rest
Sound Mapped room ws pairs rest = (inner : ℕ) × (room ≡ suc inner) × PartsEnd OptionalPairs Keyed Map inner ws pairs rest
Sound (Entry before) room ws pairs rest = (start : List Word) → PartsBefore Pairs Keyed room start before ws → PartsEnd Pairs Keyed Map room start pairs rest
Sound (BehindEntry before) room ws pairs rest = (start : List Word) → Derives Pairs room start (Keyed before) ws → PartsEnd Pairs Keyed Map room start pairs rest

-- arguments end without a comma
ends_call : (ws rest : List Word) → Closes Call ws rest → ws ≡ mark (closing_mark Call) ∷ rest
ends_call ws rest (inl e) = e
ends_call ws rest (inr p) = absurd (let e : false ≡ true = p.0 in cc)

ends_list : (c : Closing) (ws rest : List Word) → Closes c ws rest → OptionalComma ws (mark (closing_mark c) ∷ rest)
ends_list c ws rest (inl e) = inl e
ends_list c ws rest (inr p) = inr p.1

-- one more item
item_added : (room : ℕ) (start ws us : List Word) (items : List Tree) (a : Tree) → PartsBefore Items Many room start items ws → Derives Expression room ws (One a) us
    → Derives Items room start (Many (items ++ a ∷ [])) us
item_added room start ws us items a (inl p) d = rw (p.0, p.1) (derives.first_item d)
item_added room start ws us items a (inr before) d = derives.next_item before d

-- one more entry
pair_added : (room : ℕ) (start ws us vs : List Word) (pairs : List (Tree × Tree)) (a b : Tree) → PartsBefore Pairs Keyed room start pairs ws
    → Derives Expression room ws (One a) (mark Colon ∷ us) → Derives Expression room us (One b) vs → Derives Pairs room start (Keyed (pairs ++ (a, b) ∷ [])) vs
pair_added room start ws us vs pairs a b (inl p) d e = rw (p.0, p.1) (derives.first_pair d e)
pair_added room start ws us vs pairs a b (inr before) d e = derives.next_pair before d e

-- phrases with brackets
module _ {room : ℕ} {us rest : List Word} where
  indexed : {start : List Word} {a b : Tree} → Derives Member room start (One a) (mark OpenBracket ∷ us) → Sound (Enclosed CloseBracket) room us b rest
      → Derives Member room start (One (tree.index a b)) rest
  indexed d x = rw x.1 (derives.indexing (rw x.1 at d) x.2)

  method_called : {start : List Word} {a : Tree} {n : List ℕ} {items : List Tree} → is_selector n ≡ true
      → Derives Member room start (One a) (mark Dot ∷ name n ∷ mark OpenParen ∷ us) → Sound (Listed Call) room us items rest
      → Derives Member room start (One (tree.method a n (trees items))) rest
  method_called is d x = rw x.1 (derives.method_call is (rw x.1 at d) (rw (ends_call x.2.0 rest x.2.2) at x.2.1))

  called : {n : List ℕ} {items : List Tree} → is_identifier n ≡ true → Sound (Listed Call) room us items rest
      → Derives Primary room (name n ∷ mark OpenParen ∷ us) (One (tree.call n (trees items))) rest
  called is x = rw x.1 (derives.function_call is (rw (ends_call x.2.0 rest x.2.2) at x.2.1))

  bracketed : {a : Tree} → Sound (Enclosed CloseParen) room us a rest → Derives Primary room (mark OpenParen ∷ us) (One a) rest
  bracketed x = rw x.1 (derives.bracket x.2)

  list_bracketed : {items : List Tree} → Sound (Listed ListLiteral) room us items rest
      → Derives Primary room (mark OpenBracket ∷ us) (One (tree.list (trees items))) rest
  list_bracketed x = rw x.1 (derives.list_literal x.2.1 (ends_list ListLiteral x.2.0 rest x.2.2))

  map_bracketed : {pairs : List (Tree × Tree)} → Sound Mapped room us pairs rest
      → Derives Primary room (mark OpenBrace ∷ us) (One (tree.map (entries pairs))) rest
  map_bracketed x = rw x.1 (derives.map_literal x.2.1 (ends_list Map x.2.0 rest x.2.2))

-- a plan with the results of its steps, in terms of the grammar
data Once : (b : Bool) (k : Kind) → Plan b k → ℕ → List Word → Of k → List Word → Type 0 where
  stands : {k : Kind} {x : Of k} {room : ℕ} {ws : List Word} → Once false k (done x) room ws x ws
  goes : {b : Bool} {k : Kind} {s : Step b k} {room : ℕ} {ws rest : List Word} {x : Of k} → Sound s room ws x rest → Once b k (go s) room ws x rest
  calls : {b : Bool} {j k : Kind} {s : Step b j} {f : Of j → Plan false k} {room : ℕ} {ws us rest : List Word} {y : Of k} (x : Of j)
      → Sound s room ws x us → Once false k (f x) room us y rest → Once b k (call s f) room ws y rest
  found : {k : Kind} {l : Look} {f : FoundBy l → Plan false k} {p : Plan false k} {room : ℕ} {w : Word} {ws rest : List Word} {x : FoundBy l} {y : Of k}
      → Is l w x → Once false k (f x) room ws y rest → Once false k (look l f p) room (w ∷ ws) y rest
  skips : {k : Kind} {l : Look} {f : FoundBy l → Plan false k} {p : Plan false k} {room : ℕ} {ws rest : List Word} {x : Of k}
      → Once false k p room ws x rest → Once false k (look l f p) room ws x rest
  enters : {k : Kind} {m : Mark} {e : opens_mark m ≡ true} {p : Plan true k} {q : Plan false k} {room : ℕ} {ws rest : List Word} {x : Of k}
      → Once true k p room ws x rest → Once false k (enter m e p q) room (mark m ∷ ws) x rest
  passes : {k : Kind} {m : Mark} {e : opens_mark m ≡ true} {p : Plan true k} {q : Plan false k} {room : ℕ} {ws rest : List Word} {x : Of k}
      → Once false k q room ws x rest → Once false k (enter m e p q) room ws x rest
  opened : {k : Kind} {p : Plan false k} {room : ℕ} {ws rest : List Word} {x : Of k} → Once false k p room ws x rest
      → Once true k (inside p) (suc room) ws x rest

abbrev Follows : {b : Bool} {k : Kind} → Step b k → Type 0
Follows {b} {k} s = (room : ℕ) (ws : List Word) (x : Of k) (rest : List Word) → Once b k (plan s) room ws x rest → Sound s room ws x rest

expression : Follows (Row Expression)
expression room ws x rest (calls a r (passes stands)) = derives.plain r
expression room ws x rest (calls a r (enters (opened (calls b s (found this_mark (calls c t stands)))))) = derives.conditional r s t
expression room ws x rest (calls a r (enters (opened (calls b s (skips d))))) = elim d [ ]

row : (c : Class) → Follows (Row c)
row Expression room ws x rest d = expression room ws x rest d
row (Infix l) room ws x rest (calls a r (goes t)) = t ws (derives.operand l r)
row Unary room ws x rest (found this_mark (calls a r stands)) = derives.prefixed unary.Not r
row Unary room ws x rest (skips (found this_mark (calls a r stands))) = derives.prefixed unary.Negate r
row Unary room ws x rest (skips (skips (goes r))) = derives.unprefixed r
row (Prefixed op) room ws x rest (found this_mark (calls a r stands)) = derives.next_prefix op r
row (Prefixed op) room ws x rest (skips (goes r)) = derives.last_prefix op r
row Member room ws x rest (calls a r (goes t)) = t ws (derives.whole r)
row Primary room ws x rest (enters (goes r)) = bracketed r
row Primary room ws x rest (passes (enters (calls items r stands))) = list_bracketed r
row Primary room ws x rest (passes (passes (enters (calls pairs r stands)))) = map_bracketed r
row Primary room ws x rest (passes (passes (passes (found (this_literal e) stands)))) = derives.constant e
row Primary room ws x rest (passes (passes (passes (skips (found (this_name is) (passes stands)))))) = derives.identifier is
row Primary room ws x rest (passes (passes (passes (skips (found (this_name is) (enters (calls items r stands))))))) = called is r
row Primary room ws x rest (passes (passes (passes (skips (skips d))))) = elim d [ ]
row _ room ws x rest d = elim d [ ]

suffix : (a : Tree) → Follows (Suffix a)
suffix a room ws x rest (skips (passes stands)) = λ start d. d
suffix a room ws x rest (found this_mark (calls b r (goes t))) = λ start d. t start (r start d)
suffix a room ws x rest (skips (enters (calls b r (goes t)))) = λ start d. t start (indexed d r)

selection : (a : Tree) → Follows (Selection a)
selection a room ws x rest (found (this_name is) (passes stands)) = λ start d. derives.selection is d
selection a room ws x rest (found (this_name is) (enters (calls items r stands))) = λ start d. method_called is d r
selection a room ws x rest (skips d) = elim d [ ]

items_listed : (c : Closing) → Follows (Listed c)
items_listed c room ws x rest (opened {room = inner} (found this_mark stands)) = (inner, refl, (_, derives.no_items, inl refl))
items_listed c room ws x rest (opened {room = inner} (skips (found (this_one t) (found this_mark stands)))) =
    (inner, refl, (_, derives.no_items, inr (t, refl)))
items_listed c room ws x rest (opened (skips (found t (skips d)))) = elim d [ ]
items_listed c room ws x rest (opened {room = inner} (skips (skips (goes r)))) =
    let y = r ws (inl (refl, refl)) in (inner, refl, (y.0, derives.some_items y.1, y.2))

items_behind : (c : Closing) (items : List Tree) → Follows (Behind c items)
items_behind c items room ws x rest (found this_mark stands) = λ start d. (_, d, inl refl)
items_behind c items room ws x rest (skips (found this_mark (found (this_one t) stands))) = λ start d. (_, d, inr (t, refl))
items_behind c items room ws x rest (skips (found this_mark (skips (goes r)))) = λ start d. r start (inr d)
items_behind c items room ws x rest (skips (skips d)) = elim d [ ]

pairs_listed : Follows Mapped
pairs_listed room ws x rest (opened {room = inner} (found this_mark stands)) = (inner, refl, (_, derives.no_pairs, inl refl))
pairs_listed room ws x rest (opened {room = inner} (skips (found (this_one t) (found this_mark stands)))) =
    (inner, refl, (_, derives.no_pairs, inr (t, refl)))
pairs_listed room ws x rest (opened (skips (found t (skips d)))) = elim d [ ]
pairs_listed room ws x rest (opened {room = inner} (skips (skips (goes r)))) =
    let y = r ws (inl (refl, refl)) in (inner, refl, (y.0, derives.some_pairs y.1, y.2))

pairs_behind : (pairs : List (Tree × Tree)) → Follows (BehindEntry pairs)
pairs_behind pairs room ws x rest (found this_mark stands) = λ start d. (_, d, inl refl)
pairs_behind pairs room ws x rest (skips (found this_mark (found (this_one t) stands))) = λ start d. (_, d, inr (t, refl))
pairs_behind pairs room ws x rest (skips (found this_mark (skips (goes r)))) = λ start d. r start (inr d)
pairs_behind pairs room ws x rest (skips (skips d)) = elim d [ ]

follows : {b : Bool} {k : Kind} (s : Step b k) → Follows s
follows (Row c) room ws x rest d = row c room ws x rest d
follows (Tail l a) room ws x rest (skips stands) = λ start d. d
follows (Tail l a) room ws x rest (found (this_operator {op = op} e f) (calls b r (goes t))) = λ start d. t start (derives.operation op e f d r)
follows (Suffix a) room ws x rest d = suffix a room ws x rest d
follows (Selection a) room ws x rest d = selection a room ws x rest d
follows (Enclosed m) room ws x rest (opened {room = inner} (calls a r (found this_mark stands))) = (inner, refl, r)
follows (Enclosed m) room ws x rest (opened (calls a r (skips d))) = elim d [ ]
follows (Listed c) room ws x rest d = items_listed c room ws x rest d
follows (Item c items) room ws x rest (calls {us = us} a r (goes t)) = λ start before. t start (item_added room start ws us items a before r)
follows (Behind c items) room ws x rest d = items_behind c items room ws x rest d
follows Mapped room ws x rest d = pairs_listed room ws x rest d
follows (Entry pairs) room ws x rest (calls a r (found {ws = us} this_mark (calls {us = vs} b s (goes t)))) =
    λ start before. t start (pair_added room start ws us vs pairs a b before r s)
follows (Entry pairs) room ws x rest (calls a r (skips d)) = elim d [ ]
follows (BehindEntry pairs) room ws x rest d = pairs_behind pairs room ws x rest d

of_step : {b : Bool} {k : Kind} {s : Step b k} {room : ℕ} {ws rest : List Word} {x : Of k} → Once b k (go s) room ws x rest → Sound s room ws x rest
of_step (goes r) = r

once : {b : Bool} {k : Kind} {p : Plan b k} {room : ℕ} {ws rest : List Word} {x : Of k} → Loose p room ws x rest → Once b k p room ws x rest
once loose.stands = stands
once (loose.goes {s = s} d) = goes (follows s _ _ _ _ (once d))
once (loose.calls x d e) = calls x (of_step (once d)) (once e)
once (loose.found i d) = found i (once d)
once (loose.skips d) = skips (once d)
once (loose.enters d) = enters (once d)
once (loose.passes d) = passes (once d)
once (loose.opened d) = opened (once d)

pub sound : {b : Bool} {k : Kind} {s : Step b k} {room : ℕ} {ws rest : List Word} {x : Of k} → Loose (go s) room ws x rest → Sound s room ws x rest
sound d = of_step (once d)
