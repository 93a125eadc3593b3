-- Every derived phrase is read by some run of the reader.
use Rattle.cel_reader.proofs.Prelude.{◌≡◌, ℕ, suc, List, [], ◌∷◌, Bool, true, false, ◌&&◌, Some, None, inl, inr, refl, arith, sym, ◌∙◌, ap, is_name, Word, name, mark, Mark, Question, Colon, Comma, OpenParen, Tree, Literal, trees, is_identifier, literal_of, at, operator, this_mark, this_name, this_literal, this_operator, IsNotNext, Closes, GoesOn, closing_mark, takes_comma, Class, Expression, Infix, Unary, Prefixed, Member, Primary, Items, OptionalItems, Pairs, OptionalPairs, Phrase, One, Many, Keyed, below, OptionalComma, Derives, ReadOutcome, Got, Row, Tail, Suffix, Listed, Item, Behind, Mapped, Entry, BehindEntry, maybe_call, PlanRuns, stands, goes, calls, found, missing, enters, passes, opened, StepReads, Level, Or, And, Relation, Sum, Product, Closing, Call, Map}
use Rattle.std.specs.Prelude.{◌||◌, not, codes, bytes_eq, if◌then◌else◌}
use Rattle.cel_reader.specs.Words.{is_reserved}
use Rattle.cel_reader.specs.Tree as tree
use Rattle.cel_reader.specs.Grammar as derives
use Rattle.cel_reader.specs.declared.closing.Closing.TheVariants.{List as ListLiteral}
use Rattle.cel_reader.specs.declared.operator.UnaryOperator.TheVariants as unary
use Rattle.cel_reader.proofs.FirstWords.{FirstIs, begins, first, goes_on, no_comma, no_prefix, mark_not_first, closing_not_first}
use Rattle.cel_reader.proofs.Lists.{comma_no_end, list_empty, list_goes, behind_ends, behind_goes}
use Rattle.cel_reader.proofs.Steps.{unary_goes}
use Rattle.cel_reader.proofs.Stops.{StopsExpression, StopsMember, Stops, ends_operand, ends_question, ends_colon, ends_comma, ends_closing, ends_list}

-- a run of the row, from a run of what follows its phrase
abbrev BuiltOne : Class → ℕ → List Word → Tree → List Word → Type 0
BuiltOne Expression room ws a rest = StopsExpression rest → StepReads (Row Expression) room ws (Got (One a) rest)
BuiltOne (Infix l) room ws a rest = (o : ReadOutcome) → Stops (below l) rest → StepReads (Tail l a) room rest o → StepReads (Row (Infix l)) room ws o
BuiltOne Unary room ws a rest = StopsMember rest → StepReads (Row Unary) room ws (Got (One a) rest)
BuiltOne (Prefixed op) room ws a rest = StopsMember rest → StepReads (Row (Prefixed op)) room ws (Got (One a) rest)
BuiltOne Member room ws a rest = (o : ReadOutcome) → IsNotNext (at OpenParen) rest → StepReads (Suffix a) room rest o → StepReads (Row Member) room ws o
BuiltOne Primary room ws a rest = IsNotNext (at OpenParen) rest → StepReads (Row Primary) room ws (Got (One a) rest)
BuiltOne other room ws a rest = Unit {0}

abbrev BuiltMany : Class → ℕ → List Word → List Tree → List Word → Type 0
BuiltMany Items room ws items rest = (c : Closing) (o : ReadOutcome) → StopsExpression rest → StepReads (Behind c items) room rest o → StepReads (Item c []) room ws o
BuiltMany OptionalItems room ws items rest = (c : Closing) (end : List Word) → Closes c rest end → StepReads (Listed c) (suc room) ws (Got (Many items) end)
BuiltMany other room ws items rest = Unit {0}

abbrev BuiltKeyed : Class → ℕ → List Word → List (Tree × Tree) → List Word → Type 0
BuiltKeyed Pairs room ws pairs rest = (o : ReadOutcome) → StopsExpression rest → StepReads (BehindEntry pairs) room rest o → StepReads (Entry []) room ws o
BuiltKeyed OptionalPairs room ws pairs rest = (end : List Word) → Closes Map rest end → StepReads Mapped (suc room) ws (Got (Keyed pairs) end)
BuiltKeyed other room ws pairs rest = Unit {0}

abbrev Built : Class → ℕ → List Word → Phrase → List Word → Type 0
Built c room ws (One a) rest = BuiltOne c room ws a rest
Built c room ws (Many items) rest = BuiltMany c room ws items rest
Built c room ws (Keyed pairs) rest = BuiltKeyed c room ws pairs rest

ended_infix : (l : Level) (room : ℕ) (ws rest : List Word) (a : Tree) → BuiltOne (Infix l) room ws a rest
    → IsNotNext (operator l) rest × Stops (below l) rest → StepReads (Row (Infix l)) room ws (Got (One a) rest)
ended_infix l room ws rest a f n = f (Got (One a) rest) n.1 (goes (missing n.0 stands))

ended_below : (l : Level) (room : ℕ) (ws rest : List Word) (a : Tree) → BuiltOne (below l) room ws a rest → Stops (below l) rest → StepReads (Row (below l)) room ws (Got (One a) rest)
ended_below Or room ws rest a f n = ended_infix And room ws rest a f n
ended_below And room ws rest a f n = ended_infix Relation room ws rest a f n
ended_below Relation room ws rest a f n = ended_infix Sum room ws rest a f n
ended_below Sum room ws rest a f n = ended_infix Product room ws rest a f n
ended_below Product room ws rest a f n = f n

ended_member : (room : ℕ) (ws rest : List Word) (a : Tree) → BuiltOne Member room ws a rest → StopsMember rest → StepReads (Row Member) room ws (Got (One a) rest)
ended_member room ws rest a f n = f (Got (One a) rest) n.2 (goes (missing n.0 (passes n.1 stands)))

-- a list does not end at a comma before an expression
comma_goes_on : (c : Closing) (us : List Word) → FirstIs begins us → GoesOn c (mark Comma ∷ us)
comma_goes_on c us here x (inl e) = comma_no_end c cc
comma_goes_on c us here x (inr p) = mark_not_first (closing_mark c) us x (closing_not_first c) here cc

closes_list : (c : Closing) (ws rest : List Word) → takes_comma c ≡ true → OptionalComma ws (mark (closing_mark c) ∷ rest) → Closes c ws rest
closes_list c ws rest takes (inl e) = inl e
closes_list c ws rest takes (inr e) = inr (takes, e)

literal_no_mark : (w : Word) (v : Literal) (m : Mark) → literal_of w ≡ Some v → w ≡ mark m → ⊥
literal_no_mark w v m e f = let g : None ≡ Some v = ap literal_of (sym f) ∙ e in cc

plain_by : (named t f u i r : Bool) → ((named && not (t || (f || (u || i)))) && not r) ≡ true
    → (if t then Some (tree.truth true) else (if f then Some (tree.truth false) else (if u then Some tree.null else None))) ≡ None
plain_by named t f u i r e = grind arith

plain_no_literal : (n : List ℕ) → is_identifier n ≡ true → literal_of (name n) ≡ None
plain_no_literal n e =
    plain_by (is_name n) (bytes_eq n (codes "true")) (bytes_eq n (codes "false")) (bytes_eq n (codes "null")) (bytes_eq n (codes "in")) (is_reserved n) e

-- an identifier, or a call
identified : {room : ℕ} {us : List Word} {n : List ℕ} {o : ReadOutcome} → is_identifier n ≡ true
    → PlanRuns (maybe_call (tree.name n) (λ items. tree.call n (trees items))) room us o → StepReads (Row Primary) room (name n ∷ us) o
identified {n = n} is r =
    goes (passes (λ e. cc) (passes (λ e. cc) (passes (λ e. cc) (missing (plain_no_literal n is) (found (this_name is) r)))))

pub built : {c : Class} {room : ℕ} {ws : List Word} {p : Phrase} {rest : List Word} → Derives c room ws p rest → Built c room ws p rest
built (derives.plain {room = room} {ws = ws} {rest = rest} {a = a} d) = λ n. goes (calls a (ended_infix Or room ws rest a (built d) n.1) (passes n.0 stands))
built (derives.conditional {room = room} {ws = ws} {us = us} {vs = vs} {a = a} {b = b} {c = c} d e f) =
    λ n. goes (calls a (ended_infix Or (suc room) ws (mark Question ∷ us) a (built d) (ends_question us))
    (enters (opened (calls b (ended_infix Or room us (mark Colon ∷ vs) b (built e) (ends_colon vs).1) (found this_mark (calls c (built f n) stands))))))
built (derives.operand {room = room} {ws = ws} {rest = rest} {a = a} l d) = λ o n t. goes (calls a (ended_below l room ws rest a (built d) n) t)
built (derives.operation {room = room} {us = us} {rest = rest} {b = b} {l = l} {w = w} op is level d e) =
    λ o n t. built d o (ends_operand l w us op is level) (goes (found (this_operator is level) (calls b (ended_below l room us rest b (built e) n) t)))
built (derives.unprefixed {room = room} {ws = ws} {rest = rest} {a = a} d) =
    λ n. goes (missing (no_prefix unary.Not ws (first d)) (missing (no_prefix unary.Negate ws (first d)) (ended_member room ws rest a (built d) n)))
built (derives.prefixed {a = a} op d) = λ n. unary_goes op (calls a (built d n) stands)
built (derives.last_prefix {room = room} {ws = ws} {rest = rest} {a = a} op d) =
    λ n. goes (missing (no_prefix op ws (first d)) (ended_member room ws rest a (built d) n))
built (derives.next_prefix {a = a} op d) = λ n. goes (found this_mark (calls a (built d n) stands))
built (derives.whole {a = a} d) = λ o n s. goes (calls a (built d n) s)
built (derives.selection is d) = λ o n s. built d o (λ q. cc) (goes (found this_mark (calls _ (goes (found (this_name is) (passes n stands))) s)))
built (derives.method_call {rest = rest} {items = items} is d e) =
    λ o n s. built d o (λ q. cc) (goes (found this_mark (calls _ (goes (found (this_name is) (enters (calls items (built e Call rest (inl refl)) stands)))) s)))
built (derives.indexing {rest = rest} {b = b} d e) =
    λ o n s. built d o (λ q. cc)
    (goes (missing (λ q. cc) (enters (calls b (goes (opened (calls b (built e (ends_closing ListLiteral rest)) (found this_mark stands)))) s))))
built (derives.identifier is) = λ n. identified is (passes n stands)
built (derives.function_call {rest = rest} {items = items} is d) = λ n. identified is (enters (calls items (built d Call rest (inl refl)) stands))
built (derives.bracket {rest = rest} {a = a} d) = λ n. goes (enters (goes (opened (calls a (built d (ends_closing Call rest)) (found this_mark stands)))))
built (derives.constant {w = w} {v = v} is) =
    λ n. goes (passes (literal_no_mark w v _ is) (passes (literal_no_mark w v _ is) (passes (literal_no_mark w v _ is) (found (this_literal is) stands))))
built (derives.list_literal {vs = vs} {rest = rest} {items = items} d x) =
    λ n. goes (passes (λ e. cc) (enters (calls items (built d ListLiteral rest (closes_list ListLiteral vs rest refl x)) stands)))
built (derives.map_literal {vs = vs} {rest = rest} {pairs = pairs} d x) =
    λ n. goes (passes (λ e. cc) (passes (λ e. cc) (enters (calls pairs (built d rest (closes_list Map vs rest refl x)) stands))))
built (derives.no_items) = λ c end ends. goes (opened (list_empty c [] (Item c []) ends))
built (derives.some_items {ws = ws} {rest = rest} {items = items} d) =
    λ c end ends. goes (opened (list_goes c [] (Item c []) (goes_on c ws (first d)) (no_comma ws (first d))
    (built d c (Got (Many items) end) (ends_list c rest end ends) (goes (behind_ends c items (Item c items) ends)))))
built (derives.first_item {a = a} d) = λ c o n b. goes (calls a (built d n) b)
built (derives.next_item {us = us} {items = items} {a = a} d e) =
    λ c o n b. built d c o (ends_comma us) (goes (behind_goes c items (Item c items) (comma_goes_on c us (first e)) refl (goes (calls a (built e n) b))))
built (derives.no_pairs) = λ end ends. goes (opened (list_empty Map [] (Entry []) ends))
built (derives.some_pairs {ws = ws} {rest = rest} {pairs = pairs} d) =
    λ end ends. goes (opened (list_goes Map [] (Entry []) (goes_on Map ws (first d)) (no_comma ws (first d))
    (built d (Got (Keyed pairs) end) (ends_list Map rest end ends) (goes (behind_ends Map pairs (Entry pairs) ends)))))
built (derives.first_pair {us = us} {a = a} {b = b} d e) =
    λ o n t. goes (calls a (built d (ends_colon us)) (found this_mark (calls b (built e n) t)))
built (derives.next_pair {us = us} {vs = vs} {pairs = pairs} {a = a} {b = b} d e f) =
    λ o n t. built d o (ends_comma us) (goes (behind_goes Map pairs (Entry pairs) (comma_goes_on Map us (first e)) refl
    (goes (calls a (built e (ends_colon vs)) (found this_mark (calls b (built f n) t))))))
