-- Every derived phrase is read by some run of the reader.
use Rattle.wide_reader.proofs.Prelude.{◌≡◌, ℕ, suc, List, [], ◌∷◌, Bool, true, false, ◌&&◌, Some, None, inl, inr, refl, arith, sym, ◌∙◌, ap, is_name, WideWord, name, mark, Mark, Question, Colon, Comma, Dot, OpenParen, Wide, wides, is_identifier, is_selector, literal_of, at, operator, this_mark, this_name, this_quoted, this_literal, this_operator, WideIsNotNext, WideCloses, WideGoesOn, closing_mark, takes_comma, WideClass, Expression, Infix, Unary, Prefixed, Member, Primary, Arguments, OptionalArguments, Items, OptionalItems, Pairs, OptionalPairs, WidePhrase, One, Many, Listed, Keyed, below, WideOptionalComma, WideDerives, WideReadOutcome, Got, Row, Tail, Suffix, Selection, Called, Argument, BehindArgument, Bracketed, Item, BehindItem, Mapped, Entry, BehindEntry, maybe_call, WidePlanRuns, stands, goes, calls, found, missing, enters, passes, opened, WideStepReads, Level, Or, And, Relation, Sum, Product, Closing, Call, Map, Access, Plain, method_of, call_of, index_after, item_after, entry_after}
use Rattle.std.specs.Prelude.{◌||◌, not, codes, bytes_eq, if◌then◌else◌}
use Rattle.cel_reader.specs.Words.{is_reserved}
use Rattle.cel_reader.specs.Tree as literals
use Rattle.wide_reader.specs.Tree as tree
use Rattle.wide_reader.specs.Grammar as derives
use Rattle.wide_reader.specs.declared.closing.Closing.TheVariants.{List as ListLiteral}
use Rattle.cel_reader.specs.declared.operator.UnaryOperator.TheVariants as unary
use Rattle.wide_reader.proofs.FirstWords.{FirstIs, begins_part, first, goes_on, no_comma, no_prefix, mark_not_first, closing_not_first, part_begins, marked_begins, marked_starts}
use Rattle.wide_reader.proofs.Lists.{comma_no_end, in_any, list_empty, list_goes, behind_ends, behind_goes}
use Rattle.wide_reader.proofs.Looks.{other_one}
use Rattle.wide_reader.proofs.Steps.{unary_goes, accessed}
use Rattle.wide_reader.proofs.Stops.{StopsExpression, StopsMember, Stops, ends_operand, ends_question, ends_colon, ends_comma, ends_closing, ends_list}

-- a run of the row, from a run of what follows its phrase
abbrev BuiltOne : WideClass → ℕ → List WideWord → Wide → List WideWord → Type 0
BuiltOne Expression room ws a rest = StopsExpression rest → WideStepReads (Row Expression) room ws (Got (One a) rest)
BuiltOne (Infix l) room ws a rest = (o : WideReadOutcome) → Stops (below l) rest → WideStepReads (Tail l a) room rest o → WideStepReads (Row (Infix l)) room ws o
BuiltOne Unary room ws a rest = StopsMember rest → WideStepReads (Row Unary) room ws (Got (One a) rest)
BuiltOne (Prefixed op odd) room ws a rest = StopsMember rest → WideStepReads (Row (Prefixed op odd)) room ws (Got (One a) rest)
BuiltOne Member room ws a rest = (o : WideReadOutcome) → WideIsNotNext (at OpenParen) rest → WideStepReads (Suffix a) room rest o → WideStepReads (Row Member) room ws o
BuiltOne Primary room ws a rest = WideIsNotNext (at OpenParen) rest → WideStepReads (Row Primary) room ws (Got (One a) rest)
BuiltOne other room ws a rest = Unit {0}

abbrev BuiltMany : WideClass → ℕ → List WideWord → List Wide → List WideWord → Type 0
BuiltMany Arguments room ws more rest = (o : WideReadOutcome) → StopsExpression rest → WideStepReads (BehindArgument more) room rest o → WideStepReads (Argument []) room ws o
BuiltMany OptionalArguments room ws more rest = (end : List WideWord) → WideCloses Call rest end → WideStepReads Called (suc room) ws (Got (Many more) end)
BuiltMany other room ws more rest = Unit {0}

abbrev BuiltListed : WideClass → ℕ → List WideWord → List (Access × Wide) → List WideWord → Type 0
BuiltListed Items room ws more rest = (o : WideReadOutcome) → StopsExpression rest → WideStepReads (BehindItem more) room rest o → WideStepReads (Item []) room ws o
BuiltListed OptionalItems room ws more rest = (end : List WideWord) → WideCloses ListLiteral rest end → WideStepReads Bracketed (suc room) ws (Got (Listed more) end)
BuiltListed other room ws more rest = Unit {0}

abbrev BuiltKeyed : WideClass → ℕ → List WideWord → List (Access × Wide × Wide) → List WideWord → Type 0
BuiltKeyed Pairs room ws pairs rest = (o : WideReadOutcome) → StopsExpression rest → WideStepReads (BehindEntry pairs) room rest o → WideStepReads (Entry []) room ws o
BuiltKeyed OptionalPairs room ws pairs rest = (end : List WideWord) → WideCloses Map rest end → WideStepReads Mapped (suc room) ws (Got (Keyed pairs) end)
BuiltKeyed other room ws pairs rest = Unit {0}

abbrev Built : WideClass → ℕ → List WideWord → WidePhrase → List WideWord → Type 0
Built c room ws (One a) rest = BuiltOne c room ws a rest
Built c room ws (Many more) rest = BuiltMany c room ws more rest
Built c room ws (Listed more) rest = BuiltListed c room ws more rest
Built c room ws (Keyed pairs) rest = BuiltKeyed c room ws pairs rest

ended_infix : (l : Level) (room : ℕ) (ws rest : List WideWord) (a : Wide) → BuiltOne (Infix l) room ws a rest
    → WideIsNotNext (operator l) rest × Stops (below l) rest → WideStepReads (Row (Infix l)) room ws (Got (One a) rest)
ended_infix l room ws rest a f n = f (Got (One a) rest) n.1 (goes (missing n.0 stands))

ended_below : (l : Level) (room : ℕ) (ws rest : List WideWord) (a : Wide) → BuiltOne (below l) room ws a rest → Stops (below l) rest → WideStepReads (Row (below l)) room ws (Got (One a) rest)
ended_below Or room ws rest a f n = ended_infix And room ws rest a f n
ended_below And room ws rest a f n = ended_infix Relation room ws rest a f n
ended_below Relation room ws rest a f n = ended_infix Sum room ws rest a f n
ended_below Sum room ws rest a f n = ended_infix Product room ws rest a f n
ended_below Product room ws rest a f n = f n

ended_member : (room : ℕ) (ws rest : List WideWord) (a : Wide) → BuiltOne Member room ws a rest → StopsMember rest → WideStepReads (Row Member) room ws (Got (One a) rest)
ended_member room ws rest a f n = f (Got (One a) rest) n.2 (goes (missing n.0 (passes n.1 stands)))

-- a list does not end at a comma before an expression
comma_goes_on : (c : Closing) (us : List WideWord) → FirstIs begins_part us → WideGoesOn c (mark Comma ∷ us)
comma_goes_on c us here x (inl e) = comma_no_end c cc
comma_goes_on c us here x (inr p) = mark_not_first (closing_mark c) us x (closing_not_first c) here cc

closes_list : (c : Closing) (ws rest : List WideWord) → takes_comma c ≡ true → WideOptionalComma ws (mark (closing_mark c) ∷ rest) → WideCloses c ws rest
closes_list c ws rest takes (inl e) = inl e
closes_list c ws rest takes (inr e) = inr (takes, e)

literal_no_mark : (w : WideWord) (v : Wide) (m : Mark) → literal_of w ≡ Some v → w ≡ mark m → ⊥
literal_no_mark w v m e f = let g : None ≡ Some v = ap literal_of (sym f) ∙ e in cc

plain_by : (named t f u i r : Bool) → ((named && not (t || (f || (u || i)))) && not r) ≡ true
    → (if t then Some (tree.literal (literals.truth true)) else (if f then Some (tree.literal (literals.truth false)) else (if u then Some (tree.literal literals.null) else None))) ≡ None
plain_by named t f u i r e = grind arith

plain_no_literal : (n : List ℕ) → is_identifier n ≡ true → literal_of (name n) ≡ None
plain_no_literal n e =
    plain_by (is_name n) (bytes_eq n (codes "true")) (bytes_eq n (codes "false")) (bytes_eq n (codes "null")) (bytes_eq n (codes "in")) (is_reserved n) e

-- an identifier, or a call
identified : {room : ℕ} {us : List WideWord} {n : List ℕ} {o : WideReadOutcome} → is_identifier n ≡ true
    → WidePlanRuns (maybe_call (tree.name n) (λ more. call_of n (wides more))) room us o → WideStepReads (Row Primary) room (name n ∷ us) o
identified {n = n} is r =
    goes (passes (λ e. cc) (passes (λ e. cc) (passes (λ e. cc) (missing (plain_no_literal n is) (missing (λ e. cc) (found (this_name is) r))))))

-- a name with a dot before it, or a call
rooted : {room : ℕ} {us : List WideWord} {n : List ℕ} {o : WideReadOutcome} → is_identifier n ≡ true
    → WidePlanRuns (maybe_call (tree.root n) (λ more. call_of n (wides more))) room us o → WideStepReads (Row Primary) room (mark Dot ∷ name n ∷ us) o
rooted is r = goes (passes (λ e. cc) (passes (λ e. cc) (passes (λ e. cc) (missing refl (found this_mark (found (this_name is) r))))))

-- a field or a method by its name
selected : {room : ℕ} {us : List WideWord} {a : Wide} {n : List ℕ} {o : WideReadOutcome} → is_selector n ≡ true
    → WidePlanRuns (maybe_call (tree.select a Plain n) (λ more. method_of a n (wides more))) room us o → WideStepReads (Selection a) room (name n ∷ us) o
selected is r = goes (missing (λ e. cc) (found (this_name is) r))

pub built : {c : WideClass} {room : ℕ} {ws : List WideWord} {p : WidePhrase} {rest : List WideWord} → WideDerives c room ws p rest → Built c room ws p rest
built (derives.plain {room = room} {ws = ws} {rest = rest} {a = a} d) = λ n. goes (calls a (ended_infix Or room ws rest a (built d) n.1) (passes n.0 stands))
built (derives.conditional {room = room} {ws = ws} {us = us} {vs = vs} {a = a} {b = b} {c = c} d e f) =
    λ n. goes (calls a (ended_infix Or (suc room) ws (mark Question ∷ us) a (built d) (ends_question us))
    (enters (opened (calls b (ended_infix Or room us (mark Colon ∷ vs) b (built e) (ends_colon vs).1) (found this_mark (calls c (built f n) stands))))))
built (derives.operand {room = room} {ws = ws} {rest = rest} {a = a} l d) = λ o n t. goes (calls a (ended_below l room ws rest a (built d) n) t)
built (derives.operation {room = room} {us = us} {rest = rest} {b = b} {l = l} {w = w} op is level d e) =
    λ o n t. built d o (ends_operand l w us op is level) (goes (found (this_operator is level) (calls b (ended_below l room us rest b (built e) n) t)))
built (derives.unprefixed {room = room} {ws = ws} {rest = rest} {a = a} d) =
    λ n. goes (missing (no_prefix unary.Not ws (first d)) (missing (no_prefix unary.Negate ws (first d)) (ended_member room ws rest a (built d) n)))
built (derives.prefixed op d) = λ n. unary_goes op (built d n)
built (derives.last_prefix {room = room} {ws = ws} {rest = rest} {a = a} op odd d) =
    λ n. goes (missing (no_prefix op ws (first d)) (calls a (ended_member room ws rest a (built d) n) stands))
built (derives.next_prefix op odd d) = λ n. goes (found this_mark (built d n))
built (derives.whole {a = a} d) = λ o n s. goes (calls a (built d n) s)
built (derives.selection is d) = λ o n s. built d o (λ q. cc) (goes (found this_mark (calls _ (selected is (passes n stands)) s)))
built (derives.quoted_selection is d) =
    λ o n s. built d o (λ q. cc) (goes (found this_mark (calls _ (goes (missing (λ e. cc) (missing (λ m e. cc) (found (this_quoted is) stands)))) s)))
built (derives.optional_selection is d) =
    λ o n s. built d o (λ q. cc) (goes (found this_mark (calls _ (goes (found this_mark (found (this_name is) stands))) s)))
built (derives.optional_quoted_selection is d) =
    λ o n s. built d o (λ q. cc) (goes (found this_mark (calls _ (goes (found this_mark (missing (λ m e. cc) (found (this_quoted is) stands)))) s)))
built (derives.method_call {rest = rest} {more = more} is d e) =
    λ o n s. built d o (λ q. cc) (goes (found this_mark (calls _ (selected is (enters (calls more (built e rest (inl refl)) stands))) s)))
built (derives.indexing {us = us} {vs = vs} {rest = rest} {a = a} {b = b} x d m e) =
    λ o n s. built d o (λ q. cc)
    (goes (missing (λ q. cc) (enters (calls _ (goes (opened (accessed (index_after a) x (marked_starts x us vs m (first e)) (calls b (built e (ends_closing ListLiteral rest)) (found this_mark stands))))) s))))
built (derives.identifier is) = λ n. identified is (passes n stands)
built (derives.root is) = λ n. rooted is (passes n stands)
built (derives.function_call {rest = rest} {more = more} is d) = λ n. identified is (enters (calls more (built d rest (inl refl)) stands))
built (derives.root_call {rest = rest} {more = more} is d) = λ n. rooted is (enters (calls more (built d rest (inl refl)) stands))
built (derives.bracket {rest = rest} {a = a} d) = λ n. goes (enters (goes (opened (calls a (built d (ends_closing Call rest)) (found this_mark stands)))))
built (derives.constant {w = w} {v = v} is) =
    λ n. goes (passes (literal_no_mark w v _ is) (passes (literal_no_mark w v _ is) (passes (literal_no_mark w v _ is) (found (this_literal is) stands))))
built (derives.list_literal {vs = vs} {rest = rest} {more = more} d x) =
    λ n. goes (passes (λ e. cc) (enters (calls more (built d rest (closes_list ListLiteral vs rest refl x)) stands)))
built (derives.map_literal {vs = vs} {rest = rest} {pairs = pairs} d x) =
    λ n. goes (passes (λ e. cc) (passes (λ e. cc) (enters (calls pairs (built d rest (closes_list Map vs rest refl x)) stands))))
built (derives.no_arguments) = λ end ends. goes (opened (list_empty Call [] (Argument []) ends))
built (derives.some_arguments {ws = ws} {rest = rest} {more = more} d) =
    λ end ends. goes (opened (list_goes Call [] (Argument []) (goes_on Call ws (part_begins ws (first d))) (other_one Call Comma ws refl)
    (built d (Got (Many more) end) (ends_list Call rest end ends) (goes (behind_ends Call more (Argument more) ends)))))
built (derives.first_argument {a = a} d) = λ o n b. goes (calls a (built d n) b)
built (derives.next_argument {us = us} {more = more} {a = a} d e) =
    λ o n b. built d o (ends_comma us) (goes (behind_goes Call more (Argument more) (comma_goes_on Call us (part_begins us (first e))) refl (goes (calls a (built e n) b))))
built (derives.no_items) = λ end ends. goes (opened (list_empty ListLiteral [] (Item []) ends))
built (derives.some_items {ws = ws} {rest = rest} {more = more} d) =
    λ end ends. goes (opened (list_goes ListLiteral [] (Item []) (goes_on ListLiteral ws (first d)) (in_any ListLiteral Comma ws (no_comma ws (first d)))
    (built d (Got (Listed more) end) (ends_list ListLiteral rest end ends) (goes (behind_ends ListLiteral more (Item more) ends)))))
built (derives.first_item {ws = ws} {us = us} {a = a} x m d) = λ o n b. goes (accessed (item_after []) x (marked_starts x ws us m (first d)) (calls a (built d n) b))
built (derives.next_item {us = us} {vs = vs} {more = more} {a = a} x d m e) =
    λ o n b. built d o (ends_comma us) (goes (behind_goes ListLiteral more (Item more) (comma_goes_on ListLiteral us (marked_begins x us vs m (first e))) refl
    (goes (accessed (item_after more) x (marked_starts x us vs m (first e)) (calls a (built e n) b)))))
built (derives.no_pairs) = λ end ends. goes (opened (list_empty Map [] (Entry []) ends))
built (derives.some_pairs {ws = ws} {rest = rest} {pairs = pairs} d) =
    λ end ends. goes (opened (list_goes Map [] (Entry []) (goes_on Map ws (first d)) (in_any Map Comma ws (no_comma ws (first d)))
    (built d (Got (Keyed pairs) end) (ends_list Map rest end ends) (goes (behind_ends Map pairs (Entry pairs) ends)))))
built (derives.first_pair {ws = ws} {us = us} {vs = vs} {a = a} {b = b} x m d e) =
    λ o n t. goes (accessed (entry_after []) x (marked_starts x ws us m (first d)) (calls a (built d (ends_colon vs)) (found this_mark (calls b (built e n) t))))
built (derives.next_pair {us = us} {vs = vs} {xs = xs} {pairs = pairs} {a = a} {b = b} x d m e f) =
    λ o n t. built d o (ends_comma us) (goes (behind_goes Map pairs (Entry pairs) (comma_goes_on Map us (marked_begins x us vs m (first e))) refl
    (goes (accessed (entry_after pairs) x (marked_starts x us vs m (first e)) (calls a (built e (ends_colon xs)) (found this_mark (calls b (built f n) t)))))))
