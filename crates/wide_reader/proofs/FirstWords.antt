-- The first word of a phrase.
use Rattle.wide_reader.proofs.Prelude.{◌≡◌, ℕ, List, [], ◌∷◌, Bool, true, false, inl, inr, Some, None, refl, sym, ◌∙◌, ap, subst, or_left, ◌||◌, WideWord, mark, Mark, Not, Minus, Comma, Dot, Question, OpenParen, OpenBracket, OpenBrace, Wide, Access, Plain, Optional, Marked, Starts, unary_mark, literal_of, at, WideIsNotNext, WideGoesOn, closing_mark, WideClass, Member, Primary, Items, Pairs, OptionalArguments, OptionalItems, OptionalPairs, WidePhrase, below, WideDerives, Level, Or, Closing, Call, UnaryOperator}
use Rattle.wide_reader.specs.Grammar as derives
use Rattle.cel_reader.specs.declared.operator.UnaryOperator.TheVariants as unary

-- whether the mark is ( [ or {
abbrev opens_member : Mark → Bool
opens_member OpenParen = true
opens_member OpenBracket = true
opens_member OpenBrace = true
opens_member Dot = true
opens_member other = false

-- whether the mark is ! or -
abbrev is_prefix : Mark → Bool
is_prefix Not = true
is_prefix Minus = true
is_prefix other = false

-- whether the mark is ?
abbrev is_question : Mark → Bool
is_question Question = true
is_question other = false

-- whether a member may begin with the word
abbrev pub begins_member : WideWord → Bool
begins_member (mark m) = opens_member m
begins_member _ = true

-- whether an expression may begin with the word
abbrev pub begins : WideWord → Bool
begins (mark m) = opens_member m || is_prefix m
begins _ = true

-- whether an item or entry may begin with the word
abbrev pub begins_part : WideWord → Bool
begins_part (mark m) = is_question m || (opens_member m || is_prefix m)
begins_part _ = true

abbrev pub FirstIs : (WideWord → Bool) → List WideWord → Type 0
FirstIs p [] = ⊥
FirstIs p (w ∷ ws) = p w ≡ true

-- the first word of a phrase of the row
abbrev pub Front : WideClass → List WideWord → Type 0
Front Member ws = FirstIs begins_member ws
Front Primary ws = FirstIs begins_member ws
Front Items ws = FirstIs begins_part ws
Front Pairs ws = FirstIs begins_part ws
Front OptionalArguments ws = Unit {0}
Front OptionalItems ws = Unit {0}
Front OptionalPairs ws = Unit {0}
Front _ ws = FirstIs begins ws

or_right : (a b : Bool) → b ≡ true → (a || b) ≡ true
or_right true b e = refl
or_right false b e = e

pub part_begins : (ws : List WideWord) → FirstIs begins ws → FirstIs begins_part ws
part_begins [] x = x
part_begins (mark m ∷ ws) x = or_right (is_question m) (opens_member m || is_prefix m) x
part_begins _ x = refl

pub marked_begins : (o : Access) (ws us : List WideWord) → Marked o ws us → FirstIs begins us → FirstIs begins_part ws
marked_begins Plain ws us e x = rw e (part_begins us x)
marked_begins Optional ws us e x = rw e refl

begins_too : (ws : List WideWord) → FirstIs begins_member ws → FirstIs begins ws
begins_too [] x = x
begins_too (mark m ∷ ws) x = or_left (opens_member m) (is_prefix m) x
begins_too _ x = refl

below_begins : (l : Level) (ws : List WideWord) → Front (below l) ws → FirstIs begins ws
below_begins Or ws x = x
below_begins _ ws x = x

prefix_begins : (op : UnaryOperator) → begins (mark (unary_mark op)) ≡ true
prefix_begins unary.Not = refl
prefix_begins unary.Negate = refl

literal_begins : (w : WideWord) (v : Wide) → literal_of w ≡ Some v → begins_member w ≡ true
literal_begins (mark m) v e = absurd (let f : None ≡ Some v = e in cc)
literal_begins _ v e = refl

pub first : {c : WideClass} {room : ℕ} {ws : List WideWord} {p : WidePhrase} {rest : List WideWord} → WideDerives c room ws p rest → Front c ws
first (derives.plain d) = first d
first (derives.conditional d e f) = first d
first (derives.operand {ws = ws} l d) = below_begins l ws (first d)
first (derives.operation op x y d e) = first d
first (derives.unprefixed {ws = ws} d) = begins_too ws (first d)
first (derives.prefixed op d) = prefix_begins op
first (derives.last_prefix {ws = ws} op odd d) = begins_too ws (first d)
first (derives.next_prefix op odd d) = prefix_begins op
first (derives.whole d) = first d
first (derives.selection is d) = first d
first (derives.quoted_selection is d) = first d
first (derives.optional_selection is d) = first d
first (derives.optional_quoted_selection is d) = first d
first (derives.method_call is d e) = first d
first (derives.indexing o d m e) = first d
first (derives.constant {w = w} {v = v} x) = literal_begins w v x
first (derives.no_arguments) = tt
first (derives.some_arguments d) = tt
first (derives.first_argument d) = first d
first (derives.next_argument d e) = first d
first (derives.no_items) = tt
first (derives.some_items d) = tt
first (derives.first_item {ws = ws} {us = us} o m d) = marked_begins o ws us m (first d)
first (derives.next_item o d m e) = first d
first (derives.no_pairs) = tt
first (derives.some_pairs d) = tt
first (derives.first_pair {ws = ws} {us = us} o m d e) = marked_begins o ws us m (first d)
first (derives.next_pair o d m e f) = first d
first _ = refl

-- a different mark is first
pub not_first : (p : WideWord → Bool) (m : Mark) (ws : List WideWord) → p (mark m) ≡ false → FirstIs p ws → WideIsNotNext (at m) ws
not_first p m [] none x = tt
not_first p m (w ∷ ws) none x = λ e. absurd (let f : true ≡ false = sym x ∙ ap p e ∙ none in cc)

pub mark_not_first : (m : Mark) (ws us : List WideWord) → begins_part (mark m) ≡ false → FirstIs begins_part ws → ws ≡ mark m ∷ us → ⊥
mark_not_first m ws us none x e = let f : begins_part (mark m) ≡ true = subst (λ (y : List WideWord). FirstIs begins_part y) e x in absurd (let g : true ≡ false = sym f ∙ none in cc)

pub closing_not_first : (c : Closing) → begins_part (mark (closing_mark c)) ≡ false
closing_not_first Call = refl
closing_not_first _ = refl

-- where a part begins, a list does not end and no comma follows
pub goes_on : (c : Closing) (ws : List WideWord) → FirstIs begins_part ws → WideGoesOn c ws
goes_on c ws x rest (inl e) = mark_not_first (closing_mark c) ws rest (closing_not_first c) x e
goes_on c ws x rest (inr p) = mark_not_first Comma ws (mark (closing_mark c) ∷ rest) refl x p.1

pub no_comma : (ws : List WideWord) → FirstIs begins_part ws → WideIsNotNext (at Comma) ws
no_comma ws x = not_first begins_part Comma ws refl x

-- an expression does not begin with a question mark
pub marked_starts : (o : Access) (ws us : List WideWord) → Marked o ws us → FirstIs begins us → Starts o ws us
marked_starts Plain ws us e x = (e, rw e (not_first begins Question us refl x))
marked_starts Optional ws us e x = e

-- a member does not begin with a unary operator
member_prefix : (op : UnaryOperator) → begins_member (mark (unary_mark op)) ≡ false
member_prefix unary.Not = refl
member_prefix unary.Negate = refl

pub no_prefix : (op : UnaryOperator) (ws : List WideWord) → FirstIs begins_member ws → WideIsNotNext (at (unary_mark op)) ws
no_prefix op ws x = not_first begins_member (unary_mark op) ws (member_prefix op) x
