-- The first word of a phrase.
use Rattle.cel_reader.proofs.Prelude.{◌≡◌, ℕ, List, [], ◌∷◌, Bool, true, false, inl, inr, Some, None, refl, sym, ◌∙◌, ap, subst, or_left, ◌||◌, Word, mark, Mark, Not, Minus, Comma, OpenParen, OpenBracket, OpenBrace, Literal, unary_mark, literal_of, at, IsNotNext, GoesOn, closing_mark, Class, Member, Primary, OptionalItems, OptionalPairs, Phrase, below, Derives, Level, Or, Closing, Call, UnaryOperator}
use Rattle.cel_reader.specs.Grammar as derives
use Rattle.cel_reader.specs.declared.operator.UnaryOperator.TheVariants as unary

-- whether the mark is ( [ or {
abbrev opens_member : Mark → Bool
opens_member OpenParen = true
opens_member OpenBracket = true
opens_member OpenBrace = true
opens_member other = false

-- whether the mark is ! or -
abbrev is_prefix : Mark → Bool
is_prefix Not = true
is_prefix Minus = true
is_prefix other = false

-- whether a member may begin with the word
abbrev pub begins_member : Word → Bool
begins_member (mark m) = opens_member m
begins_member _ = true

-- whether an expression may begin with the word
abbrev pub begins : Word → Bool
begins (mark m) = opens_member m || is_prefix m
begins _ = true

abbrev pub FirstIs : (Word → Bool) → List Word → Type 0
FirstIs p [] = ⊥
FirstIs p (w ∷ ws) = p w ≡ true

-- the first word of a phrase of the row
abbrev pub Front : Class → List Word → Type 0
Front Member ws = FirstIs begins_member ws
Front Primary ws = FirstIs begins_member ws
Front OptionalItems ws = Unit {0}
Front OptionalPairs ws = Unit {0}
Front _ ws = FirstIs begins ws

begins_too : (ws : List Word) → FirstIs begins_member ws → FirstIs begins ws
begins_too [] x = x
begins_too (mark m ∷ ws) x = or_left (opens_member m) (is_prefix m) x
begins_too _ x = refl

below_begins : (l : Level) (ws : List Word) → Front (below l) ws → FirstIs begins ws
below_begins Or ws x = x
below_begins _ ws x = x

prefix_begins : (op : UnaryOperator) → begins (mark (unary_mark op)) ≡ true
prefix_begins unary.Not = refl
prefix_begins unary.Negate = refl

literal_begins : (w : Word) (v : Literal) → literal_of w ≡ Some v → begins_member w ≡ true
literal_begins (mark m) v e = absurd (let f : None ≡ Some v = e in cc)
literal_begins _ v e = refl

pub first : {c : Class} {room : ℕ} {ws : List Word} {p : Phrase} {rest : List Word} → Derives c room ws p rest → Front c ws
first (derives.plain d) = first d
first (derives.conditional d e f) = first d
first (derives.operand {ws = ws} l d) = below_begins l ws (first d)
first (derives.operation op x y d e) = first d
first (derives.unprefixed {ws = ws} d) = begins_too ws (first d)
first (derives.prefixed op d) = prefix_begins op
first (derives.last_prefix {ws = ws} op d) = begins_too ws (first d)
first (derives.next_prefix op d) = prefix_begins op
first (derives.whole d) = first d
first (derives.selection is d) = first d
first (derives.method_call is d e) = first d
first (derives.indexing d e) = first d
first (derives.constant {w = w} {v = v} x) = literal_begins w v x
first (derives.no_items) = tt
first (derives.some_items d) = tt
first (derives.first_item d) = first d
first (derives.next_item d e) = first d
first (derives.no_pairs) = tt
first (derives.some_pairs d) = tt
first (derives.first_pair d e) = first d
first (derives.next_pair d e f) = first d
first _ = refl

-- a different mark is first
pub not_first : (p : Word → Bool) (m : Mark) (ws : List Word) → p (mark m) ≡ false → FirstIs p ws → IsNotNext (at m) ws
not_first p m [] none x = tt
not_first p m (w ∷ ws) none x = λ e. absurd (let f : true ≡ false = sym x ∙ ap p e ∙ none in cc)

pub mark_not_first : (m : Mark) (ws us : List Word) → begins (mark m) ≡ false → FirstIs begins ws → ws ≡ mark m ∷ us → ⊥
mark_not_first m ws us none x e = let f : begins (mark m) ≡ true = subst (λ (y : List Word). FirstIs begins y) e x in absurd (let g : true ≡ false = sym f ∙ none in cc)

pub closing_not_first : (c : Closing) → begins (mark (closing_mark c)) ≡ false
closing_not_first Call = refl
closing_not_first _ = refl

-- where an expression begins, a list does not end and no comma follows
pub goes_on : (c : Closing) (ws : List Word) → FirstIs begins ws → GoesOn c ws
goes_on c ws x rest (inl e) = mark_not_first (closing_mark c) ws rest (closing_not_first c) x e
goes_on c ws x rest (inr p) = mark_not_first Comma ws (mark (closing_mark c) ∷ rest) refl x p.1

pub no_comma : (ws : List Word) → FirstIs begins ws → IsNotNext (at Comma) ws
no_comma ws x = not_first begins Comma ws refl x

-- a member does not begin with a unary operator
member_prefix : (op : UnaryOperator) → begins_member (mark (unary_mark op)) ≡ false
member_prefix unary.Not = refl
member_prefix unary.Negate = refl

pub no_prefix : (op : UnaryOperator) (ws : List Word) → FirstIs begins_member ws → IsNotNext (at (unary_mark op)) ws
no_prefix op ws x = not_first begins_member (unary_mark op) ws (member_prefix op) x
