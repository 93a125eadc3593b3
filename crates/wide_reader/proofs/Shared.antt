-- What the profile's grammar derives, this one derives too.
use Rattle.wide_reader.proofs.Prelude.{◌≡◌, ℕ, List, [], ◌∷◌, ◌++◌, map, Bool, true, false, not, Some, None, if◌then◌else◌, inl, inr, refl, ◌∙◌, ap, codes, Wide, literal_of, operator_of, level_of, WideDerives, One, Many, Listed, Keyed, Arguments, OptionalArguments, Items, OptionalItems, Pairs, OptionalPairs, Expression, Infix, Unary, Prefixed, Member, Primary, WideOptionalComma, WideClass, AreSupported, Access, Plain, BinaryOperator, UnaryOperator, wides, method_of, call_of}
use Rattle.std.specs.Prelude.{bytes_eq}
use Rattle.cel_tokens.specs.Token.{Word}
use Rattle.cel_tokens.specs.Token as word
use Rattle.cel_reader.specs.Words as profile_words
use Rattle.cel_reader.specs.Tree as profile
use Rattle.cel_reader.specs.Tree.{Tree, Literal, trees}
use Rattle.cel_reader.specs.Grammar as grammar
use Rattle.cel_reader.specs.declared.level.Level.{Level as ProfileLevel}
use Rattle.cel_reader.specs.declared.level.Level.TheVariants as levels
use Rattle.cel_reader.specs.declared.operator.BinaryOperator.TheVariants as operators
use Rattle.wide_reader.specs.Grammar as derives
use Rattle.wide_reader.specs.Tree as tree
use Rattle.wide_reader.specs.declared.level.Level.{Level}
use Rattle.wide_reader.specs.declared.level.Level.TheVariants as wide_levels
use Rattle.wide_reader.specs.Shared.{widened, Widens, AllWiden, ItemsWiden, EntriesWiden, none, one_more, no_items, next_item, no_entries, next_entry}
use Rattle.wide_reader.specs.Shared as shares

-- ---- words

supported : (ws : List Word) → AreSupported (map widened ws)
supported [] = tt
supported (word.name n ∷ ws) = (refl, supported ws)
supported (word.int z ∷ ws) = (refl, supported ws)
supported (word.text said ∷ ws) = (refl, supported ws)
supported (word.mark m ∷ ws) = (refl, supported ws)

-- the level of an operator here
abbrev level : ProfileLevel → Level
level levels.Or = wide_levels.Or
level levels.And = wide_levels.And
level levels.Relation = wide_levels.Relation
level levels.Sum = wide_levels.Sum
level levels.Product = wide_levels.Product

same_level : (op : BinaryOperator) → level_of op ≡ level (profile_words.level_of op)
same_level operators.Or = refl
same_level operators.And = refl
same_level operators.Less = refl
same_level operators.LessEqual = refl
same_level operators.GreaterEqual = refl
same_level operators.Greater = refl
same_level operators.Equal = refl
same_level operators.NotEqual = refl
same_level operators.In = refl
same_level operators.Add = refl
same_level operators.Subtract = refl
same_level operators.Multiply = refl
same_level operators.Divide = refl
same_level operators.Remainder = refl

same_operator : (w : Word) → operator_of (widened w) ≡ profile_words.operator_of w
same_operator (word.name n) = refl
same_operator (word.int z) = refl
same_operator (word.text said) = refl
same_operator (word.mark m) = refl

constants : (t f u : Bool) (v : Literal)
    → (if t then Some (profile.truth true) else (if f then Some (profile.truth false) else (if u then Some profile.null else None))) ≡ Some v
    → (if t then Some (tree.literal (profile.truth true))
    else (if f then Some (tree.literal (profile.truth false)) else (if u then Some (tree.literal profile.null) else None))) ≡ Some (tree.literal v)
constants true f u v e = let g : profile.truth true ≡ v = cc in ap (λ (x : Literal). Some (tree.literal x)) g
constants false true u v e = let g : profile.truth false ≡ v = cc in ap (λ (x : Literal). Some (tree.literal x)) g
constants false false true v e = let g : profile.null ≡ v = cc in ap (λ (x : Literal). Some (tree.literal x)) g
constants false false false v e = absurd cc

same_literal : (w : Word) (v : Literal) → profile_words.literal_of w ≡ Some v → literal_of (widened w) ≡ Some (tree.literal v)
same_literal (word.name n) v e = constants (bytes_eq n (codes "true")) (bytes_eq n (codes "false")) (bytes_eq n (codes "null")) v e
same_literal (word.int z) v e = let g : profile.int z ≡ v = cc in ap (λ (x : Literal). Some (tree.literal x)) g
same_literal (word.text said) v e = let g : profile.text said ≡ v = cc in ap (λ (x : Literal). Some (tree.literal x)) g
same_literal (word.mark m) v e = absurd cc

comma : (ws rest : List Word) → grammar.OptionalComma ws rest → WideOptionalComma (map widened ws) (map widened rest)
comma ws rest (inl e) = inl (ap (map widened) e)
comma ws rest (inr e) = inr (ap (map widened) e)

-- ---- phrases

-- the phrase of a row here, and its tree
abbrev SameOne : WideClass → ℕ → List Word → Tree → List Word → Type 0
SameOne c room ws a rest = (w : Wide) × WideDerives c room (map widened ws) (One w) (map widened rest) × Widens a w

-- after some operators, the profile's tree for an odd number of them
abbrev before : UnaryOperator → Bool → Tree → Tree
before op true a = profile.unary op a
before op false a = a

abbrev FromOne : grammar.Class → ℕ → List Word → Tree → List Word → Type 0
FromOne grammar.Expression room ws a rest = SameOne Expression room ws a rest
FromOne (grammar.Infix l) room ws a rest = SameOne (Infix (level l)) room ws a rest
FromOne grammar.Unary room ws a rest = SameOne Unary room ws a rest
FromOne (grammar.Prefixed op) room ws a rest = (odd : Bool) → SameOne (Prefixed op odd) room ws (before op odd a) rest
FromOne grammar.Member room ws a rest = SameOne Member room ws a rest
FromOne grammar.Primary room ws a rest = SameOne Primary room ws a rest
FromOne other room ws a rest = Unit {0}

abbrev FromMany : grammar.Class → ℕ → List Word → List Tree → List Word → Type 0
FromMany grammar.Items room ws xs rest =
    ((us : List Wide) × WideDerives Arguments room (map widened ws) (Many us) (map widened rest) × AllWiden xs us)
    × ((us : List (Access × Wide)) × WideDerives Items room (map widened ws) (Listed us) (map widened rest) × ItemsWiden xs us)
FromMany grammar.OptionalItems room ws xs rest =
    ((us : List Wide) × WideDerives OptionalArguments room (map widened ws) (Many us) (map widened rest) × AllWiden xs us)
    × ((us : List (Access × Wide)) × WideDerives OptionalItems room (map widened ws) (Listed us) (map widened rest) × ItemsWiden xs us)
FromMany other room ws xs rest = Unit {0}

abbrev FromKeyed : grammar.Class → ℕ → List Word → List (Tree × Tree) → List Word → Type 0
FromKeyed grammar.Pairs room ws es rest =
    (us : List (Access × Wide × Wide)) × WideDerives Pairs room (map widened ws) (Keyed us) (map widened rest) × EntriesWiden es us
FromKeyed grammar.OptionalPairs room ws es rest =
    (us : List (Access × Wide × Wide)) × WideDerives OptionalPairs room (map widened ws) (Keyed us) (map widened rest) × EntriesWiden es us
FromKeyed other room ws es rest = Unit {0}

abbrev From : grammar.Class → ℕ → List Word → grammar.Phrase → List Word → Type 0
From c room ws (grammar.One a) rest = FromOne c room ws a rest
From c room ws (grammar.Many xs) rest = FromMany c room ws xs rest
From c room ws (grammar.Keyed es) rest = FromKeyed c room ws es rest

-- an operand of the level here
operand : (l : ProfileLevel) (room : ℕ) (ws rest : List Word) (a : Tree) → FromOne (grammar.below l) room ws a rest → SameOne (derives.below (level l)) room ws a rest
operand levels.Or room ws rest a s = s
operand levels.And room ws rest a s = s
operand levels.Relation room ws rest a s = s
operand levels.Sum room ws rest a s = s
operand levels.Product room ws rest a s = s

last : (op : UnaryOperator) (odd : Bool) (room : ℕ) (ws rest : List Word) (a : Tree) → SameOne Member room ws a rest → SameOne (Prefixed op odd) room ws (before op odd a) rest
last op true room ws rest a s = (tree.unary op s.0, derives.last_prefix op true s.1, shares.unary s.2)
last op false room ws rest a s = (s.0, derives.last_prefix op false s.1, s.2)

next : (op : UnaryOperator) (odd : Bool) (room : ℕ) (ws rest : List Word) (a : Tree) → SameOne (Prefixed op (not odd)) room ws (before op (not odd) a) rest
    → SameOne (Prefixed op odd) room (word.mark (profile_words.unary_mark op) ∷ ws) (before op odd (profile.unary op a)) rest
next op true room ws rest a s = (s.0, derives.next_prefix op true s.1, shares.twice s.2)
next op false room ws rest a s = (s.0, derives.next_prefix op false s.1, s.2)

shared : {c : grammar.Class} {room : ℕ} {ws : List Word} {p : grammar.Phrase} {rest : List Word} → grammar.Derives c room ws p rest → From c room ws p rest
shared (grammar.plain d) = let s = shared d in (s.0, derives.plain s.1, s.2)
shared (grammar.conditional d e f) =
    let s = shared d in let t = shared e in let u = shared f in
    (tree.ternary s.0 t.0 u.0, derives.conditional s.1 t.1 u.1, shares.ternary s.2 t.2 u.2)
shared (grammar.operand {room = room} {ws = ws} {rest = rest} {a = a} l d) =
    let s = operand l room ws rest a (shared d) in (s.0, derives.operand (level l) s.1, s.2)
shared (grammar.operation {room = room} {us = us} {rest = rest} {b = b} {l = l} {w = w} op is level_is d e) =
    let s = shared d in let t = operand l room us rest b (shared e) in
    (tree.binary op s.0 t.0, derives.operation op (same_operator w ∙ is) (same_level op ∙ ap level level_is) s.1 t.1, shares.binary s.2 t.2)
shared (grammar.unprefixed d) = let s = shared d in (s.0, derives.unprefixed s.1, s.2)
shared (grammar.prefixed op d) = let s = shared d true in (s.0, derives.prefixed op s.1, s.2)
shared (grammar.last_prefix {room = room} {ws = ws} {rest = rest} {a = a} op d) = λ odd. last op odd room ws rest a (shared d)
shared (grammar.next_prefix {room = room} {ws = ws} {rest = rest} {a = a} op d) = λ odd. next op odd room ws rest a (shared d (not odd))
shared (grammar.whole d) = let s = shared d in (s.0, derives.whole s.1, s.2)
shared (grammar.selection {n = n} is d) = let s = shared d in (tree.select s.0 Plain n, derives.selection is s.1, shares.select s.2)
shared (grammar.method_call {n = n} is d e) =
    let s = shared d in let t = (shared e).0 in (method_of s.0 n (wides t.0), derives.method_call is s.1 t.1, shares.method s.2 t.2)
shared (grammar.indexing d e) =
    let s = shared d in let t = shared e in (tree.index s.0 Plain t.0, derives.indexing Plain s.1 refl t.1, shares.index s.2 t.2)
shared (grammar.identifier {n = n} is) = (tree.name n, derives.identifier is, shares.name)
shared (grammar.function_call {n = n} is d) = let t = (shared d).0 in (call_of n (wides t.0), derives.function_call is t.1, shares.call t.2)
shared (grammar.bracket d) = let s = shared d in (s.0, derives.bracket s.1, s.2)
shared (grammar.constant {w = w} {v = v} is) = (tree.literal v, derives.constant (same_literal w v is), shares.literal)
shared (grammar.list_literal {vs = vs} {rest = rest} d x) = let t = (shared d).1 in (tree.list (tree.items t.0), derives.list_literal t.1 (comma vs _ x), shares.list_literal t.2)
shared (grammar.map_literal {vs = vs} {rest = rest} d x) = let t = shared d in (tree.map (tree.entries t.0), derives.map_literal t.1 (comma vs _ x), shares.map_literal t.2)
shared (grammar.no_items) = (([], derives.no_arguments, none), ([], derives.no_items, no_items))
shared (grammar.some_items d) = let s = shared d in ((s.0.0, derives.some_arguments s.0.1, s.0.2), (s.1.0, derives.some_items s.1.1, s.1.2))
shared (grammar.first_item d) =
    let s = shared d in
    ((s.0 ∷ [], derives.first_argument s.1, one_more none s.2), ((Plain, s.0) ∷ [], derives.first_item Plain refl s.1, next_item no_items s.2))
shared (grammar.next_item d e) =
    let s = shared d in let t = shared e in (
      (s.0.0 ++ t.0 ∷ [], derives.next_argument s.0.1 t.1, one_more s.0.2 t.2),
      (s.1.0 ++ (Plain, t.0) ∷ [], derives.next_item Plain s.1.1 refl t.1, next_item s.1.2 t.2),
    )
shared (grammar.no_pairs) = ([], derives.no_pairs, no_entries)
shared (grammar.some_pairs d) = let s = shared d in (s.0, derives.some_pairs s.1, s.2)
shared (grammar.first_pair d e) =
    let s = shared d in let t = shared e in ((Plain, s.0, t.0) ∷ [], derives.first_pair Plain refl s.1 t.1, next_entry no_entries s.2 t.2)
shared (grammar.next_pair d e f) =
    let s = shared d in let t = shared e in let u = shared f in
    (s.0 ++ (Plain, t.0, u.0) ∷ [], derives.next_pair Plain s.1 refl t.1 u.1, next_entry s.2 t.2 u.2)

-- words of the profile's expressions are those of wide ones
pub reads_the_profile : (room : ℕ) (ws : List Word) (a : Tree) → grammar.Derives grammar.Expression room ws (grammar.One a) []
    → AreSupported (map widened ws) × SameOne Expression room ws a []
reads_the_profile room ws a d = (supported ws, shared d)
