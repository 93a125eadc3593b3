-- A tree derived from the words of a text's tokens is well formed.
use Rattle.cel_reader.proofs.Prelude.{◌≡◌, ℕ, ◌-◌, List, [], ◌∷◌, map, take, drop, Option, Some, None, inl, inr, subst, All, IfSome, IfOk, Ok, Err, Result, FitsSigned, w64, IsUtf8, All-nil, All-cons, All-head, All-tail, All-push, IsUtf8-string_bytes, Word, Token, mark, token_view, word_of, mark_word, mark_of, Lexes, IntFits, lexemes_fit, Mark, CloseBracket, CloseBrace, CodeToken, ReadError, Tree, trees, entries, view, literal_of, words, Class, Phrase, One, Many, Keyed, Derives, OptionalComma, ParseReturns, IsWellFormedLiteral, IsWellFormed, AreWellFormed, HasWellFormedEntries, Expr}
use Rattle.std.specs.Prelude.{Bool, true, false, codes, bytes_eq, if◌then◌else◌}
use Rattle.cel_reader.specs.Tree as tree
use Rattle.cel_tokens.specs.Token as word
use Rattle.cel_tokens.specs.declared.kind.Kind.{Kind}
use Rattle.cel_tokens.specs.declared.kind.Kind.TheVariants as kind
use Rattle.cel_reader.specs.Grammar as derives

-- what holds of each word
abbrev pub IsPlain : Word → Type 0
IsPlain (word.int z) = FitsSigned w64 z
IsPlain (word.text bytes) = IsUtf8 bytes
IsPlain _ = Unit {0}

abbrev pub ArePlain : List Word → Type 0
ArePlain [] = Unit {0}
ArePlain (w ∷ ws) = IsPlain w × ArePlain ws

-- a key and its value
abbrev pub IsPair : Tree × Tree → Type 0
IsPair e = IsWellFormed e.0 × IsWellFormed e.1

-- a well-formed phrase
abbrev pub IsFormed : Phrase → Type 0
IsFormed (One a) = IsWellFormed a
IsFormed (Many items) = All IsWellFormed items
IsFormed (Keyed pairs) = All IsPair pairs

all_trees : (items : List Tree) → All IsWellFormed items → AreWellFormed (trees items)
all_trees [] f = tt
all_trees (a ∷ more) f = (All-head IsWellFormed a more f, all_trees more (All-tail IsWellFormed a more f))

all_entries : (pairs : List (Tree × Tree)) → All IsPair pairs → HasWellFormedEntries (entries pairs)
all_entries [] f = tt
all_entries (e ∷ more) f = let x = All-head IsPair e more f in (x.0, x.1, all_entries more (All-tail IsPair e more f))

-- the literal of a name or of a plain word
if_some_is : {X : Type 0} (P : X → Type 0) (o : Option X) (x : X) → IfSome o P → o ≡ Some x → P x
if_some_is {X} P o x f e = subst (λ (y : Option X). IfSome y P) e f

name_formed : (t f u : Bool)
    → IfSome (if t then Some (tree.truth true) else (if f then Some (tree.truth false) else (if u then Some tree.null else None))) IsWellFormedLiteral
name_formed true f u = tt
name_formed false true u = tt
name_formed false false true = tt
name_formed false false false = tt

word_formed : (w : Word) → IsPlain w → IfSome (literal_of w) IsWellFormedLiteral
word_formed (word.name n) p = name_formed (bytes_eq n (codes "true")) (bytes_eq n (codes "false")) (bytes_eq n (codes "null"))
word_formed (word.mark m) p = tt
word_formed _ p = p

behind_comma : (ws rest : List Word) → OptionalComma ws rest → ArePlain ws → ArePlain rest
behind_comma ws rest (inl e) p = subst ArePlain e p
behind_comma ws rest (inr e) p = (subst ArePlain e p).1

pub formed : {c : Class} {room : ℕ} {ws : List Word} {p : Phrase} {rest : List Word} → Derives c room ws p rest → ArePlain ws → IsFormed p × ArePlain rest
formed (derives.plain d) w = formed d w
formed (derives.conditional d e f) w = let x = formed d w in let y = formed e x.1.1 in let z = formed f y.1.1 in ((x.0, y.0, z.0), z.1)
formed (derives.operand l d) w = formed d w
formed (derives.operation op is level d e) w = let x = formed d w in let y = formed e x.1.1 in ((x.0, y.0), y.1)
formed (derives.unprefixed d) w = formed d w
formed (derives.prefixed op d) w = formed d w.1
formed (derives.last_prefix op d) w = formed d w
formed (derives.next_prefix op d) w = formed d w.1
formed (derives.whole d) w = formed d w
formed (derives.selection is d) w = let x = formed d w in ((x.0, is), x.1.1.1)
formed (derives.method_call {items = items} is d e) w = let x = formed d w in let y = formed e x.1.1.1.1 in ((x.0, is, all_trees items y.0), y.1.1)
formed (derives.indexing d e) w = let x = formed d w in let y = formed e x.1.1 in ((x.0, y.0), y.1.1)
formed (derives.identifier is) w = (is, w.1)
formed (derives.function_call {items = items} is d) w = let x = formed d w.1.1 in ((is, all_trees items x.0), x.1.1)
formed (derives.bracket d) w = let x = formed d w.1 in (x.0, x.1.1)
formed (derives.constant {w = k} {v = v} is) w = (if_some_is IsWellFormedLiteral (literal_of k) v (word_formed k w.0) is, w.1)
formed (derives.list_literal {vs = vs} {rest = rest} {items = items} d x) w = let y = formed d w.1 in (all_trees items y.0, (behind_comma vs (mark CloseBracket ∷ rest) x y.1).1)
formed (derives.map_literal {vs = vs} {rest = rest} {pairs = pairs} d x) w = let y = formed d w.1 in (all_entries pairs y.0, (behind_comma vs (mark CloseBrace ∷ rest) x y.1).1)
formed (derives.no_items) w = (All-nil IsWellFormed, w)
formed (derives.some_items d) w = formed d w
formed (derives.first_item {a = a} d) w = let x = formed d w in (All-cons IsWellFormed a [] x.0 (All-nil IsWellFormed), x.1)
formed (derives.next_item {items = items} {a = a} d e) w = let x = formed d w in let y = formed e x.1.1 in (All-push IsWellFormed items a x.0 y.0, y.1)
formed (derives.no_pairs) w = (All-nil IsPair, w)
formed (derives.some_pairs d) w = formed d w
formed (derives.first_pair {a = a} {b = b} d e) w = let x = formed d w in let y = formed e x.1.1 in (All-cons IsPair (a, b) [] (x.0, y.0) (All-nil IsPair), y.1)
formed (derives.next_pair {pairs = pairs} {a = a} {b = b} d e f) w = let x = formed d w in let y = formed e x.1.1 in let z = formed f y.1.1 in (All-push IsPair pairs (a, b) x.0 (y.0, z.0), z.1)

mark_plain : (o : Option Mark) → IsPlain (mark_word o)
mark_plain None = tt
mark_plain (Some m) = tt

-- the word of a token whose int fits
token_plain : (bytes : List ℕ) (k : Kind) → IntFits (word_of bytes k) → IsPlain (word_of bytes k)
token_plain bytes kind.Name f = tt
token_plain bytes (kind.Int z) f = f
token_plain bytes (kind.Text s) f = IsUtf8-string_bytes s
token_plain bytes kind.Mark f = mark_plain (mark_of bytes)

-- the words of a text's tokens
words_plain : (source : List ℕ) (tokens : List CodeToken) → All (λ l. IntFits l.word) (map (token_view source) tokens) → ArePlain (words source tokens)
words_plain source [] f = tt
words_plain source (t ∷ ts) f =
    let fits = All-head (λ (l : Token). IntFits l.word) (token_view source t) (map (token_view source) ts) f in
    (token_plain (take (t.end - t.place) (drop t.place source)) t.kind fits, words_plain source ts (All-tail (λ (l : Token). IntFits l.word) (token_view source t) (map (token_view source) ts) f))

-- the tree of a text
pub told_formed : (source : List ℕ) (tokens : List CodeToken) (r : Result Expr ReadError) → Lexes source (Ok (map (token_view source) tokens))
    → ParseReturns (words source tokens) r → IfOk r (λ e. IsWellFormed (view e))
told_formed source tokens (Ok e) l t = (formed t (words_plain source tokens (lexemes_fit source (map (token_view source) tokens) l))).0
told_formed source tokens (Err e) l t = tt
