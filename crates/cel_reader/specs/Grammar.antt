-- The grammar of expressions (cel-spec, syntax).
use Rattle.std.specs.Prelude.{◌≡◌, ℕ, suc, List, [], ◌∷◌, ◌++◌, true, Some, ◌⊎◌}
use Rattle.cel_tokens.specs.Token.{Word, name, mark}
use Rattle.cel_tokens.specs.declared.mark.Mark.TheVariants.{Question, Colon, Dot, Comma, OpenParen, CloseParen, OpenBracket, CloseBracket}
use Rattle.cel_tokens.specs.declared.mark.Mark.TheVariants.{OpenBrace, CloseBrace}
use Rattle.cel_reader.specs.Tree as tree
use Rattle.cel_reader.specs.Tree.{Tree, Literal, trees, entries}
use Rattle.cel_reader.specs.Words.{is_identifier, is_selector, literal_of, operator_of, level_of, unary_mark}
use Rattle.cel_reader.specs.declared.level.Level.{Level, TheVariants.Or, TheVariants.And, TheVariants.Relation, TheVariants.Sum, TheVariants.Product}
use Rattle.cel_reader.specs.declared.operator.BinaryOperator.{BinaryOperator}
use Rattle.cel_reader.specs.declared.operator.UnaryOperator.{UnaryOperator}

-- the rows of the grammar: an expression; the operators of a level; an operand with the operators before
-- it; a member after any number of one operator; members; primaries; one or more expressions separated by
-- commas, or none; one or more keys with values, or none
pub data Class : Type 0 where
  Expression : Class
  Infix : Level → Class
  Unary : Class
  Prefixed : UnaryOperator → Class
  Member : Class
  Primary : Class
  Items : Class
  OptionalItems : Class
  Pairs : Class
  OptionalPairs : Class

-- the result of a phrase: one expression, several, or keys with values
pub data Phrase : Type 0 where
  One : Tree → Phrase
  Many : List Tree → Phrase
  Keyed : List (Tree × Tree) → Phrase

-- the row of the operands of the level's operators
abbrev pub below : Level → Class
below Or = Infix And
below And = Infix Relation
below Relation = Infix Sum
below Sum = Infix Product
below Product = Unary

-- `rest`, or a comma and `rest`
abbrev pub OptionalComma : List Word → List Word → Type 0
OptionalComma ws rest = (ws ≡ rest) ⊎ (ws ≡ mark Comma ∷ rest)

-- The first words of ws are a phrase of the row, in which at most `room` brackets and conditionals are open at any
-- word, and `rest` are the words after it. A conditional is open from its question mark to its end. One case for
-- each alternative; repeated operators nest to the left.
pub data Derives : Class → ℕ → List Word → Phrase → List Word → Type 0 where
  plain : {room : ℕ} {ws rest : List Word} {a : Tree} → Derives (Infix Or) room ws (One a) rest → Derives Expression room ws (One a) rest
  conditional : {room : ℕ} {ws us vs rest : List Word} {a b c : Tree} → Derives (Infix Or) (suc room) ws (One a) (mark Question ∷ us)
      → Derives (Infix Or) room us (One b) (mark Colon ∷ vs) → Derives Expression room vs (One c) rest
      → Derives Expression (suc room) ws (One (tree.ternary a b c)) rest
  operand : {room : ℕ} {ws rest : List Word} {a : Tree} (l : Level) → Derives (below l) room ws (One a) rest
      → Derives (Infix l) room ws (One a) rest
  operation : {room : ℕ} {ws us rest : List Word} {a b : Tree} {l : Level} {w : Word} (op : BinaryOperator) → operator_of w ≡ Some op
      → level_of op ≡ l → Derives (Infix l) room ws (One a) (w ∷ us) → Derives (below l) room us (One b) rest
      → Derives (Infix l) room ws (One (tree.binary op a b)) rest
  unprefixed : {room : ℕ} {ws rest : List Word} {a : Tree} → Derives Member room ws (One a) rest → Derives Unary room ws (One a) rest
  prefixed : {room : ℕ} {ws rest : List Word} {a : Tree} (op : UnaryOperator) → Derives (Prefixed op) room ws (One a) rest
      → Derives Unary room (mark (unary_mark op) ∷ ws) (One (tree.unary op a)) rest
  last_prefix : {room : ℕ} {ws rest : List Word} {a : Tree} (op : UnaryOperator) → Derives Member room ws (One a) rest
      → Derives (Prefixed op) room ws (One a) rest
  next_prefix : {room : ℕ} {ws rest : List Word} {a : Tree} (op : UnaryOperator) → Derives (Prefixed op) room ws (One a) rest
      → Derives (Prefixed op) room (mark (unary_mark op) ∷ ws) (One (tree.unary op a)) rest
  whole : {room : ℕ} {ws rest : List Word} {a : Tree} → Derives Primary room ws (One a) rest → Derives Member room ws (One a) rest
  selection : {room : ℕ} {ws rest : List Word} {a : Tree} {n : List ℕ} → is_selector n ≡ true
      → Derives Member room ws (One a) (mark Dot ∷ name n ∷ rest) → Derives Member room ws (One (tree.select a n)) rest
  method_call : {room : ℕ} {ws us rest : List Word} {a : Tree} {n : List ℕ} {items : List Tree} → is_selector n ≡ true
      → Derives Member (suc room) ws (One a) (mark Dot ∷ name n ∷ mark OpenParen ∷ us)
      → Derives OptionalItems room us (Many items) (mark CloseParen ∷ rest)
      → Derives Member (suc room) ws (One (tree.method a n (trees items))) rest
  indexing : {room : ℕ} {ws us rest : List Word} {a b : Tree} → Derives Member (suc room) ws (One a) (mark OpenBracket ∷ us)
      → Derives Expression room us (One b) (mark CloseBracket ∷ rest) → Derives Member (suc room) ws (One (tree.index a b)) rest
  identifier : {room : ℕ} {rest : List Word} {n : List ℕ} → is_identifier n ≡ true
      → Derives Primary room (name n ∷ rest) (One (tree.name n)) rest
  function_call : {room : ℕ} {us rest : List Word} {n : List ℕ} {items : List Tree} → is_identifier n ≡ true
      → Derives OptionalItems room us (Many items) (mark CloseParen ∷ rest)
      → Derives Primary (suc room) (name n ∷ mark OpenParen ∷ us) (One (tree.call n (trees items))) rest
  bracket : {room : ℕ} {us rest : List Word} {a : Tree} → Derives Expression room us (One a) (mark CloseParen ∷ rest)
      → Derives Primary (suc room) (mark OpenParen ∷ us) (One a) rest
  constant : {room : ℕ} {rest : List Word} {w : Word} {v : Literal} → literal_of w ≡ Some v
      → Derives Primary room (w ∷ rest) (One (tree.literal v)) rest
  list_literal : {room : ℕ} {us vs rest : List Word} {items : List Tree} → Derives OptionalItems room us (Many items) vs
      → OptionalComma vs (mark CloseBracket ∷ rest)
      → Derives Primary (suc room) (mark OpenBracket ∷ us) (One (tree.list (trees items))) rest
  map_literal : {room : ℕ} {us vs rest : List Word} {pairs : List (Tree × Tree)} → Derives OptionalPairs room us (Keyed pairs) vs
      → OptionalComma vs (mark CloseBrace ∷ rest) → Derives Primary (suc room) (mark OpenBrace ∷ us) (One (tree.map (entries pairs))) rest
  no_items : {room : ℕ} {ws : List Word} → Derives OptionalItems room ws (Many []) ws
  some_items : {room : ℕ} {ws rest : List Word} {items : List Tree} → Derives Items room ws (Many items) rest
      → Derives OptionalItems room ws (Many items) rest
  first_item : {room : ℕ} {ws rest : List Word} {a : Tree} → Derives Expression room ws (One a) rest
      → Derives Items room ws (Many (a ∷ [])) rest
  next_item : {room : ℕ} {ws us rest : List Word} {items : List Tree} {a : Tree} → Derives Items room ws (Many items) (mark Comma ∷ us)
      → Derives Expression room us (One a) rest → Derives Items room ws (Many (items ++ a ∷ [])) rest
  no_pairs : {room : ℕ} {ws : List Word} → Derives OptionalPairs room ws (Keyed []) ws
  some_pairs : {room : ℕ} {ws rest : List Word} {pairs : List (Tree × Tree)} → Derives Pairs room ws (Keyed pairs) rest
      → Derives OptionalPairs room ws (Keyed pairs) rest
  first_pair : {room : ℕ} {ws us rest : List Word} {a b : Tree} → Derives Expression room ws (One a) (mark Colon ∷ us)
      → Derives Expression room us (One b) rest → Derives Pairs room ws (Keyed ((a, b) ∷ [])) rest
  next_pair : {room : ℕ} {ws us vs rest : List Word} {pairs : List (Tree × Tree)} {a b : Tree}
      → Derives Pairs room ws (Keyed pairs) (mark Comma ∷ us) → Derives Expression room us (One a) (mark Colon ∷ vs)
      → Derives Expression room vs (One b) rest → Derives Pairs room ws (Keyed (pairs ++ (a, b) ∷ [])) rest
