-- The grammar of expressions as API servers store them (cel-spec, syntax, and cel-go's optional parts).
use Rattle.std.specs.Prelude.{◌≡◌, ℕ, suc, List, [], ◌∷◌, ◌++◌, Bool, true, false, not, Some, ◌⊎◌}
use Rattle.wide_tokens.specs.Token.{WideWord, name, quoted, mark}
use Rattle.wide_tokens.specs.Quoted.{is_quoted_name}
use Rattle.cel_tokens.specs.declared.mark.Mark.TheVariants.{Question, Colon, Dot, Comma, OpenParen, CloseParen, OpenBracket, CloseBracket}
use Rattle.cel_tokens.specs.declared.mark.Mark.TheVariants.{OpenBrace, CloseBrace}
use Rattle.cel_reader.specs.Words.{is_identifier, is_selector, unary_mark}
use Rattle.cel_reader.specs.declared.operator.BinaryOperator.{BinaryOperator}
use Rattle.cel_reader.specs.declared.operator.UnaryOperator.{UnaryOperator}
use Rattle.wide_reader.specs.Tree as tree
use Rattle.wide_reader.specs.Tree.{Wide, wides, items, entries}
use Rattle.wide_reader.specs.Forms.{method_of, call_of}
use Rattle.wide_reader.specs.Words.{literal_of, operator_of, level_of}
use Rattle.wide_reader.specs.declared.level.Level.{Level, TheVariants.Or, TheVariants.And, TheVariants.Relation, TheVariants.Sum, TheVariants.Product}
use Rattle.wide_reader.specs.declared.wide.Access.{Access, TheVariants.Plain, TheVariants.Optional}

-- the rows of the grammar: an expression; the operators of a level; an operand with the operators before it; a member
-- after some of one operator, `true` after an odd number; members; primaries; one or more arguments, or none; one or
-- more items of a list literal, or none; one or more keys with values, or none
pub data WideClass : Type 0 where
  Expression : WideClass
  Infix : Level → WideClass
  Unary : WideClass
  Prefixed : UnaryOperator → Bool → WideClass
  Member : WideClass
  Primary : WideClass
  Arguments : WideClass
  OptionalArguments : WideClass
  Items : WideClass
  OptionalItems : WideClass
  Pairs : WideClass
  OptionalPairs : WideClass

-- the result of a phrase: one expression, arguments, items, or keys with values
pub data WidePhrase : Type 0 where
  One : Wide → WidePhrase
  Many : List Wide → WidePhrase
  Listed : List (Access × Wide) → WidePhrase
  Keyed : List (Access × Wide × Wide) → WidePhrase

-- the row of the operands of the level's operators
abbrev pub below : Level → WideClass
below Or = Infix And
below And = Infix Relation
below Relation = Infix Sum
below Sum = Infix Product
below Product = Unary

-- an operand after operators, of which an even number leaves no node
abbrev pub applied : UnaryOperator → Bool → Wide → Wide
applied op true a = tree.unary op a
applied op false a = a

-- `rest`, or a question mark and `rest`
abbrev pub Marked : Access → List WideWord → List WideWord → Type 0
Marked Plain ws rest = ws ≡ rest
Marked Optional ws rest = ws ≡ mark Question ∷ rest

-- `rest`, or a comma and `rest`
abbrev pub WideOptionalComma : List WideWord → List WideWord → Type 0
WideOptionalComma ws rest = (ws ≡ rest) ⊎ (ws ≡ mark Comma ∷ rest)

-- The first words of ws are a phrase of the row, in which at most `room` brackets and conditionals are open at any
-- word, and `rest` are the words after it. A conditional is open from its question mark to its end; a question mark
-- of a field, an index, an item or an entry opens nothing. One case for each alternative; repeated operators nest to
-- the left.
pub data WideDerives : WideClass → ℕ → List WideWord → WidePhrase → List WideWord → Type 0 where
  plain : {room : ℕ} {ws rest : List WideWord} {a : Wide} → WideDerives (Infix Or) room ws (One a) rest
      → WideDerives Expression room ws (One a) rest
  conditional : {room : ℕ} {ws us vs rest : List WideWord} {a b c : Wide}
      → WideDerives (Infix Or) (suc room) ws (One a) (mark Question ∷ us)
      → WideDerives (Infix Or) room us (One b) (mark Colon ∷ vs) → WideDerives Expression room vs (One c) rest
      → WideDerives Expression (suc room) ws (One (tree.ternary a b c)) rest
  operand : {room : ℕ} {ws rest : List WideWord} {a : Wide} (l : Level) → WideDerives (below l) room ws (One a) rest
      → WideDerives (Infix l) room ws (One a) rest
  operation : {room : ℕ} {ws us rest : List WideWord} {a b : Wide} {l : Level} {w : WideWord} (op : BinaryOperator)
      → operator_of w ≡ Some op → level_of op ≡ l → WideDerives (Infix l) room ws (One a) (w ∷ us) → WideDerives (below l) room us (One b) rest
      → WideDerives (Infix l) room ws (One (tree.binary op a b)) rest
  unprefixed : {room : ℕ} {ws rest : List WideWord} {a : Wide} → WideDerives Member room ws (One a) rest
      → WideDerives Unary room ws (One a) rest
  prefixed : {room : ℕ} {ws rest : List WideWord} {a : Wide} (op : UnaryOperator) → WideDerives (Prefixed op true) room ws (One a) rest
      → WideDerives Unary room (mark (unary_mark op) ∷ ws) (One a) rest
  last_prefix : {room : ℕ} {ws rest : List WideWord} {a : Wide} (op : UnaryOperator) (odd : Bool)
      → WideDerives Member room ws (One a) rest → WideDerives (Prefixed op odd) room ws (One (applied op odd a)) rest
  next_prefix : {room : ℕ} {ws rest : List WideWord} {a : Wide} (op : UnaryOperator) (odd : Bool)
      → WideDerives (Prefixed op (not odd)) room ws (One a) rest
      → WideDerives (Prefixed op odd) room (mark (unary_mark op) ∷ ws) (One a) rest
  whole : {room : ℕ} {ws rest : List WideWord} {a : Wide} → WideDerives Primary room ws (One a) rest
      → WideDerives Member room ws (One a) rest
  selection : {room : ℕ} {ws rest : List WideWord} {a : Wide} {n : List ℕ} → is_selector n ≡ true
      → WideDerives Member room ws (One a) (mark Dot ∷ name n ∷ rest) → WideDerives Member room ws (One (tree.select a Plain n)) rest
  quoted_selection : {room : ℕ} {ws rest : List WideWord} {a : Wide} {n : List ℕ} → is_quoted_name n ≡ true
      → WideDerives Member room ws (One a) (mark Dot ∷ quoted n ∷ rest) → WideDerives Member room ws (One (tree.select a Plain n)) rest
  optional_selection : {room : ℕ} {ws rest : List WideWord} {a : Wide} {n : List ℕ} → is_selector n ≡ true
      → WideDerives Member room ws (One a) (mark Dot ∷ mark Question ∷ name n ∷ rest)
      → WideDerives Member room ws (One (tree.select a Optional n)) rest
  optional_quoted_selection : {room : ℕ} {ws rest : List WideWord} {a : Wide} {n : List ℕ} → is_quoted_name n ≡ true
      → WideDerives Member room ws (One a) (mark Dot ∷ mark Question ∷ quoted n ∷ rest)
      → WideDerives Member room ws (One (tree.select a Optional n)) rest
  method_call : {room : ℕ} {ws us rest : List WideWord} {a : Wide} {n : List ℕ} {more : List Wide} → is_selector n ≡ true
      → WideDerives Member (suc room) ws (One a) (mark Dot ∷ name n ∷ mark OpenParen ∷ us)
      → WideDerives OptionalArguments room us (Many more) (mark CloseParen ∷ rest)
      → WideDerives Member (suc room) ws (One (method_of a n (wides more))) rest
  indexing : {room : ℕ} {ws us vs rest : List WideWord} {a b : Wide} (o : Access)
      → WideDerives Member (suc room) ws (One a) (mark OpenBracket ∷ us)
      → Marked o us vs → WideDerives Expression room vs (One b) (mark CloseBracket ∷ rest)
      → WideDerives Member (suc room) ws (One (tree.index a o b)) rest
  identifier : {room : ℕ} {rest : List WideWord} {n : List ℕ} → is_identifier n ≡ true
      → WideDerives Primary room (name n ∷ rest) (One (tree.name n)) rest
  root : {room : ℕ} {rest : List WideWord} {n : List ℕ} → is_identifier n ≡ true
      → WideDerives Primary room (mark Dot ∷ name n ∷ rest) (One (tree.root n)) rest
  function_call : {room : ℕ} {us rest : List WideWord} {n : List ℕ} {more : List Wide} → is_identifier n ≡ true
      → WideDerives OptionalArguments room us (Many more) (mark CloseParen ∷ rest)
      → WideDerives Primary (suc room) (name n ∷ mark OpenParen ∷ us) (One (call_of n (wides more))) rest
  root_call : {room : ℕ} {us rest : List WideWord} {n : List ℕ} {more : List Wide} → is_identifier n ≡ true
      → WideDerives OptionalArguments room us (Many more) (mark CloseParen ∷ rest)
      → WideDerives Primary (suc room) (mark Dot ∷ name n ∷ mark OpenParen ∷ us) (One (call_of n (wides more))) rest
  bracket : {room : ℕ} {us rest : List WideWord} {a : Wide} → WideDerives Expression room us (One a) (mark CloseParen ∷ rest)
      → WideDerives Primary (suc room) (mark OpenParen ∷ us) (One a) rest
  constant : {room : ℕ} {rest : List WideWord} {w : WideWord} {v : Wide} → literal_of w ≡ Some v
      → WideDerives Primary room (w ∷ rest) (One v) rest
  list_literal : {room : ℕ} {us vs rest : List WideWord} {more : List (Access × Wide)}
      → WideDerives OptionalItems room us (Listed more) vs
      → WideOptionalComma vs (mark CloseBracket ∷ rest)
      → WideDerives Primary (suc room) (mark OpenBracket ∷ us) (One (tree.list (items more))) rest
  map_literal : {room : ℕ} {us vs rest : List WideWord} {pairs : List (Access × Wide × Wide)}
      → WideDerives OptionalPairs room us (Keyed pairs) vs
      → WideOptionalComma vs (mark CloseBrace ∷ rest)
      → WideDerives Primary (suc room) (mark OpenBrace ∷ us) (One (tree.map (entries pairs))) rest
  no_arguments : {room : ℕ} {ws : List WideWord} → WideDerives OptionalArguments room ws (Many []) ws
  some_arguments : {room : ℕ} {ws rest : List WideWord} {more : List Wide} → WideDerives Arguments room ws (Many more) rest
      → WideDerives OptionalArguments room ws (Many more) rest
  first_argument : {room : ℕ} {ws rest : List WideWord} {a : Wide} → WideDerives Expression room ws (One a) rest
      → WideDerives Arguments room ws (Many (a ∷ [])) rest
  next_argument : {room : ℕ} {ws us rest : List WideWord} {more : List Wide} {a : Wide}
      → WideDerives Arguments room ws (Many more) (mark Comma ∷ us)
      → WideDerives Expression room us (One a) rest → WideDerives Arguments room ws (Many (more ++ a ∷ [])) rest
  no_items : {room : ℕ} {ws : List WideWord} → WideDerives OptionalItems room ws (Listed []) ws
  some_items : {room : ℕ} {ws rest : List WideWord} {more : List (Access × Wide)} → WideDerives Items room ws (Listed more) rest
      → WideDerives OptionalItems room ws (Listed more) rest
  first_item : {room : ℕ} {ws us rest : List WideWord} {a : Wide} (o : Access) → Marked o ws us
      → WideDerives Expression room us (One a) rest
      → WideDerives Items room ws (Listed ((o, a) ∷ [])) rest
  next_item : {room : ℕ} {ws us vs rest : List WideWord} {more : List (Access × Wide)} {a : Wide} (o : Access)
      → WideDerives Items room ws (Listed more) (mark Comma ∷ us) → Marked o us vs → WideDerives Expression room vs (One a) rest
      → WideDerives Items room ws (Listed (more ++ (o, a) ∷ [])) rest
  no_pairs : {room : ℕ} {ws : List WideWord} → WideDerives OptionalPairs room ws (Keyed []) ws
  some_pairs : {room : ℕ} {ws rest : List WideWord} {pairs : List (Access × Wide × Wide)} → WideDerives Pairs room ws (Keyed pairs) rest
      → WideDerives OptionalPairs room ws (Keyed pairs) rest
  first_pair : {room : ℕ} {ws us vs rest : List WideWord} {a b : Wide} (o : Access) → Marked o ws us
      → WideDerives Expression room us (One a) (mark Colon ∷ vs) → WideDerives Expression room vs (One b) rest
      → WideDerives Pairs room ws (Keyed ((o, a, b) ∷ [])) rest
  next_pair : {room : ℕ} {ws us vs xs rest : List WideWord} {pairs : List (Access × Wide × Wide)} {a b : Wide} (o : Access)
      → WideDerives Pairs room ws (Keyed pairs) (mark Comma ∷ us) → Marked o us vs
      → WideDerives Expression room vs (One a) (mark Colon ∷ xs)
      → WideDerives Expression room xs (One b) rest → WideDerives Pairs room ws (Keyed (pairs ++ (o, a, b) ∷ [])) rest
