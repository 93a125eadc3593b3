-- Words and trees that the profile's grammar and this one share.
use Rattle.std.specs.Prelude.{ℕ, List, [], ◌∷◌, ◌++◌, map}
use Rattle.cel_tokens.specs.Token as word
use Rattle.cel_tokens.specs.Token.{Word}
use Rattle.cel_reader.specs.Tree as profile
use Rattle.cel_reader.specs.Tree.{Tree, Literal, trees}
use Rattle.cel_reader.specs.Answers as profile_answers
use Rattle.cel_reader.specs.declared.operator.BinaryOperator.{BinaryOperator}
use Rattle.cel_reader.specs.declared.operator.UnaryOperator.{UnaryOperator}
use Rattle.wide_tokens.specs.Token as wide_word
use Rattle.wide_tokens.specs.Token.{WideWord}
use Rattle.wide_reader.specs.Tree as tree
use Rattle.wide_reader.specs.Tree.{Wide, wides, items, entries}
use Rattle.wide_reader.specs.Forms.{method_of, call_of}
use Rattle.wide_reader.specs.Answers.{AreSupported, IsWideExpression}
use Rattle.wide_reader.specs.declared.wide.Access.{Access, TheVariants.Plain}

-- a word of the profile as one of these words
abbrev pub widened : Word → WideWord
widened (word.name n) = wide_word.name n
widened (word.int z) = wide_word.int z
widened (word.text said) = wide_word.text said
widened (word.mark m) = wide_word.mark m

mutual
  -- the wide tree of a profile tree: macros are resolved, and two of one operator may leave no node
  pub data Widens : Tree → Wide → Type 0 where
    literal : {l : Literal} → Widens (profile.literal l) (tree.literal l)
    name : {n : List ℕ} → Widens (profile.name n) (tree.name n)
    select : {a : Tree} {w : Wide} {n : List ℕ} → Widens a w → Widens (profile.select a n) (tree.select w Plain n)
    index : {a b : Tree} {w u : Wide} → Widens a w → Widens b u → Widens (profile.index a b) (tree.index w Plain u)
    call : {n : List ℕ} {xs : List Tree} {ws : List Wide} → AllWiden xs ws → Widens (profile.call n (trees xs)) (call_of n (wides ws))
    method : {a : Tree} {w : Wide} {n : List ℕ} {xs : List Tree} {ws : List Wide} → Widens a w → AllWiden xs ws
        → Widens (profile.method a n (trees xs)) (method_of w n (wides ws))
    unary : {op : UnaryOperator} {a : Tree} {w : Wide} → Widens a w → Widens (profile.unary op a) (tree.unary op w)
    twice : {op : UnaryOperator} {a : Tree} {w : Wide} → Widens a w → Widens (profile.unary op (profile.unary op a)) w
    binary : {op : BinaryOperator} {a b : Tree} {w u : Wide} → Widens a w → Widens b u
        → Widens (profile.binary op a b) (tree.binary op w u)
    ternary : {a b c : Tree} {w u x : Wide} → Widens a w → Widens b u → Widens c x → Widens (profile.ternary a b c) (tree.ternary w u x)
    list_literal : {xs : List Tree} {ws : List (Access × Wide)} → ItemsWiden xs ws → Widens (profile.list (trees xs)) (tree.list (items ws))
    map_literal : {es : List (Tree × Tree)} {ws : List (Access × Wide × Wide)} → EntriesWiden es ws
        → Widens (profile.map (profile.entries es)) (tree.map (entries ws))

  -- the wide trees of arguments, in order
  pub data AllWiden : List Tree → List Wide → Type 0 where
    none : AllWiden [] []
    one_more : {xs : List Tree} {ws : List Wide} {a : Tree} {w : Wide} → AllWiden xs ws → Widens a w
        → AllWiden (xs ++ a ∷ []) (ws ++ w ∷ [])

  -- the items of a list literal, in order, without question marks
  pub data ItemsWiden : List Tree → List (Access × Wide) → Type 0 where
    no_items : ItemsWiden [] []
    next_item : {xs : List Tree} {ws : List (Access × Wide)} {a : Tree} {w : Wide} → ItemsWiden xs ws → Widens a w
        → ItemsWiden (xs ++ a ∷ []) (ws ++ (Plain, w) ∷ [])

  -- the entries of a map literal, in order, without question marks
  pub data EntriesWiden : List (Tree × Tree) → List (Access × Wide × Wide) → Type 0 where
    no_entries : EntriesWiden [] []
    next_entry : {es : List (Tree × Tree)} {ws : List (Access × Wide × Wide)} {a b : Tree} {w u : Wide} → EntriesWiden es ws
        → Widens a w → Widens b u → EntriesWiden (es ++ (a, b) ∷ []) (ws ++ (Plain, w, u) ∷ [])

-- words that are an expression of the profile are supported here, and the same expression
abbrev pub ReadsTheProfile : Type 0
ReadsTheProfile = (room : ℕ) (ws : List Word) (a : Tree) → profile_answers.IsExpression room ws a
    → AreSupported (map widened ws) × ((w : Wide) × IsWideExpression room (map widened ws) w × Widens a w)
