-- Short notation for trees, for cases that are worked out by hand.
use Rattle.std.specs.Prelude.{ℕ, pos, neg_ℤ, List, true, false, codes}
use Prim.Native.String.{String}
use Rattle.cel_reader.specs.Tree as tree
use Rattle.cel_reader.specs.Tree.{Tree, trees, entries}

-- an int literal without a sign
abbrev pub num : ℕ → Tree
num n = tree.literal (tree.int (pos n))

-- a literal with its sign
abbrev pub neg : ℕ → Tree
neg n = tree.literal (tree.int (neg_ℤ (pos n)))

-- a text literal
abbrev pub str : String → Tree
str s = tree.literal (tree.text (codes s))

-- a text literal by its bytes
abbrev pub bytes : List ℕ → Tree
bytes bs = tree.literal (tree.text bs)

-- the literal true
abbrev pub yes : Tree
yes = tree.literal (tree.truth true)

-- the literal false
abbrev pub no : Tree
no = tree.literal (tree.truth false)

-- the literal null
abbrev pub nothing : Tree
nothing = tree.literal tree.null

-- an identifier
abbrev pub name : String → Tree
name n = tree.name (codes n)

-- the field f of an operand
abbrev pub dot : Tree → String → Tree
dot a f = tree.select a (codes f)

-- a call of the function n
abbrev pub call : String → List Tree → Tree
call n arguments = tree.call (codes n) (trees arguments)

-- a call of the method n of an operand
abbrev pub method : Tree → String → List Tree → Tree
method a n arguments = tree.method a (codes n) (trees arguments)

-- a list literal of these elements
abbrev pub list_literal : List Tree → Tree
list_literal items = tree.list (trees items)

-- a map literal of these entries, each a key and its value
abbrev pub map_literal : List (Tree × Tree) → Tree
map_literal pairs = tree.map (entries pairs)
