-- The code of a whole expression. It keeps the values of lists of literals in macros, and that of the root's field that
-- it evaluates first, if that makes the code shorter.
use Rattle.std.specs.Prelude.{ℕ, ◌+◌, ◌&&◌, List, ◌∷◌, ◌++◌, length, Option, Some, None, nat_le, if◌then◌else◌}
use Rattle.expression_code.specs.Limits.{word_limit}
use Rattle.insn_codec.specs.declared.insn.Insn.{Insn}
use Rattle.cel_macros.specs.CoreTree as core
use Rattle.cel_macros.specs.CoreTree.{Core, Cores}
use Rattle.cel_measures.specs.Measures.{need}
use Rattle.expression_code.specs.Code.KeptLists.{clear_code}
use Rattle.expression_code.specs.Gives.Paths.{kept_path_code}
use Rattle.expression_code.specs.Instructions.{ja}
use Rattle.expression_code.specs.Paths.{FrameUse, RootField, nothing_kept, with_lists, with_path}
use Rattle.expression_code.specs.Pieces.{size}
use Rattle.expression_code.specs.Variables.{memo_tail}
use Rattle.tree_code.specs.Code.Expressions.{code_of}
use Rattle.tree_code.specs.Code.KeptLists.{kept_lists, limit_with_path}
use Rattle.tree_code.specs.Code.Literals.{address_of}

-- a field of a root, or else the other path
abbrev pub path_or : Core → List ℕ → Option RootField → Option RootField
path_or (core.name n) f other = Some (record { root = n; field = f })
path_or _ f other = other

-- the field of a root that an expression evaluates first; an expression that begins with a call, a list or a map has
-- none
unfoldable pub first_path : Core → Option RootField
first_path (core.select a f) = path_or a f (first_path a)
first_path (core.has a f) = first_path a
first_path (core.index a b) = first_path a
first_path (core.method a n arguments) = first_path a
first_path (core.unary op a) = first_path a
first_path (core.binary op a b) = first_path a
first_path (core.ternary c a b) = first_path c
first_path (core.fold m n r e) = first_path r
first_path (core.fold_map n r e t) = first_path r
first_path _ = None

-- the path, if this number of words fits a frame, and few lists are kept
abbrev pub path_within : ℕ → ℕ → Option RootField → Option RootField
path_within words lists None = None
path_within words lists (Some path) = if nat_le words word_limit && nat_le lists limit_with_path then Some path else None

-- the path that an expression may keep: the frame has a further word for it, and few lists are kept
abbrev pub front_of : Core → Option RootField
front_of e = path_within (1 + need e) (length (kept_lists e)) (first_path e)

-- the shorter of two pieces; the first one if they have the same length
abbrev pub shorter : List Insn → List Insn → List Insn
shorter a b = if nat_le (size a) (size b) then a else b

-- the code that keeps these lists, after their words are emptied
abbrev pub code_keeping : List Cores → Core → List (List ℕ) → List (List ℕ × ℕ) → FrameUse → ℕ → ℕ → List Insn
code_keeping lists e ts rs words k p = clear_code 0 (length lists) ++ code_of e ts rs (with_lists lists words) k (p + length lists)

-- the code without a kept path
abbrev pub plain_code : Core → List (List ℕ) → List (List ℕ × ℕ) → ℕ → List Insn
plain_code e ts rs p = code_keeping (kept_lists e) e ts rs nothing_kept 0 p

-- the number of slots of the code of a path and of the store that keeps it
abbrev pub kept_path_slots : ℕ
kept_path_slots = 6

-- the code that keeps the path in word 0: after the path's code and a store, the expression uses the words from 1 on
abbrev pub keeping_code : RootField → Core → List (List ℕ) → List (List ℕ × ℕ) → ℕ → List Insn
keeping_code path e ts rs p =
    kept_path_code path (address_of ts path.field) (code_keeping (kept_lists e) e ts rs (with_path path) 1 (p + kept_path_slots))

-- the code that keeps the path if that is shorter
abbrev pub code_with : Option RootField → Core → List (List ℕ) → List (List ℕ × ℕ) → ℕ → List Insn
code_with None e ts rs p = plain_code e ts rs p
code_with (Some path) e ts rs p = shorter (plain_code e ts rs p) (keeping_code path e ts rs p)

-- the code of a whole expression, from the start of a frame
unfoldable pub whole_code : Core → List (List ℕ) → List (List ℕ × ℕ) → ℕ → List Insn
whole_code e ts rs p = code_with (front_of e) e ts rs p

-- the routine of variable n at slot p: its expression, from word 0 of its own frame, and its memo
abbrev pub routine_code : Core → List (List ℕ) → List (List ℕ × ℕ) → ℕ → ℕ → List Insn
routine_code e ts rs n p = whole_code e ts rs p ++ memo_tail n

-- a routine inside other code, after a jump over it
abbrev pub passed : List Insn → List Insn
passed piece = ja (size piece) ∷ piece
