-- The words of the frame that hold the items of the macros around an expression, or a path outside all macros, and
-- those that keep lists.
use Rattle.std.specs.Prelude.{ℕ, List, [], ◌∷◌, ◌<◌, ◌≤◌, length, map}
use Rattle.std.specs.Borrow.{Bor}
use Rattle.cel_macros.specs.CoreTree.{Cores}
use Rattle.cel_macros.specs.CoreView.{core_view, cores}
use Rattle.cel_macros.specs.declared.core_tree.Core.{Core as CodeCore}
use Rattle.expression_code.specs.Limits.{frame_words}
use Rattle.expression_code.specs.Paths.{FrameUse, list_word, nothing_kept, with_lists, with_name, with_path}
use Rattle.expression_code.specs.Paths as paths
use Rattle.expression_code.specs.Limits.{word_limit}
use Rattle.tree_code.specs.declared.frame_words.FrameWords.{FrameWords}
use Rattle.tree_code.specs.declared.frame_words.FrameWords.TheOpen.{FrameWords-F}
use Rattle.tree_code.specs.declared.frame_words.FrameWords.TheOpen as layer
use Rattle.tree_code.specs.declared.frame_words.FrameWords.TheFolds.{fold-FrameWords}
use Rattle.tree_code.specs.declared.path.Path.{Path}

-- a field of a root as plain data, without the addresses of its names
abbrev pub path_view : Path → paths.RootField
path_view p = record { root = p.root.now; field = p.field.now }

-- lists as plain data
abbrev pub lists_view : List (Bor (List CodeCore)) → List Cores
lists_view lists = map (λ l. cores (map core_view l.now)) lists

-- one layer, and the words of the macros around it
abbrev pub words_step : FrameWords-F FrameUse → FrameUse
words_step (layer.Outside lists) = with_lists (lists_view lists.now) nothing_kept
words_step (layer.Keeping path lists) = with_lists (lists_view lists.now) (with_path (path_view path))
words_step (layer.Within n k outer) = with_name n.now k outer.now

-- each iteration name with its word, the innermost first, and the path that word 0 keeps
abbrev pub words_of : FrameWords → FrameUse
words_of = fold-FrameWords FrameUse words_step

-- each of them is a word of the frame that a load can reach
abbrev pub AreItems : List (List ℕ × ℕ) → Type 0
AreItems [] = Unit {0}
AreItems (w ∷ more) = (w.1 < word_limit) × AreItems more

-- each word that holds an item or keeps a list is one that a load can reach
abbrev pub AreWords : FrameUse → Type 0
AreWords words = AreItems words.items × (list_word (length words.lists) ≤ frame_words)
