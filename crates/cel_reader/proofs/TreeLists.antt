-- Trees and entries correspond to lists of them.
use Rattle.cel_reader.proofs.Prelude.{◌≡◌, List, [], ◌∷◌, length, refl, ap, arith, Tree, Trees, TreeEntries, no_trees, more_trees, no_entries, more_entries, trees, entries, tree_list, entry_list, tree_count, entry_count}

pub list_of_trees : (items : List Tree) → tree_list (trees items) ≡ items
list_of_trees [] = refl
list_of_trees (a ∷ more) = ap (λ (xs : List Tree). a ∷ xs) (list_of_trees more)

pub trees_of_list : (ts : Trees) → trees (tree_list ts) ≡ ts
trees_of_list no_trees = refl
trees_of_list (more_trees a more) = ap (more_trees a) (trees_of_list more)

pub count_of_trees : (ts : Trees) → tree_count ts ≡ length (tree_list ts)
count_of_trees no_trees = refl
count_of_trees (more_trees a more) = let e = count_of_trees more in omega (arith, e)

pub list_of_entries : (pairs : List (Tree × Tree)) → entry_list (entries pairs) ≡ pairs
list_of_entries [] = refl
list_of_entries (e ∷ more) = ap (λ (xs : List (Tree × Tree)). e ∷ xs) (list_of_entries more)

pub entries_of_list : (es : TreeEntries) → entries (entry_list es) ≡ es
entries_of_list no_entries = refl
entries_of_list (more_entries k v more) = ap (more_entries k v) (entries_of_list more)

pub count_of_entries : (es : TreeEntries) → entry_count es ≡ length (entry_list es)
count_of_entries no_entries = refl
count_of_entries (more_entries k v more) = let e = count_of_entries more in omega (arith, e)
