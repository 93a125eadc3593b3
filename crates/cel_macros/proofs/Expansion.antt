-- Expansion keeps the tree and its meaning.
use Rattle.cel_macros.proofs.Prelude.{◌≡◌, ℕ, Bool, true, List, [], ◌∷◌, Option, Some, IfSome, bytes_eq, refl, ap, ◌∙◌, arith, Tree, Trees, TreeEntries, no_trees, more_trees, no_entries, more_entries, Value, ValueOrError, Environment, bind, truth, ternary_of, index_of, list_literal, map_literal, function_named, method_of, text_test_of, Macro, All, Exists, ExistsOne, Filter, Map, macro_name, macro_named, variables_name, is_map, is_has, is_variables, name_of, field_name, range_of, over_range, map_over_range, unary_of, binary_of, selected, called, meaning, operand_meaning, meanings, entry_meanings, Core, plain_tree, plain_trees, plain_entries, selection, call_or_has, method_or_fold, method_or_fold_map, expanded, expanded_operand, expanded_trees, expanded_entries, folded, folded_map, fold_meaning, fold_meanings, fold_entries}
use lib.Pointwise.{bytes_decides}
use Rattle.std.specs.Prelude.{codes}
use Rattle.cel_reader.specs.Tree as tree
use Rattle.cel_macros.proofs.Callees.{callee_back, found, function_stays, test_stays, weaker}
use Rattle.cel_macros.proofs.Folds.{folds_mean, fold_maps_mean}

-- ---- names

macro_back : (n : List ℕ) → IfSome (macro_named n) (λ m. macro_name m ≡ n)
unfolding macro_named
macro_back n = weaker (macro_named n) _ _ (λ m e. (bytes_decides (macro_name m) n).0 e) (found (λ m. bytes_eq (macro_name m) n) (All ∷ Exists ∷ ExistsOne ∷ Filter ∷ Map ∷ []))

name_back : (x : Tree) → IfSome (name_of x) (λ n. tree.name n ≡ x)
name_back x = grind arith

pub variables_back : (a : Tree) → is_variables a ≡ true → tree.name variables_name ≡ a
unfolding is_variables
variables_back a e = grind arith

has_back : (n : List ℕ) → is_has n ≡ true → codes "has" ≡ n
unfolding is_has
has_back n e = grind arith

map_back : (n : List ℕ) → is_map n ≡ true → macro_name Map ≡ n
unfolding is_map
map_back n e = grind arith

-- ---- the plain tree of each form

selection_plain : (b : Bool) (a : Tree) (f : List ℕ) → is_variables a ≡ b → plain_tree (expanded a) ≡ a → plain_tree (selection b f (expanded a)) ≡ tree.select a f
unfolding plain_tree
selection_plain b a f e h = grind (arith, variables_back)

call_plain : (b : Bool) (k : Option (List ℕ)) (n : List ℕ) (inner c : Core) (a : Tree) → is_has n ≡ b → IfSome k (λ f. tree.select (plain_tree inner) f ≡ a) → plain_tree c ≡ a → plain_tree (call_or_has b k n inner c) ≡ tree.call n (more_trees a no_trees)
unfolding plain_tree
call_plain b k n inner c a e h p = grind (arith, has_back, callee_back)

-- the list, the variable and the first expression of a macro
module _ (k : Option (List ℕ)) (n : List ℕ) (ca cx cp : Core) (a x p : Tree) (ek : IfSome k (λ i. tree.name i ≡ x)) (ha : plain_tree ca ≡ a) (hx : plain_tree cx ≡ x) (hp : plain_tree cp ≡ p) where
  fold_plain : (m : Option Macro) → IfSome m (λ m. macro_name m ≡ n)
      → plain_tree (method_or_fold m k n ca cx cp) ≡ tree.method a n (more_trees x (more_trees p no_trees))
  unfolding plain_tree
  fold_plain m em = grind (arith, callee_back)

  fold_map_plain : (b : Bool) (ct : Core) (t : Tree) → is_map n ≡ b → plain_tree ct ≡ t
      → plain_tree (method_or_fold_map b k n ca cx cp ct) ≡ tree.method a n (more_trees x (more_trees p (more_trees t no_trees)))
  unfolding plain_tree
  fold_map_plain b ct t e ht = grind (arith, map_back, callee_back)

mutual
  unfolding expanded plain_tree

  pub expansion_plain : (e : Tree) → plain_tree (expanded e) ≡ e
  expansion_plain (tree.select a f) = selection_plain (is_variables a) a f refl (expansion_plain a)
  expansion_plain (tree.index a k) = λ j. tree.index (expansion_plain a j) (expansion_plain k j)
  expansion_plain (tree.unary op a) = ap (tree.unary op) (expansion_plain a)
  expansion_plain (tree.binary op a b) = λ j. tree.binary op (expansion_plain a j) (expansion_plain b j)
  expansion_plain (tree.ternary c a b) = λ j. tree.ternary (expansion_plain c j) (expansion_plain a j) (expansion_plain b j)
  expansion_plain (tree.list items) = ap tree.list (trees_plain items)
  expansion_plain (tree.map es) = ap tree.map (entries_plain es)
  expansion_plain (tree.call n no_trees) = ap (λ m. tree.call m no_trees) (callee_back n)
  expansion_plain (tree.call n (more_trees a no_trees)) = call_plain (is_has n) (field_name a) n (expanded_operand a) (expanded a) a refl (operand_plain a) (expansion_plain a)
  expansion_plain (tree.call n (more_trees a (more_trees b more))) = λ j. tree.call (callee_back n j) (more_trees (expansion_plain a j) (more_trees (expansion_plain b j) (trees_plain more j)))
  expansion_plain (tree.method a n no_trees) = λ j. tree.method (expansion_plain a j) (callee_back n j) no_trees
  expansion_plain (tree.method a n (more_trees b no_trees)) = λ j. tree.method (expansion_plain a j) (callee_back n j) (more_trees (expansion_plain b j) no_trees)
  expansion_plain (tree.method a n (more_trees x (more_trees p no_trees))) =
      fold_plain (name_of x) n (expanded a) (expanded x) (expanded p) a x p (name_back x) (expansion_plain a) (expansion_plain x) (expansion_plain p) (macro_named n) (macro_back n)
  expansion_plain (tree.method a n (more_trees x (more_trees p (more_trees t no_trees)))) =
      fold_map_plain (name_of x) n (expanded a) (expanded x) (expanded p) a x p (name_back x) (expansion_plain a) (expansion_plain x) (expansion_plain p) (is_map n) (expanded t) t refl (expansion_plain t)
  expansion_plain (tree.method a n (more_trees x (more_trees p (more_trees t (more_trees u more))))) = λ j. tree.method (expansion_plain a j) (callee_back n j) (more_trees (expansion_plain x j) (more_trees (expansion_plain p j) (more_trees (expansion_plain t j) (more_trees (expansion_plain u j) (trees_plain more j)))))
  expansion_plain _ = refl

  operand_plain : (a : Tree) → IfSome (field_name a) (λ f. tree.select (plain_tree (expanded_operand a)) f ≡ a)
  operand_plain (tree.select a f) = grind (arith, expansion_plain a)
  operand_plain _ = tt

  trees_plain : (ts : Trees) → plain_trees (expanded_trees ts) ≡ ts
  trees_plain no_trees = refl
  trees_plain (more_trees a more) = grind (arith, expansion_plain a, trees_plain more)

  entries_plain : (es : TreeEntries) → plain_entries (expanded_entries es) ≡ es
  entries_plain no_entries = refl
  entries_plain (more_entries k v more) = grind (arith, expansion_plain k, expansion_plain v, entries_plain more)

-- ---- the meaning of each form

selection_means : (b : Bool) (f : List ℕ) (c : Core) (x : ValueOrError) (env : Environment) → fold_meaning c env ≡ x → fold_meaning (selection b f c) env ≡ selected b f x env
unfolding fold_meaning
selection_means b f c x env h = grind arith

call_means : (b : Bool) (k : Option (List ℕ)) (n : List ℕ) (inner c : Core) (x y : ValueOrError) (env : Environment) → IfSome k (λ f. fold_meaning inner env ≡ x) → fold_meaning c env ≡ y → fold_meaning (call_or_has b k n inner c) env ≡ called b k (function_named n) x y
unfolding fold_meaning
call_means b k n inner c x y env hx hy = grind (arith, function_stays)

-- the list and the first expression of a macro
module _ (n : List ℕ) (ca cx cp : Core) (env : Environment) (x : ValueOrError) (p : List ℕ → Value → ValueOrError) (ha : fold_meaning ca env ≡ x) (hp : (i : List ℕ) (v : Value) → fold_meaning cp (bind i v env) ≡ p i v) where
  fold_means : (m : Option Macro) (k : Option (List ℕ)) → fold_meaning (method_or_fold m k n ca cx cp) env ≡ over_range m k p (range_of x)
  unfolding fold_meaning
  fold_means (Some m) (Some i) = (λ j. folded m (λ v. hp i v j) (range_of (ha j))) ∙ folds_mean m i p (range_of x)
  fold_means _ _ = refl

  fold_map_means : (b : Bool) (k : Option (List ℕ)) (ct : Core) (f : List ℕ → Value → ValueOrError) → ((i : List ℕ) (v : Value) → fold_meaning ct (bind i v env) ≡ f i v)
      → fold_meaning (method_or_fold_map b k n ca cx cp ct) env ≡ map_over_range b k p f (range_of x)
  unfolding fold_meaning
  fold_map_means true (Some i) ct f ht = (λ j. folded_map (λ v. truth (hp i v j)) (λ v. ht i v j) (range_of (ha j))) ∙ fold_maps_mean i p f (range_of x)
  fold_map_means _ _ ct f ht = refl

mutual
  unfolding expanded fold_meaning meaning

  pub expansion_means : (e : Tree) (env : Environment) → fold_meaning (expanded e) env ≡ meaning e env
  expansion_means (tree.select a f) env = selection_means (is_variables a) f (expanded a) (meaning a env) env (expansion_means a env)
  expansion_means (tree.index a k) env = λ j. index_of (expansion_means a env j) (expansion_means k env j)
  expansion_means (tree.unary op a) env = ap (unary_of op) (expansion_means a env)
  expansion_means (tree.binary op a b) env = λ j. binary_of op (expansion_means a env j) (expansion_means b env j)
  expansion_means (tree.ternary c a b) env = λ j. ternary_of (expansion_means c env j) (expansion_means a env j) (expansion_means b env j)
  expansion_means (tree.list items) env = ap list_literal (trees_mean items env)
  expansion_means (tree.map es) env = ap map_literal (entries_mean es env)
  expansion_means (tree.call n (more_trees a no_trees)) env =
      call_means (is_has n) (field_name a) n (expanded_operand a) (expanded a) (operand_meaning a env) (meaning a env) env (operand_means a env) (expansion_means a env)
  expansion_means (tree.method a n no_trees) env = λ j. method_of (function_stays n j) (expansion_means a env j)
  expansion_means (tree.method a n (more_trees b no_trees)) env = λ j. text_test_of (test_stays n j) (expansion_means a env j) (expansion_means b env j)
  expansion_means (tree.method a n (more_trees x (more_trees p no_trees))) env =
      fold_means n (expanded a) (expanded x) (expanded p) env (meaning a env) (λ i v. meaning p (bind i v env)) (expansion_means a env) (λ i v. expansion_means p (bind i v env)) (macro_named n) (name_of x)
  expansion_means (tree.method a n (more_trees x (more_trees p (more_trees t no_trees)))) env =
      fold_map_means n (expanded a) (expanded x) (expanded p) env (meaning a env) (λ i v. meaning p (bind i v env)) (expansion_means a env) (λ i v. expansion_means p (bind i v env)) (is_map n) (name_of x) (expanded t) (λ i v. meaning t (bind i v env)) (λ i v. expansion_means t (bind i v env))
  expansion_means _ env = refl

  operand_means : (a : Tree) (env : Environment) → IfSome (field_name a) (λ f. fold_meaning (expanded_operand a) env ≡ operand_meaning a env)
  operand_means (tree.select a f) env = expansion_means a env
  operand_means _ env = tt

  trees_mean : (ts : Trees) (env : Environment) → fold_meanings (expanded_trees ts) env ≡ meanings ts env
  trees_mean no_trees env = refl
  trees_mean (more_trees a more) env = grind (arith, expansion_means a env, trees_mean more env)

  entries_mean : (es : TreeEntries) (env : Environment) → fold_entries (expanded_entries es) env ≡ entry_meanings es env
  entries_mean no_entries env = refl
  entries_mean (more_entries k v more) env = grind (arith, expansion_means k env, expansion_means v env, entries_mean more env)
