-- Expressions are equal exactly if they are the same.
use Rattle.std.proofs.Common.{◌≡◌, ◌≢◌, ◌&&◌, ℕ, ℤ, pos, negsuc, Bool, true, false, List, [], ◌∷◌, length, map as each, bytes_eq, refl, sym, ap, ◌∙◌, arith, true≢false}
use lib.Pointwise.{bytes_decides}
use Rattle.std.proofs.lemmas.Bool.{and_from, and_parts, false≢true}
use Rattle.std.proofs.lemmas.Bool.Decides.{nat_tests}
use Rattle.cel_reader.specs.declared.operator.UnaryOperator.{UnaryOperator, TheVariants.Not, TheVariants.Negate}
use Rattle.cel_reader.specs.declared.operator.BinaryOperator.{BinaryOperator}
use Rattle.cel_reader.specs.declared.operator.BinaryOperator.TheVariants.{Or, And, Less, LessEqual, GreaterEqual, Greater, Equal, NotEqual, In, Add, Subtract, Multiply, Divide, Remainder}
use Rattle.cel_writer.specs.Printed.{operator_text, prefix_text}
use Rattle.cel_reader.specs.Tree as tree
use Rattle.cel_reader.specs.Tree.{Tree, Trees, no_trees, more_trees, TreeEntries, no_entries, more_entries, trees, entries, view}
use Rattle.cel_reader.specs.declared.expr.Expr.{Expr}
use Rattle.std.specs.declared.alloc.Global.{Global}
use Rattle.std.specs.declared.vec.Vec.{Vec}
use Rattle.cel_reader.specs.declared.expr.Expr as code
use Rattle.cel_writer.proofs.Views.{view_map}
use Rattle.cel_writer.specs.Same.{same_truth, same_int, same_literal, same_tree, same_trees, same_entries}

abbrev pub same_lists : List Expr → List Expr → Bool
same_lists a b = same_trees (trees (each view a)) (trees (each view b))

abbrev pub same_pairs : List (Expr × Expr) → List (Expr × Expr) → Bool
same_pairs a b = same_entries (entries (each (λ e. (view e.0, view e.1)) a)) (entries (each (λ e. (view e.0, view e.1)) b))

pub other_length : (a b : List Expr) → (length a ≢ length b) → same_lists a b ≡ false
other_length [] [] n = absurd (n refl)
other_length (x ∷ xs) (y ∷ ys) n = grind (arith, other_length xs ys)
other_length _ _ n = refl

pub other_entries : (a b : List (Expr × Expr)) → (length a ≢ length b) → same_pairs a b ≡ false
other_entries [] [] n = absurd (n refl)
other_entries (x ∷ xs) (y ∷ ys) n = grind (arith, other_entries xs ys)
other_entries _ _ n = refl

-- ---- what is the same is equal

bytes_is : (a b : List ℕ) → bytes_eq a b ≡ true → a ≡ b
bytes_is a b h = (bytes_decides a b).0 h

int_is : (a b : ℤ) → same_int a b ≡ true → a ≡ b
int_is (pos a) (pos b) h = ap pos (grind (arith, nat_tests))
int_is (negsuc a) (negsuc b) h = ap negsuc (grind (arith, nat_tests))
int_is (pos a) (negsuc b) h = absurd (false≢true h)
int_is (negsuc a) (pos b) h = absurd (false≢true h)

truth_is : (a b : Bool) → same_truth a b ≡ true → a ≡ b
truth_is true b h = sym h
truth_is false true h = absurd (false≢true h)
truth_is false false h = refl

literal_is : (a b : tree.Literal) → same_literal a b ≡ true → a ≡ b
literal_is (tree.int a) (tree.int b) h = ap tree.int (int_is a b h)
literal_is (tree.text a) (tree.text b) h = ap tree.text (bytes_is a b h)
literal_is (tree.truth a) (tree.truth b) h = ap tree.truth (truth_is a b h)
literal_is tree.null tree.null h = refl
literal_is _ _ h = absurd (false≢true h)

prefix_is : (a b : UnaryOperator) → bytes_eq (prefix_text a) (prefix_text b) ≡ true → a ≡ b
prefix_is Not Not h = refl
prefix_is Negate Negate h = refl
prefix_is _ _ h = absurd (false≢true h)

operator_is : (a b : BinaryOperator) → bytes_eq (operator_text a) (operator_text b) ≡ true → a ≡ b
operator_is Or Or h = refl
operator_is And And h = refl
operator_is Less Less h = refl
operator_is LessEqual LessEqual h = refl
operator_is GreaterEqual GreaterEqual h = refl
operator_is Greater Greater h = refl
operator_is Equal Equal h = refl
operator_is NotEqual NotEqual h = refl
operator_is In In h = refl
operator_is Add Add h = refl
operator_is Subtract Subtract h = refl
operator_is Multiply Multiply h = refl
operator_is Divide Divide h = refl
operator_is Remainder Remainder h = refl
operator_is _ _ h = absurd (false≢true h)

mutual
  pub same_is : (a b : Tree) → same_tree a b ≡ true → a ≡ b
  same_is (tree.literal l) (tree.literal m) h = ap tree.literal (literal_is l m h)
  same_is (tree.name n) (tree.name m) h = ap tree.name (bytes_is n m h)
  same_is (tree.select a f) (tree.select b g) h =
      let p = and_parts (same_tree a b) (bytes_eq f g) h in λ i. tree.select (same_is a b p.0 i) (bytes_is f g p.1 i)
  same_is (tree.index a k) (tree.index b l) h =
      let p = and_parts (same_tree a b) (same_tree k l) h in λ i. tree.index (same_is a b p.0 i) (same_is k l p.1 i)
  same_is (tree.call n xs) (tree.call m ys) h =
      let p = and_parts (bytes_eq n m) (same_trees xs ys) h in λ i. tree.call (bytes_is n m p.0 i) (trees_are xs ys p.1 i)
  same_is (tree.method a n xs) (tree.method b m ys) h =
      let p = and_parts (same_tree a b) (bytes_eq n m && same_trees xs ys) h in
      let q = and_parts (bytes_eq n m) (same_trees xs ys) p.1 in
      λ i. tree.method (same_is a b p.0 i) (bytes_is n m q.0 i) (trees_are xs ys q.1 i)
  same_is (tree.unary op a) (tree.unary sign b) h =
      let p = and_parts (bytes_eq (prefix_text op) (prefix_text sign)) (same_tree a b) h in λ i. tree.unary (prefix_is op sign p.0 i) (same_is a b p.1 i)
  same_is (tree.binary op a b) (tree.binary sign c d) h =
      let p = and_parts (bytes_eq (operator_text op) (operator_text sign)) (same_tree a c && same_tree b d) h in
      let q = and_parts (same_tree a c) (same_tree b d) p.1 in
      λ i. tree.binary (operator_is op sign p.0 i) (same_is a c q.0 i) (same_is b d q.1 i)
  same_is (tree.ternary a b c) (tree.ternary d e f) h =
      let p = and_parts (same_tree a d) (same_tree b e && same_tree c f) h in
      let q = and_parts (same_tree b e) (same_tree c f) p.1 in
      λ i. tree.ternary (same_is a d p.0 i) (same_is b e q.0 i) (same_is c f q.1 i)
  same_is (tree.list xs) (tree.list ys) h = ap tree.list (trees_are xs ys h)
  same_is (tree.map es) (tree.map fs) h = ap tree.map (entries_are es fs h)
  same_is _ _ h = absurd (false≢true h)

  trees_are : (xs ys : Trees) → same_trees xs ys ≡ true → xs ≡ ys
  trees_are no_trees no_trees h = refl
  trees_are (more_trees a more) (more_trees b others) h =
      let p = and_parts (same_tree a b) (same_trees more others) h in λ i. more_trees (same_is a b p.0 i) (trees_are more others p.1 i)
  trees_are _ _ h = absurd (false≢true h)

  entries_are : (es fs : TreeEntries) → same_entries es fs ≡ true → es ≡ fs
  entries_are no_entries no_entries h = refl
  entries_are (more_entries k v more) (more_entries l w others) h =
      let p = and_parts (same_tree k l) (same_tree v w && same_entries more others) h in
      let q = and_parts (same_tree v w) (same_entries more others) p.1 in
      λ i. more_entries (same_is k l p.0 i) (same_is v w q.0 i) (entries_are more others q.1 i)
  entries_are _ _ h = absurd (false≢true h)

-- ---- what is equal is the same

int_self : (a : ℤ) → same_int a a ≡ true
int_self (pos a) = grind (arith, nat_tests)
int_self (negsuc a) = grind (arith, nat_tests)

truth_self : (a : Bool) → same_truth a a ≡ true
truth_self true = refl
truth_self false = refl

bytes_self : (a : List ℕ) → bytes_eq a a ≡ true
bytes_self a = (bytes_decides a a).1 refl

literal_self : (a : tree.Literal) → same_literal a a ≡ true
literal_self (tree.int a) = int_self a
literal_self (tree.text a) = bytes_self a
literal_self (tree.truth a) = truth_self a
literal_self tree.null = refl

mutual
  pub same_self : (a : Tree) → same_tree a a ≡ true
  same_self (tree.literal l) = literal_self l
  same_self (tree.name n) = bytes_self n
  same_self (tree.select a f) = and_from _ _ (same_self a) (bytes_self f)
  same_self (tree.index a k) = and_from _ _ (same_self a) (same_self k)
  same_self (tree.call n xs) = and_from _ _ (bytes_self n) (trees_self xs)
  same_self (tree.method a n xs) = and_from _ _ (same_self a) (and_from _ _ (bytes_self n) (trees_self xs))
  same_self (tree.unary op a) = and_from _ _ (bytes_self (prefix_text op)) (same_self a)
  same_self (tree.binary op a b) = and_from _ _ (bytes_self (operator_text op)) (and_from _ _ (same_self a) (same_self b))
  same_self (tree.ternary a b c) = and_from _ _ (same_self a) (and_from _ _ (same_self b) (same_self c))
  same_self (tree.list xs) = trees_self xs
  same_self (tree.map es) = entries_self es

  trees_self : (xs : Trees) → same_trees xs xs ≡ true
  trees_self no_trees = refl
  trees_self (more_trees a more) = and_from _ _ (same_self a) (trees_self more)

  entries_self : (es : TreeEntries) → same_entries es es ≡ true
  entries_self no_entries = refl
  entries_self (more_entries k v more) = and_from _ _ (same_self k) (and_from _ _ (same_self v) (entries_self more))

pub not_same : (a b : Tree) → same_tree a b ≡ false → a ≢ b
not_same a b h e = true≢false (sym (same_self a) ∙ ap (same_tree a) e ∙ h)

-- maps of the code
pub maps_same : (a b : Expr) (x y : Vec (Expr × Expr) Global) (xs ys : List (Expr × Expr)) (r : Bool) → a ≡ code.Map x → b ≡ code.Map y → xs ≡ x.items → ys ≡ y.items
    → r ≡ same_pairs xs ys → r ≡ same_tree (view a) (view b)
maps_same a b x y xs ys r is also first second same =
    let one : view a ≡ tree.map (entries (each (λ e. (view e.0, view e.1)) x.items)) = ap view is ∙ view_map x in
    let other : view b ≡ tree.map (entries (each (λ e. (view e.0, view e.1)) y.items)) = ap view also ∙ view_map y in
    let both : same_tree (view a) (view b) ≡ same_pairs x.items y.items = λ i. same_tree (one i) (other i) in
    same ∙ (λ i. same_pairs (first i) (second i)) ∙ sym both
