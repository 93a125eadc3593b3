-- Methods of lists that use the table of indices: what their trees mean.
use Rattle.std.proofs.Common.{◌≡◌, ℕ, true, false, List, pos, negsuc, length, bytes_eq, Some, refl, ap, ◌∙◌}
use Rattle.cel_reader.specs.Tree as tree
use Rattle.cel_reader.specs.Tree.{Tree}
use Rattle.cel_reader.specs.declared.operator.BinaryOperator.TheVariants as operator
use Rattle.cel_reader.specs.declared.operator.UnaryOperator.TheVariants as unary
use Rattle.value_store.specs.Value.{Value, ValueOrError, error, value, null, boolean, int, text, list, map, Items, no_items, list_of}
use Rattle.cel_macros.specs.Arithmetic.{difference_of, sum_of}
use Rattle.cel_macros.specs.Comparison.{equal_of, less_of, less_equal_of}
use Rattle.cel_macros.specs.Environment.{Environment, bind, is_root}
use Rattle.cel_macros.specs.Functions.{size_of}
unfoldable use Rattle.cel_macros.specs.Functions.{function_named}
use Rattle.cel_macros.specs.Logic.{and_of, not_of, ternary_of}
use Rattle.cel_macros.specs.Macros.{range_of}
unfoldable use Rattle.cel_macros.specs.Macros.{is_has}
unfoldable use Rattle.cel_macros.specs.Meaning.{meaning, meanings}
use Rattle.cel_macros.specs.Selection.{index_of}
use Rattle.cel_macros.specs.declared.macros.Macro.TheVariants as plain_macro
use Rattle.wide_meaning.specs.ListMethods.{of_items, is_sorted, distinct, reversed, slice_of, places_of}
use Rattle.wide_meaning.specs.Ranges.{over_items, filter_map_over}
use Rattle.wide_translation.specs.Forms.{let_tree, held}
use Rattle.wide_translation.specs.Indexed.{ints_from, Covers}
use Rattle.wide_translation.specs.Layers.{last_place_tree}
use Rattle.wide_translation.specs.Lists.{second, list_let}
use Rattle.wide_translation.specs.ListMethods.{third, size_tree, here_tree, next_tree, items_where_tree, but_last_tree, held_sorted_tree}
use Rattle.wide_translation.specs.ListMethods.{same_before_tree, is_new_tree, held_distinct_tree, from_end_tree, held_reversed_tree, is_between_tree}
use Rattle.wide_translation.specs.ListMethods.{held_slice_tree, places_tree}
use Rattle.wide_translation.specs.Names.{held_name, index_name, second_name, third_name}
use Rattle.wide_translation.specs.Pairs.{here, indices_tree, table_tree}
use Rattle.wide_translation.proofs.Environments.{this_name, other_name, held_is_no_root, index_is_no_root, second_is_no_root, third_is_no_root, table_stays}
use Rattle.wide_translation.proofs.ListsHold.{on_items, list_let_means}
use Rattle.wide_translation.proofs.PairForms.{here_is, indices_in, indices_mean}
use Rattle.wide_translation.proofs.PairLists.{indices_of_list}
use Rattle.wide_translation.proofs.Places.{of_int, from_last, reversed_values, at_most_next, but_last, sorted_values, is_same_before, is_repeated, distinct_values}
use Rattle.wide_translation.proofs.PlacesChosen.{is_between, bounds, between_in, slice_values, is_at, places_values}
use Rattle.wide_translation.proofs.Steps.{on_value, macro_means, filter_map_means, let_means, held_is}

-- what holds of the items of a list
abbrev pub OfList : (Items → Type 0) → ValueOrError → Type 0
OfList P (value (list is)) = P is
OfList P _ = Unit {0}

-- the table of indices is y
module _ (y : ValueOrError) where
  -- an environment in which the name that the translation binds is the list
  pub record IsOver (is : Items) (env : Environment) : Type 0 where
    pub table : meaning table_tree env ≡ y
    pub items : meaning held env ≡ value (list is)

  pub over_held : (is : Items) (env : Environment) → meaning table_tree env ≡ y → IsOver is (bind held_name (list is) env)
  over_held is env t = record { table = table_stays held_name (list is) env held_is_no_root ∙ t; items = held_is (list is) env }

  over_more : (x : List ℕ) (v : Value) (is : Items) (env : Environment) → is_root x ≡ false → bytes_eq x held_name ≡ false → IsOver is env → IsOver is (bind x v env)
  unfolding meaning
  over_more x v is env h g o = record { table = table_stays x v env h ∙ o.table; items = other_name x held_name v env g ∙ o.items }

  -- in the environment of an index
  at_index : (w : Value) (is : Items) (env : Environment) → IsOver is env → IsOver is (bind index_name w env)
  at_index w is env o = over_more index_name w is env index_is_no_root refl o

  item_is : (w : Value) (is : Items) (env : Environment) → IsOver is env → meaning here_tree (bind index_name w env) ≡ index_of (value (list is)) (value w)
  unfolding meaning
  item_is w is env o = λ j. index_of ((at_index w is env o).items j) (here_is w env j)

  indices_are : (is : Items) (env : Environment) → IsOver is env → Covers y (value (list is)) → range_of (meaning (indices_tree held) env) ≡ Some (ints_from 0 (length (list_of is)))
  unfolding meaning
  indices_are is env o c =
      (λ j. range_of (indices_mean y held env o.table (λ w. other_name index_name held_name w env refl) j))
      ∙ (λ j. range_of (indices_in y (o.items j))) ∙ indices_of_list is y c

  size_is : (is : Items) (env : Environment) → IsOver is env → meaning size_tree env ≡ size_of (value (list is))
  unfolding meaning is_has function_named
  size_is is env o = λ j. size_of (o.items j)

  last_is : (is : Items) (env : Environment) → IsOver is env → meaning last_place_tree env ≡ difference_of (size_of (value (list is))) (of_int 1)
  unfolding meaning
  last_is is env o = λ j. difference_of (size_is is env o j) (of_int 1)

  -- ---- reverse

  reversed_item : (w : Value) (is : Items) (env : Environment) → IsOver is env
      → meaning from_end_tree (bind index_name w env) ≡ from_last is w
  unfolding meaning
  reversed_item w is env o = λ j. index_of ((at_index w is env o).items j) (difference_of (last_is is (bind index_name w env) (at_index w is env o) j) (here_is w env j))

  pub reversed_means : (is : Items) (env : Environment) → IsOver is env → Covers y (value (list is)) → meaning held_reversed_tree env ≡ reversed is
  reversed_means is env o c =
      macro_means plain_macro.Map index_name (indices_tree held) from_end_tree env
      ∙ (λ j. over_items plain_macro.Map (λ w. reversed_item w is env o j) (indices_are is env o c j))
      ∙ reversed_values is

  -- ---- isSorted

  but_last_is : (is : Items) (env : Environment) → IsOver is env → meaning but_last_tree env ≡ but_last y is
  unfolding meaning
  but_last_is is env o =
      macro_means plain_macro.Filter index_name table_tree (tree.binary operator.Less here last_place_tree) env
      ∙ (λ j. over_items plain_macro.Filter (λ w. less_of (here_is w env j) (last_is is (bind index_name w env) (at_index w is env o) j)) (range_of (o.table j)))

  next_is : (w : Value) (is : Items) (env : Environment) → IsOver is env → meaning (tree.binary operator.LessEqual here_tree next_tree) (bind index_name w env) ≡ at_most_next is w
  unfolding meaning
  next_is w is env o = λ j. less_equal_of (item_is w is env o j) (index_of ((at_index w is env o).items j) (sum_of (here_is w env j) (of_int 1)))

  pub sorted_means : (is : Items) (env : Environment) → IsOver is env → Covers y (value (list is)) → meaning held_sorted_tree env ≡ is_sorted is
  sorted_means is env o c =
      macro_means plain_macro.All index_name but_last_tree (tree.binary operator.LessEqual here_tree next_tree) env
      ∙ (λ j. over_items plain_macro.All (λ w. next_is w is env o j) (range_of (but_last_is is env o j)))
      ∙ sorted_values is y c

  -- ---- distinct

  same_is : (w u : Value) (is : Items) (env : Environment) → IsOver is env
      → meaning same_before_tree (bind second_name u (bind index_name w env)) ≡ is_same_before is w u
  unfolding meaning
  same_is w u is env o =
      let inner : Environment = bind index_name w env in
      let i : meaning here (bind second_name u inner) ≡ value w = other_name second_name index_name u inner refl ∙ here_is w env in
      let b : meaning second (bind second_name u inner) ≡ value u = this_name second_name u inner in
      let l : IsOver is (bind second_name u inner) = over_more second_name u is inner second_is_no_root refl (at_index w is env o) in
      λ j. and_of (less_of (b j) (i j)) (equal_of (index_of (l.items j) (b j)) (index_of (l.items j) (i j)))

  repeated_is : (w : Value) (is : Items) (env : Environment) → IsOver is env → meaning is_new_tree (bind index_name w env) ≡ is_repeated y is w
  unfolding meaning
  repeated_is w is env o =
      ap not_of (macro_means plain_macro.Exists second_name table_tree same_before_tree (bind index_name w env))
      ∙ (λ j. not_of (over_items plain_macro.Exists (λ u. same_is w u is env o j) (range_of ((at_index w is env o).table j))))

  pub distinct_means : (is : Items) (env : Environment) → IsOver is env → Covers y (value (list is)) → meaning held_distinct_tree env ≡ distinct is
  distinct_means is env o c =
      filter_map_means index_name (indices_tree held) is_new_tree here_tree env
      ∙ (λ j. filter_map_over (λ w. repeated_is w is env o j) (λ w. item_is w is env o j) (indices_are is env o c j))
      ∙ distinct_values is y c

  -- ---- slice

  -- the environment of two bounds
  abbrev with_bounds : Value → Value → Environment → Environment
  with_bounds v w env = bind third_name w (bind second_name v env)

  first_bound : (v w : Value) (env : Environment) → meaning second (with_bounds v w env) ≡ value v
  unfolding meaning
  first_bound v w env = other_name third_name second_name w (bind second_name v env) refl ∙ this_name second_name v env

  end_bound : (v w : Value) (env : Environment) → meaning third (with_bounds v w env) ≡ value w
  unfolding meaning
  end_bound v w env = this_name third_name w (bind second_name v env)

  bounded : (v w : Value) (is : Items) (env : Environment) → IsOver is env → IsOver is (with_bounds v w env)
  bounded v w is env o = over_more third_name w is (bind second_name v env) third_is_no_root refl (over_more second_name v is env second_is_no_root refl o)

  between_is : (v w u : Value) (env : Environment)
      → meaning is_between_tree (bind index_name u (with_bounds v w env)) ≡ is_between (value v) (value w) u
  unfolding meaning
  between_is v w u env =
      let inner : Environment = with_bounds v w env in λ j.
      and_of (less_equal_of ((other_name index_name second_name u inner refl ∙ first_bound v w env) j) (here_is u inner j))
      (less_of (here_is u inner j) ((other_name index_name third_name u inner refl ∙ end_bound v w env) j))

  items_are : (v w : Value) (is : Items) (env : Environment) → IsOver is env → Covers y (value (list is)) → meaning (items_where_tree is_between_tree) (with_bounds v w env) ≡ between_in is (value v) (value w)
  items_are v w is env o c =
      let inner : Environment = with_bounds v w env in
      filter_map_means index_name (indices_tree held) is_between_tree here_tree inner
      ∙ (λ j. filter_map_over (λ u. between_is v w u env j) (λ u. item_is u is inner (bounded v w is env o) j) (indices_are is inner (bounded v w is env o) c j))

  part_is : (v w : Value) (is : Items) (env : Environment) → IsOver is env → Covers y (value (list is))
      → meaning held_slice_tree (with_bounds v w env) ≡ slice_of (value (list is)) (value v) (value w)
  unfolding meaning meanings
  part_is v w is env o c =
      let inner : Environment = with_bounds v w env in
      (λ j. ternary_of (and_of (and_of (less_equal_of (of_int 0) (first_bound v w env j)) (less_equal_of (first_bound v w env j) (end_bound v w env j)))
      (less_equal_of (end_bound v w env j) (size_is is inner (bounded v w is env o) j))) (items_are v w is env o c j) error)
      ∙ slice_values is (value v) (value w)

  no_last_bound : (is : Items) (v : Value) → error ≡ slice_of (value (list is)) (value v) error
  no_last_bound is null = refl
  no_last_bound is (boolean b) = refl
  no_last_bound is (int (pos a)) = refl
  no_last_bound is (int (negsuc a)) = refl
  no_last_bound is (text s) = refl
  no_last_bound is (list js) = refl
  no_last_bound is (map es) = refl

  both_bounds : (is : Items) (p q : ValueOrError) → on_value (λ v. on_value (λ w. slice_of (value (list is)) (value v) (value w)) q) p ≡ slice_of (value (list is)) p q
  both_bounds is error q = refl
  both_bounds is (value v) error = no_last_bound is v
  both_bounds is (value v) (value w) = refl

  -- the bounds are the same in each environment in which the names that the translation binds have values
  pub slice_means : (is : Items) (b c : Tree) (p q : ValueOrError) (env : Environment) → IsOver is env → Covers y (value (list is)) → meaning b env ≡ p
      → ((v : Value) → meaning c (bind second_name v env) ≡ q)
      → meaning (let_tree second_name b (let_tree third_name c held_slice_tree)) env ≡ slice_of (value (list is)) p q
  slice_means is b c p q env o k h g =
      let_means second_name b (let_tree third_name c held_slice_tree) env
      ∙ (λ j. on_value (λ v. let_means third_name c held_slice_tree (bind second_name v env) j) (h j))
      ∙ (λ j. on_value (λ v. on_value (λ w. part_is v w is env o k j) (g v j)) p)
      ∙ both_bounds is p q

  -- ---- indexOf and lastIndexOf

  places_are : (v : Value) (is : Items) (env : Environment) → IsOver is env → Covers y (value (list is)) → meaning places_tree (bind second_name v env) ≡ value (list (places_of v 0 is))
  unfolding meaning
  places_are v is env o c =
      let inner : Environment = bind second_name v env in
      let l : IsOver is inner = over_more second_name v is env second_is_no_root refl o in
      macro_means plain_macro.Filter index_name (indices_tree held) (tree.binary operator.Equal here_tree second) inner
      ∙ (λ j. over_items plain_macro.Filter (λ u. equal_of (item_is u is inner l j) ((other_name index_name second_name u inner refl ∙ this_name second_name v env) j)) (indices_are is inner l c j))
      ∙ places_values is v

  -- what follows from the places
  pub place_means : (body : Tree) (f : Items → ValueOrError) (is : Items) (b : Tree) (p : ValueOrError) (env : Environment) → IsOver is env → Covers y (value (list is))
      → ((ps : Items) (inner : Environment) → meaning body (bind third_name (list ps) inner) ≡ f ps) → meaning b env ≡ p
      → meaning (let_tree second_name b (let_tree third_name places_tree body)) env ≡ on_value (λ v. f (places_of v 0 is)) p
  place_means body f is b p env o c g h =
      let_means second_name b (let_tree third_name places_tree body) env
      ∙ (λ j. on_value (λ v. let_means third_name places_tree body (bind second_name v env) j) (h j))
      ∙ (λ j. on_value (λ v. on_value (λ w. meaning body (bind third_name w (bind second_name v env))) (places_are v is env o c j)) p)
      ∙ (λ j. on_value (λ v. g (places_of v 0 is) (bind second_name v env) j) p)

  -- ---- with the receiver

  of_each : (f g : Items → ValueOrError) (x : ValueOrError) → OfList (λ is. f is ≡ g is) x → on_items f x ≡ of_items g x
  of_each f g error h = refl
  of_each f g (value null) h = refl
  of_each f g (value (boolean b)) h = refl
  of_each f g (value (int z)) h = refl
  of_each f g (value (text s)) h = refl
  of_each f g (value (list is)) h = h
  of_each f g (value (map es)) h = refl

  pub of_receiver : (x : ValueOrError) (P : Items → Type 0) → Covers y x → ((is : Items) → Covers y (value (list is)) → P is) → OfList P x
  of_receiver error P c h = tt
  of_receiver (value null) P c h = tt
  of_receiver (value (boolean b)) P c h = tt
  of_receiver (value (int z)) P c h = tt
  of_receiver (value (text s)) P c h = tt
  of_receiver (value (list is)) P c h = h is c
  of_receiver (value (map es)) P c h = tt

  pub receiver_means : (a body : Tree) (f : Items → ValueOrError) (x : ValueOrError) (env : Environment) → meaning table_tree env ≡ y → Covers y x → meaning a env ≡ x
      → ((is : Items) → IsOver is (bind held_name (list is) env) → Covers y (value (list is)) → meaning body (bind held_name (list is) env) ≡ f is)
      → meaning (list_let held_name a body) env ≡ of_items f x
  receiver_means a body f x env t c h g =
      list_let_means held_name a body env
      ∙ (λ j. on_items (λ is. meaning body (bind held_name (list is) env)) (h j))
      ∙ of_each (λ is. meaning body (bind held_name (list is) env)) f x
      (of_receiver x (λ is. meaning body (bind held_name (list is) env) ≡ f is) c (λ is k. g is (over_held is env t) k))
