-- A translation carries what the wide expression means.
use Rattle.std.proofs.Common.{◌≡◌, ℕ, pos, negsuc, nat_lt, Bool, true, false, ◌||◌, List, [], Some, None}
use Rattle.std.proofs.Common.{if◌then◌else◌, refl, ◌∙◌}
use Rattle.cel_reader.specs.Tree as tree
use Rattle.cel_reader.specs.Tree.{Literal, no_trees}
use Rattle.value_store.specs.Value.{Value, ValueOrError, int, no_entries as no_value_entries}
use Rattle.cel_macros.specs.Environment.{Environment, bind}
use Rattle.cel_macros.specs.Literals.{literal_of}
use Rattle.cel_macros.specs.Macros.{range_of}
unfoldable use Rattle.cel_macros.specs.Macros.{is_variables}
unfoldable use Rattle.cel_macros.specs.Meaning.{meaning, meanings}
use Rattle.wide_reader.specs.Tree as wide
use Rattle.wide_reader.specs.Tree.{Wide, Wides, WideItems, WideEntries}
use Rattle.wide_reader.specs.declared.wide.Macro.{Macro}
use Rattle.wide_reader.specs.declared.wide.OptionalMacro.{OptionalMacro}
use Rattle.wide_meaning.specs.Access.{index_in, has_in}
use Rattle.wide_meaning.specs.Environment.{WideEnvironment, bound}
use Rattle.wide_meaning.specs.Functions.{function_named, method_named, qualified_named}
unfoldable use Rattle.wide_meaning.specs.Meaning.{wide_meaning, wide_meanings, items_meaning, entries_meaning}
use Rattle.wide_meaning.specs.Meaning.{is_empty_list, namespace_in}
use Rattle.wide_meaning.specs.Operators.{unary_in, binary_in, ternary_in}
use Rattle.wide_meaning.specs.Outcome.{Outcome, failed, plain as of_value, absent, present, outcome_of, plain_part}
use Rattle.wide_meaning.specs.Ranges.{plain_macro_of, over_items, filter_map_over, pairs_of, optional_over}
use Rattle.wide_kinds.proofs.Fitting.{kinds_hold}
use Rattle.wide_kinds.specs.declared.kind.ValueKind.TheVariants as kind
use Rattle.wide_kinds.specs.Kinds.{literal_kind, unary_kind}
use Rattle.wide_translation.specs.Carried.{plain, OptionalValue, TakenName, UnsignedInt, Translation, taken, refused}
use Rattle.wide_translation.specs.Forms.{filter_map_tree}
use Rattle.wide_translation.specs.Holds.{WideHolds, WideStandsFor}
use Rattle.wide_translation.specs.Laws.{TranslationMeansTheSame}
use Rattle.wide_translation.specs.Names.{held_name, index_name, second_name, is_taken, written_name}
use Rattle.wide_translation.specs.Indexed.{ForEach, ForPresent}
unfoldable use Rattle.wide_translation.specs.Indexed.{Indexed, AllIndexed, ItemsIndexed, EntriesIndexed}
use Rattle.wide_translation.specs.Pairs.{PairUse, values_only, keys_only, both, table_tree, pair_use, pair_binder}
use Rattle.wide_translation.specs.Pairs.{within_pair, pair_translation, pair_filter_translation}
use Rattle.wide_translation.specs.Uses.{uses}
use Rattle.wide_translation.specs.Scope.{WideScope, within}
use Rattle.wide_translation.specs.Translated.{operand, compares, with_carried, with_plain, on_list, optional_carried}
use Rattle.wide_translation.specs.Translated.{has_carried, binary_carried, ternary_carried, fold_carried}
use Rattle.wide_translation.specs.Translated.{index_carried, text_literal, count_literal, parts, no_parts_left, pairs}
unfoldable use Rattle.wide_translation.specs.Translated.{translated, all_translated, items_translated}
unfoldable use Rattle.wide_translation.specs.Translated.{entries_translated}
use Rattle.wide_translation.proofs.EachItem.{each_later}
use Rattle.wide_translation.proofs.Environments.{both_bound, held_bound, held_is_no_root, fresh_bound}
use Rattle.wide_translation.proofs.Environments.{index_is_fresh, index_is_no_root, second_is_fresh, second_is_no_root}
use Rattle.wide_translation.proofs.Environments.{pair_bound, binder_is_no_root}
use Rattle.wide_translation.proofs.Environments.{picked, table_stays}
use Rattle.wide_translation.proofs.Kept.{with_kept, second_bound}
use Rattle.wide_translation.proofs.NoTable.{indexed}
use Rattle.wide_translation.proofs.WrittenNames.{written_is_no_root}
use Rattle.wide_translation.proofs.FieldsHold.{plain_holds, with_holds, with_plain_holds, on_list_holds, root_holds}
use Rattle.wide_translation.proofs.FieldsHold.{name_holds, selected_holds, has_holds}
use Rattle.wide_translation.proofs.OperatorsHold.{unary_holds, binary_holds, ternary_holds, PartsHold, part_more}
use Rattle.wide_translation.proofs.OperatorsHold.{list_translated}
use Rattle.wide_translation.proofs.EntriesHold.{PairsHold, entry_holds, map_translated}
use Rattle.wide_translation.proofs.CallsHold.{call_holds, method_called_holds}
use Rattle.wide_translation.proofs.OptionalHold.{AllHold, OfPresent, optional_holds}
use Rattle.wide_translation.proofs.PairRanges.{covered_by}
use Rattle.wide_translation.proofs.PairFolds.{EachPair, Steady, pair_holds, pair_where_holds}
use Rattle.wide_translation.proofs.RangesHold.{IsText, IsCount, EachItem, index_holds, over_holds, fold_holds}
use Rattle.wide_translation.proofs.RangesHold.{filter_map_holds}

module _ (others : Wide → WideEnvironment → Outcome) where
  is_text : (k : Wide) (env : WideEnvironment) → IsText (text_literal k) (wide_meaning others k env)
  unfolding wide_meaning
  is_text (wide.literal (tree.text s)) env = refl
  is_text (wide.literal (tree.int z)) env = tt
  is_text (wide.literal (tree.truth b)) env = tt
  is_text (wide.literal tree.null) env = tt
  is_text _ env = tt

  is_count : (k : Wide) (env : WideEnvironment) → IsCount (count_literal k) (wide_meaning others k env)
  unfolding wide_meaning
  is_count (wide.literal (tree.int (pos n))) env = refl
  is_count (wide.literal (tree.int (negsuc n))) env = tt
  is_count (wide.literal (tree.text s)) env = tt
  is_count (wide.literal (tree.truth b)) env = tt
  is_count (wide.literal tree.null) env = tt
  is_count _ env = tt

  literal_free : (l : Literal) → is_variables (tree.literal l) ≡ false
  unfolding is_variables
  literal_free l = refl

  literal_means : (l : Literal) (env : Environment) → meaning (tree.literal l) env ≡ literal_of l
  unfolding meaning
  literal_means l env = refl

  no_parts_hold : (env : Environment) → PartsHold (parts no_trees None) (Some []) env
  unfolding meaning meanings
  no_parts_hold env = refl

  no_pairs_hold : (env : Environment) → PairsHold (pairs no_parts_left) (Some no_value_entries) env
  no_pairs_hold env = refl

  unsigned_by : (b : Bool) (n : ℕ) (env' : Environment)
      → WideHolds (if b then taken (plain kind.Int (tree.literal (tree.int (pos n)))) else refused UnsignedInt) (of_value (int (pos n))) env'
  unfolding meaning is_variables
  unsigned_by true n env' = record { means = refl; kind = refl; free = refl }
  unsigned_by false n env' = tt

  operand_same : (b : Bool) (a : Wide) (t : Translation) (env : WideEnvironment) (env' : Environment) → WideHolds t (wide_meaning others a env) env' → WideHolds (operand b a t) (wide_meaning others a env) env'
  unfolding wide_meaning
  operand_same false a t env env' h = h
  operand_same true (wide.uint n) t env env' h = unsigned_by (nat_lt n 9223372036854775808) n env'
  operand_same true _ t env env' h = h

  -- a macro, if its iteration name is one that may be bound
  fold_by : (b : Bool) (m : Macro) (x : List ℕ) (t u : Translation) (r : Outcome) (p : Value → Outcome) (env : Environment) → is_taken x ≡ b
      → WideHolds t r env → (is_taken x ≡ false → EachItem (written_name x) u p r env)
      → WideHolds (if b then refused (TakenName x) else with_plain t (λ k a. with_plain u (λ j c. taken (fold_carried m (written_name x) a c))))
      (outcome_of (over_items (plain_macro_of m) (λ v. plain_part (p v)) (range_of (plain_part r)))) env
  fold_by true m x t u r p env e h i = tt
  fold_by false m x t u r p env e h i =
      let o : Outcome = outcome_of (over_items (plain_macro_of m) (λ v. plain_part (p v)) (range_of (plain_part r))) in
      with_plain_holds t (λ k a. with_plain u (λ j c. taken (fold_carried m (written_name x) a c))) r o env h
      (λ k a g. over_holds (written_name x) u p (λ j c. taken (fold_carried m (written_name x) a c)) r o env (i e) (λ j c q. fold_holds m (written_name x) k j a c r p env g q))

  filter_by : (b : Bool) (x : List ℕ) (t u w : Translation) (r : Outcome) (p q : Value → Outcome) (env : Environment) → is_taken x ≡ b
      → WideHolds t r env → (is_taken x ≡ false → EachItem (written_name x) u p r env) → (is_taken x ≡ false → EachItem (written_name x) w q r env)
      → WideHolds (if b then refused (TakenName x) else with_plain t (λ k a. with_plain u (λ j c. with_plain w (λ i d. taken (plain kind.List (filter_map_tree (written_name x) a c d))))))
      (outcome_of (filter_map_over (λ v. plain_part (p v)) (λ v. plain_part (q v)) (range_of (plain_part r)))) env
  filter_by true x t u w r p q env e h i l = tt
  filter_by false x t u w r p q env e h i l =
      let o : Outcome = outcome_of (filter_map_over (λ v. plain_part (p v)) (λ v. plain_part (q v)) (range_of (plain_part r))) in
      with_plain_holds t (λ k a. with_plain u (λ j c. with_plain w (λ n d. taken (plain kind.List (filter_map_tree (written_name x) a c d))))) r o env h
      (λ k a g. over_holds (written_name x) u p (λ j c. with_plain w (λ n d. taken (plain kind.List (filter_map_tree (written_name x) a c d)))) r o env (i e)
      (λ j c y. over_holds (written_name x) w q (λ n d. taken (plain kind.List (filter_map_tree (written_name x) a c d))) r o env (l e)
      (λ n d z. filter_map_holds (written_name x) k j n a c d r p q env g y z)))

  optional_by : (b : Bool) (m : OptionalMacro) (x : List ℕ) (t u : Translation) (o : Outcome) (p : Value → Outcome) (env : Environment) → is_taken x ≡ b
      → WideHolds t o env → (is_taken x ≡ false → OfPresent (written_name x) u p o env)
      → WideHolds (if b then refused (TakenName x) else with_carried t (λ c. on_list OptionalValue c (λ k l. with_carried u (optional_carried m (written_name x) l)))) (optional_over m p o) env
  optional_by true m x t u o p env e h i = tt
  optional_by false m x t u o p env e h i =
      with_holds t (λ c. on_list OptionalValue c (λ k l. with_carried u (optional_carried m (written_name x) l))) o (optional_over m p o) env h
      (λ c g. on_list_holds OptionalValue c (λ k l. with_carried u (optional_carried m (written_name x) l)) o (optional_over m p o) env g
      (λ k l q. optional_holds m (written_name x) k l u o p env q (i e)))

  -- a macro with two names, if both may be bound
  two_names : (b c : Bool) (k v : List ℕ) (t : Translation) (o : Outcome) (env : Environment) → is_taken k ≡ b → is_taken v ≡ c
      → (is_taken k ≡ false → is_taken v ≡ false → WideHolds t o env)
      → WideHolds (if b then refused (TakenName k) else (if c then refused (TakenName v) else t)) o env
  two_names true c k v t o env e f h = tt
  two_names false true k v t o env e f h = tt
  two_names false false k v t o env e f h = h e f

  present_later : (H : Type 0) (P Q : Value → Type 0) (o : Outcome) → (H → ForPresent P o) → ((v : Value) → (H → P v) → Q v) → ForPresent Q o
  present_later H P Q failed g f = tt
  present_later H P Q (of_value v) g f = tt
  present_later H P Q absent g f = tt
  present_later H P Q (present v) g f = f v g

  -- the table of indices is y
  module _ (y : ValueOrError) where
    -- the table is long enough for an expression, if there are tables
    abbrev Fits : WideScope → Wide → WideEnvironment → Type 0
    Fits s e env = s.wrapped ≡ true → Indexed others y e env

    pair_fits : (u : PairUse) (k v : List ℕ) (p : Wide) (s : WideScope) (c : Value × Value) (env : WideEnvironment) → (s.wrapped ≡ true → Indexed others y p (bound v c.1 (bound k c.0 env)))
        → Fits (within_pair u k v s) p (bound v c.1 (bound k c.0 env))
    pair_fits values_only k v p s c env h = h
    pair_fits keys_only k v p s c env h = h
    pair_fits both k v p s c env h = h

    -- a translation carries what the expression means
    abbrev IsSame : Wide → Type 0
    IsSame e = (s : WideScope) (env : WideEnvironment) (env' : Environment) → WideStandsFor s env env' → meaning table_tree env' ≡ y → Fits s e env
        → WideHolds (translated s e) (wide_meaning others e env) env'

    -- the body p of a macro, for each item of its range a
    over_body : (x : List ℕ) (p a : Wide) (s : WideScope) (env : WideEnvironment) (env' : Environment) → IsSame p → is_taken x ≡ false → WideStandsFor s env env' → meaning table_tree env' ≡ y
        → (s.wrapped ≡ true → ForEach (λ v. Indexed others y p (bound x v env)) (range_of (plain_part (wide_meaning others a env))))
        → EachItem (written_name x) (translated (within x kind.Dyn s) p) (λ v. wide_meaning others p (bound x v env)) (wide_meaning others a env) env'
    over_body x p a s env env' h e r t g =
        each_later (s.wrapped ≡ true) (λ v. Indexed others y p (bound x v env)) (λ v. WideHolds (translated (within x kind.Dyn s) p) (wide_meaning others p (bound x v env)) (bind (written_name x) v env'))
        (range_of (plain_part (wide_meaning others a env))) g
        (λ v i. h (within x kind.Dyn s) (bound x v env) (bind (written_name x) v env') (both_bound s x kind.Dyn v env env' e refl r) (table_stays (written_name x) v env' (written_is_no_root x) ∙ t) i)

    -- the same for each pair
    pair_body : (u : PairUse) (k v : List ℕ) (p a : Wide) (s : WideScope) (env : WideEnvironment) (env' : Environment) → IsSame p → is_taken k ≡ false → is_taken v ≡ false → WideStandsFor s env env'
        → meaning table_tree env' ≡ y → (s.wrapped ≡ true → ForEach (λ c. Indexed others y p (bound v c.1 (bound k c.0 env))) (pairs_of (plain_part (wide_meaning others a env))))
        → EachPair u (pair_binder u k v s) (translated (within_pair u k v s) p) (λ c. wide_meaning others p (bound v c.1 (bound k c.0 env))) (wide_meaning others a env) env'
    pair_body u k v p a s env env' h e f r t g =
        each_later (s.wrapped ≡ true) (λ c. Indexed others y p (bound v c.1 (bound k c.0 env)))
        (λ c. WideHolds (translated (within_pair u k v s) p) (wide_meaning others p (bound v c.1 (bound k c.0 env))) (bind (pair_binder u k v s) (picked u c) env'))
        (pairs_of (plain_part (wide_meaning others a env))) g
        (λ c i. h (within_pair u k v s) (bound v c.1 (bound k c.0 env)) (bind (pair_binder u k v s) (picked u c) env') (pair_bound u s k v c env env' e f r)
        (table_stays (pair_binder u k v s) (picked u c) env' (binder_is_no_root u s k v) ∙ t) (pair_fits u k v p s c env i))

    -- the same for the value of an optional value
    present_body : (x : List ℕ) (p a : Wide) (s : WideScope) (env : WideEnvironment) (env' : Environment) → IsSame p → is_taken x ≡ false → WideStandsFor s env env' → meaning table_tree env' ≡ y
        → (s.wrapped ≡ true → ForPresent (λ v. Indexed others y p (bound x v env)) (wide_meaning others a env))
        → OfPresent (written_name x) (translated (within x kind.Dyn s) p) (λ v. wide_meaning others p (bound x v env)) (wide_meaning others a env) env'
    present_body x p a s env env' h e r t g =
        present_later (s.wrapped ≡ true) (λ v. Indexed others y p (bound x v env)) (λ v. WideHolds (translated (within x kind.Dyn s) p) (wide_meaning others p (bound x v env)) (bind (written_name x) v env'))
        (wide_meaning others a env) g
        (λ v i. h (within x kind.Dyn s) (bound x v env) (bind (written_name x) v env') (both_bound s x kind.Dyn v env env' e refl r) (table_stays (written_name x) v env' (written_is_no_root x) ∙ t) i)

    -- the range, where the name of an index has a value
    steady : (a : Wide) (s : WideScope) (env : WideEnvironment) (env' : Environment) → IsSame a → WideStandsFor s env env' → meaning table_tree env' ≡ y → Fits s a env
        → Steady (translated s a) (wide_meaning others a env) env'
    steady a s env env' h r t g v = h s env (bind index_name v env') (fresh_bound s index_name v env env' (index_is_fresh s) r) (table_stays index_name v env' index_is_no_root ∙ t) g

    mutual
      unfolding translated wide_meaning Indexed

      -- by the expression's cases
      same : (e : Wide) (s : WideScope) (env : WideEnvironment) (env' : Environment) → WideStandsFor s env env' → meaning table_tree env' ≡ y → Fits s e env
          → WideHolds (translated s e) (wide_meaning others e env) env'
      same (wide.literal l) s env env' r t g = plain_holds (literal_kind l) (tree.literal l) (literal_of l) env' (literal_means l env') (kinds_hold.literal l) (literal_free l)
      same (wide.uint n) s env env' r t g = tt
      same (wide.name n) s env env' r t g = name_holds s n env env' r
      same (wide.root n) s env env' r t g = root_holds s n env env' r
      same (wide.select a o f) s env env' r t g = selected_holds a o f s (translated s a) (wide_meaning others a env) env env' (same a s env env' r t g) r
      same (wide.index a o k) s env env' r t g =
          let x : Outcome = wide_meaning others a env in
          let z : Outcome = wide_meaning others k env in
          with_kept second_name (translated s a) (λ c. with_carried (translated s k) (λ d. index_carried (text_literal k) (count_literal k) o c d)) x (index_in o x z) env' (same a s env env' r t (λ w. (g w).0))
          (λ v. same a s env (bind second_name v env') (second_bound s v env env' r) (table_stays second_name v env' second_is_no_root ∙ t) (λ w. (g w).0))
          (λ c h p. with_kept held_name (translated s k) (λ d. index_carried (text_literal k) (count_literal k) o c d) z (index_in o x z) env' (same k s env env' r t (λ w. (g w).1))
          (λ v. same k s env (bind held_name v env') (held_bound s v env env' r) (table_stays held_name v env' held_is_no_root ∙ t) (λ w. (g w).1))
          (λ d i q. index_holds (text_literal k) (count_literal k) o c d x z env' (is_text k env) (is_count k env) h p i q))
      same (wide.has a f) s env env' r t g =
          let x : Outcome = wide_meaning others a env in
          with_holds (translated s a) (λ c. taken (plain kind.Bool (has_carried f c))) x (has_in x f) env' (same a s env env' r t g) (λ c h. has_holds f c x env' h)
      same (wide.unary op a) s env env' r t g =
          let x : Outcome = wide_meaning others a env in
          with_plain_holds (translated s a) (λ k b. taken (plain (unary_kind op) (tree.unary op b))) x (unary_in op x) env' (same a s env env' r t g)
          (λ k b h. unary_holds op k b x env' h)
      same (wide.binary op a b) s env env' r t g =
          let x : Outcome = wide_meaning others a env in
          let z : Outcome = wide_meaning others b env in
          let o : Outcome = binary_in (is_empty_list b) op x z in
          let v : Translation = operand (compares op) a (translated s a) in
          let u : Translation = operand (compares op) b (translated s b) in
          with_holds v (λ c. with_carried u (λ d. binary_carried (is_empty_list b) op c d)) x o env' (operand_same (compares op) a (translated s a) env env' (same a s env env' r t (λ w. (g w).0)))
          (λ c h. with_holds u (λ d. binary_carried (is_empty_list b) op c d) z o env' (operand_same (compares op) b (translated s b) env env' (same b s env env' r t (λ w. (g w).1)))
          (λ d i. binary_holds (is_empty_list b) op c d x z env' h i))
      same (wide.ternary c a b) s env env' r t g =
          let z : Outcome = wide_meaning others c env in
          let x : Outcome = wide_meaning others a env in
          let v : Outcome = wide_meaning others b env in
          let o : Outcome = ternary_in z x v in
          with_plain_holds (translated s c) (λ k q. with_carried (translated s a) (λ d. with_carried (translated s b) (λ e. ternary_carried q d e))) z o env' (same c s env env' r t (λ w. (g w).0))
          (λ k q l. with_holds (translated s a) (λ d. with_carried (translated s b) (λ e. ternary_carried q d e)) x o env' (same a s env env' r t (λ w. (g w).1))
          (λ d h. with_holds (translated s b) (λ e. ternary_carried q d e) v o env' (same b s env env' r t (λ w. (g w).2))
          (λ e i. ternary_holds k q d e z x v env' l h i)))
      same (wide.list items) s env env' r t g = list_translated (items_translated s items) (items_meaning others items env) env' (items_same items s env env' r t g)
      same (wide.map es) s env env' r t g = map_translated (entries_translated s es) (entries_meaning others es env) env' (entries_same es s env env' r t g)
      same (wide.fold m a x p) s env env' r t g =
          fold_by (is_taken x) m x (translated s a) (translated (within x kind.Dyn s) p) (wide_meaning others a env) (λ v. wide_meaning others p (bound x v env)) env' refl
          (same a s env env' r t (λ w. (g w).0)) (λ e. over_body x p a s env env' (λ c d b h l i. same p c d b h l i) e r t (λ w. (g w).1))
      same (wide.filter_map a x p q) s env env' r t g =
          filter_by (is_taken x) x (translated s a) (translated (within x kind.Dyn s) p) (translated (within x kind.Dyn s) q) (wide_meaning others a env)
          (λ v. wide_meaning others p (bound x v env)) (λ v. wide_meaning others q (bound x v env)) env' refl
          (same a s env env' r t (λ w. (g w).0)) (λ e. over_body x p a s env env' (λ c d b h l i. same p c d b h l i) e r t (λ w. (g w).1)) (λ e. over_body x q a s env env' (λ c d b h l i. same q c d b h l i) e r t (λ w. (g w).2))
      same (wide.pair_fold m a k v p) s env env' r t g =
          let u : PairUse = pair_use (uses k p) (uses v p) in
          two_names (is_taken k) (is_taken v) k v (pair_translation s.wrapped m u (pair_binder u k v s) (translated s a) (translated (within_pair u k v s) p)) _ env' refl refl
          (λ e f. pair_holds y s.wrapped m u (pair_binder u k v s) (translated s a) (translated (within_pair u k v s) p) (wide_meaning others a env)
          (λ c. wide_meaning others p (bound v c.1 (bound k c.0 env))) env' (λ w. covered_by (uses k p) (uses v p) y (plain_part (wide_meaning others a env)) (g w).1) t
          (same a s env env' r t (λ w. (g w).0)) (steady a s env env' (λ c d b h l i. same a c d b h l i) r t (λ w. (g w).0))
          (pair_body u k v p a s env env' (λ c d b h l i. same p c d b h l i) e f r t (λ w. (g w).2)))
      same (wide.pair_filter_map a k v p q) s env env' r t g =
          let u : PairUse = pair_use (uses k p || uses k q) (uses v p || uses v q) in
          two_names (is_taken k) (is_taken v) k v
          (pair_filter_translation s.wrapped u (pair_binder u k v s) (translated s a) (translated (within_pair u k v s) p) (translated (within_pair u k v s) q)) _ env' refl refl
          (λ e f. pair_where_holds y s.wrapped u (pair_binder u k v s) (translated s a) (translated (within_pair u k v s) p) (translated (within_pair u k v s) q) (wide_meaning others a env)
          (λ c. wide_meaning others p (bound v c.1 (bound k c.0 env))) (λ c. wide_meaning others q (bound v c.1 (bound k c.0 env))) env'
          (λ w. covered_by (uses k p || uses k q) (uses v p || uses v q) y (plain_part (wide_meaning others a env)) (g w).1) t
          (same a s env env' r t (λ w. (g w).0)) (steady a s env env' (λ c d b h l i. same a c d b h l i) r t (λ w. (g w).0))
          (pair_body u k v p a s env env' (λ c d b h l i. same p c d b h l i) e f r t (λ w. (g w).2)) (pair_body u k v q a s env env' (λ c d b h l i. same q c d b h l i) e f r t (λ w. (g w).3)))
      same (wide.optional_fold m a x q) s env env' r t g =
          optional_by (is_taken x) m x (translated s a) (translated (within x kind.Dyn s) q) (wide_meaning others a env) (λ v. wide_meaning others q (bound x v env)) env' refl
          (same a s env env' r t (λ w. (g w).0))
          (λ e. present_body x q a s env env' (λ c d b h l i. same q c d b h l i) e r t (λ w. (g w).1))
      same (wide.call n es) s env env' r t g =
          call_holds (function_named n) n (all_translated s es) (wide_meanings others es env) (others (wide.call n es) env) env' (all_same es s env env' r t g)
      same (wide.method a n es) s env env' r t g =
          method_called_holds y s.wrapped (qualified_named (namespace_in a) n) (method_named n) n (translated s a) (wide_meaning others a env) (all_translated s es) (wide_meanings others es env)
          (others (wide.method a n es) env) env' (λ w. (g w).1) t (same a s env env' r t (λ w. (g w).0)) (all_same es s env env' r t (λ w. (g w).2))
          (λ v. all_same es s env (bind held_name v env') (held_bound s v env env' r) (table_stays held_name v env' held_is_no_root ∙ t) (λ w. (g w).2))
          (λ v z. all_same es s env (bind second_name z (bind held_name v env')) (fresh_bound s second_name z env (bind held_name v env') (second_is_fresh s) (held_bound s v env env' r))
          (table_stays second_name z (bind held_name v env') second_is_no_root ∙ table_stays held_name v env' held_is_no_root ∙ t) (λ w. (g w).2))

      all_same : (es : Wides) (s : WideScope) (env : WideEnvironment) (env' : Environment) → WideStandsFor s env env' → meaning table_tree env' ≡ y → (s.wrapped ≡ true → AllIndexed others y es env)
          → AllHold (all_translated s es) (wide_meanings others es env) env'
      all_same wide.no_wides s env env' r t g = tt
      all_same (wide.more_wides a more) s env env' r t g = (same a s env env' r t (λ w. (g w).0), all_same more s env env' r t (λ w. (g w).1))

      items_same : (es : WideItems) (s : WideScope) (env : WideEnvironment) (env' : Environment) → WideStandsFor s env env' → meaning table_tree env' ≡ y → (s.wrapped ≡ true → ItemsIndexed others y es env)
          → PartsHold (items_translated s es) (items_meaning others es env) env'
      items_same wide.no_items s env env' r t g = no_parts_hold env'
      items_same (wide.more_items o a more) s env env' r t g =
          part_more o (translated s a) (items_translated s more) (wide_meaning others a env) (items_meaning others more env) env' (same a s env env' r t (λ w. (g w).0))
          (items_same more s env env' r t (λ w. (g w).1))

      entries_same : (es : WideEntries) (s : WideScope) (env : WideEnvironment) (env' : Environment) → WideStandsFor s env env' → meaning table_tree env' ≡ y
          → (s.wrapped ≡ true → EntriesIndexed others y es env) → PairsHold (entries_translated s es) (entries_meaning others es env) env'
      entries_same wide.no_entries s env env' r t g = no_pairs_hold env'
      entries_same (wide.more_entries o k v more) s env env' r t g =
          entry_holds o (translated s k) (translated s v) (entries_translated s more) (wide_meaning others k env) (wide_meaning others v env) (entries_meaning others more env) env'
          (same k s env env' r t (λ w. (g w).0)) (same v s env env' r t (λ w. (g w).1)) (entries_same more s env env' r t (λ w. (g w).2))

pub translation_same : TranslationMeansTheSame
translation_same others e s env env' r h = same others (meaning table_tree env') e s env env' r refl (indexed others (meaning table_tree env') s.wrapped e env h)
