-- The law of narrow expressions, by induction.
use Rattle.std.proofs.Common.{◌≡◌, ◌≤◌, ℕ, Bool, true, false, not, ◌||◌, List, Some, refl, sym, subst, arith, nat_le}
use Rattle.std.proofs.lemmas.Bool.{leb-true}
use Rattle.cel_reader.specs.declared.operator.BinaryOperator.{BinaryOperator}
use Rattle.cel_reader.specs.declared.operator.BinaryOperator.TheVariants as binary
use Rattle.value_store.specs.Lookup.{find}
use Rattle.value_store.specs.Value.{Value, ValueOrError, Entries}
use Rattle.value_store.specs.Value.{map as value_map}
use Rattle.value_widths.specs.Width.{width_of}
use Rattle.value_widths.proofs.Parts.{parts_are_narrower}
use Rattle.cel_macros.specs.Arithmetic.{sum_of}
use Rattle.cel_macros.specs.Environment.{lookup}
use Rattle.cel_macros.specs.Literals.{literal_of}
use Rattle.cel_macros.specs.Logic.{truth}
use Rattle.cel_macros.specs.Macros.{range_of}
use Rattle.cel_macros.specs.Meaning.{unary_of}
use Rattle.wide_reader.specs.Tree.{Wide, Wides, WideItems, WideEntries}
use Rattle.wide_reader.specs.Tree as wide
use Rattle.wide_reader.specs.declared.wide.Access.{TheVariants.Optional}
use Rattle.wide_reader.specs.declared.wide.Macro.TheVariants as macro
use Rattle.wide_reader.specs.declared.wide.PairMacro.TheVariants as pair
use Rattle.wide_meaning.specs.Access.{field_in}
use Rattle.wide_meaning.specs.Environment.{WideEnvironment, bound, denotes_variables}
use Rattle.wide_meaning.specs.Functions.{function_named, method_named, qualified_named}
unfoldable use Rattle.wide_meaning.specs.Meaning.{wide_meaning, wide_meanings, items_meaning, entries_meaning}
use Rattle.wide_meaning.specs.Meaning.{selected as field_selected, is_empty_list, namespace_in}
use Rattle.wide_meaning.specs.Operators.{binary_in}
use Rattle.wide_meaning.specs.Outcome.{Outcome, plain_part, outcome_of}
use Rattle.wide_meaning.specs.Ranges.{pairs_of}
use Rattle.wide_widths.specs.Law.{IsOutcomeWithin, IsEnvironmentWithin, NarrowMeansWithin}
use Rattle.wide_widths.specs.Narrow.{NarrowNames, binding, known, is_hidden, is_sum, literal_limit, items_count, entries_count}
unfoldable use Rattle.wide_widths.specs.Narrow.{is_narrow, are_narrow, are_items_narrow, are_entries_narrow, is_scalar}
use Rattle.wide_widths.proofs.Calls.{AreWithin, called_within, operand_within}
use Rattle.wide_widths.proofs.Lists.{range_within, pairs_within}
use Rattle.wide_widths.proofs.Macros.{all_within, exists_within, exists_one_within, filter_within, map_within, filter_map_within, pair_all_within, pair_exists_within, pair_exists_one_within, transform_within, pair_filter_map_within, optional_within}
use Rattle.wide_widths.proofs.Results.{IsFlat, IsNoList, AreItemsWithin, AreEntriesWithin, flat_within, literal_flat, literal_no_list, unary_flat, binary_within, sum_flat_left, sum_flat_right, whole, item_within, items_list_within, entry_in_within, entries_map_within}
use Rattle.wide_widths.proofs.Values.{field_within, index_within, plain_within, present_within}
use Rattle.wide_widths.proofs.Within.{and_left, and_right, bound_within, chosen_within, name_within, root_within, selected_within}

-- a sum with an operand that is no list is none, and has no list in it
sum_flat : (a b : Bool) (x y : ValueOrError) → (a ≡ true → IsNoList x) → (b ≡ true → IsNoList y) → (a || b) ≡ true → IsFlat (sum_of x y) × IsNoList (sum_of x y)
sum_flat true b x y h g k = sum_flat_left x y (h refl)
sum_flat false true x y h g k = sum_flat_right x y (g refl)
sum_flat false false x y h g k = absurd (cc)

plain_no_list : (x : ValueOrError) → IsNoList x → IsNoList (plain_part (outcome_of x))
plain_no_list x h = subst IsNoList (sym (whole x)) h

of_sum : (c : Bool) (op : BinaryOperator) (x y : Outcome) → is_sum op ≡ true → IsNoList (sum_of (plain_part x) (plain_part y)) → IsNoList (plain_part (binary_in c op x y))
of_sum true binary.Add x y h g = plain_no_list (sum_of (plain_part x) (plain_part y)) g
of_sum false binary.Add x y h g = plain_no_list (sum_of (plain_part x) (plain_part y)) g
of_sum c op x y h g = absurd (cc)

not_then : (b c : Bool) → (not b || c) ≡ true → b ≡ true → c ≡ true
not_then true c h e = h
not_then false c h e = absurd (cc)

within_literal : (m n : ℕ) → nat_le m literal_limit ≡ true → literal_limit ≤ n → m ≤ n
within_literal m n h l = let g = leb-true m literal_limit h in omega (arith, g, l)

module _ (others : Wide → WideEnvironment → Outcome) (n : ℕ) where
  scalar_no_list : (e : Wide) (env : WideEnvironment) → is_scalar e ≡ true → IsNoList (plain_part (wide_meaning others e env))
  unfolding is_scalar wide_meaning
  scalar_no_list (wide.literal l) env h = plain_no_list (literal_of l) (literal_no_list l)
  scalar_no_list (wide.uint i) env h = tt
  scalar_no_list (wide.binary op a b) env h =
      let x = wide_meaning others a env in
      let y = wide_meaning others b env in
      of_sum (is_empty_list b) op x y (and_left (is_sum op) (is_scalar a || is_scalar b) h)
      (sum_flat (is_scalar a) (is_scalar b) (plain_part x) (plain_part y) (scalar_no_list a env) (scalar_no_list b env)
      (and_right (is_sum op) (is_scalar a || is_scalar b) h)).1
  scalar_no_list e env h = absurd (cc)

  found : (es : Entries) (k : List ℕ) (w : Value) → width_of (value_map es) ≤ n → find k es ≡ Some w → width_of w ≤ n
  found es k w h e = let g = parts_are_narrower.entry es k w e in omega (arith, g, h)

  mutual
    unfolding is_narrow wide_meaning

    within : (e : Wide) (s : NarrowNames) (env : WideEnvironment) → IsEnvironmentWithin n s env → is_narrow s e ≡ true → IsOutcomeWithin n (wide_meaning others e env)
    within (wide.literal l) s env h k = flat_within n (literal_of l) (literal_flat l)
    within (wide.uint i) s env h k = omega arith
    within (wide.name x) s env h k = name_within n x s env h k
    within (wide.root x) s env h k = root_within n x env.roots h.roots
    within (wide.select a o f) s env h k =
        subst (λ (b : Bool). IsOutcomeWithin n (field_selected (denotes_variables a b) o f (wide_meaning others a env) env)) h.hidden
        (selected_within n (denotes_variables a (is_hidden s)) o (known (lookup f s.variables)) (is_narrow s a) f (wide_meaning others a env) env
        (h.varied f) (λ i. field_within n o (wide_meaning others a env) f (within a s env h i)) k)
    within (wide.index a o i) s env h k = index_within n o (wide_meaning others a env) (wide_meaning others i env) (within a s env h k)
    within (wide.has a f) s env h k = present_within n (field_in Optional (wide_meaning others a env) f)
    within (wide.unary op a) s env h k = flat_within n (unary_of op (plain_part (wide_meaning others a env))) (unary_flat op (plain_part (wide_meaning others a env)))
    within (wide.binary op a b) s env h k =
        let x = wide_meaning others a env in
        let y = wide_meaning others b env in
        binary_within n (is_empty_list b) op x y (λ e.
        (sum_flat (is_scalar a) (is_scalar b) (plain_part x) (plain_part y) (scalar_no_list a env) (scalar_no_list b env)
        (not_then (is_sum op) (is_scalar a || is_scalar b) k e)).0)
    within (wide.ternary c a b) s env h k =
        chosen_within n (truth (plain_part (wide_meaning others c env))) (wide_meaning others a env) (wide_meaning others b env)
        (within a s env h (and_left (is_narrow s a) (is_narrow s b) k)) (within b s env h (and_right (is_narrow s a) (is_narrow s b) k))
    within (wide.list items) s env h k =
        items_list_within n (items_count items) (items_meaning others items env)
        (within_literal (items_count items) n (and_left (nat_le (items_count items) literal_limit) (are_items_narrow s items) k) h.literals)
        (items_within items s env h (and_right (nat_le (items_count items) literal_limit) (are_items_narrow s items) k))
    within (wide.map es) s env h k =
        entries_map_within n (entries_count es) (entries_meaning others es env)
        (within_literal (entries_count es) n (and_left (nat_le (entries_count es) literal_limit) (are_entries_narrow s es) k) h.literals)
        (entries_within es s env h (and_right (nat_le (entries_count es) literal_limit) (are_entries_narrow s es) k))
    within (wide.fold macro.All r x p) s env h k =
        all_within n (λ v. plain_part (wide_meaning others p (bound x v env))) (range_of (plain_part (wide_meaning others r env)))
    within (wide.fold macro.Exists r x p) s env h k =
        exists_within n (λ v. plain_part (wide_meaning others p (bound x v env))) (range_of (plain_part (wide_meaning others r env)))
    within (wide.fold macro.ExistsOne r x p) s env h k =
        exists_one_within n (λ v. plain_part (wide_meaning others p (bound x v env))) (range_of (plain_part (wide_meaning others r env)))
    within (wide.fold macro.Filter r x p) s env h k =
        filter_within n (λ v. plain_part (wide_meaning others p (bound x v env))) (range_of (plain_part (wide_meaning others r env)))
        (range_within n (plain_part (wide_meaning others r env)) (plain_within n (wide_meaning others r env) (within r s env h k)))
    within (wide.fold macro.Map r x p) s env h k =
        map_within n (λ v. plain_part (wide_meaning others p (bound x v env))) (range_of (plain_part (wide_meaning others r env)))
        (λ v w. plain_within n (wide_meaning others p (bound x v env)) (within p (binding x (is_narrow s r) s) (bound x v env) (bound_within n x (is_narrow s r) v s env h (λ j. w)) (and_right (is_narrow s r) (is_narrow (binding x (is_narrow s r) s) p) k)))
        (range_within n (plain_part (wide_meaning others r env)) (plain_within n (wide_meaning others r env) (within r s env h (and_left (is_narrow s r) (is_narrow (binding x (is_narrow s r) s) p) k))))
    within (wide.filter_map r x p t) s env h k =
        filter_map_within n (λ v. plain_part (wide_meaning others p (bound x v env))) (λ v. plain_part (wide_meaning others t (bound x v env))) (range_of (plain_part (wide_meaning others r env)))
        (λ v w. plain_within n (wide_meaning others t (bound x v env)) (within t (binding x (is_narrow s r) s) (bound x v env) (bound_within n x (is_narrow s r) v s env h (λ j. w)) (and_right (is_narrow s r) (is_narrow (binding x (is_narrow s r) s) t) k)))
        (range_within n (plain_part (wide_meaning others r env)) (plain_within n (wide_meaning others r env) (within r s env h (and_left (is_narrow s r) (is_narrow (binding x (is_narrow s r) s) t) k))))
    within (wide.pair_fold pair.All r i v p) s env h k =
        pair_all_within n (λ e. plain_part (wide_meaning others p (bound v e.1 (bound i e.0 env)))) (pairs_of (plain_part (wide_meaning others r env)))
    within (wide.pair_fold pair.Exists r i v p) s env h k =
        pair_exists_within n (λ e. plain_part (wide_meaning others p (bound v e.1 (bound i e.0 env)))) (pairs_of (plain_part (wide_meaning others r env)))
    within (wide.pair_fold pair.ExistsOne r i v p) s env h k =
        pair_exists_one_within n (λ e. plain_part (wide_meaning others p (bound v e.1 (bound i e.0 env)))) (pairs_of (plain_part (wide_meaning others r env)))
    within (wide.pair_fold pair.TransformList r i v p) s env h k =
        transform_within n (λ e. plain_part (wide_meaning others p (bound v e.1 (bound i e.0 env)))) (pairs_of (plain_part (wide_meaning others r env)))
        (λ e w. plain_within n (wide_meaning others p (bound v e.1 (bound i e.0 env)))
        (within p (binding v (is_narrow s r) (binding i true s)) (bound v e.1 (bound i e.0 env))
        (bound_within n v (is_narrow s r) e.1 (binding i true s) (bound i e.0 env) (bound_within n i true e.0 s env h (λ j. w.0)) (λ j. w.1)) (and_right (is_narrow s r) (is_narrow (binding v (is_narrow s r) (binding i true s)) p) k)))
        (pairs_within n (plain_part (wide_meaning others r env)) found (plain_within n (wide_meaning others r env) (within r s env h (and_left (is_narrow s r) (is_narrow (binding v (is_narrow s r) (binding i true s)) p) k))))
    within (wide.pair_filter_map r i v p t) s env h k =
        pair_filter_map_within n (λ e. plain_part (wide_meaning others p (bound v e.1 (bound i e.0 env)))) (λ e. plain_part (wide_meaning others t (bound v e.1 (bound i e.0 env))))
        (pairs_of (plain_part (wide_meaning others r env)))
        (λ e w. plain_within n (wide_meaning others t (bound v e.1 (bound i e.0 env)))
        (within t (binding v (is_narrow s r) (binding i true s)) (bound v e.1 (bound i e.0 env))
        (bound_within n v (is_narrow s r) e.1 (binding i true s) (bound i e.0 env) (bound_within n i true e.0 s env h (λ j. w.0)) (λ j. w.1)) (and_right (is_narrow s r) (is_narrow (binding v (is_narrow s r) (binding i true s)) t) k)))
        (pairs_within n (plain_part (wide_meaning others r env)) found (plain_within n (wide_meaning others r env) (within r s env h (and_left (is_narrow s r) (is_narrow (binding v (is_narrow s r) (binding i true s)) t) k))))
    within (wide.optional_fold m a x t) s env h k =
        optional_within n m (λ v. wide_meaning others t (bound x v env)) (wide_meaning others a env) (is_narrow s a) (λ i. within a s env h i)
        (λ v w. within t (binding x (is_narrow s a) s) (bound x v env) (bound_within n x (is_narrow s a) v s env h w) k)
    within (wide.call f es) s env h k =
        called_within n (function_named f) (are_narrow s es) (wide_meanings others es env) (others (wide.call f es) env) (each_within es s env h) k
    within (wide.method a f es) s env h k =
        operand_within n (qualified_named (namespace_in a) f) (method_named f) (is_narrow s a) (are_narrow s es) (wide_meaning others a env) (wide_meanings others es env)
        (others (wide.method a f es) env) (λ i. within a s env h i) (each_within es s env h) k

    each_within : (es : Wides) (s : NarrowNames) (env : WideEnvironment) → IsEnvironmentWithin n s env → AreWithin n (are_narrow s es) (wide_meanings others es env)
    each_within wide.no_wides s env h = tt
    each_within (wide.more_wides a more) s env h = ((λ i. within a s env h i), each_within more s env h)

    items_within : (es : WideItems) (s : NarrowNames) (env : WideEnvironment) → IsEnvironmentWithin n s env → are_items_narrow s es ≡ true
        → AreItemsWithin n (items_count es) (items_meaning others es env)
    items_within wide.no_items s env h k = (omega arith, tt)
    items_within (wide.more_items o a more) s env h k =
        item_within n o (wide_meaning others a env) (items_count more) (items_meaning others more env)
        (within a s env h (and_left (is_narrow s a) (are_items_narrow s more) k)) (items_within more s env h (and_right (is_narrow s a) (are_items_narrow s more) k))

    entries_within : (es : WideEntries) (s : NarrowNames) (env : WideEnvironment) → IsEnvironmentWithin n s env → are_entries_narrow s es ≡ true
        → AreEntriesWithin n (entries_count es) (entries_meaning others es env)
    entries_within wide.no_entries s env h k = (omega arith, omega arith)
    entries_within (wide.more_entries o i v more) s env h k =
        entry_in_within n o (wide_meaning others i env) (wide_meaning others v env) (entries_count more) (entries_meaning others more env)
        (within v s env h (and_left (is_narrow s v) (are_entries_narrow s more) k)) (entries_within more s env h (and_right (is_narrow s v) (are_entries_narrow s more) k))

pub narrow_means_within : NarrowMeansWithin
narrow_means_within others n s env e h k = within others n e s env h k
