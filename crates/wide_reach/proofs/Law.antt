-- The law of the reach, by induction.
use Rattle.std.proofs.Common.{◌≡◌, pos, Bool, true, false, [], sym, subst, unwrap_or}
use Rattle.value_store.specs.Value.{int}
use Rattle.cel_macros.specs.Environment.{lookup, root_bindings}
use Rattle.cel_macros.specs.Literals.{literal_of}
use Rattle.cel_macros.specs.Logic.{truth, not_of}
use Rattle.cel_macros.specs.Macros.{range_of, variables_name}
use Rattle.cel_reader.specs.declared.operator.UnaryOperator.{TheVariants.Not, TheVariants.Negate}
use Rattle.wide_reader.specs.Tree.{Wide, WideItems}
use Rattle.wide_reader.specs.Tree as wide
use Rattle.wide_reader.specs.declared.wide.Access.{TheVariants.Optional}
use Rattle.wide_meaning.specs.Access.{field_in}
use Rattle.wide_meaning.specs.Environment.{WideEnvironment, bound, denotes_variables, hides_variables}
use Rattle.wide_meaning.specs.Functions.{function_named, method_named, qualified_named}
unfoldable use Rattle.wide_meaning.specs.Meaning.{wide_meaning, items_meaning}
use Rattle.wide_meaning.specs.Meaning.{selected as field_selected, is_empty_list, namespace_in}
use Rattle.wide_meaning.specs.Outcome.{Outcome, plain_part}
use Rattle.wide_meaning.specs.Ranges.{pairs_of}
use Rattle.wide_reach.specs.Known.{KnownNames, binding, known, selected}
unfoldable use Rattle.wide_reach.specs.Known.{has_reach, items_have_reach}
use Rattle.wide_reach.specs.Law.{IsOutcomeReached, AreInRange, ValuesAreReached}
use Rattle.wide_reach.specs.Parts.{fields, indexed, ranged}
use Rattle.wide_reach.specs.Ranges.{Ranges, ranging, select_reach, valued}
unfoldable use Rattle.wide_reach.specs.Ranges.{reach, items_reach}
use Rattle.wide_reach.specs.Reached.{one}
use Rattle.wide_reach.proofs.Calls.{called_reached, alone_reached, with_one_reached, with_two_reached}
use Rattle.wide_reach.proofs.Lists.{first, none}
use Rattle.wide_reach.proofs.Names.{name_reached, bound_in_range, selected_reached, indexed_reached}
use Rattle.wide_reach.proofs.Operations.{and_left, and_right, binary_reached}
use Rattle.wide_reach.proofs.Ranged.{AreReached, range_reached, pairs_reached, item_reached, items_list_reached}
use Rattle.wide_reach.proofs.Ranged.{fold_reached, filter_map_reached, pair_fold_reached, pair_filter_map_reached}
use Rattle.wide_reach.proofs.Ranged.{optional_fold_reached}
use Rattle.wide_reach.proofs.Results.{outcome_reached, plain_reached, valued_reached, document_reached, field_reached, chosen_reached}
use Rattle.wide_reach.proofs.Truths.{truth_reached, not_bool, present_reached}

module _ (others : Wide → WideEnvironment → Outcome) where
  mutual
    unfolding has_reach reach wide_meaning

    reached : (e : Wide) (s : KnownNames) (r : Ranges) (env : WideEnvironment) → AreInRange s r env → has_reach s e ≡ true
        → IsOutcomeReached (reach env.roots r e) (wide_meaning others e env)
    reached (wide.literal l) s r env h k =
        outcome_reached (valued (literal_of l)) (literal_of l) (valued_reached (valued (literal_of l)) (literal_of l) (λ v i. i))
    reached (wide.uint n) s r env h k = one (first (int (pos n)) [])
    reached (wide.name x) s r env h k = name_reached x s r env h k
    reached (wide.root x) s r env h k = document_reached (lookup x (root_bindings env.roots))
    reached (wide.select a o f) s r env h k =
        subst (λ (b : Bool). IsOutcomeReached
        (select_reach (denotes_variables a b) o (unwrap_or (lookup f r.variables) []) (fields f (reach env.roots r a)))
        (field_selected (denotes_variables a (hides_variables env.items)) o f (wide_meaning others a env) env))
        (sym (h.ranged variables_name))
        (selected_reached (denotes_variables a (hides_variables env.items)) o (known (lookup f s.variables)) (has_reach s a)
        (unwrap_or (lookup f r.variables) []) (fields f (reach env.roots r a)) f (wide_meaning others a env) env
        (h.varied f) (λ i. field_reached o (reach env.roots r a) (wide_meaning others a env) f (reached a s r env h i))
        (subst (λ (b : Bool). selected (denotes_variables a b) o (known (lookup f s.variables)) (has_reach s a) ≡ true) h.hidden k))
    reached (wide.index a o i) s r env h k =
        indexed_reached others o (reach env.roots r a) (wide_meaning others a env) i env (reached a s r env h k)
    reached (wide.has a f) s r env h k = present_reached (field_in Optional (wide_meaning others a env) f)
    reached (wide.unary Not a) s r env h k =
        truth_reached (not_of (plain_part (wide_meaning others a env))) (not_bool (plain_part (wide_meaning others a env)))
    reached (wide.unary Negate a) s r env h k = absurd (cc)
    reached (wide.binary op a b) s r env h k =
        binary_reached (is_empty_list b) op (reach env.roots r a) (reach env.roots r b) (has_reach s a) (has_reach s b)
        (wide_meaning others a env) (wide_meaning others b env) (λ i. reached a s r env h i) (λ i. reached b s r env h i) k
    reached (wide.ternary c a b) s r env h k =
        chosen_reached (reach env.roots r a) (reach env.roots r b) (truth (plain_part (wide_meaning others c env)))
        (wide_meaning others a env) (wide_meaning others b env)
        (reached a s r env h (and_left (has_reach s a) (has_reach s b) k))
        (reached b s r env h (and_right (has_reach s a) (has_reach s b) k))
    reached (wide.list items) s r env h k =
        items_list_reached (items_reach env.roots r items) (items_meaning others items env) (items_reached items s r env h k)
    reached (wide.map es) s r env h k = absurd (cc)
    reached (wide.fold m a x p) s r env h k =
        let vs = reach env.roots r a in
        let b = has_reach s a in
        fold_reached m (ranged vs) (reach env.roots (ranging x (ranged vs) r) p) b (has_reach (binding x b s) p)
        (λ v. plain_part (wide_meaning others p (bound x v env))) (range_of (plain_part (wide_meaning others a env)))
        (λ j. range_reached vs (plain_part (wide_meaning others a env))
        (plain_reached vs (wide_meaning others a env) (reached a s r env h j)))
        (λ v w j. plain_reached (reach env.roots (ranging x (ranged vs) r) p) (wide_meaning others p (bound x v env))
        (reached p (binding x b s) (ranging x (ranged vs) r) (bound x v env) (bound_in_range x b (ranged vs) v s r env h w) j)) k
    reached (wide.filter_map a x p t) s r env h k =
        let vs = reach env.roots r a in
        let b = has_reach s a in
        filter_map_reached (ranged vs) (reach env.roots (ranging x (ranged vs) r) t) b
        (λ v. plain_part (wide_meaning others p (bound x v env)))
        (λ v. plain_part (wide_meaning others t (bound x v env))) (range_of (plain_part (wide_meaning others a env)))
        (λ j. range_reached vs (plain_part (wide_meaning others a env))
        (plain_reached vs (wide_meaning others a env) (reached a s r env h j)))
        (λ v w. plain_reached (reach env.roots (ranging x (ranged vs) r) t) (wide_meaning others t (bound x v env))
        (reached t (binding x b s) (ranging x (ranged vs) r) (bound x v env) (bound_in_range x b (ranged vs) v s r env h w) k))
    reached (wide.pair_fold m a i x p) s r env h k =
        let vs = reach env.roots r a in
        let b = has_reach s a in
        pair_fold_reached m (indexed vs) (reach env.roots (ranging x (indexed vs) (ranging i [] r)) p) b
        (has_reach (binding x b (binding i false s)) p)
        (λ e. plain_part (wide_meaning others p (bound x e.1 (bound i e.0 env)))) (pairs_of (plain_part (wide_meaning others a env)))
        (λ j. pairs_reached vs (plain_part (wide_meaning others a env))
        (plain_reached vs (wide_meaning others a env) (reached a s r env h j)))
        (λ e w j. plain_reached (reach env.roots (ranging x (indexed vs) (ranging i [] r)) p)
        (wide_meaning others p (bound x e.1 (bound i e.0 env)))
        (reached p (binding x b (binding i false s)) (ranging x (indexed vs) (ranging i [] r)) (bound x e.1 (bound i e.0 env))
        (bound_in_range x b (indexed vs) e.1 (binding i false s) (ranging i [] r) (bound i e.0 env)
        (bound_in_range i false [] e.0 s r env h (λ f. absurd (cc))) w) j)) k
    reached (wide.pair_filter_map a i x p t) s r env h k =
        let vs = reach env.roots r a in
        let b = has_reach s a in
        pair_filter_map_reached (indexed vs) (reach env.roots (ranging x (indexed vs) (ranging i [] r)) t) b
        (λ e. plain_part (wide_meaning others p (bound x e.1 (bound i e.0 env))))
        (λ e. plain_part (wide_meaning others t (bound x e.1 (bound i e.0 env))))
        (pairs_of (plain_part (wide_meaning others a env)))
        (λ j. pairs_reached vs (plain_part (wide_meaning others a env))
        (plain_reached vs (wide_meaning others a env) (reached a s r env h j)))
        (λ e w. plain_reached (reach env.roots (ranging x (indexed vs) (ranging i [] r)) t)
        (wide_meaning others t (bound x e.1 (bound i e.0 env)))
        (reached t (binding x b (binding i false s)) (ranging x (indexed vs) (ranging i [] r)) (bound x e.1 (bound i e.0 env))
        (bound_in_range x b (indexed vs) e.1 (binding i false s) (ranging i [] r) (bound i e.0 env)
        (bound_in_range i false [] e.0 s r env h (λ f. absurd (cc))) w) k))
    reached (wide.optional_fold m a x t) s r env h k =
        let vs = reach env.roots r a in
        let b = has_reach s a in
        optional_fold_reached m vs (reach env.roots (ranging x vs r) t) b (λ v. wide_meaning others t (bound x v env))
        (wide_meaning others a env)
        (λ i. reached a s r env h i)
        (λ v w. reached t (binding x b s) (ranging x vs r) (bound x v env) (bound_in_range x b vs v s r env h w) k)
    reached (wide.call f (wide.more_wides a wide.no_wides)) s r env h k =
        called_reached (function_named f) (has_reach s a) (reach env.roots r a) (wide_meaning others a env)
        (others (wide.call f (wide.more_wides a wide.no_wides)) env) (λ i. reached a s r env h i) k
    reached (wide.call f es) s r env h k = absurd (cc)
    reached (wide.method a f wide.no_wides) s r env h k =
        alone_reached (qualified_named (namespace_in a) f) (method_named f) (has_reach s a) (reach env.roots r a)
        (wide_meaning others a env)
        (others (wide.method a f wide.no_wides) env) (λ i. reached a s r env h i) k
    reached (wide.method a f (wide.more_wides b wide.no_wides)) s r env h k =
        with_one_reached (qualified_named (namespace_in a) f) (method_named f) (has_reach s a) (has_reach s b) (reach env.roots r a)
        (reach env.roots r b)
        (wide_meaning others a env) (wide_meaning others b env) (others (wide.method a f (wide.more_wides b wide.no_wides)) env)
        (λ i. reached a s r env h i) (λ i. reached b s r env h i) k
    reached (wide.method a f (wide.more_wides b (wide.more_wides c wide.no_wides))) s r env h k =
        with_two_reached (qualified_named (namespace_in a) f) (method_named f) (has_reach s a) (reach env.roots r a)
        (wide_meaning others a env)
        (wide_meaning others b env) (wide_meaning others c env)
        (others (wide.method a f (wide.more_wides b (wide.more_wides c wide.no_wides))) env) (λ i. reached a s r env h i) k
    reached (wide.method a f es) s r env h k = absurd (cc)

    items_reached : (es : WideItems) (s : KnownNames) (r : Ranges) (env : WideEnvironment) → AreInRange s r env
        → items_have_reach s es ≡ true
        → AreReached (items_reach env.roots r es) (items_meaning others es env)
    items_reached wide.no_items s r env h k = λ v i. absurd (none v i)
    items_reached (wide.more_items o a more) s r env h k =
        item_reached o (wide_meaning others a env) (reach env.roots r a) (items_reach env.roots r more) (items_meaning others more env)
        (reached a s r env h (and_left (has_reach s a) (items_have_reach s more) k))
        (items_reached more s r env h (and_right (has_reach s a) (items_have_reach s more) k))

pub values_are_reached : ValuesAreReached
values_are_reached others s r env e h k = reached others e s r env h k
