-- Forms over the indices or keys of a range.
use Rattle.std.proofs.Common.{◌≡◌, Bool, true, false, [], ◌∷◌, codes, if◌then◌else◌, refl, ap, ◌∙◌}
use Rattle.cel_reader.specs.Tree as tree
use Rattle.cel_reader.specs.Tree.{Tree}
use Rattle.cel_reader.specs.declared.operator.BinaryOperator.{TheVariants.Less}
use Rattle.value_store.specs.Value.{Value, ValueOrError, error, value}
use Rattle.cel_macros.specs.Comparison.{equal_of, less_of}
use Rattle.cel_macros.specs.Environment.{Environment, bind}
use Rattle.cel_macros.specs.Functions.{size_of}
unfoldable use Rattle.cel_macros.specs.Functions.{function_named}
use Rattle.cel_macros.specs.Literals.{list_literal}
use Rattle.cel_macros.specs.Logic.{ternary_of}
use Rattle.cel_macros.specs.Macros.{range_of}
unfoldable use Rattle.cel_macros.specs.Macros.{is_has}
use Rattle.cel_macros.specs.Selection.{index_of}
use Rattle.cel_macros.specs.declared.macros.Macro.TheVariants as plain_macro
unfoldable use Rattle.cel_macros.specs.Meaning.{meaning, meanings}
use Rattle.wide_meaning.specs.Ranges.{over_items}
use Rattle.wide_translation.specs.Forms.{call_tree, macro_tree, let_tree, held, is_simple}
use Rattle.wide_translation.specs.Names.{held_name, index_name}
use Rattle.wide_translation.specs.Pairs.{here, table_tree, values_tree, pair_tree, pairs_tree, is_list_tree}
use Rattle.wide_translation.specs.Pairs.{items_tree, indices_tree, keys_tree, any_pairs_tree}
use Rattle.wide_translation.specs.Translated.{once}
use Rattle.wide_translation.proofs.Environments.{this_name, other_name, held_is_no_root, table_stays}
use Rattle.wide_translation.proofs.Steps.{on_value, strict, macro_means, let_means, held_is}

-- ---- forms over the indices or keys of a range

-- whether a tree means the same where the name of an index has a value
abbrev pub IsSteady : Tree → Environment → Type 0
IsSteady a env = (w : Value) → meaning a (bind index_name w env) ≡ meaning a env

-- the meaning of a form that binds that name and may use the table of indices
abbrev pub MeansOver : ValueOrError → (Tree → Tree) → (ValueOrError → ValueOrError) → Type 0
MeansOver y b f = (a : Tree) (env : Environment) → meaning table_tree env ≡ y → IsSteady a env → meaning (b a) env ≡ f (meaning a env)

held_is_steady : (v : Value) (env : Environment) → IsSteady held (bind held_name v env)
unfolding meaning
held_is_steady v env w = other_name index_name held_name w (bind held_name v env) refl

over_by : (s : Bool) (y : ValueOrError) (b : Tree → Tree) (f : ValueOrError → ValueOrError) (a : Tree) (env : Environment) → MeansOver y b f → f error ≡ error
    → meaning table_tree env ≡ y → IsSteady a env → meaning (if s then b a else let_tree held_name a (b held)) env ≡ f (meaning a env)
over_by true y b f a env h e t g = h a env t g
over_by false y b f a env h e t g =
    let_means held_name a (b held) env
    ∙ (λ j. on_value (λ v. (h held (bind held_name v env) (table_stays held_name v env held_is_no_root ∙ t) (held_is_steady v env) ∙ ap f (held_is v env)) j) (meaning a env))
    ∙ strict f (meaning a env) e

pub over_means : (y : ValueOrError) (b : Tree → Tree) (f : ValueOrError → ValueOrError) (a : Tree) (env : Environment) → MeansOver y b f → f error ≡ error
    → meaning table_tree env ≡ y → IsSteady a env → meaning (once a b) env ≡ f (meaning a env)
over_means y b f a env h e t g = over_by (is_simple a) y b f a env h e t g

pub here_is : (w : Value) (env : Environment) → meaning here (bind index_name w env) ≡ value w
unfolding meaning
here_is w env = this_name index_name w env

-- the values of a map
abbrev pub values_in_map : ValueOrError → ValueOrError
values_in_map x = over_items plain_macro.Map (λ w. index_of x (value w)) (range_of x)

-- the keys of a map, each with its value
abbrev pub pairs_in_map : ValueOrError → ValueOrError
pairs_in_map x = over_items plain_macro.Map (λ w. list_literal (value w ∷ index_of x (value w) ∷ [])) (range_of x)

-- whether x is the list of its range
abbrev pub is_list : ValueOrError → ValueOrError
is_list x = equal_of (over_items plain_macro.Map (λ w. value w) (range_of x)) x

abbrev pub items_in : ValueOrError → ValueOrError
items_in x = ternary_of (is_list x) x (values_in_map x)

pub values_mean : (y : ValueOrError) → MeansOver y values_tree values_in_map
unfolding meaning
values_mean y a env t h =
    macro_means plain_macro.Map index_name a (tree.index a here) env
    ∙ (λ j. over_items plain_macro.Map (λ w. index_of (h w j) (here_is w env j)) (range_of (meaning a env)))

pub pairs_mean : (y : ValueOrError) → MeansOver y pairs_tree pairs_in_map
unfolding meaning meanings
pairs_mean y a env t h =
    macro_means plain_macro.Map index_name a (pair_tree a) env
    ∙ (λ j. over_items plain_macro.Map (λ w. list_literal (here_is w env j ∷ index_of (h w j) (here_is w env j) ∷ [])) (range_of (meaning a env)))

pub is_list_is : (a : Tree) (env : Environment) → meaning (is_list_tree a) env ≡ is_list (meaning a env)
unfolding meaning
is_list_is a env =
    (λ j. equal_of (macro_means plain_macro.Map index_name a here env j) (meaning a env))
    ∙ (λ j. equal_of (over_items plain_macro.Map (λ w. here_is w env j) (range_of (meaning a env))) (meaning a env))

is_list_means : (y : ValueOrError) → MeansOver y is_list_tree is_list
is_list_means y a env t h = is_list_is a env

pub items_mean : (y : ValueOrError) → MeansOver y items_tree items_in
unfolding meaning
items_mean y a env t h = λ j. ternary_of (is_list_means y a env t h j) (meaning a env) (values_mean y a env t h j)

-- the ints of the table that are less than the size of x
abbrev pub indices_in : ValueOrError → ValueOrError → ValueOrError
indices_in y x = over_items plain_macro.Filter (λ w. less_of (value w) (size_of x)) (range_of y)

abbrev pub keys_in : ValueOrError → ValueOrError → ValueOrError
keys_in y x = ternary_of (is_list x) (indices_in y x) x

abbrev pub any_pairs_in : ValueOrError → ValueOrError → ValueOrError
any_pairs_in y x =
    ternary_of (is_list x) (over_items plain_macro.Map (λ w. list_literal (value w ∷ index_of x (value w) ∷ [])) (range_of (indices_in y x))) (pairs_in_map x)

pub indices_mean : (y : ValueOrError) → MeansOver y indices_tree (indices_in y)
unfolding meaning is_has function_named
indices_mean y a env t h =
    macro_means plain_macro.Filter index_name table_tree (tree.binary Less here (call_tree (codes "size") a)) env
    ∙ (λ j. over_items plain_macro.Filter (λ w. less_of (here_is w env j) (size_of (h w j))) (range_of (t j)))

pub keys_mean : (y : ValueOrError) → MeansOver y keys_tree (keys_in y)
unfolding meaning
keys_mean y a env t h = λ j. ternary_of (is_list_means y a env t h j) (indices_mean y a env t h j) (meaning a env)

each_pair_means : (y : ValueOrError) → MeansOver y (λ a. macro_tree plain_macro.Map index_name (indices_tree a) (pair_tree a))
    (λ x. over_items plain_macro.Map (λ w. list_literal (value w ∷ index_of x (value w) ∷ [])) (range_of (indices_in y x)))
unfolding meaning meanings
each_pair_means y a env t h =
    macro_means plain_macro.Map index_name (indices_tree a) (pair_tree a) env
    ∙ (λ j. over_items plain_macro.Map (λ w. list_literal (here_is w env j ∷ index_of (h w j) (here_is w env j) ∷ [])) (range_of (indices_mean y a env t h j)))

pub any_pairs_mean : (y : ValueOrError) → MeansOver y any_pairs_tree (any_pairs_in y)
unfolding meaning
any_pairs_mean y a env t h = λ j. ternary_of (is_list_means y a env t h j) (each_pair_means y a env t h j) (pairs_mean y a env t h j)
