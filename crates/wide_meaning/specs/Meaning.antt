-- The meaning of a wide expression in an environment, by cases on its tree.
use Rattle.std.specs.Prelude.{ℕ, pos, Bool, true, false, List, [], ◌∷◌, Option, Some, None}
use Rattle.value_store.specs.Value.{Value, int, Entries as ValueEntries, no_entries}
use Rattle.cel_macros.specs.Literals.{literal_of}
use Rattle.cel_macros.specs.Macros.{range_of}
use Rattle.wide_reader.specs.Tree.{Wide, Wides, WideItems, WideEntries}
use Rattle.wide_reader.specs.Tree as wide
use Rattle.wide_reader.specs.declared.wide.Access.{Access, TheVariants.Plain}
use Rattle.wide_meaning.specs.declared.function.Function.{Function}
use Rattle.wide_meaning.specs.declared.function.Method.{Method}
use Rattle.wide_meaning.specs.declared.function.Qualified.{Qualified}
use Rattle.wide_meaning.specs.Outcome.{Outcome, plain, outcome_of, plain_part}
use Rattle.wide_meaning.specs.Access.{field_in, index_in, has_in}
use Rattle.wide_meaning.specs.Operators.{unary_in, binary_in, ternary_in, item_in, entry_in, list_in, map_in}
use Rattle.wide_meaning.specs.Ranges.{plain_macro_of, over_items, filter_map_over, pairs_of, over_pairs, pair_filter_map_over, optional_over}
use Rattle.wide_meaning.specs.Environment.{WideEnvironment, bound, name_in, root_in, variable_in, denotes_variables, hides_variables}
use Rattle.wide_meaning.specs.Functions.{function_named, function_in, method_named, method_in, qualified_named, qualified_in}

-- whether the expression is the literal `[]`
abbrev pub is_empty_list : Wide → Bool
is_empty_list (wide.list wide.no_items) = true
is_empty_list _ = false

-- the namespace that a name before a method can be
abbrev pub namespace_in : Wide → List ℕ
namespace_in (wide.name n) = n
namespace_in _ = []

-- `variables.f`, or the field f of the operand x
abbrev pub selected : Bool → Access → List ℕ → Outcome → WideEnvironment → Outcome
selected true Plain f x env = variable_in f env.variables
selected _ o f x env = field_in o x f

-- a call of a function with one operand; r for all others
abbrev pub called : Option Function → List Outcome → Outcome → Outcome
called (Some f) (x ∷ []) r = outcome_of (function_in f (plain_part x))
called _ xs r = r

-- a call of a function with a namespace or of a method; r for all others
abbrev pub method_called : Option Qualified → Option Method → Outcome → List Outcome → Outcome → Outcome
method_called (Some q) m x xs r = qualified_in q xs r
method_called None (Some m) x xs r = method_in m x xs r
method_called None None x xs r = r

-- The calls that these definitions leave open have the meaning that `others` gives them.
module _ (others : Wide → WideEnvironment → Outcome) where
  unfoldable mutual
    -- the meaning of a wide expression in an environment
    pub wide_meaning : Wide → WideEnvironment → Outcome
    wide_meaning (wide.literal l) env = outcome_of (literal_of l)
    wide_meaning (wide.uint n) env = plain (int (pos n))
    wide_meaning (wide.name n) env = name_in n env
    wide_meaning (wide.root n) env = root_in n env.roots
    wide_meaning (wide.select a o f) env = selected (denotes_variables a (hides_variables env.items)) o f (wide_meaning a env) env
    wide_meaning (wide.index a o k) env = index_in o (wide_meaning a env) (wide_meaning k env)
    wide_meaning (wide.has a f) env = has_in (wide_meaning a env) f
    wide_meaning (wide.unary op a) env = unary_in op (wide_meaning a env)
    wide_meaning (wide.binary op a b) env = binary_in (is_empty_list b) op (wide_meaning a env) (wide_meaning b env)
    wide_meaning (wide.ternary c a b) env = ternary_in (wide_meaning c env) (wide_meaning a env) (wide_meaning b env)
    wide_meaning (wide.list items) env = list_in (items_meaning items env)
    wide_meaning (wide.map es) env = map_in (entries_meaning es env)
    wide_meaning (wide.fold m r x p) env =
        outcome_of (over_items (plain_macro_of m) (λ v. plain_part (wide_meaning p (bound x v env))) (range_of (plain_part (wide_meaning r env))))
    wide_meaning (wide.filter_map r x p t) env =
        outcome_of (filter_map_over (λ v. plain_part (wide_meaning p (bound x v env))) (λ v. plain_part (wide_meaning t (bound x v env)))
        (range_of (plain_part (wide_meaning r env))))
    wide_meaning (wide.pair_fold m r k v p) env =
        outcome_of (over_pairs m (λ e. plain_part (wide_meaning p (bound v e.1 (bound k e.0 env)))) (pairs_of (plain_part (wide_meaning r env))))
    wide_meaning (wide.pair_filter_map r k v p t) env =
        outcome_of (pair_filter_map_over (λ e. plain_part (wide_meaning p (bound v e.1 (bound k e.0 env))))
        (λ e. plain_part (wide_meaning t (bound v e.1 (bound k e.0 env)))) (pairs_of (plain_part (wide_meaning r env))))
    wide_meaning (wide.optional_fold m a x t) env = optional_over m (λ v. wide_meaning t (bound x v env)) (wide_meaning a env)
    wide_meaning (wide.call n es) env = called (function_named n) (wide_meanings es env) (others (wide.call n es) env)
    wide_meaning (wide.method a n es) env =
        method_called (qualified_named (namespace_in a) n) (method_named n) (wide_meaning a env) (wide_meanings es env)
        (others (wide.method a n es) env)

    -- the meaning of each of the expressions
    pub wide_meanings : Wides → WideEnvironment → List Outcome
    wide_meanings wide.no_wides env = []
    wide_meanings (wide.more_wides a more) env = wide_meaning a env ∷ wide_meanings more env

    -- the values of the items, without the optional ones that have no value; None if an item is the error
    pub items_meaning : WideItems → WideEnvironment → Option (List Value)
    items_meaning wide.no_items env = Some []
    items_meaning (wide.more_items o a more) env = item_in o (wide_meaning a env) (items_meaning more env)

    -- the entries, without the optional ones that have no value; None if a part is the error, or a key is no text or
    -- is repeated
    pub entries_meaning : WideEntries → WideEnvironment → Option ValueEntries
    entries_meaning wide.no_entries env = Some no_entries
    entries_meaning (wide.more_entries o k v more) env = entry_in o (wide_meaning k env) (wide_meaning v env) (entries_meaning more env)
