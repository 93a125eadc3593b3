-- Whether an expression uses a name.
use Rattle.std.specs.Prelude.{ℕ, Bool, true, false, not, ◌&&◌, ◌||◌, List, bytes_eq}
use Rattle.std.specs.Option.{option_map_or}
use Rattle.wide_reader.specs.Tree.{Wide, Wides, WideItems, WideEntries}
use Rattle.wide_reader.specs.Tree as wide
use Rattle.wide_meaning.specs.declared.function.Method.{Method}
use Rattle.wide_meaning.specs.declared.function.Method.TheVariants as method
use Rattle.wide_meaning.specs.Functions.{method_named}

-- whether the name n is neither k nor v
abbrev neither : List ℕ → List ℕ → List ℕ → Bool
neither n k v = not (bytes_eq k n) && not (bytes_eq v n)

unfoldable mutual
  -- whether the name n occurs in an expression outside of the macros in it that bind n
  pub uses : List ℕ → Wide → Bool
  uses n (wide.literal l) = false
  uses n (wide.uint i) = false
  uses n (wide.name m) = bytes_eq m n
  uses n (wide.root m) = false
  uses n (wide.select a o f) = uses n a
  uses n (wide.index a o k) = uses n a || uses n k
  uses n (wide.has a f) = uses n a
  uses n (wide.unary op a) = uses n a
  uses n (wide.binary op a b) = uses n a || uses n b
  uses n (wide.ternary c a b) = uses n c || uses n a || uses n b
  uses n (wide.list items) = items_use n items
  uses n (wide.map es) = entries_use n es
  uses n (wide.fold m r x p) = uses n r || (not (bytes_eq x n) && uses n p)
  uses n (wide.filter_map r x p t) = uses n r || (not (bytes_eq x n) && (uses n p || uses n t))
  uses n (wide.pair_fold m r k v p) = uses n r || (neither n k v && uses n p)
  uses n (wide.pair_filter_map r k v p t) = uses n r || (neither n k v && (uses n p || uses n t))
  uses n (wide.optional_fold m a x t) = uses n a || (not (bytes_eq x n) && uses n t)
  uses n (wide.call f es) = any_uses n es
  uses n (wide.method a f es) = uses n a || any_uses n es

  -- whether it does in one of the expressions
  pub any_uses : List ℕ → Wides → Bool
  any_uses n wide.no_wides = false
  any_uses n (wide.more_wides a more) = uses n a || any_uses n more

  -- whether it does in the items of a list literal
  pub items_use : List ℕ → WideItems → Bool
  items_use n wide.no_items = false
  items_use n (wide.more_items o a more) = uses n a || items_use n more

  -- whether it does in the entries of a map literal
  pub entries_use : List ℕ → WideEntries → Bool
  entries_use n wide.no_entries = false
  entries_use n (wide.more_entries o k v more) = uses n k || uses n v || entries_use n more

-- whether a method looks at the places of its list
abbrev pub is_by_place : Method → Bool
is_by_place method.IsSorted = true
is_by_place method.Distinct = true
is_by_place method.Reverse = true
is_by_place method.Slice = true
is_by_place method.IndexOf = true
is_by_place method.LastIndexOf = true
is_by_place _ = false

-- whether the method with this name does, if there is one
abbrev pub needs_indices : List ℕ → Bool
needs_indices n = option_map_or is_by_place (method_named n) false

unfoldable mutual
  -- whether a macro with two names in the expression uses the first of them, or a method looks at the places of its list
  pub uses_keys : Wide → Bool
  uses_keys (wide.literal l) = false
  uses_keys (wide.uint i) = false
  uses_keys (wide.name m) = false
  uses_keys (wide.root m) = false
  uses_keys (wide.select a o f) = uses_keys a
  uses_keys (wide.index a o k) = uses_keys a || uses_keys k
  uses_keys (wide.has a f) = uses_keys a
  uses_keys (wide.unary op a) = uses_keys a
  uses_keys (wide.binary op a b) = uses_keys a || uses_keys b
  uses_keys (wide.ternary c a b) = (uses_keys c || uses_keys a) || uses_keys b
  uses_keys (wide.list items) = items_use_keys items
  uses_keys (wide.map es) = entries_use_keys es
  uses_keys (wide.fold m r x p) = uses_keys r || uses_keys p
  uses_keys (wide.filter_map r x p t) = (uses_keys r || uses_keys p) || uses_keys t
  uses_keys (wide.pair_fold m r k v p) = (uses_keys r || uses k p) || uses_keys p
  uses_keys (wide.pair_filter_map r k v p t) = ((uses_keys r || (uses k p || uses k t)) || uses_keys p) || uses_keys t
  uses_keys (wide.optional_fold m a x t) = uses_keys a || uses_keys t
  uses_keys (wide.call f es) = any_uses_keys es
  uses_keys (wide.method a f es) = (uses_keys a || needs_indices f) || any_uses_keys es

  -- whether one in one of the expressions does
  pub any_uses_keys : Wides → Bool
  any_uses_keys wide.no_wides = false
  any_uses_keys (wide.more_wides a more) = uses_keys a || any_uses_keys more

  -- whether one in the items of a list literal does
  pub items_use_keys : WideItems → Bool
  items_use_keys wide.no_items = false
  items_use_keys (wide.more_items o a more) = uses_keys a || items_use_keys more

  -- whether one in the entries of a map literal does
  pub entries_use_keys : WideEntries → Bool
  entries_use_keys wide.no_entries = false
  entries_use_keys (wide.more_entries o k v more) = (uses_keys k || uses_keys v) || entries_use_keys more
