-- Which expressions need indices of narrow ranges only, judged by their form.
use Rattle.std.specs.Prelude.{ℕ, Bool, true, ◌&&◌, ◌||◌, not, List, [], ◌∷◌, ◌++◌}
use Rattle.wide_reader.specs.Tree.{Wide, Wides, WideItems, WideEntries}
use Rattle.wide_reader.specs.Tree as wide
use Rattle.wide_translation.specs.Placed.{WideStep}
use Rattle.wide_translation.specs.Uses.{uses, needs_indices}
use Rattle.wide_widths.specs.Narrow.{NarrowNames, binding, is_narrow}

-- whether a range, or the list of a method, is narrow, if its keys or indices are used
abbrev pub is_narrow_if : Bool → Bool → Bool
is_narrow_if used narrow = not used || narrow

-- the names inside a macro with two names: keys and indices are no lists
abbrev pub binding_pair : List ℕ → List ℕ → Bool → NarrowNames → NarrowNames
binding_pair k v b s = binding v b (binding k true s)

unfoldable mutual
  -- whether each range in an expression of which a macro with two names uses the keys or indices is narrow, and the list
  -- of each method that looks at its places
  pub has_narrow_ranges : NarrowNames → Wide → Bool
  has_narrow_ranges s (wide.literal l) = true
  has_narrow_ranges s (wide.uint n) = true
  has_narrow_ranges s (wide.name n) = true
  has_narrow_ranges s (wide.root n) = true
  has_narrow_ranges s (wide.select a o f) = has_narrow_ranges s a
  has_narrow_ranges s (wide.index a o k) = has_narrow_ranges s a && has_narrow_ranges s k
  has_narrow_ranges s (wide.has a f) = has_narrow_ranges s a
  has_narrow_ranges s (wide.unary op a) = has_narrow_ranges s a
  has_narrow_ranges s (wide.binary op a b) = has_narrow_ranges s a && has_narrow_ranges s b
  has_narrow_ranges s (wide.ternary c a b) = has_narrow_ranges s c && (has_narrow_ranges s a && has_narrow_ranges s b)
  has_narrow_ranges s (wide.list items) = items_have_narrow_ranges s items
  has_narrow_ranges s (wide.map es) = entries_have_narrow_ranges s es
  has_narrow_ranges s (wide.fold m r x p) = has_narrow_ranges s r && has_narrow_ranges (binding x (is_narrow s r) s) p
  has_narrow_ranges s (wide.filter_map r x p t) =
      has_narrow_ranges s r
      && (has_narrow_ranges (binding x (is_narrow s r) s) p && has_narrow_ranges (binding x (is_narrow s r) s) t)
  has_narrow_ranges s (wide.pair_fold m r k v p) =
      has_narrow_ranges s r
      && (is_narrow_if (uses k p) (is_narrow s r) && has_narrow_ranges (binding_pair k v (is_narrow s r) s) p)
  has_narrow_ranges s (wide.pair_filter_map r k v p t) =
      has_narrow_ranges s r
      && (is_narrow_if (uses k p || uses k t) (is_narrow s r)
      && (has_narrow_ranges (binding_pair k v (is_narrow s r) s) p && has_narrow_ranges (binding_pair k v (is_narrow s r) s) t))
  has_narrow_ranges s (wide.optional_fold m a x t) =
      has_narrow_ranges s a && has_narrow_ranges (binding x (is_narrow s a) s) t
  has_narrow_ranges s (wide.call n es) = all_have_narrow_ranges s es
  has_narrow_ranges s (wide.method a n es) =
      has_narrow_ranges s a && (is_narrow_if (needs_indices n) (is_narrow s a) && all_have_narrow_ranges s es)

  -- whether those in each of the expressions are
  pub all_have_narrow_ranges : NarrowNames → Wides → Bool
  all_have_narrow_ranges s wide.no_wides = true
  all_have_narrow_ranges s (wide.more_wides a more) = has_narrow_ranges s a && all_have_narrow_ranges s more

  -- whether those in the items of a list literal are
  pub items_have_narrow_ranges : NarrowNames → WideItems → Bool
  items_have_narrow_ranges s wide.no_items = true
  items_have_narrow_ranges s (wide.more_items o a more) = has_narrow_ranges s a && items_have_narrow_ranges s more

  -- whether those in the entries of a map literal are
  pub entries_have_narrow_ranges : NarrowNames → WideEntries → Bool
  entries_have_narrow_ranges s wide.no_entries = true
  entries_have_narrow_ranges s (wide.more_entries o k v more) =
      has_narrow_ranges s k && (has_narrow_ranges s v && entries_have_narrow_ranges s more)

-- ---- policies

-- outside of macros, with what is known of the variables
abbrev pub outside : List (List ℕ × Bool) → NarrowNames
outside variables = record { names = []; variables = variables }

-- what is known of the variables with one more, which may use those before it
abbrev pub with_known : List (List ℕ × Bool) → WideStep → List (List ℕ × Bool)
with_known before v = before ++ (v.name, is_narrow (outside before) v.wide) ∷ []

-- whether the ranges are narrow in the variables, each of which may use those before it, and then in e
abbrev pub policy_has_narrow_ranges : List (List ℕ × Bool) → List WideStep → Wide → Bool
policy_has_narrow_ranges before [] e = has_narrow_ranges (outside before) e
policy_has_narrow_ranges before (v ∷ vs) e =
    has_narrow_ranges (outside before) v.wide && policy_has_narrow_ranges (with_known before v) vs e
