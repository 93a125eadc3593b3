-- JSON documents are a set: two proofs that documents are equal are equal, so a struct may keep such a proof.
use mathlib.Core.Path.{◌∙◌, ap, refl, sym}
use mathlib.Core.HLevel.{collapsible→set}
use base.Stored.{Coded-set, coded_float}
use Rattle.std.specs.Prelude.{◌≡◌, ℕ, ℤ, Bool, List, []}
use Rattle.std.specs.Coded.{coded_ℕ, coded_ℤ, coded_bool, coded_list}
use Rattle.std.specs.Float.{Float}
use Rattle.serde_json.specs.Data.{unsigned, negative, float, Data, null, boolean, number, string, array, object, Items, no_items, item, Members, no_members, member}

-- documents, their items and their members, as trees of one type
data Tree : Type 0 where
  leaf : Tree
  of_bool : Bool → Tree
  of_unsigned : ℕ → Tree
  of_negative : ℤ → Tree
  of_float : Float → Tree
  of_text : List ℕ → Tree
  of_items : Tree → Tree
  node : List ℕ → Tree → Tree → Tree
  deriving IsSet as Tree-set

abbrev mutual
  tree : Data → Tree
  tree null = leaf
  tree (boolean b) = of_bool b
  tree (number (unsigned n)) = of_unsigned n
  tree (number (negative n)) = of_negative n
  tree (number (float x)) = of_float x
  tree (string s) = of_text s
  tree (array ds) = of_items (items_tree ds)
  tree (object ms) = node [] leaf (members_tree ms)

  items_tree : Items → Tree
  items_tree no_items = leaf
  items_tree (item d ds) = node [] (tree d) (items_tree ds)

  members_tree : Members → Tree
  members_tree no_members = leaf
  members_tree (member k d ms) = node k (tree d) (members_tree ms)

abbrev mutual
  document : Tree → Data
  document leaf = null
  document (of_bool b) = boolean b
  document (of_unsigned n) = number (unsigned n)
  document (of_negative n) = number (negative n)
  document (of_float x) = number (float x)
  document (of_text s) = string s
  document (of_items t) = array (items t)
  document (node k t u) = object (members u)

  items : Tree → Items
  items (node k t u) = item (document t) (items u)
  items _ = no_items

  members : Tree → Members
  members (node k t u) = member k (document t) (members u)
  members _ = no_members

mutual
  back : (d : Data) → document (tree d) ≡ d
  back null = refl
  back (boolean b) = refl
  back (number (unsigned n)) = refl
  back (number (negative n)) = refl
  back (number (float x)) = refl
  back (string s) = refl
  back (array ds) = ap array (items_back ds)
  back (object ms) = ap object (members_back ms)

  items_back : (ds : Items) → items (items_tree ds) ≡ ds
  items_back no_items = refl
  items_back (item d ds) = λ i. item (back d i) (items_back ds i)

  members_back : (ms : Members) → members (members_tree ms) ≡ ms
  members_back no_members = refl
  members_back (member k d ms) = λ i. member k (back d i) (members_back ms i)

trees : IsSet Tree
trees = Tree-set (Coded-set coded_bool) (Coded-set coded_ℕ) (Coded-set coded_ℤ) (Coded-set coded_float) (Coded-set (coded_list coded_ℕ))

pub Data-set : IsSet Data
Data-set =
    collapsible→set (λ x y p. sym (back x) ∙ ap document (ap tree p) ∙ back y)
    (λ x y p q. ap (λ z. sym (back x) ∙ ap document z ∙ back y) (trees (tree x) (tree y) (ap tree p) (ap tree q)))
