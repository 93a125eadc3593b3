-- Conditions that name the namespace of a request, and some that do not, worked by hand.
use Rattle.std.specs.Prelude.{◌≡◌, pos, Bool, true, false, [], ◌∷◌, None, codes}
use Rattle.cel_reader.specs.Tree.{Tree, literal, name, select, index, call, method, unary, binary, ternary, list, map, int, null, text, truth}
use Rattle.cel_reader.specs.Tree.{no_trees, more_trees, no_entries, more_entries}
use Rattle.cel_reader.specs.declared.operator.BinaryOperator.TheVariants.{Equal}
use Rattle.cel_reader.specs.declared.operator.UnaryOperator.TheVariants.{Not}
use Rattle.policy_glue.specs.Naming.{conditions_name_namespace, namespace_name}

-- the root itself
abbrev pub root : Tree
root = name namespace_name

-- the second condition of a policy is this expression, and its validation names the namespace
abbrev pub with_second : Tree → Bool
with_second a = conditions_name_namespace (record {
  variables = [];
  conditions = name (codes "object") ∷ a ∷ [];
  validations = record { expression = root; message = None } ∷ [];
})

-- conditions, each beside whether it names the namespace
pub record NamingRowsStand : Type 0 where
  -- namespaceObject == null
  pub compared : with_second (binary Equal root (literal null)) ≡ true
  -- {'a': [namespaceObject.name]}
  pub within :
      with_second (map (more_entries (literal (text (codes "a"))) (list
      (more_trees (select root (codes "name")) no_trees)) no_entries)) ≡ true
  -- [].all(namespaceObject, true)
  pub bound : with_second (method (list no_trees) (codes "all") (more_trees root (more_trees (literal (truth true)) no_trees))) ≡ true
  -- object.namespaceObject
  pub field : with_second (select (name (codes "object")) namespace_name) ≡ false
  -- 'namespaceObject'
  pub quoted : with_second (literal (text namespace_name)) ≡ false
  pub namespace : with_second (name (codes "namespace")) ≡ false
  -- null == namespaceObject
  pub at_the_right : with_second (binary Equal (literal null) root) ≡ true
  -- has(namespaceObject.name)
  pub tested : with_second (call (codes "has") (more_trees (select root (codes "name")) no_trees)) ≡ true
  -- namespaceObject.all(k, true)
  pub walked : with_second (method root (codes "all") (more_trees (name (codes "k")) (more_trees (literal (truth true)) no_trees))) ≡ true
  -- object[namespaceObject], namespaceObject[0]
  pub at_a_key : with_second (index (name (codes "object")) root) ≡ true
  pub indexed : with_second (index root (literal (int (pos 0)))) ≡ true
  -- !namespaceObject
  pub negated : with_second (unary Not root) ≡ true
  -- each part of a conditional
  pub asked : with_second (ternary root (literal null) (literal null)) ≡ true
  pub if_true : with_second (ternary (literal null) root (literal null)) ≡ true
  pub if_false : with_second (ternary (literal null) (literal null) root) ≡ true
  -- [null, namespaceObject]
  pub second_item : with_second (list (more_trees (literal null) (more_trees root no_trees))) ≡ true
  -- {namespaceObject: null}, {null: null, null: namespaceObject}
  pub key : with_second (map (more_entries root (literal null) no_entries)) ≡ true
  pub second_value : with_second (map (more_entries (literal null) (literal null) (more_entries (literal null) root no_entries))) ≡ true
  -- object.namespaceObject(), namespaceObject()
  pub method_name : with_second (method (name (codes "object")) namespace_name no_trees) ≡ false
  pub function_name : with_second (call namespace_name no_trees) ≡ false
  -- the first condition names it, or a variable alone
  pub first_condition :
      conditions_name_namespace (record { variables = []; conditions = root ∷ literal (truth true) ∷ []; validations = [] }) ≡ true
  pub variable : conditions_name_namespace (record {
    variables = record { name = codes "v"; expression = root } ∷ [];
    conditions = literal (truth true) ∷ [];
    validations = [];
  }) ≡ false
