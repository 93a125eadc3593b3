-- The values that the nodes of the plain table represent.
use Rattle.std.specs.Prelude.{List, map}
use Rattle.serde_json.specs.View.{view}
use Rattle.value_store.specs.Value.{Value, ValueOrError, error, value}
use Rattle.value_store.specs.Plain.{plain_value}
use Rattle.value_store.specs.declared.tree.Tree.{Tree}
use Rattle.value_store.specs.declared.node.Node.{Node}
use Rattle.value_store.specs.declared.node.Node.TheVariants as node

-- the value of a tree of the plain table: that of its document
abbrev pub tree_value : Tree → Value
tree_value t = plain_value (view t.document)

-- the value of a node: the error, or the value of its tree
abbrev pub stored : Node → ValueOrError
stored node.Error = error
stored (node.Value t) = value (tree_value t)

-- the value at each reference
abbrev pub stored_values : List Node → List ValueOrError
stored_values ns = map stored ns
