-- The reach of expressions, worked out by hand.
use Rattle.std.specs.Prelude.{◌≡◌, pos, true, false, List, [], ◌∷◌, codes}
use Prim.Native.String.{String}
use Rattle.cel_reader.specs.declared.operator.BinaryOperator.TheVariants.{Add, Subtract, Equal}
use Rattle.value_store.specs.Value.{Value, boolean, int, text, list, items_of}
use Rattle.wide_reader.specs.Tree.{Wide, binary, ternary, fold, filter_map, pair_fold, optional_fold}
use Rattle.wide_reader.specs.declared.wide.Macro.TheVariants as macro
use Rattle.wide_reader.specs.declared.wide.OptionalMacro.TheVariants as optional
use Rattle.wide_reader.specs.declared.wide.PairMacro.TheVariants as pair
use Rattle.wide_meaning.specs.Written.{num, str, yes, name, dot, maybe, item, has, call, method, some, none, or_value}
use Rattle.wide_meaning.specs.Written.{list_literal, map_literal, review, object_spec, labels}
use Rattle.wide_reach.specs.Known.{KnownNames, has_reach}
use Rattle.wide_reach.specs.Ranges.{Ranges, reach}

-- of the variables `image` has a reach, `other` has none; the iteration name `port` has two values, and `k` has no reach
abbrev pub names : KnownNames
names = record {
  names = (codes "port", true) ∷ (codes "k", false) ∷ [];
  variables = (codes "image", true) ∷ (codes "other", false) ∷ [];
}

abbrev pub ranges : Ranges
ranges = record {
  names = (codes "port", int (pos 80) ∷ int (pos 443) ∷ []) ∷ (codes "k", []) ∷ [];
  variables = (codes "image", text (codes "a") ∷ text (codes "b") ∷ []) ∷ (codes "other", []) ∷ [];
}

-- the expression has these values on the documents of `review`
abbrev pub Reaches : Wide → List Value → Type 0
Reaches e vs = (has_reach names e ≡ true) × (reach review.roots ranges e ≡ vs)

-- the expression has no reach
abbrev pub HasNone : Wide → Type 0
HasNone e = has_reach names e ≡ false

-- the text, and a list of these values
abbrev pub word : String → Value
word s = text (codes s)

abbrev pub values : List Value → Value
values vs = list (items_of vs)

-- object.spec.ports, object.spec.args, and object.metadata.name
abbrev pub ports : Wide
ports = dot object_spec "ports"

abbrev pub args : Wide
args = dot object_spec "args"

abbrev pub named : Wide
named = dot (dot (name "object") "metadata") "name"

pub record ReachRows : Type 0 where
  -- object.metadata.name, object.spec.?image and object.spec.missing
  pub field : Reaches named (word "web" ∷ [])
  pub optional_field : Reaches (maybe object_spec "image") (word "reg.io/app:1.2" ∷ [])
  pub missing_field : Reaches (dot object_spec "missing") []
  -- object.metadata.labels['app'] and object.metadata.labels[k]
  pub text_index : Reaches (item labels (str "app")) (word "shop" ∷ [])
  pub any_index : Reaches (item labels (name "k")) (word "shop" ∷ word "x" ∷ [])
  -- object.spec.args[0]
  pub int_index : Reaches (item args (num 0)) (word "-v" ∷ word "--x=1" ∷ [])
  -- variables.image, variables.other and other
  pub variable : Reaches (dot (name "variables") "image") (word "a" ∷ word "b" ∷ [])
  pub unknown_variable : HasNone (dot (name "variables") "other")
  pub unknown_name : Reaches (name "other") []
  -- port and k
  pub iteration_name : Reaches (name "port") (int (pos 80) ∷ int (pos 443) ∷ [])
  pub name_without : HasNone (name "k")
  -- has(object.spec.image) ? object.spec.image : 'x'
  pub either_branch :
      Reaches (ternary (has object_spec "image") (dot object_spec "image") (str "x")) (word "reg.io/app:1.2" ∷ word "x" ∷ [])
  -- object.spec.?image.orValue('x') and object.spec.?image.value()
  pub default_text : Reaches (or_value (maybe object_spec "image") (str "x")) (word "reg.io/app:1.2" ∷ word "x" ∷ [])
  pub inner : Reaches (method (maybe object_spec "image") "value" []) (word "reg.io/app:1.2" ∷ [])
  -- optional.of('x') and optional.none()
  pub some_text : Reaches (some (str "x")) (word "x" ∷ [])
  pub no_text : Reaches none []
  -- object.spec.?image.optMap(port, port + '!')
  pub mapped_value :
      Reaches (optional_fold optional.Map (maybe object_spec "image") (codes "port") (binary Add (name "port") (str "!")))
      (word "reg.io/app:1.2!" ∷ values [] ∷ [])
  -- string(port) and string(object.spec.args)
  pub as_text : Reaches (call "string" (name "port" ∷ [])) (word "80" ∷ word "443" ∷ [])
  pub list_as_text : Reaches (call "string" (args ∷ [])) []
  -- 'v' + variables.image and port - 1
  pub sum_of_texts : Reaches (binary Add (str "v") (dot (name "variables") "image")) (word "va" ∷ word "vb" ∷ values [] ∷ [])
  pub difference : HasNone (binary Subtract (name "port") (num 1))
  -- ['x', port] and [port, k]
  pub listed_items : Reaches (list_literal (str "x" ∷ name "port" ∷ [])) (values (word "x" ∷ int (pos 80) ∷ int (pos 443) ∷ []) ∷ [])
  pub listed_without : HasNone (list_literal (name "port" ∷ name "k" ∷ []))
  -- object.spec.args.map(a, a), object.spec.args.filter(a, true) and object.metadata.labels.map(k, k)
  pub each_item : Reaches (fold macro.Map args (codes "a") (name "a")) (values (word "-v" ∷ word "--x=1" ∷ []) ∷ [])
  pub some_items : Reaches (fold macro.Filter args (codes "a") yes) (values (word "-v" ∷ word "--x=1" ∷ []) ∷ [])
  pub each_key : Reaches (fold macro.Map labels (codes "k") (name "k")) (values (word "app" ∷ word "team/a" ∷ []) ∷ [])
  -- object.spec.ports.map(port, port.name): the inner name hides the outer one
  pub hiding : Reaches (fold macro.Map ports (codes "port") (dot (name "port") "name")) (values (word "http" ∷ []) ∷ [])
  -- object.spec.ports.map(p, true, p.port), first()
  pub some_ports : Reaches (filter_map ports (codes "p") yes (dot (name "p") "port")) (values (int (pos 80) ∷ int (pos 443) ∷ []) ∷ [])
  pub first_item : Reaches (method args "first" []) (word "-v" ∷ word "--x=1" ∷ [])
  -- object.metadata.labels.transformList(k, v, v), and (k, v, k)
  pub each_value :
      Reaches (pair_fold pair.TransformList labels (codes "k") (codes "v") (name "v")) (values (word "shop" ∷ word "x" ∷ []) ∷ [])
  pub each_first : HasNone (pair_fold pair.TransformList labels (codes "k") (codes "v") (name "k"))
  -- object.spec.args.all(a, a == k)
  pub test_result : Reaches (fold macro.All args (codes "a") (binary Equal (name "a") (name "k"))) (boolean false ∷ boolean true ∷ [])
  -- {'a': 'b'} and variables.image.split('.')
  pub map_value : HasNone (map_literal ((str "a", str "b") ∷ []))
  pub open_call : HasNone (method (dot (name "variables") "image") "split" (str "." ∷ []))
