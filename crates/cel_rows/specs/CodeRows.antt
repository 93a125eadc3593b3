-- The limits of code, and the texts that code uses, in order of first use; worked by hand from docs/CODE.md.
use Rattle.std.specs.Prelude.{◌≡◌, true, false, pos, [], ◌∷◌, codes}
use Rattle.cel_reader.specs.Tree as tree
use Rattle.cel_reader.specs.Written.{num, str, yes}
use Rattle.cel_reader.specs.declared.operator.BinaryOperator.TheVariants as op
use Rattle.cel_reader.specs.declared.operator.UnaryOperator.TheVariants as unary
use Rattle.cel_macros.specs.Callee.{Unknown}
use Rattle.cel_macros.specs.CoreTree as core
use Rattle.cel_macros.specs.CoreTree.{Core, more_core_entries, more_cores, no_core_entries, no_cores}
use Rattle.cel_macros.specs.Written.{review}
use Rattle.cel_macros.specs.declared.macros.Macro.TheVariants as macro
use Rattle.value_store.specs.Value.{boolean, int, value}
use Rattle.tree_code.specs.Code.Expressions.{literal_texts, texts_of, texts_of_each, texts_of_entries}
use Rattle.tree_code.specs.Constants.{joined, with_text, with_texts}
use Rattle.tree_code.specs.Cost.{kept_by, literal_cost, name_or_text, nothing, one_visit, selection_cost, spent_of}
use Rattle.tree_code.specs.CostRows.{nested}
use Rattle.expression_code.specs.Limits.{charge_per_unit, memo_limit, node_limit, slots_per_node, steps_per_visit}
use Rattle.expression_code.specs.Limits.{variable_depth_limit, word_limit}

-- the limits of docs/CEL.md and docs/CODE.md
pub record CodeLimitRowsStand : Type 0 where
  pub words : word_limit ≡ 60
  pub variables : variable_depth_limit ≡ 6
  pub memos : memo_limit ≡ 512
  pub nodes : node_limit ≡ 512
  pub slots : slots_per_node ≡ 128
  pub steps : steps_per_visit ≡ 128
  pub charge : charge_per_unit ≡ 16

-- the literals 'a', 'b', 'c' and 'd'
abbrev pub a : Core
a = core.literal (tree.text (codes "a"))

abbrev pub b : Core
b = core.literal (tree.text (codes "b"))

abbrev pub c : Core
c = core.literal (tree.text (codes "c"))

abbrev pub d : Core
d = core.literal (tree.text (codes "d"))

-- the texts of each form of an expression, its parts from left to right
pub record TextRowsStand : Type 0 where
  pub text : literal_texts (tree.text (codes "a")) ≡ codes "a" ∷ []
  pub int : literal_texts (tree.int (pos 1)) ≡ []
  pub null : literal_texts tree.null ≡ []
  pub literal : texts_of a ≡ codes "a" ∷ []
  pub name : texts_of (core.name (codes "n")) ≡ []
  pub variable : texts_of (core.variable (codes "v")) ≡ []
  -- 'a'.f, has('a'.f) and 'a'['b']
  pub selection : texts_of (core.select a (codes "f")) ≡ codes "a" ∷ codes "f" ∷ []
  pub has : texts_of (core.has a (codes "f")) ≡ codes "a" ∷ codes "f" ∷ []
  pub index : texts_of (core.index a b) ≡ codes "a" ∷ codes "b" ∷ []
  -- g('a', 'b') and 'a'.g('b', 'c')
  pub call : texts_of (core.call (Unknown (codes "g")) (more_cores a (more_cores b no_cores))) ≡ codes "a" ∷ codes "b" ∷ []
  pub method : texts_of (core.method a (Unknown (codes "g")) (more_cores b (more_cores c no_cores)))
      ≡ codes "a" ∷ codes "b" ∷ codes "c" ∷ []
  pub operand : texts_of (core.unary unary.Not a) ≡ codes "a" ∷ []
  pub operands : texts_of (core.binary op.Add a b) ≡ codes "a" ∷ codes "b" ∷ []
  pub branches : texts_of (core.ternary a b c) ≡ codes "a" ∷ codes "b" ∷ codes "c" ∷ []
  pub items : texts_of (core.list (more_cores a (more_cores b no_cores))) ≡ codes "a" ∷ codes "b" ∷ []
  pub entries : texts_of (core.map (more_core_entries a b (more_core_entries c d no_core_entries)))
      ≡ codes "a" ∷ codes "b" ∷ codes "c" ∷ codes "d" ∷ []
  -- 'a'.all(i, 'b') and 'a'.map(i, 'b', 'c')
  pub fold : texts_of (core.fold macro.All (codes "i") a b) ≡ codes "a" ∷ codes "b" ∷ []
  pub fold_map : texts_of (core.fold_map (codes "i") a b c) ≡ codes "a" ∷ codes "b" ∷ codes "c" ∷ []
  pub none : texts_of_each no_cores ≡ []
  pub no_entry : texts_of_entries no_core_entries ≡ []

-- each text once, and their bytes
pub record ConstantRowsStand : Type 0 where
  pub first : with_text [] (codes "a") ≡ codes "a" ∷ []
  pub known : with_text (codes "a" ∷ codes "b" ∷ []) (codes "b") ≡ codes "a" ∷ codes "b" ∷ []
  pub new : with_text (codes "a" ∷ codes "b" ∷ []) (codes "c") ≡ codes "a" ∷ codes "b" ∷ codes "c" ∷ []
  pub several : with_texts (codes "a" ∷ []) (codes "b" ∷ codes "a" ∷ codes "b" ∷ []) ≡ codes "a" ∷ codes "b" ∷ []
  pub no_bytes : joined [] ≡ []
  pub bytes : joined (codes "ab" ∷ [] ∷ codes "c" ∷ []) ≡ codes "abc"

-- costs of a macro's item, which is the int 1 and for which its part is a list of depth 255, the true bool or the false one
pub record KeptRowsStand : Type 0 where
  pub of_nothing : nothing ≡ record { visits = 0; sizes = 0; is_deep = false }
  pub of_a_visit : one_visit ≡ record { visits = 1; sizes = 0; is_deep = false }
  pub of_a_text : name_or_text (codes "abc") ≡ record { visits = 0; sizes = 4; is_deep = false }
  pub of_a_literal : literal_cost (tree.text (codes "ab")) ≡ record { visits = 0; sizes = 3; is_deep = false }
  pub of_null : literal_cost tree.null ≡ nothing
  pub of_a_variable : selection_cost true (codes "ab") one_visit ≡ nothing
  pub of_a_field : selection_cost false (codes "ab") one_visit ≡ record { visits = 1; sizes = 3; is_deep = false }
  pub transformed : kept_by macro.Map (int (pos 1)) (value (nested 254)) ≡ record { visits = 0; sizes = 0; is_deep = true }
  pub transformed_to_one_less : kept_by macro.Map (int (pos 1)) (value (nested 253)) ≡ nothing
  pub tested : kept_by macro.All (int (pos 1)) (value (nested 254)) ≡ nothing
  pub tested_for_one : kept_by macro.ExistsOne (nested 254) (value (nested 254)) ≡ nothing
  pub chosen : kept_by macro.Filter (nested 254) (value (boolean true)) ≡ record { visits = 0; sizes = 0; is_deep = true }
  pub not_chosen : kept_by macro.Filter (nested 254) (value (boolean false)) ≡ nothing
  pub not_decided : kept_by macro.Filter (nested 254) (value (nested 254)) ≡ nothing

-- costs of conditionals
pub record ConditionalRowsStand : Type 0 where
  -- true ? 'ab' : 1: three visits, results of sizes 3, 1 and 3, and a text of size 3
  pub first_branch : spent_of (tree.ternary yes (str "ab") (num 1)) review ≡ 34
  -- 'ab' ? 1 : 2: two visits, as no branch is visited, results of sizes 1 and 3, and a text of size 3
  pub no_branch : spent_of (tree.ternary (str "ab") (num 1) (num 2)) review ≡ 23
