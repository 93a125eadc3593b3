-- Words, macros and faults of wide expressions (cel-spec, syntax and macros; cel-go, optional parts and macros of two names),
-- worked by hand.
use Rattle.std.specs.Prelude.{◌≡◌, true, false, pos, [], ◌∷◌, Some, None, codes}
use Prim.Native.String.{String}
use Rattle.cel_tokens.specs.declared.mark.Mark.TheVariants as marks
use Rattle.cel_tokens.specs.declared.read_error.ReadError.TheVariants as read_error
use Rattle.cel_reader.specs.Tree as tree
use Rattle.cel_reader.specs.declared.operator.BinaryOperator.TheVariants as op
use Rattle.cel_reader.specs.declared.operator.UnaryOperator.TheVariants as unary
use Rattle.wide_tokens.specs.Token as word
use Rattle.wide_tokens.specs.Lexis.{lexeme}
use Rattle.wide_reader.specs.Answers.{place_at}
use Rattle.wide_reader.specs.ErrorCodes.{error_code, error_place, fault_words}
use Rattle.wide_reader.specs.Faults.{fault}
use Rattle.wide_reader.specs.Forms.{call_of, form_of, method_of}
use Rattle.wide_reader.specs.Grammar.{Infix, Unary, WideOptionalComma, Marked, applied, below}
use Rattle.wide_reader.specs.Limits.{open_limit}
use Rattle.wide_reader.specs.Look.{closing_mark, opens, takes_comma, words_only}
use Rattle.wide_reader.specs.Tree as wide
use Rattle.wide_reader.specs.Tree.{Wide, wides, items, entries, wide_list, item_list, entry_list}
use Rattle.wide_reader.specs.Words.{is_unsupported, level_of, literal_of, operator_of}
use Rattle.wide_reader.specs.declared.closing.Closing.TheVariants as closing
use Rattle.wide_reader.specs.declared.form.Form.TheVariants as form
use Rattle.wide_reader.specs.declared.level.Level.TheVariants as level
use Rattle.wide_reader.specs.declared.wide.Access.TheVariants.{Plain, Optional}
use Rattle.wide_reader.specs.declared.wide.Macro.TheVariants as macro
use Rattle.wide_reader.specs.declared.wide.OptionalMacro.TheVariants as optional
use Rattle.wide_reader.specs.declared.wide.PairMacro.TheVariants as pair
use Rattle.wide_reader.specs.declared.wide_error.MacroFault.TheVariants as macro_fault
use Rattle.wide_reader.specs.declared.wide_error.WideReadError.TheVariants as wide_error

-- ---- short notation

abbrev pub name : String → Wide
name n = wide.name (codes n)

-- the name a, an operand; x and y, names; p and t, parts
abbrev pub a : Wide
a = name "a"

abbrev pub b : Wide
b = name "b"

abbrev pub x : Wide
x = name "x"

abbrev pub y : Wide
y = name "y"

-- .x, which is no plain name
abbrev pub dotted : Wide
dotted = wide.root (codes "x")

-- a.f, a.?f
abbrev pub field : Wide
field = wide.select a Plain (codes "f")

abbrev pub optional_field : Wide
optional_field = wide.select a Optional (codes "f")

-- has(), whose fault is the number of arguments; has(b), whose fault is that it selects nothing
abbrev pub no_arguments : Wide
no_arguments = wide.call (codes "has") (wides [])

abbrev pub no_selection : Wide
no_selection = wide.call (codes "has") (wides (b ∷ []))

-- ---- words

-- which words are literals, operators and marks that may open something
pub record WideWordRowsStand : Type 0 where
  pub true_literal : literal_of (word.name (codes "true")) ≡ Some (wide.literal (tree.truth true))
  pub false_literal : literal_of (word.name (codes "false")) ≡ Some (wide.literal (tree.truth false))
  pub null_literal : literal_of (word.name (codes "null")) ≡ Some (wide.literal tree.null)
  pub other_name : literal_of (word.name (codes "in")) ≡ None
  pub quoted_true : literal_of (word.quoted (codes "true")) ≡ None
  pub int : literal_of (word.int (pos 7)) ≡ Some (wide.literal (tree.int (pos 7)))
  pub uint : literal_of (word.uint 7) ≡ Some (wide.uint 7)
  pub text : literal_of (word.text (codes "a")) ≡ Some (wide.literal (tree.text (codes "a")))
  pub bytes : literal_of word.bytes ≡ Some (wide.literal (tree.text []))
  pub double : literal_of word.double ≡ Some (wide.literal (tree.text []))
  pub mark : literal_of (word.mark marks.Plus) ≡ None
  pub bytes_are_unsupported : is_unsupported word.bytes ≡ true
  pub doubles_are_unsupported : is_unsupported word.double ≡ true
  pub texts_are_supported : is_unsupported (word.text (codes "a")) ≡ false
  pub uints_are_supported : is_unsupported (word.uint 1) ≡ false
  pub within : operator_of (word.name (codes "in")) ≡ Some op.In
  pub no_operator : operator_of (word.name (codes "is")) ≡ None
  pub plus : operator_of (word.mark marks.Plus) ≡ Some op.Add
  pub question : operator_of (word.mark marks.Question) ≡ None
  pub quoted_in : operator_of (word.quoted (codes "in")) ≡ None
  pub text_in : operator_of (word.text (codes "in")) ≡ None
  pub level_of_or : level_of op.Or ≡ level.Or
  pub level_of_and : level_of op.And ≡ level.And
  pub level_of_less : level_of op.Less ≡ level.Relation
  pub level_of_less_equal : level_of op.LessEqual ≡ level.Relation
  pub level_of_greater_equal : level_of op.GreaterEqual ≡ level.Relation
  pub level_of_greater : level_of op.Greater ≡ level.Relation
  pub level_of_equal : level_of op.Equal ≡ level.Relation
  pub level_of_not_equal : level_of op.NotEqual ≡ level.Relation
  pub level_of_in : level_of op.In ≡ level.Relation
  pub level_of_add : level_of op.Add ≡ level.Sum
  pub level_of_subtract : level_of op.Subtract ≡ level.Sum
  pub level_of_multiply : level_of op.Multiply ≡ level.Product
  pub level_of_divide : level_of op.Divide ≡ level.Product
  pub level_of_remainder : level_of op.Remainder ≡ level.Product
  pub below_or : below level.Or ≡ Infix level.And
  pub below_and : below level.And ≡ Infix level.Relation
  pub below_relation : below level.Relation ≡ Infix level.Sum
  pub below_sum : below level.Sum ≡ Infix level.Product
  pub below_product : below level.Product ≡ Unary
  pub odd_number : applied unary.Not true a ≡ wide.unary unary.Not a
  pub even_number : applied unary.Negate false a ≡ a
  pub parenthesis_opens : opens (word.mark marks.OpenParen) ≡ true
  pub bracket_opens : opens (word.mark marks.OpenBracket) ≡ true
  pub brace_opens : opens (word.mark marks.OpenBrace) ≡ true
  pub question_opens : opens (word.mark marks.Question) ≡ true
  pub colon_opens_nothing : opens (word.mark marks.Colon) ≡ false
  pub name_opens_nothing : opens (word.name (codes "a")) ≡ false
  pub call_closes : closing_mark closing.Call ≡ marks.CloseParen
  pub list_closes : closing_mark closing.List ≡ marks.CloseBracket
  pub map_closes : closing_mark closing.Map ≡ marks.CloseBrace
  pub call_takes_no_comma : takes_comma closing.Call ≡ false
  pub list_takes_comma : takes_comma closing.List ≡ true
  pub map_takes_comma : takes_comma closing.Map ≡ true
  pub most_open : open_limit ≡ 100
  pub comma : WideOptionalComma (word.mark marks.Comma ∷ word.int (pos 1) ∷ []) (word.int (pos 1) ∷ [])
  pub no_comma : WideOptionalComma (word.int (pos 1) ∷ []) (word.int (pos 1) ∷ [])
  pub unmarked : Marked Plain (word.int (pos 1) ∷ []) (word.int (pos 1) ∷ [])
  pub marked : Marked Optional (word.mark marks.Question ∷ word.int (pos 1) ∷ []) (word.int (pos 1) ∷ [])
  pub only_words : words_only (lexeme 0 1 (word.name (codes "a")) ∷ lexeme 2 1 (word.uint 1) ∷ [])
      ≡ word.name (codes "a") ∷ word.uint 1 ∷ []
  pub place_of_first : place_at 9 (lexeme 3 1 (word.name (codes "a")) ∷ []) ≡ 3
  pub place_of_end : place_at 9 [] ≡ 9

-- sequences of parts, there and back
pub record WideSequenceRowsStand : Type 0 where
  pub two_arguments : wides (a ∷ b ∷ []) ≡ wide.more_wides a (wide.more_wides b wide.no_wides)
  pub two_items : items ((Optional, a) ∷ (Plain, b) ∷ []) ≡ wide.more_items Optional a (wide.more_items Plain b wide.no_items)
  pub two_entries :
      entries ((Plain, x, a) ∷ (Optional, y, b) ∷ []) ≡ wide.more_entries Plain x a (wide.more_entries Optional y b wide.no_entries)
  pub listed_arguments : wide_list (wides (a ∷ b ∷ [])) ≡ a ∷ b ∷ []
  pub listed_items : item_list (items ((Optional, a) ∷ (Plain, b) ∷ [])) ≡ (Optional, a) ∷ (Plain, b) ∷ []
  pub listed_entries : entry_list (entries ((Plain, x, a) ∷ (Optional, y, b) ∷ [])) ≡ (Plain, x, a) ∷ (Optional, y, b) ∷ []

-- ---- macros

-- macros by name and number of arguments
pub record WideFormRowsStand : Type 0 where
  pub all : form_of (codes "all") 2 ≡ Some (form.Fold macro.All)
  pub exists : form_of (codes "exists") 2 ≡ Some (form.Fold macro.Exists)
  pub exists_one : form_of (codes "exists_one") 2 ≡ Some (form.Fold macro.ExistsOne)
  pub filter : form_of (codes "filter") 2 ≡ Some (form.Fold macro.Filter)
  pub map : form_of (codes "map") 2 ≡ Some (form.Fold macro.Map)
  pub opt_map : form_of (codes "optMap") 2 ≡ Some (form.OptionalFold optional.Map)
  pub opt_flat_map : form_of (codes "optFlatMap") 2 ≡ Some (form.OptionalFold optional.FlatMap)
  pub camel_of_one_name : form_of (codes "existsOne") 2 ≡ None
  pub list_of_one_name : form_of (codes "transformList") 2 ≡ None
  pub map_with_test : form_of (codes "map") 3 ≡ Some form.FilterMap
  pub all_pairs : form_of (codes "all") 3 ≡ Some (form.PairFold pair.All)
  pub some_pair : form_of (codes "exists") 3 ≡ Some (form.PairFold pair.Exists)
  pub one_pair : form_of (codes "exists_one") 3 ≡ Some (form.PairFold pair.ExistsOne)
  pub one_pair_camel : form_of (codes "existsOne") 3 ≡ Some (form.PairFold pair.ExistsOne)
  pub list_of_pairs : form_of (codes "transformList") 3 ≡ Some (form.PairFold pair.TransformList)
  pub map_of_pairs : form_of (codes "transformMap") 3 ≡ Some form.ComputedMap
  pub entries_of_pairs : form_of (codes "transformMapEntry") 3 ≡ Some form.ComputedMap
  pub filter_of_pairs : form_of (codes "filter") 3 ≡ None
  pub list_with_test : form_of (codes "transformList") 4 ≡ Some form.PairFilterMap
  pub map_of_pairs_with_test : form_of (codes "transformMap") 4 ≡ Some form.ComputedMap
  pub entries_with_test : form_of (codes "transformMapEntry") 4 ≡ Some form.ComputedMap
  pub map_with_four : form_of (codes "map") 4 ≡ None
  pub all_with_one : form_of (codes "all") 1 ≡ None
  pub list_with_five : form_of (codes "transformList") 5 ≡ None

-- calls and methods, and what they are read as
pub record WideMacroRowsStand : Type 0 where
  pub fold : method_of a (codes "all") (wides (x ∷ b ∷ [])) ≡ wide.fold macro.All a (codes "x") b
  pub optional_fold : method_of a (codes "optMap") (wides (x ∷ b ∷ [])) ≡ wide.optional_fold optional.Map a (codes "x") b
  pub filter_map : method_of a (codes "map") (wides (x ∷ b ∷ y ∷ [])) ≡ wide.filter_map a (codes "x") b y
  pub pairs : method_of a (codes "exists") (wides (x ∷ y ∷ b ∷ [])) ≡ wide.pair_fold pair.Exists a (codes "x") (codes "y") b
  pub pairs_of_one_name :
      method_of a (codes "all") (wides (x ∷ x ∷ b ∷ [])) ≡ wide.method a (codes "all") (wides (x ∷ x ∷ b ∷ []))
  pub pairs_with_test :
      method_of a (codes "transformList") (wides (x ∷ y ∷ a ∷ b ∷ [])) ≡ wide.pair_filter_map a (codes "x") (codes "y") a b
  pub test_of_one_name :
      method_of a (codes "transformList") (wides (x ∷ x ∷ a ∷ b ∷ [])) ≡ wide.method a (codes "transformList") (wides (x ∷ x ∷ a ∷ b ∷ []))
  pub no_name : method_of a (codes "all") (wides (dotted ∷ b ∷ [])) ≡ wide.method a (codes "all") (wides (dotted ∷ b ∷ []))
  pub no_macro : method_of a (codes "size") (wides []) ≡ wide.method a (codes "size") (wides [])
  pub computed : method_of a (codes "transformMap") (wides (x ∷ y ∷ b ∷ [])) ≡ wide.method a (codes "transformMap") (wides (x ∷ y ∷ b ∷ []))
  pub has : call_of (codes "has") (wides (field ∷ [])) ≡ wide.has a (codes "f")
  pub has_optional : call_of (codes "has") (wides (optional_field ∷ [])) ≡ wide.call (codes "has") (wides (optional_field ∷ []))
  pub has_nothing : call_of (codes "has") (wides []) ≡ no_arguments
  pub has_two : call_of (codes "has") (wides (field ∷ b ∷ [])) ≡ wide.call (codes "has") (wides (field ∷ b ∷ []))
  pub other_function : call_of (codes "hat") (wides (field ∷ [])) ≡ wide.call (codes "hat") (wides (field ∷ []))

-- the first invalid macro, a node before its parts, and those from left to right
pub record WideFaultRowsStand : Type 0 where
  pub has_nothing : fault no_arguments ≡ Some macro_fault.ArgumentCount
  pub two_arguments : fault (wide.call (codes "has") (wides (field ∷ b ∷ []))) ≡ Some macro_fault.ArgumentCount
  pub selects_nothing : fault no_selection ≡ Some macro_fault.NoSelection
  pub other_function : fault (wide.call (codes "f") (wides (b ∷ []))) ≡ None
  pub other_function_of_none : fault (wide.call (codes "f") (wides [])) ≡ None
  pub one_name : fault (wide.method a (codes "all") (wides (x ∷ x ∷ b ∷ []))) ≡ Some macro_fault.IterationName
  pub computed_map : fault (wide.method a (codes "transformMap") (wides (x ∷ y ∷ b ∷ []))) ≡ Some macro_fault.ComputedMap
  pub other_method : fault (wide.method a (codes "all") (wides (x ∷ []))) ≡ None
  pub literal : fault (wide.literal tree.null) ≡ None
  pub uint : fault (wide.uint 1) ≡ None
  pub root : fault dotted ≡ None
  pub node_first : fault (wide.method no_arguments (codes "all") (wides (dotted ∷ b ∷ []))) ≡ Some macro_fault.IterationName
  pub operand_of_method : fault (wide.method no_arguments (codes "f") (wides (no_selection ∷ []))) ≡ Some macro_fault.ArgumentCount
  pub argument_of_method : fault (wide.method a (codes "f") (wides (b ∷ no_selection ∷ []))) ≡ Some macro_fault.NoSelection
  pub first_argument : fault (wide.call (codes "f") (wides (no_arguments ∷ no_selection ∷ []))) ≡ Some macro_fault.ArgumentCount
  pub call_first : fault (wide.call (codes "has") (wides (no_arguments ∷ []))) ≡ Some macro_fault.NoSelection
  pub of_select : fault (wide.select no_arguments Plain (codes "f")) ≡ Some macro_fault.ArgumentCount
  pub of_has : fault (wide.has no_arguments (codes "f")) ≡ Some macro_fault.ArgumentCount
  pub of_unary : fault (wide.unary unary.Not no_arguments) ≡ Some macro_fault.ArgumentCount
  pub of_index : fault (wide.index no_arguments Plain no_selection) ≡ Some macro_fault.ArgumentCount
  pub of_key : fault (wide.index a Plain no_selection) ≡ Some macro_fault.NoSelection
  pub left : fault (wide.binary op.Add no_arguments no_selection) ≡ Some macro_fault.ArgumentCount
  pub right : fault (wide.binary op.Add a no_selection) ≡ Some macro_fault.NoSelection
  pub condition : fault (wide.ternary no_arguments no_selection no_selection) ≡ Some macro_fault.ArgumentCount
  pub one_branch : fault (wide.ternary a no_arguments no_selection) ≡ Some macro_fault.ArgumentCount
  pub other_branch : fault (wide.ternary a b no_selection) ≡ Some macro_fault.NoSelection
  pub first_item : fault (wide.list (items ((Plain, no_arguments) ∷ (Plain, no_selection) ∷ []))) ≡ Some macro_fault.ArgumentCount
  pub second_item : fault (wide.list (items ((Plain, a) ∷ (Optional, no_selection) ∷ []))) ≡ Some macro_fault.NoSelection
  pub key : fault (wide.map (entries ((Plain, no_arguments, no_selection) ∷ []))) ≡ Some macro_fault.ArgumentCount
  pub entry : fault (wide.map (entries ((Plain, a, no_arguments) ∷ (Plain, no_selection, b) ∷ []))) ≡ Some macro_fault.ArgumentCount
  pub second_entry : fault (wide.map (entries ((Plain, a, b) ∷ (Plain, x, no_selection) ∷ []))) ≡ Some macro_fault.NoSelection
  pub range : fault (wide.fold macro.All no_arguments (codes "x") no_selection) ≡ Some macro_fault.ArgumentCount
  pub predicate : fault (wide.fold macro.All a (codes "x") no_selection) ≡ Some macro_fault.NoSelection
  pub filtered_range : fault (wide.filter_map no_arguments (codes "x") no_selection no_selection) ≡ Some macro_fault.ArgumentCount
  pub filter : fault (wide.filter_map a (codes "x") no_arguments no_selection) ≡ Some macro_fault.ArgumentCount
  pub transform : fault (wide.filter_map a (codes "x") b no_selection) ≡ Some macro_fault.NoSelection
  pub range_of_pairs : fault (wide.pair_fold pair.All no_arguments (codes "x") (codes "y") no_selection) ≡ Some macro_fault.ArgumentCount
  pub part_of_pairs : fault (wide.pair_fold pair.All a (codes "x") (codes "y") no_selection) ≡ Some macro_fault.NoSelection
  pub range_of_some : fault (wide.pair_filter_map no_arguments (codes "x") (codes "y") no_selection b) ≡ Some macro_fault.ArgumentCount
  pub test_of_pairs : fault (wide.pair_filter_map a (codes "x") (codes "y") no_arguments no_selection) ≡ Some macro_fault.ArgumentCount
  pub transform_of_pairs : fault (wide.pair_filter_map a (codes "x") (codes "y") b no_selection) ≡ Some macro_fault.NoSelection
  pub operand_of_optional : fault (wide.optional_fold optional.Map no_arguments (codes "x") no_selection) ≡ Some macro_fault.ArgumentCount
  pub part_of_optional : fault (wide.optional_fold optional.Map a (codes "x") no_selection) ≡ Some macro_fault.NoSelection

-- ---- errors

-- codes, places and words
pub record WideErrorRowsStand : Type 0 where
  pub misfit : error_code (wide_error.Text (read_error.UnexpectedToken 3)) ≡ codes "P4"
  pub bytes : error_code (wide_error.Bytes 3) ≡ codes "W1"
  pub double : error_code (wide_error.Double 3) ≡ codes "W2"
  pub number : error_code (wide_error.Macro macro_fault.ArgumentCount) ≡ codes "M1"
  pub names : error_code (wide_error.Macro macro_fault.IterationName) ≡ codes "M2"
  pub selection : error_code (wide_error.Macro macro_fault.NoSelection) ≡ codes "M3"
  pub map : error_code (wide_error.Macro macro_fault.ComputedMap) ≡ codes "W3"
  pub place_of_misfit : error_place (wide_error.Text (read_error.UnexpectedToken 3)) ≡ Some 3
  pub place_of_bytes : error_place (wide_error.Bytes 4) ≡ Some 4
  pub place_of_double : error_place (wide_error.Double 5) ≡ Some 5
  pub place_of_macro : error_place (wide_error.Macro macro_fault.NoSelection) ≡ None
  pub words_of_number : fault_words macro_fault.ArgumentCount ≡ codes "a macro has another number of arguments"
  pub words_of_names : fault_words macro_fault.IterationName ≡ codes "an iteration name is no plain identifier, or stands twice"
  pub words_of_selection : fault_words macro_fault.NoSelection ≡ codes "the argument of `has` selects no field"
  pub words_of_map : fault_words macro_fault.ComputedMap ≡ codes "no expression of the profile builds a map of computed keys"
