-- The plain data of wide expressions whose parts are in lists.
use Rattle.std.proofs.Common.{◌≡◌, map, string_bytes, ap, sym, ◌∙◌}
use Rattle.std.specs.declared.alloc.Global.{Global}
use Rattle.std.specs.declared.boxed.Box.{Box}
use Rattle.std.specs.declared.string.String.{String}
use Rattle.std.specs.declared.vec.Vec.{Vec}
use Rattle.cel_reader.specs.declared.operator.BinaryOperator.{BinaryOperator}
use Rattle.cel_reader.specs.declared.operator.UnaryOperator.{UnaryOperator}
use Rattle.wide_reader.specs.Tree as wide
use Rattle.wide_reader.specs.Tree.{Wide, view, view_step, wides, items, entries, item_view, entry_view}
use Rattle.wide_reader.specs.declared.wide.Access.{Access}
use Rattle.wide_reader.specs.declared.wide.Macro.{Macro}
use Rattle.wide_reader.specs.declared.wide.OptionalMacro.{OptionalMacro}
use Rattle.wide_reader.specs.declared.wide.PairMacro.{PairMacro}
use Rattle.wide_reader.specs.declared.wide.Wide as code
use Rattle.wide_reader.specs.declared.wide.Wide.{Wide as CodeWide, TheVariants.rolls-Call, TheVariants.rolls-Method}
use Rattle.wide_reader.specs.declared.wide.Wide.{TheVariants.rolls-List, TheVariants.rolls-Map}
use Rattle.wide_reader.specs.declared.wide.Wide.{TheVariants.rolls-Has, TheVariants.rolls-Unary, TheVariants.rolls-Index}
use Rattle.wide_reader.specs.declared.wide.Wide.{TheVariants.rolls-Binary, TheVariants.rolls-Ternary, TheVariants.rolls-Fold}
use Rattle.wide_reader.specs.declared.wide.Wide.{TheVariants.rolls-FilterMap, TheVariants.rolls-OptionalFold}
use Rattle.wide_reader.specs.declared.wide.Wide.{TheVariants.rolls-PairFold, TheVariants.rolls-PairFilterMap}
use Rattle.wide_reader.specs.declared.wide.Wide.TheFolds.{fold-roll-Wide}

pub view_call : (name : String Global) (arguments : Vec CodeWide Global) → view (code.Call name arguments) ≡ wide.call (string_bytes name) (wides (map view arguments.items))
view_call name arguments = ap view (sym (rolls-Call name arguments)) ∙ fold-roll-Wide Wide view_step _

pub view_method : (of : Box CodeWide Global) (name : String Global) (arguments : Vec CodeWide Global)
    → view (code.Method of name arguments) ≡ wide.method (view of.value) (string_bytes name) (wides (map view arguments.items))
view_method of name arguments = ap view (sym (rolls-Method of name arguments)) ∙ fold-roll-Wide Wide view_step _

pub view_list : (given : Vec (Access × CodeWide) Global) → view (code.List given) ≡ wide.list (items (map item_view given.items))
view_list given = ap view (sym (rolls-List given)) ∙ fold-roll-Wide Wide view_step _

pub view_map : (pairs : Vec (Access × CodeWide × CodeWide) Global) → view (code.Map pairs) ≡ wide.map (entries (map entry_view pairs.items))
view_map pairs = ap view (sym (rolls-Map pairs)) ∙ fold-roll-Wide Wide view_step _

pub view_pair_fold : (m : PairMacro) (range : Box CodeWide Global) (key value : String Global) (part : Box CodeWide Global)
    → view (code.PairFold m range key value part) ≡ wide.pair_fold m (view range.value) (string_bytes key) (string_bytes value) (view part.value)
view_pair_fold m range key value part = ap view (sym (rolls-PairFold m range key value part)) ∙ fold-roll-Wide Wide view_step _

pub view_pair_filter_map : (range : Box CodeWide Global) (key value : String Global) (predicate transform : Box CodeWide Global)
    → view (code.PairFilterMap range key value predicate transform)
    ≡ wide.pair_filter_map (view range.value) (string_bytes key) (string_bytes value) (view predicate.value) (view transform.value)
view_pair_filter_map range key value predicate transform =
    ap view (sym (rolls-PairFilterMap range key value predicate transform)) ∙ fold-roll-Wide Wide view_step _

pub view_has : (of : Box CodeWide Global) (field : String Global) → view (code.Has of field) ≡ wide.has (view of.value) (string_bytes field)
view_has of field = ap view (sym (rolls-Has of field)) ∙ fold-roll-Wide Wide view_step _

pub view_unary : (op : UnaryOperator) (of : Box CodeWide Global) → view (code.Unary op of) ≡ wide.unary op (view of.value)
view_unary op of = ap view (sym (rolls-Unary op of)) ∙ fold-roll-Wide Wide view_step _

pub view_index : (of : Box CodeWide Global) (o : Access) (at : Box CodeWide Global) → view (code.Index of o at) ≡ wide.index (view of.value) o (view at.value)
view_index of o at = ap view (sym (rolls-Index of o at)) ∙ fold-roll-Wide Wide view_step _

pub view_binary : (op : BinaryOperator) (left : Box CodeWide Global) (right : Box CodeWide Global) → view (code.Binary op left right) ≡ wide.binary op (view left.value) (view right.value)
view_binary op left right = ap view (sym (rolls-Binary op left right)) ∙ fold-roll-Wide Wide view_step _

pub view_ternary : (test : Box CodeWide Global) (first : Box CodeWide Global) (second : Box CodeWide Global) → view (code.Ternary test first second) ≡ wide.ternary (view test.value) (view first.value) (view second.value)
view_ternary test first second = ap view (sym (rolls-Ternary test first second)) ∙ fold-roll-Wide Wide view_step _

pub view_fold : (m : Macro) (range : Box CodeWide Global) (x : String Global) (part : Box CodeWide Global) → view (code.Fold m range x part) ≡ wide.fold m (view range.value) (string_bytes x) (view part.value)
view_fold m range x part = ap view (sym (rolls-Fold m range x part)) ∙ fold-roll-Wide Wide view_step _

pub view_filter_map : (range : Box CodeWide Global) (x : String Global) (predicate : Box CodeWide Global) (transform : Box CodeWide Global) → view (code.FilterMap range x predicate transform) ≡ wide.filter_map (view range.value) (string_bytes x) (view predicate.value) (view transform.value)
view_filter_map range x predicate transform = ap view (sym (rolls-FilterMap range x predicate transform)) ∙ fold-roll-Wide Wide view_step _

pub view_optional_fold : (m : OptionalMacro) (of : Box CodeWide Global) (x : String Global) (part : Box CodeWide Global) → view (code.OptionalFold m of x part) ≡ wide.optional_fold m (view of.value) (string_bytes x) (view part.value)
view_optional_fold m of x part = ap view (sym (rolls-OptionalFold m of x part)) ∙ fold-roll-Wide Wide view_step _
