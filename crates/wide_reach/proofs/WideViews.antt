-- The plain data of expressions whose parts are in lists.
use Rattle.std.proofs.Common.{◌≡◌, map, string_bytes, ap, sym, ◌∙◌}
use Rattle.std.specs.declared.alloc.Global.{Global}
use Rattle.std.specs.declared.boxed.Box.{Box}
use Rattle.std.specs.declared.string.String.{String}
use Rattle.std.specs.declared.vec.Vec.{Vec}
use Rattle.wide_reader.specs.Tree as wide
use Rattle.wide_reader.specs.Tree.{Wide, view, view_step, wides, items, entries, item_view, entry_view}
use Rattle.wide_reader.specs.declared.wide.Access.{Access}
use Rattle.wide_reader.specs.declared.wide.Wide as code
use Rattle.wide_reader.specs.declared.wide.Wide.{Wide as CodeWide, TheVariants.rolls-Call, TheVariants.rolls-Method}
use Rattle.wide_reader.specs.declared.wide.Wide.{TheVariants.rolls-List, TheVariants.rolls-Map}
use Rattle.wide_reader.specs.declared.wide.Wide.TheFolds.{fold-roll-Wide}

pub view_call : (name : String Global) (arguments : Vec CodeWide Global)
    → view (code.Call name arguments) ≡ wide.call (string_bytes name) (wides (map view arguments.items))
view_call name arguments = ap view (sym (rolls-Call name arguments)) ∙ fold-roll-Wide Wide view_step _

pub view_method : (of : Box CodeWide Global) (name : String Global) (arguments : Vec CodeWide Global)
    → view (code.Method of name arguments) ≡ wide.method (view of.value) (string_bytes name) (wides (map view arguments.items))
view_method of name arguments = ap view (sym (rolls-Method of name arguments)) ∙ fold-roll-Wide Wide view_step _

pub view_list : (given : Vec (Access × CodeWide) Global) → view (code.List given) ≡ wide.list (items (map item_view given.items))
view_list given = ap view (sym (rolls-List given)) ∙ fold-roll-Wide Wide view_step _

pub view_map : (pairs : Vec (Access × CodeWide × CodeWide) Global) → view (code.Map pairs) ≡ wide.map (entries (map entry_view pairs.items))
view_map pairs = ap view (sym (rolls-Map pairs)) ∙ fold-roll-Wide Wide view_step _
