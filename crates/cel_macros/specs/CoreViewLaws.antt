-- The plain data of the code's expressions whose parts are in lists.
use Rattle.std.proofs.Common.{◌≡◌, map, sym, ap, ◌∙◌}
use Rattle.std.specs.declared.alloc.Global.{Global}
use Rattle.std.specs.declared.vec.Vec.{Vec}
use Rattle.std.specs.declared.boxed.Box.{Box}
use Rattle.cel_macros.specs.declared.core_tree.Core.{Core as CodeCore, TheVariants.rolls-Call, TheVariants.rolls-Method, TheVariants.rolls-List, TheVariants.rolls-Map}
use Rattle.cel_macros.specs.declared.core_tree.Core as code
use Rattle.cel_macros.specs.declared.core_tree.Core.TheFolds.{fold-roll-Core}
use Rattle.cel_macros.specs.Callee.{callee_view}
use Rattle.cel_macros.specs.declared.callee.Callee.{Callee}
use Rattle.cel_macros.specs.CoreTree as node
use Rattle.cel_macros.specs.CoreTree.{Core}
use Rattle.cel_macros.specs.CoreView.{core_view, core_step, cores, core_entries}
use Rattle.cel_macros.specs.Expanding.{core_pair}

-- the plain data of a call, from that of its arguments
pub view_call : (callee : Callee) (arguments : Vec CodeCore Global)
    → core_view (code.Call callee arguments) ≡ node.call (callee_view callee) (cores (map core_view arguments.items))
view_call callee arguments = ap core_view (sym (rolls-Call callee arguments)) ∙ fold-roll-Core Core core_step _

-- the plain data of a method, from that of its operand and its arguments
pub view_method : (of : Box CodeCore Global) (callee : Callee) (arguments : Vec CodeCore Global)
    → core_view (code.Method of callee arguments)
    ≡ node.method (core_view of.value) (callee_view callee) (cores (map core_view arguments.items))
view_method of callee arguments = ap core_view (sym (rolls-Method of callee arguments)) ∙ fold-roll-Core Core core_step _

-- the plain data of a list, from that of its elements
pub view_list : (items : Vec CodeCore Global) → core_view (code.List items) ≡ node.list (cores (map core_view items.items))
view_list items = ap core_view (sym (rolls-List items)) ∙ fold-roll-Core Core core_step _

-- the plain data of a map, from that of its keys and values
pub view_map : (pairs : Vec (CodeCore × CodeCore) Global) → core_view (code.Map pairs) ≡ node.map (core_entries (map core_pair pairs.items))
view_map pairs = ap core_view (sym (rolls-Map pairs)) ∙ fold-roll-Core Core core_step _
