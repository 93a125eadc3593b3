-- Expressions with lists of parts as plain data.
use Rattle.std.proofs.Common.{◌≡◌, map, string_bytes, ap, sym, ◌∙◌}
use Rattle.std.specs.declared.alloc.Global.{Global}
use Rattle.std.specs.declared.boxed.Box.{Box}
use Rattle.std.specs.declared.string.String.{String}
use Rattle.std.specs.declared.vec.Vec.{Vec}
use Rattle.cel_reader.specs.Tree as tree
use Rattle.cel_reader.specs.Tree.{Tree, view, view_step, trees, entries}
use Rattle.cel_reader.specs.declared.expr.Expr as code
use Rattle.cel_reader.specs.declared.expr.Expr.{Expr}
use Rattle.cel_reader.specs.declared.expr.Expr.TheFolds.{fold-roll-Expr}
use Rattle.cel_reader.specs.declared.expr.Expr.TheVariants.{rolls-Call, rolls-List, rolls-Map, rolls-Method}

pub view_call : (n : String Global) (arguments : Vec Expr Global) → view (code.Call n arguments) ≡ tree.call (string_bytes n) (trees (map view arguments.items))
view_call n arguments = ap view (sym (rolls-Call n arguments)) ∙ fold-roll-Expr Tree view_step _

pub view_method : (a : Box Expr Global) (n : String Global) (arguments : Vec Expr Global)
    → view (code.Method a n arguments) ≡ tree.method (view a.value) (string_bytes n) (trees (map view arguments.items))
view_method a n arguments = ap view (sym (rolls-Method a n arguments)) ∙ fold-roll-Expr Tree view_step _

pub view_list : (items : Vec Expr Global) → view (code.List items) ≡ tree.list (trees (map view items.items))
view_list items = ap view (sym (rolls-List items)) ∙ fold-roll-Expr Tree view_step _

pub view_map : (pairs : Vec (Expr × Expr) Global) → view (code.Map pairs) ≡ tree.map (entries (map (λ e. (view e.0, view e.1)) pairs.items))
view_map pairs = ap view (sym (rolls-Map pairs)) ∙ fold-roll-Expr Tree view_step _
