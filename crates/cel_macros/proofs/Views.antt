-- The plain data of expressions whose parts are in lists.
use Rattle.cel_macros.proofs.Prelude.{◌≡◌, map, string_bytes, ap, sym, ◌∙◌, Vec, Box, String, Global, Expr, rolls-Call, rolls-Method, rolls-List, rolls-Map, fold-roll-Expr, Tree, view, view_step, trees, entries}
use Rattle.cel_reader.specs.declared.expr.Expr as code
use Rattle.cel_reader.specs.Tree as tree

pub view_call : (name : String Global) (arguments : Vec Expr Global) → view (code.Call name arguments) ≡ tree.call (string_bytes name) (trees (map view arguments.items))
view_call name arguments = ap view (sym (rolls-Call name arguments)) ∙ fold-roll-Expr Tree view_step _

pub view_method : (of : Box Expr Global) (name : String Global) (arguments : Vec Expr Global)
    → view (code.Method of name arguments) ≡ tree.method (view of.value) (string_bytes name) (trees (map view arguments.items))
view_method of name arguments = ap view (sym (rolls-Method of name arguments)) ∙ fold-roll-Expr Tree view_step _

pub view_list : (items : Vec Expr Global) → view (code.List items) ≡ tree.list (trees (map view items.items))
view_list items = ap view (sym (rolls-List items)) ∙ fold-roll-Expr Tree view_step _

pub view_map : (pairs : Vec (Expr × Expr) Global) → view (code.Map pairs) ≡ tree.map (entries (map (λ e. (view e.0, view e.1)) pairs.items))
view_map pairs = ap view (sym (rolls-Map pairs)) ∙ fold-roll-Expr Tree view_step _
