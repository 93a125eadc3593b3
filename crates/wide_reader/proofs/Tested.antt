-- The plain data of methods.
use Rattle.wide_reader.proofs.Prelude.{◌≡◌, map, sym, ◌∙◌, ap, Wide, CodeWide, view, wides, string_bytes}
use Rattle.std.specs.declared.alloc.Global.{Global}
use Rattle.std.specs.declared.boxed.Box.{Box}
use Rattle.std.specs.declared.string.String.{String}
use Rattle.std.specs.declared.vec.Vec.{Vec}
use Rattle.wide_reader.specs.Tree as tree
use Rattle.wide_reader.specs.Tree.{view_step}
use Rattle.wide_reader.specs.declared.wide.Wide as code
use Rattle.wide_reader.specs.declared.wide.Wide.TheFolds.{fold-roll-Wide}
use Rattle.wide_reader.specs.declared.wide.Wide.TheVariants.{rolls-Method}

pub view_method : (of : Box CodeWide Global) (name : String Global) (arguments : Vec CodeWide Global)
    → view (code.Method of name arguments) ≡ tree.method (view of.value) (string_bytes name) (wides (map view arguments.items))
view_method of name arguments = ap view (sym (rolls-Method of name arguments)) ∙ fold-roll-Wide Wide view_step _
