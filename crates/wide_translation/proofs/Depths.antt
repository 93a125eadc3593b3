-- The arguments of a method are less deep than the method.
use Rattle.std.proofs.Common.{◌≡◌, ◌+◌, ◌<◌, ◌∙◌, ap, arith}
use Rattle.std.specs.declared.alloc.Global.{Global}
use Rattle.std.specs.declared.boxed.Box.{Box}
use Rattle.std.specs.declared.string.String.{String}
use Rattle.std.specs.declared.vec.Vec.{Vec}
use Rattle.wide_reader.specs.declared.wide.Wide as code
use Rattle.wide_reader.specs.declared.wide.Wide.{Wide, size-Wide, size_is-Wide, roll-Wide, out-roll-Wide}
use Rattle.wide_reader.specs.declared.wide.Wide.{TheVariants.rolls-Method}
use Rattle.wide_reader.specs.declared.wide.Wide.TheBlock as block
use Rattle.wide_reader.specs.declared.wide.Wide.TheOpen as layer
use Rattle.wide_reader.specs.declared.wide.Wide.TheOpen.{Wide-F}
use denote.Hole.Carrier.{Values}
use denote.Param.Weighed.{most}

-- an expression is one deeper than the deepest of its parts
layer_size : (x : Wide-F Wide)
    → size-Wide (roll-Wide x) ≡ block.weighs-Wide.weight (Values block.the_members block.the_sigs block.the_carrier) block.the_depth x + 1
layer_size x =
    size_is-Wide (roll-Wide x)
    ∙ ap (λ (y : Wide-F Wide). block.weighs-Wide.weight (Values block.the_members block.the_sigs block.the_carrier) block.the_depth y + 1)
    (out-roll-Wide x)

pub arguments_fall : (of : Box Wide Global) (name : String Global) (arguments : Vec Wide Global)
    → most size-Wide arguments.items < size-Wide (code.Method of name arguments)
arguments_fall of name arguments =
    let e : size-Wide (roll-Wide (layer.Method of name arguments)) ≡ size-Wide (code.Method of name arguments)
    = ap size-Wide (rolls-Method of name arguments)
    in omega (arith, layer_size (layer.Method of name arguments))
