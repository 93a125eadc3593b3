-- Proof obligation of `composed_macros::pair_filter_map`.
use Rattle.wide_kinds.specs.declared.kind.ValueKind.TheVariants as kind
use Rattle.wide_translation.specs.Carried.{plain, taken}
use Rattle.wide_translation.specs.Forms as forms
use Rattle.wide_translation.specs.Translated as specs
use Rattle.wide_translation.proofs.PartReturns.{over_range}
use Rattle.wide_translation.proofs.composed_macros.pair_filter_map.Goals as goal

pub returns-in-Ok : goal.returns-in-Ok
returns-in-Ok c g y u v h k l =
    over_range g y c.args.over c.in-Ok.range (λ w r. specs.with_plain u (λ j b. specs.with_plain v (λ i d. taken (plain kind.List (forms.filter_map_tree w r b d))))) _ c.in-Ok.is h (c.pair_filter_map_of.ensures u v k l)
