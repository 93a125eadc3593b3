-- Proof obligation of `composed_macros::pair_fold`.
use Rattle.wide_translation.specs.Carried.{plain, taken}
use Rattle.wide_translation.specs.Forms as forms
use Rattle.wide_translation.specs.Pairs as pairs
use Rattle.wide_translation.specs.Translated as specs
use Rattle.wide_translation.proofs.PartReturns.{over_range}
use Rattle.wide_translation.proofs.composed_macros.pair_fold.Goals as goal

pub returns-in-Ok : goal.returns-in-Ok
returns-in-Ok c g y u h k =
    over_range g y c.args.over c.in-Ok.range (λ w r. specs.with_plain u (λ j d. taken (plain (pairs.pair_kind c.args.found) (forms.macro_tree (pairs.one_name c.args.found) w r d)))) _ c.in-Ok.is h (c.pair_fold_of.ensures u k)
