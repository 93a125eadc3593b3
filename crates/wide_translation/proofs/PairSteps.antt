-- The ranges of macros with two names, by whether there are tables.
use Rattle.std.proofs.Common.{◌≡◌, Bool, true, false, ◌||◌, Some, None, refl, ap, ◌∙◌}
use Rattle.cel_reader.specs.Tree.{Tree}
use Rattle.wide_kinds.specs.declared.kind.ValueKind.{ValueKind}
use Rattle.wide_translation.specs.Carried.{Carried, plain, NeedsIndices, Translation, refused}
use Rattle.wide_translation.specs.Layers.{ranged}
use Rattle.wide_translation.specs.Pairs.{PairUse, values_only, keys_only, both, is_map_kind, range_tree, pair_range, with_range}

pub with_range_of : (w : Bool) (u : PairUse) (b : Bool) (a : Tree) → (b || w) ≡ true → pair_range w u b a ≡ Some (range_tree u b a)
with_range_of w u true a h = refl
with_range_of true values_only false a h = refl
with_range_of true keys_only false a h = refl
with_range_of true both false a h = refl
with_range_of false u false a h = absurd (cc)

pub values_alone : (w : Bool) (a : Tree) → pair_range w values_only false a ≡ Some (range_tree values_only false a)
values_alone w a = refl

pub no_range : (u : PairUse) (a : Tree) → (u ≡ values_only → ⊥) → pair_range false u false a ≡ None
no_range values_only a n = absurd (n refl)
no_range keys_only a n = refl
no_range both a n = refl

-- an operand and its range
pub ranged_some : (w : Bool) (u : PairUse) (c : Carried) (k : ValueKind) (a r : Tree) (f : Tree → Translation) → c ≡ plain k a → pair_range w u (is_map_kind k) a ≡ Some r → ranged w u c f ≡ f r
ranged_some w u c k a r f e h = (λ j. ranged w u (e j) f) ∙ ap (λ o. with_range o f) h

pub ranged_none : (w : Bool) (u : PairUse) (c : Carried) (k : ValueKind) (a : Tree) (f : Tree → Translation) → c ≡ plain k a → pair_range w u (is_map_kind k) a ≡ None → ranged w u c f ≡ refused NeedsIndices
ranged_none w u c k a f e h = (λ j. ranged w u (e j) f) ∙ ap (λ o. with_range o f) h
