-- Proof obligations of `objects::Objects::beyond`.
use Rattle.cluster_state.proofs.Prelude.{◌≡◌, ◌∙◌, [], Some, ap, collection_cmp, get_by, option_map_or, sym, Collection}
use Rattle.cluster_state.proofs.Placed.{found_place, passed_place}
use Rattle.cluster_state.proofs.objects.Objects.beyond.Goals as goal

pub returns-then-is_place : goal.returns-then-is_place
returns-then-is_place c =
    let asked : Collection = record { api_version = c.args.api_version.now; kind = c.args.kind.now; namespace = c.args.namespace.now } in
    let here = found_place asked _ _ c.in-Some.place.now c.in-Some.objects.now c.in-Some.ensures.steps (sym c.is_place.ensures ∙ c.if-is_place.true) in
    let go = c.loop-place.invariant in
    let found : get_by (collection_cmp asked) c.args.self.now.collections ≡ Some c.in-Some.objects.now = cc in
    sym (ap (λ o. option_map_or (λ m. m.entries) o []) found)

pub loop-place-preserved : goal.loop-place-preserved
loop-place-preserved c =
    c.loop-place.invariant
    ∙ passed_place (record { api_version = c.args.api_version.now; kind = c.args.kind.now; namespace = c.args.namespace.now }) _ _ c.in-Some.place.now c.in-Some.objects.now
    c.in-Some.ensures.steps (sym c.is_place.ensures ∙ c.if-is_place.false)
