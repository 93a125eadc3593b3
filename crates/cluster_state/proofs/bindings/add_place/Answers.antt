-- Proof obligations of `bindings::add_place`.
use Rattle.cluster_state.proofs.Prelude.{◌∙◌, ◌++◌, ◌∷◌, [], Some, None, ap, cond, get_by, is_eq-slice_cmp, nat_cmp, option_map_or, refl, slice_cmp}
use Rattle.cluster_state.proofs.Indexed.{lent_name, place_added}
use Rattle.cluster_state.proofs.bindings.add_place.Goals as goal

pub returns : goal.returns
returns c n =
    place_added c.args.name.now n c.args.places.now c.args.place c.push.new.self _ _ _
    (c.in_ok-insert.ensures.updates.0 (lent_name n)
    ∙ ap (λ b. cond b (Some c.push.new.self) (get_by (λ k. slice_cmp nat_cmp n k.now) c.remove.new.self)) (is_eq-slice_cmp c.args.name.now n))
    (c.remove.ensures.updates.0 (lent_name n)
    ∙ ap (λ b. cond b None (get_by (λ k. slice_cmp nat_cmp n k.now) c.args.places.now)) (is_eq-slice_cmp c.args.name.now n))
    refl
    (c.in_ok-push.ensures.items
    ∙ ap (λ l. l ++ c.args.place ∷ []) (c.places_or_none-found.ensures ∙ ap (λ o. option_map_or (λ v. v.items) o []) c.remove.ensures.value))
