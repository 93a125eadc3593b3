-- Proof obligations of `bindings::push_at`.
use Rattle.cluster_state.proofs.Prelude.{◌≡◌, ◌∙◌, ◌++◌, [], Some, None, ap, append-nil, map, map-append, sym}
use Rattle.std.specs.List.{cons_option}
use Rattle.std.proofs.lemmas.Option.{slice_get-get_or, slice_get_past}
use Rattle.std.specs.Prelude.{slice_get}
use Rattle.cluster_state.proofs.bindings.push_at.Goals as goal

pub returns-in_ok-push-in-Some : goal.returns-in_ok-push-in-Some
returns-in_ok-push-in-Some c =
    let here : Some c.in-Some.binding.now ≡ slice_get c.args.all.now c.args.place =
    ap Some c.in-Some.ensures.lookup.1 ∙ sym (slice_get-get_or c.args.all.now c.args.place c.in-Some.binding.now c.in-Some.ensures.lookup.3.0) in
    ap (map (λ b. b.now)) c.in_ok-push-in-Some.ensures.items ∙ map-append (λ b. b.now) _ _
    ∙ ap (λ o. map (λ b. b.now) c.args.found.now.items ++ cons_option o []) here

pub returns-in-None : goal.returns-in-None
returns-in-None c =
    let none : None ≡ slice_get c.args.all.now c.args.place = sym (slice_get_past c.args.all.now c.args.place c.in-None.ensures.lookup.3) in
    sym (append-nil _) ∙ ap (λ o. map (λ b. b.now) c.args.found.now.items ++ cons_option o []) none
