-- Proofs of `roots::start_places`: the result meets the contract; each turn of the loop keeps the invariant.

use Rattle.value_table.proofs.Prelude.{◌∷◌, ◌++◌, [], map, refl, sym, ap, ◌∙◌, subst, append_assoc, append-nil, array_into_iter_items, AllByRecursion, nil_from_length, view, value, first_values, plain_value, StartsWithValues, IsWelcome}
use Rattle.value_table.proofs.Named.{grows_by, name_sound, name_values}
use Rattle.value_table.proofs.Starting.{root_step}
use Rattle.value_table.proofs.roots.start_places.Goals as goal

pub loop-root-preserved : goal.loop-root-preserved
loop-root-preserved c =
    let l = c.loop-root in
    let x = c.in-Some.root in
    let g = c.add_document.ensures.grown in
    let grows = grows_by l.heap l.places c.add_document.new.heap g.0 l.invariant.starts.sound c.add_document.ensures.heap g.1 in
    let step = c.in-Some.ensures.steps in
    let at = c.in_ok-place.ensures.value in
    let pushed = c.in_ok-push.ensures.ok in
    record {
      starts = record {
        sound = name_sound c.add_document.new.heap l.places c.push.new.self c.in_ok-place.place grows.sound at.inside pushed;
        values = root_step l.yielded (l.yielded ++ x ∷ []) x _ _ _ refl (grows.values ∙ l.invariant.starts.values) at.is
            (name_values c.add_document.new.heap l.places c.push.new.self c.in_ok-place.place pushed);
      };
      welcome = (subst (λ ys. AllByRecursion IsWelcome (map view ys)) step l.invariant.welcome).1;
      all = append_assoc l.yielded (x ∷ []) _ ∙ ap (λ ys. l.yielded ++ ys) (sym step) ∙ l.invariant.all;
    }

pub returns : goal.returns
returns c =
    let l = c.loop-root in
    let none = nil_from_length (array_into_iter_items l.root-iterator) c.in-None.ensures.steps.0 in
    let all = sym (append-nil l.yielded) ∙ ap (λ ys. l.yielded ++ ys) (sym none) ∙ l.invariant.all ∙ c.into_iter-root-iterator.ensures.into_iter_gives.0 in
    subst (λ ys. StartsWithValues l.heap l.places (first_values ++ map value (map plain_value (map view ys)))) all l.invariant.starts
