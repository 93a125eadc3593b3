-- Proofs of `root_places::place_roots`: the result meets the contract; the loop invariant holds at first and is kept.

use Rattle.value_table.proofs.Prelude.{◌≡◌, ◌<◌, ◌+◌, [], Option, None, length, get_or, drop, drop_all, subst, refl, arith, heap_values}
use Rattle.std.proofs.lemmas.List.{drop_more}
use Rattle.value_store.specs.Roots.{root_of}
use Rattle.review_tables.specs.RootPlaces.{AreSoundPlaces}
use Rattle.review_tables.specs.RootKind.{IsRootOrRefused}
use Rattle.review_tables.specs.declared.placed.Placed.{Placed}
use Rattle.review_tables.proofs.RootsInOrder.{Opening, opening_start, opening_step, opening_fails, opening_ends, opening_too_large}
use Rattle.value_table.proofs.Named.{name_sound}
use Rattle.review_tables.proofs.root_places.place_roots.Goals as goal

pub loop-given-init : goal.loop-given-init
loop-given-init c = record {
  reference = refl;
  references = c.requires.starts.sound;
  sound = c.requires.sound;
  opening = λ ds a. opening_start c.args.heap.now c.args.roots.now c.args.places.now ds c.requires.starts a;
}

pub returns-in_default-clause-due : goal.returns-in_default-clause-due
returns-in_default-clause-due c = λ ds a.
    let l = c.loop-given in
    let h = c.args.heap.now in
    let all = c.args.roots.now in
    let i = l.given-index in
    let none : Option Placed = None in
    let inside : i < length all = omega (arith, c.told-roots) in
    let here = drop_more all i none inside in
    let go = subst (λ r. Opening h r l.places l.reference l.charge ds) here (l.invariant.opening ds a) in
    opening_fails h (drop (i + 1) all) l.places l.reference l.charge ds (get_or all i none) go
    (λ d e. subst (λ r. IsRootOrRefused (heap_values h) l.reference r (root_of l.reference d)) c.in_default.is (c.root.ensures.gives l.reference d e))

pub loop-given-preserved : goal.loop-given-preserved
loop-given-preserved c =
    let l = c.loop-given in
    let h = c.args.heap.now in
    let all = c.args.roots.now in
    let i = l.given-index in
    let none : Option Placed = None in
    let inside : i < length all = omega (arith, c.told-roots) in
    let here = drop_more all i none inside in
    record {
      reference = omega (arith, l.invariant.reference);
      references = name_sound h l.places c.push.new.self c.in-Some.placed.place l.invariant.references c.in-Some.ensures.placed.inside c.in_ok-push.ensures.ok;
      sound = (subst (AreSoundPlaces (heap_values h)) here l.invariant.sound).1;
      opening = λ ds a.
          let go = subst (λ r. Opening h r l.places l.reference l.charge ds) here (l.invariant.opening ds a) in
          opening_step h (drop (i + 1) all) l.places c.push.new.self l.reference l.charge c.saturating_add-charge.result ds (get_or all i none) c.in-Some.placed go
          (λ d e. subst (λ r. IsRootOrRefused (heap_values h) l.reference r (root_of l.reference d)) c.in-Some.is (c.root.ensures.gives l.reference d e))
          c.in-Some.ensures.placed c.in_ok-push.ensures.ok c.saturating_add-charge.ensures;
    }

pub returns-then-charge-gt-CHARGE_LIMIT-clause-due : goal.returns-then-charge-gt-CHARGE_LIMIT-clause-due
returns-then-charge-gt-CHARGE_LIMIT-clause-due c = λ ds a.
    let l = c.loop-given in
    let over : drop l.given-index c.args.roots.now ≡ [] = drop_all l.given-index c.args.roots.now (omega (arith, c.told-roots)) in
    opening_too_large c.args.heap.now (drop l.given-index c.args.roots.now) l.places l.reference l.charge ds (l.invariant.opening ds a) over (omega arith)

pub returns-clause-charged : goal.returns-clause-charged
returns-clause-charged c = record { references = c.loop-given.invariant.references; limit = omega arith }

pub returns-clause-due : goal.returns-clause-due
returns-clause-due c = λ ds a.
    let l = c.loop-given in
    let over : drop l.given-index c.args.roots.now ≡ [] = drop_all l.given-index c.args.roots.now (omega (arith, c.told-roots)) in
    opening_ends c.args.heap.now (drop l.given-index c.args.roots.now) l.places l.reference l.charge ds (l.invariant.opening ds a) over (omega arith)
