-- Proofs of `equality::walk::equal`: the result meets the contract; the loop invariant holds at first and is kept;
-- its calls meet their requirements.

use Rattle.value_table.proofs.Prelude.{◌≡◌, ◌<◌, ℕ, List, length, get_or, true≢false, refl, subst, sym, ap, ◌∙◌, arith, take_all, value_in, values_at}
use Rattle.value_table.proofs.Maps.{map_more, map_part}
use Rattle.value_table.proofs.Classes.{Unites, both_found, root_stays, unites}
use Rattle.value_table.proofs.Walks.{same_value, same_place, same_parts, same_cells, same_long, part_before}
use Rattle.value_table.proofs.equality.walk.+equal.Goals as goal
use Rattle.value_table.proofs.equality.walk.+equal.Goals.{After-parts_of-ys}

-- two cells with the same head have the same number of parts
parts_long : {t : ℕ} (c : After-parts_of-ys t) → length c.parts_of-xs.result.now ≡ length c.parts_of-ys.result.now
parts_long c = grind (arith, same_long)

-- and the parts are before them
parts_low : {t : ℕ} (c : After-parts_of-ys t) (k : ℕ) → k < length c.parts_of-xs.result.now
    → (get_or c.parts_of-xs.result.now k 0 < c.representative-x.result) × (get_or c.parts_of-ys.result.now k 0 < c.representative-y.result)
parts_low c k h = (
  part_before _ c.args.cells.now _ _ _ k 0 c.parts_of-xs.ensures c.requires.contents c.at-left.ensures.value h,
  part_before _ c.args.cells.now _ _ _ k 0 c.parts_of-ys.ensures c.requires.contents c.at-right.ensures.value (omega (arith, h, parts_long c)),
)

pub equal-requires : goal.equal-requires
equal-requires t c =
    let low = parts_low (goal.at.equal-requires t c).After-parts_of-ys c.loop-i.i (omega arith) in
    (omega arith, (c.requires.contents, (omega arith, omega arith)))

pub loop-i-init : goal.loop-i-init
loop-i-init t c = λ vs m s.
    let x = c.representative-x.ensures.value vs s in
    let y = c.representative-y.ensures.value vs x.0 in
    let first = c.representative-x.ensures.classes s.below in
    let found = both_found c.args.same.now c.representative-x.new.same c.representative-y.new.same c.args.a c.args.b c.representative-x.result c.representative-y.result first (c.representative-y.ensures.classes first.shorter.down) in
    record { known = y.0; values = refl; stay = found.stay; others = found.others; root = found.root; long = c.representative-y.auto.same ∙ c.representative-x.auto.same }

pub returns-then-not-equal : goal.returns-then-not-equal
returns-then-not-equal t c = λ vs m s.
    let x = c.representative-x.ensures.value vs s in
    let y = c.representative-y.ensures.value vs x.0 in
    let inv = c.loop-i.invariant vs m s in
    let sub = c.equal.ensures vs m inv.known in
    let low = parts_low (goal.at.returns-then-not-equal t c).After-parts_of-ys c.loop-i.i (omega arith) in
    let xs = c.parts_of-xs.result.now in
    let ys = c.parts_of-ys.result.now in
    record {
      known = sub.known;
      right = (λ h. absurd (true≢false (sym h)), λ e. sym c.if-not-equal.true ∙ sub.right.1 (same_place _ vs c.args.cells.now _ _ m (omega arith) (omega arith) (map_part (value_in vs) xs ys c.loop-i.i 0 0 (omega arith) (same_parts _ vs c.args.cells.now _ _ _ _ _ _ c.parts_of-xs.ensures c.parts_of-ys.ensures c.requires.contents m c.at-left.ensures.value c.at-right.ensures.value (x.1 ∙ e ∙ sym y.1)))));
      stay = λ ws t. inv.stay ws (sub.stay ws t);
      others = λ i d above behind. sub.others i d (omega arith) (omega arith) ∙ inv.others i d above behind;
      one = λ h. absurd (true≢false (sym h));
    }

pub loop-i-preserved : goal.loop-i-preserved
loop-i-preserved t c = λ vs m s.
    let inv = c.loop-i.invariant vs m s in
    let sub = c.equal.ensures vs m inv.known in
    let l = parts_long (goal.at.loop-i-preserved t c).After-parts_of-ys in
    let xs = c.parts_of-xs.result.now in
    let ys = c.parts_of-ys.result.now in
    let low = parts_low (goal.at.loop-i-preserved t c).After-parts_of-ys c.loop-i.i (omega arith) in
    let long = inv.long in
    record {
      known = sub.known;
      values = map_more (value_in vs) xs ys c.loop-i.i 0 0 (omega arith) (omega arith) (same_value vs _ _ (sub.right.0 c.if-not-equal.false)) inv.values;
      stay = λ ws t. inv.stay ws (sub.stay ws t);
      others = λ i d above behind. sub.others i d (omega arith) (omega arith) ∙ inv.others i d above behind;
      root = root_stays c.loop-i.same c.equal.new.same _ c.equal.auto.same (λ d. sub.others _ d (omega arith) (omega arith)) inv.root;
      long = c.equal.auto.same ∙ long;
    }

pub returns : goal.returns
returns t c = λ vs m s.
    let x = c.representative-x.ensures.value vs s in
    let y = c.representative-y.ensures.value vs x.0 in
    let inv = c.loop-i.invariant vs m s in
    let l = parts_long (goal.at.returns t c).After-parts_of-ys in
    let xs = c.parts_of-xs.result.now in
    let ys = c.parts_of-ys.result.now in
    let values : values_at vs xs ≡ values_at vs ys = ap (values_at vs) (sym (take_all c.loop-i.i xs (omega arith))) ∙ inv.values ∙ ap (values_at vs) (take_all c.loop-i.i ys (omega arith)) in
    let e = same_cells _ vs c.args.cells.now _ _ _ _ _ _ c.parts_of-xs.ensures c.parts_of-ys.ensures m c.at-left.ensures.value c.at-right.ensures.value (c.alike.ensures.0 c.if-not-alike.false) values in
    let low_x = c.representative-x.ensures.not_above in
    let low_y = c.representative-y.ensures.not_above in
    let together = subst (λ (new : List ℕ). Unites c.loop-i.same new c.representative-x.result c.representative-y.result) (sym c.unite.ensures.word) (unites c.loop-i.same c.representative-x.result c.representative-y.result inv.known.below inv.root) in
    record {
      known = c.unite.ensures.value vs inv.known e;
      right = (λ h. sym x.1 ∙ e ∙ y.1, λ h. refl);
      stay = λ ws t. inv.stay ws (together.stay ws t);
      others = λ i d above behind. together.others i d (omega arith) ∙ inv.others i d above behind;
      one = λ h all ws t.
          let at_x = c.representative-x.ensures.value ws (inv.stay ws (together.stay ws t)) in
          let at_y = c.representative-y.ensures.value ws at_x.0 in
          sym at_x.1 ∙ together.one (omega (arith, inv.long)) ws t ∙ at_y.1;
    }
