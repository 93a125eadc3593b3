-- Proofs of `order::compare_lists`: identifiers are compared until two differ or a list ends.
use Rattle.std.proofs.Common.{◌≡◌, ◌∙◌, Some, true, ap, ap₂, option_map, subst, sym}
use Rattle.versions.proofs.Comparing.{both_end, both_go_on, decided, equal, first_ends, is_absent, is_present, second_ends, unequal, valid_after, valid_first}
use Rattle.versions.proofs.Dots.{after_shorter}
use Rattle.versions.proofs.order.compare_lists.Goals as goal
use Rattle.versions.specs.Identifiers.{after_first, is_pre_identifier}
use Rattle.versions.specs.Order.{identifier_cmp}

pub compare_identifiers-order-requires-clause-first : goal.compare_identifiers-order-requires-clause-first
compare_identifiers-order-requires-clause-first c =
    subst (λ p. is_pre_identifier p ≡ true) (sym c.next-left.ensures.first) (valid_first c.identifiers.x.now c.identifiers.invariant.first)

pub compare_identifiers-order-requires-clause-second : goal.compare_identifiers-order-requires-clause-second
compare_identifiers-order-requires-clause-second c =
    subst (λ p. is_pre_identifier p ≡ true) (sym c.next-right.ensures.first) (valid_first c.identifiers.y.now c.identifiers.invariant.second)

pub returns-then-ne : goal.returns-then-ne
returns-then-ne c =
    let e = c.compare_identifiers-order.ensures ∙ ap₂ identifier_cmp c.next-left.ensures.first c.next-right.ensures.first in
    decided c.identifiers.x.now c.identifiers.y.now c.compare_identifiers-order.result e
    (unequal c.compare_identifiers-order.result c.ne.result c.ne.ensures c.if-ne.true)
    ∙ c.identifiers.invariant.same

pub identifiers-smaller : goal.identifiers-smaller
identifiers-smaller c =
    after_shorter c.identifiers.x.now c.in-Some.one.now (sym c.next-left.ensures.after ∙ ap (option_map (λ t. t.now)) c.in-Some.is)

pub identifiers-preserved : goal.identifiers-preserved
identifiers-preserved c =
    let e = sym (c.compare_identifiers-order.ensures ∙ ap₂ identifier_cmp c.next-left.ensures.first c.next-right.ensures.first)
    ∙ equal c.compare_identifiers-order.result c.ne.result c.ne.ensures c.if-ne.false in
    let f : after_first c.identifiers.x.now ≡ Some c.in-Some.one.now = sym c.next-left.ensures.after ∙ ap (option_map (λ t. t.now)) c.in-Some.is in
    let g : after_first c.identifiers.y.now ≡ Some c.in-Some-1₀.other.now = sym c.next-right.ensures.after ∙ ap (option_map (λ t. t.now)) c.in-Some-1₀.is in
    record {
      first = valid_after c.identifiers.x.now c.in-Some.one.now f c.identifiers.invariant.first;
      second = valid_after c.identifiers.y.now c.in-Some-1₀.other.now g c.identifiers.invariant.second;
      same = both_go_on c.identifiers.x.now c.identifiers.y.now c.in-Some.one.now c.in-Some-1₀.other.now f g e ∙ c.identifiers.invariant.same;
    }

pub returns-in-None-1₀ : goal.returns-in-None-1₀
returns-in-None-1₀ c =
    let e = sym (c.compare_identifiers-order.ensures ∙ ap₂ identifier_cmp c.next-left.ensures.first c.next-right.ensures.first)
    ∙ equal c.compare_identifiers-order.result c.ne.result c.ne.ensures c.if-ne.false in
    second_ends c.identifiers.x.now c.identifiers.y.now c.in-Some.one.now (sym c.next-left.ensures.after ∙ ap (option_map (λ t. t.now)) c.in-Some.is)
    (sym c.next-right.ensures.after ∙ ap (option_map (λ t. t.now)) c.in-None-1₀.is) e
    ∙ c.identifiers.invariant.same

pub returns-then-is_none : goal.returns-then-is_none
returns-then-is_none c =
    let e = sym (c.compare_identifiers-order.ensures ∙ ap₂ identifier_cmp c.next-left.ensures.first c.next-right.ensures.first)
    ∙ equal c.compare_identifiers-order.result c.ne.result c.ne.ensures c.if-ne.false in
    both_end c.identifiers.x.now c.identifiers.y.now (sym c.next-left.ensures.after ∙ ap (option_map (λ t. t.now)) c.in-None.is)
    (is_absent (λ t. t.now) c.next-right.result.1 c.is_none.result (after_first c.identifiers.y.now) c.is_none.ensures c.if-is_none.true c.next-right.ensures.after) e
    ∙ c.identifiers.invariant.same

pub returns-else-is_none : goal.returns-else-is_none
returns-else-is_none c =
    let e = sym (c.compare_identifiers-order.ensures ∙ ap₂ identifier_cmp c.next-left.ensures.first c.next-right.ensures.first)
    ∙ equal c.compare_identifiers-order.result c.ne.result c.ne.ensures c.if-ne.false in
    let s = is_present (λ t. t.now) c.next-right.result.1 c.is_none.result (after_first c.identifiers.y.now) c.is_none.ensures c.if-is_none.false c.next-right.ensures.after in
    first_ends c.identifiers.x.now c.identifiers.y.now s.0 (sym c.next-left.ensures.after ∙ ap (option_map (λ t. t.now)) c.in-None.is) s.1 e
    ∙ c.identifiers.invariant.same
