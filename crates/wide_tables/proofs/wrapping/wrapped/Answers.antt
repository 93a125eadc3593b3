-- Proof obligations of `wrapping::wrapped`.
use Rattle.std.proofs.Common.{◌≡◌, ◌∙◌, ◌+◌, min, sym, arith, rules}
use Rattle.wide_tables.proofs.WrappedRoots.{no_roots, params_there, values_of, five_there, wrapped_ends, wrapped_refused}
use Rattle.wide_tables.proofs.wrapping.wrapped.Goals as goal

pub returns-then-not-has_roots : goal.returns-then-not-has_roots
returns-then-not-has_roots c = λ r e. no_roots c.args.table r e (sym c.has_roots.ensures ∙ c.if-not-has_roots.true)

pub table_length-count-requires : goal.table_length-count-requires
table_length-count-requires c = sym c.has_roots.ensures ∙ c.if-not-has_roots.false

pub add_wrapped-requires-clause-params : goal.add_wrapped-requires-clause-params
add_wrapped-requires-clause-params c = params_there c.args.table.values (sym c.has_roots.ensures ∙ c.if-not-has_roots.false)

pub rooted-requires-clause-values : goal.rooted-requires-clause-values
rooted-requires-clause-values c =
    five_there c.args.table c.add_wrapped.new.table c.in_ok-params.params c.table_length-count.result (sym c.has_roots.ensures ∙ c.if-not-has_roots.false)
    c.in_ok-params.ensures

pub returns-then-charge-gt-CHARGE_LIMIT : goal.returns-then-charge-gt-CHARGE_LIMIT
returns-then-charge-gt-CHARGE_LIMIT c = λ r e.
    let k = c.charge.result in
    let n = c.table_length-count.result in
    let s = c.saturating_add-sum.result in
    let charge = c.saturating_add-charge.result in
    let p : s ≡ min (k + n) 18446744073709551615 = search rules in
    let q : charge ≡ min (s + 9) 18446744073709551615 = search rules in
    wrapped_refused c.args.table n k s charge r e (c.table_length-count.ensures r (values_of c.args.table r e)) c.charge.ensures.value p q (omega arith)

pub returns : goal.returns
returns c = λ r e.
    let k = c.charge.result in
    let n = c.table_length-count.result in
    let s = c.saturating_add-sum.result in
    let charge = c.saturating_add-charge.result in
    let p : s ≡ min (k + n) 18446744073709551615 = search rules in
    let q : charge ≡ min (s + 9) 18446744073709551615 = search rules in
    wrapped_ends c.args.table c.add_wrapped.new.table c.in_ok-params.params n k s charge c.in_ok-rooted.field-0 r e
    (c.table_length-count.ensures r (values_of c.args.table r e)) c.in_ok-params.ensures c.charge.ensures.value p q (omega arith) c.in_ok-rooted.ensures
