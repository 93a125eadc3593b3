-- Proofs of `members::place`: the result meets the contract; each turn of the loop keeps the invariant.

use Rattle.value_table.proofs.Prelude.{sym, ap, ◌∙◌, arith}
use Rattle.std.specs.Ordering.{is_eq}
use Rattle.review_tables.specs.Members.{key_at}
use Rattle.review_tables.proofs.Membered.{first_here, none_at_all, none_more}
use Rattle.review_tables.proofs.members.place.Goals as goal

pub loop-i-init : goal.loop-i-init
loop-i-init c = tt

pub loop-i-preserved : goal.loop-i-preserved
loop-i-preserved c = none_more (key_at c.args.key.now) c.args.entries.now c.loop-i.i _ _ c.loop-i.invariant (omega arith) (omega arith) (sym (ap is_eq c.key_order.ensures) ∙ sym c.is_eq.ensures ∙ c.if-is_eq.false)

pub returns-then-is_eq : goal.returns-then-is_eq
returns-then-is_eq c = record {
  inside = omega arith;
  first = first_here (key_at c.args.key.now) c.args.entries.now c.loop-i.i _ c.loop-i.invariant (omega arith) (sym (ap is_eq c.key_order.ensures) ∙ sym c.is_eq.ensures ∙ c.if-is_eq.true);
}

pub returns : goal.returns
returns c = none_at_all (key_at c.args.key.now) c.args.entries.now c.loop-i.i c.loop-i.invariant (omega arith)
