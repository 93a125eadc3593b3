-- Proof obligations of the functions of the cycle `reader` (src/reader.rt).
use Rattle.cel_reader.proofs.Prelude.{[], ◌∷◌, ◌++◌, arith, CloseParen, Or, view, entry_view, trees, words, takes_comma, this_mark, this_name, this_literal, this_operator, Expression, Infix, Unary, Member, Primary, Refused, Misfit, call, done, go, whole, keyed, StepReads, Row, Enclosed, Listed, Item, Entry, BehindEntry, stands, unfit, goes, fails, calls, missing, passes, Map}
use Rattle.cel_reader.specs.Tree as tree
use Rattle.cel_reader.proofs.Lists.{behind_ends, behind_misfit, behind_goes, list_empty, list_goes, list_comma, comma_misfit}
use Rattle.cel_reader.proofs.Parts.{led, leads_on, leads_refused, led_fails, led_then, built, built_within, built_fails, built_then}
use Rattle.cel_reader.proofs.Steps.{full_at, opened_at, found_at, enters_at, unary_at, pushed, misfit_left, deep_left, either, refused, hand}
use Rattle.cel_reader.proofs.Prefixed.{prefixed_refused, prefixed_read}
use Rattle.cel_reader.proofs.reader.+reader.Goals as goal

pub branches-expression-no-requires : goal.branches-expression-no-requires
branches-expression-no-requires t c = let s = c.in_ok-yes.ensures.shorter _ c.infix-yes.ensures.shorter in (omega (arith, c.decreases, s), tt)

pub branches-returns-then-room-eq0-clause-reads : goal.branches-returns-then-room-eq0-clause-reads
branches-returns-then-room-eq0-clause-reads t c a = rw c.too_deep.ensures (deep_left _ _ _ (full_at c.if-room-eq0.true))

pub branches-returns-in_err-yes-clause-reads : goal.branches-returns-in_err-yes-clause-reads
branches-returns-in_err-yes-clause-reads t c a =
    refused _ _ _ _ _ c.from_residual.ensures.1 (c.in_err-yes.ensures.reads whole (Row (Infix Or)) (λ b. call (Row Expression) (λ d. done (tree.ternary a b d))) _ _ c.infix-yes.ensures.reads)
    (λ k y. opened_at c.if-room-eq0.false y)

pub branches-returns-clause-reads : goal.branches-returns-clause-reads
branches-returns-clause-reads t c a =
    let l = c.in_ok-yes.ensures.reads whole (Row (Infix Or)) (λ b. call (Row Expression) (λ d. done (tree.ternary a b d))) _ _ c.infix-yes.ensures.reads in
    built _ _ c.expression-no.result _ _ _ _ c.pair.ensures c.expression-no.ensures.reads (λ k y. opened_at c.if-room-eq0.false (l _ (fails y)))
    (λ x y b p. rw (b.0, b.1, b.2) (opened_at c.if-room-eq0.false (l _ (calls _ p stands))))

pub branches-returns-clause-shorter : goal.branches-returns-clause-shorter
branches-returns-clause-shorter t c =
    let s = c.in_ok-yes.ensures.shorter _ c.infix-yes.ensures.shorter in
    built_within c.expression-no.result _ _ _ _ c.pair.ensures c.expression-no.ensures.shorter (λ x y b m. rw (b.2) (omega (arith, m, s)))

pub enclosed-returns-then-room-eq0-clause-reads : goal.enclosed-returns-then-room-eq0-clause-reads
enclosed-returns-then-room-eq0-clause-reads t c = rw c.too_deep.ensures (deep_left _ _ _ (goes (full_at c.if-room-eq0.true)))

pub enclosed-returns-clause-reads : goal.enclosed-returns-clause-reads
enclosed-returns-clause-reads t c =
    led _ _ _ _ _ (c.up_to.ensures.reads whole (Row Expression) (λ a. done a) _ _ c.expression-inner.ensures.reads) (λ o y. goes (opened_at c.if-room-eq0.false y)) (λ x. stands)

pub enclosed-returns-clause-shorter : goal.enclosed-returns-clause-shorter
enclosed-returns-clause-shorter t c = c.up_to.ensures.shorter _ c.expression-inner.ensures.shorter

pub entries-returns-then-room-eq0-clause-reads : goal.entries-returns-then-room-eq0-clause-reads
entries-returns-then-room-eq0-clause-reads t c = rw c.too_deep.ensures (deep_left _ _ _ (goes (full_at c.if-room-eq0.true)))

pub entries-returns-in-Some-clause-reads : goal.entries-returns-in-Some-clause-reads
entries-returns-in-Some-clause-reads t c =
    rw c.new.ensures.items (goes (opened_at c.if-room-eq0.false (list_empty Map [] (Entry []) c.in-Some.ensures.at)))

pub entries-returns-in-Some-after-clause-reads : goal.entries-returns-in-Some-after-clause-reads
entries-returns-in-Some-after-clause-reads t c = rw c.misfit.ensures (misfit_left _ _ _ (goes (opened_at c.if-room-eq0.false (list_comma Map []
    (Entry []) _ c.in_default.ensures.at c.in-Some-after.ensures.at (λ e. absurd cc)))))

pub entries-loop-grown-init : goal.entries-loop-grown-init
entries-loop-grown-init t c = rw c.new-entries.ensures.items (record {
  goes = λ o x. goes (opened_at c.if-room-eq0.false (list_goes Map [] (Entry []) c.in_default.ensures.at c.in_default-after.ensures.at x));
  within = omega arith;
})

pub entries-returns-in_err-grown-clause-reads : goal.entries-returns-in_err-grown-clause-reads
entries-returns-in_err-grown-clause-reads t c =
    refused _ _ _ _ _ c.from_residual.ensures.1 (led_fails _ _ _ _ _ c.in_err-grown.ensures (c.entry-entry.ensures.reads _))
    (λ k y. c.loop-grown.invariant.goes (Refused k) y)

pub entries-returns-in-Some-end_at-clause-reads : goal.entries-returns-in-Some-end_at-clause-reads
entries-returns-in-Some-end_at-clause-reads t c =
    led_then c.entry-entry.result _ _ _ _ _ _ c.in_ok-grown.ensures (c.entry-entry.ensures.reads _) c.entry-entry.ensures.shorter
    (λ x b l s. rw (pushed entry_view _ _ _ b.0) (c.loop-grown.invariant.goes _ (l _ (goes (behind_ends Map _ (Entry _)
    (rw (b.1) at c.in-Some-end_at.ensures.at))))))

pub entries-returns-in_default-after-2-clause-reads : goal.entries-returns-in_default-after-2-clause-reads
entries-returns-in_default-after-2-clause-reads t c =
    led_then c.entry-entry.result _ _ _ _ _ _ c.in_ok-grown.ensures (c.entry-entry.ensures.reads _) c.entry-entry.ensures.shorter
    (λ x b l s. rw c.misfit-in_default-after-2.ensures (misfit_left _ _ _ (c.loop-grown.invariant.goes
    (Refused (Misfit (words c.args.text.now c.in_ok-grown.entry_end.now))) (l _ (goes (rw (← b.1)
    (behind_misfit Map _ (Entry _) c.in_default-end_at.ensures.at c.in_default-after-2.ensures.at)))))))

pub entry-expression-value-requires : goal.entry-expression-value-requires
entry-expression-value-requires t c = let s = c.in_ok-key.ensures.shorter _ c.expression-key.ensures.shorter in (omega (arith, c.decreases, s), tt)

pub entry-returns-in_err-key-clause-reads : goal.entry-returns-in_err-key-clause-reads
entry-returns-in_err-key-clause-reads t c pairs =
    leads_refused _ _ _ _ _ c.from_residual.ensures.1 (c.in_err-key.ensures.reads keyed (Row Expression) (λ a. call (Row Expression) (λ b. go (BehindEntry (pairs ++ (a, b) ∷ [])))) _ _ c.expression-key.ensures.reads) (λ k y. goes y)

pub entry-returns-clause-reads : goal.entry-returns-clause-reads
entry-returns-clause-reads t c pairs =
    let l = c.in_ok-key.ensures.reads keyed (Row Expression) (λ a. call (Row Expression) (λ b. go (BehindEntry (pairs ++ (a, b) ∷ [])))) _ _ c.expression-key.ensures.reads in
    leads_on _ c.expression-value.result _ _ _ _ _ c.pair.ensures c.expression-value.ensures.reads (λ k y. goes (l _ (fails y)))
    (λ x y b p o z. goes (l _ (calls _ p (rw (b.0, b.1, b.2) at z))))

pub entry-returns-clause-shorter : goal.entry-returns-clause-shorter
entry-returns-clause-shorter t c =
    let s = c.in_ok-key.ensures.shorter _ c.expression-key.ensures.shorter in
    built_within c.expression-value.result _ _ _ _ c.pair.ensures c.expression-value.ensures.shorter (λ x y b m. rw (b.2) (omega (arith, m, s)))

pub expression-returns-in_err-condition-clause-reads : goal.expression-returns-in_err-condition-clause-reads
expression-returns-in_err-condition-clause-reads t c = refused _ _ _ _ _ c.from_residual.ensures.1 c.in_err-condition.ensures.reads (λ k y. goes (fails y))

pub expression-returns-in_default-clause-reads : goal.expression-returns-in_default-clause-reads
expression-returns-in_default-clause-reads t c = goes (calls _ c.in_ok-condition.ensures.reads (passes c.in_default.ensures.at stands))

pub expression-returns-clause-reads : goal.expression-returns-clause-reads
expression-returns-clause-reads t c =
    built _ _ c.branches-branches.result _ _ _ _ c.ternary.ensures (c.branches-branches.ensures.reads _)
    (λ k y. goes (calls _ c.in_ok-condition.ensures.reads (enters_at c.in-Some.ensures.at y)))
    (λ x y b p. rw (b.0, b.1) (goes (calls _ c.in_ok-condition.ensures.reads (enters_at c.in-Some.ensures.at p))))

pub expression-returns-clause-shorter : goal.expression-returns-clause-shorter
expression-returns-clause-shorter t c =
    built_within c.branches-branches.result _ _ _ _ c.ternary.ensures c.branches-branches.ensures.shorter
    (λ x y b s. rw (b.1) (omega (arith, s, c.in-Some.ensures.shorter, c.in_ok-condition.ensures.shorter)))

pub infix-returns-in_err-left-clause-reads : goal.infix-returns-in_err-left-clause-reads
infix-returns-in_err-left-clause-reads t c = refused _ _ _ _ _ c.from_residual.ensures.1 c.in_err-left.ensures.reads (λ k y. goes (fails y))

pub infix-loop-operator-init : goal.infix-loop-operator-init
infix-loop-operator-init t c = record { goes = λ o x. goes (calls _ c.in_ok-left.ensures.reads x); shorter = c.in_ok-left.ensures.shorter }

pub infix-returns-in_err-joined-clause-reads : goal.infix-returns-in_err-joined-clause-reads
infix-returns-in_err-joined-clause-reads t c =
    refused _ _ _ _ _ c.from_residual-in_err-joined.ensures.1 (built_fails _ _ _ _ _ c.in_err-joined.ensures c.operand-right.ensures.reads)
    (λ k y. c.loop-operator.invariant.goes (Refused k) (goes (found_at c.in-Some.ensures.at.3 (this_operator c.in-Some.ensures.at.1 c.in-Some.ensures.at.2) (fails y))))

pub infix-loop-operator-preserved : goal.infix-loop-operator-preserved
infix-loop-operator-preserved t c =
    built_then _ c.operand-right.result _ _ _ _ _ c.in_ok-joined.ensures c.operand-right.ensures.reads c.operand-right.ensures.shorter (λ x b p s. rw (b.0, b.1) (record {
      goes = λ o z. c.loop-operator.invariant.goes o (goes (found_at c.in-Some.ensures.at.3 (this_operator c.in-Some.ensures.at.1 c.in-Some.ensures.at.2) (calls _ p z)));
      shorter = omega (arith, c.in-Some.ensures.shorter, s);
    }))

pub infix-returns-clause-reads : goal.infix-returns-clause-reads
infix-returns-clause-reads t c = c.loop-operator.invariant.goes _ (goes (missing c.in_default.ensures.at stands))

pub items-returns-then-room-eq0-clause-reads : goal.items-returns-then-room-eq0-clause-reads
items-returns-then-room-eq0-clause-reads t c = rw c.too_deep.ensures (deep_left _ _ _ (goes (full_at c.if-room-eq0.true)))

pub items-returns-in-Some-clause-reads : goal.items-returns-in-Some-clause-reads
items-returns-in-Some-clause-reads t c = rw c.new.ensures.items (goes (opened_at c.if-room-eq0.false (list_empty _ [] (Item _ []) c.in-Some.ensures.at)))

pub items-returns-in-Some-after-clause-reads : goal.items-returns-in-Some-after-clause-reads
items-returns-in-Some-after-clause-reads t c = rw c.lone_comma.ensures (either
    (takes_comma c.args.closing) c.args.text.now c.in-Some-after.behind.now c.args.tokens.now (λ rest. StepReads (Listed c.args.closing) c.args.room
    (words c.args.text.now c.args.tokens.now) (Refused (Misfit rest))) (goes (opened_at c.if-room-eq0.false (list_comma _ []
    (Item _ []) _ c.in_default.ensures.at c.in-Some-after.ensures.at (λ e. comma_misfit _ [] _ _ _ c.in-Some-after.ensures.at)))))

pub items-loop-grown-init : goal.items-loop-grown-init
items-loop-grown-init t c = rw c.new-items.ensures.items (record {
  goes = λ o x. goes (opened_at c.if-room-eq0.false (list_goes _ [] (Item _ []) c.in_default.ensures.at c.in_default-after.ensures.at x));
  within = omega arith;
})

pub items-returns-in_err-grown-clause-reads : goal.items-returns-in_err-grown-clause-reads
items-returns-in_err-grown-clause-reads t c =
    refused _ _ _ _ _ c.from_residual.ensures.1 (built_fails _ _ _ _ _ c.in_err-grown.ensures c.expression-item.ensures.reads)
    (λ k y. c.loop-grown.invariant.goes (Refused k) (goes (fails y)))

pub items-returns-in-Some-end_at-clause-reads : goal.items-returns-in-Some-end_at-clause-reads
items-returns-in-Some-end_at-clause-reads t c =
    built_then _ c.expression-item.result _ _ _ _ _ c.in_ok-grown.ensures c.expression-item.ensures.reads c.expression-item.ensures.shorter
    (λ x b p s. rw (pushed view _ _ _ b.0) (c.loop-grown.invariant.goes _ (goes (calls _ p (goes (behind_ends _ _ (Item _ _)
    (rw (b.1) at c.in-Some-end_at.ensures.at)))))))

pub items-returns-in_default-after-2-clause-reads : goal.items-returns-in_default-after-2-clause-reads
items-returns-in_default-after-2-clause-reads t c =
    built_then _ c.expression-item.result _ _ _ _ _ c.in_ok-grown.ensures c.expression-item.ensures.reads c.expression-item.ensures.shorter
    (λ x b p s. let q = rw (← b.1) at p in rw c.misfit.ensures (misfit_left _ _ _ (c.loop-grown.invariant.goes _ (goes (calls _ q (goes
    (behind_misfit _ _ (Item _ _) c.in_default-end_at.ensures.at c.in_default-after-2.ensures.at)))))))

pub items-loop-grown-preserved : goal.items-loop-grown-preserved
items-loop-grown-preserved t c =
    built_then _ c.expression-item.result _ _ _ _ _ c.in_ok-grown.ensures c.expression-item.ensures.reads c.expression-item.ensures.shorter
    (λ x b p s. rw (pushed view _ _ _ b.0) (record {
      goes = λ o z. c.loop-grown.invariant.goes o (goes (calls _ p (goes (rw (← b.1) (behind_goes _ _ (Item _ _) c.in_default-end_at.ensures.at
          c.in-Some-after-2.ensures.at z)))));
      within = omega (arith, c.loop-grown.invariant.within, rw (← b.1) at s, c.in-Some-after-2.ensures.shorter);
    }))

pub maybe_arguments-returns-in_default-clause-reads : goal.maybe_arguments-returns-in_default-clause-reads
maybe_arguments-returns-in_default-clause-reads t c a of = passes c.in_default.ensures.at stands

pub maybe_arguments-returns-in_err-arguments-clause-reads : goal.maybe_arguments-returns-in_err-arguments-clause-reads
maybe_arguments-returns-in_err-arguments-clause-reads t c a of =
    refused _ _ _ _ _ c.from_residual.ensures.1 c.in_err-arguments.ensures.reads (λ k y. enters_at c.in-Some.ensures.at (fails y))

pub maybe_arguments-returns-clause-reads : goal.maybe_arguments-returns-clause-reads
maybe_arguments-returns-clause-reads t c a of = enters_at c.in-Some.ensures.at (calls _ c.in_ok-arguments.ensures.reads stands)

pub member-returns-in_err-tree-clause-reads : goal.member-returns-in_err-tree-clause-reads
member-returns-in_err-tree-clause-reads t c = refused _ _ _ _ _ c.from_residual.ensures.1 c.in_err-tree.ensures.reads (λ k y. goes (fails y))

pub member-loop-behind-init : goal.member-loop-behind-init
member-loop-behind-init t c = record { goes = λ o x. goes (calls _ c.in_ok-tree.ensures.reads x); shorter = c.in_ok-tree.ensures.shorter }

pub member-returns-in_err-selected-clause-reads : goal.member-returns-in_err-selected-clause-reads
member-returns-in_err-selected-clause-reads t c =
    refused _ _ _ _ _ c.from_residual-in_err-selected.ensures.1 (built_fails _ _ _ _ _ c.in_err-selected.ensures (c.selection-named.ensures.reads _))
    (λ k y. c.loop-behind.invariant.goes (Refused k) (goes (found_at c.in-Some.ensures.at this_mark (fails y))))

pub member-loop-behind-preserved-in-Some : goal.member-loop-behind-preserved-in-Some
member-loop-behind-preserved-in-Some t c =
    built_then _ c.selection-named.result _ _ _ _ _ c.in_ok-selected.ensures (c.selection-named.ensures.reads _) c.selection-named.ensures.shorter (λ x b p s. rw (b.0, b.1) (record {
      goes = λ o z. c.loop-behind.invariant.goes o (goes (found_at c.in-Some.ensures.at this_mark (calls _ p z)));
      shorter = omega (arith, c.in-Some.ensures.shorter, s);
    }))

pub member-returns-in_err-indexed-clause-reads : goal.member-returns-in_err-indexed-clause-reads
member-returns-in_err-indexed-clause-reads t c =
    refused _ _ _ _ _ c.from_residual-in_err-indexed.ensures.1 (built_fails _ _ _ _ _ c.in_err-indexed.ensures c.enclosed-at.ensures.reads)
    (λ k y. c.loop-behind.invariant.goes (Refused k) (goes (missing c.in_default.ensures.at (enters_at c.in-Some-after.ensures.at (fails y)))))

pub member-loop-behind-preserved : goal.member-loop-behind-preserved
member-loop-behind-preserved t c =
    built_then _ c.enclosed-at.result _ _ _ _ _ c.in_ok-indexed.ensures c.enclosed-at.ensures.reads c.enclosed-at.ensures.shorter (λ x b p s. rw (b.0, b.1) (record {
      goes = λ o z. c.loop-behind.invariant.goes o (goes (missing c.in_default.ensures.at (enters_at c.in-Some-after.ensures.at (calls _ p z))));
      shorter = omega (arith, c.in-Some-after.ensures.shorter, s);
    }))

pub member-returns-in_default-after-clause-reads : goal.member-returns-in_default-after-clause-reads
member-returns-in_default-after-clause-reads t c =
    c.loop-behind.invariant.goes _ (goes (missing c.in_default.ensures.at (passes c.in_default-after.ensures.at stands)))

pub primary-returns-in-Some-clause-reads : goal.primary-returns-in-Some-clause-reads
primary-returns-in-Some-clause-reads t c = hand _ _ (StepReads (Enclosed CloseParen) c.args.room (words c.args.text.now c.in-Some.inside.now)) (StepReads
    (Row Primary) c.args.room (words c.args.text.now c.args.tokens.now)) (λ o m. goes (enters_at c.in-Some.ensures.at m)) c.enclosed.ensures.reads

pub primary-returns-in-Some-after-clause-reads : goal.primary-returns-in-Some-after-clause-reads
primary-returns-in-Some-after-clause-reads t c =
    built _ _ c.items-items.result _ _ _ _ c.list.ensures c.items-items.ensures.reads
    (λ k y. goes (passes c.in_default.ensures.at (enters_at c.in-Some-after.ensures.at (fails y))))
    (λ x y b p. rw (b.0, b.1) (goes (passes c.in_default.ensures.at (enters_at c.in-Some-after.ensures.at (calls _ p stands)))))

pub primary-returns-in-Some-after-clause-shorter : goal.primary-returns-in-Some-after-clause-shorter
primary-returns-in-Some-after-clause-shorter t c =
    built_within c.items-items.result _ _ _ _ c.list.ensures c.items-items.ensures.shorter (λ x y b s. rw (b.1) (omega (arith, s, c.in-Some-after.ensures.shorter)))

pub primary-returns-in-Some-after-2-clause-reads : goal.primary-returns-in-Some-after-2-clause-reads
primary-returns-in-Some-after-2-clause-reads t c =
    built _ _ c.entries-entries.result _ _ _ _ c.map.ensures c.entries-entries.ensures.reads
    (λ k y. goes (passes c.in_default.ensures.at (passes c.in_default-after.ensures.at (enters_at c.in-Some-after-2.ensures.at (fails y)))))
    (λ x y b p. rw (b.0, b.1) (goes (passes c.in_default.ensures.at (passes c.in_default-after.ensures.at (enters_at c.in-Some-after-2.ensures.at (calls _ p stands))))))

pub primary-returns-in-Some-after-2-clause-shorter : goal.primary-returns-in-Some-after-2-clause-shorter
primary-returns-in-Some-after-2-clause-shorter t c =
    built_within c.entries-entries.result _ _ _ _ c.map.ensures c.entries-entries.ensures.shorter (λ x y b s. rw (b.1) (omega (arith, s, c.in-Some-after-2.ensures.shorter)))

pub primary-returns-in-Some-2-clause-reads : goal.primary-returns-in-Some-2-clause-reads
primary-returns-in-Some-2-clause-reads t c =
    let s = rw c.in-Some-2.is at c.in_ok-literal.ensures.at in
    rw c.literal.ensures (goes (passes c.in_default.ensures.at (passes c.in_default-after.ensures.at (passes c.in_default-after-2.ensures.at (found_at s.1
    (this_literal s.2) stands)))))

pub primary-returns-in_default-identifier_at-clause-reads : goal.primary-returns-in_default-identifier_at-clause-reads
primary-returns-in_default-identifier_at-clause-reads t c =
    let s = rw c.in_default-2.is at c.in_ok-literal.ensures.at in
    rw c.misfit.ensures (misfit_left _ _ _ (goes (passes c.in_default.ensures.at (passes c.in_default-after.ensures.at
    (passes c.in_default-after-2.ensures.at (missing s (missing c.in_default-identifier_at.ensures.at unfit)))))))

pub primary-returns-clause-reads : goal.primary-returns-clause-reads
primary-returns-clause-reads t c =
    let s = rw c.in_default-2.is at c.in_ok-literal.ensures.at in
    built _ _ c.maybe_arguments-arguments.result _ _ _ _ c.call.ensures
    (c.maybe_arguments-arguments.ensures.reads (tree.name c.in-Some-identifier_at.name.now) (λ items. tree.call c.in-Some-identifier_at.name.now (trees items)))
    (λ k y. (goes (passes c.in_default.ensures.at (passes c.in_default-after.ensures.at
    (passes c.in_default-after-2.ensures.at (missing s (found_at c.in-Some-identifier_at.ensures.at.0 (this_name c.in-Some-identifier_at.ensures.at.1) y)))))))
    (λ x y b p. rw (b.0, b.1, c.in_ok-name.ensures) (goes (passes c.in_default.ensures.at (passes c.in_default-after.ensures.at
    (passes c.in_default-after-2.ensures.at (missing s (found_at c.in-Some-identifier_at.ensures.at.0 (this_name c.in-Some-identifier_at.ensures.at.1) p)))))))

pub primary-returns-clause-shorter : goal.primary-returns-clause-shorter
primary-returns-clause-shorter t c =
    built_within c.maybe_arguments-arguments.result _ _ _ _ c.call.ensures c.maybe_arguments-arguments.ensures.shorter (λ x y b s. rw (b.1) (omega (arith, s, c.in-Some-identifier_at.ensures.shorter)))

pub selection-returns-in_default-clause-reads : goal.selection-returns-in_default-clause-reads
selection-returns-in_default-clause-reads t c a = rw c.misfit.ensures (misfit_left _ _ _ (goes (missing c.in_default.ensures.at unfit)))

pub selection-returns-clause-reads : goal.selection-returns-clause-reads
selection-returns-clause-reads t c a =
    built _ _ c.maybe_arguments-arguments.result _ _ _ _ c.pair.ensures
    (c.maybe_arguments-arguments.ensures.reads (tree.select a c.in-Some.name.now) (λ items. tree.method a c.in-Some.name.now (trees items)))
    (λ k y. (goes (found_at c.in-Some.ensures.at.0 (this_name c.in-Some.ensures.at.1) y)))
    (λ x y b p. rw (b.0, b.1, b.2, c.in_ok-name.ensures) (goes (found_at c.in-Some.ensures.at.0 (this_name c.in-Some.ensures.at.1) p)))

pub selection-returns-clause-shorter : goal.selection-returns-clause-shorter
selection-returns-clause-shorter t c =
    built_within c.maybe_arguments-arguments.result _ _ _ _ c.pair.ensures c.maybe_arguments-arguments.ensures.shorter (λ x y b s. rw (b.2) (omega (arith, s, c.in-Some.ensures.shorter)))

pub unary-returns-in_default-clause-reads : goal.unary-returns-in_default-clause-reads
unary-returns-in_default-clause-reads t c = hand _ _ (StepReads (Row Member) c.args.room (words c.args.text.now c.args.tokens.now)) (StepReads
    (Row Unary) c.args.room (words c.args.text.now c.args.tokens.now)) (λ o m. goes (missing c.in_default.ensures.at.0
    (missing c.in_default.ensures.at.1 m))) c.member.ensures.reads

pub unary-returns-clause-reads : goal.unary-returns-clause-reads
unary-returns-clause-reads t c =
    built _ _ c.member-operand.result _ _ _ _ c.unary.ensures c.member-operand.ensures.reads
    (λ k y. (unary_at c.in-Some.operator c.in-Some.ensures.at (fails (prefixed_refused c.prefixes-count.ensures.at y))))
    (λ x y b p. rw (b.0, b.1) (unary_at c.in-Some.operator c.in-Some.ensures.at (calls _ (prefixed_read c.prefixes-count.ensures.at p) stands)))

pub unary-returns-clause-shorter : goal.unary-returns-clause-shorter
unary-returns-clause-shorter t c =
    built_within c.member-operand.result _ _ _ _ c.unary.ensures c.member-operand.ensures.shorter
    (λ x y b s. rw (b.1) (omega (arith, s, c.prefixes-count.ensures.within, c.in-Some.ensures.shorter)))

pub entries-loop-grown-preserved : goal.entries-loop-grown-preserved
entries-loop-grown-preserved t c =
    led_then c.entry-entry.result _ _ _ _ _ _ c.in_ok-grown.ensures (c.entry-entry.ensures.reads _) c.entry-entry.ensures.shorter
    (λ x b l s. rw (pushed entry_view _ _ _ b.0) (record {
      goes = λ o z. c.loop-grown.invariant.goes o (l _ (goes (rw (← b.1) (behind_goes Map _ (Entry _) c.in_default-end_at.ensures.at
          c.in-Some-after-2.ensures.at z))));
      within = omega (arith, c.loop-grown.invariant.within, rw (← b.1) at s, c.in-Some-after-2.ensures.shorter);
    }))
