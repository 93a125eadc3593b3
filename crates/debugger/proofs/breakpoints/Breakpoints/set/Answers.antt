-- Proof obligations of `Breakpoints::set` (src/breakpoints.rt).
use Rattle.debugger.proofs.Prelude.{◌≡◌, ℕ, List, true, false, ap, sym, subst, ◌∙◌, has_breakpoint, in_order, with_breakpoint}
use Rattle.debugger.proofs.Halving.{has_none, none_refused, set_found, set_none, stays_ordered}
use Rattle.debugger.proofs.breakpoints.Breakpoints.set.Goals as goal

pub returns-in_default-clause-ok : goal.returns-in_default-clause-ok
returns-in_default-clause-ok c =
    let here = rw c.as_slice.ensures at c.in_default.ensures.position in
    sym c.self.view_is ∙ set_found c.args.slot _ c.in_default.field-0 c.self.invariant here ∙ ap (with_breakpoint c.args.slot) c.self.view_is

pub returns-in_err-insert-clause-refused : goal.returns-in_err-insert-clause-refused
returns-in_err-insert-clause-refused c =
    let place = rw c.as_slice.ensures at c.in-Err.ensures.position in
    let none = has_none c.args.slot c.self.inside.slots.items c.in-Err.place c.self.invariant place in
    none_refused c.from_residual.result c.args.slot c.args.self.now (subst (λ (slots : List ℕ). has_breakpoint c.args.slot slots ≡ false) c.self.view_is none)

pub invariant_of-self-2 : goal.invariant_of-self-2
invariant_of-self-2 c =
    let place = rw c.as_slice.ensures at c.in-Err.ensures.position in
    subst (λ (slots : List ℕ). in_order slots ≡ true) (sym c.in_ok-insert.ensures.ok) (stays_ordered c.args.slot c.self.inside.slots.items c.in-Err.place c.self.invariant place)

pub returns-clause-ok : goal.returns-clause-ok
returns-clause-ok c =
    let place = rw c.as_slice.ensures at c.in-Err.ensures.position in
    c.in_ok-insert.ensures.ok ∙ set_none c.args.slot c.self.inside.slots.items c.in-Err.place c.self.invariant place ∙ ap (with_breakpoint c.args.slot) c.self.view_is
