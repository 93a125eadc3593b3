-- Proof obligations of `Breakpoints::clear` (src/breakpoints.rt).
use Rattle.debugger.proofs.Prelude.{◌≡◌, ℕ, List, not, true, rules, ap, sym, subst, ◌∙◌, filter, nat_eq, in_order}
use Rattle.debugger.proofs.Slots.{filter_in_order, retained}
use Rattle.debugger.proofs.breakpoints.Breakpoints.clear.Goals as goal

pub invariant_of-self : goal.invariant_of-self
invariant_of-self c =
    let kept = retained _ (λ (s : ℕ). not (nat_eq s c.args.slot)) _ (λ x b f' y called. search rules) _ _ c.retain.ensures.filtered in
    subst (λ (slots : List ℕ). in_order slots ≡ true) (sym kept) (filter_in_order (λ (s : ℕ). not (nat_eq s c.args.slot)) _ c.self.invariant)

pub returns : goal.returns
returns c =
    let kept = retained _ (λ (s : ℕ). not (nat_eq s c.args.slot)) _ (λ x b f' y called. search rules) _ _ c.retain.ensures.filtered in
    kept ∙ ap (λ (slots : List ℕ). filter (λ (s : ℕ). not (nat_eq s c.args.slot)) slots) c.self.view_is
