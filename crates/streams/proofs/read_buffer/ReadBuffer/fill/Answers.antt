-- Proof obligations of `ReadBuffer::fill` (src/read_buffer.rt).
use Rattle.streams.proofs.Prelude.{◌≡◌, ◌<◌, ◌∙◌, ℕ, length, rules, subst, sym}
use Rattle.streams.proofs.Filled.{empty_range, filled_end, filled_kept}
use Rattle.streams.proofs.read_buffer.ReadBuffer.fill.Goals as goal

pub returns-clause-kept : goal.returns-clause-kept
returns-clause-kept g c = filled_kept _ _ _ _ _ _ (sym c.self.view_is ∙ empty_range _ _ _ c.if-self.false) c.in_ok-self-inside.ensures.bytes

pub returns-clause-end : goal.returns-clause-end
returns-clause-end g c empty some =
    let size : length c.self.inside.bytes ≡ g.row.N = search rules in
    filled_end _ _ _ _ _ _ (sym c.self.view_is ∙ empty_range _ _ _ c.if-self.false) c.in_ok-self-inside.ensures.bytes empty (subst (λ (n : ℕ). 0 < n) (sym size) some)
