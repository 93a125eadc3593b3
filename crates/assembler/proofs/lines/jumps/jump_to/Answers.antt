-- Proof obligations of `jump_to` (src/lines/jumps.rt).
use Rattle.assembler.proofs.Prelude.{subst, ap, ◌∙◌, arith, w32, to_z-of_z, with_offset, TargetIs}
use Rattle.assembler.proofs.JumpLines.{jump_out, jump_refused, jump_said}
use Rattle.assembler.proofs.lines.jumps.jump_to.Goals as goal

pub returns-in_default : goal.returns-in_default
returns-in_default c = λ goal t.
    let e = subst (λ x. TargetIs x goal) c.in-Offset.is t in
    jump_out c.args.jump e.0 goal e.2 (λ r. c.in_default.ensures e.0 e.1 (grind arith))

pub returns-in-Some-with_offset : goal.returns-in-Some-with_offset
returns-in-Some-with_offset c = λ goal t.
    let e = subst (λ x. TargetIs x goal) c.in-Offset.is t in
    jump_said c.args.jump e.0 _ goal c.in-Some-with_offset.statement e.2 (c.in-Some.ensures.1 e.0 e.1) c.in-Some.ensures.0 c.requires.range (c.in-Some-with_offset.ensures ∙ ap (with_offset c.args.jump) (to_z-of_z w32 c.in-Some.offset c.in-Some.ensures.0))

pub returns-in-None : goal.returns-in-None
returns-in-None c = λ goal t.
    let e = subst (λ x. TargetIs x goal) c.in-Offset.is t in
    jump_refused c.args.jump e.0 _ goal e.2 (c.in-Some.ensures.1 e.0 e.1) (c.in-None.ensures ∙ ap (with_offset c.args.jump) (to_z-of_z w32 c.in-Some.offset c.in-Some.ensures.0))
