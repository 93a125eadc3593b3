-- Proof obligations of `piece_at` (src/content.rt).
use Rattle.wide_tokens.proofs.Prelude.{◌≡◌, ◌+◌, ◌-◌, get_or, length, arith, ◌∙◌, ap, get_or-drop}
use Rattle.std.proofs.Common.{length-drop}
use Rattle.cel_tokens.proofs.Contents.{escape_utf8}
use Rattle.wide_tokens.proofs.content.piece_at.Goals as goal

pub returns-clause-utf8 : goal.returns-clause-utf8
returns-clause-utf8 c said u =
    let e = c.in_ok-code.ensures in
    let t = c.tail.ensures in
    let d = length-drop 1 c.args.bytes.now in
    let len = ap length t in
    let q : 1 + (c.in_ok-code.len - 1) ≡ c.in_ok-code.len = omega (arith, e.within) in
    let g : get_or c.tail.result.now (c.in_ok-code.len - 1) 0 ≡ get_or c.args.bytes.now c.in_ok-code.len 0 = ap (λ ys. get_or ys (c.in_ok-code.len - 1) 0) t ∙ (get_or-drop 1 c.args.bytes.now (c.in_ok-code.len - 1) 0 ∙ ap (λ y. get_or c.args.bytes.now y 0) q) in
    escape_utf8 said c.args.bytes.now c.in_ok-code.code c.in_ok-code.len u (omega (arith, c.in_ok-first.ensures.item.3.1 0, c.if-first-ne92.false)) (omega (arith, e.within, d, len)) (omega (arith, g, e.ascii)) e.scalar
