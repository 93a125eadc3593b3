-- Proof obligations of `call` (src/folding.rt).
use Rattle.cel_macros.proofs.Prelude.{◌≡◌, arith, sym, ◌∙◌, map, IfOk-weaker, AllocError, CodeCore, callee_named, is_has, call, core_view, cores, call_of}
use Rattle.cel_macros.proofs.PartsExpanded.{call_of_many}
use Rattle.cel_macros.proofs.folding.call.Goals as goal

pub returns-then-len-ne1 : goal.returns-then-len-ne1
returns-then-len-ne1 c =
    IfOk-weaker {X = CodeCore} {Y = AllocError} c.call-then-len-ne1.result (λ d. core_view d ≡ call (callee_named c.args.name.now) (cores (map core_view c.args.arguments.items))) (λ d. core_view d ≡ call_of c.args.name.now (cores (map core_view c.args.arguments.items))) (λ d h. h ∙ sym (call_of_many (is_has c.args.name.now) c.args.name.now c.args.arguments.items (λ e. omega (arith, e)))) c.call-then-len-ne1.ensures
