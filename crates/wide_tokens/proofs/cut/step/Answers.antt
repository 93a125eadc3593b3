-- Proof obligations of `step` (src/cut.rt).
use Rattle.wide_tokens.proofs.Prelude.{ap, arith, ◌+◌, length, map, take, subst, err_from_is_err_and, token_view, word_of, sign_may_follow, WideEndsAs, over, nothing}
use Rattle.std.proofs.Common.{length-drop}
use Rattle.wide_tokens.proofs.Cutting.{there, taken_behind, taken_for, ends_text, space_step, token_goes, too_many_words, text_refused, int_refused}
use Rattle.wide_tokens.proofs.cut.step.Goals as goal

pub front_of-requires-clause-text : goal.front_of-requires-clause-text
front_of-requires-clause-text c =
    ends_text c.args.bytes.now c.tail-rest.result.now c.args.at c.requires.text c.tail-rest.ensures

pub returns-in-Over : goal.returns-in-Over
returns-in-Over c =
    let s = rw c.in-Over.is at c.in_ok-front_of.ensures.shown in
    over (there c.args.bytes.now c.tail-rest.result.now c.args.signed c.args.at _ c.tail-rest.ensures s)

pub returns-in-Nothing : goal.returns-in-Nothing
returns-in-Nothing c =
    let s = rw c.in-Nothing.is at c.in_ok-front_of.ensures.shown in
    nothing (there c.args.bytes.now c.tail-rest.result.now c.args.signed c.args.at _ c.tail-rest.ensures s)

pub returns-in-Space : goal.returns-in-Space
returns-in-Space c =
    let s = rw c.in-Space.is at c.in_ok-front_of.ensures.shown in
    let w = rw c.in-Space.is at c.in_ok-front_of.ensures.within in
    let l = ap length c.tail-rest.ensures in
    let d = length-drop c.args.at c.args.bytes.now in (
      omega (arith, w),
      omega (arith, w, l, d),
      λ r e. space_step c.args.bytes.now c.args.signed c.args.at c.in-Space.len (map (token_view c.args.bytes.now) c.args.out.now.items) r (there c.args.bytes.now c.tail-rest.result.now c.args.signed c.args.at _ c.tail-rest.ensures s) e,
      λ t. taken_behind c.args.bytes.now c.args.signed c.args.at c.in-Space.len (there c.args.bytes.now c.tail-rest.result.now c.args.signed c.args.at _ c.tail-rest.ensures s) t,
    )

pub returns-in-WrongText : goal.returns-in-WrongText
returns-in-WrongText c =
    let s = rw c.in-WrongText.is at c.in_ok-front_of.ensures.shown in
    text_refused c.args.bytes.now c.args.signed c.args.at c.len.result c.args.out.now.items c.refusal.result
    (there c.args.bytes.now c.tail-rest.result.now c.args.signed c.args.at _ c.tail-rest.ensures s) (omega (arith, c.len.ensures, c.args.out.now.ok.0)) c.refusal.ensures

pub returns-in-WideInt : goal.returns-in-WideInt
returns-in-WideInt c =
    let s = rw c.in-WideInt.is at c.in_ok-front_of.ensures.shown in
    int_refused c.args.bytes.now c.args.signed c.args.at c.in-WideInt.before c.len-in-WideInt.result c.args.out.now.items c.refusal-in-WideInt.result
    (there c.args.bytes.now c.tail-rest.result.now c.args.signed c.args.at _ c.tail-rest.ensures s) (omega (arith, c.len-in-WideInt.ensures, c.args.out.now.ok.0)) c.refusal-in-WideInt.ensures

pub returns-then-len-ge-TOKEN_LIMIT : goal.returns-then-len-ge-TOKEN_LIMIT
returns-then-len-ge-TOKEN_LIMIT c =
    let s = rw c.in-Word.is at c.in_ok-front_of.ensures.shown in
    too_many_words c.args.bytes.now c.tail-rest.result.now c.args.signed c.args.at c.in-Word.len _ c.args.out.now.items c.tail-rest.ensures s (omega (arith, c.if-len-ge-TOKEN_LIMIT.true, c.len-in-Word.ensures, c.args.out.now.ok.0))

pub returns-in_err-next-in-Word : goal.returns-in_err-next-in-Word
returns-in_err-next-in-Word c =
    let s = rw c.in-Word.is at c.in_ok-front_of.ensures.shown in
    let p = err_from_is_err_and c.from_residual-in_err-next-in-Word.result c.from_residual-in_err-next-in-Word.ensures.1 in
    rw (p.1, p.2) (taken_for c.args.bytes.now c.tail-rest.result.now c.args.signed c.args.at c.in-Word.len _ c.tail-rest.ensures s)

pub returns-in_ok-next-in-Word : goal.returns-in_ok-next-in-Word
returns-in_ok-next-in-Word c =
    let s = rw c.in-Word.is at c.in_ok-front_of.ensures.shown in
    let w = rw c.in-Word.is at c.in_ok-front_of.ensures.within in
    let l = ap length c.tail-rest.ensures in
    let d = length-drop c.args.at c.args.bytes.now in
    let e = c.in_ok-next-in-Word.ensures in (
      omega (arith, w, e.next),
      omega (arith, w, l, d, e.next),
      λ r k. token_goes c.args.bytes.now c.tail-rest.result.now c.args.signed c.args.at c.in-Word.len c.in-Word.kind c.args.out.now.items r
          (record { rest_is = c.tail-rest.ensures; front_is = s }) (omega (arith, c.if-len-ge-TOKEN_LIMIT.false, c.len-in-Word.ensures, c.args.out.now.ok.0))
          (let sign = sign_may_follow (word_of (take c.in-Word.len c.tail-rest.result.now) c.in-Word.kind) in
          subst (λ ts. WideEndsAs c.args.bytes.now sign (c.args.at + c.in-Word.len) ts r) e.added
          (subst (λ m. WideEndsAs c.args.bytes.now sign m c.add.new.out.items r) e.next
          (subst (λ s. WideEndsAs c.args.bytes.now s c.in_ok-next-in-Word.next c.add.new.out.items r) e.sign k))),
      λ t. taken_for c.args.bytes.now c.tail-rest.result.now c.args.signed c.args.at c.in-Word.len _ c.tail-rest.ensures s,
    )
