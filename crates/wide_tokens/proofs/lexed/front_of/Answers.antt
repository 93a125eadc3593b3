-- Proof obligations of `front_of` (src/lexed.rt).
use Rattle.wide_tokens.proofs.Prelude.{[], sym, ◌∙◌, ap, get_or, drop, front_word, opening_len, content}
use Rattle.wide_tokens.proofs.Cutting.{taken_by_text}
use Rattle.wide_tokens.proofs.Fronts.{front_over, some_left, front_space, front_else, in_any_case, opened_is}
use Rattle.wide_tokens.proofs.lexed.front_of.Goals as goal

pub literal-requires-clause-opened : goal.literal-requires-clause-opened
literal-requires-clause-opened c = opened_is c.args.bytes.now c.in-Some.opening (sym c.in-Some.ensures)

pub returns-then-is_empty-clause-shown : goal.returns-then-is_empty-clause-shown
returns-then-is_empty-clause-shown c =
    sym (front_over c.args.signed c.args.bytes.now c.is_empty.result c.is_empty.ensures c.if-is_empty.true)

pub returns-then-gap-gt0-clause-shown : goal.returns-then-gap-gt0-clause-shown
returns-then-gap-gt0-clause-shown c =
    let h = some_left c.args.bytes.now c.is_empty.result c.is_empty.ensures c.if-is_empty.false in
    sym (front_space c.args.signed c.args.bytes.now c.between-gap.result h c.between-gap.ensures.length c.if-gap-gt0.true)

pub returns-in-None-clause-shown : goal.returns-in-None-clause-shown
returns-in-None-clause-shown c =
    let h = some_left c.args.bytes.now c.is_empty.result c.is_empty.ensures c.if-is_empty.false in
    c.plain.ensures.shown
    ∙ (ap (front_word c.args.signed (get_or c.args.bytes.now 0 0) c.args.bytes.now) c.in-None.ensures
    ∙ sym (front_else c.args.signed c.args.bytes.now c.between-gap.result h c.between-gap.ensures.length c.if-gap-gt0.false))

pub returns-in-Some-clause-shown : goal.returns-in-Some-clause-shown
returns-in-Some-clause-shown c =
    let h = some_left c.args.bytes.now c.is_empty.result c.is_empty.ensures c.if-is_empty.false in
    let f = front_else c.args.signed c.args.bytes.now c.between-gap.result h c.between-gap.ensures.length c.if-gap-gt0.false in
    let o = c.in-Some.opening in
    rw (f ∙ ap (front_word c.args.signed (get_or c.args.bytes.now 0 0) c.args.bytes.now) (sym c.in-Some.ensures)) c.literal.ensures.shown

pub returns-in-Some-clause-memory : goal.returns-in-Some-clause-memory
returns-in-Some-clause-memory c =
    let h = some_left c.args.bytes.now c.is_empty.result c.is_empty.ensures c.if-is_empty.false in
    let f = front_else c.args.signed c.args.bytes.now c.between-gap.result h c.between-gap.ensures.length c.if-gap-gt0.false in
    let o = c.in-Some.opening in
    in_any_case c.literal.result (taken_by_text c.args.signed c.args.bytes.now o (content o 0 0 [] (drop (opening_len o) c.args.bytes.now)) (f ∙ ap (front_word c.args.signed (get_or c.args.bytes.now 0 0) c.args.bytes.now) (sym c.in-Some.ensures)))
