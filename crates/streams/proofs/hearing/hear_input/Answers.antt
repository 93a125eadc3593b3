-- Proof obligations of `hear_input` (src/hearing.rt).
use Rattle.streams.proofs.Prelude.{◌≡◌, ◌≤◌, ◌<◌, ◌∙◌, ◌-◌, ℕ, Ok, true, false, ap, arith, eqb-true, inl, length, length-drop, one_more, readable, refl, sym, take}
use Rattle.streams.proofs.Cut.{readable-is}
use Rattle.streams.proofs.Heard.{at_end, heard_kept, heard_more, heard_none, heard_rest, heard_some, none_ready, on_err_of, on_ok_of}
use Rattle.streams.proofs.hearing.hear_input.Goals as goal

pub loop-unread-init : goal.loop-unread-init
loop-unread-init g c = record {
  most = omega arith;
  going = λ input before e f. heard_none _ _ _ _ e (c.requires.begun before f);
  read = refl;
  wrote = refl;
  room = λ short. short;
}

pub returns-then-is_err-clause-told : goal.returns-then-is_err-clause-told
returns-then-is_err-clause-told g c = λ input before e f. heard_some _ _ _ _ _ (heard_kept _ _ _ _ _ _ (c.loop-unread.invariant.going input before e f) c.fill.ensures.kept) (omega arith)

pub returns-then-is_err-clause-fails : goal.returns-then-is_err-clause-fails
returns-then-is_err-clause-fails g c =
    (on_err_of c.fill.result _ _ c.is_err.ensures.value c.if-is_err.true c.fill.ensures.err ∙ ap one_more c.loop-unread.invariant.read, c.loop-unread.invariant.wrote)

pub returns-then-is_empty-clause-told : goal.returns-then-is_empty-clause-told
returns-then-is_empty-clause-told g c = λ input before e f.
    let go = c.loop-unread.invariant.going input before e f in
    let zero = eqb-true _ _ (sym c.is_empty.ensures ∙ c.if-is_empty.true) in
    let none = none_ready c.loop-unread.unread c.fill.new.self c.front-bytes.result.now c.loop-unread-test.true (c.front-bytes.ensures ∙ ap (take c.loop-unread.unread) c.ready.ensures) zero in
    let nothing = on_ok_of c.fill.result _ _ c.is_err.ensures.value c.if-is_err.false c.fill.ensures.end none c.requires.some _ go.left_is in
    heard_rest (g.L.Listener.goes c.loop-unread.listener) (λ last. g.L.Listener.ended last c.hear_end.new.listener) (λ last. g.L.Listener.broke last c.hear_end.new.listener) _
    c.args.listener.now before input _ _ _ _ c.hear_end.result (heard_kept _ _ _ _ _ _ go c.fill.ensures.kept) (at_end input _ (omega arith) nothing)
    c.hear_end.ensures.over c.hear_end.ensures.broken c.hear_end.ensures.cause

pub returns-in-Err-clause-told : goal.returns-in-Err-clause-told
returns-in-Err-clause-told g c = λ input before e f.
    let hears = rw c.in-Err.is at c.hear_first-n.ensures.broken in
    inl (heard_some _ _ _ _ _ (heard_more (g.L.Listener.goes c.loop-unread.listener c.args.listener.now before) (g.L.Listener.broke false c.hear_first-n.new.listener c.args.listener.now before) input
    c.loop-unread.unread c.fill.new.self c.front-bytes.result.now c.consume.new.self _ _ _ c.hear_first-n.result.0
    (heard_kept _ _ _ _ _ _ (c.loop-unread.invariant.going input before e f) c.fill.ensures.kept)
    c.loop-unread.invariant.most (c.front-bytes.ensures ∙ ap (take c.loop-unread.unread) c.ready.ensures) c.hear_first-n.ensures.within c.consume.ensures
    (hears c.args.listener.now before)) (omega arith))

pub returns-in-Err-clause-fails : goal.returns-in-Err-clause-fails
returns-in-Err-clause-fails g c =
    let wrote = rw c.in-Err.is at c.hear_first-n.ensures.err in
    (on_ok_of c.fill.result _ _ c.is_err.ensures.value c.if-is_err.false c.fill.ensures.ok ∙ c.loop-unread.invariant.read, wrote ∙ ap one_more c.loop-unread.invariant.wrote)

pub returns-in-Ok-true-clause-told : goal.returns-in-Ok-true-clause-told
returns-in-Ok-true-clause-told g c = λ input before e f.
    let is = c.in-Ok-true.is in
    let test = c.in-Ok-true.field-0-test in
    let over : c.hear_first-n.result.1 ≡ Ok true = cc in
    inl (heard_some _ _ _ _ _ (heard_more (g.L.Listener.goes c.loop-unread.listener c.args.listener.now before) (g.L.Listener.ended false c.hear_first-n.new.listener c.args.listener.now before) input
    c.loop-unread.unread c.fill.new.self c.front-bytes.result.now c.consume.new.self _ _ _ c.hear_first-n.result.0
    (heard_kept _ _ _ _ _ _ (c.loop-unread.invariant.going input before e f) c.fill.ensures.kept)
    c.loop-unread.invariant.most (c.front-bytes.ensures ∙ ap (take c.loop-unread.unread) c.ready.ensures) c.hear_first-n.ensures.within c.consume.ensures
    (c.hear_first-n.ensures.over over c.args.listener.now before)) (omega arith))

pub loop-unread-preserved : goal.loop-unread-preserved
loop-unread-preserved g c =
    let is = c.in-Ok-false.is in
    let test = c.in-Ok-false.field-0-test in
    let on : c.hear_first-n.result.1 ≡ Ok false = cc in
    let wrote = rw on at c.hear_first-n.ensures.ok in
    record {
      most = omega (arith, c.loop-unread.invariant.most);
      going = λ input before e f.
          heard_more (g.L.Listener.goes c.loop-unread.listener c.args.listener.now before) (g.L.Listener.goes c.hear_first-n.new.listener c.args.listener.now before) input
          c.loop-unread.unread c.fill.new.self c.front-bytes.result.now c.consume.new.self _ _ _ c.hear_first-n.result.0
          (heard_kept _ _ _ _ _ _ (c.loop-unread.invariant.going input before e f) c.fill.ensures.kept)
          c.loop-unread.invariant.most (c.front-bytes.ensures ∙ ap (take c.loop-unread.unread) c.ready.ensures) c.hear_first-n.ensures.within c.consume.ensures
          (c.hear_first-n.ensures.on on c.args.listener.now before);
      read = on_ok_of c.fill.result _ _ c.is_err.ensures.value c.if-is_err.false c.fill.ensures.ok ∙ c.loop-unread.invariant.read;
      wrote = wrote ∙ c.loop-unread.invariant.wrote;
      room = λ short.
          let size = ap length c.consume.ensures in
          let room = on_ok_of c.fill.result _ _ c.is_err.ensures.value c.if-is_err.false c.fill.ensures.room in
          omega (arith, size, room, c.requires.some, c.hear_first-n.ensures.some, length-drop c.hear_first-n.result.0 c.fill.new.self);
    }

pub returns-clause-told : goal.returns-clause-told
returns-clause-told g c = λ input before e f.
    let all : 9223372036854775808 ≡ 9223372036854775808 - c.loop-unread.unread = omega (arith, c.loop-unread-test.false) in
    heard_rest (g.L.Listener.goes c.loop-unread.listener) (λ last. g.L.Listener.ended last c.hear_end-2.new.listener) (λ last. g.L.Listener.broke last c.hear_end-2.new.listener) _
    c.args.listener.now before input _ _ _ _ c.hear_end-2.result (c.loop-unread.invariant.going input before e f) (readable-is input ∙ ap (λ (n : ℕ). take n input) all)
    c.hear_end-2.ensures.over c.hear_end-2.ensures.broken c.hear_end-2.ensures.cause
