-- Proof obligations of `write_line` (src/transfer.rt).
use Rattle.debugger.proofs.Prelude.{[], ◌∷◌, ◌++◌}
use Rattle.debugger.proofs.Parts.{part_between, part_left, whole_behind}
use Rattle.debugger.proofs.transfer.write_line.Goals as goal

pub returns-in_err-write_all-2-clause-part : goal.returns-in_err-write_all-2-clause-part
returns-in_err-write_all-2-clause-part g c =
    part_between _ (g.W.Sink.taken c.args.w.now) (g.W.Sink.taken c.write_all.new.w) (g.W.Sink.taken c.write_all-2.new.w) c.args.head.now c.args.rest.now (10 ∷ []) c.in_ok-write_all.ensures.whole c.in_err-write_all-2.ensures.part

pub returns-clause-whole : goal.returns-clause-whole
returns-clause-whole g c =
    let later = whole_behind c.write_all-3.result (g.W.Sink.taken c.write_all.new.w) (g.W.Sink.taken c.write_all-2.new.w) (g.W.Sink.taken c.write_all-3.new.w) c.args.rest.now (10 ∷ []) c.in_ok-write_all-2.ensures.whole c.write_all-3.ensures.whole in
    whole_behind c.write_all-3.result (g.W.Sink.taken c.args.w.now) (g.W.Sink.taken c.write_all.new.w) (g.W.Sink.taken c.write_all-3.new.w) c.args.head.now (c.args.rest.now ++ 10 ∷ []) c.in_ok-write_all.ensures.whole later

pub returns-clause-part : goal.returns-clause-part
returns-clause-part g c =
    let later = part_left c.write_all-3.result (g.W.Sink.taken c.write_all.new.w) (g.W.Sink.taken c.write_all-2.new.w) (g.W.Sink.taken c.write_all-3.new.w) c.args.rest.now (10 ∷ []) c.in_ok-write_all-2.ensures.whole c.write_all-3.ensures.part in
    part_left c.write_all-3.result (g.W.Sink.taken c.args.w.now) (g.W.Sink.taken c.write_all.new.w) (g.W.Sink.taken c.write_all-3.new.w) c.args.head.now (c.args.rest.now ++ 10 ∷ []) c.in_ok-write_all.ensures.whole later
