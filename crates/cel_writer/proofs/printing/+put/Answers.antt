-- Proof obligations of the functions of the cycle `put` (src/printing.rt).
use Rattle.std.proofs.Common.{◌++◌, ◌∙◌, ℕ, List, ap, string_bytes, true}
use Rattle.cel_writer.proofs.Listing.{entries_end, entries_go, entries_left, list_ends, list_goes, list_left}
use Rattle.cel_writer.proofs.printing.+put.Goals as goal

pub put_all-loop-item-preserved : goal.put_all-loop-item-preserved
put_all-loop-item-preserved t c =
    list_goes c.args.items.now c.loop-item.item-index c.item-item.result c.loop-item.is_first (string_bytes c.loop-item.out) (string_bytes c.push_str.new.self) (string_bytes c.put.new.out)
    (string_bytes c.args.out.now ++ list_left true c.args.items.now) c.loop-item-test.true c.item-item.is
    (c.in_ok-push_str.ensures.bytes ∙ ap (λ (l : List ℕ). string_bytes c.loop-item.out ++ l) c.separator.ensures) c.in_ok-put.ensures c.loop-item.invariant

pub put_all-returns : goal.put_all-returns
put_all-returns t c =
    list_ends c.args.items.now c.loop-item.item-index c.loop-item.is_first (string_bytes c.loop-item.out) (string_bytes c.args.out.now ++ list_left true c.args.items.now)
    c.loop-item-test.false c.loop-item.invariant

pub put_entries-loop-key-preserved : goal.put_entries-loop-key-preserved
put_entries-loop-key-preserved t c =
    entries_go c.args.pairs.now c.loop-key.key-index c.loop-key-item.result c.loop-key.is_first (string_bytes c.loop-key.out) (string_bytes c.push_str.new.self) (string_bytes c.put.new.out)
    (string_bytes c.push_str-in-loop-key.new.self) (string_bytes c.put-in-loop-key.new.out) (string_bytes c.args.out.now ++ entries_left true c.args.pairs.now) c.loop-key-test.true c.loop-key-item.is
    (c.in_ok-push_str.ensures.bytes ∙ ap (λ (l : List ℕ). string_bytes c.loop-key.out ++ l) c.separator.ensures) c.in_ok-put.ensures c.in_ok-push_str-2.ensures.bytes c.in_ok-put-2.ensures c.loop-key.invariant

pub put_entries-returns : goal.put_entries-returns
put_entries-returns t c =
    entries_end c.args.pairs.now c.loop-key.key-index c.loop-key.is_first (string_bytes c.loop-key.out) (string_bytes c.args.out.now ++ entries_left true c.args.pairs.now)
    c.loop-key-test.false c.loop-key.invariant
