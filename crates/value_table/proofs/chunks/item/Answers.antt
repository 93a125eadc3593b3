-- Proofs of `chunks::item`: the result meets the contract.

use Rattle.value_table.proofs.Prelude.{◌*◌, ◌/◌, ◌%◌, length, arith, get_or-append_right, slice_get-get_or, joined}
use Rattle.value_table.proofs.Chunked.{length_joined, item_at}
use Rattle.value_table.proofs.chunks.item.Goals as goal

pub returns-then-chunk-full-clause-value : goal.returns-then-chunk-full-clause-value
returns-then-chunk-full-clause-value g c =
    let full = c.args.full.now in
    let last = c.args.last.now in
    let r = c.index-items-place.result in
    let there = item_at full last (c.args.place / 256) (c.args.place % 256) c.args.place c.index-full-chunk.result r
    c.requires.chunks.full (record { chunk = omega arith; inside = omega arith; is = omega arith }) in
    grind (arith, slice_get-get_or)

pub returns-clause-value : goal.returns-clause-value
returns-clause-value g c =
    let full = c.args.full.now in
    let last = c.args.last.now in
    let r = c.index-last-behind.result in
    let long = length_joined full c.requires.chunks.full in
    let behind = get_or-append_right (joined full) last (256 * length full) c.args.place r long (omega arith) in
    grind (arith, slice_get-get_or)
