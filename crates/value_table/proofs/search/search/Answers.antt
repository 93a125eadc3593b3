-- Proofs of `search::search`: the result meets the contract; each turn of the loop keeps the invariant; its calls
-- meet their requirements.

use Rattle.value_table.proofs.Prelude.{◌≡◌, ◌+◌, ◌-◌, ◌/◌, ◌<◌, [], length, get_or, sym, ap, ◌∙◌, Some, arith, length-map, get_or-map, exact_bytes, slice_get-get_or, part_of, texts_of}
use Rattle.value_table.proofs.Walks.{text_here}
use Rattle.value_table.proofs.Searches.{above_all, below_all}
use Rattle.value_table.proofs.search.search.Goals as goal

pub text-requires : goal.text-requires
text-requires c = text_here c.args.bytes.now c.args.keys.now _ _ c.requires.texts (omega arith)

pub returns-in-Equal : goal.returns-in-Equal
returns-in-Equal c =
    let m = c.loop-from.from + (c.loop-from.to - c.loop-from.from) / 2 in
    let keys = c.args.keys.now in
    let ts = texts_of c.args.bytes.now keys in
    let lt : m < length keys = omega arith in
    let lts : m < length ts = omega (arith, length-map keys (part_of c.args.bytes.now)) in
    let is : c.text.result.now ≡ get_or ts m [] = c.text.ensures ∙ sym (get_or-map (part_of c.args.bytes.now) keys m _ [] lt) in
    let same = exact_bytes c.args.key.now c.text.result.now (sym c.cmp.ensures ∙ c.in-Equal.is) in
    record { inside = lts; is = slice_get-get_or ts m [] lts ∙ ap (λ t. Some t) (sym (same ∙ is)) }

pub loop-from-preserved-in-Less : goal.loop-from-preserved-in-Less
loop-from-preserved-in-Less c =
    let m = c.loop-from.from + (c.loop-from.to - c.loop-from.from) / 2 in
    let keys = c.args.keys.now in
    let ts = texts_of c.args.bytes.now keys in
    let lt : m < length keys = omega arith in
    let n = length-map keys (part_of c.args.bytes.now) in
    let is : c.text.result.now ≡ get_or ts m [] = c.text.ensures ∙ sym (get_or-map (part_of c.args.bytes.now) keys m _ [] lt) in
    grind (arith, below_all)

pub loop-from-preserved : goal.loop-from-preserved
loop-from-preserved c =
    let m = c.loop-from.from + (c.loop-from.to - c.loop-from.from) / 2 in
    let keys = c.args.keys.now in
    let ts = texts_of c.args.bytes.now keys in
    let lt : m < length keys = omega arith in
    let is : c.text.result.now ≡ get_or ts m [] = c.text.ensures ∙ sym (get_or-map (part_of c.args.bytes.now) keys m _ [] lt) in
    grind (arith, above_all, length-map)
