-- Proof obligations of `word_at` (src/pages.rt).
use Rattle.guest_memory.proofs.Prelude.{◌+◌, ◌*◌, ◌-◌, ◌/◌, ◌%◌, ◌≡◌, arith, add-one, ap, sym, ◌∙◌, part, word_of, size_bytes, joined}
use Rattle.guest_memory.proofs.PagedBytes.{joined_length, part_pages}
use Rattle.guest_memory.proofs.pages.word_at.Goals as goal

pub word_in-requires-clause-inside : goal.word_in-requires-clause-inside
word_in-requires-clause-inside c = omega (arith, joined_length c.args.pages.now, c.requires, c.bytes.ensures.value, c.bytes.ensures.some)

pub returns-then-from-bytes-le-PAGE_LENGTH : goal.returns-then-from-bytes-le-PAGE_LENGTH
returns-then-from-bytes-le-PAGE_LENGTH c =
    let at : 256 * (c.args.at / 256) + c.args.at % 256 ≡ c.args.at = omega arith in
    c.word_in.ensures ∙ ap (λ place. word_of (part (joined c.args.pages.now) place (size_bytes c.args.size))) at

pub bounds-pages-page : goal.bounds-pages-page
bounds-pages-page c = omega (arith, joined_length c.args.pages.now, c.requires, c.bytes.ensures.value, c.bytes.ensures.some)

pub bounds-pages-page-2 : goal.bounds-pages-page-2
bounds-pages-page-2 c = omega (arith, joined_length c.args.pages.now, c.requires, c.bytes.ensures.value, c.if-from-bytes-le-PAGE_LENGTH.false)

pub returns : goal.returns
returns c =
    let rest = size_bytes c.args.size - (256 - c.args.at % 256) in
    let both = part_pages c.args.pages.now (c.args.at / 256) (c.args.at % 256) rest c.index-pages-page.result c.index-pages-page-2.result
    c.index-pages-page.is (rw (← add-one) c.index-pages-page-2.is)
    (omega (arith, joined_length c.args.pages.now, c.requires, c.bytes.ensures.value, c.if-from-bytes-le-PAGE_LENGTH.false)) (omega arith) (omega (arith, c.bytes.ensures.value, c.bytes.ensures.most)) in
    let at : 256 * (c.args.at / 256) + c.args.at % 256 ≡ c.args.at = omega arith in
    let count : 256 - c.args.at % 256 + rest ≡ size_bytes c.args.size = omega (arith, c.bytes.ensures.value, c.if-from-bytes-le-PAGE_LENGTH.false) in
    c.word_across.ensures ∙ ap word_of (sym both) ∙ (λ i. word_of (part (joined c.args.pages.now) (at i) (count i)))
