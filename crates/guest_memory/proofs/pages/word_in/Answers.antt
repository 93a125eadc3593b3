-- Proof obligations of `word_in` (src/pages.rt).
use Rattle.guest_memory.proofs.Prelude.{bytes_or_zeros, ◌+◌, ◌*◌, ap, sym, ◌∙◌, refl, part, word_of, size_bytes, Page}
use Rattle.guest_memory.proofs.PagedBytes.{part_one}
use Rattle.guest_memory.proofs.pages.word_in.Goals as goal

pub returns : goal.returns
returns c =
    c.word_at.ensures
    ∙ ap (λ (p : Page). word_of (part (bytes_or_zeros p.bytes) c.args.from (size_bytes c.args.size))) c.index-pages-page.is
    ∙ ap word_of (sym (part_one c.args.pages.now c.args.page (size_bytes c.args.size) c.args.from (256 * c.args.page + c.args.from) c.index-pages-page.result c.requires.inside c.requires.within refl))
