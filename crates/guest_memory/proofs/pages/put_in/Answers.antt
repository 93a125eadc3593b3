-- Proof obligations of `put_in` (src/pages.rt).
use Rattle.guest_memory.proofs.Prelude.{rules, ◌+◌, ◌*◌, arith, refl, size_bytes}
use Rattle.guest_memory.proofs.Bytes.{length_low}
use Rattle.guest_memory.proofs.PagedBytes.{joined_one, joined_kept}
use Rattle.guest_memory.proofs.pages.put_in.Goals as goal

pub returns-in_err-put_word-clause-err : goal.returns-in_err-put_word-clause-err
returns-in_err-put_word-clause-err c =
    let h = joined_kept c.args.pages.now c.args.page c.index-pages-page.result c.put_word.new.self c.requires.inside c.in_err-put_word.ensures.err in
    search rules

pub returns-clause-ok : goal.returns-clause-ok
returns-clause-ok c =
    joined_one c.args.pages.now c.args.page c.args.from (256 * c.args.page + c.args.from) c.index-pages-page.result c.put_word.new.self _
    c.requires.inside (omega (arith, length_low (size_bytes c.args.size) c.args.word, c.requires.within)) refl c.in_ok-put_word.ensures.ok
