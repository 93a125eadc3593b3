-- Proof obligations of `put_across` (src/pages.rt).
use Rattle.guest_memory.proofs.Prelude.{◌<◌, suc, ℕ, List, length, arith, add-one, ◌∙◌, ap, refl, overlay}
use Rattle.guest_memory.proofs.PagedBytes.{joined_two}
use Rattle.guest_memory.proofs.pages.put_across.Goals as goal

pub returns-clause-ok : goal.returns-clause-ok
returns-clause-ok c =
    let a = c.in_ok-put.ensures.ok ∙ ap (λ (xs : List ℕ). overlay xs c.args.from c.split_at.result.0.now) c.in_ok-low.ensures.cases in
    let b = c.in_ok-put-2.ensures.ok ∙ ap (λ (xs : List ℕ). overlay xs 0 c.split_at.result.1.now) c.in_ok-high.ensures.cases in
    let two : suc c.args.page < length c.args.pages.now = omega (arith, c.requires.inside) in
    let f = c.split_at.ensures.front_len in
    let g = c.split_at.ensures.back_len in
    rw (c.split_at.ensures.by_index.0, add-one)
    (joined_two c.args.pages.now c.args.page c.args.from c.index-pages-page.result c.index-pages-page-2.result c.put.new.self c.put-2.new.self c.split_at.result.0.now c.split_at.result.1.now
    two (record { to_end = omega (arith, c.requires.first); short = omega (arith, c.requires.most); low_is = a; high_is = rw add-one at b }))
