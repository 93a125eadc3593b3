-- Proof obligations of `word_across` (src/pages.rt).
use Rattle.guest_memory.proofs.Prelude.{bytes_or_zeros, ◌≡◌, ◌++◌, ◌-◌, ℕ, List, [], ◌∷◌, ◌∙◌, ap, length, take, drop, length-take-le, word_of, size_bytes}
use Rattle.guest_memory.proofs.PagedBytes.{part_whole}
use Rattle.guest_memory.proofs.pages.word_across.Goals as goal

zeros : List ℕ
zeros = 0 ∷ 0 ∷ 0 ∷ 0 ∷ 0 ∷ 0 ∷ 0 ∷ 0 ∷ []

pub returns : goal.returns
unfolding zeros
returns c =
    let count : length (take c.bytes.result zeros) ≡ size_bytes c.args.size = length-take-le c.bytes.result zeros c.bytes.ensures.most ∙ c.bytes.ensures.value in
    c.word_at.ensures
    ∙ ap word_of (part_whole c.gather.new.bytes _ _ _ (c.gather.auto.bytes ∙ count) c.bytes-2.ensures.value)
    ∙ ap word_of (c.gather.ensures ∙ ap (λ n. drop c.args.from (bytes_or_zeros c.args.low.now.bytes) ++ take (n - (256 - c.args.from)) (bytes_or_zeros c.args.high.now.bytes)) count)
