-- Proof obligations of `put_word` (src/pages.rt).
use Rattle.guest_memory.proofs.Prelude.{arith}
use Rattle.guest_memory.proofs.PagedBytes.{joined_length}
use Rattle.guest_memory.proofs.pages.put_word.Goals as goal

pub put_in-requires-clause-inside : goal.put_in-requires-clause-inside
put_in-requires-clause-inside c = omega (arith, joined_length c.args.pages.now, c.requires, c.bytes.ensures.value, c.bytes.ensures.some)

pub put_across-requires-clause-inside : goal.put_across-requires-clause-inside
put_across-requires-clause-inside c = omega (arith, joined_length c.args.pages.now, c.requires, c.bytes.ensures.value, c.if-from-bytes-le-PAGE_LENGTH.false)
