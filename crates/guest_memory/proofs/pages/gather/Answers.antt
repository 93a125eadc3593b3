-- Proof obligations of `gather` (src/pages.rt).
use Rattle.guest_memory.proofs.Prelude.{bytes_or_zeros, ◌≡◌, ◌-◌, ◌≤◌, ◌++◌, length, drop, take, ap, arith, length-drop, take_all}
use Rattle.guest_memory.proofs.pages.gather.Goals as goal

pub returns : goal.returns
returns c =
    let l = c.split_at_mut-front.ensures.back_len in
    let most : length (drop c.args.from (bytes_or_zeros c.args.low.now.bytes)) ≤ 256 - c.args.from = let f = c.args.low.now.full in let d = length-drop c.args.from (bytes_or_zeros c.args.low.now.bytes) in omega arith in
    let rest : length c.split_at_mut-front.result.1.now ≡ length c.args.bytes.now - (256 - c.args.from) = omega arith in
    rw (c.copy_from_slice.ensures.after, c.copy_from_slice-2.ensures.after, c.whole-first.ensures, c.whole-second.ensures, take_all _ _ most) (ap (λ n. drop c.args.from (bytes_or_zeros c.args.low.now.bytes) ++ take n (bytes_or_zeros c.args.high.now.bytes)) rest)
