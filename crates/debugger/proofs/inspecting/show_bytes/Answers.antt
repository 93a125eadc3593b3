-- Proof obligations of `show_bytes` (src/inspecting.rt).
use Rattle.debugger.proofs.Prelude.{ℕ, List, Some, None, length, arith, refl, sym, ap, ◌∙◌, rules}
use Rattle.debugger.proofs.Shown.{count_within, row_lent, shows, shows_low}
use Rattle.debugger.proofs.inspecting.show_bytes.Goals as goal

pub memory_lines-requires : goal.memory_lines-requires
memory_lines-requires g c =
    let most = (count_within c.args.n (search rules)).1 in
    let length_is = c.lent_is_bytes.ensures.length_is _ _ _ _ (sym c.in-Some.ensures) in
    omega (arith, most, length_is)

pub memory_lines-requires-in-Some-read_bytes : goal.memory_lines-requires-in-Some-read_bytes
memory_lines-requires-in-Some-read_bytes g c =
    let most = (count_within c.args.n (search rules)).1 in
    let same = ap length c.as_slice.ensures.value in
    omega (arith, most, same, c.in-Some-read_bytes.ensures.length)

pub returns-in-Some : goal.returns-in-Some
returns-in-Some g c = shows _ _ _ _ _ (search rules) (row_lent _ _ _ _ c.requires (count_within c.args.n (search rules)).0 (sym c.in-Some.ensures)) c.memory_lines.ensures

pub returns-in-Some-read_bytes : goal.returns-in-Some-read_bytes
returns-in-Some-read_bytes g c =
    shows_low _ _ _ (Some c.as_slice.result.now) _ (search rules) (ap (λ (t : List ℕ). Some t) c.as_slice.ensures.value ∙ c.in-Some-read_bytes.ensures.bytes) c.memory_lines-in-Some-read_bytes.ensures

pub returns-in-None-read_bytes : goal.returns-in-None-read_bytes
returns-in-None-read_bytes g c = shows_low _ _ _ None _ (search rules) c.in-None-read_bytes.ensures.bytes refl
