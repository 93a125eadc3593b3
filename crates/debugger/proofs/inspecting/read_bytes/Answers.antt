-- Proof obligations of `read_bytes` (src/inspecting.rt).
use Rattle.debugger.proofs.Prelude.{◌≡◌, ◌+◌, ℕ, [], refl, arith, ap, length, ◌∙◌}
use Rattle.debugger.proofs.Shown.{low_all, low_missing, low_more}
use Rattle.debugger.proofs.inspecting.read_bytes.Goals as goal

pub loop-i-init : goal.loop-i-init
loop-i-init g c = record {
  reads = record { words = []; begun = refl; are = c.new-bytes.ensures };
  many = ap length c.new-bytes.ensures;
}

pub returns-in-None-clause-bytes : goal.returns-in-None-clause-bytes
returns-in-None-clause-bytes g c = low_missing _ _ _ c.loop-i.i c.requires.memory (omega (arith, c.loop-i-test.true)) c.requires.elsewhere c.in-None.ensures.missing

pub loop-i-preserved : goal.loop-i-preserved
loop-i-preserved g c = record {
  reads = low_more _ _ _ _ _ _ c.requires.memory c.loop-i.invariant.reads c.in-Some.ensures.found c.push.ensures.items;
  many = c.push.ensures.len ∙ ap (λ (n : ℕ). n + 1) c.loop-i.invariant.many;
}

pub returns-clause-bytes : goal.returns-clause-bytes
returns-clause-bytes g c =
    let all : c.loop-i.i ≡ c.args.n = omega (arith, c.loop-i.auto.i-end, c.loop-i-test.false) in
    low_all _ _ _ _ _ c.requires.memory c.requires.some all c.loop-i.invariant.reads
