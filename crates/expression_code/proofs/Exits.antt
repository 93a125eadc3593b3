-- Code that reaches an exit.
use Rattle.expression_code.proofs.Prelude.{◌≡◌, ℕ, ◌+◌, ◌<◌, refl, sym, ap, ◌∙◌, subst, arith, [], Some, pos, Exit, R0, fetched, state_after-more, stays_stopped, State, is_running, next_state, state_after, Exited, CpuState, at, RunContext, RunEnds, Faulted, Arrived, RunsToExit, ExitsOrRunsOut, OutOfBudget, LeavesByExit, pending}
use Rattle.expression_code.proofs.Effects.{does, exit_ends}
use Rattle.expression_code.proofs.FirstUses.{uses-pending}

module _ (s : RunContext) (n x p q m k : ℕ) (b : CpuState) (Q : CpuState → Type 0) where
  ends_halt : RunEnds s n x b b.records q Q k (state_after k (at s.image p b)) → fetched s.image.code (pos q) ≡ Some (Some Exit) → ((b1 : CpuState) → Q b1 → b1.records ≡ []) → n + pending s.variables (λ v. v.steps) b.memory.scratch < m → ExitsOrRunsOut s x b Q (state_after m (at s.image p b))
  ends_halt (Faulted calls e frames f l o) here none more =
      let start = at s.image p b in
      let most = uses-pending s.image s.variables (λ v. v.steps) b.memory.scratch (state_after k start).memory.scratch calls in
      subst (ExitsOrRunsOut s x b Q) (stays_stopped start (state_after k start) k m refl (ap is_running e) (omega arith)) (OutOfBudget calls e frames f o)
  ends_halt (Arrived b1 e frames f l o fact) here none more =
      let start = at s.image p b in
      let most = uses-pending s.image s.variables (λ v. v.steps) b.memory.scratch b1.memory.scratch [] in
      let last = record (at s.image q b1) { status = Exited (b1.registers R0) } in
      let exits : next_state (at s.image q b1) ≡ last = does s.image q b1 Exit here ∙ exit_ends s.image q b1 (none b1 fact) in
      let then_exits : state_after (k + 1) start ≡ last = state_after-more k start ∙ ap next_state e ∙ exits in
      let same : state_after (k + 1) start ≡ state_after m start = stays_stopped start (state_after (k + 1) start) (k + 1) m refl (ap (λ (t : State). is_running t.status) then_exits) (omega arith) in
      LeavesByExit q b1 (sym same ∙ then_exits) f o fact

pub comes_to_exit : RunsToExit
comes_to_exit s n x p q m b Q c here none more = ends_halt s n x p q m c.steps b Q c.ends here none more
