-- The ends of runs within limits.
use Rattle.std.proofs.Common.{◌≡◌, ℕ, ◌<◌, ◌≤◌, Bool, true, false, ◌&&◌, nat_lt, refl, sym, ap, subst, ◌∙◌, arith, true≢false}
use Rattle.std.proofs.lemmas.Bool.{le-leb, leb-false, leb-true}
use Rattle.std.proofs.Math.Nat.{min-le_right}
use Rattle.std.proofs.lemmas.Bool.Decides.{nat_tests}
use Rattle.value_store.specs.Plain.{saturated}
use Rattle.bpf_machine.specs.Laws.{is_running-true, is_running-false, stays_stopped, state_after-stop}
use Rattle.bpf_machine.specs.Reads.{is_within, limited_place, no_limit, reads_to, IsLimitedStop, LimitedStopsOnce, NoLimitIsRun}
use Rattle.bpf_machine.specs.State.{State}
use Rattle.bpf_machine.specs.Step.{is_running}
use Rattle.bpf_machine.specs.Trace.{state_after, IsStop, StopsOnce}
use Rattle.bpf_machine.specs.declared.status.Status.{Status, TheVariants.Running, TheVariants.Exited, TheVariants.Fault}
use Rattle.admission.specs.Endings.{IsAt, OutOfStepsOnly, OutOfReadsOnly, StoppedOnly, NoLimitOfReads, GreaterLimitDecides}
use Rattle.admission.specs.Standing.{has_stopped, out_of_steps, out_of_reads, ending_by}

-- ---- what an end says

steps_out : (t : Status) (left : Bool) → ending_by t left ≡ out_of_steps → (t ≡ Running) × (left ≡ false)
steps_out Running true e = absurd (cc)
steps_out Running false e = (refl, refl)
steps_out (Exited w) left e = absurd (cc)
steps_out (Fault f) left e = absurd (cc)

reads_out : (t : Status) (left : Bool) → ending_by t left ≡ out_of_reads → (t ≡ Running) × (left ≡ true)
reads_out Running true e = (refl, refl)
reads_out Running false e = absurd (cc)
reads_out (Exited w) left e = absurd (cc)
reads_out (Fault f) left e = absurd (cc)

stopped_by : (t u : Status) (left : Bool) → ending_by t left ≡ has_stopped u → (t ≡ u) × (is_running t ≡ false)
stopped_by Running u true e = absurd (cc)
stopped_by Running u false e = absurd (cc)
stopped_by (Exited w) u left e = (cc, refl)
stopped_by (Fault f) u left e = (cc, refl)

stopped_end : (t : Status) (left : Bool) → is_running t ≡ false → ending_by t left ≡ has_stopped t
stopped_end Running left e = absurd (true≢false e)
stopped_end (Exited w) left e = refl
stopped_end (Fault f) left e = refl

-- ---- tests

below : (m n : ℕ) → m < n → nat_lt m n ≡ true
below m n h = grind (arith, nat_tests)

not_below : (m n : ℕ) → n ≤ m → nat_lt m n ≡ false
not_below m n h = grind (arith, nat_tests)

pub is_below : (m n : ℕ) → nat_lt m n ≡ true → m < n
is_below m n e = grind (arith, nat_tests)

pub is_not_below : (m n : ℕ) → nat_lt m n ≡ false → n ≤ m
is_not_below m n e = grind (arith, nat_tests)

-- what passes a limit is at most the greatest word
pub below_limit : (limit read : ℕ) → is_within limit read ≡ false → limit < no_limit
below_limit limit read e = let f = leb-false (saturated read) limit e in omega (arith, f, min-le_right read no_limit)

pub of_and : (a b : Bool) → (a && b) ≡ true → a ≡ true
of_and true b e = refl
of_and false b e = e

pub not_and : (a : Bool) (status : Status) → (a && is_running status) ≡ false → status ≡ Running → a ≡ false
not_and a Running e runs = grind arith
not_and a (Exited w) e runs = absurd (cc)
not_and a (Fault f) e runs = absurd (cc)

-- ---- places

-- a state that runs was reached by states that run
ran_by : (s : State) (k n : ℕ) (runs : Bool) → is_running (state_after k s).status ≡ runs → k < n → (state_after n s).status ≡ Running
    → (state_after k s).status ≡ Running
ran_by s k n true e h at = is_running-true (state_after k s).status e
ran_by s k n false e h at =
    let same : state_after k s ≡ state_after n s = stays_stopped s (state_after k s) k n refl e (omega (arith, h)) in
    ap (λ (t : State). t.status) same ∙ at

ran : (s : State) (k n : ℕ) → k < n → (state_after n s).status ≡ Running → (state_after k s).status ≡ Running
ran s k n h at = ran_by s k n (is_running (state_after k s).status) refl h at

module _ (once : LimitedStopsOnce) where
  stop : (s : State) (n limit : ℕ) → IsLimitedStop s n limit (limited_place n limit s)
  stop s n limit = (once s n limit (limited_place n limit s)).1 refl

  pub out_of_steps_only : OutOfStepsOnly
  out_of_steps_only s l = (
    λ e.
        let p = steps_out (state_after (limited_place l.steps l.reads s) s).status (nat_lt (limited_place l.steps l.reads s) l.steps) e in
        let at = stop s l.steps l.reads in
        let same : limited_place l.steps l.reads s ≡ l.steps = omega (arith, at.at_most, is_not_below _ _ p.1) in
        let here : IsAt s l.reads (limited_place l.steps l.reads s) = record { runs = p.0; within = at.within } in
        subst (λ (m : ℕ). IsAt s l.reads m) same here,
    λ at.
        let same : l.steps ≡ limited_place l.steps l.reads s = (once s l.steps l.reads l.steps).0
        (record { at_most = omega arith; running = λ k before. ran s k l.steps before at.runs; within = at.within; ends = λ before runs. absurd (omega (arith, before)) }) in
        subst (λ (m : ℕ). ending_by (state_after m s).status (nat_lt m l.steps) ≡ out_of_steps) same
        (λ i. ending_by (at.runs i) (not_below l.steps l.steps (omega arith) i)),
  )

  pub out_of_reads_only : OutOfReadsOnly
  out_of_reads_only s l = (
    λ e.
        let p = reads_out (state_after (limited_place l.steps l.reads s) s).status (nat_lt (limited_place l.steps l.reads s) l.steps) e in
        let at = stop s l.steps l.reads in
        let before : limited_place l.steps l.reads s < l.steps = is_below _ _ p.1 in
        record {
          place = limited_place l.steps l.reads s;
          before = before;
          at = record { runs = p.0; within = at.within };
          beyond = at.ends before p.0;
        },
    λ held.
        let same : held.place ≡ limited_place l.steps l.reads s = (once s l.steps l.reads held.place).0
        (record { at_most = omega (arith, held.before); running = λ k before. ran s k held.place before held.at.runs; within = held.at.within; ends = λ before runs. held.beyond }) in
        subst (λ (m : ℕ). ending_by (state_after m s).status (nat_lt m l.steps) ≡ out_of_reads) same
        (λ i. ending_by (held.at.runs i) (below held.place l.steps held.before i)),
  )

  pub stopped_only : StoppedOnly
  stopped_only s l status = (
    λ e.
        let p = stopped_by (state_after (limited_place l.steps l.reads s) s).status status (nat_lt (limited_place l.steps l.reads s) l.steps) e in
        let at = stop s l.steps l.reads in
        record {
          place = limited_place l.steps l.reads s;
          at_most = at.at_most;
          running = at.running;
          status_is = p.0;
          stopped = ap is_running (sym p.0) ∙ p.1;
          within = at.within;
        },
    λ by.
        let same : by.place ≡ limited_place l.steps l.reads s = (once s l.steps l.reads by.place).0
        (record {
          at_most = by.at_most;
          running = by.running;
          within = by.within;
          ends = λ before runs. absurd (true≢false (sym (ap is_running runs) ∙ (ap is_running by.status_is ∙ by.stopped)));
        }) in
        subst (λ (m : ℕ). ending_by (state_after m s).status (nat_lt m l.steps) ≡ has_stopped status) same
        ((λ i. ending_by (by.status_is i) (nat_lt by.place l.steps)) ∙ stopped_end status (nat_lt by.place l.steps) by.stopped),
  )

one_end : (t : Status) → is_running t ≡ false → ending_by t true ≡ ending_by t false
one_end t stopped = stopped_end t true stopped ∙ sym (stopped_end t false stopped)

unlimited_by : (s : State) (n k : ℕ) (left : Bool) → nat_lt k n ≡ left → IsStop s n k → ending_by (state_after k s).status left ≡ ending_by (state_after n s).status false
unlimited_by s n k true e stop =
    one_end (state_after k s).status (is_running-false _ (stop.stopped (is_below k n e)))
    ∙ ap (λ (u : State). ending_by u.status false) (sym (state_after-stop s n k stop))
unlimited_by s n k false e stop = ap (λ (u : State). ending_by u.status false) (sym (state_after-stop s n k stop))

pub no_limit_of_reads : NoLimitIsRun → StopsOnce → NoLimitOfReads
no_limit_of_reads is_run stops s n =
    let stop : IsStop s n (limited_place n no_limit s) = (stops s n (limited_place n no_limit s)).1 (is_run s n) in
    unlimited_by s n (limited_place n no_limit s) (nat_lt (limited_place n no_limit s) n) refl stop

wider : (low high r : ℕ) → low ≤ high → is_within low r ≡ true → is_within high r ≡ true
wider low high r h e = le-leb (saturated r) high (let f = leb-true (saturated r) low e in omega (arith, f, h))

pub greater_decides : LimitedStopsOnce → GreaterLimitDecides
greater_decides once s n low high h other =
    let at = (once s n low (limited_place n low s)).1 refl in
    let same : limited_place n low s ≡ limited_place n high s = (once s n high (limited_place n low s)).0
    (record {
      at_most = at.at_most;
      running = at.running;
      within = wider low high (reads_to (limited_place n low s) s) h at.within;
      ends = λ before runs. absurd (other (λ i. ending_by (runs i) (below (limited_place n low s) n before i)));
    }) in
    ap (λ (m : ℕ). ending_by (state_after m s).status (nat_lt m n)) (sym same)
