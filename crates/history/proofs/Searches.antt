-- Searches of a run for a place where it stops.
use Rattle.history.proofs.Prelude.{◌≡◌, ◌≢◌, ℕ, zero, suc, ◌+◌, ◌-◌, ◌<◌, ◌≤◌, Bool, true, false, true≢false, List, [], length, refl, sym, ap, subst, ◌∙◌, arith, inl, inr, ◌⊎◌, if◌then◌else◌, ◌==◌, ℤ, cases_lt, nat_tests, common_steps, State, is_running, state_after, goes_on, stays_stopped, first_stop, is_at, is_stop, last_stop, FirstIsLeast, IsFirst, IsLast, LastIsGreatest, Reaches}

-- if no place is before another, there is only one
only : (P : ℕ → Type 0) → ((i j : ℕ) → P i → P j → i < j → ⊥) → (x j : ℕ) → P x → (P j → j ≡ x) × (j ≡ x → P j)
only P apart x j here = grind arith

-- of two least places, neither is before the other
first_not_before : (stops : List ℕ) (s : State) (k n i j : ℕ) → IsFirst stops s k n i → IsFirst stops s k n j → i < j → ⊥
first_not_before stops s k n i j one other before = grind arith

first_step : (stops : List ℕ) (s : State) (k n j : ℕ) (here : Bool) → is_stop stops (state_after (k + 1) s) ≡ here → IsFirst stops s (k + 1) (suc n) j
    → IsFirst stops s k (suc (suc n)) (if here then k + 1 else j)
first_step stops s k n j here is later = grind arith

first_last : (stops : List ℕ) (s : State) (k : ℕ) (here : Bool) → IsFirst stops s k 1 (if here then k + 1 else k + 1)
first_last stops s k here = grind arith

first_stop-is : (stops : List ℕ) (s : State) (n k : ℕ) → IsFirst stops s k (suc n) (first_stop stops s k (suc n))
unfolding first_stop
first_stop-is stops s zero k = first_last stops s k (is_stop stops (state_after (k + 1) s))
first_stop-is stops s (suc n) k = first_step stops s k n (first_stop stops s (k + 1) (suc n)) (is_stop stops (state_after (k + 1) s)) refl (first_stop-is stops s n (k + 1))

first_stop-some : (stops : List ℕ) (s : State) (k n : ℕ) → 0 < n → IsFirst stops s k n (first_stop stops s k n)
first_stop-some stops s k zero some = absurd (omega (arith, some))
first_stop-some stops s k (suc n) some = first_stop-is stops s n k

pub first_only : FirstIsLeast
first_only stops s k n j some = grind (arith, only, first_not_before, first_stop-some)

last_step : (stops : List ℕ) (s : State) (k j : ℕ) (here : Bool) → is_at stops (state_after k s).pc ≡ here → IsLast stops s k j → IsLast stops s (suc k) (if here then k else j)
last_step stops s k j here is earlier = grind arith

last_stop-is : (stops : List ℕ) (s : State) (k : ℕ) → IsLast stops s k (last_stop stops s k)
unfolding last_stop
last_stop-is stops s zero = grind arith
last_stop-is stops s (suc k) = last_step stops s k (last_stop stops s k) (is_at stops (state_after k s).pc) refl (last_stop-is stops s k)

pub last_only : LastIsGreatest
last_only stops s k j = grind (arith, nat_tests, last_stop-is)

-- there is no place after k and before j at which the run stops
abbrev pub NoneBefore : List ℕ → State → ℕ → ℕ → Type 0
NoneBefore stops s k j = (i : ℕ) → k < i → i < j → is_stop stops (state_after i s) ≡ false

pub none_first : (stops : List ℕ) (s : State) (k j : ℕ) → j ≡ k + 1 → NoneBefore stops s k j
none_first stops s k j next i after before = grind arith

-- the run continues at j too
pub none_further : (stops : List ℕ) (s t : State) (k j : ℕ) (here : Bool) → NoneBefore stops s k j → t ≡ state_after j s → here ≡ is_stop stops t
    → here ≡ false → NoneBefore stops s k (j + 1)
none_further stops s t k j here none is said goes_on = grind arith

-- the run stops at j, and at no place before
pub found_here : (stops : List ℕ) (s t : State) (k to j : ℕ) → NoneBefore stops s k j → k < j → j < to → t ≡ state_after j s → is_stop stops t ≡ true
    → j ≡ first_stop stops s k (to - k)
found_here stops s t k to j none after before is stops_here = grind (arith, nat_tests, only, first_not_before, first_stop-some)

-- the run stops at no place before the last one
pub found_none : (stops : List ℕ) (s : State) (k to j : ℕ) → NoneBefore stops s k j → k < to → to ≤ j → to ≡ first_stop stops s k (to - k)
found_none stops s k to j none some ends = grind (arith, only, first_not_before, first_stop-some)

-- no place from j on and before k has a `pc` that is one of these slots
abbrev pub NoneFrom : List ℕ → State → ℕ → ℕ → Type 0
NoneFrom stops s j k = (i : ℕ) → j ≤ i → i < k → is_at stops (state_after i s).pc ≡ false

-- no breakpoint from place 0 on
pub found_first : (stops : List ℕ) (s : State) (j k : ℕ) → NoneFrom stops s j k → j ≡ 0 → 0 ≡ last_stop stops s k
found_first stops s j k none start = grind (arith, nat_tests, last_stop-is)

-- without slots there is no breakpoint
at_none : (pc : ℤ) → is_at [] pc ≡ false
unfolding is_at
at_none pc = grind arith

last_of_none : (s : State) (k : ℕ) → 0 ≡ last_stop [] s k
unfolding last_stop
last_of_none s zero = refl
last_of_none s (suc k) = rw (at_none (state_after k s).pc) (last_of_none s k)

-- a list that is not empty, by its length
pub not_empty : {A : Type 0} (xs : List A) (b : Bool) → b ≡ (length xs == 0) → b ≡ false → xs ≡ [] → ⊥
not_empty xs b is said none = true≢false (sym (is ∙ ap (λ ys. length ys == 0) none) ∙ said)

-- without slots the last place is place 0
pub found_empty : (stops : List ℕ) (s : State) (k : ℕ) → (length stops == 0) ≡ true → 0 ≡ last_stop stops s k
found_empty stops s k none = grind (arith, last_of_none, common_steps)

is_stop-stopped : (stops : List ℕ) (t : State) → is_running t.status ≡ false → is_stop stops t ≡ true
unfolding is_stop
is_stop-stopped stops t stopped = grind arith

-- after a stopped state, and at the last place, the next one is the result
pub found_next : (stops : List ℕ) (s : State) (k to : ℕ) → k < to → Reaches s k (to - 1) → k + 1 ≡ first_stop stops s k (to - k)
found_next stops s k to some reaches =
    elim (cases_lt (k + 1) to) [
      | inl before ↦
          let stopped : is_running (state_after k s).status ≡ false = reaches (omega (arith, before)) in
          let same : state_after k s ≡ state_after (k + 1) s = stays_stopped s (state_after k s) k (k + 1) refl stopped (omega arith) in
          let here : is_stop stops (state_after (k + 1) s) ≡ true = ap (is_stop stops) (sym same) ∙ is_stop-stopped stops (state_after k s) stopped in
          found_here stops s (state_after (k + 1) s) k to (k + 1) (none_first stops s k (k + 1) refl) (omega arith) before refl here
      | inr not_before ↦
          let last : to ≡ k + 1 = omega (arith, not_before, some) in
          sym last ∙ found_none stops s k to (k + 1) (none_first stops s k (k + 1) refl) some (omega (arith, last))
    ]

pub last_none : (stops : List ℕ) (s : State) → 0 ≡ last_stop stops s 1
unfolding last_stop
last_none stops s = grind arith

pub last_here_is : (stops : List ℕ) (s t : State) (k : ℕ) (here : Bool) → t ≡ state_after k s → here ≡ is_at stops t.pc → here ≡ true → k ≡ last_stop stops s (k + 1)
unfolding last_stop
last_here_is stops s t k here is said stops_here = grind arith

pub last_stays : (stops : List ℕ) (s t : State) (k j : ℕ) (here : Bool) → t ≡ state_after k s → here ≡ is_at stops t.pc → here ≡ false
    → j ≡ last_stop stops s k → j ≡ last_stop stops s (k + 1)
unfolding last_stop
last_stays stops s t k j here is said goes_on before = grind arith

-- the run is before place k, with a breakpoint there
pub last_stands : (stops : List ℕ) (s t : State) (k n : ℕ) → t ≡ state_after (k - 1) s → is_running t.status ≡ false → k ≤ n → 0 < n
    → is_at stops t.pc ≡ true → n - 1 ≡ last_stop stops s n
last_stands stops s t k n is stopped later some stops_here =
    let same : t ≡ state_after (n - 1) s = stays_stopped s t (k - 1) (n - 1) is stopped (omega (arith, later)) in
    (last_only stops s n (n - 1)).0
    (record {
      before = inl (omega (arith, some));
      none_after = λ i after before. absurd (omega (arith, after, before));
      stops_there = λ _. ap (λ (u : State). is_at stops u.pc) (sym same) ∙ stops_here;
    })

-- the run is before place k, without a breakpoint there
pub last_stands_not : (stops : List ℕ) (s t : State) (k n j : ℕ) → t ≡ state_after (k - 1) s → is_running t.status ≡ false → k ≤ n
    → is_at stops t.pc ≡ false → j ≡ last_stop stops s k → j ≡ last_stop stops s n
last_stands_not stops s t k n j is stopped later goes_on last =
    let earlier : IsLast stops s k j = (last_only stops s k j).1 last in
    (last_only stops s n j).0
    (record {
      before = elim earlier.before [ inl low ↦ inl (omega (arith, low, later)) | inr none ↦ inr none ];
      none_after = λ i after before.
          elim (cases_lt i k) [
            | inl low ↦ earlier.none_after i after low
            | inr not_low ↦
                let same : t ≡ state_after i s = stays_stopped s t (k - 1) i is stopped (omega (arith, not_low)) in
                ap (λ (u : State). is_at stops u.pc) (sym same) ∙ goes_on
          ];
      stops_there = earlier.stops_there;
    })

pub last_low : (stops : List ℕ) (s : State) (n j : ℕ) → 0 < n → j ≡ last_stop stops s n → j < n
last_low stops s n j some last = grind (arith, nat_tests, last_stop-is)

-- there is no stop after the result for the stretch from p to end, nor after end
none_after_last : (stops : List ℕ) (s : State) (p end k j i : ℕ) → NoneFrom stops s end k → IsLast stops (state_after p s) (end - p) j
    → p + j < i → i < k → is_at stops (state_after i s).pc ≡ false
none_after_last stops s p end k j i none last after before =
    elim (cases_lt i end) [
      | inl low ↦
          let same : state_after (i - p) (state_after p s) ≡ state_after i s = goes_on s (state_after p s) p i refl (omega (arith, after)) in
          ap (λ (u : State). is_at stops u.pc) (sym same) ∙ last.none_after (i - p) (omega (arith, after)) (omega (arith, low, after))
      | inr not_low ↦ none i (omega (arith, not_low)) before
    ]

at_begin : (stops : List ℕ) (s t : State) (p j : ℕ) → t ≡ state_after p s → (0 < j) ⊎ (is_at stops t.pc ≡ true)
    → (j ≢ 0 → is_at stops (state_after j t).pc ≡ true) → is_at stops (state_after (p + j) s).pc ≡ true
at_begin stops s t p j is found stops_there =
    let whole : p + j - p ≡ j = omega arith in
    let same : state_after j t ≡ state_after (p + j) s = ap (λ (i : ℕ). state_after i t) (sym whole) ∙ goes_on s t p (p + j) is (omega arith) in
    elim (cases_lt 0 j) [
      | inl some ↦ ap (λ (u : State). is_at stops u.pc) (sym same) ∙ stops_there (λ none. absurd (omega (arith, none, some)))
      | inr not_some ↦
          elim found [
            | inl some ↦ absurd (omega (arith, not_some, some))
            | inr begin ↦
                let none : p ≡ p + j = omega (arith, not_some) in
                ap (λ (i : ℕ). is_at stops (state_after i s).pc) (sym none) ∙ ap (λ (u : State). is_at stops u.pc) (sym is) ∙ begin
          ]
    ]

-- a stretch of the run from the state at place p to place end, which is at most k
pub record IsStretch (s t : State) (p end k : ℕ) : Type 0 where
  pub is : t ≡ state_after p s
  pub some : p < end
  pub within : end ≤ k

-- the result for a stretch with a breakpoint in it and none after it
pub found_in_stretch : (stops : List ℕ) (s t : State) (p end k j : ℕ) → IsStretch s t p end k → NoneFrom stops s end k
    → j ≡ last_stop stops t (end - p) → (0 < j) ⊎ (is_at stops t.pc ≡ true) → p + j ≡ last_stop stops s k
found_in_stretch stops s t p end k j stretch none answer found =
    let is = stretch.is in
    let some = stretch.some in
    let within = stretch.within in
    let last : IsLast stops t (end - p) j = (last_only stops t (end - p) j).1 answer in
    let low : j < end - p = last_low stops t (end - p) j (omega (arith, some)) answer in
    (last_only stops s k (p + j)).0
    (record {
      before = inl (omega (arith, low, within));
      none_after = λ i after before. none_after_last stops s p end k j i none (subst (λ (u : State). IsLast stops u (end - p) j) is last) after before;
      stops_there = λ _. at_begin stops s t p j is found last.stops_there;
    })

-- a stretch without a breakpoint
pub none_in_stretch : (stops : List ℕ) (s t : State) (p end k : ℕ) → t ≡ state_after p s → NoneFrom stops s end k
    → 0 ≡ last_stop stops t (end - p) → is_at stops t.pc ≡ false → NoneFrom stops s p k
none_in_stretch stops s t p end k is none answer goes_on i behind before =
    let last : IsLast stops t (end - p) 0 = (last_only stops t (end - p) 0).1 answer in
    elim (cases_lt p i) [
      | inl after ↦ none_after_last stops s p end k 0 i none (subst (λ (u : State). IsLast stops u (end - p) 0) is last) (omega (arith, after)) before
      | inr not_after ↦
          let same : i ≡ p = omega (arith, behind, not_after) in
          ap (λ (m : ℕ). is_at stops (state_after m s).pc) same ∙ ap (λ (u : State). is_at stops u.pc) (sym is) ∙ goes_on
    ]
