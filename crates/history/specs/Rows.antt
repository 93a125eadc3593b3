-- Searches of two short programs, worked out by hand.
use Rattle.std.specs.Prelude.{◌≡◌, ℕ, true, false, pos, negsuc, List, [], ◌∷◌}
use Rattle.bpf_machine.specs.Rows.{start_of}
use Rattle.bpf_machine.specs.State.{State}
use Rattle.bpf_machine.specs.Trace.{state_after}
use Rattle.history.specs.Search.{is_at, is_stop, first_stop, last_stop}

-- ja +0; ja +0; ja -2: `pc` is 0, 1, 2, 1, 2, 1 and so on
abbrev pub looping : State
looping = start_of
    (5 ∷ 0 ∷ 0 ∷ 0 ∷ 0 ∷ 0 ∷ 0 ∷ 0 ∷ 5 ∷ 0 ∷ 0 ∷ 0 ∷ 0 ∷ 0 ∷ 0 ∷ 0 ∷ 5 ∷ 0 ∷ 0xfe ∷ 0xff ∷ 0 ∷ 0 ∷ 0 ∷ 0 ∷ [])

-- ja +0; exit: `pc` is 0, 1 and, after the exit, 1
abbrev pub exiting : State
exiting = start_of (5 ∷ 0 ∷ 0 ∷ 0 ∷ 0 ∷ 0 ∷ 0 ∷ 0 ∷ 0x95 ∷ 0 ∷ 0 ∷ 0 ∷ 0 ∷ 0 ∷ 0 ∷ 0 ∷ [])

-- searches with their results
pub record SearchRowsStand : Type 0 where
  pub at_its_slot : is_at (2 ∷ []) (pos 2) ≡ true
  pub at_another_slot : is_at (2 ∷ []) (pos 1) ≡ false
  pub at_one_of_two : is_at (3 ∷ 2 ∷ []) (pos 2) ≡ true
  pub at_none : is_at [] (pos 0) ≡ false
  -- `pc` is -1, before the code
  pub before_the_code : is_at (0 ∷ 1 ∷ []) (negsuc 0) ≡ false
  pub runs_on : is_stop [] looping ≡ false
  pub at_breakpoint : is_stop (0 ∷ []) looping ≡ true
  pub behind_breakpoint : is_stop (0 ∷ []) (state_after 1 looping) ≡ false
  pub runs_to_exit : is_stop [] (state_after 1 exiting) ≡ false
  pub has_exited : is_stop [] (state_after 2 exiting) ≡ true
  -- forward: the place that is shown does not count, and the last place is the result if there is no stop
  pub first : first_stop (2 ∷ []) looping 0 5 ≡ 2
  pub first_behind_its_own : first_stop (1 ∷ []) looping 1 5 ≡ 3
  pub first_of_two : first_stop (2 ∷ 1 ∷ []) looping 0 5 ≡ 1
  pub first_at_the_end : first_stop (1 ∷ []) looping 1 2 ≡ 3
  pub first_too_far : first_stop (2 ∷ []) looping 0 1 ≡ 1
  pub no_first : first_stop (7 ∷ []) looping 0 4 ≡ 4
  pub nowhere_to_go : first_stop (2 ∷ []) looping 1 0 ≡ 1
  pub first_is_exit : first_stop [] exiting 0 9 ≡ 2
  pub first_before_exit : first_stop (1 ∷ []) exiting 0 9 ≡ 1
  -- backward: place 0 is the result if there is no stop
  pub last : last_stop (1 ∷ []) looping 5 ≡ 3
  pub last_at_once : last_stop (2 ∷ []) looping 5 ≡ 4
  pub last_before_its_own : last_stop (1 ∷ []) looping 3 ≡ 1
  pub last_is_the_start : last_stop (0 ∷ []) looping 5 ≡ 0
  pub no_last : last_stop (7 ∷ []) looping 5 ≡ 0
  pub no_last_yet : last_stop (1 ∷ []) looping 1 ≡ 0
  pub from_the_start : last_stop (0 ∷ []) looping 0 ≡ 0
  pub last_where_it_exited : last_stop (1 ∷ []) exiting 9 ≡ 8
