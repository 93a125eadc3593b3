-- The sizes that every state of a run has.
use Rattle.debugger.proofs.Prelude.{◌≡◌, ℕ, zero, suc, ◌/◌, Bool, length, Option, Some, Result, Ok, Err, ℤ, refl, ap, arith, length-append, length-drop, nat_lt, if◌then◌else◌, nat_tests, length-take-le, write_of, Memory, start_memory, low_bytes, CallEnd, Insn, Jump, JumpLong, Call, CallLocal, Exit, Load, LoadSigned, StoreImm, Store, Atomic, AtomicOp, Register, Width, Image, load_row, load_signed_row, load_wide_row, loaded, store_row, stored, alu_row, byte_swap_row, neg_row, sign_extend_row, atomic_row, exchanged, taken_and_stored, taken_by, where_stores, fetched, answered, call_row, branch_row, call_local_row, called, exit_row, jump_row, newest, returned, jumped, next_slot, stopped_by, State, start_state, by_status, executed, next_state, stepped, state_after, Frame, Status, Running, HasRegions, IsSized, StaysSized}
use Rattle.std.proofs.lemmas.List.{length-take}
use Rattle.guest_memory.specs.declared.fault.Fault as fault
use Rattle.guest_memory.specs.declared.size.Size as memory
use Rattle.value_store.specs.Placing as store
use Rattle.debugger.proofs.Quit.{either}
use Rattle.debugger.proofs.Shown.{Says}

-- ---- memory

length-low_bytes : (n word : ℕ) → length (low_bytes n word) ≡ n
length-low_bytes zero word = refl
length-low_bytes (suc n) word = ap suc (length-low_bytes n (word / 256))

write_sized : (m after : Memory) (address word : ℕ) (size : memory.Size) → HasRegions m → write_of m address size word ≡ Ok after → HasRegions after
unfolding write_of Says
write_sized m after address word size has e = grind (arith, nat_tests, length-low_bytes, length-append, length-drop, length-take-le)

-- ---- rows

module _ (s : State) (is : IsSized s) where
  loaded_sized : (dst : Register) (extend : ℕ → ℕ) (r : Result ℕ fault.Fault) → IsSized (loaded dst extend r s)
  loaded_sized dst extend r = grind arith

  stored_sized : (r : Result Memory fault.Fault) → ((m : Memory) → r ≡ Ok m → HasRegions m) → IsSized (stored r s)
  stored_sized r kept = grind arith

  answered_sized : (e : CallEnd) → IsSized (answered e s)
  answered_sized e = grind arith

  called_sized : (offset : ℤ) (b : Bool) → nat_lt (length s.records) 7 ≡ b → IsSized (if b then jumped offset (called s) else stopped_by fault.TheVariants.F7 s)
  called_sized offset b room = grind (arith, nat_tests, length-append)

  returned_sized : (o : Option Frame) → IsSized (returned o s)
  returned_sized o = grind (arith, nat_tests, length-take)

  taken_sized : (o : Option Register) (old : ℕ) (r : Result Memory fault.Fault) → ((m : Memory) → r ≡ Ok m → HasRegions m) → IsSized (taken_and_stored o old r s)
  taken_sized o old r kept = grind arith

  untaken_sized : (o : Option Register) (old : ℕ) → IsSized (next_slot (taken_by o old s))
  untaken_sized o old = grind arith

  exchanged_sized : (op : AtomicOp) (width : Width) (src : Register) (place : ℕ) (r : Result ℕ fault.Fault) → IsSized (exchanged op width src place r s)
  exchanged_sized op width src place (Ok old) = either IsSized _ _ _ (taken_sized _ _ _ (λ m e. write_sized s.memory m _ _ _ is.regions e)) (untaken_sized _ _)
  exchanged_sized op width src place (Err f) = is

  where_sized : (r : Result (Unit {0}) fault.Fault) (after : State) → IsSized after → IsSized (where_stores r after s)
  where_sized r after kept = grind arith

  executed_sized : (i : Insn) → IsSized (executed i s)
  unfolding alu_row neg_row sign_extend_row byte_swap_row jump_row branch_row call_row call_local_row exit_row load_row load_signed_row store_row atomic_row load_wide_row
  executed_sized (Jump offset) = is
  executed_sized (JumpLong offset) = is
  executed_sized (Call helper) = answered_sized _
  executed_sized (CallLocal offset) = called_sized offset _ refl
  executed_sized Exit = returned_sized (newest s.records)
  executed_sized (Load size dst src offset) = either IsSized _ _ _ is (loaded_sized dst _ _)
  executed_sized (LoadSigned size dst src offset) = either IsSized _ _ _ is (loaded_sized dst _ _)
  executed_sized (StoreImm size dst offset imm) = stored_sized _ (λ m e. write_sized s.memory m _ _ _ is.regions e)
  executed_sized (Store size dst offset src) = stored_sized _ (λ m e. write_sized s.memory m _ _ _ is.regions e)
  executed_sized (Atomic op width dst offset src) = either IsSized _ _ _ is (where_sized _ _ (exchanged_sized op width src _ _))
  executed_sized _ = either IsSized _ _ _ is is

  stepped_sized : (o : Option (Option Insn)) → IsSized (stepped o s)
  stepped_sized (Some (Some i)) = executed_sized i
  stepped_sized _ = is

  status_sized : (status : Status) → IsSized (by_status status s)
  status_sized Running = stepped_sized (fetched s.image.code s.pc)
  status_sized _ = is

  next_sized : IsSized (next_state s)
  unfolding next_state
  next_sized = status_sized s.status

-- ---- runs

start_sized : (image : Image) (values : store.Contents) → IsSized (start_state image values)
unfolding start_state start_memory
start_sized image values = grind arith

run_sized : (s : State) → IsSized s → StaysSized s
unfolding state_after
run_sized s is zero = is
run_sized s is (suc k) = next_sized (state_after k s) (run_sized s is k)

pub stays_sized : (image : Image) (values : store.Contents) → StaysSized (start_state image values)
stays_sized image values = run_sized (start_state image values) (start_sized image values)
