-- The memory at the start of a program.
use Rattle.guest_memory.proofs.Prelude.{◌≡◌, ℕ, ◌<◌, List, replicate, Bool, true, false, if◌then◌else◌, Option, Some, None, refl, ap, ◌∙◌, arith, All, ◌||◌, cases_lt, length-replicate, get_or-replicate, All-replicate, Memory, Region, Stack, Scratch, Verdict, Constants, IsMemory, is_writable, is_among, bytes_in, base_of, byte_at, byte_from, or_else, start_memory, StartIsZero, nat_tests}
use Rattle.guest_memory.proofs.Map.{byte_from-past, byte_from-inside, not_le}

pub started : (stack scratch verdict constants given : List ℕ) → stack ≡ replicate 4096 0 → scratch ≡ replicate 4096 0 → verdict ≡ replicate 2048 0 → constants ≡ given → ◌≡◌ {A = Memory} (record { stack = stack; scratch = scratch; verdict = verdict; constants = constants }) (start_memory given)
unfolding start_memory
started stack scratch verdict constants given a b c d = λ i. record { stack = a i; scratch = b i; verdict = c i; constants = d i }

start_bytes : (constants : List ℕ) → All (λ b. b < 256) constants → (r : Region) → All (λ b. b < 256) (bytes_in r (start_memory constants))
unfolding start_memory
start_bytes constants bytes Stack = All-replicate (λ b. b < 256) 4096 0 (omega arith)
start_bytes constants bytes Scratch = All-replicate (λ b. b < 256) 4096 0 (omega arith)
start_bytes constants bytes Verdict = All-replicate (λ b. b < 256) 2048 0 (omega arith)
start_bytes constants bytes Constants = bytes

start_is_memory : (constants : List ℕ) → All (λ b. b < 256) constants → IsMemory (start_memory constants)
unfolding start_memory
start_is_memory constants bytes = grind (arith, length-replicate, start_bytes)

-- the byte at an address of zeros
zeros : (base n address : ℕ) → byte_from base (replicate n 0) address ≡ (if is_among base n address then Some 0 else None)
zeros base n address = grind (arith, cases_lt, not_le, nat_tests, length-replicate, byte_from-inside, get_or-replicate, byte_from-past)

one_of_three : (p q r : Bool) (other : Option ℕ) → or_else (if p then Some 0 else None) (or_else (if q then Some 0 else None) (or_else (if r then Some 0 else None) other)) ≡ (if (p || (q || r)) then Some 0 else other)
one_of_three true q r other = refl
one_of_three false true r other = refl
one_of_three false false true other = refl
one_of_three false false false other = refl

zeros_or : (stack scratch verdict : List ℕ) (constants : List ℕ) (address : ℕ) → stack ≡ replicate 4096 0 → scratch ≡ replicate 4096 0 → verdict ≡ replicate 2048 0 → byte_at (record { stack = stack; scratch = scratch; verdict = verdict; constants = constants }) address ≡ (if is_writable address then Some 0 else byte_from (base_of Constants) constants address)
unfolding byte_at is_writable
zeros_or stack scratch verdict constants address a b c =
    let s = ap (λ (bs : List ℕ). byte_from (base_of Stack) bs address) a ∙ zeros (base_of Stack) 4096 address in
    let t = ap (λ (bs : List ℕ). byte_from (base_of Scratch) bs address) b ∙ zeros (base_of Scratch) 4096 address in
    let v = ap (λ (bs : List ℕ). byte_from (base_of Verdict) bs address) c ∙ zeros (base_of Verdict) 2048 address in
    (λ i. or_else (s i) (or_else (t i) (or_else (v i) (byte_from (base_of Constants) constants address))))
    ∙ one_of_three (is_among (base_of Stack) 4096 address) (is_among (base_of Scratch) 4096 address) (is_among (base_of Verdict) 2048 address) _

start_byte : (constants : List ℕ) (address : ℕ) → byte_at (start_memory constants) address ≡ (if is_writable address then Some 0 else byte_from (base_of Constants) constants address)
unfolding start_memory
start_byte constants address = zeros_or (replicate 4096 0) (replicate 4096 0) (replicate 2048 0) constants address refl refl refl

pub start_laws : StartIsZero
start_laws = record { memory = start_is_memory; bytes = start_byte }
