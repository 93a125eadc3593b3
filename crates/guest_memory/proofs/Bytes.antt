-- Lists of bytes that overwrite others.
use Rattle.guest_memory.proofs.Prelude.{◌≡◌, ℕ, zero, suc, ◌%◌, ◌/◌, ◌<◌, length, refl, ap, arith, All, All-cons, All-nil, low_bytes}

pub length_low : (n w : ℕ) → length (low_bytes n w) ≡ n
length_low zero w = refl
length_low (suc n) w = ap suc (length_low n _)

pub all-low_bytes : (n w : ℕ) → All (λ b. b < 256) (low_bytes n w)
all-low_bytes zero w = All-nil (λ b. b < 256)
all-low_bytes (suc n) w = All-cons (λ b. b < 256) (w % 256) (low_bytes n (w / 256)) (omega arith) (all-low_bytes n (w / 256))
