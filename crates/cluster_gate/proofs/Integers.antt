-- Numbers that are the same.
use Rattle.cluster_gate.proofs.Prelude.{◌≡◌, ℕ, Some, None}
use Rattle.std.specs.Prelude.{ℤ}
use Rattle.serde_json.specs.Data.{Num, unsigned, negative, float}
use Rattle.serde_json.specs.Find.{as_i64, as_u64}

pub same_unsigned : (a b : Num) (n m : ℕ) → Some n ≡ as_u64 a → Some m ≡ as_u64 b → n ≡ m → a ≡ b
same_unsigned (unsigned x) (unsigned y) n m e f g = let same : x ≡ y = cc in λ i. unsigned (same i)
same_unsigned (unsigned x) (negative z) n m e f g = absurd (cc)
same_unsigned (unsigned x) (float z) n m e f g = absurd (cc)
same_unsigned (negative x) b n m e f g = absurd (cc)
same_unsigned (float x) b n m e f g = absurd (cc)

pub same_negative : (a b : Num) (n m : ℤ) → as_u64 a ≡ None → as_u64 b ≡ None → Some n ≡ as_i64 a → Some m ≡ as_i64 b → n ≡ m → a ≡ b
same_negative (negative x) (negative y) n m none also e f g = let same : x ≡ y = cc in λ i. negative (same i)
same_negative (negative x) (unsigned y) n m none also e f g = absurd (cc)
same_negative (negative x) (float y) n m none also e f g = absurd (cc)
same_negative (unsigned x) b n m none also e f g = absurd (cc)
same_negative (float x) b n m none also e f g = absurd (cc)
