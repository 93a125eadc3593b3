-- The tail of a message's code, which is put in two pieces.
use Rattle.policy_code.proofs.Prelude.{◌≡◌, ℕ, ◌+◌, List, [], ◌∷◌, ◌++◌, length, take, get_or, Result, OnOk, IfOk, refl, arith}
use Rattle.policy_code.proofs.Prelude.{append_assoc, length-append, append-nil, slot_count, Insn, Emitted, with_piece, message_tail}
use Rattle.policy_code.proofs.Prelude.{slots, slots-append, length-insn_slots}

pub pieces_joined : (e : Emitted) (a b : List Insn) → with_piece (with_piece e a) b ≡ with_piece e (a ++ b)
pieces_joined e a b = grind (arith, append_assoc, slots-append)

message_tail_ends : (i : ℕ) (d : Insn) → take 5 (message_tail i) ++ get_or (message_tail i) 5 d ∷ [] ≡ message_tail i
unfolding message_tail
message_tail_ends i d = refl

pub tail_put : (i : ℕ) (tail : List Insn) (d : Insn) (e e1 e2 : Emitted) → tail ≡ message_tail i → e1 ≡ with_piece e (take 5 tail) → e2 ≡ with_piece e1 (get_or tail 5 d ∷ []) → e2 ≡ with_piece e (message_tail i)
tail_put i tail d e e1 e2 is first last = grind (arith, pieces_joined, message_tail_ends)

message_tail_last : (i : ℕ) (d : Insn) → slot_count (get_or (message_tail i) 5 d) ≡ 1
unfolding message_tail
message_tail_last i d = refl

pub one_slot : (x : Insn) → slot_count x ≡ 1 → length (slots (x ∷ [])) ≡ 1
one_slot x one = grind (arith, append-nil, length-insn_slots)

-- the last instruction of the tail is in the last slot
pub last_slot : {E : Type 0} (i : ℕ) (tail : List Insn) (d : Insn) (e1 e2 : Emitted) (r : Result ℕ E) → tail ≡ message_tail i → IfOk r (λ slot. slot ≡ length e1.code) → OnOk r (e2 ≡ with_piece e1 (get_or tail 5 d ∷ [])) → IfOk r (λ slot. slot + 1 ≡ length e2.code)
last_slot i tail d e1 e2 r is at put = grind (arith, message_tail_last, length-append, one_slot)
