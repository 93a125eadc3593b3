-- Finished emitters: the bytes of joined pieces, and what stays too long.
use Rattle.codegen.proofs.Prelude.{◌≡◌, ℕ, ◌+◌, Bool, true, false, List, [], ◌∷◌, ◌++◌, Option, Some, None, length, inl, inr, refl, sym, ap, ◌∙◌, arith, append_assoc, if◌then◌else◌, Core, Declaration, nodes, spelling, Insn, LoadWide, insn_slots, slots, spellings, memo_tail, Emitted, IsTooLong, slot_spellings, with_insn_at, with_nodes, with_piece, without_code, code_at, has_room, passed, with_counted, with_expression, with_variable}

pub slot_spellings-append : (xs ys : List (Option Insn)) → slot_spellings (xs ++ ys) ≡ slot_spellings xs ++ slot_spellings ys
slot_spellings-append [] ys = refl
slot_spellings-append (Some i ∷ xs) ys = ap (λ bytes. spelling i ++ bytes) (slot_spellings-append xs ys) ∙ sym (append_assoc (spelling i) (slot_spellings xs) (slot_spellings ys))
slot_spellings-append (None ∷ xs) ys = slot_spellings-append xs ys

spelled_first : (i : Insn) (rest : List (Option Insn)) → slot_spellings (insn_slots i ++ rest) ≡ spelling i ++ slot_spellings rest
spelled_first (LoadWide dst value) rest = refl
spelled_first _ rest = refl

-- the bytes of the instructions at a piece's slots are the encoding of the piece
pub slots_spelled : (piece : List Insn) → slot_spellings (slots piece) ≡ spellings piece
slots_spelled [] = refl
slots_spelled (i ∷ piece) = spelled_first i (slots piece) ∙ ap (λ bytes. spelling i ++ bytes) (slots_spelled piece)

-- ---- what is too long stays too long

pub long_after_piece : (e : Emitted) (piece : List Insn) → IsTooLong e → IsTooLong (with_piece e piece)
long_after_piece e piece h = h

pub long_after_insn : (e : Emitted) (slot : ℕ) (i : Insn) → IsTooLong e → IsTooLong (with_insn_at e slot i)
long_after_insn e slot i h = h

pub long_after_nodes : (e : Emitted) (n : ℕ) → IsTooLong e → IsTooLong (with_nodes e n)
long_after_nodes e n (inl many) = inl (omega (arith, many))
long_after_nodes e n (inr lacks) = inr lacks

long_after_code : (here : Bool) (e more : Emitted) → IsTooLong more → IsTooLong (if here then more else without_code e)
long_after_code true e more h = h
long_after_code false e more h = inr refl

pub long_after_expression : (e : Emitted) (declarations : List Declaration) (tree : Core)
    → IsTooLong e → IsTooLong (with_expression e declarations tree)
long_after_expression e ds tree h =
    let counted = with_counted e tree (nodes tree) in
    long_after_code (has_room counted) counted (with_piece counted (code_at counted ds tree (length e.code))) (long_after_nodes e (nodes tree) h)

pub long_after_variable : (e : Emitted) (declarations : List Declaration) (tree : Core)
    → IsTooLong e → IsTooLong (with_variable e declarations tree)
long_after_variable e ds tree h =
    let counted = with_counted e tree (1 + nodes tree) in
    let slot = length e.code + 1 in
    let routine = passed (code_at counted ds tree slot ++ memo_tail (length e.routines)) in
    long_after_code (has_room counted) counted (record (with_piece counted routine) { routines = e.routines ++ slot ∷ [] }) (long_after_nodes e (1 + nodes tree) h)
