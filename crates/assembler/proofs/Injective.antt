-- Each text denotes one thing.
use Rattle.assembler.proofs.Prelude.{◌≡◌, ℕ, suc, ℤ, pos, negsuc, List, [], ◌∷◌, ◌++◌, map, Option, Some, None, sym, ap, arith, AllDigits, if◌then◌else◌, bytes_eq, decimal, offset_text, operand_text, register_text, signed_decimal, Register, Size, SwapWidth, Width, mnemonic_text, IsLabel, Operand, Imm, Reg, decimal_digits, decimal_injective, Mnemonic, Alu, Neg, SignExtend, ByteSwap, Ja, JaLong, Branch, Call, Exit, Load, LoadSigned, StoreImm, Store, Atomic, LoadWide, Slot}
use Rattle.insn_codec.specs.declared.alu_op.AluOp.TheVariants as alu
use Rattle.insn_codec.specs.declared.atomic_op.AtomicOp.TheVariants as atomic
use Rattle.insn_codec.specs.declared.byte_order.ByteOrder.TheVariants as order
use Rattle.insn_codec.specs.declared.comparison.Comparison.TheVariants as comparison
use Rattle.insn_codec.specs.declared.extension.Extension.TheVariants as extension
use Rattle.insn_codec.specs.declared.signed_size.SignedSize.TheVariants as signed
use Rattle.insn_codec.specs.declared.size.Size.TheVariants as size
use Rattle.insn_codec.specs.declared.swap_width.SwapWidth.TheVariants as swap
use Rattle.insn_codec.specs.declared.width.Width.TheVariants as width
use Rattle.assembler.proofs.Ends.{heads, tails}
use Rattle.assembler.proofs.Forms.{no_immediate}
use Rattle.insn_codec.specs.declared.mnemonic.Mnemonic.TheVariants.{CallLocal}

no_minus : (n : ℕ) (cs : List ℕ) → decimal n ≡ 45 ∷ cs → ⊥
no_minus n cs e = let d = decimal_digits n in let t : AllDigits 10 (45 ∷ cs) = rw e at d in omega (arith, t.0)

-- the first of these with this text
abbrev find : {X : Type 0} → (X → List ℕ) → List X → List ℕ → Option X
find f [] text = None
find f (x ∷ xs) text = if bytes_eq text (f x) then Some x else find f xs text

by_search : {X : Type 0} (f : X → List ℕ) (xs : List X) → ((x : X) → find f xs (f x) ≡ Some x) → (x y : X) → f x ≡ f y → x ≡ y
by_search f xs found x y e = grind arith

pub register_injective : (x y : Register) → register_text x ≡ register_text y → x ≡ y
register_injective x y h = grind arith

-- each of these at each width
abbrev at_widths : {X : Type 0} → (X → Width → Mnemonic) → List X → List Mnemonic
at_widths f [] = []
at_widths f (x ∷ xs) = f x width.W32 ∷ f x width.W64 ∷ at_widths f xs

abbrev sizes : List Size
sizes = size.B ∷ size.H ∷ size.W ∷ size.Dw ∷ []

abbrev swaps : List SwapWidth
swaps = swap.Bits16 ∷ swap.Bits32 ∷ swap.Bits64 ∷ []

abbrev mnemonics : List Mnemonic
mnemonics =
    at_widths Alu
    (alu.Add ∷ alu.Sub ∷ alu.Mul ∷ alu.Div ∷ alu.Sdiv ∷ alu.Or ∷ alu.And ∷ alu.Lsh ∷ alu.Rsh ∷ alu.Mod ∷ alu.Smod ∷ alu.Xor ∷ alu.Mov ∷ alu.Arsh ∷ [])
    ++ (at_widths Branch
    (comparison.Eq ∷ comparison.Gt ∷ comparison.Ge ∷ comparison.Set ∷ comparison.Ne ∷ comparison.Sgt ∷ comparison.Sge ∷ comparison.Lt
    ∷ comparison.Le ∷ comparison.Slt ∷ comparison.Sle ∷ [])
    ++ (at_widths Atomic
    (atomic.Add ∷ atomic.Or ∷ atomic.And ∷ atomic.Xor ∷ atomic.FetchAdd ∷ atomic.FetchOr ∷ atomic.FetchAnd ∷ atomic.FetchXor
    ∷ atomic.Exchange ∷ atomic.CompareExchange ∷ [])
    ++ (map SignExtend (extension.From8To32 ∷ extension.From16To32 ∷ extension.From8To64 ∷ extension.From16To64 ∷ extension.From32To64 ∷ [])
    ++ (map (ByteSwap order.Little) swaps ++ (map (ByteSwap order.Big) swaps ++ (map (ByteSwap order.Swap) swaps
    ++ (map LoadSigned (signed.B ∷ signed.H ∷ signed.W ∷ []) ++ (map Load sizes ++ (map StoreImm sizes ++ (map Store sizes
    ++ (Neg width.W32 ∷ Neg width.W64 ∷ Ja ∷ JaLong ∷ Call ∷ CallLocal ∷ Exit ∷ LoadWide ∷ Slot ∷ [])))))))))))

mnemonic_found : (x : Mnemonic) → find mnemonic_text mnemonics (mnemonic_text x) ≡ Some x
mnemonic_found x = grind arith

pub mnemonic_injective : (x y : Mnemonic) → mnemonic_text x ≡ mnemonic_text y → x ≡ y
mnemonic_injective = by_search mnemonic_text mnemonics mnemonic_found

pub signed_injective : (y z : ℤ) → signed_decimal y ≡ signed_decimal z → y ≡ z
signed_injective h0 h1 e = grind (arith, pos, decimal_injective, negsuc, no_minus, suc, tails)

pub offset_injective : (y z : ℤ) → offset_text y ≡ offset_text z → y ≡ z
offset_injective h0 h1 e = grind (arith, pos, decimal_injective, tails, negsuc, heads, suc)

-- no register's name is a number
pub register_no_number : (r : Register) (z : ℤ) → register_text r ≡ signed_decimal z → ⊥
register_no_number r z e = no_immediate (register_text r) (grind arith) z e

pub operand_injective : (o p : Operand) → operand_text o ≡ operand_text p → o ≡ p
operand_injective (Imm y) (Imm z) e = ap Imm (signed_injective y z e)
operand_injective (Imm y) (Reg r) e = absurd (register_no_number r y (sym e))
operand_injective (Reg r) (Imm z) e = absurd (register_no_number r z e)
operand_injective (Reg r) (Reg s) e = ap Reg (register_injective r s e)

-- no name is an offset
pub name_no_offset : (cs : List ℕ) (z : ℤ) → IsLabel cs → cs ≡ offset_text z → ⊥
name_no_offset cs h0 h e = grind arith
