-- The text of an instruction: its mnemonic, a space, and its operands separated by commas.
use Rattle.std.specs.Prelude.{ℕ, zero, suc, ◌+◌, ◌/◌, ◌%◌, ℤ, pos, negsuc, List, [], ◌∷◌, ◌++◌, codes, map, nat_eq, nat_lt, if◌then◌else◌}
use Rattle.std.specs.Int.Digits.{digits_of}
use Rattle.insn_codec.specs.Mnemonics.{mnemonic_text}
use Rattle.insn_codec.specs.declared.insn.Insn.{Insn}
use Rattle.insn_codec.specs.declared.insn.Insn.TheVariants.{Alu, Neg, SignExtend, ByteSwap, Jump, JumpLong, Branch, Call, CallLocal, Exit}
use Rattle.insn_codec.specs.declared.insn.Insn.TheVariants.{Load, LoadSigned, StoreImm, Store, Atomic, LoadWide}
use Rattle.insn_codec.specs.declared.operand.Operand.{Operand, TheVariants.Imm, TheVariants.Reg}
use Rattle.insn_codec.specs.declared.register.Register.{Register}
use Rattle.insn_codec.specs.declared.register.Register.TheVariants as register
use Rattle.insn_codec.specs.declared.mnemonic.Mnemonic.{Mnemonic}
use Rattle.insn_codec.specs.declared.mnemonic.Mnemonic.TheVariants as mnemonic

-- the name of a register: `r` and its number (RFC 9669, section 3)
abbrev pub register_text : Register → List ℕ
register_text register.R0 = codes "r0"
register_text register.R1 = codes "r1"
register_text register.R2 = codes "r2"
register_text register.R3 = codes "r3"
register_text register.R4 = codes "r4"
register_text register.R5 = codes "r5"
register_text register.R6 = codes "r6"
register_text register.R7 = codes "r7"
register_text register.R8 = codes "r8"
register_text register.R9 = codes "r9"
register_text register.R10 = codes "r10"

-- the decimal digits of a number without leading zeros; 0 is `0`
unfoldable pub decimal : ℕ → List ℕ
decimal n = if nat_eq n 0 then codes "0" else map (λ d. 48 + d) (digits_of 10 n)

-- a number in decimal digits, with `-` if it is negative
abbrev pub signed_decimal : ℤ → List ℕ
signed_decimal (pos n) = decimal n
signed_decimal (negsuc n) = 45 ∷ decimal (suc n)

-- a second operand: the register's name, or the immediate in decimal digits, with `-` if it is negative
abbrev pub operand_text : Operand → List ℕ
operand_text (Imm n) = signed_decimal n
operand_text (Reg r) = register_text r

-- an offset in decimal digits, always with its sign
abbrev pub offset_text : ℤ → List ℕ
offset_text (pos n) = 43 ∷ decimal n
offset_text (negsuc n) = 45 ∷ decimal (suc n)

-- a number below 16 as a digit: 0 to 9, a to f
abbrev pub hex_digit : ℕ → ℕ
hex_digit n = if nat_lt n 10 then 48 + n else 87 + n

-- the lowest n hex digits of a number
unfoldable pub hex_digits : ℕ → ℕ → List ℕ
hex_digits zero n = []
hex_digits (suc count) n = hex_digits count (n / 16) ++ hex_digit (n % 16) ∷ []

-- a 64-bit number as `0x` and its 16 digits
abbrev pub wide_text : ℕ → List ℕ
wide_text n = codes "0x" ++ hex_digits 16 n

-- the address of an access: the base register + the offset in bytes
abbrev pub address_text : Register → ℤ → List ℕ
address_text base offset = register_text base ++ offset_text offset

-- a memory operand: the address of an access between square brackets (RFC 9669, section 5.1)
abbrev pub place_text : Register → ℤ → List ℕ
place_text base offset = codes "[" ++ ((register_text base ++ offset_text offset) ++ codes "]")

-- operands separated by a comma and a space
abbrev pub operands_text : List (List ℕ) → List ℕ
operands_text [] = []
operands_text (x ∷ []) = x
operands_text (x ∷ y ∷ ys) = x ++ (codes ", " ++ operands_text (y ∷ ys))

-- a mnemonic and, after a space, the operands if there are any
abbrev pub line_with : Mnemonic → List (List ℕ) → List ℕ
line_with m [] = mnemonic_text m
line_with m (x ∷ xs) = mnemonic_text m ++ (codes " " ++ operands_text (x ∷ xs))

-- the mnemonic of each instruction, row by row (RFC 9669, sections 4 and 5)
abbrev pub mnemonic_of : Insn → Mnemonic
mnemonic_of (Alu op width dst operand) = mnemonic.Alu op width
mnemonic_of (Neg width dst) = mnemonic.Neg width
mnemonic_of (SignExtend extension dst src) = mnemonic.SignExtend extension
mnemonic_of (ByteSwap order width dst) = mnemonic.ByteSwap order width
mnemonic_of (Jump offset) = mnemonic.Ja
mnemonic_of (JumpLong offset) = mnemonic.JaLong
mnemonic_of (Branch comparison width dst operand offset) = mnemonic.Branch comparison width
mnemonic_of (Call helper) = mnemonic.Call
mnemonic_of (CallLocal offset) = mnemonic.CallLocal
mnemonic_of Exit = mnemonic.Exit
mnemonic_of (Load size dst src offset) = mnemonic.Load size
mnemonic_of (LoadSigned size dst src offset) = mnemonic.LoadSigned size
mnemonic_of (StoreImm size dst offset imm) = mnemonic.StoreImm size
mnemonic_of (Store size dst offset src) = mnemonic.Store size
mnemonic_of (Atomic op width dst offset src) = mnemonic.Atomic op width
mnemonic_of (LoadWide dst value) = mnemonic.LoadWide

-- the operands of each instruction, in the order of its line
abbrev pub operands_of : Insn → List (List ℕ)
operands_of (Alu op width dst operand) = register_text dst ∷ operand_text operand ∷ []
operands_of (Neg width dst) = register_text dst ∷ []
operands_of (SignExtend extension dst src) = register_text dst ∷ register_text src ∷ []
operands_of (ByteSwap order width dst) = register_text dst ∷ []
operands_of (Jump offset) = offset_text offset ∷ []
operands_of (JumpLong offset) = offset_text offset ∷ []
operands_of (Branch comparison width dst operand offset) = register_text dst ∷ operand_text operand ∷ offset_text offset ∷ []
operands_of (Call helper) = signed_decimal helper ∷ []
operands_of (CallLocal offset) = offset_text offset ∷ []
operands_of Exit = []
operands_of (Load size dst src offset) = register_text dst ∷ place_text src offset ∷ []
operands_of (LoadSigned size dst src offset) = register_text dst ∷ place_text src offset ∷ []
operands_of (StoreImm size dst offset imm) = place_text dst offset ∷ signed_decimal imm ∷ []
operands_of (Store size dst offset src) = place_text dst offset ∷ register_text src ∷ []
operands_of (Atomic op width dst offset src) = place_text dst offset ∷ register_text src ∷ []
operands_of (LoadWide dst value) = register_text dst ∷ wide_text value ∷ []

-- the line of an instruction
abbrev pub line_text : Insn → List ℕ
line_text i = line_with (mnemonic_of i) (operands_of i)
