-- Mnemonics: the names of instructions in RFC 9669, with the width or the size (sections 4 and 5).
use Rattle.std.specs.Prelude.{ℕ, List, ◌++◌, codes}
use Rattle.insn_codec.specs.declared.width.Width.{Width, TheVariants.W32, TheVariants.W64}
use Rattle.insn_codec.specs.declared.alu_op.AluOp.{AluOp, TheVariants.Add, TheVariants.Sub, TheVariants.Mul, TheVariants.Div, TheVariants.Sdiv, TheVariants.Or, TheVariants.And, TheVariants.Lsh, TheVariants.Rsh, TheVariants.Mod, TheVariants.Smod, TheVariants.Xor, TheVariants.Mov, TheVariants.Arsh}
use Rattle.insn_codec.specs.declared.atomic_op.AtomicOp.{AtomicOp}
use Rattle.insn_codec.specs.declared.atomic_op.AtomicOp.TheVariants as atomic
use Rattle.insn_codec.specs.declared.comparison.Comparison.{Comparison, TheVariants.Eq, TheVariants.Gt, TheVariants.Ge, TheVariants.Set, TheVariants.Ne, TheVariants.Sgt, TheVariants.Sge, TheVariants.Lt, TheVariants.Le, TheVariants.Slt, TheVariants.Sle}
use Rattle.insn_codec.specs.declared.size.Size.{Size}
use Rattle.insn_codec.specs.declared.size.Size.TheVariants as size
use Rattle.insn_codec.specs.declared.signed_size.SignedSize.{SignedSize}
use Rattle.insn_codec.specs.declared.signed_size.SignedSize.TheVariants as signed
use Rattle.insn_codec.specs.declared.extension.Extension.{Extension, TheVariants.From8To32, TheVariants.From16To32, TheVariants.From8To64, TheVariants.From16To64, TheVariants.From32To64}
use Rattle.insn_codec.specs.declared.byte_order.ByteOrder.{ByteOrder, TheVariants.Little, TheVariants.Big, TheVariants.Swap}
use Rattle.insn_codec.specs.declared.swap_width.SwapWidth.{SwapWidth}
use Rattle.insn_codec.specs.declared.swap_width.SwapWidth.TheVariants as swap
use Rattle.insn_codec.specs.declared.mnemonic.Mnemonic.{Mnemonic}
use Rattle.insn_codec.specs.declared.mnemonic.Mnemonic.TheVariants as mnemonic

-- the width of arithmetic, of a comparison or of an atomic operation, in bits
abbrev pub width_text : Width → List ℕ
width_text W32 = codes "32"
width_text W64 = codes "64"

-- the names of the arithmetic operations in lower case (RFC 9669, section 4.1)
abbrev pub alu_text : AluOp → List ℕ
alu_text Add = codes "add"
alu_text Sub = codes "sub"
alu_text Mul = codes "mul"
alu_text Div = codes "div"
alu_text Sdiv = codes "sdiv"
alu_text Or = codes "or"
alu_text And = codes "and"
alu_text Lsh = codes "lsh"
alu_text Rsh = codes "rsh"
alu_text Mod = codes "mod"
alu_text Smod = codes "smod"
alu_text Xor = codes "xor"
alu_text Mov = codes "mov"
alu_text Arsh = codes "arsh"

-- the names of the atomic operations; an addition, or, and or xor that also fetches is
-- prefixed with `fetch_` (RFC 9669, section 5.3)
abbrev pub atomic_text : AtomicOp → List ℕ
atomic_text atomic.Add = codes "add"
atomic_text atomic.Or = codes "or"
atomic_text atomic.And = codes "and"
atomic_text atomic.Xor = codes "xor"
atomic_text atomic.FetchAdd = codes "fetch_add"
atomic_text atomic.FetchOr = codes "fetch_or"
atomic_text atomic.FetchAnd = codes "fetch_and"
atomic_text atomic.FetchXor = codes "fetch_xor"
atomic_text atomic.Exchange = codes "xchg"
atomic_text atomic.CompareExchange = codes "cmpxchg"

-- the names of the conditional jumps in lower case (RFC 9669, section 4.3)
abbrev pub comparison_text : Comparison → List ℕ
comparison_text Eq = codes "jeq"
comparison_text Gt = codes "jgt"
comparison_text Ge = codes "jge"
comparison_text Set = codes "jset"
comparison_text Ne = codes "jne"
comparison_text Sgt = codes "jsgt"
comparison_text Sge = codes "jsge"
comparison_text Lt = codes "jlt"
comparison_text Le = codes "jle"
comparison_text Slt = codes "jslt"
comparison_text Sle = codes "jsle"

-- the size of a load or a store: one byte, two, four or eight (RFC 9669, section 5)
abbrev pub size_text : Size → List ℕ
size_text size.B = codes "b"
size_text size.H = codes "h"
size_text size.W = codes "w"
size_text size.Dw = codes "dw"

-- the size of a sign-extending load: one byte, two or four (RFC 9669, section 5.2)
abbrev pub signed_size_text : SignedSize → List ℕ
signed_size_text signed.B = codes "b"
signed_size_text signed.H = codes "h"
signed_size_text signed.W = codes "w"

-- the number of bits that a sign-extending move reads, and the number that it fills (RFC 9669, section 4.1)
abbrev pub extension_text : Extension → List ℕ
extension_text From8To32 = codes "8to32"
extension_text From16To32 = codes "16to32"
extension_text From8To64 = codes "8to64"
extension_text From16To64 = codes "16to64"
extension_text From32To64 = codes "32to64"

-- the target of a byte swap: little-endian, big-endian, or the reverse order (RFC 9669, section 4.2)
abbrev pub order_text : ByteOrder → List ℕ
order_text Little = codes "le"
order_text Big = codes "be"
order_text Swap = codes "swap"

-- the number of bits that a byte swap orders (RFC 9669, section 4.2)
abbrev pub swap_text : SwapWidth → List ℕ
swap_text swap.Bits16 = codes "16"
swap_text swap.Bits32 = codes "32"
swap_text swap.Bits64 = codes "64"

-- a mnemonic: the operation, followed by the width, the size or the bits if it has
-- them; `.slot` is not part of the standard
abbrev pub mnemonic_text : Mnemonic → List ℕ
mnemonic_text (mnemonic.Alu op width) = alu_text op ++ width_text width
mnemonic_text (mnemonic.Neg width) = codes "neg" ++ width_text width
mnemonic_text (mnemonic.SignExtend extension) = codes "movsx" ++ extension_text extension
mnemonic_text (mnemonic.ByteSwap order width) = order_text order ++ swap_text width
mnemonic_text mnemonic.Ja = codes "ja"
mnemonic_text mnemonic.JaLong = codes "ja32"
mnemonic_text (mnemonic.Branch comparison width) = comparison_text comparison ++ width_text width
mnemonic_text mnemonic.Call = codes "call"
mnemonic_text mnemonic.CallLocal = codes "call_local"
mnemonic_text mnemonic.Exit = codes "exit"
mnemonic_text (mnemonic.Load size) = codes "ldx" ++ size_text size
mnemonic_text (mnemonic.LoadSigned size) = codes "ldxs" ++ signed_size_text size
mnemonic_text (mnemonic.StoreImm size) = codes "st" ++ size_text size
mnemonic_text (mnemonic.Store size) = codes "stx" ++ size_text size
mnemonic_text (mnemonic.Atomic op width) = codes "atomic_" ++ (atomic_text op ++ width_text width)
mnemonic_text mnemonic.LoadWide = codes "lddw"
mnemonic_text mnemonic.Slot = codes ".slot"
