-- Mnemonics by their parts.
use Rattle.insn_codec.specs.declared.mnemonic.Mnemonic.{Mnemonic}
use Rattle.insn_codec.specs.declared.mnemonic.Mnemonic.TheVariants.{Alu, Neg, SignExtend, ByteSwap, Ja, JaLong, Branch, Call, CallLocal}
use Rattle.insn_codec.specs.declared.mnemonic.Mnemonic.TheVariants.{Exit, Load, LoadSigned, StoreImm, Store, Atomic, LoadWide, Slot}

-- the mnemonic is one fixed word
abbrev pub IsFixed : Mnemonic → Type 0
IsFixed Ja = Unit {0}
IsFixed JaLong = Unit {0}
IsFixed Call = Unit {0}
IsFixed CallLocal = Unit {0}
IsFixed Exit = Unit {0}
IsFixed LoadWide = Unit {0}
IsFixed Slot = Unit {0}
IsFixed _ = ⊥

-- the mnemonic is a load or a store, with its size
abbrev pub IsTransfer : Mnemonic → Type 0
IsTransfer (Load size) = Unit {0}
IsTransfer (LoadSigned size) = Unit {0}
IsTransfer (StoreImm size) = Unit {0}
IsTransfer (Store size) = Unit {0}
IsTransfer _ = ⊥

-- the mnemonic is an atomic operation, with its width
abbrev pub IsAtomic : Mnemonic → Type 0
IsAtomic (Atomic op width) = Unit {0}
IsAtomic _ = ⊥

-- the mnemonic is a sign extension or a byte order, with its bits
abbrev pub IsConversion : Mnemonic → Type 0
IsConversion (SignExtend extension) = Unit {0}
IsConversion (ByteSwap order width) = Unit {0}
IsConversion _ = ⊥

-- the mnemonic is arithmetic or a comparison, with its width
abbrev pub IsOfWidth : Mnemonic → Type 0
IsOfWidth (Alu op width) = Unit {0}
IsOfWidth (Neg width) = Unit {0}
IsOfWidth (Branch comparison width) = Unit {0}
IsOfWidth _ = ⊥
