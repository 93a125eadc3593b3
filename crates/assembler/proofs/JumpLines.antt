-- Lines of jumps, by an offset or to a name.
use Rattle.assembler.proofs.Prelude.{◌≡◌, ◌⊎◌, ℕ, ℤ, List, Some, None, true, refl, sym, ◌∙◌, ap, subst, arith, inl, inr, FitsSigned, Err, w16, w32, both_ways, offset_text, operands_text, operand_text, register_text, IsStatement, Mnemonic, Statement, ReadsOperands, item_mnemonic, item_operands, operand_list, HasLine, InRange, SourceItem, statement, label, jump, JumpInRange, fits_16, jump_by, jump_mnemonic, jump_operands, reaches, with_offset, Jump, Near, Long, CallLocal, OutOfRange, IsOperand, Comparison, Operand, Register, Width, TargetIs, Target, Offset, Name}
use Rattle.assembler.proofs.Ends.{either}
use Rattle.assembler.specs.declared.lines.jump.Jump.TheVariants.{Branch}
use Rattle.insn_codec.specs.declared.insn.Insn.TheVariants as insn
use Rattle.insn_codec.specs.declared.mnemonic.Mnemonic.TheVariants as mnemonic
use Rattle.insn_codec.specs.declared.statement.Statement.TheVariants as statement_kind
use Rattle.assembler.specs.declared.lines.jump.Jump.TheVariants as jump_kind

-- offsets of 16 bits

pub of_fits : (z : ℤ) → FitsSigned w16 z → fits_16 z ≡ true
of_fits h0 h = grind arith

-- a jump fits its offset exactly if it is in range

pub reaches_of : (j : Jump) (z : ℤ) → IsStatement (jump_by j z) → reaches j z ≡ true
reaches_of h0 z h = grind arith

-- the line of a jump by an offset

pub has_line : (j : Jump) (z : ℤ) → HasLine (statement (jump_by j z))
has_line h0 z = grind arith

pub mnemonic_is : (j : Jump) (z : ℤ) → item_mnemonic (statement (jump_by j z)) ≡ Some (jump_mnemonic j)
mnemonic_is h0 z = grind arith

pub operands_at : (j : Jump) (z : ℤ) (goal : List ℕ) → goal ≡ offset_text z → operands_text (jump_operands j goal) ≡ item_operands (statement (jump_by j z))
operands_at j z goal e = ap (λ g. operands_text (jump_operands j g)) e ∙ (grind arith)

-- its offset is out of range
pub jump_out : (j : Jump) (z : ℤ) (goal : List ℕ) → goal ≡ offset_text z → (IsStatement (jump_by j z) → ⊥)
    → ReadsOperands (jump_mnemonic j) (operands_text (jump_operands j goal)) (Err OutOfRange)
jump_out j z goal e out = (statement (jump_by j z), has_line j z, mnemonic_is j z, operands_at j z goal e, out)

-- the jump with an offset that fits
pub jump_said : (j : Jump) (z n : ℤ) (goal : List ℕ) (x : Statement) → goal ≡ offset_text z → z ≡ n → FitsSigned w32 n → JumpInRange j → Some x ≡ with_offset j n → (item_mnemonic (statement x) ≡ Some (jump_mnemonic j)) × (operands_text (jump_operands j goal) ≡ item_operands (statement x)) × HasLine (statement x) × InRange (statement x)
jump_said j z n goal x e same fits h is = either (reaches j n)
    (λ near. let here : Some x ≡ Some (jump_by j n) = rw near at is in
    let at : jump_by j n ≡ x = cc in
    subst (λ y. (item_mnemonic (statement y) ≡ Some (jump_mnemonic j)) × (operands_text (jump_operands j goal) ≡ item_operands (statement y)) × HasLine (statement y) × InRange (statement y)) at
    (mnemonic_is j n, operands_at j n goal (e ∙ ap offset_text same), has_line j n, (grind arith)))
    (λ far. let none : Some x ≡ None = rw far at is in absurd cc)

pub jump_refused : (j : Jump) (z n : ℤ) (goal : List ℕ) → goal ≡ offset_text z → z ≡ n → None ≡ with_offset j n
    → ReadsOperands (jump_mnemonic j) (operands_text (jump_operands j goal)) (Err OutOfRange)
jump_refused j z n goal e same is = either (reaches j n)
    (λ near. let some : None ≡ Some (jump_by j n) = rw near at is in absurd cc)
    (λ far. jump_out j z goal e (λ r. both_ways (reaches j n) far (subst (λ y. reaches j y ≡ true) same (reaches_of j z r))))

-- the items of a jump's mnemonic

abbrev pub IsOfJump : Mnemonic → Type 0
IsOfJump mnemonic.Ja = Unit {0}
IsOfJump mnemonic.JaLong = Unit {0}
IsOfJump mnemonic.CallLocal = Unit {0}
IsOfJump (mnemonic.Branch comparison width) = Unit {0}
IsOfJump _ = ⊥

-- a jump by an offset, or to a name
abbrev pub JumpsBy : Jump → SourceItem → Type 0
JumpsBy j i = ((z : ℤ) × (i ≡ statement (jump_by j z))) ⊎ ((name : List ℕ) × (i ≡ jump j name))

same : (m n : Mnemonic) → Some m ≡ Some n → m ≡ n
same m n e = cc

other : {P : Type 0} (m n : Mnemonic) → (IsOfJump m → ⊥) → IsOfJump n → Some m ≡ Some n → P
other m n never is e = absurd (never (subst (λ x. IsOfJump x) (sym (same m n e)) is))

pub of_jump : (m : Mnemonic) (i : SourceItem) → IsOfJump m → item_mnemonic i ≡ Some m → (j : Jump) × (jump_mnemonic j ≡ m) × JumpsBy j i
of_jump m (jump j name) is e = (j, same (jump_mnemonic j) m e, inr (name, refl))
of_jump m (label name) is e = absurd cc
of_jump m (statement (statement_kind.Insn (insn.Jump z))) is e = (Near, same mnemonic.Ja m e, inl (z, refl))
of_jump m (statement (statement_kind.Insn (insn.JumpLong z))) is e = (Long, same mnemonic.JaLong m e, inl (z, refl))
of_jump m (statement (statement_kind.Insn (insn.CallLocal z))) is e = (CallLocal, same mnemonic.CallLocal m e, inl (z, refl))
of_jump m (statement (statement_kind.Insn (insn.Branch comparison width dst operand z))) is e =
    (Branch comparison width dst operand, same (mnemonic.Branch comparison width) m e, inl (z, refl))
of_jump m (statement (statement_kind.Insn insn.Exit)) is e = absurd cc
of_jump m (statement _) is e = other _ m (λ never. never) is e

-- Conditional jumps with a number out of range.

-- its immediate is out of range
pub branch_out : (comparison : Comparison) (width : Width) (dst : Register) (o : Operand) (target : Target) (goal text : List ℕ) → TargetIs target goal → text ≡ operand_list (register_text dst) (operand_list (operand_text o) goal) → (IsOperand o → ⊥) → ReadsOperands (mnemonic.Branch comparison width) text (Err OutOfRange)
branch_out comparison width dst o (Offset n) goal text t e out =
    (statement (statement_kind.Insn (insn.Branch comparison width dst o t.0)), tt, refl, e ∙ ap (λ g. operand_list (register_text dst) (operand_list (operand_text o) g)) t.2, λ r. out r.0)
branch_out comparison width dst o (Name name) goal text t e out =
    (jump (jump_kind.Branch comparison width dst o) goal, t.1, refl, e, out)
