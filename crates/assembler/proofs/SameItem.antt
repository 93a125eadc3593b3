-- A mnemonic and operands determine one item.
use Rattle.assembler.proofs.Prelude.{◌≡◌, ℕ, ℤ, pos, negsuc, List, [], ◌∷◌, ◌++◌, Some, inl, inr, refl, sym, ◌∙◌, ap, subst, Option, None, arith, Jump, jump_by, jump_mnemonic, jump_operands, operands_text, address_text, offset_text, operand_text, place_text, register_text, signed_decimal, Operand, Register, HasLine, SourceItem, statement, jump, HasNoByte, item_mnemonic, item_operands, operand_list, Mnemonic, append_cancel_right}
use Rattle.insn_codec.specs.declared.insn.Insn.TheVariants as insn
use Rattle.insn_codec.specs.declared.statement.Statement.TheVariants as statement_kind
use Rattle.insn_codec.specs.declared.mnemonic.Mnemonic.TheVariants as mnemonic
use Rattle.assembler.proofs.Digits.{wide_injective}
use Rattle.assembler.proofs.Injective.{name_no_offset, offset_injective, operand_injective, register_injective, signed_injective}
use Rattle.assembler.proofs.Ends.{tails}
use Rattle.assembler.proofs.JumpLines.{IsOfJump, JumpsBy, of_jump}
use Rattle.assembler.proofs.Lacking.{split_same}
use Rattle.assembler.proofs.NameBytes.{lacks_operand, lacks_place}

-- the shape of an item with the mnemonic; jumps are left open, and `exit` has no operands
abbrev Shape : Mnemonic → SourceItem → Type 0
Shape (mnemonic.Alu op width) i = (dst : Register) × (operand : Operand) × (i ≡ statement (statement_kind.Insn (insn.Alu op width dst operand)))
Shape (mnemonic.Neg width) i = (dst : Register) × (i ≡ statement (statement_kind.Insn (insn.Neg width dst)))
Shape (mnemonic.SignExtend extension) i = (dst : Register) × (src : Register) × (i ≡ statement (statement_kind.Insn (insn.SignExtend extension dst src)))
Shape (mnemonic.ByteSwap order width) i = (dst : Register) × (i ≡ statement (statement_kind.Insn (insn.ByteSwap order width dst)))
Shape mnemonic.Call i = (helper : ℤ) × (i ≡ statement (statement_kind.Insn (insn.Call helper)))
Shape (mnemonic.Load size) i = (dst : Register) × (src : Register) × (offset : ℤ) × (i ≡ statement (statement_kind.Insn (insn.Load size dst src offset)))
Shape (mnemonic.LoadSigned size) i = (dst : Register) × (src : Register) × (offset : ℤ) × (i ≡ statement (statement_kind.Insn (insn.LoadSigned size dst src offset)))
Shape (mnemonic.StoreImm size) i = (dst : Register) × (offset : ℤ) × (imm : ℤ) × (i ≡ statement (statement_kind.Insn (insn.StoreImm size dst offset imm)))
Shape (mnemonic.Store size) i = (dst : Register) × (offset : ℤ) × (src : Register) × (i ≡ statement (statement_kind.Insn (insn.Store size dst offset src)))
Shape (mnemonic.Atomic op width) i = (dst : Register) × (offset : ℤ) × (src : Register) × (i ≡ statement (statement_kind.Insn (insn.Atomic op width dst offset src)))
Shape mnemonic.LoadWide i = (dst : Register) × (value : ℕ) × (i ≡ statement (statement_kind.Insn (insn.LoadWide dst value)))
Shape mnemonic.Slot i = (word : ℕ) × (i ≡ statement (statement_kind.Slot word))
Shape mnemonic.Exit i = ⊥
Shape _ i = Unit {0}

abbrev ShapeOf : Option Mnemonic → SourceItem → Type 0
ShapeOf None i = Unit {0}
ShapeOf (Some m) i = Shape m i

shape_of : (m : Mnemonic) (i : SourceItem) → item_mnemonic i ≡ Some m → Shape m i
shape_of m i e = subst (λ o. ShapeOf o i) e (grind arith)

-- equal operands of two items of known shape
between : (i j v w : SourceItem) → i ≡ v → j ≡ w → item_operands i ≡ item_operands j → item_operands v ≡ item_operands w
between i j v w p q e = sym (ap item_operands p) ∙ e ∙ ap item_operands q

listed_same : (xs ys vs ws : List ℕ) → HasNoByte 44 xs → HasNoByte 44 vs → operand_list xs ys ≡ operand_list vs ws → (xs ≡ vs) × (ys ≡ ws)
listed_same xs ys vs ws h k e = grind (arith, split_same, tails)

register_listed : (r s : Register) (ys ws : List ℕ) → operand_list (register_text r) ys ≡ operand_list (register_text s) ws → (r ≡ s) × (ys ≡ ws)
register_listed r s ys ws e = grind arith

-- a minus is not a plus
no_plus : (r s : Register) (n m : ℕ) → address_text r (pos n) ≡ address_text s (negsuc m) → ⊥
no_plus r s n m e = grind arith

address_same : (r s : Register) (y z : ℤ) → address_text r y ≡ address_text s z → (r ≡ s) × (y ≡ z)
address_same r s y z e = grind (arith, split_same, register_injective, offset_injective, no_plus)

place_same : (r s : Register) (y z : ℤ) → place_text r y ≡ place_text s z → (r ≡ s) × (y ≡ z)
place_same r s y z e = address_same r s y z (append_cancel_right (address_text r y) (address_text s z) (93 ∷ []) (tails 91 91 (address_text r y ++ 93 ∷ []) (address_text s z ++ 93 ∷ []) e))

place_listed : (r s : Register) (y z : ℤ) (ys ws : List ℕ) → operand_list (place_text r y) ys ≡ operand_list (place_text s z) ws → (r ≡ s) × (y ≡ z) × (ys ≡ ws)
place_listed r s y z ys ws e =
    let t = listed_same (place_text r y) ys (place_text s z) ws (lacks_place 44 refl refl refl r y) (lacks_place 44 refl refl refl s z) e in
    let u = place_same r s y z t.0 in
    (u.0, u.1, t.1)

compared_same : (r s : Register) (o p : Operand) (xs ys : List ℕ) → operand_list (register_text r) (operand_list (operand_text o) xs) ≡ operand_list (register_text s) (operand_list (operand_text p) ys) → (r ≡ s) × (o ≡ p) × (xs ≡ ys)
compared_same r s o p xs ys e =
    let t = register_listed r s (operand_list (operand_text o) xs) (operand_list (operand_text p) ys) e in
    let u = listed_same (operand_text o) xs (operand_text p) ys (lacks_operand 44 refl o) (lacks_operand 44 refl p) t.1 in
    (t.0, operand_injective o p u.0, u.1)

-- the text of a jump's target
target_of : (j : Jump) (i : SourceItem) → JumpsBy j i → (target : List ℕ) × (item_operands i ≡ operands_text (jump_operands j target))
target_of j i (inl p) = (offset_text p.0, ap item_operands p.1 ∙ sym (grind arith))
target_of j i (inr p) = (p.0, ap item_operands p.1)

-- two jumps with the same mnemonic and the same operands are equal, with the same target
jumps_same : (j l : Jump) (t u : List ℕ) → jump_mnemonic j ≡ jump_mnemonic l → operands_text (jump_operands j t) ≡ operands_text (jump_operands l u) → (j ≡ l) × (t ≡ u)
jumps_same j l t u m e = grind (arith, compared_same)

same_target : (j l : Jump) (i k : SourceItem) → (p : JumpsBy j i) → (q : JumpsBy l k) → HasLine i → HasLine k → j ≡ l → (target_of j i p).0 ≡ (target_of l k q).0 → i ≡ k
unfolding target_of
same_target j l i k (inl p) (inl q) h g e t = p.1 ∙ (λ x. statement (jump_by (e x) (offset_injective p.0 q.0 t x))) ∙ sym q.1
same_target j l i k (inl p) (inr q) h g e t = absurd (name_no_offset q.0 p.0 (subst (λ x. HasLine x) q.1 g) (sym t))
same_target j l i k (inr p) (inl q) h g e t = absurd (name_no_offset p.0 q.0 (subst (λ x. HasLine x) p.1 h) t)
same_target j l i k (inr p) (inr q) h g e t = p.1 ∙ (λ x. jump (e x) (t x)) ∙ sym q.1

same_jump : (m : Mnemonic) → IsOfJump m → (i k : SourceItem) → item_mnemonic i ≡ Some m → item_mnemonic k ≡ Some m → HasLine i → HasLine k → item_operands i ≡ item_operands k → i ≡ k
same_jump m is i k a b h g e =
    let p = of_jump m i is a in
    let q = of_jump m k is b in
    let t = target_of p.0 i p.2 in
    let u = target_of q.0 k q.2 in
    let s = jumps_same p.0 q.0 t.0 u.0 (p.1 ∙ sym q.1) (sym t.1 ∙ e ∙ u.1) in
    same_target p.0 q.0 i k p.2 q.2 h g s.0 s.1

same_shaped : (m : Mnemonic) (i j : SourceItem) → Shape m i → Shape m j → item_mnemonic i ≡ Some m → item_mnemonic j ≡ Some m → HasLine i → HasLine j → item_operands i ≡ item_operands j → i ≡ j
same_shaped (mnemonic.Alu op width) i j p q a b h k e =
    let t = register_listed p.0 q.0 (operand_text p.1) (operand_text q.1) (between i j _ _ p.2 q.2 e) in
    let o = operand_injective p.1 q.1 t.1 in
    p.2 ∙ (λ x. statement (statement_kind.Insn (insn.Alu op width (t.0 x) (o x)))) ∙ sym q.2
same_shaped mnemonic.Ja i j p q a b h k e = same_jump mnemonic.Ja tt i j a b h k e
same_shaped mnemonic.JaLong i j p q a b h k e = same_jump mnemonic.JaLong tt i j a b h k e
same_shaped (mnemonic.Branch comparison width) i j p q a b h k e = same_jump (mnemonic.Branch comparison width) tt i j a b h k e
same_shaped mnemonic.Call i j p q a b h k e =
    p.1 ∙ ap (λ n. statement (statement_kind.Insn (insn.Call n))) (signed_injective p.0 q.0 (between i j _ _ p.1 q.1 e)) ∙ sym q.1
same_shaped mnemonic.CallLocal i j p q a b h k e = same_jump mnemonic.CallLocal tt i j a b h k e
same_shaped (mnemonic.Load size) i j p q a b h k e =
    let t = register_listed p.0 q.0 (place_text p.1 p.2) (place_text q.1 q.2) (between i j _ _ p.3 q.3 e) in
    let s = place_same p.1 q.1 p.2 q.2 t.1 in
    p.3 ∙ (λ x. statement (statement_kind.Insn (insn.Load size (t.0 x) (s.0 x) (s.1 x)))) ∙ sym q.3
same_shaped (mnemonic.LoadSigned size) i j p q a b h k e =
    let t = register_listed p.0 q.0 (place_text p.1 p.2) (place_text q.1 q.2) (between i j _ _ p.3 q.3 e) in
    let s = place_same p.1 q.1 p.2 q.2 t.1 in
    p.3 ∙ (λ x. statement (statement_kind.Insn (insn.LoadSigned size (t.0 x) (s.0 x) (s.1 x)))) ∙ sym q.3
same_shaped (mnemonic.StoreImm size) i j p q a b h k e =
    let t = place_listed p.0 q.0 p.1 q.1 (signed_decimal p.2) (signed_decimal q.2) (between i j _ _ p.3 q.3 e) in
    let n = signed_injective p.2 q.2 t.2 in
    p.3 ∙ (λ x. statement (statement_kind.Insn (insn.StoreImm size (t.0 x) (t.1 x) (n x)))) ∙ sym q.3
same_shaped _ i j p q a b h k e = grind (arith, register_listed, place_listed, between, register_injective, wide_injective)

-- a mnemonic and operands determine one item
pub same_code : (m : Mnemonic) (i j : SourceItem) → item_mnemonic i ≡ Some m → item_mnemonic j ≡ Some m → HasLine i → HasLine j → item_operands i ≡ item_operands j → i ≡ j
same_code m i j a b h k e = same_shaped m i j (shape_of m i a) (shape_of m j b) a b h k e
