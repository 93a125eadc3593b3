-- The items that have a line, and that each line has one reading.
use Rattle.assembler.proofs.Prelude.{◌≡◌, ◌⊎◌, ℕ, ℤ, List, [], ◌∷◌, ◌++◌, Some, inl, inr, refl, sym, ◌∙◌, ap, subst, false, arith, Result, Ok, Err, codes, IfSome, place_text, Register, HasLine, IsLabel, SourceItem, item_text, statement, label, jump, InRange, item_of, HasNoByte, item_mnemonic, item_operands, operand_list, ReadsOperands, mnemonic_text, statement_mnemonic, jump_mnemonic, Mnemonic, append_cancel_right, is_plain, mnemonic_plain, offset_plain, register_plain, signed_decimal_plain, wide_plain, OneReading, says, out_of_range, no_form, ReadsAs, Line, LineError, NoForm, OutOfRange}
use Rattle.assembler.proofs.Lacking.{apart, lacks_append, lacks_by, lacks_gone, split_same}
use Rattle.assembler.proofs.NameBytes.{lacks_operand, lacks_place, name_plain, plain_lacks}
use Rattle.assembler.proofs.Injective.{mnemonic_injective}
use Rattle.assembler.proofs.Scanning.{only_formless, only_says, only_wide}
use Rattle.assembler.proofs.SameItem.{same_code}
use Rattle.insn_codec.specs.declared.insn.Insn.TheVariants as insn
use Rattle.insn_codec.specs.declared.statement.Statement.TheVariants as statement_kind

pub line_halves : (i : SourceItem) (m : Mnemonic) → item_mnemonic i ≡ Some m → item_text i ≡ mnemonic_text m ++ 32 ∷ item_operands i
line_halves i m e = subst (λ o. IfSome o (λ n. item_text i ≡ mnemonic_text n ++ 32 ∷ item_operands i)) e (grind arith)

abbrev pub exit : SourceItem
exit = statement (statement_kind.Insn insn.Exit)

-- an item has operands, or it is the exit, or a label
pub kind_of : (i : SourceItem) → ((m : Mnemonic) × (item_mnemonic i ≡ Some m)) ⊎ ((i ≡ exit) ⊎ ((name : List ℕ) × (i ≡ label name)))
kind_of (statement (statement_kind.Insn insn.Exit)) = inr (inl refl)
kind_of (statement x) = inl (statement_mnemonic x, refl)
kind_of (label name) = inr (inr (name, refl))
kind_of (jump j name) = inl (jump_mnemonic j, refl)

name_lacks : (c : ℕ) → is_plain c ≡ false → (name : List ℕ) → IsLabel name → HasNoByte c name
name_lacks c f name h = plain_lacks c f name (name_plain name h)

mnemonic_lacks : (c : ℕ) → is_plain c ≡ false → (m : Mnemonic) → HasNoByte c (mnemonic_text m)
mnemonic_lacks c f m = plain_lacks c f (mnemonic_text m) (mnemonic_plain m)

lacks_listed : (xs ys : List ℕ) → HasNoByte 58 xs → HasNoByte 58 ys → HasNoByte 58 (operand_list xs ys)
lacks_listed xs ys h k = lacks_append 58 xs (44 ∷ 32 ∷ ys) h (apart 44 58 refl, (apart 32 58 refl, k))

place_lacks_colon : (r : Register) (z : ℤ) → HasNoByte 58 (place_text r z)
place_lacks_colon r z = lacks_place 58 refl refl refl r z

-- no operand contains a colon
operands_lack_colon : (i : SourceItem) → HasLine i → HasNoByte 58 (item_operands i)
operands_lack_colon i h =
    grind (arith, lacks_listed, plain_lacks, register_plain, lacks_operand, offset_plain, signed_decimal_plain, place_lacks_colon, wide_plain, name_lacks)

code_lacks_colon : (i : SourceItem) (m : Mnemonic) → HasLine i → item_mnemonic i ≡ Some m → HasNoByte 58 (item_text i)
code_lacks_colon i m h e =
    subst (λ t. HasNoByte 58 t) (sym (line_halves i m e)) (lacks_append 58 (mnemonic_text m) (32 ∷ item_operands i) (mnemonic_lacks 58 refl m) (apart 32 58 refl, operands_lack_colon i h))

named_lacks_space : (name : List ℕ) → IsLabel name → HasNoByte 32 (name ++ 58 ∷ [])
named_lacks_space name h = lacks_append 32 name (58 ∷ []) (name_lacks 32 refl name h) (apart 58 32 refl, tt)

-- a line that ends with a colon is that of a label
pub label_only : (name : List ℕ) (i : SourceItem) → HasLine i → name ++ 58 ∷ [] ≡ item_text i → i ≡ label name
label_only name i h e = elim (kind_of i) [
  | inl k ↦ absurd (lacks_gone 58 (item_text i) name [] (code_lacks_colon i k.0 h k.1) (sym e))
  | inr k ↦ elim k [
    | inl p ↦ absurd (lacks_gone 58 (codes "exit") name [] (lacks_by 58 (codes "exit") refl) (sym (e ∙ ap item_text p)))
    | inr n ↦ n.1 ∙ ap label (sym (append_cancel_right name n.0 (58 ∷ []) (e ∙ ap item_text n.1)))
  ]
]

-- a line with a space is that of a mnemonic and operands
pub code_only : (word operands : List ℕ) (i : SourceItem) → HasNoByte 32 word → HasLine i → word ++ 32 ∷ operands ≡ item_text i
    → (m : Mnemonic) × (item_mnemonic i ≡ Some m) × (word ≡ mnemonic_text m) × (operands ≡ item_operands i)
code_only word operands i w h e = elim (kind_of i) [
  | inl k ↦ let t = split_same 32 word operands (mnemonic_text k.0) (item_operands i) w (mnemonic_lacks 32 refl k.0) (e ∙ line_halves i k.0 k.1) in (k.0, k.1, t.0, t.1)
  | inr k ↦ elim k [
    | inl p ↦ absurd (lacks_gone 32 (codes "exit") word operands (lacks_by 32 (codes "exit") refl) (sym (e ∙ ap item_text p)))
    | inr n ↦ absurd (lacks_gone 32 (n.0 ++ 58 ∷ []) word operands (named_lacks_space n.0 (subst (λ j. HasLine j) n.1 h)) (sym (e ∙ ap item_text n.1)))
  ]
]

-- `exit` is the exit's line
pub exit_only : (i : SourceItem) → HasLine i → codes "exit" ≡ item_text i → i ≡ exit
exit_only i h e = elim (kind_of i) [
  | inl k ↦ absurd (lacks_gone 32 (codes "exit") (mnemonic_text k.0) (item_operands i) (lacks_by 32 (codes "exit") refl) (e ∙ line_halves i k.0 k.1))
  | inr k ↦ elim k [
    | inl p ↦ p
    | inr n ↦ absurd (lacks_gone 58 (codes "exit") n.0 [] (lacks_by 58 (codes "exit") refl) (e ∙ ap item_text n.1))
  ]
]

-- a line without a space that is neither `exit` nor a label has no item
pub nothing_only : (line : List ℕ) → HasNoByte 32 line → (line ≡ codes "exit" → ⊥) → ((name : List ℕ) → line ≡ name ++ 58 ∷ [] → ⊥) → (i : SourceItem) → HasLine i → line ≡ item_text i → ⊥
nothing_only line space other colon i h e = grind arith

-- an item with this line has this mnemonic and these operands
behind : (m : Mnemonic) (operands text : List ℕ) → text ≡ mnemonic_text m ++ 32 ∷ operands → (i : SourceItem) → HasLine i → text ≡ item_text i
    → (item_mnemonic i ≡ Some m) × (operands ≡ item_operands i)
behind m operands text t i h e =
    let k = code_only (mnemonic_text m) operands i (plain_lacks 32 refl (mnemonic_text m) (mnemonic_plain m)) h (sym t ∙ e) in
    (k.1 ∙ ap (λ n. Some n) (sym (mnemonic_injective m k.0 k.2)), k.3)

pub reads_line : (m : Mnemonic) (operands text : List ℕ) (r : Result Line LineError) → text ≡ mnemonic_text m ++ 32 ∷ operands → ReadsOperands m operands r → ReadsAs text r
reads_line m operands text (Ok l) t read = (
  (t ∙ ap (λ o. mnemonic_text m ++ 32 ∷ o) read.1 ∙ sym (line_halves (item_of l) m read.0), read.2, read.3),
  λ i h e. let k = behind m operands text t i h e in same_code m i (item_of l) k.0 read.0 h read.2 (sym k.1 ∙ read.1),
)
reads_line m operands text (Err NoForm) t read = λ i h e. let k = behind m operands text t i h e in read i h k.0 k.1
reads_line m operands text (Err OutOfRange) t read = (
  (read.0, t ∙ ap (λ o. mnemonic_text m ++ 32 ∷ o) read.3 ∙ sym (line_halves read.0 m read.2), read.1, read.4),
  λ i h e range. let k = behind m operands text t i h e in
      read.4 (subst (λ x. InRange x) (same_code m i read.0 k.0 read.2 h read.1 (sym k.1 ∙ read.3)) range),
)

of_kind : (i j : SourceItem) → ((m : Mnemonic) × (item_mnemonic i ≡ Some m)) ⊎ ((i ≡ exit) ⊎ ((name : List ℕ) × (i ≡ label name))) → HasLine i → HasLine j → item_text i ≡ item_text j → i ≡ j
of_kind i j (inl k) h g e =
    let t = code_only (mnemonic_text k.0) (item_operands i) j (plain_lacks 32 refl (mnemonic_text k.0) (mnemonic_plain k.0)) g (sym (line_halves i k.0 k.1) ∙ e) in
    let m : Some t.0 ≡ Some k.0 = ap (λ n. Some n) (sym (mnemonic_injective k.0 t.0 t.2)) in
    same_code k.0 i j k.1 (t.1 ∙ m) h g t.3
of_kind i j (inr (inl p)) h g e = p ∙ sym (exit_only j g (sym (ap item_text p) ∙ e))
of_kind i j (inr (inr n)) h g e = n.1 ∙ sym (label_only n.0 j g (sym (ap item_text n.1) ∙ e))

-- two items with the same line are equal
pub same_line : (i j : SourceItem) → HasLine i → HasLine j → item_text i ≡ item_text j → i ≡ j
same_line i j h g e = of_kind i j (kind_of i) h g e

pub one_reading : OneReading
one_reading line (says i) b h k = sym (only_says line i h (λ j g e. same_line j i g h.1 (sym e ∙ h.0)) b k)
one_reading line out_of_range b h k = sym (only_wide line h (λ i g e range. h.3 (subst (λ x. InRange x) (same_line i h.0 g h.2 (sym e ∙ h.1)) range)) b k)
one_reading line no_form b h k = sym (only_formless line h b k)
