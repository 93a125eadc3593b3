-- Concatenations of two texts, and texts that are not words.
use Rattle.assembler.proofs.Prelude.{◌≡◌, true, false, arith, ◌≢◌, ℕ, List, [], ◌∷◌, ◌++◌, Bool, length, refl, sym, ap, ◌∙◌, length-append, codes, false≢true, bytes_eq-Decides, bytes_eq, alu_text, atomic_text, comparison_text, mnemonic_text, width_text, AluOp, AtomicOp, Comparison, Width, IsAtomic, IsOfWidth, Mnemonic, Alu, Neg, Branch}

pub either : {P : Type 0} (b : Bool) → (b ≡ true → P) → (b ≡ false → P) → P
either b f g = grind arith

pub tails : (x y : ℕ) (xs ys : List ℕ) → x ∷ xs ≡ y ∷ ys → xs ≡ ys
tails x y xs ys e = cc

pub heads : (x y : ℕ) (xs ys : List ℕ) → x ∷ xs ≡ y ∷ ys → x ≡ y
heads x y xs ys e = cc

-- two equal texts with ends of the same length have equal fronts
pub same_fronts : (xs ys a b : List ℕ) → length a ≡ length b → xs ++ a ≡ ys ++ b → xs ≡ ys
same_fronts [] [] a b l e = refl
same_fronts [] (y ∷ ys) a b l e = absurd (omega (arith, ap length e, length-append ys b))
same_fronts (x ∷ xs) [] a b l e = absurd (omega (arith, ap length e, length-append xs a))
same_fronts (x ∷ xs) (y ∷ ys) a b l e = let h = heads x y (xs ++ a) (ys ++ b) e in let t = same_fronts xs ys a b l (tails x y (xs ++ a) (ys ++ b) e) in cc

pub differ : (xs ys : List ℕ) (r : Bool) → r ≡ bytes_eq xs ys → r ≡ false → xs ≢ ys
differ xs ys r e f = λ p. false≢true (sym f ∙ e ∙ (bytes_eq-Decides xs ys).1 p)

same_name : (word name front : List ℕ) (v w : Width) → word ≡ name ++ width_text v → word ≡ front ++ width_text w → name ≡ front
same_name word name front v w e p = same_fronts name front (width_text v) (width_text w) (grind arith) (sym e ∙ p)

pub no_width : (word : List ℕ) → ((name : List ℕ) (width : Width) → word ≡ name ++ width_text width → ⊥) → (m : Mnemonic) → IsOfWidth m → word ≡ mnemonic_text m → ⊥
no_width word none (Alu op width) i e = none (alu_text op) width e
no_width word none (Neg width) i e = none (codes "neg") width e
no_width word none (Branch comparison width) i e = none (comparison_text comparison) width e
no_width word none _ i e = i

pub no_name : (word name : List ℕ) (width : Width) → word ≡ name ++ width_text width → name ≢ codes "neg"
    → ((op : AluOp) → name ≡ alu_text op → ⊥) → ((comparison : Comparison) → name ≡ comparison_text comparison → ⊥) → (m : Mnemonic) → IsOfWidth m → word ≡ mnemonic_text m → ⊥
no_name word name width e neg alu comparisons (Alu op w) i p = alu op (same_name word name (alu_text op) width w e p)
no_name word name width e neg alu comparisons (Neg w) i p = neg (same_name word name (codes "neg") width w e p)
no_name word name width e neg alu comparisons (Branch comparison w) i p = comparisons comparison (same_name word name (comparison_text comparison) width w e p)
no_name word name width e neg alu comparisons _ i p = i

pub no_atomic_front : (word : List ℕ) → ((rest : List ℕ) → word ≡ codes "atomic_" ++ rest → ⊥) → (m : Mnemonic) → IsAtomic m → word ≡ mnemonic_text m → ⊥
no_atomic_front word none m i e = grind arith

pub no_operation : (text name : List ℕ) (width : Width) → text ≡ name ++ width_text width → ((op : AtomicOp) → name ≡ atomic_text op → ⊥)
    → (op : AtomicOp) (w : Width) → text ≡ atomic_text op ++ width_text w → ⊥
no_operation text name width is none op w e = none op (same_name text name (atomic_text op) width w is e)
