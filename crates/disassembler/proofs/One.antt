-- Each code has one listing.
use Rattle.disassembler.proofs.Prelude.{◌≡◌, ℕ, zero, suc, ◌*◌, ◌<◌, ◌≤◌, List, [], ◌∷◌, length, length-drop, refl, sym, ◌∙◌, ap, arith, SlotsAreFilled, Listing, Lists, after_statement, lines_text, statement_of, statement_slots, ended, place, Statement, OneListing}
use Rattle.disassembler.proofs.Going.{none_left, placed}

-- a listing of code begins with the statement at its front
abbrev Begun : List ℕ → List Statement → Type 0
Begun [] xs = xs ≡ []
Begun (byte ∷ bytes) [] = ⊥
Begun (byte ∷ bytes) (x ∷ xs) = (x ≡ statement_of (byte ∷ bytes)) × Lists (after_statement (byte ∷ bytes)) xs

begun : (code : List ℕ) (xs : List Statement) → Lists code xs → Begun code xs
begun [] [] ended = refl
begun [] (x ∷ xs) p = elim p [ ]
begun (byte ∷ bytes) [] p = elim p [ ]
begun (byte ∷ bytes) (x ∷ xs) (place p) = (refl, p)

same : (xs ys : List Statement) (code : List ℕ) → Lists code xs → Lists code ys → xs ≡ ys
same xs ys [] p q = begun [] xs p ∙ sym (begun [] ys q)
same [] ys (byte ∷ bytes) p q = absurd (begun (byte ∷ bytes) [] p)
same (x ∷ xs) [] (byte ∷ bytes) p q = absurd (begun (byte ∷ bytes) [] q)
same (x ∷ xs) (y ∷ ys) (byte ∷ bytes) p q =
    let left = begun (byte ∷ bytes) (x ∷ xs) p in
    let right = begun (byte ∷ bytes) (y ∷ ys) q in
    let later : xs ≡ ys = same xs ys (after_statement (byte ∷ bytes)) left.1 right.1 in
    let first : x ≡ y = left.0 ∙ sym right.0 in
    cc

goes_on : SlotsAreFilled → (byte : ℕ) (bytes : List ℕ) → length (after_statement (byte ∷ bytes)) < length (byte ∷ bytes)
goes_on filled byte bytes =
    let some = (filled.by_statement (statement_of (byte ∷ bytes))).some in
    let long = length-drop (8 * statement_slots (statement_of (byte ∷ bytes))) (byte ∷ bytes) in
    omega (arith, some, long)

-- a listing of code with at most n bytes
listed : SlotsAreFilled → (n : ℕ) (code : List ℕ) → length code ≤ n → (text : List ℕ) × Listing code text
listed filled n [] fits = ([], none_left [] refl)
listed filled zero (byte ∷ bytes) fits = absurd (omega arith)
listed filled (suc n) (byte ∷ bytes) fits =
    let later = listed filled n (after_statement (byte ∷ bytes)) (omega (arith, goes_on filled byte bytes)) in
    (_, placed (byte ∷ bytes) later.0 (λ e. cc) later.1)

pub one_of : SlotsAreFilled → OneListing
one_of filled code =
    let first = listed filled (length code) code (omega arith) in
    (first.0, first.1, λ other l. l.text_is ∙ ap lines_text (same l.statements first.1.statements code l.lists first.1.lists) ∙ sym first.1.text_is)
