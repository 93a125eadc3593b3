-- Binary search for the slot of a breakpoint, or for its position.
use Rattle.debugger.proofs.Prelude.{◌≡◌, ℕ, zero, suc, ◌<◌, ◌≤◌, true, false, List, [], ◌∷◌, length, get_or, Result, Ok, Err, refl, subst, arith, inl, inr, insert, nat_eq, nat_lt, OnErr, nat_cmp, list_all, IsBinarySearchResult, cases_lt, nat_tests, All-from_get_or, list_any_at, list_any_none, searched, prefix_len_is, has_breakpoint, in_order, place_of, with_breakpoint}
use Rattle.debugger.proofs.Slots.{insert_in_order}

below_each : (s : ℕ) (slots : List ℕ) (k : ℕ) → list_all (nat_lt s) slots ≡ true → k < length slots → s < get_or slots k 0
below_each s [] k all within = absurd (omega (arith, within))
below_each s (t ∷ slots) zero all within = grind (arith, nat_tests)
below_each s (t ∷ slots) (suc k) all within =
    let rest : list_all (nat_lt s) slots ≡ true = grind arith in
    below_each s slots k rest (omega (arith, within))

-- slots in order are sorted
rises : (slots : List ℕ) → in_order slots ≡ true → (i j : ℕ) → i ≤ j → j < length slots → get_or slots i 0 ≤ get_or slots j 0
rises [] ordered i j low within = absurd (omega (arith, within))
rises (s ∷ slots) ordered zero zero low within = omega arith
rises (s ∷ slots) ordered zero (suc j) low within =
    let front : list_all (nat_lt s) slots ≡ true = grind arith in
    let less = below_each s slots j front (omega (arith, within)) in
    omega (arith, less)
rises (s ∷ slots) ordered (suc i) zero low within = absurd (omega (arith, low))
rises (s ∷ slots) ordered (suc i) (suc j) low within =
    let later : in_order slots ≡ true = grind arith in
    rises slots later i j (omega (arith, low)) (omega (arith, within))

-- a slot that is found has a breakpoint
pub has_found : (slot : ℕ) (slots : List ℕ) (i : ℕ) → in_order slots ≡ true → IsBinarySearchResult (λ s. nat_cmp s slot) slots (Ok i) → has_breakpoint slot slots ≡ true
has_found slot slots i ordered is =
    let said = searched slots slot (Ok i) is (rises slots ordered) in
    let same : nat_eq (get_or slots i 0) slot ≡ true = grind (arith, nat_tests, said.1) in
    list_any_at (λ s. nat_eq s slot) slots i 0 said.0 same

-- the position of a slot that is not found: the slots before it are less, and those from it on are greater
pub has_none : (slot : ℕ) (slots : List ℕ) (i : ℕ) → in_order slots ≡ true → IsBinarySearchResult (λ s. nat_cmp s slot) slots (Err i) → has_breakpoint slot slots ≡ false
has_none slot slots i ordered is =
    let said = searched slots slot (Err i) is (rises slots ordered) in
    let other : (k : ℕ) → k < length slots → nat_eq (get_or slots k 0) slot ≡ false = λ k within.
    elim (cases_lt k i) [
      | inl low ↦ grind (arith, nat_tests, said.1 k low)
      | inr high ↦ grind (arith, nat_tests, said.2 k high within)
    ] in
    list_any_none (λ s. nat_eq s slot) slots (All-from_get_or (λ s. nat_eq s slot ≡ false) slots 0 other)

pub place_found : (slot : ℕ) (slots : List ℕ) (i : ℕ) → in_order slots ≡ true → IsBinarySearchResult (λ s. nat_cmp s slot) slots (Err i) → place_of slot slots ≡ i
place_found slot slots i ordered is =
    let said = searched slots slot (Err i) is (rises slots ordered) in
    let below : (k : ℕ) → k < i → nat_lt (get_or slots k 0) slot ≡ true = λ k low. grind (arith, nat_tests, said.1 k low) in
    let beyond : i < length slots → nat_lt (get_or slots i 0) slot ≡ false = λ within. grind (arith, nat_tests, said.2 i (omega arith) within) in
    prefix_len_is (λ s. nat_lt s slot) slots i 0 said.0 below beyond

-- if the slot is found, there is nothing to set
pub set_found : (slot : ℕ) (slots : List ℕ) (i : ℕ) → in_order slots ≡ true → IsBinarySearchResult (λ s. nat_cmp s slot) slots (Ok i) → slots ≡ with_breakpoint slot slots
set_found slot slots i ordered is = rw (has_found slot slots i ordered is) refl

-- if it is not found, it is inserted where the search ended
pub set_none : (slot : ℕ) (slots : List ℕ) (i : ℕ) → in_order slots ≡ true → IsBinarySearchResult (λ s. nat_cmp s slot) slots (Err i) → insert slots i slot ≡ with_breakpoint slot slots
set_none slot slots i ordered is = rw (has_none slot slots i ordered is, place_found slot slots i ordered is) refl

pub stays_ordered : (slot : ℕ) (slots : List ℕ) (i : ℕ) → in_order slots ≡ true → IsBinarySearchResult (λ s. nat_cmp s slot) slots (Err i) → in_order (insert slots i slot) ≡ true
stays_ordered slot slots i ordered is =
    let none = has_none slot slots i ordered is in
    subst (λ (n : ℕ). in_order (insert slots n slot) ≡ true) (place_found slot slots i ordered is) (insert_in_order slot slots none ordered)

pub none_refused : {T E : Type 0} (r : Result T E) (slot : ℕ) (slots : List ℕ) → has_breakpoint slot slots ≡ false → OnErr r (has_breakpoint slot slots ≡ false)
none_refused r slot slots none = grind arith
