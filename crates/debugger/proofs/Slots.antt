-- Breakpoints that are set and cleared.
use Rattle.debugger.proofs.Prelude.{◌≡◌, ℕ, zero, suc, ◌+◌, ◌<◌, Bool, true, false, not, ◌||◌, ◌&&◌, List, [], ◌∷◌, refl, ap, ◌∙◌, arith, subst, cond, filter, insert, nat_eq, nat_lt, if◌then◌else◌, list_all, list_any, RetainsInTurn, nat_tests, SetsAndClears, has_breakpoint, place_of, without_breakpoint, in_order}

-- the result if each call decides whether the slot passes, and changes nothing
pub retained : {F : Type 0} (R : F → ℕ → Bool → F → ℕ → Type 0) (keep : ℕ → Bool) (f : F) → ((s : ℕ) (said : Bool) (g : F) (t : ℕ) → R f s said g t → (said ≡ keep s) × (g ≡ f) × (t ≡ s)) → (slots left : List ℕ) → RetainsInTurn R f slots left → left ≡ filter keep slots
retained R keep f says [] left none = none
retained R keep f says (s ∷ slots) left kept =
    let said = says s kept.0 kept.1 kept.2 kept.3 in
    let rest = retained R keep f says slots kept.4 (subst (λ g. RetainsInTurn R g slots kept.4) said.1 kept.5) in
    kept.6 ∙ (λ i. cond (said.0 i) (said.2 i ∷ rest i) (rest i))

or_swap : (a b c : Bool) → a || (b || c) ≡ b || (a || c)
or_swap a b c = grind arith

and_swap : (a b c : Bool) → a && (b && c) ≡ b && (a && c)
and_swap a b c = grind arith

pub any-insert : (test : ℕ → Bool) (xs : List ℕ) (i x : ℕ) → list_any test (insert xs i x) ≡ test x || list_any test xs
any-insert test [] zero x = refl
any-insert test (y ∷ ys) (suc i) x = ap (λ (b : Bool). test y || b) (any-insert test ys i x) ∙ or_swap (test y) (test x) (list_any test ys)
any-insert test _ _ x = refl

all-insert : (test : ℕ → Bool) (xs : List ℕ) (i x : ℕ) → list_all test (insert xs i x) ≡ test x && list_all test xs
all-insert test [] zero x = refl
all-insert test (y ∷ ys) (suc i) x = ap (λ (b : Bool). test y && b) (all-insert test ys i x) ∙ and_swap (test y) (test x) (list_all test ys)
all-insert test _ _ x = refl

pub cleared : (slot other : ℕ) (slots : List ℕ) → has_breakpoint other (without_breakpoint slot slots) ≡ not (nat_eq slot other) && has_breakpoint other slots
cleared slot other [] = grind arith
cleared slot other (s ∷ slots) = grind (arith, nat_tests, cleared slot other slots)

above : (low high : ℕ) (slots : List ℕ) → low < high → list_all (nat_lt high) slots ≡ true → list_all (nat_lt low) slots ≡ true
above low high [] less all = refl
above low high (s ∷ slots) less all = grind (arith, nat_tests, above low high slots less)

insert_more : (slot s : ℕ) (slots : List ℕ) (n : ℕ) (below : Bool) → nat_lt s slot ≡ below → nat_eq s slot ≡ false → list_all (nat_lt s) slots ≡ true
    → in_order slots ≡ true → in_order (insert slots n slot) ≡ true → in_order (insert (s ∷ slots) (if below then 1 + n else 0) slot) ≡ true
insert_more slot s slots n below is other front later more = grind (arith, nat_tests, all-insert, above)

pub insert_in_order : (slot : ℕ) (slots : List ℕ) → has_breakpoint slot slots ≡ false → in_order slots ≡ true → in_order (insert slots (place_of slot slots) slot) ≡ true
insert_in_order slot [] new ordered = refl
insert_in_order slot (s ∷ slots) new ordered =
    let front : list_all (nat_lt s) slots ≡ true = grind arith in
    let later : in_order slots ≡ true = grind arith in
    let other : nat_eq s slot ≡ false = grind arith in
    let none : has_breakpoint slot slots ≡ false = grind arith in
    insert_more slot s slots (place_of slot slots) (nat_lt s slot) refl other front later (insert_in_order slot slots none later)

all-filter : (test keep : ℕ → Bool) (slots : List ℕ) → list_all test slots ≡ true → list_all test (filter keep slots) ≡ true
all-filter test keep [] all = refl
all-filter test keep (s ∷ slots) all = grind (arith, all-filter test keep slots)

pub filter_in_order : (keep : ℕ → Bool) (slots : List ℕ) → in_order slots ≡ true → in_order (filter keep slots) ≡ true
filter_in_order keep [] ordered = refl
filter_in_order keep (s ∷ slots) ordered = grind (arith, filter_in_order keep slots, all-filter (nat_lt s) keep slots)

pub sets_and_clears : SetsAndClears
sets_and_clears = grind (arith, nat_tests, cleared, filter_in_order, any-insert, insert_in_order)
