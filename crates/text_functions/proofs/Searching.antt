-- The first and the last of some places.
use Rattle.text_functions.proofs.Prelude.{◌≡◌, ◌∙◌, ◌<◌, ◌≤◌, ◌+◌, ◌-◌, ◌⊎◌, inl, inr, ℕ, zero, suc, Bool, true, false, ◌&&◌, cond, List}
use Rattle.text_functions.proofs.Prelude.{[], ◌∷◌, Option, Some, None, option_map, length, take, drop, min, refl, sym, ap, arith}
use Rattle.text_functions.proofs.Prelude.{cases_lt, drop-drop, drop-take, drop_min, length-drop, length-take, nat_eq, begins, first_from}
use Rattle.text_functions.proofs.Prelude.{first_place, is_at, last_below, last_place}

pub first_none : (has : ℕ → Bool) (k n : ℕ) → ((j : ℕ) → k ≤ j → j < k + n → has j ≡ false) → first_from has k n ≡ None
first_none has k zero none = refl
first_none has k (suc n) none =
    ap (λ v. cond v (Some k) (first_from has (suc k) n)) (none k (omega arith) (omega arith))
    ∙ first_none has (suc k) n (λ j a b. none j (omega arith) (omega arith))

here : (has : ℕ → Bool) (k i : ℕ) (other : Option ℕ) → k ≡ i → has i ≡ true → cond (has k) (Some k) other ≡ Some i
here has k i other e h = ap (λ j. cond (has j) (Some j) other) e ∙ ap (λ v. cond v (Some i) other) h

first_step : (has : ℕ → Bool) (k i : ℕ) (later : Option ℕ) → (k < i) ⊎ (i ≤ k) → k ≤ i → has i ≡ true → (k < i → has k ≡ false) → (k < i → later ≡ Some i)
    → cond (has k) (Some k) later ≡ Some i
first_step has k i later (inl l) a h lack go = ap (λ v. cond v (Some k) later) (lack l) ∙ go l
first_step has k i later (inr l) a h lack go = here has k i later (omega arith) h

pub first_at : (has : ℕ → Bool) (k n i : ℕ) → k ≤ i → i < k + n → has i ≡ true → ((j : ℕ) → k ≤ j → j < i → has j ≡ false) → first_from has k n ≡ Some i
first_at has k zero i a b h before = let no : ⊥ = omega arith in absurd no
first_at has k (suc n) i a b h before =
    first_step has k i (first_from has (suc k) n) (cases_lt k i) a h (λ l. before k (omega arith) l)
    (λ l. first_at has (suc k) n i (omega arith) (omega arith) h (λ j c d. before j (omega arith) d))

pub last_none : (has : ℕ → Bool) (n : ℕ) → ((j : ℕ) → j < n → has j ≡ false) → last_below has n ≡ None
last_none has zero none = refl
last_none has (suc n) none =
    ap (λ v. cond v (Some n) (last_below has n)) (none n (omega arith)) ∙ last_none has n (λ j b. none j (omega arith))

last_step : (has : ℕ → Bool) (n i : ℕ) (others : Option ℕ) → (i < n) ⊎ (n ≤ i) → i < suc n → has i ≡ true → (i < n → has n ≡ false) → (i < n → others ≡ Some i)
    → cond (has n) (Some n) others ≡ Some i
last_step has n i others (inl m) l h lack go = ap (λ v. cond v (Some n) others) (lack m) ∙ go m
last_step has n i others (inr m) l h lack go = here has n i others (omega arith) h

pub last_at : (has : ℕ → Bool) (n i : ℕ) → i < n → has i ≡ true → ((j : ℕ) → i < j → j < n → has j ≡ false) → last_below has n ≡ Some i
last_at has zero i l h after = let no : ⊥ = omega arith in absurd no
last_at has (suc n) i l h after =
    last_step has n i (last_below has n) (cases_lt i n) l h (λ m. after n m (omega arith)) (λ m. last_at has n i m h (λ j a b. after j a (omega arith)))

cut_step : (has : ℕ → Bool) (a n : ℕ) → (n < a) ⊎ (a ≤ n) → a ≤ suc n → (a ≤ n → has n ≡ false) → (a ≤ n → last_below has n ≡ last_below has a)
    → cond (has n) (Some n) (last_below has n) ≡ last_below has a
cut_step has a n (inl m) l lack go = let e : suc n ≡ a = omega arith in ap (last_below has) e
cut_step has a n (inr m) l lack go = ap (λ v. cond v (Some n) (last_below has n)) (lack m) ∙ go m

-- no place from a on
pub last_cut : (has : ℕ → Bool) (a n : ℕ) → a ≤ n → ((j : ℕ) → a ≤ j → j < n → has j ≡ false) → last_below has n ≡ last_below has a
last_cut has a zero l none = let e : zero ≡ a = omega arith in ap (last_below has) e
last_cut has a (suc n) l none =
    cut_step has a n (cases_lt n a) l (λ m. none n m (omega arith)) (λ m. last_cut has a n m (λ j b c. none j b (omega arith)))

pub last_same : (p q : ℕ → Bool) (n : ℕ) → ((j : ℕ) → j < n → p j ≡ q j) → last_below p n ≡ last_below q n
last_same p q zero same = refl
last_same p q (suc n) same =
    ap (λ v. cond v (Some n) (last_below p n)) (same n (omega arith))
    ∙ ap (λ o. cond (q n) (Some n) o) (last_same p q n (λ j l. same j (omega arith)))

-- ---- places in a rest of the code points

mapped : (v : Bool) (f : ℕ → ℕ) (k : ℕ) (o : Option ℕ) → option_map f (cond v (Some k) o) ≡ cond v (Some (f k)) (option_map f o)
mapped true f k o = refl
mapped false f k o = refl

shifted : (p q : ℕ → Bool) (m k j n : ℕ) → ((i : ℕ) → q i ≡ p (m + i)) → m + k ≡ j → option_map (λ i. m + i) (first_from q k n) ≡ first_from p j n
shifted p q m k j zero same e = refl
shifted p q m k j (suc n) same e =
    mapped (q k) (λ i. m + i) k (first_from q (suc k) n)
    ∙ ap (λ v. cond v (Some (m + k)) (option_map (λ i. m + i) (first_from q (suc k) n))) (same k ∙ ap p e)
    ∙ ap (λ i. cond (p j) (Some i) (option_map (λ i. m + i) (first_from q (suc k) n))) e
    ∙ ap (λ o. cond (p j) (Some j) o) (shifted p q m (suc k) (suc j) n same (omega arith))

mapped_twice : {X : Type 0} (f : X → ℕ) (m : ℕ) (o : Option X) → option_map (λ x. m + f x) o ≡ option_map (λ i. m + i) (option_map f o)
mapped_twice f m None = refl
mapped_twice f m (Some x) = refl

same_rest : (part cs : List ℕ) (n i : ℕ) → is_at part (drop n cs) i ≡ is_at part cs (min n (length cs) + i)
same_rest part cs n i =
    ap (λ ys. begins part (drop i ys)) (sym (drop_min n cs)) ∙ ap (begins part) (drop-drop i (min n (length cs)) cs)

pub first_in_rest : {X : Type 0} (f : X → ℕ) (part cs : List ℕ) (n m : ℕ) (o : Option X) → m ≡ min n (length cs) → option_map f o ≡ first_place part (drop n cs) 0
    → option_map (λ x. m + f x) o ≡ first_place part cs (min n (length cs))
first_in_rest f part cs n m o e h =
    let size : suc (length (drop n cs)) - 0 ≡ suc (length cs) - min n (length cs) = omega (arith, length-drop n cs) in
    ap (λ k. option_map (λ x. k + f x) o) e
    ∙ mapped_twice f (min n (length cs)) o
    ∙ ap (option_map (λ i. min n (length cs) + i)) h
    ∙ shifted (is_at part cs) (is_at part (drop n cs)) (min n (length cs)) 0 (min n (length cs)) (suc (length (drop n cs)) - 0) (same_rest part cs n) (omega arith)
    ∙ ap (first_from (is_at part cs) (min n (length cs))) size

-- ---- places in a front of the code points

and_false : (v : Bool) → (v && false) ≡ false
and_false true = refl
and_false false = refl

pub begins_short : (part cs : List ℕ) → length cs < length part → begins part cs ≡ false
begins_short [] cs l = let no : ⊥ = omega arith in absurd no
begins_short (p ∷ part) [] l = refl
begins_short (p ∷ part) (c ∷ cs) l = ap (λ v. nat_eq p c && v) (begins_short part cs (omega arith)) ∙ and_false (nat_eq p c)

begins_take : (part cs : List ℕ) (n : ℕ) → length part ≤ n → begins part (take n cs) ≡ begins part cs
begins_take [] cs n l = refl
begins_take (p ∷ part) cs zero l = let no : ⊥ = omega arith in absurd no
begins_take (p ∷ part) [] (suc n) l = refl
begins_take (p ∷ part) (c ∷ cs) (suc n) l = ap (λ v. nat_eq p c && v) (begins_take part cs n (omega arith))

-- up to place n a part is in the front just where it is in the whole
same_front : (part cs : List ℕ) (n k : ℕ) → k ≤ n → is_at part (take (n + length part) cs) k ≡ is_at part cs k
same_front part cs n k l =
    let e : n + length part ≡ k + ((n - k) + length part) = omega arith in
    ap (λ m. begins part (drop k (take m cs))) e
    ∙ ap (begins part) (drop-take k ((n - k) + length part) cs)
    ∙ begins_take part (drop k cs) ((n - k) + length part) (omega arith)

-- after place n nothing is long enough
past_front : (part cs : List ℕ) (n k : ℕ) → n < k → k ≤ length (take (n + length part) cs) → is_at part (take (n + length part) cs) k ≡ false
past_front part cs n k l m =
    begins_short part (drop k (take (n + length part) cs))
    (omega (arith, length-drop k (take (n + length part) cs), length-take (n + length part) cs))

pub last_in_front : (part cs : List ℕ) (n : ℕ) → last_place part (take (n + length part) cs) (length (take (n + length part) cs)) ≡ last_place part cs (min n (length cs))
last_in_front part cs n =
    let front : List ℕ = take (n + length part) cs in
    let size : length (take (n + length part) cs) ≡ min (n + length part) (length cs) = length-take (n + length part) cs in
    last_cut (is_at part (take (n + length part) cs)) (suc (min n (length cs))) (suc (length (take (n + length part) cs))) (omega (arith, size))
    (λ j a b. past_front part cs n j (omega (arith, size)) (omega arith))
    ∙ last_same (is_at part (take (n + length part) cs)) (is_at part cs) (suc (min n (length cs))) (λ j a. same_front part cs n j (omega arith))
