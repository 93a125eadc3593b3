-- Lengths of the JSON texts of lists and maps made from others.
use Rattle.value_table.proofs.Prelude.{◌≡◌, ℕ, zero, suc, ◌+◌, ◌<◌, ◌≤◌, ◌/◌, ◌^◌, List, [], ◌∷◌, ◌++◌, length, decimal, ◌∙◌, arith, length-append, true, cases_lt, decimal_step, decimal_digit, quoted, Value, list, Items, no_items, item, no_entries, list_of, items_push, items_join, json_text, items_text, entries_text, part_of, value_in, entries_at, commas, with_one, Part}
use Rattle.value_store.specs.Value.{map}

-- ---- capped sums

-- ---- lists

push_behind : (is : Items) (v : Value) → length (items_text true (items_push is v)) ≡ length (items_text true is) + (1 + length (json_text v))
push_behind no_items v = let l = length-append (json_text v) (items_text true no_items) in omega (arith, l)
push_behind (item w is) v = grind (arith, length-append, push_behind is v)

pub push_long : (is : Items) (v : Value) (n : ℕ) → length (list_of is) ≡ n
    → length (json_text (list (items_push is v))) ≡ length (json_text (list is)) + commas n 1 + length (json_text v)
push_long no_items v zero e = let l = length-append (json_text v) (items_text true no_items) in omega (arith, l)
push_long (item w is) v (suc n) e = grind (arith, push_behind, length-append)
push_long _ v _ e = absurd (omega (arith, e))

join_behind : (is js : Items) → length (items_text true (items_join is js)) + 1 ≡ length (items_text true is) + length (items_text true js)
join_behind no_items js = omega arith
join_behind (item w is) js = grind (arith, length-append, join_behind is js)

pub join_long : (is js : Items) (n m : ℕ) → length (list_of is) ≡ n → length (list_of js) ≡ m
    → length (json_text (list (items_join is js))) + 2 ≡ length (json_text (list is)) + commas n m + length (json_text (list js))
join_long no_items js zero m e f = omega arith
join_long (item w is) no_items (suc n) zero e f = grind (arith, length-append, join_behind)
join_long (item w is) (item v js) (suc n) (suc m) e f = grind (arith, length-append, join_behind)
join_long (item w is) _ (suc n) _ e f = absurd (omega (arith, f))
join_long _ js _ m e f = absurd (omega (arith, e))

behind_long : (is : Items) → 1 ≤ length (items_text true is)
behind_long no_items = omega arith
behind_long (item v is) = omega arith

pub list_long : (is : Items) → 2 ≤ length (json_text (list is))
list_long no_items = omega arith
list_long (item v is) = omega (arith, length-append (json_text v) (items_text true is), behind_long is)

-- ---- maps

entry_behind : (later : List ℕ) (key : List ℕ) (v : Value)
    → length (quoted key ++ (58 ∷ (json_text v ++ later))) ≡ length (quoted key) + 1 + length (json_text v) + length later
entry_behind later key v = omega (arith, length-append (quoted key) (58 ∷ (json_text v ++ later)), length-append (json_text v) later)

put_behind : (bytes : List ℕ) (vs : List Value) (ks : List Part) (rs : List ℕ) (k : Part) (x i : ℕ) → length ks ≡ length rs → i ≤ length ks
    → length (entries_text true (entries_at bytes vs (with_one i k ks) (with_one i x rs))) ≡ length (entries_text true (entries_at bytes vs ks rs)) + 2 + length (quoted (part_of bytes k)) + length (json_text (value_in vs x))
put_behind bytes vs [] [] k x zero e h = let l = entry_behind (entries_text true no_entries) (part_of bytes k) (value_in vs x) in omega (arith, l)
put_behind bytes vs [] [] k x (suc i) e h = absurd (omega (arith, h))
put_behind bytes vs (p ∷ ks) (r ∷ rs) k x zero e h = grind (arith, entry_behind)
put_behind bytes vs (p ∷ ks) (r ∷ rs) k x (suc i) e h = grind (arith, entry_behind, put_behind bytes vs ks rs k x i (omega (arith, e)) (omega (arith, h)))
put_behind bytes vs _ _ k x i e h = absurd (omega (arith, e))

pub put_long : (bytes : List ℕ) (vs : List Value) (ks : List Part) (rs : List ℕ) (k : Part) (x i n : ℕ) → length ks ≡ length rs → length ks ≡ n → i ≤ length ks
    → length (json_text (map (entries_at bytes vs (with_one i k ks) (with_one i x rs)))) ≡ length (json_text (map (entries_at bytes vs ks rs))) + (1 + commas n 1) + length (quoted (part_of bytes k)) + length (json_text (value_in vs x))
put_long bytes vs [] [] k x zero zero e c h = let l = entry_behind (entries_text true no_entries) (part_of bytes k) (value_in vs x) in omega (arith, l)
put_long bytes vs [] [] k x zero (suc n) e c h = absurd (omega (arith, c))
put_long bytes vs [] [] k x (suc i) n e c h = absurd (omega (arith, h))
put_long bytes vs (p ∷ ks) (r ∷ rs) k x i zero e c h = absurd (omega (arith, c))
put_long bytes vs (p ∷ ks) (r ∷ rs) k x zero (suc n) e c h = grind (arith, entry_behind)
put_long bytes vs (p ∷ ks) (r ∷ rs) k x (suc i) (suc n) e c h = grind (arith, put_behind, entry_behind)
put_long bytes vs _ _ k x i n e c h = absurd (omega (arith, e))

-- ---- ints

-- the number of digits of a number; 0 has none
abbrev pub rest_digits : ℕ → ℕ
rest_digits zero = 0
rest_digits (suc n) = length (decimal (suc n))

rest_is : (n : ℕ) → 0 < n → rest_digits n ≡ length (decimal n)
rest_is n h = grind arith

pub decimal_long : (n : ℕ) → n < 2 ^ 64 → length (decimal n) ≡ 1 + rest_digits (n / 10)
decimal_long n h = grind (arith, cases_lt, decimal_digit, rest_is, decimal_step, length-append, decimal)

-- the number of digits is one more than that of the tenth
pub rest_step : (n : ℕ) → 0 < n → n < 2 ^ 64 → rest_digits n ≡ 1 + rest_digits (n / 10)
rest_step n some h = rest_is n some ∙ decimal_long n h

-- ---- texts
