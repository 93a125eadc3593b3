-- Lists after a row has grown, and after one is added.
use Rattle.shared_lists.proofs.Prelude.{◌≡◌, ℕ, zero, suc, ◌+◌, ◌-◌, ◌<◌, ◌≤◌, List, [], ◌∷◌, ◌++◌, length, get_or, take, drop, refl, sym, arith, length-append, length-drop, append-nil, slice_range, slice_set, drop-append_seam, get_or-append_seam, take_all, length-set, with_one, HoldsItems, ExtendsLists}
use Rattle.std.proofs.lemmas.List.{length-take}

more_set : (bs : List (List ℕ)) (b c : ℕ) (ws : List ℕ) → c < length bs
    → (rest : List ℕ) × (get_or (slice_set bs b (get_or bs b [] ++ ws)) c [] ≡ get_or bs c [] ++ rest)
more_set [] b c ws h = absurd (omega arith)
more_set (y ∷ bs) zero zero ws h = (ws, refl)
more_set (y ∷ bs) (suc b) (suc c) ws h = more_set bs b c ws (omega arith)
more_set (y ∷ bs) _ _ ws h = ([], sym (append-nil _))

-- one row grows in place
pub items_pushed : (old new : List (List ℕ)) (b : ℕ) (ws : List ℕ) → new ≡ slice_set old b (get_or old b [] ++ ws) → ExtendsLists old new
items_pushed old new b ws e = record { lists = rw e (omega (arith, length-set old b (get_or old b [] ++ ws))); items = λ c h. rw e (more_set old b c ws h) }

-- a row after the others
pub items_behind : (old new : List (List ℕ)) (b n : ℕ) (xs : List ℕ) → b ≡ length old → length xs ≡ n → new ≡ old ++ xs ∷ [] → HoldsItems new b n xs
items_behind old new b n xs at long e = grind (arith, get_or, get_or-append_seam, length-append, take_all)

pub length_one : (xs : List ℕ) (n place x : ℕ) → place ≤ n → n ≤ length xs → length (with_one place x (take n xs)) ≡ n + 1
length_one xs n place x low long = grind (arith, take, length-take, length-drop, length-append, drop)

pub whole_behind : (bs ws : List ℕ) (a b : ℕ) → a ≡ length bs → b ≡ length (bs ++ ws) → slice_range (bs ++ ws) a b ≡ ws
whole_behind bs ws a b p q = rw (p, drop-append_seam bs ws) (take_all (b - length bs) ws (omega (arith, length-append bs ws)))
