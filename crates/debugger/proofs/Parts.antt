-- Bytes that are appended part by part.
use Rattle.debugger.proofs.Prelude.{◌≡◌, ℕ, suc, ◌+◌, ◌<◌, List, [], ◌∷◌, ◌++◌, length, take, Option, Result, Ok, Err, sym, ap, subst, ◌∙◌, append_assoc, arith, length-append, zero-add, nat_tests, OnErr, OnOk, take-append-le, AddsBytes}

-- a prefix of these bytes is appended
abbrev pub AddsPart : Option (List ℕ) → Option (List ℕ) → List ℕ → Type 0
AddsPart old new bytes = (n : ℕ) × (n < length bytes) × AddsBytes old new (take n bytes)

pub adds_both : (old new last : Option (List ℕ)) (front rest : List ℕ) → AddsBytes old new front → AddsBytes new last rest → AddsBytes old last (front ++ rest)
adds_both old new last front rest one other = grind (arith, nat_tests, append_assoc)

pub part_of_front : (old new : Option (List ℕ)) (front rest : List ℕ) → AddsPart old new front → AddsPart old new (front ++ rest)
part_of_front old new front rest part = grind (arith, nat_tests, length-append, take-append-le)

take_behind : (front rest : List ℕ) (n : ℕ) → take (length front + n) (front ++ rest) ≡ front ++ take n rest
take_behind [] rest n = ap (λ (k : ℕ). take k rest) (zero-add n)
take_behind (x ∷ front) rest n =
    let one : length (x ∷ front) + n ≡ suc (length front + n) = omega arith in
    ap (λ (k : ℕ). take k (x ∷ (front ++ rest))) one ∙ ap (λ (bytes : List ℕ). x ∷ bytes) (take_behind front rest n)

pub part_behind : (old new last : Option (List ℕ)) (front rest : List ℕ) → AddsBytes old new front → AddsPart new last rest → AddsPart old last (front ++ rest)
part_behind old new last front rest one part =
    let whole : AddsBytes old last (front ++ take part.0 rest) = adds_both old new last front (take part.0 rest) one part.2 in
    (length front + part.0, omega (arith, part.1, length-append front rest), subst (λ (bytes : List ℕ). AddsBytes old last bytes) (sym (take_behind front rest part.0)) whole)

pub whole_behind : {T E : Type 0} (r : Result T E) (old new last : Option (List ℕ)) (front rest : List ℕ) → AddsBytes old new front
    → OnOk r (AddsBytes new last rest) → OnOk r (AddsBytes old last (front ++ rest))
whole_behind (Ok x) old new last front rest one other = adds_both old new last front rest one other
whole_behind (Err e) old new last front rest one other = tt

pub part_left : {T E : Type 0} (r : Result T E) (old new last : Option (List ℕ)) (front rest : List ℕ) → AddsBytes old new front
    → OnErr r (AddsPart new last rest) → OnErr r (AddsPart old last (front ++ rest))
part_left (Ok x) old new last front rest one part = tt
part_left (Err e) old new last front rest one part = part_behind old new last front rest one part

-- the middle part fails
pub part_between : {T E : Type 0} (r : Result T E) (old new last : Option (List ℕ)) (front middle end : List ℕ) → AddsBytes old new front
    → AddsPart new last middle → OnErr r (AddsPart old last (front ++ (middle ++ end)))
part_between (Ok x) old new last front middle end one part = tt
part_between (Err e) old new last front middle end one part = part_behind old new last front (middle ++ end) one (part_of_front new last middle end part)
