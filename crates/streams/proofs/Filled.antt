-- A buffer that is filled and consumed.
use Rattle.streams.proofs.Prelude.{◌≡◌, ℕ, zero, suc, ◌+◌, ◌-◌, ◌<◌, ◌≤◌, List, [], ◌∷◌, ◌++◌, length, take, drop, Option, Some, refl, sym, ap, ◌∙◌, arith, length-take, take-append-drop, drop-drop, buffered, GivesBytes}
use Rattle.std.specs.Prelude.{slice_range}
use Rattle.streams.specs.Streams.{KeepsBytes}
use Rattle.streams.proofs.Heard.{ready_left}

pub empty_range : (bytes : List ℕ) (start end : ℕ) → end ≤ start → slice_range bytes start end ≡ []
empty_range bytes start end none = let zero : end - start ≡ 0 = omega (arith, none) in ap (λ (n : ℕ). take n (drop start bytes)) zero

take-none : (n : ℕ) → take {A = ℕ} n [] ≡ []
take-none n = grind arith

drop-take : (n m : ℕ) (xs : List ℕ) → drop n (take m xs) ≡ take (m - n) (drop n xs)
drop-take zero m xs = let same : m - 0 ≡ m = omega arith in ap (λ (n : ℕ). take n xs) (sym same)
drop-take (suc n) zero xs = let same : 0 - suc n ≡ 0 = omega arith in ap (λ (k : ℕ). take k (drop (suc n) xs)) (sym same)
drop-take (suc n) (suc m) [] = sym (take-none (suc m - suc n))
drop-take (suc n) (suc m) (x ∷ xs) = let same : suc m - suc n ≡ m - n = omega arith in drop-take n m xs ∙ ap (λ (k : ℕ). take k (drop n xs)) (sym same)

-- the first n bytes of a range are consumed
pub range_rest : (bytes : List ℕ) (start end n : ℕ) → slice_range bytes (start + n) end ≡ drop n (slice_range bytes start end)
range_rest bytes start end n =
    let less : end - (start + n) ≡ (end - start) - n = omega arith in
    ap (λ (m : ℕ). take m (drop (start + n) bytes)) less
    ∙ ap (take ((end - start) - n)) (sym (drop-drop n start bytes))
    ∙ sym (drop-take n (end - start) (drop start bytes))

whole_range : (bytes : List ℕ) (n : ℕ) → slice_range bytes 0 n ≡ take n bytes
whole_range bytes n = let same : n - 0 ≡ n = omega arith in ap (λ (m : ℕ). take m bytes) same

-- a read into an empty buffer
module _ (old : List ℕ) (left after : Option (List ℕ)) (room n : ℕ) (bytes : List ℕ) (none : old ≡ [])
    (gives : (input : List ℕ) → left ≡ Some input → GivesBytes input after room n bytes) where
  all_left : (input : List ℕ) → buffered old left ≡ Some input → left ≡ Some input
  all_left input is =
      let r = ready_left old left input is in
      r.1 ∙ ap Some (sym (r.2 ∙ ap (λ (ready : List ℕ). ready ++ r.0) none))

  pub filled_kept : KeepsBytes (buffered old left) (buffered (slice_range bytes 0 n) after)
  filled_kept input is =
      let read = gives input (all_left input is) in
      ap (buffered (slice_range bytes 0 n)) read.rest
      ∙ ap Some (ap (λ (front : List ℕ). front ++ drop n input) (whole_range bytes n ∙ read.front) ∙ take-append-drop n input)

  pub filled_end : slice_range bytes 0 n ≡ [] → 0 < room → (input : List ℕ) → buffered old left ≡ Some input → input ≡ []
  filled_end empty some input is =
      let read = gives input (all_left input is) in
      let short = ap length (sym read.front ∙ sym (whole_range bytes n) ∙ empty) in
      read.end (omega (arith, read.within, short, length-take n input)) some
