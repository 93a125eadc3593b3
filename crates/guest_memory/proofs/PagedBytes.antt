-- Bytes as pages.
use Rattle.guest_memory.proofs.Prelude.{◌≡◌, ℕ, zero, suc, ◌+◌, ◌-◌, ◌*◌, ◌<◌, ◌≤◌, List, [], ◌∷◌, ◌++◌, length, take, drop, get_or, replicate, refl, sym, ap, ◌∙◌, arith, length-append, append_assoc, append-nil, zero-add, length-drop, common_steps, take-append-le, drop-append-le, drop_all, replicate-append-replicate, drop-replicate, take-replicate, drop-append-add, take-append-add, set, AllZip, overlay, part, word_of, bytes_or_zeros, joined, Page}

pub joined_length : (ps : List Page) → length (joined ps) ≡ 256 * length ps
joined_length [] = refl
joined_length (p ∷ ps) = let e = joined_length ps in let f = p.full in let g = length-append (bytes_or_zeros p.bytes) (joined ps) in omega (arith, e, f, g)

overlay_front : (a b : List ℕ) (i : ℕ) (bytes : List ℕ) → i + length bytes ≤ length a → overlay (a ++ b) i bytes ≡ overlay a i bytes ++ b
overlay_front a b i bytes h = grind (arith, common_steps)

drop_back : (a b : List ℕ) (n k j : ℕ) → length a ≡ n → j ≡ n + k → drop j (a ++ b) ≡ drop k b
drop_back a b n k j h e = let f : j ≡ length a + k = omega arith in rw f (drop-append-add a b k)

take_back : (a b : List ℕ) (n k j : ℕ) → length a ≡ n → j ≡ n + k → take j (a ++ b) ≡ a ++ take k b
take_back a b n k j h e = let f : j ≡ length a + k = omega arith in rw f (take-append-add a b k)

overlay_back : (a b : List ℕ) (i n j : ℕ) (bytes : List ℕ) → length a ≡ n → j ≡ n + i → overlay (a ++ b) j bytes ≡ a ++ overlay b i bytes
overlay_back a b i n j bytes h e =
    rw (take_back a b n i j h e, drop_back a b n (i + length bytes) (j + length bytes) h (omega arith)) (append_assoc a (take i b) _)

part_front : (a b : List ℕ) (n i : ℕ) → i + n ≤ length a → part (a ++ b) i n ≡ part a i n
part_front a b n i h = grind (arith, common_steps)

part_back : (a b : List ℕ) (n i m j : ℕ) → length a ≡ m → j ≡ m + i → part (a ++ b) j n ≡ part b i n
part_back a b n i m j h e = ap (take n) (drop_back a b m i j h e)

-- across the end of a and the start of b
part_across : (a b : List ℕ) (n i m k : ℕ) → length a ≡ m → i ≤ m → n ≡ m - i + k → k ≤ length b → part (a ++ b) i n ≡ drop i a ++ take k b
part_across a b n i m k h le e most =
    let l = length-drop i a in
    rw (drop-append-le i a b (omega arith)) (take_back (drop i a) b (m - i) k n (omega arith) e)

overlay_across : (a b : List ℕ) (i m : ℕ) (x y : List ℕ) → length a ≡ m → i + length x ≡ m → length y ≤ length b → overlay (a ++ b) i (x ++ y) ≡ overlay a i x ++ overlay b 0 y
overlay_across a b i m x y h e most =
    let l = length-append x y in
    rw (take-append-le i a b (omega arith), drop_back a b m (length y) (i + length (x ++ y)) h (omega arith), drop_all (i + length x) a (omega arith), append-nil, zero-add)
    (simp append_assoc)

word_of_zeros : (n : ℕ) → word_of (replicate n 0) ≡ 0
word_of_zeros zero = refl
word_of_zeros (suc n) = ap (λ (k : ℕ). 0 + 256 * k) (word_of_zeros n)

-- the word of bytes of zeros
pub zeros_read : (at n : ℕ) → at + n ≤ 256 → word_of (part (replicate 256 0) at n) ≡ 0
zeros_read at n h =
    ap (λ (bs : List ℕ). word_of (take n bs)) (drop-replicate at 256 0) ∙ ap word_of (take-replicate n (256 - at) 0 (omega (arith, h))) ∙ word_of_zeros n

-- pages that are clones of others
pub joined_same : (ps qs : List Page) → AllZip (λ p q. bytes_or_zeros q.bytes ≡ bytes_or_zeros p.bytes) ps qs → joined qs ≡ joined ps
joined_same [] [] h = refl
joined_same [] (q ∷ qs) h = elim h [ ]
joined_same (p ∷ ps) [] h = elim h [ ]
joined_same (p ∷ ps) (q ∷ qs) h = rw h.0 (ap (λ (xs : List ℕ). bytes_or_zeros p.bytes ++ xs) (joined_same ps qs h.1))

-- pages of zeros
pub joined_zeros : (ps : List Page) (n : ℕ) → length ps ≡ n → ((i : ℕ) (e : Page) → i < n → bytes_or_zeros (get_or ps i e).bytes ≡ replicate 256 0) → joined ps ≡ replicate (256 * n) 0
joined_zeros [] zero l z = refl
joined_zeros [] (suc n) l z = absurd (omega arith)
joined_zeros (p ∷ ps) zero l z = absurd (omega arith)
joined_zeros (p ∷ ps) (suc n) l z =
    let whole : 256 + 256 * n ≡ 256 * suc n = omega arith in
    rw (z 0 p (omega arith), joined_zeros ps n (omega arith) (λ i e inside. z (suc i) e (omega arith)), replicate-append-replicate {A = ℕ} 256 (256 * n) 0) (ap (λ (k : ℕ). replicate k 0) whole)

-- a range within one page
pub part_one : (ps : List Page) (k n i j : ℕ) (d : Page) → k < length ps → i + n ≤ 256 → j ≡ 256 * k + i → part (joined ps) j n ≡ part (bytes_or_zeros (get_or ps k d).bytes) i n
part_one [] k n i j d h le e = absurd (omega arith)
part_one (p ∷ ps) zero n i j d h le e =
    let f : j ≡ i = omega arith in let g = p.full in
    rw f (part_front (bytes_or_zeros p.bytes) (joined ps) n i (omega arith))
part_one (p ∷ ps) (suc k) n i j d h le e =
    part_back (bytes_or_zeros p.bytes) (joined ps) n (256 * k + i) 256 j p.full (omega arith) ∙ part_one ps k n i (256 * k + i) d (omega arith) le refl

-- a range across two pages
pub part_two : (ps : List Page) (k i m j : ℕ) (d e : Page) → suc k < length ps → i ≤ 256 → m ≤ 256 → j ≡ 256 * k + i
    → part (joined ps) j (256 - i + m) ≡ drop i (bytes_or_zeros (get_or ps k d).bytes) ++ take m (bytes_or_zeros (get_or ps (suc k) e).bytes)
part_two [] k i m j d e h le most ej = absurd (omega arith)
part_two (p ∷ []) k i m j d e h le most ej = absurd (omega arith)
part_two (p ∷ q ∷ ps) zero i m j d e h le most ej =
    let f : j ≡ i = omega arith in let g = q.full in let l = length-append (bytes_or_zeros q.bytes) (joined ps) in
    rw f (part_across (bytes_or_zeros p.bytes) (bytes_or_zeros q.bytes ++ joined ps) (256 - i + m) i 256 m p.full le refl (omega arith) ∙ ap (λ (xs : List ℕ). drop i (bytes_or_zeros p.bytes) ++ xs) (take-append-le m (bytes_or_zeros q.bytes) (joined ps) (omega arith)))
part_two (p ∷ q ∷ ps) (suc k) i m j d e h le most ej =
    part_back (bytes_or_zeros p.bytes) (joined (q ∷ ps)) (256 - i + m) (256 * k + i) 256 j p.full (omega arith) ∙ part_two (q ∷ ps) k i m (256 * k + i) d e (omega arith) le most refl

-- one page is written
pub joined_one : (ps : List Page) (k i j : ℕ) (d new : Page) (bytes : List ℕ) → k < length ps → i + length bytes ≤ 256 → j ≡ 256 * k + i → bytes_or_zeros new.bytes ≡ overlay (bytes_or_zeros (get_or ps k d).bytes) i bytes → joined (set ps k new) ≡ overlay (joined ps) j bytes
joined_one [] k i j d new bytes h le e is = absurd (omega arith)
joined_one (p ∷ ps) zero i j d new bytes h le e is =
    let f : j ≡ i = omega arith in let g = p.full in
    rw (f, is) (sym (overlay_front (bytes_or_zeros p.bytes) (joined ps) i bytes (omega arith)))
joined_one (p ∷ ps) (suc k) i j d new bytes h le e is =
    ap (λ (xs : List ℕ). bytes_or_zeros p.bytes ++ xs) (joined_one ps k i (256 * k + i) d new bytes (omega arith) le refl is) ∙ sym (overlay_back (bytes_or_zeros p.bytes) (joined ps) (256 * k + i) 256 j bytes p.full (omega arith))

-- two consecutive pages before and after a write across their border: `x` overwrites the end of the first
-- page from a position on, `y` the start of the second
pub record AreOverlaid (first second low high : Page) (at : ℕ) (x y : List ℕ) : Type 0 where
  pub to_end : at + length x ≡ 256
  pub short : length y ≤ 256
  pub low_is : bytes_or_zeros low.bytes ≡ overlay (bytes_or_zeros first.bytes) at x
  pub high_is : bytes_or_zeros high.bytes ≡ overlay (bytes_or_zeros second.bytes) 0 y

-- two consecutive pages are written
pub joined_two : (ps : List Page) (k i : ℕ) (d e low high : Page) (x y : List ℕ) → suc k < length ps
    → AreOverlaid (get_or ps k d) (get_or ps (suc k) e) low high i x y → joined (set (set ps k low) (suc k) high) ≡ overlay (joined ps) (256 * k + i) (x ++ y)
joined_two [] k i d e low high x y h are = absurd (omega arith)
joined_two (p ∷ []) k i d e low high x y h are = absurd (omega arith)
joined_two (p ∷ q ∷ ps) zero i d e low high x y h are =
    let f : 256 * 0 + i ≡ i = omega arith in
    let g = q.full in
    let l = length-append (bytes_or_zeros q.bytes) (joined ps) in
    let short = are.short in
    rw (f, are.low_is, are.high_is) (ap (λ (xs : List ℕ). overlay (bytes_or_zeros p.bytes) i x ++ xs) (sym (overlay_front (bytes_or_zeros q.bytes) (joined ps) 0 y (omega arith))) ∙ sym (overlay_across (bytes_or_zeros p.bytes) (bytes_or_zeros q.bytes ++ joined ps) i 256 x y p.full are.to_end (omega arith)))
joined_two (p ∷ q ∷ ps) (suc k) i d e low high x y h are =
    ap (λ (xs : List ℕ). bytes_or_zeros p.bytes ++ xs) (joined_two (q ∷ ps) k i d e low high x y (omega arith) are) ∙ sym (overlay_back (bytes_or_zeros p.bytes) (joined (q ∷ ps)) (256 * k + i) 256 (256 * suc k + i) (x ++ y) p.full (omega arith))

-- a page keeps its bytes
pub joined_kept : (ps : List Page) (k : ℕ) (d new : Page) → k < length ps → bytes_or_zeros new.bytes ≡ bytes_or_zeros (get_or ps k d).bytes → joined (set ps k new) ≡ joined ps
joined_kept [] k d new h e = absurd (omega arith)
joined_kept (p ∷ ps) zero d new h e = rw e
joined_kept (p ∷ ps) (suc k) d new h e = ap (λ (xs : List ℕ). bytes_or_zeros p.bytes ++ xs) (joined_kept ps k d new (omega arith) e)

-- a range across two pages, by the pages themselves
pub part_pages : (ps : List Page) (k i m : ℕ) (low high : Page) → low ≡ get_or ps k low → high ≡ get_or ps (suc k) high → suc k < length ps → i ≤ 256
    → m ≤ 256 → part (joined ps) (256 * k + i) (256 - i + m) ≡ drop i (bytes_or_zeros low.bytes) ++ take m (bytes_or_zeros high.bytes)
part_pages ps k i m low high l h inside first most =
    part_two ps k i m (256 * k + i) low high inside first most refl ∙ (λ t. drop i (bytes_or_zeros (sym l t).bytes) ++ take m (bytes_or_zeros (sym h t).bytes))

-- the whole of the front
pub part_whole : (front rest : List ℕ) (n m : ℕ) → length front ≡ n → m ≡ n → part (take m (front ++ rest)) 0 n ≡ front
part_whole front rest n m l e = grind (arith, common_steps)
