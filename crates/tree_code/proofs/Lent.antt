-- A text among the constants is found by its address and length.
use Rattle.tree_code.proofs.Prelude.{◌≡◌, ℕ, ◌+◌, Bool, true, false, ◌||◌, List, [], ◌∷◌, ◌++◌, length, Option, Some, bytes_eq, refl, sym, ap, ◌∙◌, append_assoc, append-nil, if◌then◌else◌, ◌≤◌, take, drop, arith, length-append, option_map, list_any, AllByRecursion, bytes_decides, joined, place_of, with_text, with_texts, drop-drop, drop_at, take_at, list_any-append, constants_of, start_memory, bytes_at, HasText, address_of, TextsStand, TextsStay, constants_limit}

-- ---- texts that were added stay when more are added

-- the text is one of these
abbrev pub IsAmong : List (List ℕ) → List ℕ → Type 0
IsAmong texts t = list_any (bytes_eq t) texts ≡ true

own : (t : List ℕ) → bytes_eq t t ≡ true
own t = (bytes_decides t t).1 refl

one_more : (texts : List (List ℕ)) (t : List ℕ) (there : Bool) → (more : List (List ℕ)) × ((if there then texts else texts ++ t ∷ []) ≡ texts ++ more)
one_more texts t true = ([], sym (append-nil texts))
one_more texts t false = (t ∷ [], refl)

pub begins_with : (texts used : List (List ℕ)) → (more : List (List ℕ)) × (with_texts texts used ≡ texts ++ more)
begins_with texts [] = ([], sym (append-nil texts))
begins_with texts (t ∷ used) = grind (arith, one_more, append_assoc, begins_with (with_text texts t) used)

among_later : (t : List ℕ) (texts used : List (List ℕ)) → IsAmong texts t → IsAmong (with_texts texts used) t
among_later t texts used h = let rest = begins_with texts used in rw (rest.1, list_any-append, h) refl

pub each_among : (texts used : List (List ℕ)) → AllByRecursion (IsAmong (with_texts texts used)) used
each_among texts [] = tt
each_among texts (t ∷ used) = (among_later t (with_text texts t) used (grind (arith, list_any-append, own)), each_among (with_text texts t) used)

-- the joined texts begin with the first ones, joined
joined-append : (xs ys : List (List ℕ)) → joined (xs ++ ys) ≡ joined xs ++ joined ys
joined-append [] ys = refl
joined-append (x ∷ xs) ys = ap (λ (bs : List ℕ). x ++ bs) (joined-append xs ys) ∙ sym (append_assoc x (joined xs) (joined ys))

-- ---- their places

-- the text has a place among some texts; its bytes are at this place, and anything may follow them
record Placed (t : List ℕ) (place : Option ℕ) (bytes rest : List ℕ) : Type 0 where
  pub n : ℕ
  pub place_is : place ≡ Some n
  pub is : take (length t) (drop n (bytes ++ rest)) ≡ t
  pub within : n + length t ≤ length bytes

placed_by : (t s bytes rest : List ℕ) (place : Option ℕ) (same more : Bool) → bytes_eq t s ≡ same → (more ≡ true → Placed t place bytes rest)
    → (same || more) ≡ true → Placed t (if same then Some 0 else option_map (λ m. length s + m) place) (s ++ bytes) rest
placed_by t s bytes rest place true more e later h = grind (arith, bytes_decides t s, append_assoc, take_at, length-append)
placed_by t s bytes rest place false more e later h =
    let p = later h in
    let gone = ap (drop (length s + p.n)) (append_assoc s bytes rest) ∙ sym (drop-drop p.n (length s) (s ++ (bytes ++ rest))) ∙ ap (drop p.n) (drop_at s (bytes ++ rest) (length s) refl) in
    record { n = length s + p.n; place_is = ap (option_map (λ m. length s + m)) p.place_is; is = ap (take (length t)) gone ∙ p.is; within = omega (arith, length-append s bytes) }

placed : (t : List ℕ) (texts : List (List ℕ)) (rest : List ℕ) → IsAmong texts t → Placed t (place_of t texts) (joined texts) rest
placed t [] rest h = absurd (cc)
placed t (s ∷ more) rest h = placed_by t s (joined more) rest (place_of t more) (bytes_eq t s) (list_any (bytes_eq t) more) refl (placed t more rest) h

lent_by : (t constants : List ℕ) (n : ℕ) → take (length t) (drop n constants) ≡ t → n + length t ≤ length constants
    → bytes_at constants (0x4_0000_0000 + n) (length t) ≡ Some t
unfolding constants_of start_memory
lent_by t constants n is within = grind arith

-- if the constants begin with all texts, each text is at the address that code uses
has_text : (t : List ℕ) (texts : List (List ℕ)) (rest : List ℕ) → IsAmong texts t → length (joined texts) ≤ constants_limit
    → HasText (joined texts ++ rest) (address_of texts t) t
has_text t texts rest among small =
    let p = placed t texts rest among in
    grind (arith, lent_by t (joined texts ++ rest) p.n p.is, length-append (joined texts) rest)

all_stand : (texts : List (List ℕ)) (rest : List ℕ) → length (joined texts) ≤ constants_limit → (used : List (List ℕ)) → AllByRecursion (IsAmong texts) used
    → TextsStand (joined texts ++ rest) texts used
all_stand texts rest small [] among = tt
all_stand texts rest small (t ∷ used) among = (has_text t texts rest among.0 small, all_stand texts rest small used among.1)

-- so are the texts of an expression once they are added, even if more are added later
pub texts_stand : TextsStay
texts_stand texts used later small =
    let more = begins_with (with_texts texts used) later in
    let whole = ap joined more.1 ∙ joined-append (with_texts texts used) more.0 in
    rw whole (all_stand (with_texts texts used) (joined more.0) (omega (arith, ap length whole, length-append (joined (with_texts texts used)) (joined more.0))) used (each_among texts used))
