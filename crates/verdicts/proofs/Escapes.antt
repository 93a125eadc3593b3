-- The escape of a text that is made from its last byte to its first.
use Rattle.std.proofs.Common.{◌≡◌, ◌+◌, ◌-◌, ◌*◌, ◌<◌, ◌≤◌, ℕ, zero, suc, List, [], ◌∷◌, ◌++◌, length, take, drop, get_or, arith, refl, sym, ap, ◌∙◌, append-nil, length-append, set}
use Rattle.std.proofs.lemmas.Grind.{flat_map-append}
use Rattle.std.proofs.lemmas.List.{take-append-drop, take-append-le, take_more, drop_more, take-take, length-take-le, drop_at, drop_all, get_or-take, set_split}
use Rattle.json.specs.Print.{escape, escape_byte}

-- an escape has at least one byte; if it has only one, it is the byte
record EscapesByte (x : ℕ) : Type 0 where
  least : 1 ≤ length (escape_byte x)
  most : length (escape_byte x) ≤ 6
  tight : length (escape_byte x) ≡ 1 → escape_byte x ≡ x ∷ []

byte : (x : ℕ) → EscapesByte x
unfolding escape_byte
byte x = grind arith

escape-append : (xs ys : List ℕ) → escape (xs ++ ys) ≡ escape xs ++ escape ys
escape-append xs ys = flat_map-append escape_byte xs ys

pub escape-least : (s : List ℕ) → length s ≤ length (escape s)
escape-least [] = omega arith
escape-least (x ∷ xs) =
    let more = escape-least xs in
    let least = (byte x).least in
    omega (arith, length-append (escape_byte x) (escape xs))

-- an escape that is no longer than the text is the text
pub escape-tight : (s : List ℕ) → length (escape s) ≡ length s → escape s ≡ s
escape-tight [] e = refl
escape-tight (x ∷ xs) e =
    let rest = escape-least xs in
    let least = (byte x).least in
    let both = length-append (escape_byte x) (escape xs) in
    let one : escape_byte x ≡ x ∷ [] = (byte x).tight (omega arith) in
    let more : escape xs ≡ xs = escape-tight xs (omega arith) in
    (λ i. one i ++ more i)

-- the first `left` bytes of the text are not escaped yet; the escapes of the others begin at `end` of the buffer
pub record IsSpread (text buffer : List ℕ) (left end : ℕ) : Type 0 where
  pub within : left ≤ length text
  pub room : end ≡ length (escape (take left text))
  pub size : end ≤ length buffer
  pub front : take left buffer ≡ take left text
  pub back : drop end buffer ≡ escape (drop left text)

pub spread_start : (buffer : List ℕ) (left : ℕ) → left ≤ length buffer → length buffer ≡ length (escape (take left buffer))
    → IsSpread (take left buffer) buffer left (length buffer)
spread_start buffer left within room = record {
  within = omega (arith, length-take-le left buffer within);
  room = room ∙ ap (λ s. length (escape s)) (sym (take-take left left buffer (omega arith)));
  size = omega arith;
  front = sym (take-take left left buffer (omega arith));
  back = drop_all (length buffer) buffer (omega arith) ∙ ap escape (sym (drop_all left (take left buffer) (omega (arith, length-take-le left buffer within))));
}

pub spread_end : (text buffer : List ℕ) (left end : ℕ) → IsSpread text buffer left end → end ≤ left → buffer ≡ escape text
spread_end text buffer left end is no_gap =
    let long = escape-least (take left text) in
    let len = length-take-le left text is.within in
    let same : end ≡ left = (let room = is.room in omega arith) in
    let tight : escape (take left text) ≡ take left text = escape-tight (take left text) (let room = is.room in omega arith) in
    sym (take-append-drop left buffer)
    ∙ (λ i. (is.front ∙ sym tight) i ++ (ap (λ (n : ℕ). drop n buffer) (sym same) ∙ is.back) i)
    ∙ sym (escape-append (take left text) (drop left text))
    ∙ ap escape (take-append-drop left text)

-- some byte is left if there is a gap
pub some_left : (text buffer : List ℕ) (left end : ℕ) → IsSpread text buffer left end → left < end → 0 < left
some_left text buffer zero end is gap = absurd (let room = is.room in omega arith)
some_left text buffer (suc left) end is gap = omega arith

-- the byte that is next
pub next_is : (text buffer : List ℕ) (left end : ℕ) → IsSpread text buffer (left + 1) end → get_or buffer left 0 ≡ get_or text left 0
next_is text buffer left end is =
    sym (get_or-take (left + 1) buffer left 0 (omega arith))
    ∙ ap (λ (s : List ℕ). get_or s left 0) is.front
    ∙ get_or-take (left + 1) text left 0 (omega arith)

-- the escapes of one more byte
escape-more : (text : List ℕ) (left : ℕ) → left + 1 ≤ length text → escape (take (left + 1) text) ≡ escape (take left text) ++ escape_byte (get_or text left 0)
escape-more text left within =
    ap escape (take_more text left 0 (omega arith))
    ∙ escape-append (take left text) (get_or text left 0 ∷ [])
    ∙ ap (λ (s : List ℕ). escape (take left text) ++ s) (append-nil (escape_byte (get_or text left 0)))

-- the room for its escape
pub next_fits : (text buffer : List ℕ) (left end : ℕ) → IsSpread text buffer (left + 1) end
    → end ≡ length (escape (take left text)) + length (escape_byte (get_or buffer left 0))
next_fits text buffer left end is =
    is.room
    ∙ ap length (escape-more text left is.within)
    ∙ length-append (escape (take left text)) (escape_byte (get_or text left 0))
    ∙ ap (λ (x : ℕ). length (escape (take left text)) + length (escape_byte x)) (sym (next_is text buffer left end is))

pub next_room : (text buffer : List ℕ) (left end : ℕ) → IsSpread text buffer (left + 1) end
    → left + length (escape_byte (get_or buffer left 0)) ≤ end
next_room text buffer left end is =
    let long = escape-least (take left text) in
    let within = is.within in
    let len = length-take-le left text (omega arith) in
    let fits = next_fits text buffer left end is in
    omega arith

pub spread_next : (text buffer more : List ℕ) (left end start : ℕ) → IsSpread text buffer (left + 1) end
    → start + length (escape_byte (get_or buffer left 0)) ≡ end
    → more ≡ take start buffer ++ (escape_byte (get_or buffer left 0) ++ drop end buffer)
    → IsSpread text more left start
spread_next text buffer more left end start is here written =
    let x = get_or buffer left 0 in
    let within = is.within in
    let size = is.size in
    let fits = next_fits text buffer left end is in
    let long = escape-least (take left text) in
    let some = length-take-le left text (omega arith) in
    let first = length-take-le start buffer (omega arith) in
    let all = length-append (take start buffer) (escape_byte x ++ drop end buffer) in
    record {
      within = omega arith;
      room = omega arith;
      size = omega (arith, ap length written);
      front =
          ap (λ (s : List ℕ). take left s) written
          ∙ take-append-le left (take start buffer) (escape_byte x ++ drop end buffer) (omega arith)
          ∙ take-take left start buffer (omega arith)
          ∙ sym (take-take left (left + 1) buffer (omega arith))
          ∙ ap (λ (s : List ℕ). take left s) is.front
          ∙ take-take left (left + 1) text (omega arith);
      back =
          ap (λ (s : List ℕ). drop start s) written
          ∙ drop_at (take start buffer) (escape_byte x ++ drop end buffer) start first
          ∙ (λ i. escape_byte (next_is text buffer left end is i) ++ is.back i)
          ∙ ap escape (sym (drop_more text left 0 (omega arith)));
    }

-- ---- one byte

-- the byte before `end` is written
pub byte_put : (buffer : List ℕ) (end x : ℕ) → 0 < end → end ≤ length buffer → escape_byte x ≡ x ∷ []
    → set buffer (end - 1) x ≡ take (end - 1) buffer ++ (escape_byte x ++ drop end buffer)
byte_put buffer end x some within plain =
    set_split buffer (end - 1) x (omega arith)
    ∙ (λ i. take (end - 1) buffer ++ (sym plain i ++ drop (let same : suc (end - 1) ≡ end = omega arith in same i) buffer))

-- ---- how many bytes are added

pub record IsAdded (text : List ℕ) (n more : ℕ) : Type 0 where
  pub len : n + more ≡ length (escape (take n text))
  pub bound : more ≤ 5 * n

pub added_start : (text : List ℕ) → IsAdded text 0 0
added_start text = record { len = refl; bound = omega arith }

pub added_next : (text : List ℕ) (n more by x : ℕ) → IsAdded text n more → n < length text → x ≡ get_or text n 0
    → length (escape_byte x) ≡ by + 1 → by ≤ 5 → IsAdded text (n + 1) (more + by)
added_next text n more by x is within here adds most =
    let both = ap length (escape-more text n (omega arith)) ∙ length-append (escape (take n text)) (escape_byte (get_or text n 0)) in
    let same : length (escape_byte x) ≡ length (escape_byte (get_or text n 0)) = ap (λ (y : ℕ). length (escape_byte y)) here in
    let len = is.len in
    let bound = is.bound in
    record { len = omega arith; bound = omega arith }

pub added_plain : (text : List ℕ) (n more x : ℕ) → IsAdded text n more → n < length text → x ≡ get_or text n 0
    → escape_byte x ≡ x ∷ [] → IsAdded text (n + 1) more
added_plain text n more x is within here plain =
    let both = ap length (escape-more text n (omega arith)) ∙ length-append (escape (take n text)) (escape_byte (get_or text n 0)) in
    let same : 1 ≡ length (escape_byte (get_or text n 0)) = sym (ap length plain) ∙ ap (λ (y : ℕ). length (escape_byte y)) here in
    let len = is.len in
    let bound = is.bound in
    record { len = omega arith; bound = omega arith }
