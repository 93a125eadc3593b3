-- An input read line by line, chunk by chunk.
use Rattle.streams.proofs.Prelude.{◌≡◌, ℕ, zero, suc, ◌+◌, ◌-◌, ◌<◌, ◌≤◌, Bool, true, false, is_err, List, [], ◌∷◌, ◌++◌, length, take, drop, Option, Some, None, Result, Ok, Err, IfErr, OnErr, OnOk, refl, subst, sym, ap, ◌∙◌, inl, inr, arith, length-append, length-drop, length-take, take-add, take-suc, take-take, take-append-le, drop-append-le, drop-drop, get_or-take, eqb-true, eq-eqb, readable, SessionError, WriteFailed, IsFirstByte, is_byte, buffered}
use Rattle.streams.specs.Streams.{KeepsBytes}
use Rattle.streams.specs.Hearing.{OfBytes, HasNoFeed, HeardByResult, HeardSoFar, HearsEnd, ReadsSome, ReadsToEnd}
use Rattle.streams.proofs.Cut.{readable-end, readable-is, readable-within, take-end}

-- the bytes up to the first line feed
pub feed_line : (bytes : List ℕ) (end : ℕ) → IsFirstByte (is_byte 10) bytes (Some end) → HasNoFeed (take end bytes) × (take (end + 1) bytes ≡ take end bytes ++ 10 ∷ [])
feed_line bytes end found =
    let next : end + 1 ≡ suc end = omega arith in (
      λ k inside feed.
          let short : k < end = omega (arith, inside, length-take end bytes) in
          found.0.before k (omega arith) short (eq-eqb _ _ (sym (get_or-take end bytes k 0 short) ∙ feed)),
      ap (λ (n : ℕ). take n bytes) next ∙ take-suc bytes end 0 found.0.high ∙ ap (λ (b : ℕ). take end bytes ++ b ∷ []) (eqb-true _ _ found.1),
    )

-- bytes without a line feed
pub feed_none : (bytes : List ℕ) → IsFirstByte (is_byte 10) bytes None → HasNoFeed bytes
feed_none bytes nowhere k inside feed = nowhere k (omega arith) inside (eq-eqb _ _ feed)

-- the bytes left begin with those that are ready
pub ready_left : (ready : List ℕ) (left : Option (List ℕ)) (all : List ℕ) → buffered ready left ≡ Some all → (rest : List ℕ) × (left ≡ Some rest) × (all ≡ ready ++ rest)
ready_left ready (Some rest) all is = (rest, refl, cc)
ready_left ready None all is = absurd (cc)

-- the first n of the ready bytes are consumed
module _ (ready : List ℕ) (left : Option (List ℕ)) (input : List ℕ) (read n : ℕ) (is : buffered ready left ≡ Some (drop read input)) (inside : n ≤ length ready) where
  pub consumed_left : buffered (drop n ready) left ≡ Some (drop (read + n) input)
  consumed_left =
      let r = ready_left ready left (drop read input) is in
      ap (buffered (drop n ready)) r.1
      ∙ ap Some (sym (drop-append-le n ready r.0 inside) ∙ ap (drop n) (sym r.2) ∙ drop-drop n read input)

  pub consumed_bytes : take (read + n) input ≡ take read input ++ take n ready
  consumed_bytes =
      let r = ready_left ready left (drop read input) is in
      take-add read n input ∙ ap (λ (more : List ℕ). take read input ++ more) (ap (take n) r.2 ∙ take-append-le n ready r.0 inside)

  pub consumed_within : read ≤ length input → read + n ≤ length input
  consumed_within before =
      let r = ready_left ready left (drop read input) is in
      let all = ap length r.2 ∙ length-append ready r.0 in
      omega (arith, before, inside, all, length-drop read input)

pub heard_none : (holds : OfBytes) (input : List ℕ) (left written : Option (List ℕ)) → left ≡ Some input → holds [] written → HeardSoFar holds input 0 left written
heard_none holds input left written is none = record { left_is = is; within = omega arith; of_bytes = none }

-- this much of the input was read
pub heard_some : (holds : OfBytes) (input : List ℕ) (read : ℕ) (left written : Option (List ℕ)) → HeardSoFar holds input read left written
    → read ≤ 9223372036854775808 → ReadsSome holds input left written
heard_some holds input read left written g low = record {
  read = read;
  within = readable-within input 9223372036854775808 read (readable-is input) low g.within;
  left_is = g.left_is;
  of_bytes = g.of_bytes;
}

-- a read did not change the bytes left
pub heard_kept : (holds : OfBytes) (input : List ℕ) (read : ℕ) (left after written : Option (List ℕ)) → HeardSoFar holds input read left written
    → KeepsBytes left after → HeardSoFar holds input read after written
heard_kept holds input read left after written g kept = record { left_is = kept (drop read input) g.left_is; within = g.within; of_bytes = g.of_bytes }

-- the first n of the ready bytes were heard and consumed
pub heard_more : (holds next : OfBytes) (input : List ℕ) (unread : ℕ) (ready bytes rest : List ℕ) (source written new : Option (List ℕ)) (n : ℕ)
    → HeardSoFar holds input (9223372036854775808 - unread) (buffered ready source) written → unread ≤ 9223372036854775808
    → bytes ≡ take unread ready → n ≤ length bytes → rest ≡ drop n ready
    → ((heard : List ℕ) → holds heard written → next (heard ++ take n bytes) new)
    → HeardSoFar next input (9223372036854775808 - (unread - n)) (buffered rest source) new
heard_more holds next input unread ready bytes rest source written new n g low bytes_are inside rest_is hears =
    let read = 9223372036854775808 - unread in
    let size = ap length bytes_are in
    let few : n ≤ unread = omega (arith, inside, size, length-take unread ready) in
    let fits : n ≤ length ready = omega (arith, inside, size, length-take unread ready) in
    let at : 9223372036854775808 - (unread - n) ≡ read + n = omega (arith, low, few) in
    let same : take n bytes ≡ take n ready = ap (take n) bytes_are ∙ take-take n unread ready few in
    rw (at, rest_is) (record {
      left_is = consumed_left ready source input read n g.left_is fits;
      within = consumed_within ready source input read n g.left_is fits g.within;
      of_bytes =
          subst (λ (bytes : List ℕ). next bytes new)
          (ap (λ (more : List ℕ). take read input ++ more) same ∙ sym (consumed_bytes ready source input read n g.left_is fits))
          (hears (take read input) g.of_bytes);
    })

-- all readable bytes of the input were read
pub heard_all : (holds next : OfBytes) (input : List ℕ) (read : ℕ) (left written new : Option (List ℕ)) → HeardSoFar holds input read left written
    → readable input ≡ take read input → ((bytes : List ℕ) → holds bytes written → next bytes new) → ReadsToEnd next input left new
heard_all holds next input read left written new g all hears = record {
  left_is = g.left_is ∙ ap (λ (n : ℕ). Some (drop n input)) (readable-end input read g.within all);
  of_bytes = subst (λ (bytes : List ℕ). next bytes new) (sym all) (hears (take read input) g.of_bytes);
}

-- what is heard at the input's end
pub heard_rest : {A : Type 0} (goes : A → List ℕ → OfBytes) (ended broke : Bool → A → List ℕ → OfBytes) (on : OfBytes) (start : A) (before input : List ℕ) (read : ℕ)
    (left written new : Option (List ℕ)) (result : Result (Unit {0}) SessionError) → HeardSoFar (goes start before) input read left written
    → readable input ≡ take read input → OnOk result (HearsEnd goes (ended true) written new) → OnErr result (HearsEnd goes (broke true) written new)
    → IfErr result (λ e. e ≡ WriteFailed) → HeardByResult on (λ last. ended last start before) (λ last. broke last start before) input left new result
heard_rest goes ended broke on start before input read left written new (Ok u) g all over broken cause =
    inr (heard_all (goes start before) (ended true start before) input read left written new g all (over start before))
heard_rest goes ended broke on start before input read left written new (Err e) g all over broken cause =
    rw cause (inr (heard_all (goes start before) (broke true start before) input read left written new g all (broken start before)))

-- the readable bytes have been read if no byte is left, or if their maximum number was read
pub at_end : (input : List ℕ) (read : ℕ) → read ≤ 9223372036854775808 → drop read input ≡ [] → readable input ≡ take read input
at_end input read low none = readable-is input ∙ take-end input read 9223372036854775808 none low

-- no byte is ready
pub none_ready : (most : ℕ) (ready bytes : List ℕ) → 0 < most → bytes ≡ take most ready → length bytes ≡ 0 → ready ≡ []
none_ready most [] bytes some is empty = refl
none_ready most (b ∷ rest) bytes some is empty = absurd (let size = ap length is in omega (arith, some, size, empty, length-take most (b ∷ rest)))

-- a property of a result, from a test of it
pub on_ok_of : {A E : Type 0} (r : Result A E) (b : Bool) (P : Type 0) → b ≡ is_err r → b ≡ false → OnOk r P → P
on_ok_of (Ok x) b P is passed holds = holds
on_ok_of (Err e) b P is passed holds = absurd (cc)

pub on_err_of : {A E : Type 0} (r : Result A E) (b : Bool) (P : Type 0) → b ≡ is_err r → b ≡ true → OnErr r P → P
on_err_of (Ok x) b P is failed holds = absurd (cc)
on_err_of (Err e) b P is failed holds = holds

-- an empty buffer of one byte
pub alone : (ready : List ℕ) (left : Option (List ℕ)) → length ready < 1 → buffered ready left ≡ left
alone [] (Some rest) short = refl
alone [] None short = refl
alone (b ∷ bytes) left short = absurd (omega (arith, short))
