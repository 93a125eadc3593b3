-- The bytes of lines, by the second pass and by the definition of a source.
use Rattle.assembler.proofs.Prelude.{◌≡◌, ℕ, suc, ◌+◌, ◌≤◌, List, [], ◌∷◌, ◌++◌, Option, Some, None, Result, Ok, Err, refl, sym, ◌∙◌, ap, subst, arith, ◌<◌, length, map, drop, get_or, append_assoc, Statement, JumpInRange, jump_by, reaches, InRange, SourceItem, statement, label, jump, item_slots, slots_of, item_of, after, and_then, bytes_of, code_bytes, jump_at, offset_to, line_statement, StandFor, StandsFor, none, line, stated, named, jumped, AsmError, Jump, drop_more, Line, slot_limit}
use Rattle.assembler.proofs.Ends.{either}
use Rattle.assembler.proofs.JumpLines.{reaches_of}

-- every label's slot is at most 65,536
abbrev pub SlotsFit : (List ℕ → Option ℕ) → Type 0
SlotsFit labels = (q : List ℕ) (slot : ℕ) → labels q ≡ Some slot → slot ≤ slot_limit

-- an item at a slot, with numbers that fit
record MayStand (labels : List ℕ → Option ℕ) (slot : ℕ) (i : SourceItem) : Type 0 where
  fit : SlotsFit labels
  room : slot ≤ slot_limit
  range : InRange i

abbrev pub EachInRange : List SourceItem → Type 0
EachInRange [] = Unit {0}
EachInRange (i ∷ is) = InRange i × EachInRange is

module _ (labels : List ℕ → Option ℕ) where
  jump_stands : (number slot : ℕ) (j : Jump) (name : List ℕ) (target : Option ℕ) (x : Option Statement) → MayStand labels slot (jump j name)
      → labels name ≡ target → jump_at number slot j target ≡ Ok x → StandsFor labels slot (jump j name) (bytes_of x)
  jump_stands number slot j name None x may at e = absurd cc
  jump_stands number slot j name (Some target) x may at e =
      let fit = may.fit in
      let room = may.room in
      let h : JumpInRange j = may.range in
      either (reaches j (offset_to slot target))
      (λ near. let is : Ok (Some (jump_by j (offset_to slot target))) ≡ Ok x = rw near at e in
      let same : Some (jump_by j (offset_to slot target)) ≡ x = cc in
      subst (λ y. StandsFor labels slot (jump j name) (bytes_of y)) same (jumped j name target at (grind arith)))
      (λ far. let k = rw far at e in absurd cc)

  stands : (number slot : ℕ) (i : SourceItem) (x : Option Statement) → MayStand labels slot i → line_statement labels number slot i ≡ Ok x
      → StandsFor labels slot i (bytes_of x)
  stands number slot (statement y) x may e =
      let same : Some y ≡ x = cc in
      subst (λ z. StandsFor labels slot (statement y) (bytes_of z)) same (stated y)
  stands number slot (label name) x may e =
      let same : None ≡ x = cc in
      subst (λ z. StandsFor labels slot (label name) (bytes_of z)) same (named name)
  stands number slot (jump j name) x may e = jump_stands number slot j name (labels name) x may refl e

  stand_line : (number slot : ℕ) (i : SourceItem) (is : List SourceItem) (bytes : List ℕ) (r : Result (Option Statement) AsmError) (s : Result (List ℕ) AsmError)
      → MayStand labels slot i → line_statement labels number slot i ≡ r
      → ((more : List ℕ) → s ≡ Ok more → StandFor labels (slot + item_slots i) is more) → and_then r s ≡ Ok bytes → StandFor labels slot (i ∷ is) bytes
  stand_line number slot i is bytes (Err error) s may e rest all = absurd cc
  stand_line number slot i is bytes (Ok x) (Err error) may e rest all = absurd cc
  stand_line number slot i is bytes (Ok x) (Ok more) may e rest all =
      let same : bytes_of x ++ more ≡ bytes = cc in
      subst (λ b. StandFor labels slot (i ∷ is) b) same (line (stands number slot i x may e) (rest more refl))

  -- the second pass writes the bytes of the lines
  pub stand_of : (number slot : ℕ) (items : List SourceItem) (bytes : List ℕ) → SlotsFit labels → slot + slots_of items ≤ slot_limit → EachInRange items
      → code_bytes labels number slot items ≡ Ok bytes → StandFor labels slot items bytes
  stand_of number slot [] bytes fit room h e =
      let same : [] ≡ bytes = cc in
      subst (λ b. StandFor labels slot [] b) same none
  stand_of number slot (i ∷ is) bytes fit room h e =
      stand_line number slot i is bytes (line_statement labels number slot i) (code_bytes labels (suc number) (slot + item_slots i) is)
      (record { fit = fit; room = omega (arith, room); range = h.0 }) refl
      (λ more k. stand_of (suc number) (slot + item_slots i) is more fit (omega (arith, room)) h.1 k) e

emit_line : (labels : List ℕ → Option ℕ) (number slot : ℕ) (i : SourceItem) (bytes : List ℕ) → StandsFor labels slot i bytes
    → (x : Option Statement) × (line_statement labels number slot i ≡ Ok x) × (bytes ≡ bytes_of x)
emit_line labels number slot i bytes (stated x) = (Some x, refl, refl)
emit_line labels number slot i bytes (named name) = (None, refl, refl)
emit_line labels number slot i bytes (jumped j name target at h) = (Some (jump_by j (offset_to slot target)), rw (at, reaches_of j (offset_to slot target) h) refl, refl)

-- the bytes of the lines are those that the second pass writes
pub emitted_of : (labels : List ℕ → Option ℕ) (number slot : ℕ) (items : List SourceItem) (bytes : List ℕ) → StandFor labels slot items bytes → code_bytes labels number slot items ≡ Ok bytes
emitted_of labels number slot items bytes none = refl
emitted_of labels number slot items bytes (line {i = i} {is = is} {bytes = front} {more = more} h rest) =
    let this = emit_line labels number slot i front h in
    let later : code_bytes labels (suc number) (slot + item_slots i) is ≡ Ok more = emitted_of labels (suc number) (slot + item_slots i) is more rest in
    ap (λ r. and_then r (code_bytes labels (suc number) (slot + item_slots i) is)) this.1 ∙ ap (λ r. after (bytes_of this.0) r) later ∙ ap (λ b. Ok (b ++ more)) (sym this.2)

-- two maps with the same slots make the same bytes
pub emitted_same : (labels others : List ℕ → Option ℕ) (number slot : ℕ) (is : List SourceItem) → ((q : List ℕ) → labels q ≡ others q)
    → code_bytes labels number slot is ≡ code_bytes others number slot is
emitted_same labels others number slot [] h = refl
emitted_same labels others number slot (i ∷ is) h = grind (arith, emitted_same labels others (suc number) (slot + item_slots i) is h)

-- The second pass, line by line.

after_after : (out bytes : List ℕ) (r : Result (List ℕ) AsmError) → after out (after bytes r) ≡ after (out ++ bytes) r
after_after out bytes h0 = grind (arith, Ok, append_assoc, Err)

-- a line at a slot is written: its item, its slots and its bytes
pub record IsWritten (labels : List ℕ → Option ℕ) (number slot n : ℕ) (i : SourceItem) (out new : List ℕ) : Type 0 where
  pub says : Option Statement
  pub is : line_statement labels number slot i ≡ Ok says
  pub slots : n ≡ item_slots i
  pub bytes : new ≡ out ++ bytes_of says

-- a line's bytes move from the rest to the output
pub emit_step : (labels : List ℕ → Option ℕ) (number slot n i : ℕ) (lines : List Line) (d : Line) (out new : List ℕ) → i < length lines
    → IsWritten labels number slot n (item_of (get_or lines i d)) out new
    → after new (code_bytes labels (number + 1) (slot + n) (map item_of (drop (i + 1) lines))) ≡ after out (code_bytes labels number slot (map item_of (drop i lines)))
emit_step labels number slot n i lines d out new inside written =
    let x = written.says in
    let res = written.is in
    let m = written.slots in
    let bytes = written.bytes in
    grind (arith, suc, get_or, map, drop, after_after, drop_more)

pub room_step : (slot n i : ℕ) (lines : List Line) (d : Line) → i < length lines → n ≡ item_slots (item_of (get_or lines i d))
    → slot + slots_of (map item_of (drop i lines)) ≤ slot_limit → slot + n + slots_of (map item_of (drop (i + 1) lines)) ≤ slot_limit
room_step slot n i lines d inside m room = grind (arith, map, drop, get_or, drop_more)
