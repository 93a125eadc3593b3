-- The second pass refuses the first line whose label is not defined or too far away.
use Rattle.assembler.proofs.Prelude.{◌≡◌, ◌⊎◌, ℕ, suc, ◌+◌, ℤ, List, [], ◌∷◌, ◌++◌, Option, Some, None, Result, Ok, Err, refl, sym, ◌∙◌, ap, subst, arith, true, false, inl, inr, length, length-append, append_assoc, append-nil, zero-add, FitsSigned, w16, both_ways, Statement, Assembles, refused as scan_refused, resolved as scanned, Scans, SourceItem, label, jump, item_slots, slots_of, reaches, label_slot, FirstRefused, IsJumpRefused, IsShort, NoneRefused, IsSourceRefused, unnamed, too_far, by_first_pass, by_label, after, and_then, bytes_of, code_bytes, jump_at, offset_to, line_statement, GivesSlots, AsmError, UnknownLabel, JumpTooFar, Jump}
use Rattle.assembler.proofs.Ends.{either}
use Rattle.assembler.proofs.JumpLines.{of_fits}
use Rattle.assembler.proofs.Named.{found, gives_slots, named_none, slots_snoc}
use Rattle.assembler.proofs.Sources.{once_scanned}

-- a jump that the offset does not fit has 16 bits, and the offset does not fit them
out_of_reach : (j : Jump) (z : ℤ) → reaches j z ≡ false → IsShort j × (FitsSigned w16 z → ⊥)
out_of_reach h0 z e = grind (arith, both_ways, of_fits, true)

-- the second pass refuses a line only for its cause

unnamed_at : (all front : List SourceItem) (j : Jump) (name : List ℕ) (e : AsmError) → label_slot all name ≡ None → UnknownLabel (suc (length front)) ≡ e → IsJumpRefused all front (jump j name) e
unnamed_at all front j name e at is = subst (λ x. IsJumpRefused all front (jump j name) x) is (unnamed (λ before n. named_none all before name n at))

far_at : (all front : List SourceItem) (j : Jump) (name : List ℕ) (target : ℕ) (e : AsmError) → label_slot all name ≡ Some target
    → reaches j (offset_to (slots_of front) target) ≡ false → JumpTooFar (suc (length front)) ≡ e → IsJumpRefused all front (jump j name) e
far_at all front j name target e at far is =
    let f = found all 0 name target at in
    let slot : target ≡ slots_of f.0 = f.2 ∙ zero-add (slots_of f.0) in
    let out = out_of_reach j (offset_to (slots_of front) (slots_of f.0)) (subst (λ t. reaches j (offset_to (slots_of front) t) ≡ false) slot far) in
    subst (λ x. IsJumpRefused all front (jump j name) x) is (too_far (record { short = out.0; front = f.0; named = f.1; outside = out.1 }))

cause_of : (all front : List SourceItem) (i : SourceItem) (e : AsmError) → line_statement (label_slot all) (suc (length front)) (slots_of front) i ≡ Err e → IsJumpRefused all front i e
cause_of all front i e h = grind (arith, unnamed_at, either, far_at)

-- the second pass refuses a line whose cause holds

no_place : (all : List SourceItem) (name : List ℕ) (target : Option ℕ) → label_slot all name ≡ target
    → ((before : List SourceItem) → (later : List SourceItem) × (all ≡ before ++ label name ∷ later) → ⊥) → target ≡ None
no_place all name None at none = refl
no_place all name (Some target) at none = let f = found all 0 name target at in absurd (none f.0 f.1)

refused_for : (all front : List SourceItem) (i : SourceItem) (e : AsmError) → GivesSlots (label_slot all) all → IsJumpRefused all front i e
    → line_statement (label_slot all) (suc (length front)) (slots_of front) i ≡ Err e
refused_for all front i e gives (unnamed {j = j} {name = name} none) = ap (λ t. jump_at (suc (length front)) (slots_of front) j t) (no_place all name (label_slot all name) refl none)
refused_for all front i e gives (too_far {j = j} {name = name} t) = grind arith

-- one more line that is not refused

snoc_parts : (before : List SourceItem) (i : SourceItem) (front : List SourceItem) (k : SourceItem) (rest : List SourceItem) → before ++ (i ∷ []) ≡ front ++ k ∷ rest
    → ((front ≡ before) × (k ≡ i)) ⊎ ((more : List SourceItem) × (before ≡ front ++ k ∷ more))
snoc_parts [] i [] k rest e = inl (refl, cc)
snoc_parts [] i (x ∷ front) k rest e = absurd (omega (arith, ap (λ (z : List SourceItem). length z) e, length-append front (k ∷ rest)))
snoc_parts (b ∷ before) i [] k rest e = let head : b ≡ k = cc in inr (before, ap (λ x. x ∷ before) head)
snoc_parts (b ∷ before) i (x ∷ front) k rest e =
    let head : b ≡ x = cc in
    let tail : before ++ (i ∷ []) ≡ front ++ k ∷ rest = cc in
    elim (snoc_parts before i front k rest tail) [
      | inl p ↦ inl ((λ n. sym head n ∷ p.0 n), p.1)
      | inr q ↦ inr (q.0, (λ n. head n ∷ q.1 n))
    ]

none_more : (all before : List SourceItem) (i : SourceItem) → NoneRefused all before → ((e : AsmError) → IsJumpRefused all before i e → ⊥) → NoneRefused all (before ++ (i ∷ []))
none_more all before i none this front k rest e at r = grind (arith, snoc_parts)

none_yet : (all : List SourceItem) → NoneRefused all []
none_yet all [] i rest e at r = cc
none_yet all (x ∷ front) i rest e at r = cc

-- the pass over the lines after these
abbrev emitted_after : List SourceItem → List SourceItem → List SourceItem → Result (List ℕ) AsmError
emitted_after all before items = code_bytes (label_slot all) (suc (length before)) (slots_of before) items

next_line : (all before : List SourceItem) (i : SourceItem) (is : List SourceItem)
    → emitted_after all (before ++ (i ∷ [])) is ≡ code_bytes (label_slot all) (suc (suc (length before))) (slots_of before + item_slots i) is
next_line all before i is = grind (arith, length-append, slots_snoc)

after_refused : (bytes : List ℕ) (r : Result (List ℕ) AsmError) (e : AsmError) → after bytes r ≡ Err e → r ≡ Err e
after_refused bytes r e h = grind arith

-- the pass stops at the first invalid line

-- the pass has reached these items
record IsReached (all before rest : List SourceItem) : Type 0 where
  at : all ≡ before ++ rest
  none : NoneRefused all before

first_by : (all before : List SourceItem) (i : SourceItem) (is : List SourceItem) (e : AsmError) (r : Result (Option Statement) AsmError) → GivesSlots (label_slot all) all
    → IsReached all before (i ∷ is) → line_statement (label_slot all) (suc (length before)) (slots_of before) i ≡ r
    → (NoneRefused all (before ++ (i ∷ [])) → emitted_after all (before ++ (i ∷ [])) is ≡ Err e → FirstRefused all e)
    → and_then r (code_bytes (label_slot all) (suc (suc (length before))) (slots_of before + item_slots i) is) ≡ Err e → FirstRefused all e
first_by all before i is e r gives reached is_r later h =
    let at = reached.at in
    let none = reached.none in
    grind (arith, cause_of, none_more, refused_for, next_line, after_refused)

first_of : (all before items : List SourceItem) (e : AsmError) → GivesSlots (label_slot all) all → all ≡ before ++ items → NoneRefused all before
    → emitted_after all before items ≡ Err e → FirstRefused all e
first_of all before [] e gives at none h = absurd cc
first_of all before (i ∷ is) e gives at none h =
    first_by all before i is e (line_statement (label_slot all) (suc (length before)) (slots_of before) i) gives (record { at = at; none = none }) refl
    (λ more k. first_of all (before ++ (i ∷ [])) is e gives (at ∙ sym (append_assoc before (i ∷ []) is)) more k) h

passed_by : (all before : List SourceItem) (i : SourceItem) (items : List SourceItem) (e : AsmError) (r : Result (Option Statement) AsmError) → ((d : AsmError) → IsJumpRefused all before i d → ⊥) → line_statement (label_slot all) (suc (length before)) (slots_of before) i ≡ r → code_bytes (label_slot all) (suc (suc (length before))) (slots_of before + item_slots i) items ≡ Err e → and_then r (code_bytes (label_slot all) (suc (suc (length before))) (slots_of before + item_slots i) items) ≡ Err e
passed_by all before i items e (Ok x) none is_r h = ap (λ r. after (bytes_of x) r) h
passed_by all before i items e (Err x) none is_r h = absurd (none x (cause_of all before i x is_r))

ends_at : (all : List SourceItem) (e : AsmError) (before mid : List SourceItem) (here : SourceItem) (later : List SourceItem) → GivesSlots (label_slot all) all
    → IsJumpRefused all (before ++ mid) here e → NoneRefused all (before ++ mid) → emitted_after all before (mid ++ here ∷ later) ≡ Err e
ends_at all e before [] here later gives refused none = grind (arith, refused_for, append-nil)
ends_at all e before (m ∷ ms) here later gives refused none =
    let at : (before ++ (m ∷ [])) ++ ms ≡ before ++ m ∷ ms = append_assoc before (m ∷ []) ms in
    let rest = ends_at all e (before ++ (m ∷ [])) ms here later gives (subst (λ f. IsJumpRefused all f here e) (sym at) refused) (subst (λ f. NoneRefused all f) (sym at) none) in
    passed_by all before m (ms ++ here ∷ later) e (line_statement (label_slot all) (suc (length before)) (slots_of before) m) (λ d. none before m ms d refl) refl (sym (next_line all before m (ms ++ here ∷ later)) ∙ rest)

pub caused : (lines : List (List ℕ)) (e : AsmError) → Assembles lines (Err e) → IsSourceRefused lines e
caused lines e (scan_refused scans) = by_first_pass scans
caused lines e (scanned items scans h) = by_label items scans (first_of items [] items e (gives_slots items (once_scanned lines items scans)) refl (none_yet items) h)

label_refused : (lines : List (List ℕ)) (items : List SourceItem) (e : AsmError) → Scans [] lines (Ok items) → FirstRefused items e → code_bytes (label_slot items) 1 0 items ≡ Err e
label_refused lines items e scans f =
    let gives = gives_slots items (once_scanned lines items scans) in
    subst (λ is. code_bytes (label_slot items) 1 0 is ≡ Err e) (sym f.stands) (ends_at items e [] f.before f.here f.later gives f.refused f.first)

pub of_cause : (lines : List (List ℕ)) (e : AsmError) → IsSourceRefused lines e → Assembles lines (Err e)
of_cause lines e (by_first_pass scans) = scan_refused scans
of_cause lines e (by_label items scans f) = scanned items scans (label_refused lines items e scans f)
