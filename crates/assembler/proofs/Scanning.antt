-- The first pass, step by step, and that its outcome is unique.
use Rattle.assembler.proofs.Prelude.{◌≡◌, ℕ, suc, ◌+◌, ◌<◌, ◌≤◌, List, [], ◌∷◌, ◌++◌, Result, Ok, Err, refl, sym, subst, ap, arith, length, ◌⊎◌, Option, ◌∙◌, map, Scans, ended, next, formless, wide, twice, full, HasLine, InRange, SourceItem, item_slots, item_text, slots_of, item_of, IsFree, OneReading, LineReading, ReadsLine, says, out_of_range, no_form, AsmError, UnknownLine, NumberOutOfRange, DuplicateLabel, TooManySlots, Memory, common_steps, AddsLabel, FirstLineSays, FirstPass, HasSlots, IsFreeIn, ReadsAt, ScansOnlyTo, ReadsAs, Line, slot_limit}
use Rattle.assembler.proofs.Named.{free_of, slots_snoc}

-- the line has no other reading
abbrev pub NoOther : List ℕ → LineReading → Type 0
NoOther line a = (b : LineReading) → ReadsLine line b → b ≡ a

pub only_says : (line : List ℕ) (i : SourceItem) → ReadsLine line (says i) → ((j : SourceItem) → HasLine j → line ≡ item_text j → j ≡ i) → NoOther line (says i)
only_says line i h only (says j) k = ap says (only j k.1 k.0)
only_says line i h only out_of_range k = absurd (k.3 (subst (λ x. InRange x) (sym (only k.0 k.2 k.1)) h.2))
only_says line i h only no_form k = absurd (k i h.1 h.0)

pub only_wide : (line : List ℕ) → ReadsLine line out_of_range → ((i : SourceItem) → HasLine i → line ≡ item_text i → InRange i → ⊥) → NoOther line out_of_range
only_wide line h never (says i) k = absurd (never i k.1 k.0 k.2)
only_wide line h never out_of_range k = refl
only_wide line h never no_form k = absurd (k h.0 h.2 h.1)

pub only_formless : (line : List ℕ) → ReadsLine line no_form → NoOther line no_form
only_formless line h (says i) k = absurd (h i k.1 k.0)
only_formless line h out_of_range k = absurd (h k.0 k.2 k.1)
only_formless line h no_form k = refl

-- the outcome of the pass after these lines, by the reading of its first line
abbrev pub Ends : List SourceItem → List (List ℕ) → Result (List SourceItem) AsmError → LineReading → Type 0
Ends before lines r (says i) =
    (IsFree before i → slots_of before + item_slots i ≤ slot_limit → Scans (before ++ (i ∷ [])) lines r)
    × ((IsFree before i → ⊥) → r ≡ Err (DuplicateLabel (suc (length before))))
    × (IsFree before i → slot_limit < slots_of before + item_slots i → r ≡ Err (TooManySlots (suc (length before))))
Ends before lines r out_of_range = r ≡ Err (NumberOutOfRange (suc (length before)))
Ends before lines r no_form = r ≡ Err (UnknownLine (suc (length before)))

pub after_line : (before : List SourceItem) (line : List ℕ) (lines : List (List ℕ)) (r : Result (List SourceItem) AsmError) (a : LineReading) → NoOther line a
    → Scans before (line ∷ lines) r → Ends before lines r a
after_line before line lines r a only (next i b f m k) =
    subst (λ x. Ends before lines r x) (only (says i) b) (λ g n. k, λ g. absurd (g f), λ g n. absurd (omega (arith, m, n)))
after_line before line lines r a only (formless b) = subst (λ x. Ends before lines r x) (only no_form b) refl
after_line before line lines r a only (wide b) = subst (λ x. Ends before lines r x) (only out_of_range b) refl
after_line before line lines r a only (twice i b f) =
    subst (λ x. Ends before lines r x) (only (says i) b) (λ g n. absurd (f g), λ g. refl, λ g n. absurd (f g))
after_line before line lines r a only (full i b f m) =
    subst (λ x. Ends before lines r x) (only (says i) b) (λ g n. absurd (omega (arith, m, n)), λ g. absurd (g f), λ g n. refl)

pub after_all : (before : List SourceItem) (r : Result (List SourceItem) AsmError) → Scans before [] r → r ≡ Ok before
after_all before r ended = refl

-- if each line has one reading, the outcome of the first pass is unique
pub one_scan : OneReading → (before : List SourceItem) (lines : List (List ℕ)) (r s : Result (List SourceItem) AsmError) → Scans before lines r → Scans before lines s → r ≡ s
one_scan one before lines r s ended t = sym (after_all before s t)
one_scan one before lines r s (next {line = line} {lines = more} i a f m k) t =
    one_scan one (before ++ (i ∷ [])) more r s k ((after_line before line more s (says i) (λ b h. one line b (says i) h a) t).0 f m)
one_scan one before lines r s (formless {line = line} {lines = more} a) t = sym (after_line before line more s no_form (λ b h. one line b no_form h a) t)
one_scan one before lines r s (wide {line = line} {lines = more} a) t = sym (after_line before line more s out_of_range (λ b h. one line b out_of_range h a) t)
one_scan one before lines r s (twice {line = line} {lines = more} i a f) t =
    sym ((after_line before line more s (says i) (λ b h. one line b (says i) h a) t).1 f)
one_scan one before lines r s (full {line = line} {lines = more} i a f m) t =
    sym ((after_line before line more s (says i) (λ b h. one line b (says i) h a) t).2 f m)

-- after these lines, the pass over the rest has the outcome of the pass over all
abbrev pub GoesOn : List SourceItem → List (List ℕ) → List (List ℕ) → Type 0
GoesOn before rest lines = (r : Result (List SourceItem) AsmError) → (Scans before rest r → Scans [] lines r) × (Scans [] lines r → Scans before rest r)

-- nothing has been read yet, or the first line was valid
abbrev pub Begun : List (List ℕ) → List (List ℕ) → Type 0
Begun rest lines = (rest ≡ lines) ⊎ FirstLineSays lines

ends_with : (before : List SourceItem) (line : List ℕ) (more rest lines : List (List ℕ)) (r : Result (List SourceItem) AsmError) → GoesOn before rest lines → rest ≡ line ∷ more → Scans before (line ∷ more) r → ((s : Result (List SourceItem) AsmError) → Scans before (line ∷ more) s → s ≡ r) → ScansOnlyTo lines r
ends_with before line more rest lines r goes cut scans only = ((goes r).0 (rw cut scans), λ s t. only s (rw cut at ((goes s).1 t)))

pub read_refused : (before : List SourceItem) (line : List ℕ) (more rest lines : List (List ℕ)) (number : ℕ) (e : AsmError) → GoesOn before rest lines
    → rest ≡ line ∷ more → number ≡ suc (length before) → ReadsAt line number (Err e) → FirstPass lines (Err e)
read_refused before line more rest lines number (UnknownLine n) goes cut num h =
    let at : n ≡ suc (length before) = h.0 ∙ num in
    rw at (ends_with before line more rest lines (Err (UnknownLine (suc (length before)))) goes cut (formless h.1) (λ s t. after_line before line more s no_form (only_formless line h.1) t))
read_refused before line more rest lines number (NumberOutOfRange n) goes cut num h =
    let at : n ≡ suc (length before) = h.0 ∙ num in
    rw at (ends_with before line more rest lines (Err (NumberOutOfRange (suc (length before)))) goes cut (wide h.1.0) (λ s t. after_line before line more s out_of_range (only_wide line h.1.0 h.1.1) t))
read_refused before line more rest lines number _ goes cut num h = absurd h

-- the pass over the rest continues with this line
pub record IsNext (before : List SourceItem) (line : List ℕ) (more rest lines : List (List ℕ)) : Type 0 where
  pub goes : GoesOn before rest lines
  pub cut : rest ≡ line ∷ more

-- the reading of a line after lines with these labels
pub record IsRead (before : List SourceItem) (labels : List ℕ → Option ℕ) (l : Line) (line : List ℕ) : Type 0 where
  pub has : HasSlots labels before
  pub reads : ReadsAs line (Ok l)

module _ (before : List SourceItem) (labels : List ℕ → Option ℕ) (l : Line) (line : List ℕ) (more rest lines : List (List ℕ)) (here : IsNext before line more rest lines) (read : IsRead before labels l line) where
  pub label_refused : (new : List ℕ → Option ℕ) (slot number : ℕ) (e : AsmError) → Begun rest lines → number ≡ suc (length before)
      → AddsLabel labels new (item_of l) slot number (Err e) → FirstPass lines (Err e)
  label_refused new slot number (DuplicateLabel n) start num h =
      let at : n ≡ suc (length before) = h.0 ∙ num in
      let has = read.has in
      let reads = read.reads in
      let taken : IsFree before (item_of l) → ⊥ = λ free. h.1 (grind arith) in
      rw at (ends_with before line more rest lines (Err (DuplicateLabel (suc (length before)))) here.goes here.cut (twice (item_of l) reads.0 taken) (λ s t. (after_line before line more s (says (item_of l)) (only_says line (item_of l) reads.0 reads.1) t).1 taken))
  label_refused new slot number Memory start num h = grind arith
  label_refused new slot number _ start num h = absurd h

  pub full_refused : (number : ℕ) → number ≡ suc (length before) → IsFreeIn labels (item_of l) → slot_limit < slots_of before + item_slots (item_of l)
      → ScansOnlyTo lines (Err (TooManySlots number))
  full_refused number num free past =
      let reads = read.reads in
      let is_free = free_of before labels (item_of l) read.has free in
      rw num (ends_with before line more rest lines (Err (TooManySlots (suc (length before)))) here.goes here.cut (full (item_of l) reads.0 is_free past) (λ s t. (after_line before line more s (says (item_of l)) (only_says line (item_of l) reads.0 reads.1) t).2 is_free past))

  pub goes_on : IsFreeIn labels (item_of l) → slots_of before + item_slots (item_of l) ≤ slot_limit → GoesOn (before ++ (item_of l ∷ [])) more lines
  goes_on free room r =
      let cut = here.cut in
      let reads = read.reads in
      let is_free = free_of before labels (item_of l) read.has free in (
        λ scans. (here.goes r).0 (rw cut (next {before = before} {line = line} {lines = more} {r = r} (item_of l) reads.0 is_free room scans)),
        λ scans. (after_line before line more r (says (item_of l)) (only_says line (item_of l) reads.0 reads.1) (rw cut at ((here.goes r).1 scans))).0 is_free room,
      )

pub all_scanned : (before : List SourceItem) (rest lines : List (List ℕ)) → GoesOn before rest lines → rest ≡ [] → ScansOnlyTo lines (Ok before)
all_scanned before rest lines goes none = ((goes (Ok before)).0 (rw none ended), λ s t. after_all before s (rw none at ((goes s).1 t)))

pub items_snoc : (xs ys : List Line) (l : Line) → ys ≡ xs ++ (l ∷ []) → map item_of ys ≡ map item_of xs ++ (item_of l ∷ [])
items_snoc xs ys l e = grind (arith, common_steps, e)

pub slots_step : (xs ys : List Line) (l : Line) (slot n : ℕ) → ys ≡ xs ++ (l ∷ []) → slot ≡ slots_of (map item_of xs) → n ≡ item_slots (item_of l) → slot + n ≡ slots_of (map item_of ys)
slots_step xs ys l slot n e s m =
    let after : slots_of (map item_of ys) ≡ slots_of (map item_of xs) + item_slots (item_of l) = ap slots_of (items_snoc xs ys l e) ∙ slots_snoc (map item_of xs) (item_of l) in
    omega (arith, after, s, m)

pub count : (xs : List Line) (n : ℕ) → n ≡ length xs → n + 1 ≡ suc (length (map item_of xs))
count xs n e = grind (arith, common_steps, e)
