-- A text is the source of exactly the code that assembling it returns, and the outcome of both passes is unique.
use Rattle.assembler.proofs.Prelude.{◌≡◌, ℕ, ◌+◌, ◌≤◌, List, [], ◌∷◌, ◌++◌, Ok, refl, sym, ◌∙◌, subst, arith, append_assoc, append-nil, ◌≢◌, Result, Err, Vec, map, Assembles, resolved, refused, lines_of, Scans, ended, next, SourceItem, slots_of, item_of, label_slot, code_bytes, EachSays, Source, IfSome, OnErr, get_by_text, Global, AssembleReturns, SecondPass, FirstLineSays, FirstPass, IsAssemblyResult, OneReading, AsmError, Memory, Line, Scanned, slot_limit}
use Rattle.assembler.proofs.Named.{Once, gives_slots, has_slots, label_slot_bound, once_of, slots_append}
use Rattle.assembler.proofs.Resolving.{EachInRange, SlotsFit, emitted_of, emitted_same, stand_of}
use Rattle.assembler.proofs.Scanning.{one_scan}

-- valid lines without duplicate labels and with few enough slots are scanned
pub scanned_of : (before : List SourceItem) (lines : List (List ℕ)) (items : List SourceItem) → EachSays lines items → Once before items
    → slots_of (before ++ items) ≤ slot_limit → Scans before lines (Ok (before ++ items))
scanned_of before [] [] told once room = rw (append-nil before) ended
scanned_of before [] (i ∷ is) told once room = absurd told
scanned_of before (line ∷ lines) [] told once room = absurd told
scanned_of before (line ∷ lines) (i ∷ is) told once room =
    let e : (before ++ (i ∷ [])) ++ is ≡ before ++ i ∷ is = append_assoc before (i ∷ []) is in
    let sum : slots_of (before ++ i ∷ is) ≡ slots_of before + slots_of (i ∷ is) = slots_append before (i ∷ is) in
    next {before = before} {line = line} {lines = lines} {r = Ok (before ++ i ∷ is)} i told.0 once.0 (omega (arith, room, sum))
    (rw (sym e) (scanned_of (before ++ (i ∷ [])) lines is told.1 once.1 (rw e room)))

-- the items that the scan of these lines added
abbrev pub Added : List SourceItem → List (List ℕ) → List SourceItem → Type 0
Added before lines items = (more : List SourceItem) × (items ≡ before ++ more) × EachSays lines more × Once before more

pub added_by : (before items : List SourceItem) (lines : List (List ℕ)) → Scans before lines (Ok items) → Added before lines items
added_by before items lines ended = ([], sym (append-nil before), tt, tt)
added_by before items lines (next {line = line} {lines = later} i h free room rest) =
    let k = added_by (before ++ (i ∷ [])) items later rest in
    (i ∷ k.0, k.1 ∙ append_assoc before (i ∷ []) k.0, (h, k.2), (free, k.3))

room_of : (before items : List SourceItem) (lines : List (List ℕ)) → Scans before lines (Ok items) → slots_of before ≤ slot_limit → slots_of items ≤ slot_limit
room_of before items lines ended small = small
room_of before items lines (next {line = line} {lines = later} i h free room rest) small =
    let sum : slots_of (before ++ (i ∷ [])) ≡ slots_of before + slots_of (i ∷ []) = slots_append before (i ∷ []) in
    room_of (before ++ (i ∷ [])) items later rest (omega (arith, sum, room))

pub in_range_of : (lines : List (List ℕ)) (items : List SourceItem) → EachSays lines items → EachInRange items
in_range_of [] [] told = tt
in_range_of [] (i ∷ is) told = absurd told
in_range_of (line ∷ lines) [] told = absurd told
in_range_of (line ∷ lines) (i ∷ is) told = (told.0.2, in_range_of lines is told.1)

pub slots_fit : (items : List SourceItem) → slots_of items ≤ slot_limit → SlotsFit (label_slot items)
slots_fit items room q slot e = let bound = label_slot_bound items q slot e in omega (arith, bound, room)

pub once_scanned : (lines : List (List ℕ)) (items : List SourceItem) → Scans [] lines (Ok items) → Once [] items
once_scanned lines items scans = let added = added_by [] items lines scans in subst (λ is. Once [] is) (sym added.1) added.3

pub scanned_source : (text bytes : List ℕ) (items : List SourceItem) → Scans [] (lines_of text) (Ok items) → code_bytes (label_slot items) 1 0 items ≡ Ok bytes → Source text bytes
scanned_source text bytes items scans e = grind (arith, added_by, Once, once_scanned, room_of, gives_slots, stand_of, slots_fit, in_range_of)

pub source_of : (text bytes : List ℕ) → Assembles (lines_of text) (Ok bytes) → Source text bytes
source_of text bytes (resolved items scans e) = scanned_source text bytes items scans e

pub of_source : (text bytes : List ℕ) → Source text bytes → Assembles (lines_of text) (Ok bytes)
of_source text bytes s =
    let once = once_of s.labels s.items [] s.items s.places refl in
    resolved s.items (scanned_of [] (lines_of text) s.items s.lines once s.room)
    (sym (emitted_same s.labels (label_slot s.items) 1 0 s.items (has_slots s.labels s.items s.places)) ∙ emitted_of s.labels 1 0 s.items bytes s.code)

-- the labels that the first pass found have slots within the 65,536
pub labels_fit : (lines : List (List ℕ)) (s : Scanned) → FirstPass lines (Ok s) → (q : List ℕ) → IfSome (get_by_text s.labels q) (λ t. t ≤ slot_limit)
labels_fit lines s h q = grind (arith, slots_fit)

abbrev scanned : List SourceItem → Result (List SourceItem) AsmError
scanned items = Ok items

only_refused : (lines : List (List ℕ)) (e : AsmError) (s : Result (List ℕ) AsmError) → ((t : Result (List SourceItem) AsmError) → Scans [] lines t → t ≡ Err e) → Assembles lines s → s ≡ Err e
only_refused lines e s only h = grind arith

no_lines : (xs : List Line) → map item_of xs ≡ [] → xs ≡ []
no_lines [] e = refl
no_lines (x ∷ xs) e = absurd cc

-- if the first pass succeeds, the first line is valid
first_says : (before : List SourceItem) (lines : List (List ℕ)) (items : List SourceItem) → Scans before lines (Ok items) → (items ≡ before → ⊥) → FirstLineSays lines
first_says before lines items ended some = absurd (some refl)
first_says before lines items (next i reads free room rest) some = (i, reads)

pub answered : (text : List ℕ) (s : Scanned) (slice : List Line) (r : Result (Vec ℕ Global) AsmError) → slice ≡ s.lines.items → FirstPass (lines_of text) (Ok s) → SecondPass (code_bytes (λ q. get_by_text s.labels q) 1 0 (map item_of slice)) r → OnErr r (slice ≢ []) → AssembleReturns text r
answered text s slice (Ok code) e h m some = scanned_source text code.items (map item_of s.lines.items) h.0.0 ((grind arith) ∙ m)
answered text s slice (Err Memory) e h m some = first_says [] (lines_of text) (map item_of s.lines.items) h.0.0 (λ none. some (e ∙ no_lines s.lines.items none))
answered text s slice (Err _) e h m some = resolved (map item_of s.lines.items) h.0.0 ((grind arith) ∙ m)

pub only_answer : (text : List ℕ) (s : Scanned) (slice : List Line) (r : Result (Vec ℕ Global) AsmError) → slice ≡ s.lines.items → FirstPass (lines_of text) (Ok s) → SecondPass (code_bytes (λ q. get_by_text s.labels q) 1 0 (map item_of slice)) r → (t : Result (List ℕ) AsmError) → Assembles (lines_of text) t → IsAssemblyResult t r
only_answer text s slice r e h m t a = grind arith

pub first_refused : (text : List ℕ) (e : AsmError) → FirstPass (lines_of text) (Err e) → AssembleReturns text (Err e)
first_refused text Memory h = h
first_refused text _ h = refused h.0

-- if each line has one reading, the outcome of both passes is unique
pub one_answer : OneReading → (lines : List (List ℕ)) (r s : Result (List ℕ) AsmError) → Assembles lines r → Assembles lines s → r ≡ s
one_answer one lines r s h b = grind (arith, only_refused, one_scan)
