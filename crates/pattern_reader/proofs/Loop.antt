-- The loop over a pattern: each step of the code is one of the definition.
use Rattle.std.proofs.Common.{◌≡◌, ℕ, ◌+◌, ◌<◌, ◌≤◌, List, [], ◌∷◌, ◌++◌, length, drop, Bool, true, false, ◌&&◌, ◌==◌, map, reverse, Option, Some, None, option_map, refl, ap, sym, ◌∙◌, arith, subst}
use Rattle.std.proofs.Math.ListN.{drop_of_length-le}
use Rattle.std.proofs.lemmas.List.{drop-drop, length-drop, length-reverse, length-map}
use Rattle.std.proofs.lemmas.Bool.Decides.{nat_tests}
use Rattle.pattern_reader.specs.Items.{next_at, place_after}
use Rattle.pattern_reader.specs.Reading as reading
use Rattle.pattern_reader.specs.Reading.ReadsPattern.{ends, stops, goes, misfits}
use Rattle.pattern_reader.specs.Reading.PatternOutcome.{taken, refused}
use Rattle.pattern_reader.specs.Reading.{Level, Levels, ReadState, ReadStep, PatternOutcome, ReadsPattern, start, step_at, step_of, is_complete, is_outermost, is_outside, whole}
use Rattle.pattern_reader.specs.Measures as measures
use Rattle.pattern_reader.specs.Measures.{Frames, frames, frame}
use Rattle.pattern_reader.specs.Tree.{PatternTree}
use Rattle.pattern_reader.specs.Shown.{is_complete_at, frames_of, ItemFits, ItemMisfits, StepsTo}
use Rattle.pattern_reader.specs.declared.item.Item.{Item}
use Rattle.pattern_reader.specs.declared.place.Place.{Place}
use Rattle.pattern_reader.specs.declared.place.Place.TheVariants.{Outside}
use Rattle.pattern_reader.specs.declared.frame.Frame.{Frame}
use Rattle.pattern_reader.specs.declared.reader.Reader.{Reader}
use Rattle.pattern_reader.specs.declared.purpose.Purpose.{Purpose}
use Rattle.pattern_reader.proofs.Measured.{after_is}

-- the reader is at this position, in a state of the definition
pub record IsAt (purpose : Purpose) (fold : Bool) (from : ℕ) (points : List ℕ) (r : Reader) (at : ℕ) : Type 0 where
  pub state : ReadState
  pub frames_are : frames state.levels ≡ frames_of r
  pub place_is : state.place ≡ r.place
  pub reads : (o : PatternOutcome) → ReadsPattern purpose fold state r.items.items at (drop at points) o → ReadsPattern purpose fold start [] from (drop from points) o

none_some : (o : Option Frames) (f : Frames) → o ≡ None → o ≡ Some f → ⊥
none_some o f d e = cc

some_is : (a b : Frames) → Some a ≡ Some b → a ≡ b
some_is a b e = cc

-- the levels after an item that fits
fitting : (o : Option Levels) (f : Frames) → option_map frames o ≡ Some f → (s : Levels) × (o ≡ Some s) × (frames s ≡ f)
fitting None f e = absurd (none_some None f refl e)
fitting (Some s) f e = (s, refl, some_is (frames s) f e)

missing : (o : Option Levels) → option_map frames o ≡ None → o ≡ None
missing None e = refl
missing (Some s) e = absurd (none_some (Some (frames s)) (frames s) e refl)

step_is : (purpose : Purpose) (s : Levels) (i : Item) (len : ℕ) (x : Option (Item × ℕ)) (s' : Levels)
    → x ≡ Some (i, len) → reading.after_item purpose i s ≡ Some s'
    → step_of purpose s x ≡ Some (record { item = i; len = len; state = record { levels = s'; place = place_after i } })
step_is purpose s i len x s' e f = ap (step_of purpose s) e ∙ ap (reading.step_with i len) f

-- a step of the definition that the code makes
record Made (purpose : Purpose) (fold : Bool) (s : ReadState) (points : List ℕ) (old new : Reader) (n : ℕ) : Type 0 where
  step : ReadStep
  made : step_at purpose fold s points ≡ Some step
  len_is : step.len ≡ n
  frames_are : frames step.state.levels ≡ frames_of new
  place_is : step.state.place ≡ new.place
  items_are : new.items.items ≡ old.items.items ++ (step.item ∷ [])

made_with : (purpose : Purpose) (fold : Bool) (s : ReadState) (points : List ℕ) (old new : Reader) (n : ℕ) (i : Item) (len : ℕ) (s' : Levels)
    → next_at fold s.place points ≡ Some (i, len) → reading.after_item purpose i s.levels ≡ Some s' → frames s' ≡ frames_of new
    → new.items.items ≡ old.items.items ++ (i ∷ []) → new.place ≡ place_after i → n ≡ len
    → Made purpose fold s points old new n
made_with purpose fold s points old new n i len s' e f g h p q = record {
  step = record { item = i; len = len; state = record { levels = s'; place = place_after i } };
  made = step_is purpose s.levels i len (next_at fold s.place points) s' e f;
  len_is = sym q;
  frames_are = g;
  place_is = sym p;
  items_are = h;
}

fits_made : (purpose : Purpose) (fold : Bool) (s : ReadState) (points : List ℕ) (old new : Reader) (n : ℕ) (x : Option (Item × ℕ))
    → next_at fold s.place points ≡ x → frames s.levels ≡ frames_of old → ItemFits purpose old new x n
    → Made purpose fold s points old new n
fits_made purpose fold s points old new n None e g h = absurd h
fits_made purpose fold s points old new n (Some (i, len)) e g h =
    let a : option_map frames (reading.after_item purpose i s.levels) ≡ Some (frames_of new) =
    sym (after_is purpose i s.levels) ∙ (ap (measures.after_item purpose i) g ∙ h.0) in
    let b = fitting (reading.after_item purpose i s.levels) (frames_of new) a in
    made_with purpose fold s points old new n i len b.0 e b.1 b.2 h.1 h.2 h.3

none_made : (purpose : Purpose) (fold : Bool) (s : ReadState) (points : List ℕ) (old : Reader) (x : Option (Item × ℕ))
    → next_at fold s.place points ≡ x → frames s.levels ≡ frames_of old → ItemMisfits purpose old x
    → step_at purpose fold s points ≡ None
none_made purpose fold s points old None e g h = ap (step_of purpose s.levels) e
none_made purpose fold s points old (Some (i, len)) e g h =
    let a : option_map frames (reading.after_item purpose i s.levels) ≡ None =
    sym (after_is purpose i s.levels) ∙ (ap (measures.after_item purpose i) g ∙ h) in
    ap (step_of purpose s.levels) e ∙ ap (reading.step_with i len) (missing (reading.after_item purpose i s.levels) a)

read_on : (purpose : Purpose) (fold : Bool) (s : ReadState) (old new : List Item) (at n : ℕ) (points : List ℕ) (t : ReadStep) (o : PatternOutcome)
    → step_at purpose fold s (drop at points) ≡ Some t → t.len ≡ n → new ≡ old ++ (t.item ∷ [])
    → ReadsPattern purpose fold t.state new (at + n) (drop (at + n) points) o → ReadsPattern purpose fold s old at (drop at points) o
read_on purpose fold s old new at n points t o e l i r =
    let P : ℕ → Type 0 = λ (k : ℕ). ReadsPattern purpose fold t.state new (at + k) (drop (at + k) points) o in
    let a : ReadsPattern purpose fold t.state new (at + t.len) (drop (at + t.len) points) o = subst P (sym l) r in
    let Q : List Item → Type 0 = λ (is : List Item). ReadsPattern purpose fold t.state is (at + t.len) (drop (at + t.len) points) o in
    let b : ReadsPattern purpose fold t.state (old ++ (t.item ∷ [])) (at + t.len) (drop (at + t.len) points) o = subst Q i a in
    let R : List ℕ → Type 0 = λ (ps : List ℕ). ReadsPattern purpose fold t.state (old ++ (t.item ∷ [])) (at + t.len) ps o in
    goes t e (subst R (sym (drop-drop t.len at points)) b)

moved : (purpose : Purpose) (fold : Bool) (from : ℕ) (points : List ℕ) (old new : Reader) (at n : ℕ)
    (p : IsAt purpose fold from points old at) → Made purpose fold p.state (drop at points) old new n
    → IsAt purpose fold from points new (at + n)
moved purpose fold from points old new at n p m = record {
  state = m.step.state;
  frames_are = m.frames_are;
  place_is = m.place_is;
  reads = λ o r. p.reads o (read_on purpose fold p.state old.items.items new.items.items at n points m.step o m.made m.len_is m.items_are r);
}

-- the definition is at the code's place
at_place : (purpose : Purpose) (fold : Bool) (from : ℕ) (points : List ℕ) (r : Reader) (at : ℕ) (p : IsAt purpose fold from points r at)
    → next_at fold p.state.place (drop at points) ≡ next_at fold r.place (drop at points)
at_place purpose fold from points r at p = ap (λ (q : Place). next_at fold q (drop at points)) p.place_is

pub steps_on : (purpose : Purpose) (fold : Bool) (from : ℕ) (points : List ℕ) (old new : Reader) (at n : ℕ)
    → IsAt purpose fold from points old at → StepsTo purpose fold (drop at points) old new (Some n)
    → IsAt purpose fold from points new (at + n)
steps_on purpose fold from points old new at n p h =
    moved purpose fold from points old new at n p
    (fits_made purpose fold p.state (drop at points) old new n (next_at fold old.place (drop at points))
    (at_place purpose fold from points old at p) p.frames_are h.0)

pub stops_at : (purpose : Purpose) (fold : Bool) (from : ℕ) (points : List ℕ) (old new : Reader) (at : ℕ)
    → at < length points → IsAt purpose fold from points old at → StepsTo purpose fold (drop at points) old new None
    → ReadsPattern purpose fold start [] from (drop from points) (refused at)
stops_at purpose fold from points old new at l p h =
    let some : 1 ≤ length (drop at points) = omega (arith, length-drop at points) in
    p.reads (refused at) (misfits some
    (none_made purpose fold p.state (drop at points) old (next_at fold old.place (drop at points))
    (at_place purpose fold from points old at p) p.frames_are h))

nonzero : (n : ℕ) → 1 ≤ n → (n == 0) ≡ false
nonzero n h = grind (arith, nat_tests)

outer_len : (ls : List Level) (n : ℕ) → n ≡ length ls → (n == 0) ≡ is_outermost ls
outer_len [] n e = rw e refl
outer_len (l ∷ ls) n e = nonzero n (omega arith)

pub starts : (purpose : Purpose) (fold : Bool) (from : ℕ) (points : List ℕ) (r : Reader) → r.items.items ≡ [] → r.inner ≡ measures.opened
    → r.outer.items ≡ [] → r.place ≡ Outside → IsAt purpose fold from points r from
starts purpose fold from points r i n o p = record {
  state = start;
  frames_are =
      ap (λ (f : Frame). let x : Frames = record { inner = f; outer = [] } in x) (sym n)
      ∙ ap (λ (fs : List Frame). let x : Frames = record { inner = r.inner; outer = reverse fs } in x) (sym o);
  place_is = sym p;
  reads = λ x h. let P : List Item → Type 0 = λ (is : List Item). ReadsPattern purpose fold start is from (drop from points) x in subst P i h;
}

-- the code and the definition agree whether a group is open
outer_is : (ls : List Level) (fs : List Frame) → map frame ls ≡ reverse fs → (length fs == 0) ≡ is_outermost ls
outer_is ls fs e = outer_len ls (length fs) (sym (length-reverse fs) ∙ ap length (sym e) ∙ length-map ls frame)

pub complete_is : (purpose : Purpose) (fold : Bool) (from : ℕ) (points : List ℕ) (r : Reader) (at : ℕ) (p : IsAt purpose fold from points r at)
    → is_complete_at r ≡ is_complete p.state
complete_is purpose fold from points r at p =
    ap (λ (b : Bool). b && is_outside r.place) (outer_is p.state.levels.outer r.outer.items (ap (λ (f : Frames). f.outer) p.frames_are))
    ∙ ap (λ (q : Place). is_outermost p.state.levels.outer && is_outside q) (sym p.place_is)

pub ends_well : (purpose : Purpose) (fold : Bool) (from : ℕ) (points : List ℕ) (r : Reader) (at : ℕ) → length points ≤ at
    → IsAt purpose fold from points r at → is_complete_at r ≡ true
    → (t : PatternTree) × ReadsPattern purpose fold start [] from (drop from points) (taken r.items.items t)
ends_well purpose fold from points r at l p c =
    (whole p.state.levels.inner, p.reads _ (ends (drop_of_length-le points l) (sym (complete_is purpose fold from points r at p) ∙ c)))

pub ends_early : (purpose : Purpose) (fold : Bool) (from : ℕ) (points : List ℕ) (r : Reader) (at : ℕ) → length points ≤ at
    → IsAt purpose fold from points r at → is_complete_at r ≡ false
    → ReadsPattern purpose fold start [] from (drop from points) (refused at)
ends_early purpose fold from points r at l p c =
    p.reads _ (stops (drop_of_length-le points l) (sym (complete_is purpose fold from points r at p) ∙ c))
