-- How items are read to a tree, and the first one that does not fit.
use Rattle.std.specs.Prelude.{◌≡◌, ◌≤◌, ℕ, ◌+◌, List, [], ◌∷◌, ◌++◌, length, drop, Bool, true, false, ◌&&◌, nat_le, if◌then◌else◌, Option, Some, None}
use Rattle.pattern_reader.specs.Tree.{PatternTree, empty, one, class, join, either, repeated, group, may_be_empty, weight_of}
use Rattle.pattern_reader.specs.Flags.{flags_at}
use Rattle.pattern_reader.specs.Items.{next_at, place_after}
use Rattle.pattern_reader.specs.declared.item.Item.{Item}
use Rattle.pattern_reader.specs.declared.item.Item.TheVariants as kind
use Rattle.pattern_reader.specs.declared.repeat.Repeat.{Repeat}
use Rattle.pattern_reader.specs.declared.place.Place.{Place}
use Rattle.pattern_reader.specs.declared.place.Place.TheVariants.{Outside}
use Rattle.pattern_reader.specs.declared.purpose.Purpose.{Purpose}
use Rattle.pattern_reader.specs.declared.purpose.Purpose.TheVariants.{Match, Find}

-- An open group, or the whole pattern: its alternatives before the last `|`, what was read after that, and the atom at
-- the end, which may still be repeated.
pub record Level : Type 0 where
  pub before : Option PatternTree
  pub so_far : PatternTree
  pub atom : Option PatternTree

-- nothing was read
abbrev pub opened : Level
opened = record { before = None; so_far = empty; atom = None }

-- a tree and the atom after it
abbrev pub with_atom : PatternTree → Option PatternTree → PatternTree
with_atom t None = t
with_atom t (Some a) = join t a

-- the last alternative
abbrev pub last_of : Level → PatternTree
last_of l = with_atom l.so_far l.atom

-- the alternatives and one more
abbrev pub or_else : Option PatternTree → PatternTree → PatternTree
or_else None t = t
or_else (Some b) t = either b t

-- all alternatives
abbrev pub whole : Level → PatternTree
whole l = or_else l.before (last_of l)

-- one more atom
abbrev pub and_atom : PatternTree → Level → Level
and_atom t l = record { before = l.before; so_far = last_of l; atom = Some t }

-- one more place in the text, which cannot be repeated
abbrev pub and_edge : PatternTree → Level → Level
and_edge t l = record { before = l.before; so_far = join (last_of l) t; atom = None }

-- another alternative begins
abbrev pub and_bar : Level → Level
and_bar l = record { before = Some (whole l); so_far = empty; atom = None }

-- one more item in the brackets at the end
abbrev pub with_part : Item → PatternTree → PatternTree
with_part i (class negated parts) = class negated (parts ++ (i ∷ []))
with_part i t = t

abbrev pub and_part : Item → Option PatternTree → Option PatternTree
and_part i None = None
and_part i (Some t) = Some (with_part i t)

abbrev pub with_parts : Item → Level → Level
with_parts i l = record { before = l.before; so_far = l.so_far; atom = and_part i l.atom }

-- the pattern is to find parts of texts
abbrev pub is_find : Purpose → Bool
is_find Match = false
is_find Find = true

-- a repetition is taken over a tree: nested counts are at most 1,000, and a pattern that finds repeats nothing that can
-- match the empty text
abbrev pub may_repeat : Purpose → PatternTree → Repeat → Bool
may_repeat purpose t r = if may_be_empty t && is_find purpose then false else nat_le (weight_of (repeated t r)) 1000

-- the atom is repeated
abbrev pub and_repeat : Purpose → Repeat → Level → Option PatternTree → Option Level
and_repeat purpose r l None = None
and_repeat purpose r l (Some t) =
    if may_repeat purpose t r then Some (record { before = l.before; so_far = join l.so_far (repeated t r); atom = None }) else None

-- the innermost open group, and those around it from the inside
pub record Levels : Type 0 where
  pub inner : Level
  pub outer : List Level

-- the innermost level has become this one
abbrev pub with_inner : List Level → Option Level → Option Levels
with_inner ls None = None
with_inner ls (Some l) = Some (record { inner = l; outer = ls })

-- the innermost group is closed
abbrev pub closed : Level → List Level → Option Levels
closed l [] = None
closed l (o ∷ ls) = Some (record { inner = and_atom (group (whole l)) o; outer = ls })

-- the levels after one more item, unless it does not fit
abbrev pub after_item : Purpose → Item → Levels → Option Levels
after_item purpose (kind.Literal c) s = with_inner s.outer (Some (and_atom (one (kind.Literal c)) s.inner))
after_item purpose kind.Any s = with_inner s.outer (Some (and_atom (one kind.Any) s.inner))
after_item purpose (kind.Named set negated) s = with_inner s.outer (Some (and_atom (one (kind.Named set negated)) s.inner))
after_item purpose kind.Start s = with_inner s.outer (Some (and_edge (one kind.Start) s.inner))
after_item purpose kind.End s = with_inner s.outer (Some (and_edge (one kind.End) s.inner))
after_item purpose kind.Boundary s = with_inner s.outer (Some (and_edge (one kind.Boundary) s.inner))
after_item purpose kind.Open s = with_inner (s.inner ∷ s.outer) (Some opened)
after_item purpose kind.Bar s = with_inner s.outer (Some (and_bar s.inner))
after_item purpose kind.Close s = closed s.inner s.outer
after_item purpose (kind.Repeat r) s = with_inner s.outer (and_repeat purpose r s.inner s.inner.atom)
after_item purpose (kind.OpenBracket negated) s = with_inner s.outer (Some (and_atom (class negated []) s.inner))
after_item purpose (kind.Range low high) s = with_inner s.outer (Some (with_parts (kind.Range low high) s.inner))
after_item purpose (kind.Member set) s = with_inner s.outer (Some (with_parts (kind.Member set) s.inner))
after_item purpose kind.CloseBracket s = with_inner s.outer (Some s.inner)

-- where the reading is: the levels, and whether brackets are open
pub record ReadState : Type 0 where
  pub levels : Levels
  pub place : Place

-- an item that fits, its length and the state after it
pub record ReadStep : Type 0 where
  pub item : Item
  pub len : ℕ
  pub state : ReadState

-- the step with this item, if it fits
abbrev pub step_with : Item → ℕ → Option Levels → Option ReadStep
step_with i n None = None
step_with i n (Some s) = Some (record { item = i; len = n; state = record { levels = s; place = place_after i } })

abbrev pub step_of : Purpose → Levels → Option (Item × ℕ) → Option ReadStep
step_of purpose s None = None
step_of purpose s (Some (i, n)) = step_with i n (after_item purpose i s)

-- the step at the front of these code points; `fold`: cases are folded
abbrev pub step_at : Purpose → Bool → ReadState → List ℕ → Option ReadStep
step_at purpose fold s points = step_of purpose s.levels (next_at fold s.place points)

-- the state at the start
abbrev pub start : ReadState
start = record { levels = record { inner = opened; outer = [] }; place = Outside }

-- no group and no brackets are open
abbrev pub is_outermost : List Level → Bool
is_outermost [] = true
is_outermost (_ ∷ _) = false

abbrev pub is_outside : Place → Bool
is_outside Outside = true
is_outside _ = false

abbrev pub is_complete : ReadState → Bool
is_complete s = is_outermost s.levels.outer && is_outside s.place

-- the items of a pattern and its tree, or the number of code points before the first thing that does not fit
pub data PatternOutcome : Type 0 where
  taken : List Item → PatternTree → PatternOutcome
  refused : ℕ → PatternOutcome

-- from this state, after these items and this number of code points, the code points that are left have this outcome
pub data ReadsPattern (purpose : Purpose) (fold : Bool) : ReadState → List Item → ℕ → List ℕ → PatternOutcome → Type 0 where
  ends : {s : ReadState} {items : List Item} {at : ℕ} {points : List ℕ} → points ≡ [] → is_complete s ≡ true
      → ReadsPattern purpose fold s items at points (taken items (whole s.levels.inner))
  stops : {s : ReadState} {items : List Item} {at : ℕ} {points : List ℕ} → points ≡ [] → is_complete s ≡ false
      → ReadsPattern purpose fold s items at points (refused at)
  goes : {s : ReadState} {items : List Item} {at : ℕ} {points : List ℕ} {o : PatternOutcome} (t : ReadStep)
      → step_at purpose fold s points ≡ Some t
      → ReadsPattern purpose fold t.state (items ++ (t.item ∷ [])) (at + t.len) (drop t.len points) o
      → ReadsPattern purpose fold s items at points o
  misfits : {s : ReadState} {items : List Item} {at : ℕ} {points : List ℕ} → 1 ≤ length points
      → step_at purpose fold s points ≡ None → ReadsPattern purpose fold s items at points (refused at)

-- the outcome of a pattern with these code points
abbrev pub IsOutcome : Purpose → List ℕ → PatternOutcome → Type 0
IsOutcome purpose points o =
    ReadsPattern purpose (flags_at points).0.fold start [] (flags_at points).1 (drop (flags_at points).1 points) o
