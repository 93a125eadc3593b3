-- What of the trees that were read decides whether the next item fits: whether they can match the empty text, and their
-- nested counts. The reader holds these alone.
use Rattle.std.specs.Prelude.{List, [], ◌∷◌, Bool, true, false, ◌&&◌, ◌||◌, ◌==◌, nat_le, if◌then◌else◌, max, map, Option, Some, None, option_map}
use Rattle.pattern_reader.specs.Tree.{PatternTree, may_be_empty, weight_of, repeated_weight}
use Rattle.pattern_reader.specs.Reading.{Level, Levels, is_find}
use Rattle.pattern_reader.specs.declared.item.Item.{Item}
use Rattle.pattern_reader.specs.declared.item.Item.TheVariants as kind
use Rattle.pattern_reader.specs.declared.repeat.Repeat.{Repeat}
use Rattle.pattern_reader.specs.declared.purpose.Purpose.{Purpose}
use Rattle.pattern_reader.specs.declared.measure.Measure.{Measure}
use Rattle.pattern_reader.specs.declared.frame.Frame.{Frame}

-- the measure of a tree, and those of a level
abbrev pub measure : PatternTree → Measure
measure t = record { can_be_empty = may_be_empty t; weight = weight_of t }

abbrev pub frame : Level → Frame
frame l = record { before = option_map measure l.before; so_far = measure l.so_far; atom = option_map measure l.atom }

abbrev pub joined : Measure → Measure → Measure
joined a b = record { can_be_empty = a.can_be_empty && b.can_be_empty; weight = max a.weight b.weight }

abbrev pub alternatives : Measure → Measure → Measure
alternatives a b = record { can_be_empty = a.can_be_empty || b.can_be_empty; weight = max a.weight b.weight }

abbrev pub repeated : Repeat → Measure → Measure
repeated r a =
    record { can_be_empty = (r.min == 0) || a.can_be_empty; weight = repeated_weight r.min r.max a.weight }

abbrev pub with_atom : Measure → Option Measure → Measure
with_atom t None = t
with_atom t (Some a) = joined t a

abbrev pub last_of : Frame → Measure
last_of f = with_atom f.so_far f.atom

abbrev pub or_else : Option Measure → Measure → Measure
or_else None t = t
or_else (Some b) t = alternatives b t

abbrev pub whole : Frame → Measure
whole f = or_else f.before (last_of f)

-- the measure of an item alone that can be empty, or cannot
abbrev pub unit : Bool → Measure
unit e = record { can_be_empty = e; weight = 1 }

abbrev pub opened : Frame
opened = record { before = None; so_far = unit true; atom = None }

abbrev pub and_atom : Measure → Frame → Frame
and_atom m f = record { before = f.before; so_far = last_of f; atom = Some m }

abbrev pub and_edge : Frame → Frame
and_edge f = record { before = f.before; so_far = joined (last_of f) (unit true); atom = None }

abbrev pub and_bar : Frame → Frame
and_bar f = record { before = Some (whole f); so_far = unit true; atom = None }

abbrev pub may_repeat : Purpose → Measure → Repeat → Bool
may_repeat purpose m r = if m.can_be_empty && is_find purpose then false else nat_le (repeated r m).weight 1000

abbrev pub and_repeat : Purpose → Repeat → Frame → Option Measure → Option Frame
and_repeat purpose r f None = None
and_repeat purpose r f (Some m) =
    if may_repeat purpose m r then Some (record { before = f.before; so_far = joined f.so_far (repeated r m); atom = None }) else None

-- the frame after an item that neither opens nor closes a group
abbrev pub inner_after : Purpose → Item → Frame → Option Frame
inner_after purpose (kind.Literal c) f = Some (and_atom (unit false) f)
inner_after purpose kind.Any f = Some (and_atom (unit false) f)
inner_after purpose (kind.Named set negated) f = Some (and_atom (unit false) f)
inner_after purpose (kind.OpenBracket negated) f = Some (and_atom (unit false) f)
inner_after purpose kind.Start f = Some (and_edge f)
inner_after purpose kind.End f = Some (and_edge f)
inner_after purpose kind.Boundary f = Some (and_edge f)
inner_after purpose kind.Bar f = Some (and_bar f)
inner_after purpose (kind.Repeat r) f = and_repeat purpose r f f.atom
inner_after purpose _ f = Some f

-- the frames of the innermost level and of those around it
pub record Frames : Type 0 where
  pub inner : Frame
  pub outer : List Frame

abbrev pub frames : Levels → Frames
frames s = record { inner = frame s.inner; outer = map frame s.outer }

abbrev pub with_inner : List Frame → Option Frame → Option Frames
with_inner fs None = None
with_inner fs (Some f) = Some (record { inner = f; outer = fs })

abbrev pub closed : Frame → List Frame → Option Frames
closed f [] = None
closed f (o ∷ fs) = Some (record { inner = and_atom (whole f) o; outer = fs })

-- the item opens or closes a group
abbrev pub is_open : Item → Bool
is_open kind.Open = true
is_open _ = false

abbrev pub is_close : Item → Bool
is_close kind.Close = true
is_close _ = false

abbrev pub after_item : Purpose → Item → Frames → Option Frames
after_item purpose i s =
    if is_open i then Some (record { inner = opened; outer = s.inner ∷ s.outer })
    else (if is_close i then closed s.inner s.outer else with_inner s.outer (inner_after purpose i s.inner))
