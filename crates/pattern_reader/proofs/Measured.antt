-- The measures that the reader holds are those of the trees that were read.
use Rattle.std.proofs.Common.{◌≡◌, List, [], ◌∷◌, Bool, true, false, if◌then◌else◌, map, Option, Some, None, option_map, refl, ap, sym, ◌∙◌}
use Rattle.pattern_reader.specs.Tree.{PatternTree, empty, one, class, join, either, repeated, group}
use Rattle.pattern_reader.specs.Reading as reading
use Rattle.pattern_reader.specs.Reading.{Level, Levels}
use Rattle.pattern_reader.specs.Measures as measures
use Rattle.pattern_reader.specs.Measures.{measure, frame, frames, joined, unit}
use Rattle.pattern_reader.specs.declared.item.Item.{Item}
use Rattle.pattern_reader.specs.declared.item.Item.TheVariants as kind
use Rattle.pattern_reader.specs.declared.repeat.Repeat.{Repeat}
use Rattle.pattern_reader.specs.declared.measure.Measure.{Measure}
use Rattle.pattern_reader.specs.declared.frame.Frame.{Frame}
use Rattle.pattern_reader.specs.declared.purpose.Purpose.{Purpose}

atom_last : (t : PatternTree) (a : Option PatternTree) → measures.with_atom (measure t) (option_map measure a) ≡ measure (reading.with_atom t a)
atom_last t None = refl
atom_last t (Some a) = refl

last_is : (l : Level) → measures.last_of (frame l) ≡ measure (reading.last_of l)
last_is l = atom_last l.so_far l.atom

or_is : (b : Option PatternTree) (t : PatternTree) → measures.or_else (option_map measure b) (measure t) ≡ measure (reading.or_else b t)
or_is None t = refl
or_is (Some b) t = refl

whole_is : (l : Level) → measures.whole (frame l) ≡ measure (reading.whole l)
whole_is l = ap (λ (m : Measure). measures.or_else (option_map measure l.before) m) (last_is l) ∙ or_is l.before (reading.last_of l)

atom_is : (t : PatternTree) (l : Level) → measures.and_atom (measure t) (frame l) ≡ frame (reading.and_atom t l)
atom_is t l = ap (λ (m : Measure). let f : Frame = record { before = option_map measure l.before; so_far = m; atom = Some (measure t) } in f) (last_is l)

edge_is : (t : PatternTree) (l : Level) → measure t ≡ unit true → measures.and_edge (frame l) ≡ frame (reading.and_edge t l)
edge_is t l e =
    ap (λ (m : Measure). let f : Frame = record { before = option_map measure l.before; so_far = joined m (unit true); atom = None } in f) (last_is l)
    ∙ ap (λ (m : Measure). let f : Frame = record { before = option_map measure l.before; so_far = joined (measure (reading.last_of l)) m; atom = None } in f) (sym e)

bar_is : (l : Level) → measures.and_bar (frame l) ≡ frame (reading.and_bar l)
bar_is l = ap (λ (m : Measure). let f : Frame = record { before = Some m; so_far = unit true; atom = None } in f) (whole_is l)

part_is : (i : Item) (a : Option PatternTree) → option_map measure a ≡ option_map measure (reading.and_part i a)
part_is i None = refl
part_is i (Some empty) = refl
part_is i (Some (one j)) = refl
part_is i (Some (class negated parts)) = refl
part_is i (Some (join a b)) = refl
part_is i (Some (either a b)) = refl
part_is i (Some (repeated a r)) = refl
part_is i (Some (group a)) = refl

parts_are : (i : Item) (l : Level) → frame l ≡ frame (reading.with_parts i l)
parts_are i l = ap (λ (a : Option Measure). let f : Frame = record { before = option_map measure l.before; so_far = measure l.so_far; atom = a } in f) (part_is i l.atom)

if_map : {A B : Type 0} (f : A → B) (b : Bool) (x : A) → (if b then Some (f x) else None) ≡ option_map f (if b then Some x else None)
if_map f true x = refl
if_map f false x = refl

repeat_is : (purpose : Purpose) (r : Repeat) (l : Level) (a : Option PatternTree)
    → measures.and_repeat purpose r (frame l) (option_map measure a) ≡ option_map frame (reading.and_repeat purpose r l a)
repeat_is purpose r l None = refl
repeat_is purpose r l (Some t) =
    let x : Level = record { before = l.before; so_far = join l.so_far (repeated t r); atom = None } in
    if_map frame (reading.may_repeat purpose t r) x

inner_is : (ls : List Level) (f : Frame) (l : Level) → f ≡ frame l
    → measures.with_inner (map frame ls) (Some f) ≡ option_map frames (reading.with_inner ls (Some l))
inner_is ls f l e = ap (λ (g : Frame). measures.with_inner (map frame ls) (Some g)) e

inner_maybe : (ls : List Level) (f : Option Frame) (l : Option Level) → f ≡ option_map frame l
    → measures.with_inner (map frame ls) f ≡ option_map frames (reading.with_inner ls l)
inner_maybe ls f None e = ap (measures.with_inner (map frame ls)) e
inner_maybe ls f (Some l) e = ap (measures.with_inner (map frame ls)) e

closed_is : (l : Level) (ls : List Level) → measures.closed (frame l) (map frame ls) ≡ option_map frames (reading.closed l ls)
closed_is l [] = refl
closed_is l (o ∷ ls) =
    ap (λ (m : Measure). measures.with_inner (map frame ls) (Some (measures.and_atom m (frame o)))) (whole_is l)
    ∙ inner_is ls (measures.and_atom (measure (reading.whole l)) (frame o)) (reading.and_atom (group (reading.whole l)) o) (atom_is (group (reading.whole l)) o)

atom_after : (t : PatternTree) (s : Levels)
    → measures.with_inner (map frame s.outer) (Some (measures.and_atom (measure t) (frame s.inner)))
    ≡ option_map frames (reading.with_inner s.outer (Some (reading.and_atom t s.inner)))
atom_after t s = inner_is s.outer (measures.and_atom (measure t) (frame s.inner)) (reading.and_atom t s.inner) (atom_is t s.inner)

edge_after : (t : PatternTree) (s : Levels) → measure t ≡ unit true
    → measures.with_inner (map frame s.outer) (Some (measures.and_edge (frame s.inner)))
    ≡ option_map frames (reading.with_inner s.outer (Some (reading.and_edge t s.inner)))
edge_after t s e = inner_is s.outer (measures.and_edge (frame s.inner)) (reading.and_edge t s.inner) (edge_is t s.inner e)

bar_after : (s : Levels)
    → measures.with_inner (map frame s.outer) (Some (measures.and_bar (frame s.inner)))
    ≡ option_map frames (reading.with_inner s.outer (Some (reading.and_bar s.inner)))
bar_after s = inner_is s.outer (measures.and_bar (frame s.inner)) (reading.and_bar s.inner) (bar_is s.inner)

part_after : (i : Item) (s : Levels)
    → measures.with_inner (map frame s.outer) (Some (frame s.inner))
    ≡ option_map frames (reading.with_inner s.outer (Some (reading.with_parts i s.inner)))
part_after i s = inner_is s.outer (frame s.inner) (reading.with_parts i s.inner) (parts_are i s.inner)

repeat_after : (purpose : Purpose) (r : Repeat) (s : Levels)
    → measures.with_inner (map frame s.outer) (measures.and_repeat purpose r (frame s.inner) (option_map measure s.inner.atom))
    ≡ option_map frames (reading.with_inner s.outer (reading.and_repeat purpose r s.inner s.inner.atom))
repeat_after purpose r s =
    inner_maybe s.outer (measures.and_repeat purpose r (frame s.inner) (option_map measure s.inner.atom))
    (reading.and_repeat purpose r s.inner s.inner.atom) (repeat_is purpose r s.inner s.inner.atom)

-- an item changes the measures as it changes the levels
pub after_is : (purpose : Purpose) (i : Item) (s : Levels)
    → measures.after_item purpose i (frames s) ≡ option_map frames (reading.after_item purpose i s)
after_is purpose (kind.Literal c) s = atom_after (one (kind.Literal c)) s
after_is purpose kind.Any s = atom_after (one kind.Any) s
after_is purpose (kind.Named set negated) s = atom_after (one (kind.Named set negated)) s
after_is purpose kind.Start s = edge_after (one kind.Start) s refl
after_is purpose kind.End s = edge_after (one kind.End) s refl
after_is purpose kind.Boundary s = edge_after (one kind.Boundary) s refl
after_is purpose kind.Open s = refl
after_is purpose kind.Bar s = bar_after s
after_is purpose kind.Close s = closed_is s.inner s.outer
after_is purpose (kind.Repeat r) s = repeat_after purpose r s
after_is purpose (kind.OpenBracket negated) s = atom_after (class negated []) s
after_is purpose (kind.Range low high) s = part_after (kind.Range low high) s
after_is purpose (kind.Member set) s = part_after (kind.Member set) s
after_is purpose kind.CloseBracket s = refl
