-- Sizes and depths of lists and maps, from those of their parts, over plain variables.
use Rattle.value_store.proofs.Prelude.{◌≡◌, ◌<◌, ◌≤◌, ℕ, ◌+◌, ◌-◌, ◌^◌, List, length, Some, None, Bool, true, false, arith, IsSome, max, if◌then◌else◌, size_of, depth_of, items_size, items_depth, entries_size, entries_depth, has_other, items_have_other, members_have_other, plain_value, plain_items, plain_entries, saturated, measure_of, Measure}
use Rattle.serde_json.specs.Data as json

-- the measure so far, together with the parts left
pub record Measuring (other : Bool) (size depth : ℕ) (rest_other : Bool) (rest_size rest_depth : ℕ) (m : Measure) : Type 0 where
  pub other_is : other ≡ rest_other
  pub size_is : saturated (m.size + rest_size) ≡ saturated (1 + size)
  pub depth_is : saturated (max m.depth (1 + rest_depth)) ≡ saturated (1 + depth)
  pub size_fits : m.size ≤ 2 ^ 64 - 1
  pub depth_fits : m.depth ≤ 2 ^ 64 - 1
  pub deep : 1 ≤ m.depth

abbrev pub ItemsMeasured : json.Items → json.Items → Measure → Type 0
ItemsMeasured all rest m =
    Measuring (items_have_other all) (items_size (plain_items all)) (items_depth (plain_items all)) (items_have_other rest) (items_size (plain_items rest)) (items_depth (plain_items rest)) m

abbrev pub MembersMeasured : json.Members → json.Members → Measure → Type 0
MembersMeasured all rest m =
    Measuring (members_have_other all) (entries_size (plain_entries all)) (entries_depth (plain_entries all)) (members_have_other rest) (entries_size (plain_entries rest)) (entries_depth (plain_entries rest)) m

deeper : (a b : ℕ) → 1 ≤ a → 1 ≤ max a b
deeper a b e = omega arith

measured : (b : Bool) (p m : Measure) → Some p ≡ (if b then None else Some m) → (b ≡ false) × (p ≡ m)
measured b p m e = grind arith

-- the measure of a part
abbrev pub IsMeasured : json.Data → Measure → Type 0
IsMeasured d p = (has_other d ≡ false) × (p ≡ record { size = saturated (size_of (plain_value d)); depth = saturated (depth_of (plain_value d)) })

pub part : (d : json.Data) (p : Measure) → Some p ≡ measure_of d → IsMeasured d p
unfolding measure_of
part d p e = grind arith

pub no_part : (d : json.Data) → None ≡ measure_of d → has_other d ≡ true
unfolding measure_of
no_part d e = grind arith

pub items_step : (all : json.Items) (d : json.Data) (ds : json.Items) (m p : Measure) → ItemsMeasured all (json.item d ds) m → Some p ≡ measure_of d
    → ItemsMeasured all ds (record { size = saturated (m.size + p.size); depth = max m.depth (saturated (p.depth + 1)) })
items_step all d ds m p go e = grind (arith, part)

pub members_step : (all : json.Members) (k : List ℕ) (d : json.Data) (ds : json.Members) (m p : Measure) → MembersMeasured all (json.member k d ds) m → Some p ≡ measure_of d
    → MembersMeasured all ds (record { size = saturated (saturated (m.size + p.size) + (1 + length k)); depth = max m.depth (saturated (p.depth + 1)) })
members_step all k d ds m p go e = grind (arith, part)

pub items_fail : (all : json.Items) (d : json.Data) (ds : json.Items) (m : Measure) → ItemsMeasured all (json.item d ds) m → None ≡ measure_of d → None ≡ measure_of (json.array all)
unfolding measure_of
items_fail all d ds m go e = grind arith

pub members_fail : (all : json.Members) (k : List ℕ) (d : json.Data) (ds : json.Members) (m : Measure) → MembersMeasured all (json.member k d ds) m
    → None ≡ measure_of d → None ≡ measure_of (json.object all)
unfolding measure_of
members_fail all k d ds m go e = grind arith

whole : {other : Bool} {size depth : ℕ} (m : Measure) → Measuring other size depth false 0 0 m
    → Some m ≡ (if other then None else Some (record { size = saturated (1 + size); depth = saturated (1 + depth) }))
whole {other = other} {size = size} {depth = depth} m go = grind arith

pub items_end : (all : json.Items) (m : Measure) → ItemsMeasured all json.no_items m → Some m ≡ measure_of (json.array all)
unfolding measure_of
items_end all m go = grind arith

pub members_end : (all : json.Members) (m : Measure) → MembersMeasured all json.no_members m → Some m ≡ measure_of (json.object all)
unfolding measure_of
members_end all m go = grind arith

-- a whole document has a measure, with its depth if that fits 64 bits
pub measured_some : (d : json.Data) → has_other d ≡ false → IsSome (measure_of d)
unfolding measure_of
measured_some d e = grind arith

pub measured_depth : (d : json.Data) (p : Measure) → Some p ≡ measure_of d → depth_of (plain_value d) < 2 ^ 64 → p.depth ≡ depth_of (plain_value d)
measured_depth d p e f = grind (arith, part)
