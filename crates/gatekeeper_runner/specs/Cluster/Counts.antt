-- The numbers of objects of each kind in lists.
use Rattle.std.specs.Prelude.{◌≡◌, ℕ, List, length, unwrap_or}
use Rattle.std.specs.BTreeMap.{BTreeMap, get_by}
use Rattle.std.specs.Borrow.{Bor}
use Rattle.std.specs.Cmp.Lexicographic.{slice_cmp}
use Rattle.std.specs.Ordering.{nat_cmp, ordering_then}
use Rattle.std.specs.declared.cmp.Ordering.{Ordering}
use Rattle.serde_json.specs.Data as json
use Rattle.cluster_state.specs.Policies.{ParamKind}
use Rattle.gatekeeper_runner.specs.Cluster.Telling.{listed}

-- a number for each `apiVersion` and kind
abbrev pub Counts : Type 0
Counts = BTreeMap (Bor (List ℕ) × Bor (List ℕ)) ℕ

-- how a kind of params compares with one of the code
abbrev pub kind_cmp : ParamKind → Bor (List ℕ) × Bor (List ℕ) → Ordering
kind_cmp k p = ordering_then (slice_cmp nat_cmp k.api_version p.0.now) (slice_cmp nat_cmp k.kind p.1.now)

-- the number that is kept for a kind
abbrev pub count_of : Counts → ParamKind → ℕ
count_of m k = unwrap_or (get_by (kind_cmp k) m) 0

-- the numbers are those of the objects in lists
abbrev pub AreCounts : Counts → List json.Data → Type 0
AreCounts m lists = (k : ParamKind) → count_of m k ≡ length (listed k lists)
