-- Each measure of a source expression is that of its expansion: the tables compute the measures of all forms.
use Rattle.cel_measures.proofs.Prelude.{◌≡◌, ℕ, ◌+◌, max, List, refl, ap, arith, map as each, Core, Cores, CoreEntries, no_cores, more_cores, no_core_entries, more_core_entries, nodes, nodes_of, entries_nodes, need, call_need, needs, needs_behind, entries_need, deepest, deepest_of, entries_deepest, total, greatest, nodes_by, need_by, deepest_by, SameNodes, SameNeed, SameDepth}
use Rattle.cel_measures.specs.SourceMeasures as source
use Rattle.cel_measures.proofs.SourceParts.{IsBy, each_core, core_pairs, source_same}

-- ---- nodes

total_nodes : (cs : Cores) → total (each_core nodes cs) ≡ nodes_of cs
unfolding nodes
total_nodes no_cores = refl
total_nodes (more_cores a more) = ap (λ k. nodes a + k) (total_nodes more)

entry_nodes : (es : CoreEntries) → total (each (λ e. e.0 + e.1) (core_pairs nodes es)) ≡ entries_nodes es
unfolding nodes
entry_nodes no_core_entries = refl
entry_nodes (more_core_entries k v more) = ap (λ n. nodes k + nodes v + n) (entry_nodes more)

nodes_table : IsBy nodes_by nodes
unfolding nodes
nodes_table e = grind (arith, total_nodes, entry_nodes)

pub same_nodes : SameNodes
same_nodes e = source_same nodes_by nodes nodes_table e

-- ---- need

greatest_need : (cs : Cores) → greatest (each_core need cs) ≡ needs cs
unfolding need
greatest_need no_cores = refl
greatest_need (more_cores a more) = ap (λ k. max (need a) k) (greatest_need more)

greatest_behind : (cs : Cores) → greatest (each (λ b. 1 + b) (each_core need cs)) ≡ needs_behind cs
unfolding need
greatest_behind no_cores = refl
greatest_behind (more_cores a more) = ap (λ k. max (1 + need a) k) (greatest_behind more)

entry_need : (es : CoreEntries) → greatest (each (λ e. max (1 + e.0) (2 + e.1)) (core_pairs need es)) ≡ entries_need es
unfolding need
entry_need no_core_entries = refl
entry_need (more_core_entries k v more) = ap (λ n. max (max (1 + need k) (2 + need v)) n) (entry_need more)

a_call : (cs : Cores) → source.call_need (each_core need cs) ≡ call_need cs
unfolding need
a_call (more_cores a (more_cores b more)) = ap (λ k. 1 + max (need a) (max (need b) k)) (greatest_need more)
a_call _ = refl

need_table : IsBy need_by need
unfolding need
need_table e = grind (arith, a_call, greatest_behind, greatest_need, entry_need)

pub same_need : SameNeed
same_need e = source_same need_by need need_table e

-- ---- depth

module _ (s : List (List ℕ × ℕ)) where
  abbrev deep : Core → ℕ
  deep a = deepest a s

  greatest_deep : (cs : Cores) → greatest (each_core deep cs) ≡ deepest_of cs s
  unfolding deepest
  greatest_deep no_cores = refl
  greatest_deep (more_cores a more) = ap (λ k. max (deepest a s) k) (greatest_deep more)

  entry_deep : (es : CoreEntries) → greatest (each (λ e. max e.0 e.1) (core_pairs deep es)) ≡ entries_deepest es s
  unfolding deepest
  entry_deep no_core_entries = refl
  entry_deep (more_core_entries k v more) = ap (λ n. max (max (deepest k s) (deepest v s)) n) (entry_deep more)

  depth_table : IsBy (deepest_by s) deep
  unfolding deepest
  depth_table e = grind (arith, greatest_deep, entry_deep)

pub same_depth : SameDepth
same_depth e s = ap (λ k. 1 + k) (source_same (deepest_by s) (deep s) (depth_table s) e)
