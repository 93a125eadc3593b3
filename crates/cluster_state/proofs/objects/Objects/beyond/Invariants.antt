-- Loop invariants of `objects::Objects::beyond`.
use Rattle.cluster_state.proofs.Prelude.{◌≡◌, collection_cmp, is_at, lookup}
use Rattle.cluster_state.proofs.objects.Objects.beyond.Given as goal

abbrev pub invariant-loop-place : goal.invariant-loop-place
invariant-loop-place l =
    lookup (is_at (collection_cmp (record { api_version = l.api_version; kind = l.kind; namespace = l.namespace }))) l.initial.place-iterator
    ≡ lookup (is_at (collection_cmp (record { api_version = l.api_version; kind = l.kind; namespace = l.namespace }))) l.place-iterator
