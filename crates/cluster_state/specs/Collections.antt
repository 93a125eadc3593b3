-- The collections of cluster-scoped kinds that a state reads.
use Rattle.std.specs.Prelude.{ℕ, List, [], codes}
use Rattle.cluster_state.specs.Items.{Collection}

-- the collection of a cluster-scoped kind
abbrev pub of_cluster : List ℕ → List ℕ → Collection
of_cluster version kind = record { api_version = version; kind = kind; namespace = [] }

abbrev pub namespaces : Collection
namespaces = of_cluster (codes "v1") (codes "Namespace")

abbrev pub policies : Collection
policies = of_cluster (codes "admissionregistration.k8s.io/v1") (codes "ValidatingAdmissionPolicy")

abbrev pub bindings : Collection
bindings = of_cluster (codes "admissionregistration.k8s.io/v1") (codes "ValidatingAdmissionPolicyBinding")

abbrev pub definitions : Collection
definitions = of_cluster (codes "apiextensions.k8s.io/v1") (codes "CustomResourceDefinition")
