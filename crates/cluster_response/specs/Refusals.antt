-- Why a policy does not decide a request.
use Rattle.std.specs.Prelude.{ℕ, List, codes}
use Rattle.cluster_response.specs.declared.cluster_refusal.ClusterRefusal.{ClusterRefusal}
use Rattle.cluster_response.specs.declared.cluster_refusal.ClusterRefusal.TheVariants.{ReviewRefused, NamespaceOrParamsRefused, OutOfSteps, OverLimit, OutOfReads, UnknownMatch, PolicyRefused, UnknownParamKind}

-- the code of a refusal: `N2` to `N7` of a request, `C7` and `C8` of a policy
abbrev pub cluster_refusal_code : ClusterRefusal → List ℕ
cluster_refusal_code ReviewRefused = codes "N2"
cluster_refusal_code NamespaceOrParamsRefused = codes "N3"
cluster_refusal_code OutOfSteps = codes "N4"
cluster_refusal_code OverLimit = codes "N5"
cluster_refusal_code OutOfReads = codes "N7"
cluster_refusal_code UnknownMatch = codes "N6"
cluster_refusal_code PolicyRefused = codes "C7"
cluster_refusal_code UnknownParamKind = codes "C8"
