-- The lemmas of cluster_rows.
pub mod ParamOrder
pub mod Status
