-- Programs can run on roots that are not refused.
use Rattle.std.specs.Prelude.{◌≡◌, ℕ, List, length, Option, Ok}
use Rattle.serde_json.specs.Data as json
use Rattle.value_store.specs.Placing.{Contents}
use Rattle.value_store.specs.Roots.{start_contents}
use Rattle.cel_macros.specs.Environment.{Roots}
use Rattle.bpf_machine.specs.Starts.{AreDocuments}
use Rattle.expression_code.specs.Contexts.{HasValues}
use Rattle.admission.specs.Deciding.{started}
use Rattle.admission.specs.Reviews.{contents_given}

-- the contents at the start with some roots, whose values a policy's program can decide on
pub record AreOfRoots (values : Contents) : Type 0 where
  pub roots : Roots
  pub are : values ≡ started roots
  pub has : HasValues roots values

-- five documents that are not refused give such contents; their negative numbers fit 64 bits signed, as `serde_json`
-- keeps them
abbrev pub DocumentsHaveValues : Type 0
DocumentsHaveValues = (documents : List json.Data) (values : Contents) → length documents ≡ 5 → AreDocuments documents
    → start_contents documents ≡ Ok values → AreOfRoots values

-- the texts of a review, a namespace and the params give such contents; each may be missing
abbrev pub GivenHaveValues : Type 0
GivenHaveValues = (review namespace params : Option (List ℕ)) (values : Contents)
    → contents_given review namespace params ≡ Ok values → AreOfRoots values
