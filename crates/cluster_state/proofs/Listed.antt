-- Lists are read one after another, with their places.
pub use Rattle.json_fields.proofs.Items.{listed}
use Rattle.cluster_state.proofs.Prelude.{◌≡◌, ◌++◌, ℕ, List, Result, Ok, Err, Item, Refusal, documents_in, items_in}
use Rattle.serde_json.specs.Data as json

-- what is read after `done`
abbrev pub after_done : {A : Type 0} → List A → Result (List A) Refusal → Result (List A) Refusal
after_done done (Ok rest) = Ok (done ++ rest)
after_done done (Err e) = Err e

-- the documents of the lists before `rest` are `done`
pub record DocumentsGo (all rest : List json.Data) (place : ℕ) (done : List json.Data) : Type 0 where
  pub left : documents_in 0 all ≡ after_done done (documents_in place rest)

-- the items of the documents before `rest` are `done`
pub record ItemsGo (all rest : List json.Data) (place : ℕ) (done : List Item) : Type 0 where
  pub left : items_in 0 all ≡ after_done done (items_in place rest)
