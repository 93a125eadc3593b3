-- The turns of loops over lists.
use Rattle.serde_json.specs.Data as json
use Rattle.cluster_state.proofs.Prelude.{◌≡◌, ◌∙◌, ◌++◌, ◌∷◌, ◌+◌, ℕ, List, [], Some, Result, Ok, Err, ap, append_assoc, refl, sym, Item, Refusal, before, documents_in, item_before, item_in, items_in}
use Rattle.cluster_state.specs.Items.{list_in}
use Rattle.cluster_state.proofs.Listed.{DocumentsGo, ItemsGo, after_done}

documents_more : (place : ℕ) (done ds new : List json.Data) (rest : Result (List json.Data) Refusal) → new ≡ done ++ ds
    → after_done done (before place (Some ds) rest) ≡ after_done new rest
documents_more place done ds new (Ok es) added = ap Ok (sym (append_assoc done ds es)) ∙ ap (λ xs. Ok (xs ++ es)) (sym added)
documents_more place done ds new (Err e) added = refl

pub documents_next : (all it rest : List json.Data) (d : json.Data) (place : ℕ) (done ds new : List json.Data) → DocumentsGo all it place done → it ≡ d ∷ rest
    → Some ds ≡ list_in d → new ≡ done ++ ds → DocumentsGo all rest (place + 1) new
documents_next all it rest d place done ds new go is found added = record {
  left =
      go.left ∙ ap (λ x. after_done done (documents_in place x)) is ∙ ap (λ o. after_done done (before place o (documents_in (place + 1) rest))) (sym found)
      ∙ documents_more place done ds new (documents_in (place + 1) rest) added;
}

item_more : (place : ℕ) (done new : List Item) (i : Item) (rest : Result (List Item) Refusal) → new ≡ done ++ i ∷ []
    → after_done done (item_before place (Some i) rest) ≡ after_done new rest
item_more place done new i (Ok is) added = ap Ok (sym (append_assoc done (i ∷ []) is)) ∙ ap (λ xs. Ok (xs ++ is)) (sym added)
item_more place done new i (Err e) added = refl

pub items_next : (all it rest : List json.Data) (d : json.Data) (place : ℕ) (done new : List Item) (i : Item) → ItemsGo all it place done → it ≡ d ∷ rest
    → Some i ≡ item_in d → new ≡ done ++ i ∷ [] → ItemsGo all rest (place + 1) new
items_next all it rest d place done new i go is found added = record {
  left =
      go.left ∙ ap (λ x. after_done done (items_in place x)) is ∙ ap (λ o. after_done done (item_before place o (items_in (place + 1) rest))) (sym found)
      ∙ item_more place done new i (items_in (place + 1) rest) added;
}
