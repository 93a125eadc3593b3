-- A state all of whose parts were read.
use Rattle.cluster_state.proofs.Prelude.{◌≡◌, ◌∙◌, List, Ok, ap, sym, AreObjects, Binding, Item, Objects, BoundPolicy, bindings, bindings_in, bindings_then, items_of, items_then, objects_of, policies, policies_in, policies_then, state_of, state_with}
use Rattle.serde_json.specs.Data as json

pub state_whole : (lists : List json.Data) (items : List Item) (o code : Objects) (bs : List Binding) (ps : List BoundPolicy) → items_of lists ≡ Ok items
    → objects_of items ≡ Ok o → AreObjects o code → bindings_in (code bindings) ≡ Ok bs → policies_in bs (code policies) ≡ Ok ps
    → state_of lists ≡ Ok (record { items = items; objects = o; bindings = bs; policies = ps })
state_whole lists items o code bs ps read listed same bound held =
    ap items_then read ∙ ap (bindings_then items) listed ∙ ap (policies_then items o) (ap bindings_in (sym (same bindings)) ∙ bound)
    ∙ ap (state_with items o bs) (ap (policies_in bs) (sym (same policies)) ∙ held)
