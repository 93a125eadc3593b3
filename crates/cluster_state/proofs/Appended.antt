-- Bindings and policies are appended one after another.
use Rattle.std.specs.Prelude.{IsOkAnd}
use Rattle.cluster_state.proofs.Prelude.{◌≡◌, ◌∙◌, ◌++◌, ◌∷◌, ℕ, List, [], Option, None, Some, Result, Ok, Err, ap, append_assoc, map, map-append, refl, sym, true, Binding, BoundPolicy, Named, Refusal, binding_before, binding_in, bindings_in, is_bound, policies_in, policy_in}
use Rattle.serde_json.specs.Data as json
use Rattle.cluster_state.specs.Reading.{or_invalid_binding, or_invalid_policy}
use Rattle.cluster_state.specs.Refusals.{ReadsDue}
use Rattle.cluster_state.specs.declared.state_error.StateError.{StateError}
use Rattle.cluster_state.specs.declared.binding_part.BindingPart.{BindingPart}
use Rattle.cluster_state.proofs.Held.{policies_more}
use Rattle.cluster_state.proofs.Listed.{after_done}

bound : (done : List Binding) (name : List ℕ) (x : Result Binding BindingPart) (b : Binding) (rest : Result (List Binding) Refusal)
    → or_invalid_binding name x ≡ Ok b → after_done done (binding_before name x rest) ≡ after_done (done ++ b ∷ []) rest
bound done name (Ok a) b (Ok bs) e =
    let same : a ≡ b = cc in
    ap (λ x. Ok (done ++ x ∷ bs)) same ∙ ap Ok (sym (append_assoc done (b ∷ []) bs))
bound done name (Ok a) b (Err r) e = refl
bound done name (Err p) b rest e = cc

pub bindings_next : (all it rest : Named) (name : List ℕ) (d : json.Data) (b : Binding) (done : List Binding) → bindings_in all ≡ after_done done (bindings_in it)
    → it ≡ (name, d) ∷ rest → or_invalid_binding name (binding_in name d) ≡ Ok b → bindings_in all ≡ after_done (done ++ b ∷ []) (bindings_in rest)
bindings_next all it rest name d b done left e r =
    left ∙ ap (λ x. after_done done (bindings_in x)) e ∙ bound done name (binding_in name d) b (bindings_in rest) r

valid : (name : List ℕ) (x : Option BoundPolicy) (p : BoundPolicy) → or_invalid_policy name x ≡ Ok p → x ≡ Some p
valid name (Some q) p e = cc
valid name None p e = cc

pub policies_next : (bs : List Binding) (all it rest : Named) (name : List ℕ) (d : json.Data) (p : BoundPolicy) (done : List BoundPolicy)
    → policies_in bs all ≡ after_done done (policies_in bs it) → it ≡ (name, d) ∷ rest → is_bound bs name ≡ true → or_invalid_policy name (policy_in name d) ≡ Ok p
    → policies_in bs all ≡ after_done (done ++ p ∷ []) (policies_in bs rest)
policies_next bs all it rest name d p done left e b r = policies_more bs all it rest name d p done left e b (valid name (policy_in name d) p r)

-- what an item that was read adds to those before it
pub viewed : {A B : Type 0} (see : B → A) (part : Result A Refusal) (item : Result B StateError) (before after : List B) → ReadsDue see part item
    → IsOkAnd item (λ x. after ≡ before ++ x ∷ []) → (l : Result (List A) Refusal) (rest : Result (List A) Refusal)
    → ((a : A) → part ≡ Ok a → l ≡ after_done (map see before ++ a ∷ []) rest) → l ≡ after_done (map see after) rest
viewed see part (Ok x) before after read added l rest f =
    f (see x) read ∙ ap (λ xs. after_done xs rest) (sym (ap (map see) added ∙ map-append see before (x ∷ [])))
viewed see part (Err e) before after read added l rest f = absurd added
