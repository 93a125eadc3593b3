-- Bindings and policies are read one after another.
use Rattle.cluster_state.proofs.Prelude.{◌++◌, append_assoc, sym, true, Some, policy_before, policy_in, ◌≡◌, ◌∙◌, ◌∷◌, ◌||◌, ℕ, Bool, List, [], Result, Ok, Err, ap, map, refl, Binding, CodeBinding, Named, BoundPolicy, Refusal, binding_view, bindings_in, bytes_eq, is_bound, list_any, policies_in}
use Rattle.serde_json.specs.Data as json
use Rattle.cluster_state.proofs.Listed.{after_done}

-- the bindings before `rest` are `done`
pub record BindingsGo (all rest : Named) (done : List Binding) : Type 0 where
  pub left : bindings_in all ≡ after_done done (bindings_in rest)

-- the policies before `rest` are `done`
pub record PoliciesGo (bs : List Binding) (all rest : Named) (done : List BoundPolicy) : Type 0 where
  pub left : policies_in bs all ≡ after_done done (policies_in bs rest)

any_of_map : {A B : Type 0} (p : B → Bool) (f : A → B) (xs : List A) → list_any (λ x. p (f x)) xs ≡ list_any p (map f xs)
any_of_map p f [] = refl
any_of_map p f (x ∷ xs) = ap (λ b. p (f x) || b) (any_of_map p f xs)

pub bound_in_views : (bs : List CodeBinding) (name : List ℕ) → list_any (λ b. bytes_eq b.policy_name.now name) bs ≡ is_bound (map binding_view bs) name
unfolding is_bound
bound_in_views bs name = any_of_map (λ b. bytes_eq b.policy_name name) binding_view bs

before_rest : (done : List BoundPolicy) (name : List ℕ) (p : BoundPolicy) (r : Result (List BoundPolicy) Refusal)
    → after_done done (policy_before name (Some p) r) ≡ after_done (done ++ p ∷ []) r
before_rest done name p (Ok ps) = ap Ok (sym (append_assoc done (p ∷ []) ps))
before_rest done name p (Err e) = refl

one_bound : (bs : List Binding) (rest : Named) (name : List ℕ) (d : json.Data) (p : BoundPolicy) → is_bound bs name ≡ true → policy_in name d ≡ Some p
    → policies_in bs ((name, d) ∷ rest) ≡ policy_before name (Some p) (policies_in bs rest)
one_bound bs rest name d p b r = rw (b, r) refl

pub policies_more : (bs : List Binding) (all it rest : Named) (name : List ℕ) (d : json.Data) (p : BoundPolicy) (done : List BoundPolicy)
    → policies_in bs all ≡ after_done done (policies_in bs it) → it ≡ (name, d) ∷ rest → is_bound bs name ≡ true → policy_in name d ≡ Some p
    → policies_in bs all ≡ after_done (done ++ p ∷ []) (policies_in bs rest)
policies_more bs all it rest name d p done left e b r =
    left ∙ ap (λ x. after_done done (policies_in bs x)) e ∙ ap (after_done done) (one_bound bs rest name d p b r)
    ∙ before_rest done name p (policies_in bs rest)
