-- The types of a call and of a method call, given their arguments.
use Rattle.cel_types.proofs.Prelude.{◌≡◌, ◌<◌, List, [], ◌∷◌, length, map, refl, sym, ap, ◌∙◌, arith, list_all, CodeCore, Callee, Core, Cores, no_cores, more_cores, call, method, core_view, cores, core_entries, core_pair, CelType, TypeFault, Typing, typed, refused, NoOverload, with_type, with_types, is_text_key, map_literal_row, Scope, core_typing, core_typings, core_entry_typings, core_key_typings, call_typing, method_typing}
use Rattle.cel_macros.specs.CoreTree as node

pub call_typed : (n : Callee) (arguments : Cores) (s : Scope) → core_typing (call n arguments) s ≡ call_typing n arguments s
unfolding core_typing
call_typed n (more_cores a no_cores) s = refl
call_typed n _ s = refl

pub call_of_none : (n : Callee) (items : List CodeCore) (s : Scope) → length items < 1 → call_typing n (cores (map core_view items)) s ≡ refused NoOverload
unfolding core_typings
call_of_none n [] s h = refl
call_of_none n (a ∷ items) s h = absurd (omega arith)

pub call_of_many : (n : Callee) (items : List CodeCore) (s : Scope) → 1 < length items
    → call_typing n (cores (map core_view items)) s ≡ with_types (core_typings (cores (map core_view items)) s) (refused NoOverload)
call_of_many n (a ∷ b ∷ items) s h = refl
call_of_many n _ s h = absurd (omega arith)

pub method_typed : (a : Core) (n : Callee) (arguments : Cores) (s : Scope) → core_typing (method a n arguments) s ≡ with_type (core_typing a s) (λ t. method_typing n t arguments s)
unfolding core_typing
method_typed a n (more_cores b no_cores) s = refl
method_typed a n _ s = refl

pub method_of_many : (n : Callee) (t : CelType) (items : List CodeCore) (s : Scope) → 1 < length items
    → method_typing n t (cores (map core_view items)) s ≡ with_types (core_typings (cores (map core_view items)) s) (refused NoOverload)
method_of_many n t (a ∷ b ∷ items) s h = refl
method_of_many n t _ s h = absurd (omega arith)

-- ---- the code's results for a call, a method call and a map literal are those of their trees

pub call_seen : (core : Core) (n : Callee) (items more : List CodeCore) (s : Scope) (r : Typing) → core ≡ call n (cores (map core_view items))
    → more ≡ items → r ≡ call_typing n (cores (map core_view more)) s → r ≡ core_typing core s
call_seen core n items more s r e ei h = h ∙ ap (λ l. call_typing n (cores (map core_view l)) s) ei ∙ sym (call_typed n (cores (map core_view items)) s) ∙ ap (λ c. core_typing c s) (sym e)

pub method_refused : (core a : Core) (n : Callee) (parts : Cores) (s : Scope) (y : TypeFault) → core ≡ method a n parts → refused y ≡ core_typing a s → refused y ≡ core_typing core s
method_refused core a n parts s y e h = ap (λ r. with_type r (λ t. method_typing n t parts s)) h ∙ sym (method_typed a n parts s) ∙ ap (λ c. core_typing c s) (sym e)

-- a method call with equal arguments
pub method_same : (core a : Core) (n : Callee) (items more : List CodeCore) → core ≡ method a n (cores (map core_view items)) → more ≡ items
    → core ≡ method a n (cores (map core_view more))
method_same core a n items more e ei = e ∙ sym (ap (λ l. method a n (cores (map core_view l))) ei)

pub method_seen : (core a : Core) (n : Callee) (items : List CodeCore) (s : Scope) (t : CelType) (r : Typing) → core ≡ method a n (cores (map core_view items))
    → typed t ≡ core_typing a s → r ≡ method_typing n t (cores (map core_view items)) s → r ≡ core_typing core s
method_seen core a n items s t r e found h =
    h ∙ ap (λ x. with_type x (λ u. method_typing n u (cores (map core_view items)) s)) found ∙ sym (method_typed a n (cores (map core_view items)) s) ∙ ap (λ c. core_typing c s) (sym e)

abbrev entries_typing : List (CodeCore × CodeCore) → Scope → Typing
entries_typing pairs s =
    with_types (core_entry_typings (core_entries (map core_pair pairs)) s) (map_literal_row (list_all is_text_key (core_key_typings (core_entries (map core_pair pairs)) s)))

pub map_seen : (core : Core) (pairs more : List (CodeCore × CodeCore)) (s : Scope) (r : Typing) → core ≡ node.map (core_entries (map core_pair pairs))
    → more ≡ pairs → r ≡ entries_typing more s → r ≡ core_typing core s
unfolding core_typing
map_seen core pairs more s r e ep h = h ∙ ap (λ es. entries_typing es s) ep ∙ ap (λ c. core_typing c s) (sym e)
