-- Proofs of `checking::check`: the result meets the contract.

use Rattle.cel_types.proofs.Prelude.{◌≡◌, ap, ◌∙◌, sym, subst, Result, Ok, Err, IfOk, IfErr, Tree, Core, expanded, plain_tree, core_view, Environment, meaning, core_typing, scope_of, FitsType, FitsScope, CelType, TypeError, Scope, Typing, fault_of, typing_of, typing, HasFault, HasType}
use Rattle.cel_types.proofs.CoreTypes.{expansion_typed}
use Rattle.cel_types.proofs.Sound.{is_sound}
use Rattle.cel_types.proofs.TypedCores.{typed_is_expanded, plain_typed}
use Rattle.cel_types.proofs.checking.check.Goals as goal

typed_core : (c : goal.After-outer_type) → typing_of c.outer_type.result ≡ core_typing (core_view c.args.core.now) (scope_of c.args.scope.now)
typed_core c = c.outer_type.ensures ∙ ap (λ ds. core_typing (core_view c.args.core.now) (scope_of ds)) c.variables.ensures

typed_plain : (c : goal.After-outer_type) (e : Tree) → core_view c.args.core.now ≡ expanded e → typing_of c.outer_type.result ≡ typing e (scope_of c.args.scope.now)
typed_plain c e h = typed_core c ∙ ap (λ t. core_typing t (scope_of c.args.scope.now)) h ∙ expansion_typed e (scope_of c.args.scope.now)

as_expansion : (s : Scope) (a : Core) (r : Result CelType TypeError) → typing_of r ≡ core_typing a s → IfOk r (λ t. a ≡ expanded (plain_tree a))
as_expansion s a (Ok t) is = typed_is_expanded a s t (sym is)
as_expansion s a (Err y) is = tt

as_typed : (s : Scope) (a : Core) (r : Result CelType TypeError) → typing_of r ≡ core_typing a s → IfOk r (HasType s (plain_tree a))
as_typed s a (Ok t) is = plain_typed a s t (sym is)
as_typed s a (Err y) is = tt

as_refused : (s : Scope) (e : Tree) (r : Result CelType TypeError) → typing_of r ≡ typing e s → IfErr r (λ y. HasFault s e (fault_of y))
as_refused s e (Ok t) is = tt
as_refused s e (Err y) is = sym is

as_sound : (s : Scope) (a : Core) (env : Environment) (r : Result CelType TypeError) → typing_of r ≡ core_typing a s → FitsScope s env → FitsType (typing_of r) (meaning (plain_tree a) env)
as_sound s a env (Ok t) is fits = subst (λ (x : Typing). FitsType x (meaning (plain_tree a) env)) (plain_typed a s t (sym is)) (is_sound (plain_tree a) s env fits)
as_sound s a env (Err y) is fits = tt

pub returns-clause-plain : goal.returns-clause-plain
returns-clause-plain c = λ e h. typed_plain c e h

pub returns-clause-expansion : goal.returns-clause-expansion
returns-clause-expansion c = as_expansion (scope_of c.args.scope.now) _ _ (typed_core c)

pub returns-clause-has_type : goal.returns-clause-has_type
returns-clause-has_type c = as_typed (scope_of c.args.scope.now) _ _ (typed_core c)

pub returns-clause-has_fault : goal.returns-clause-has_fault
returns-clause-has_fault c = λ e h. as_refused _ e _ (typed_plain c e h)

pub returns-clause-sound : goal.returns-clause-sound
returns-clause-sound c = λ env fits. as_sound (scope_of c.args.scope.now) _ env _ (typed_core c) fits
