-- Names, fields and indices of expressions.
use Rattle.std.proofs.Common.{◌≡◌, ℕ, Bool, true, false, List, [], Option, Some, None, refl, subst, bytes_eq}
use Rattle.std.proofs.Common.{if◌then◌else◌, is_some, unwrap_or}
use Rattle.cel_reader.specs.Tree as tree
use Rattle.value_store.specs.Value.{Value}
use Rattle.cel_macros.specs.Environment.{lookup, root_bindings}
use Rattle.cel_macros.specs.Macros.{variables_name}
use Rattle.wide_reader.specs.Tree.{Wide}
use Rattle.wide_reader.specs.Tree as wide
use Rattle.wide_reader.specs.declared.wide.Access.{Access, TheVariants.Plain, TheVariants.Optional}
use Rattle.wide_meaning.specs.Access.{field_in, index_in}
use Rattle.wide_meaning.specs.Environment.{WideEnvironment, bound, name_in, item_or, root_in, variable_in}
unfoldable use Rattle.wide_meaning.specs.Meaning.{wide_meaning}
use Rattle.wide_meaning.specs.Meaning.{selected as field_selected}
use Rattle.wide_meaning.specs.Outcome.{Outcome}
use Rattle.wide_reach.specs.Known.{KnownNames, binding, known, selected}
use Rattle.wide_reach.specs.Law.{IsOutcomeReached, AreInRange}
use Rattle.wide_reach.specs.Ranges.{Ranges, ranging, root_reach, select_reach, index_reach}
use Rattle.wide_reach.specs.Reached.{IsReached}
use Rattle.wide_reach.proofs.Lists.{some_same}
use Rattle.wide_reach.proofs.Results.{document_reached, text_index_reached, index_reached}

named_or : (o : Option (List Value)) (q : Option Value) (vs : List Value) (outside : Outcome) → is_some o ≡ is_some q
    → ((v : Value) → q ≡ Some v → IsReached (unwrap_or o []) v) → IsOutcomeReached vs outside
    → IsOutcomeReached (unwrap_or o vs) (item_or q outside)
named_or None None vs outside e h g = g
named_or None (Some v) vs outside e h g = absurd (cc)
named_or (Some us) None vs outside e h g = absurd (cc)
named_or (Some us) (Some v) vs outside e h g = h v refl

pub name_reached : (x : List ℕ) (s : KnownNames) (r : Ranges) (env : WideEnvironment) → AreInRange s r env → known (lookup x s.names) ≡ true
    → IsOutcomeReached (unwrap_or (lookup x r.names) (root_reach x env.roots)) (name_in x env)
name_reached x s r env h k =
    named_or (lookup x r.names) (lookup x env.items) (root_reach x env.roots) (root_in x env.roots) (h.ranged x) (λ v e. h.named x v k e)
    (document_reached (lookup x (root_bindings env.roots)))

bound_name : (c b : Bool) (vs : List Value) (v w : Value) (o : Option Bool) (p : Option (List Value)) (q : Option Value)
    → (b ≡ true → IsReached vs v)
    → (known o ≡ true → q ≡ Some w → IsReached (unwrap_or p []) w)
    → known (if c then Some b else o) ≡ true → (if c then Some v else q) ≡ Some w → IsReached (unwrap_or (if c then Some vs else p) []) w
bound_name true b vs v w o p q g h k e = subst (IsReached vs) (some_same v v w e) (g k)
bound_name false b vs v w o p q g h k e = h k e

same_bound : {A B : Type 0} (c : Bool) (a : A) (b : B) (o : Option A) (q : Option B) → is_some o ≡ is_some q
    → is_some (if c then Some a else o) ≡ is_some (if c then Some b else q)
same_bound true a b o q h = refl
same_bound false a b o q h = h

-- inside a macro that binds x to v
pub bound_in_range : (x : List ℕ) (b : Bool) (vs : List Value) (v : Value) (s : KnownNames) (r : Ranges) (env : WideEnvironment)
    → AreInRange s r env
    → (b ≡ true → IsReached vs v) → AreInRange (binding x b s) (ranging x vs r) (bound x v env)
bound_in_range x b vs v s r env h g = record {
  named = λ y w k e. bound_name (bytes_eq x y) b vs v w (lookup y s.names) (lookup y r.names) (lookup y env.items) g
      (λ i j. h.named y w i j) k e;
  ranged = λ y. same_bound (bytes_eq x y) vs v (lookup y r.names) (lookup y env.items) (h.ranged y);
  hidden = same_bound (bytes_eq x variables_name) b v (lookup variables_name s.names) (lookup variables_name env.items) h.hidden;
  varied = h.varied;
}

pub selected_reached : (b : Bool) (o : Access) (v a : Bool) (vs fs : List Value) (f : List ℕ) (x : Outcome) (env : WideEnvironment)
    → (v ≡ true → IsOutcomeReached vs (variable_in f env.variables)) → (a ≡ true → IsOutcomeReached fs (field_in o x f))
    → selected b o v a ≡ true → IsOutcomeReached (select_reach b o vs fs) (field_selected b o f x env)
selected_reached true Plain v a vs fs f x env h g k = h k
selected_reached true Optional v a vs fs f x env h g k = g k
selected_reached false Plain v a vs fs f x env h g k = g k
selected_reached false Optional v a vs fs f x env h g k = g k

module _ (others : Wide → WideEnvironment → Outcome) where
  pub indexed_reached : (o : Access) (vs : List Value) (x : Outcome) (k : Wide) (env : WideEnvironment) → IsOutcomeReached vs x
      → IsOutcomeReached (index_reach k vs) (index_in o x (wide_meaning others k env))
  unfolding wide_meaning
  indexed_reached o vs x (wide.literal (tree.text f)) env h = text_index_reached o vs x f h
  indexed_reached o vs x k env h = index_reached vs o x (wide_meaning others k env) h
