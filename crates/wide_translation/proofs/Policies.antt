-- A policy's translations carry what its expressions mean.
use lib.Pointwise.{bytes_decides}
use Rattle.std.specs.Prelude.{⊤}
use Rattle.std.proofs.Common.{◌≡◌, ℕ, Bool, true, false, List, [], ◌∷◌, ◌++◌, fold, map, Option, Some, None, bytes_eq}
use Rattle.std.proofs.Common.{if◌then◌else◌, unwrap_or, refl, ap, sym, ◌∙◌, subst, arith, append_assoc, append-nil}
use Rattle.cel_reader.specs.Tree.{Tree}
use Rattle.cel_reader.specs.Tree as tree
use Rattle.value_store.specs.Value.{Value, ValueOrError, error}
use Rattle.cel_macros.specs.Environment.{Environment, Roots, lookup, root_bindings, value_or_error}
unfoldable use Rattle.cel_macros.specs.Environment.{name_value, variable_value}
unfoldable use Rattle.cel_macros.specs.Macros.{is_variables, is_has}
unfoldable use Rattle.cel_macros.specs.Functions.{function_named}
unfoldable use Rattle.cel_macros.specs.Meaning.{meaning, meanings}
use Rattle.wide_reader.specs.Tree.{Wide}
use Rattle.wide_meaning.specs.Environment.{WideEnvironment, root_in, plain_or_failed}
use Rattle.wide_meaning.specs.Meaning.{wide_meaning}
use Rattle.wide_meaning.specs.Outcome.{Outcome, plain_part}
use Rattle.wide_kinds.specs.declared.kind.Kind.{Kind, TheVariants.Value as OfValue}
use Rattle.wide_kinds.specs.declared.kind.Kind.{TheVariants.Optional as OfOptional}
use Rattle.wide_translation.specs.Scope.{scope_of, condition_scope}
use Rattle.wide_translation.specs.Forms.{null_tree, placed_tree}
use Rattle.wide_translation.specs.Holds.{Declared, WideStandsFor}
use Rattle.wide_translation.specs.Names.{namespace_name, params_name, params_field}
use Rattle.wide_translation.specs.Placed.{placed, condition_roots, wide_environment, environment, WideStep, kind_of, AreTranslated}
use Rattle.wide_translation.specs.Placed.{with_outcome, with_value, table_in, AreTabled, PolicyMeansTheSame, ConditionMeansTheSame}
use Rattle.wide_translation.specs.Indexed.{IsTabled}
use Rattle.wide_translation.specs.Pairs.{table_tree}
use Rattle.wide_translation.specs.Results.{WideMeans, IsCarried}

-- ---- roots

part_of_option : (o : Option Value) → value_or_error o ≡ plain_part (plain_or_failed o)
part_of_option (Some v) = refl
part_of_option None = refl

-- a name that is not `params`, in roots whose parameters have tables beside them
other_root : (n : List ℕ) (ts : Value) (roots : Roots) → bytes_eq params_name n ≡ false → lookup n (root_bindings (placed true ts roots)) ≡ lookup n (root_bindings roots)
other_root n ts roots h = grind (arith, h)

root_by : (b : Bool) (n : List ℕ) (ts : Value) (roots : Roots) (vs : List (List ℕ × ValueOrError)) → bytes_eq params_name n ≡ b
    → meaning (if b then tree.select (tree.name params_name) params_field else tree.name n) (environment (placed true ts roots) vs) ≡ plain_part (root_in n roots)
unfolding meaning is_variables name_value
root_by true n ts roots vs h = ap (λ m. plain_part (root_in m roots)) ((bytes_decides params_name n).0 h)
root_by false n ts roots vs h = ap value_or_error (other_root n ts roots h) ∙ part_of_option (lookup n (root_bindings roots))

rooted : (w : Bool) (n : List ℕ) (ts : Value) (roots : Roots) (vs : List (List ℕ × ValueOrError))
    → meaning (placed_tree w n) (environment (placed w ts roots) vs) ≡ plain_part (root_in n roots)
unfolding meaning name_value
rooted true n ts roots vs = root_by (bytes_eq params_name n) n ts roots vs refl
rooted false n ts roots vs = part_of_option (lookup n (root_bindings roots))

-- ---- variables

-- a variable with its kind and its two values
record Defined : Type 0 where
  name : List ℕ
  kind : Kind
  outcome : Outcome
  result : ValueOrError

abbrev kinds : List Defined → List (List ℕ × Kind)
kinds ds = map (λ d. (d.name, d.kind)) ds

abbrev outcomes : List Defined → List (List ℕ × Outcome)
outcomes ds = map (λ d. (d.name, d.outcome)) ds

abbrev results : List Defined → List (List ℕ × ValueOrError)
results ds = map (λ d. (d.name, d.result)) ds

abbrev AreCoded : List Defined → Type 0
AreCoded [] = ⊤
AreCoded (d ∷ ds) = Declared (Some d.kind) (Some d.outcome) d.result × AreCoded ds

declared_by : (b : Bool) (d : Defined) (k : Option Kind) (o : Option Outcome) (y : Option ValueOrError) → Declared (Some d.kind) (Some d.outcome) d.result → Declared k o (unwrap_or y error)
    → Declared (if b then Some d.kind else k) (if b then Some d.outcome else o) (unwrap_or (if b then Some d.result else y) error)
declared_by true d k o y h g = h
declared_by false d k o y h g = g

declared : (ds : List Defined) (n : List ℕ) → AreCoded ds → Declared (lookup n (kinds ds)) (lookup n (outcomes ds)) (unwrap_or (lookup n (results ds)) error)
declared [] n h = tt
declared (d ∷ ds) n h = declared_by (bytes_eq d.name n) d (lookup n (kinds ds)) (lookup n (outcomes ds)) (lookup n (results ds)) h.0 (declared ds n h.1)

stands : (w : Bool) (ts : Value) (roots : Roots) (ds : List Defined) → AreCoded ds
    → WideStandsFor (scope_of w (kinds ds)) (wide_environment roots (outcomes ds)) (environment (placed w ts roots) (results ds))
unfolding variable_value
stands w ts roots ds h = record {
  named = λ n. tt;
  rooted = λ n g. rooted w n ts roots (results ds);
  declared = λ n. declared ds n h;
  apart = λ n. tt;
}

coded : (k : Kind) (a : Tree) (o : Outcome) (env : Environment) → IsCarried k a o env → Declared (Some k) (Some o) (meaning a env)
coded (OfValue k) a o env h = (h.means, h.kind)
coded (OfOptional k) a o env h = (h.list, h.kind)

one_more : (ds : List Defined) (d : Defined) → AreCoded ds → Declared (Some d.kind) (Some d.outcome) d.result → AreCoded (ds ++ d ∷ [])
one_more [] d h g = (g, tt)
one_more (e ∷ ds) d h g = (h.0, one_more ds d h.1 g)

map_more : {A : Type 0} (f : Defined → A) (ds : List Defined) (d : Defined) → map f (ds ++ d ∷ []) ≡ map f ds ++ f d ∷ []
map_more f [] d = refl
map_more f (e ∷ ds) d = λ j. f e ∷ map_more f ds d j

-- ---- the table of indices

tabled : (others : Wide → WideEnvironment → Outcome) (w : Bool) (e : Wide) (ts : Value) (roots : Roots) (os : List (List ℕ × Outcome)) (vs : List (List ℕ × ValueOrError))
    → IsTabled others w e (wide_environment roots os) (table_in ts) → IsTabled others w e (wide_environment roots os) (meaning table_tree (environment (placed w ts roots) vs))
unfolding meaning is_variables name_value
tabled others true e ts roots os vs h = h
tabled others false e ts roots os vs h = λ q. absurd (cc)

-- ---- match conditions

-- a name that is not `namespaceObject`
other_than_namespace : (n : List ℕ) (roots : Roots) → bytes_eq namespace_name n ≡ false
    → lookup n (root_bindings roots) ≡ lookup n (root_bindings (condition_roots roots))
other_than_namespace n roots h = grind (arith, h)

condition_by : (b : Bool) (w : Bool) (n : List ℕ) (ts : Value) (roots : Roots) → bytes_eq namespace_name n ≡ b
    → meaning (if b then null_tree else placed_tree w n) (environment (placed w ts roots) []) ≡ plain_part (root_in n (condition_roots roots))
unfolding meaning meanings is_has function_named
condition_by true w n ts roots h = ap (λ m. plain_part (root_in m (condition_roots roots))) ((bytes_decides namespace_name n).0 h)
condition_by false w n ts roots h = rooted w n ts roots [] ∙ ap (λ o. plain_part (plain_or_failed o)) (other_than_namespace n roots h)

condition_stands : (w : Bool) (ts : Value) (roots : Roots)
    → WideStandsFor (condition_scope w) (wide_environment (condition_roots roots) []) (environment (placed w ts roots) [])
unfolding variable_value
condition_stands w ts roots = record {
  named = λ n. tt;
  rooted = λ n g. condition_by (bytes_eq namespace_name n) w n ts roots refl;
  declared = λ n. tt;
  apart = λ n. tt;
}

condition_tabled : (others : Wide → WideEnvironment → Outcome) (w : Bool) (e : Wide) (ts : Value) (roots : Roots)
    → IsTabled others w e (wide_environment (condition_roots roots) []) (table_in ts)
    → IsTabled others w e (wide_environment (condition_roots roots) []) (meaning table_tree (environment (placed w ts roots) []))
unfolding meaning is_variables name_value
condition_tabled others true e ts roots h = h
condition_tabled others false e ts roots h = λ q. absurd (cc)

pub condition_same : ConditionMeansTheSame
condition_same others w ts roots e k a m b =
    m others (wide_environment (condition_roots roots) []) (environment (placed w ts roots) []) (condition_stands w ts roots)
    (condition_tabled others w e ts roots b)

-- ---- policies

module _ (others : Wide → WideEnvironment → Outcome) (w : Bool) (ts : Value) (roots : Roots) where
  abbrev next : List Defined → WideStep → Defined
  next ds v = record {
    name = v.name;
    kind = v.kind;
    outcome = wide_meaning others v.wide (wide_environment roots (outcomes ds));
    result = meaning v.tree (environment (placed w ts roots) (results ds));
  }

  -- the remaining variables after those that are defined
  after : (vs : List WideStep) (ds : List Defined) (e : Wide) (k : Kind) (a : Tree) → AreCoded ds → AreTranslated w (kinds ds) vs → WideMeans (scope_of w (kinds ds ++ map kind_of vs)) e k a
      → AreTabled others w ts roots (outcomes ds) vs e
      → IsCarried k a (wide_meaning others e (wide_environment roots (fold (with_outcome others roots) (outcomes ds) vs)))
      (environment (placed w ts roots) (fold (with_value (placed w ts roots)) (results ds) vs))
  after [] ds e k a h t m b =
      (let n : WideMeans (scope_of w (kinds ds)) e k a = subst (λ (ks : List (List ℕ × Kind)). WideMeans (scope_of w ks) e k a) (append-nil (kinds ds)) m in
      n others (wide_environment roots (outcomes ds)) (environment (placed w ts roots) (results ds)) (stands w ts roots ds h) (tabled others w e ts roots (outcomes ds) (results ds) b))
  after (v ∷ vs) ds e k a h t m b =
      let d : Defined = next ds v in
      let is : IsCarried v.kind v.tree d.outcome (environment (placed w ts roots) (results ds))
      = t.0 others (wide_environment roots (outcomes ds)) (environment (placed w ts roots) (results ds)) (stands w ts roots ds h) (tabled others w v.wide ts roots (outcomes ds) (results ds) b.0) in
      let more : AreCoded (ds ++ d ∷ []) = one_more ds d h (coded v.kind v.tree d.outcome (environment (placed w ts roots) (results ds)) is) in
      let ks : kinds (ds ++ d ∷ []) ≡ kinds ds ++ kind_of v ∷ [] = map_more (λ x. (x.name, x.kind)) ds d in
      let os : outcomes (ds ++ d ∷ []) ≡ outcomes ds ++ (d.name, d.outcome) ∷ [] = map_more (λ x. (x.name, x.outcome)) ds d in
      let rs : results (ds ++ d ∷ []) ≡ results ds ++ (d.name, d.result) ∷ [] = map_more (λ x. (x.name, x.result)) ds d in
      let later : AreTranslated w (kinds (ds ++ d ∷ [])) vs = subst (λ (x : List (List ℕ × Kind)). AreTranslated w x vs) (sym ks) t.1 in
      let whole : (kinds ds ++ kind_of v ∷ []) ++ map kind_of vs ≡ kinds ds ++ kind_of v ∷ map kind_of vs = append_assoc (kinds ds) (kind_of v ∷ []) (map kind_of vs) in
      let means : WideMeans (scope_of w (kinds (ds ++ d ∷ []) ++ map kind_of vs)) e k a
      = subst (λ (x : List (List ℕ × Kind)). WideMeans (scope_of w x) e k a) (sym (ap (λ y. y ++ map kind_of vs) ks ∙ whole)) m in
      let long : AreTabled others w ts roots (outcomes (ds ++ d ∷ [])) vs e = subst (λ (x : List (List ℕ × Outcome)). AreTabled others w ts roots x vs e) (sym os) b.1 in
      let rest = after vs (ds ++ d ∷ []) e k a more later means long in
      let moved : IsCarried k a (wide_meaning others e (wide_environment roots (fold (with_outcome others roots) (outcomes ds ++ (d.name, d.outcome) ∷ []) vs)))
      (environment (placed w ts roots) (fold (with_value (placed w ts roots)) (results (ds ++ d ∷ [])) vs))
      = subst (λ (x : List (List ℕ × Outcome)). IsCarried k a (wide_meaning others e (wide_environment roots (fold (with_outcome others roots) x vs)))
      (environment (placed w ts roots) (fold (with_value (placed w ts roots)) (results (ds ++ d ∷ [])) vs))) os rest in
      subst (λ (x : List (List ℕ × ValueOrError)). IsCarried k a (wide_meaning others e (wide_environment roots (fold (with_outcome others roots) (outcomes ds ++ (d.name, d.outcome) ∷ []) vs)))
      (environment (placed w ts roots) (fold (with_value (placed w ts roots)) x vs))) rs moved

pub policy_same : PolicyMeansTheSame
policy_same others w ts roots vs e k a t m b = after others w ts roots vs [] e k a tt t m b
