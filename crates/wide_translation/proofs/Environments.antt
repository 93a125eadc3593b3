-- Names in the environments of the translation.
use Rattle.std.proofs.Common.{◌≡◌, ℕ, zero, suc, ◌<◌, ◌≤◌, Bool, true, false, List, ◌∷◌, length, replicate, Option}
use Rattle.std.proofs.Common.{Some, None, pos, bytes_eq, codes, if◌then◌else◌, refl, ap, sym, ◌∙◌, ◌++◌, ◌&&◌, arith}
use lib.Pointwise.{bytes_decides}
use Rattle.std.specs.Option.{option_or}
use Rattle.cel_reader.specs.Tree as tree
use Rattle.cel_reader.specs.Tree.{Tree}
use Rattle.value_store.specs.Value.{Value, value, int, list, no_items, item}
use Rattle.cel_macros.specs.Environment.{Environment, bind, value_or_error, lookup, root_bindings}
unfoldable use Rattle.cel_macros.specs.Environment.{name_value, is_root}
use Rattle.cel_macros.specs.Macros.{variables_name}
unfoldable use Rattle.cel_macros.specs.Macros.{is_variables, is_has}
unfoldable use Rattle.cel_macros.specs.Functions.{function_named}
use Rattle.cel_macros.specs.Selection.{field_of, index_of}
unfoldable use Rattle.cel_macros.specs.Meaning.{meaning, meanings}
use Rattle.wide_meaning.specs.Environment.{WideEnvironment, bound}
use Rattle.wide_kinds.specs.declared.kind.ValueKind.{ValueKind}
use Rattle.wide_kinds.specs.declared.kind.ValueKind.TheVariants as kind
use Rattle.wide_kinds.specs.Fitting.{has_kind}
use Rattle.wide_translation.specs.Forms.{null_tree, placed_tree, root_tree, part_tree}
use Rattle.wide_translation.specs.Holds.{WideNamed, IsApart, WideStandsFor}
use Rattle.wide_translation.specs.Names.{held_name, index_name, pair_name, namespace_name, params_name, params_field, tables_field}
use Rattle.wide_translation.specs.Names.{indices_field, second_name, third_name, is_taken, written_name}
use Rattle.wide_translation.specs.Pairs.{PairUse, table_tree, values_only, keys_only, both, pair_binder, within_pair}
use Rattle.wide_translation.specs.Scope.{WideScope, Place, itself, part, unused, within}
use Rattle.wide_translation.proofs.WrittenNames.{unlike, not_written, pair_end_is_free, written_apart, written_and_pair}
use Rattle.wide_translation.proofs.WrittenNames.{written_is_no_root}

-- ---- a name that is no root differs from each root

pub differs : (x n : List ℕ) → is_root x ≡ false → is_root n ≡ true → bytes_eq x n ≡ false
differs x n h g = unlike is_root x n h g

pub params_is_root : is_root params_name ≡ true
unfolding is_root
params_is_root = refl

pub held_is_no_root : is_root held_name ≡ false
unfolding is_root
held_is_no_root = refl

-- a root is not `variables`
no_variables_by : (b : Bool) (n : List ℕ) → bytes_eq variables_name n ≡ b → is_root n ≡ true → b ≡ false
unfolding is_root
no_variables_by false n e h = refl
no_variables_by true n e h = absurd (let same : variables_name ≡ n = (bytes_decides variables_name n).0 e in let other : is_root n ≡ false = sym (ap is_root same) in cc)

pub root_is_no_variables : (n : List ℕ) → is_root n ≡ true → bytes_eq variables_name n ≡ false
root_is_no_variables n h = no_variables_by (bytes_eq variables_name n) n refl h

-- ---- values of names

bound_by : (b : Bool) (v : Value) (l r : Option Value) → value_or_error (option_or (if b then Some v else l) r) ≡ (if b then value v else value_or_error (option_or l r))
bound_by true v l r = refl
bound_by false v l r = refl

pub name_bound : (x n : List ℕ) (v : Value) (env : Environment) → name_value n (bind x v env) ≡ (if bytes_eq x n then value v else name_value n env)
unfolding name_value
name_bound x n v env = bound_by (bytes_eq x n) v (lookup n env.items) (lookup n (root_bindings env.roots))

pub this_name : (x : List ℕ) (v : Value) (env : Environment) → name_value x (bind x v env) ≡ value v
this_name x v env = name_bound x x v env ∙ ap (λ b. if b then value v else name_value x env) ((bytes_decides x x).1 refl)

pub other_name : (x n : List ℕ) (v : Value) (env : Environment) → bytes_eq x n ≡ false → name_value n (bind x v env) ≡ name_value n env
other_name x n v env h = name_bound x n v env ∙ ap (λ b. if b then value v else name_value n env) h

-- ---- roots under a binding

root_by : (b : Bool) (x n : List ℕ) (v : Value) (env : Environment) → bytes_eq x n ≡ false → bytes_eq x params_name ≡ false
    → meaning (if b then tree.select (tree.name params_name) params_field else tree.name n) (bind x v env) ≡ meaning (if b then tree.select (tree.name params_name) params_field else tree.name n) env
unfolding meaning is_variables
root_by true x n v env h g = ap (λ y. field_of y params_field) (other_name x params_name v env g)
root_by false x n v env h g = other_name x n v env h

placed_stays : (w : Bool) (x n : List ℕ) (v : Value) (env : Environment) → is_root x ≡ false → is_root n ≡ true
    → meaning (placed_tree w n) (bind x v env) ≡ meaning (placed_tree w n) env
placed_stays w x n v env h g = root_by (w && bytes_eq params_name n) x n v env (differs x n h g) (differs x params_name h params_is_root)

unless_null : (b : Bool) (t : Tree) (x : List ℕ) (v : Value) (env : Environment) → meaning t (bind x v env) ≡ meaning t env
    → meaning (if b then null_tree else t) (bind x v env) ≡ meaning (if b then null_tree else t) env
unfolding meaning meanings is_has function_named
unless_null true t x v env h = refl
unless_null false t x v env h = h

pub root_stays : (s : WideScope) (x n : List ℕ) (v : Value) (env : Environment) → is_root x ≡ false → is_root n ≡ true
    → meaning (root_tree s n) (bind x v env) ≡ meaning (root_tree s n) env
root_stays s x n v env h g =
    unless_null (s.condition && bytes_eq namespace_name n) (placed_tree s.wrapped n) x v env (placed_stays s.wrapped x n v env h g)

root_free_by : (b : Bool) (n : List ℕ) → bytes_eq variables_name n ≡ false → is_variables (if b then tree.select (tree.name params_name) params_field else tree.name n) ≡ false
unfolding is_variables
root_free_by true n h = refl
root_free_by false n h = h

null_free_by : (b : Bool) (t : Tree) → is_variables t ≡ false → is_variables (if b then null_tree else t) ≡ false
unfolding is_variables
null_free_by true t h = refl
null_free_by false t h = h

pub root_tree_free : (s : WideScope) (n : List ℕ) → is_root n ≡ true → is_variables (root_tree s n) ≡ false
root_tree_free s n h =
    null_free_by (s.condition && bytes_eq namespace_name n) (placed_tree s.wrapped n)
    (root_free_by (s.wrapped && bytes_eq params_name n) n (root_is_no_variables n h))

-- the table of indices under a binding
pub table_stays : (x : List ℕ) (v : Value) (env : Environment) → is_root x ≡ false → meaning table_tree (bind x v env) ≡ meaning table_tree env
unfolding meaning is_variables
table_stays x v env h = ap (λ y. field_of (field_of y tables_field) indices_field) (other_name x params_name v env (differs x params_name h params_is_root))

-- ---- bindings on both sides, and on the second alone

-- a name that the translation may bind: none of those in scope
pub record IsFresh (s : WideScope) (x : List ℕ) : Type 0 where
  pub root : is_root x ≡ false
  pub name : (n : List ℕ) → is_taken n ≡ false → bytes_eq x (written_name n) ≡ false
  pub pair : (d : ℕ) → d < length s.names → bytes_eq x (pair_name d) ≡ false

longer_differs : (d e : ℕ) → d < e → bytes_eq (replicate e 112) (replicate d 112) ≡ false
longer_differs d zero h = absurd (omega (arith, h))
longer_differs zero (suc e) h = refl
longer_differs (suc d) (suc e) h = longer_differs d e (omega (arith, h))

pub pairs_differ : (d e : ℕ) → d < e → bytes_eq (pair_name e) (pair_name d) ≡ false
pairs_differ d e h = longer_differs d e h

pub held_is_fresh : (s : WideScope) → IsFresh s held_name
unfolding is_root
held_is_fresh s = record { root = refl; name = λ n h. not_written (codes "a") n refl h; pair = λ d h. refl }

pub index_is_fresh : (s : WideScope) → IsFresh s index_name
unfolding is_root
index_is_fresh s = record { root = refl; name = λ n h. not_written (codes "i") n refl h; pair = λ d h. refl }

pub index_is_no_root : is_root index_name ≡ false
unfolding is_root
index_is_no_root = refl

pub second_is_fresh : (s : WideScope) → IsFresh s second_name
unfolding is_root
second_is_fresh s = record { root = refl; name = λ n h. not_written (codes "b") n refl h; pair = λ d h. refl }

pub second_is_no_root : is_root second_name ≡ false
unfolding is_root
second_is_no_root = refl

pub third_is_no_root : is_root third_name ≡ false
unfolding is_root
third_is_no_root = refl

pub pair_is_no_root : (d : ℕ) → is_root (pair_name d) ≡ false
unfolding is_root
pair_is_no_root d = refl

pub pair_is_fresh : (s : WideScope) → IsFresh s (pair_name (length s.names))
pair_is_fresh s = record {
  root = pair_is_no_root (length s.names);
  name = λ n h. not_written (codes "p" ++ replicate (length s.names) 112) n (pair_end_is_free (length s.names)) h;
  pair = λ d h. pairs_differ d (length s.names) h;
}

-- a name in scope that is not x keeps its value where x is bound
pub named_kept : (o : Option Place) (i : Option Value) (x n : List ℕ) (w : Value) (m : ℕ) (env : Environment) → (is_taken n ≡ false → bytes_eq x (written_name n) ≡ false)
    → ((d : ℕ) → d < m → bytes_eq x (pair_name d) ≡ false) → IsApart n o m → WideNamed n o i env → WideNamed n o i (bind x w env)
unfolding meaning
named_kept (Some (itself k)) (Some v) x n w m env f g a h = (other_name x (written_name n) w env (f a) ∙ h.0, h.1)
named_kept (Some (part y j)) (Some v) x n w m env f g a h =
    ap (λ z. index_of z (value (int (pos j)))) (other_name x y w env (ap (bytes_eq x) a.1 ∙ g a.0 a.2)) ∙ h
named_kept (Some unused) (Some v) x n w m env f g a h = tt
named_kept None None x n w m env f g a h = tt
named_kept (Some (itself k)) None x n w m env f g a h = h
named_kept (Some (part y j)) None x n w m env f g a h = h
named_kept (Some unused) None x n w m env f g a h = h
named_kept None (Some v) x n w m env f g a h = h

pub fresh_bound : (s : WideScope) (x : List ℕ) (v : Value) (env : WideEnvironment) (env' : Environment) → IsFresh s x → WideStandsFor s env env'
    → WideStandsFor s env (bind x v env')
fresh_bound s x v env env' f r = record {
  named = λ n. named_kept (lookup n s.names) (lookup n env.items) x n v (length s.names) env' (f.name n) f.pair (r.apart n) (r.named n);
  rooted = λ n g. root_stays s x n v env' f.root g ∙ r.rooted n g;
  declared = r.declared;
  apart = r.apart;
}

pub held_bound : (s : WideScope) (v : Value) (env : WideEnvironment) (env' : Environment) → WideStandsFor s env env' → WideStandsFor s env (bind held_name v env')
held_bound s v env env' r = fresh_bound s held_name v env env' (held_is_fresh s) r

-- inside of more names
apart_later : (n : List ℕ) (o : Option Place) (m l : ℕ) → m ≤ l → IsApart n o m → IsApart n o l
apart_later n (Some (itself k)) m l h a = a
apart_later n (Some (part y i)) m l h a = (a.0, a.1, omega (arith, h, a.2))
apart_later n (Some unused) m l h a = a
apart_later n None m l h a = tt

pub this_value : (x n : List ℕ) (v : Value) (env : Environment) → bytes_eq x n ≡ true → name_value (written_name n) (bind (written_name x) v env) ≡ value v
this_value x n v env e = ap (λ (m : List ℕ). name_value (written_name m) (bind (written_name x) v env)) (sym ((bytes_decides x n).0 e)) ∙ this_name (written_name x) v env

pub free_again : (x n : List ℕ) → bytes_eq x n ≡ true → is_taken x ≡ false → is_taken n ≡ false
free_again x n e h = sym (ap is_taken ((bytes_decides x n).0 e)) ∙ h

named_by : (b : Bool) (p : Place) (v : Value) (o : Option Place) (i : Option Value) (n : List ℕ) (env : Environment) → (b ≡ true → WideNamed n (Some p) (Some v) env)
    → (b ≡ false → WideNamed n o i env) → WideNamed n (if b then Some p else o) (if b then Some v else i) env
named_by true p v o i n env h g = h refl
named_by false p v o i n env h g = g refl

apart_by : (b : Bool) (p : Place) (o : Option Place) (n : List ℕ) (m : ℕ) → (b ≡ true → IsApart n (Some p) m) → IsApart n o m → IsApart n (if b then Some p else o) m
apart_by true p o n m h g = h refl
apart_by false p o n m h g = g

pub both_bound : (s : WideScope) (x : List ℕ) (k : ValueKind) (v : Value) (env : WideEnvironment) (env' : Environment) → is_taken x ≡ false → has_kind k v ≡ true
    → WideStandsFor s env env' → WideStandsFor (within x k s) (bound x v env) (bind (written_name x) v env')
both_bound s x k v env env' h hk r = record {
  named = λ n. named_by (bytes_eq x n) (itself k) v (lookup n s.names) (lookup n env.items) n (bind (written_name x) v env') (λ e. (this_value x n v env' e, hk))
      (λ e. named_kept (lookup n s.names) (lookup n env.items) (written_name x) n v (length s.names) env' (λ f. written_apart x n h f e) (λ d f. written_and_pair x d h) (r.apart n) (r.named n));
  rooted = λ n g. root_stays s (written_name x) n v env' (written_is_no_root x) g ∙ r.rooted n g;
  declared = r.declared;
  apart = λ n. apart_by (bytes_eq x n) (itself k) (lookup n s.names) n (suc (length s.names)) (λ e. free_again x n e h)
      (apart_later n (lookup n s.names) (length s.names) (suc (length s.names)) (omega arith) (r.apart n));
}

-- ---- two names

-- what the translation binds for a pair
abbrev pub picked : PairUse → Value × Value → Value
picked values_only e = e.1
picked keys_only e = e.0
picked both e = list (item e.0 (item e.1 no_items))

-- the two names, of places p and q, in scope
module _ (s : WideScope) (k v : List ℕ) (p q : Place) (e : Value × Value) (y : List ℕ) (w : Value) (env : WideEnvironment) (env' : Environment) (r : WideStandsFor s env env') where
  two_bound : is_root y ≡ false
      → ((n : List ℕ) → bytes_eq v n ≡ true → WideNamed n (Some q) (Some e.1) (bind y w env'))
      → ((n : List ℕ) → bytes_eq v n ≡ false → bytes_eq k n ≡ true → WideNamed n (Some p) (Some e.0) (bind y w env'))
      → ((n : List ℕ) → bytes_eq v n ≡ false → bytes_eq k n ≡ false → is_taken n ≡ false → bytes_eq y (written_name n) ≡ false)
      → ((d : ℕ) → d < length s.names → bytes_eq y (pair_name d) ≡ false)
      → ((n : List ℕ) → bytes_eq v n ≡ true → IsApart n (Some q) (suc (suc (length s.names))))
      → ((n : List ℕ) → bytes_eq k n ≡ true → IsApart n (Some p) (suc (suc (length s.names))))
      → WideStandsFor (record s { names = (v, q) ∷ (k, p) ∷ s.names }) (bound v e.1 (bound k e.0 env)) (bind y w env')
  two_bound h nv nk ny nd av ak = record {
    named = λ n. named_by (bytes_eq v n) q e.1 (if bytes_eq k n then Some p else lookup n s.names) (if bytes_eq k n then Some e.0 else lookup n env.items) n (bind y w env') (nv n)
        (λ a. named_by (bytes_eq k n) p e.0 (lookup n s.names) (lookup n env.items) n (bind y w env') (nk n a)
        (λ b. named_kept (lookup n s.names) (lookup n env.items) y n w (length s.names) env' (ny n a b) nd (r.apart n) (r.named n)));
    rooted = λ n g. root_stays s y n w env' h g ∙ r.rooted n g;
    declared = r.declared;
    apart = λ n. apart_by (bytes_eq v n) q (if bytes_eq k n then Some p else lookup n s.names) n (suc (suc (length s.names))) (av n)
        (apart_by (bytes_eq k n) p (lookup n s.names) n (suc (suc (length s.names))) (ak n)
        (apart_later n (lookup n s.names) (length s.names) (suc (suc (length s.names))) (omega arith) (r.apart n)));
  }

first_part : (y : List ℕ) (a b : Value) (env : Environment) → meaning (part_tree y 0) (bind y (list (item a (item b no_items))) env) ≡ value a
unfolding meaning
first_part y a b env = ap (λ z. index_of z (value (int (pos 0)))) (this_name y (list (item a (item b no_items))) env)

second_part : (y : List ℕ) (a b : Value) (env : Environment) → meaning (part_tree y 1) (bind y (list (item a (item b no_items))) env) ≡ value b
unfolding meaning
second_part y a b env = ap (λ z. index_of z (value (int (pos 1)))) (this_name y (list (item a (item b no_items))) env)

pub binder_is_no_root : (u : PairUse) (s : WideScope) (k v : List ℕ) → is_root (pair_binder u k v s) ≡ false
binder_is_no_root values_only s k v = written_is_no_root v
binder_is_no_root keys_only s k v = written_is_no_root k
binder_is_no_root both s k v = pair_is_no_root (length s.names)

pub pair_bound : (u : PairUse) (s : WideScope) (k v : List ℕ) (e : Value × Value) (env : WideEnvironment) (env' : Environment) → is_taken k ≡ false → is_taken v ≡ false
    → WideStandsFor s env env' → WideStandsFor (within_pair u k v s) (bound v e.1 (bound k e.0 env)) (bind (pair_binder u k v s) (picked u e) env')
pair_bound values_only s k v e env env' hk hv r =
    two_bound s k v unused (itself kind.Dyn) e (written_name v) e.1 env env' r (written_is_no_root v)
    (λ n i. (this_value v n e.1 env' i, refl)) (λ n i j. tt) (λ n i j f. written_apart v n hv f i) (λ d f. written_and_pair v d hv)
    (λ n i. free_again v n i hv) (λ n i. free_again k n i hk)
pair_bound keys_only s k v e env env' hk hv r =
    two_bound s k v (itself kind.Dyn) unused e (written_name k) e.0 env env' r (written_is_no_root k)
    (λ n i. tt) (λ n i j. (this_value k n e.0 env' j, refl)) (λ n i j f. written_apart k n hk f j) (λ d f. written_and_pair k d hk)
    (λ n i. free_again v n i hv) (λ n i. free_again k n i hk)
pair_bound both s k v e env env' hk hv r =
    let m : ℕ = length s.names in
    let y : List ℕ = pair_name m in
    two_bound s k v (part y 0) (part y 1) e y (list (item e.0 (item e.1 no_items))) env env' r (pair_is_no_root m)
    (λ n i. second_part y e.0 e.1 env') (λ n i j. first_part y e.0 e.1 env')
    (λ n i j f. (pair_is_fresh s).name n f) (pair_is_fresh s).pair
    (λ n i. (m, refl, omega arith)) (λ n i. (m, refl, omega arith))
