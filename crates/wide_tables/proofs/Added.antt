-- Values that are added to a table, one after another.
use Rattle.std.proofs.Common.{◌≡◌, ℕ, zero, suc, ◌+◌, List, [], ◌∷◌, ◌++◌, length, Option, Some, None, IsSome, IfSome, slice_get, option_map, refl, sym, ap, ◌∙◌, subst, append_assoc, arith, pos, Result, Ok, Err, codes, true}
use Rattle.std.specs.declared.alloc.AllocError.{AllocError}
use Rattle.value_store.specs.Calls.{Places, value_at, pushed, put_in}
use Rattle.value_store.specs.Lookup.{inserted}
use Rattle.value_store.specs.Placing.{is_appended}
use Rattle.value_store.specs.Value.{Value, null, boolean, int, text, list, map, ValueOrError, error, value}
use Rattle.value_store.specs.Value.{Items, no_items, item, items_of, items_push, Entries, no_entries, entry}
use Rattle.value_table.specs.Held.{Held}
use Rattle.wide_translation.specs.Indexed.{ints_from}
use Rattle.wide_translation.specs.Placed.{with_tables}
use Rattle.wide_indices.specs.Tables.{index_tables}
use Rattle.wide_tables.specs.Building.{HasAdded, AddsTabled}

at_end : (vs : List ValueOrError) (x : ValueOrError) → slice_get (vs ++ x ∷ []) (length vs) ≡ Some x
at_end [] x = refl
at_end (v ∷ vs) x = at_end vs x

kept : (vs ws : List ValueOrError) (h : ℕ) (x : ValueOrError) → slice_get vs h ≡ Some x → slice_get (vs ++ ws) h ≡ Some x
kept [] ws h x e = absurd (cc)
kept (v ∷ vs) ws zero x e = e
kept (v ∷ vs) ws (suc h) x e = kept vs ws h x e

kept_same : (vs ws : List ValueOrError) (h : ℕ) → IsSome (slice_get vs h) → slice_get (vs ++ ws) h ≡ slice_get vs h
kept_same [] ws h s = absurd (cc)
kept_same (v ∷ vs) ws zero s = refl
kept_same (v ∷ vs) ws (suc h) s = kept_same vs ws h s

-- a value at the end
ended : (old new : Held) (v : Value) (h : ℕ) → h ≡ length old.values → new.values ≡ old.values ++ value v ∷ [] → new.charge ≡ old.charge → HasAdded old new h v
ended old new v h at is c = record { more = value v ∷ []; values = is; there = (λ i. slice_get (is i) (at i)) ∙ at_end old.values (value v); charge = c }

-- a call that appends a value
pub appended : (old new : Held) (v : Value) (h : ℕ) → is_appended v ≡ true → Places old.values v (Ok h) new.values → new.charge ≡ old.charge → HasAdded old new h v
appended old new null h a p c = absurd (cc)
appended old new (boolean b) h a p c = absurd (cc)
appended old new (int n) h a p c = ended old new (int n) h p.0 p.1 c
appended old new (text s) h a p c = ended old new (text s) h p.0 p.1 c
appended old new (list is) h a p c = ended old new (list is) h p.0 p.1 c
appended old new (map es) h a p c = ended old new (map es) h p.0 p.1 c

-- one after another
pub then_added : (a b c : Held) (g h : ℕ) (v w : Value) → HasAdded a b g v → HasAdded b c h w → HasAdded a c h w
then_added a b c g h v w x y = record {
  more = x.more ++ y.more;
  values = y.values ∙ ap (λ vs. vs ++ y.more) x.values ∙ append_assoc a.values x.more y.more;
  there = y.there;
  charge = y.charge ∙ x.charge;
}

-- earlier ones stay
pub stays : (a b : Held) (g h : ℕ) (v : Value) (x : ValueOrError) → HasAdded a b g v → slice_get a.values h ≡ Some x → slice_get b.values h ≡ Some x
stays a b g h v x y e = ap (λ vs. slice_get vs h) y.values ∙ kept a.values y.more h x e

pub stays_same : (a b : Held) (g h : ℕ) (v : Value) → HasAdded a b g v → IsSome (slice_get a.values h) → slice_get b.values h ≡ slice_get a.values h
stays_same a b g h v y s = ap (λ vs. slice_get vs h) y.values ∙ kept_same a.values y.more h s

pub is_there : {A : Type 0} (o : Option A) (x : A) → o ≡ Some x → IsSome o
is_there {A} o x e = subst (λ (p : Option A). IsSome p) (sym e) refl

-- ---- indices

push_ints : (i k n : ℕ) → i + n ≡ k → items_push (items_of (ints_from i n)) (int (pos k)) ≡ items_of (ints_from i (suc n))
push_ints i k zero e = let same : k ≡ i = omega (arith, e) in ap (λ j. item (int (pos j)) no_items) same
push_ints i k (suc n) e = ap (item (int (pos i))) (push_ints (suc i) k n (omega (arith, e)))

next_index : (n : ℕ) → items_push (items_of (ints_from 0 n)) (int (pos n)) ≡ items_of (ints_from 0 (n + 1))
next_index n = push_ints 0 n n (omega arith) ∙ (let e : suc n ≡ n + 1 = omega arith in ap (λ k. items_of (ints_from 0 k)) e)

module _ (a b c : Held) (l i n : ℕ) (h : HasAdded a b l (list (items_of (ints_from 0 n)))) (p : Places b.values (int (pos n)) (Ok i) c.values) (q : c.charge ≡ b.charge) where
  index_added : HasAdded b c i (int (pos n))
  index_added = appended b c (int (pos n)) i refl p q

  pub pushed_is : pushed (slice_get c.values l) (slice_get c.values i) ≡ Some (list (items_push (items_of (ints_from 0 n)) (int (pos n))))
  pushed_is = λ j. pushed (stays b c i l (int (pos n)) (value (list (items_of (ints_from 0 n)))) index_added h.there j) (index_added.there j)

  -- one more index
  pub index_pushed : (d : Held) (r : ℕ) → IfSome (pushed (slice_get c.values l) (slice_get c.values i)) (λ v. Places c.values v (Ok r) d.values) → d.charge ≡ c.charge
      → HasAdded a d r (list (items_of (ints_from 0 (n + 1))))
  index_pushed d r f e =
      let is : Items = items_push (items_of (ints_from 0 n)) (int (pos n)) in
      let there : Places c.values (list is) (Ok r) d.values = subst (λ (o : Option Value). IfSome o (λ v. Places c.values v (Ok r) d.values)) pushed_is f in
      let y : HasAdded c d r (list is) = appended c d (list is) r refl there e in
      subst (λ (js : Items). HasAdded a d r (list js)) (next_index n)
      (then_added a c d i r (int (pos n)) (list is) (then_added a b c l i (list (items_of (ints_from 0 n))) (int (pos n)) h index_added) y)

-- ---- entries

module _ (old mid : Held) (m k x : ℕ) (s : List ℕ) (name : HasAdded old mid k (text s)) where
  pub put_same : IsSome (slice_get old.values m) → IsSome (slice_get old.values x)
      → put_in (slice_get mid.values m) (slice_get mid.values k) (slice_get mid.values x) ≡ put_in (slice_get old.values m) (Some (value (text s))) (slice_get old.values x)
  put_same g h = λ j. put_in (stays_same old mid k m (text s) name g j) (name.there j) (stays_same old mid k x (text s) name h j)

  entry_by : (new : Held) (r : Result ℕ AllocError) (o : Option Entries) → IfSome (option_map map o) (λ v. Places mid.values v r new.values) → new.charge ≡ mid.charge
      → IfSome o (λ w. AddsTabled old new r (map w))
  entry_by new r None f c = tt
  entry_by new (Ok h) (Some w) f c = then_added old mid new k h (text s) (map w) name (appended mid new (map w) h refl f c)
  entry_by new (Err e) (Some w) f c = tt

  pub entry_added : (new : Held) (r : Result ℕ AllocError) (es : Entries) (v : Value) → slice_get old.values m ≡ Some (value (map es)) → slice_get old.values x ≡ Some (value v)
      → IfSome (put_in (slice_get mid.values m) (slice_get mid.values k) (slice_get mid.values x)) (λ w. Places mid.values w r new.values) → new.charge ≡ mid.charge
      → IfSome (inserted s v es) (λ w. AddsTabled old new r (map w))
  entry_added new r es v e g f c =
      let same : put_in (slice_get mid.values m) (slice_get mid.values k) (slice_get mid.values x) ≡ option_map map (inserted s v es)
      = put_same (is_there _ _ e) (is_there _ _ g) ∙ (λ j. put_in (e j) (Some (value (text s))) (g j)) in
      entry_by new r (inserted s v es) (subst (λ (o : Option Value). IfSome o (λ w. Places mid.values w r new.values)) same f) c

some_map : (o : Option Entries) → IsSome o → IsSome (option_map map o)
some_map None h = absurd (cc)
some_map (Some es) h = refl

-- an entry fits if the map has not its key
fits : (o q : Option ValueOrError) (es : Entries) (s : List ℕ) (v : Value) → o ≡ Some (value (map es)) → q ≡ Some (value v) → IsSome (inserted s v es)
    → IsSome (put_in o (Some (value (text s))) q)
fits o q es s v e g h =
    subst (λ (x : Option Value). IsSome x) (sym (λ j. put_in (e j) (Some (value (text s))) (g j))) (some_map (inserted s v es) h)

params_fit : (o : Option ValueOrError) (ts : Value) → IsSome (value_at o) → IsSome (put_in (Some (value (map (entry (codes "t") ts no_entries)))) (Some (value (text (codes "v")))) o)
params_fit None ts h = absurd (cc)
params_fit (Some error) ts h = absurd (cc)
params_fit (Some (value v)) ts h = refl

pub has_result : (o : Option ValueOrError) → IsSome (value_at o) → IsSome o
has_result None h = absurd (cc)
has_result (Some x) h = refl

adds_later : (a b c : Held) (g : ℕ) (v w : Value) (r : Result ℕ AllocError) → HasAdded a b g v → AddsTabled b c r w → AddsTabled a c r w
adds_later a b c g v w (Ok h) x y = then_added a b c g h v w x y
adds_later a b c g v w (Err e) x y = tt

-- what a call ensures that puts an entry
abbrev pub Puts : Held → Held → ℕ → ℕ → List ℕ → Result ℕ AllocError → Type 0
Puts old new m x s r = (es : Entries) (v : Value) → slice_get old.values m ≡ Some (value (map es)) → slice_get old.values x ≡ Some (value v)
    → IfSome (inserted s v es) (λ w. AddsTabled old new r (map w))

-- ---- the map of tables and params

module _ (t0 t1 t2 : Held) (n i e : ℕ) (first : HasAdded t0 t1 i (list (items_of (ints_from 0 n)))) (p : Places t1.values (map no_entries) (Ok e) t2.values)
    (q : t2.charge ≡ t1.charge) where
  abbrev indices : Value
  indices = list (items_of (ints_from 0 n))

  empty_added : HasAdded t1 t2 e (map no_entries)
  empty_added = appended t1 t2 (map no_entries) e refl p q

  indices_there : slice_get t2.values i ≡ Some (value indices)
  indices_there = stays t1 t2 e i (map no_entries) (value indices) empty_added first.there

  pub first_entries : IsSome (slice_get t2.values e)
  first_entries = is_there _ _ empty_added.there

  pub first_of : IsSome (slice_get t2.values i)
  first_of = is_there _ _ indices_there

  pub first_fits : IsSome (put_in (slice_get t2.values e) (Some (value (text (codes "n")))) (slice_get t2.values i))
  first_fits = fits (slice_get t2.values e) (slice_get t2.values i) no_entries (codes "n") indices empty_added.there indices_there refl

  module _ (t3 : Held) (h : ℕ) (second : Puts t2 t3 e i (codes "n") (Ok h)) where
    tables_added : HasAdded t2 t3 h (index_tables n)
    tables_added = second no_entries indices empty_added.there indices_there

    empty_still : slice_get t3.values e ≡ Some (value (map no_entries))
    empty_still = stays t2 t3 h e (index_tables n) (value (map no_entries)) tables_added empty_added.there

    pub second_entries : IsSome (slice_get t3.values e)
    second_entries = is_there _ _ empty_still

    pub second_of : IsSome (slice_get t3.values h)
    second_of = is_there _ _ tables_added.there

    pub second_fits : IsSome (put_in (slice_get t3.values e) (Some (value (text (codes "t")))) (slice_get t3.values h))
    second_fits = fits (slice_get t3.values e) (slice_get t3.values h) no_entries (codes "t") (index_tables n) empty_still tables_added.there refl

    module _ (t4 : Held) (o : ℕ) (third : Puts t3 t4 e h (codes "t") (Ok o)) where
      abbrev outer : Value
      outer = map (entry (codes "t") (index_tables n) no_entries)

      outer_added : HasAdded t3 t4 o outer
      outer_added = third no_entries (index_tables n) empty_still tables_added.there

      whole : HasAdded t0 t4 o outer
      whole = then_added t0 t3 t4 h o (index_tables n) outer (then_added t0 t2 t3 e h (map no_entries) (index_tables n) (then_added t0 t1 t2 i e indices (map no_entries) first empty_added) tables_added) outer_added

      pub third_entries : IsSome (slice_get t4.values o)
      third_entries = is_there _ _ outer_added.there

      params_same : (x : ℕ) → IsSome (value_at (slice_get t0.values x)) → slice_get t4.values x ≡ slice_get t0.values x
      params_same x s = stays_same t0 t4 o x outer whole (has_result (slice_get t0.values x) s)

      pub third_of : (x : ℕ) → IsSome (value_at (slice_get t0.values x)) → IsSome (slice_get t4.values x)
      third_of x s = subst (λ (y : Option ValueOrError). IsSome y) (sym (params_same x s)) (has_result (slice_get t0.values x) s)

      pub third_fits : (x : ℕ) → IsSome (value_at (slice_get t0.values x)) → IsSome (put_in (slice_get t4.values o) (Some (value (text (codes "v")))) (slice_get t4.values x))
      third_fits x s =
          subst (λ (y : Option Value). IsSome y) (sym (λ j. put_in (outer_added.there j) (Some (value (text (codes "v")))) (params_same x s j)))
          (params_fit (slice_get t0.values x) (index_tables n) s)

      pub all_added : (t5 : Held) (r : Result ℕ AllocError) (x : ℕ) (v : Value) → slice_get t0.values x ≡ Some (value v) → Puts t4 t5 o x (codes "v") r
          → AddsTabled t0 t5 r (with_tables (index_tables n) v)
      all_added t5 r x v is last =
          adds_later t0 t4 t5 o outer (with_tables (index_tables n) v) r whole
          (last (entry (codes "t") (index_tables n) no_entries) v outer_added.there (stays t0 t4 o x outer (value v) whole is))
