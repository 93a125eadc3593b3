-- The values after one is placed.
use Rattle.helper_table.proofs.Prelude.{◌≡◌, ℕ, suc, List, [], ◌∷◌, ◌++◌, length, refl, ◌⊎◌, arith, length-append, ◌+◌, Bool, true, first_values, place, placed, IsCanonicalAt, Contents, charge_limit, Value, null, boolean, ValueOrError, value, Names, ExtendsValues, PlacedIsNamed, PlacedExtends, Follows, if◌then◌else◌, nat_le, F8, RowOutcome, Plain, Named, Refused, Leaves, Halts, answer_among, charged}

seam : (vs : List ValueOrError) (x : ValueOrError) → Names (vs ++ x ∷ []) (length vs) x
seam [] x = refl
seam (v ∷ vs) x = seam vs x

kept : (vs : List ValueOrError) (y : ValueOrError) (h : ℕ) (x : ValueOrError) → Names vs h x → Names (vs ++ y ∷ []) h x
kept (v ∷ vs) y (suc h) x is = kept vs y h x is
kept vs y h x is = grind arith

old_or_new : (vs : List ValueOrError) (y : ValueOrError) (h : ℕ) (x : ValueOrError) → Names (vs ++ y ∷ []) h x → Names vs h x ⊎ (y ≡ x)
old_or_new (v ∷ vs) y (suc h) x is = old_or_new vs y h x is
old_or_new vs y h x is = grind arith

pub same : (vs : List ValueOrError) → ExtendsValues vs vs
same vs = grind arith

-- one more value, which may have any reference
more : (vs : List ValueOrError) (y : ValueOrError) → ((h : ℕ) → IsCanonicalAt y h) → ExtendsValues vs (vs ++ y ∷ [])
more vs y free = grind (arith, kept, length-append, old_or_new)

pub placed_extends : PlacedExtends
placed_extends vs null = same vs
placed_extends vs (boolean b) = same vs
placed_extends vs v = more vs (value v) (λ h. tt)

named_among : (vs rest : List ValueOrError) → vs ≡ first_values ++ rest → (v : Value) → Names (placed vs v) (place vs v) (value v)
named_among vs rest e v = grind (arith, seam)

pub placed_is_named : PlacedIsNamed
placed_is_named old v store = named_among old.values store.more store.values_are v

-- the first four values are kept
pub record Begins (vs : List ValueOrError) : Type 0 where
  pub rest : List ValueOrError
  pub is : vs ≡ first_values ++ rest

longer : (vs rest : List ValueOrError) (y : ValueOrError) → vs ≡ first_values ++ rest → Begins (vs ++ y ∷ [])
longer vs rest y e = grind arith

pub begins : (vs rest : List ValueOrError) → vs ≡ first_values ++ rest → (v : Value) → Begins (placed vs v)
begins vs rest e v = grind arith

-- ---- the contents after a call follow those before

-- a call that was not stopped stayed within the limit, and returned its word and its values
pub record Left (test : Bool) (w word : ℕ) (contents new : Contents) : Type 0 where
  pub within : test ≡ true
  pub word_is : w ≡ word
  pub is : contents ≡ new

pub left : (test : Bool) (w word : ℕ) (contents new : Contents) → (if test then Leaves w contents else Halts F8) ≡ Leaves word new
    → Left test w word contents new
left test w word contents new e = grind arith

follows : (old new : Contents) (us : List ValueOrError) (w word added : ℕ) → ExtendsValues old.values us
    → ((rest : List ValueOrError) → old.values ≡ first_values ++ rest → Begins us)
    → Left (nat_le (old.charge + (1 + added)) charge_limit) w word (record { values = us; charge = old.charge + (1 + added) }) new → Follows old new
follows old new us w word added values store limit = grind arith

pub outcome_follows : (o : RowOutcome) (old new : Contents) (word : ℕ) → charged (answer_among old.values o) old.charge ≡ Leaves word new → Follows old new
outcome_follows (Plain w added) old new word e =
    follows old new old.values w word added (same old.values) (λ rest is. record { rest = rest; is = is }) (left _ _ _ _ _ e)
outcome_follows (Named v added) old new word e =
    follows old new (placed old.values v) _ word added (placed_extends old.values v)
    (λ rest is. begins old.values rest is v) (left _ _ _ _ _ e)
outcome_follows (Refused f) old new word e = absurd (cc)
