-- `all` is the conjunction over the items and `exists` the disjunction, in agreement with the macros' meaning.
use Rattle.cel_macros.proofs.Prelude.{◌≡◌, Bool, true, false, List, [], ◌∷◌, fold, map, arith, list_any, if◌then◌else◌, Value, ValueOrError, error, value, boolean, Truth, Yes, No, Other, truth, of_truth, conjunction, disjunction, Macro, All, Exists, is_yes, is_no, all_of, exists_of, step_of}

-- the macro that a single item with this truth decides
abbrev pub quantifier : Bool → Macro
quantifier true = Exists
quantifier false = All

abbrev joined : Bool → Truth → Truth → Truth
joined true s t = disjunction s t
joined false s t = conjunction s t

-- the macro's result over these items, after others with this result
abbrev pub behind : Bool → Truth → List Truth → ValueOrError
behind true Yes ts = value (boolean true)
behind true No ts = exists_of ts
behind true Other ts = if list_any is_yes ts then value (boolean true) else error
behind false Yes ts = all_of ts
behind false No ts = value (boolean false)
behind false Other ts = if list_any is_no ts then value (boolean false) else error

one_more : (b : Bool) (t s : Truth) (ts : List Truth) → behind b (joined b t s) ts ≡ behind b t (s ∷ ts)
one_more b t s ts = grind arith

-- the fold from there on
pub folds_behind : (b : Bool) (f : Value → ValueOrError) (t : Truth) (items : List Value)
    → fold (step_of (quantifier b) f) (of_truth t) items ≡ behind b t (map (λ x. truth (f x)) items)
folds_behind b f t [] = grind arith
folds_behind b f t (v ∷ items) = grind (arith, folds_behind b f (joined b t (truth (f v))) items)
