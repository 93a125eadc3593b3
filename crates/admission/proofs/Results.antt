-- Facts about `Result`.
use Rattle.admission.proofs.Prelude.{◌≡◌, Result, Ok, Err, ap, IsErrAnd}

-- the result that `?` returns early is this error
pub is_err : {A E : Type 0} {r : Result A E} {e : E} → IsErrAnd r (λ q. q ≡ e) → r ≡ Err e
is_err {r = Ok x} is = absurd is
is_err {r = Err q} is = ap Err is

-- a result has one value
pub ok_same : {A E : Type 0} (r : Result A E) (x y : A) → r ≡ Ok x → r ≡ Ok y → x ≡ y
ok_same r x y is also = cc

-- or one error
pub err_same : {A E : Type 0} (r : Result A E) (x y : E) → r ≡ Err x → r ≡ Err y → x ≡ y
err_same r x y is also = cc

pub not_both : {A E : Type 0} (r : Result A E) (x : A) (e : E) → r ≡ Ok x → r ≡ Err e → ⊥
not_both r x e is also = cc
