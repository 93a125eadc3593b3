-- Expressions that are made of others, each of which is there unless an allocation failed.
use Rattle.std.specs.Prelude.{◌≡◌, Result, Ok, IfOk, map}
use Rattle.std.specs.declared.alloc.Global.{Global}
use Rattle.std.specs.declared.vec.Vec.{Vec}
use Rattle.cel_reader.specs.Tree.{Tree, Trees, trees, view}
use Rattle.cel_reader.specs.declared.expr.Expr.{Expr}

-- the form of one expression, of two, and of three
abbrev pub FormOf : {E : Type 0} → (Tree → Tree) → Result Expr E → Result Expr E → Type 0
FormOf f a r = IfOk r (λ e. (x : Expr) × (a ≡ Ok x) × (view e ≡ f (view x)))

abbrev pub FormOfTwo : {E : Type 0} → (Tree → Tree → Tree) → Result Expr E → Result Expr E → Result Expr E → Type 0
FormOfTwo f a b r = IfOk r (λ e. (x : Expr) × (y : Expr) × (a ≡ Ok x) × (b ≡ Ok y) × (view e ≡ f (view x) (view y)))

abbrev pub FormOfThree : {E : Type 0} → (Tree → Tree → Tree → Tree) → Result Expr E → Result Expr E → Result Expr E → Result Expr E → Type 0
FormOfThree f a b c r = IfOk r (λ e. (x : Expr) × (y : Expr) × (z : Expr) × (a ≡ Ok x) × (b ≡ Ok y) × (c ≡ Ok z) × (view e ≡ f (view x) (view y) (view z)))

-- the form of expressions in a row
abbrev pub FormOfItems : {E : Type 0} → (Trees → Tree) → Result (Vec Expr Global) E → Result Expr E → Type 0
FormOfItems f a r = IfOk r (λ e. (xs : Vec Expr Global) × (a ≡ Ok xs) × (view e ≡ f (trees (map view xs.items))))
