-- The need of a call, for each number of arguments.
use Rattle.cel_measures.proofs.Prelude.{◌≡◌, ◌+◌, ◌<◌, List, [], ◌∷◌, length, map, refl, arith, CodeCore, core_view, cores, call_need, needs}

pub need_of_none : (items : List CodeCore) → length items < 1 → call_need (cores (map core_view items)) ≡ 1
unfolding call_need
need_of_none [] h = refl
need_of_none (a ∷ items) h = absurd (omega arith)

pub need_of_many : (items : List CodeCore) → 1 < length items → call_need (cores (map core_view items)) ≡ 1 + needs (cores (map core_view items))
unfolding call_need
need_of_many (a ∷ b ∷ items) h = refl
need_of_many _ h = absurd (omega arith)
