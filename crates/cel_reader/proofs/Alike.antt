-- Words with the same beginning and different ends.
use Rattle.cel_reader.proofs.Prelude.{◌≡◌, List, [], ◌∷◌, sym, subst, Word, Look, IsNot, IsNotNext}

-- ws ends with x and us with y, and before these ends they are equal
pub data Alike : List Word → List Word → List Word → List Word → Type 0 where
  same : {x y : List Word} → Alike x y x y
  down : {x y ws us : List Word} {w : Word} → Alike x y ws us → Alike x y (w ∷ ws) (w ∷ us)

pub over : {x y v w ws us : List Word} → Alike x y v w → Alike v w ws us → Alike x y ws us
over a same = a
over a (down b) = down (over a b)

-- both begin with the same word, or both are empty
abbrev pub SameHead : List Word → List Word → Type 0
SameHead [] [] = Unit {0}
SameHead (w ∷ ws) (u ∷ us) = u ≡ w
SameHead _ _ = ⊥

pub lacks_too : (l : Look) (ws us : List Word) → SameHead ws us → IsNotNext l ws → IsNotNext l us
lacks_too l [] [] h n = tt
lacks_too l (w ∷ ws) (u ∷ us) h n = subst (λ (x : Word). IsNot l x) (sym h) n
lacks_too l _ _ h n = absurd h
