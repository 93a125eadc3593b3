-- Words with the same beginning and different ends.
use Rattle.wide_reader.proofs.Prelude.{◌≡◌, List, [], ◌∷◌, sym, subst, WideWord, WideLook, WideIsNot, WideIsNotNext}

-- ws ends with x and us with y, and before these ends they are equal
pub data Alike : List WideWord → List WideWord → List WideWord → List WideWord → Type 0 where
  same : {x y : List WideWord} → Alike x y x y
  down : {x y ws us : List WideWord} {w : WideWord} → Alike x y ws us → Alike x y (w ∷ ws) (w ∷ us)

pub over : {x y v w ws us : List WideWord} → Alike x y v w → Alike v w ws us → Alike x y ws us
over a same = a
over a (down b) = down (over a b)

-- both begin with the same word, or both are empty
abbrev pub SameHead : List WideWord → List WideWord → Type 0
SameHead [] [] = Unit {0}
SameHead (w ∷ ws) (u ∷ us) = u ≡ w
SameHead _ _ = ⊥

pub lacks_too : (l : WideLook) (ws us : List WideWord) → SameHead ws us → WideIsNotNext l ws → WideIsNotNext l us
lacks_too l [] [] h n = tt
lacks_too l (w ∷ ws) (u ∷ us) h n = subst (λ (x : WideWord). WideIsNot l x) (sym h) n
lacks_too l _ _ h n = absurd h
