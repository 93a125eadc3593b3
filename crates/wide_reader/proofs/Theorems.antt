-- Theorems about the grammar and the reader's runs.
use Rattle.wide_reader.proofs.Prelude.{◌≡◌, ℕ, ◌+◌, ◌≤◌, List, [], ◌∷◌, arith, WideWord, Wide, Expression, One, WideDerives, WideReadOutcome, Got, Refused, Misfit, Deep, Row, WideStepReads}
use Rattle.wide_reader.proofs.Stops.{ends_all}
use Rattle.wide_reader.proofs.Sound.{sound}
use Rattle.wide_reader.proofs.Loose.{loosely}
use Rattle.wide_reader.proofs.Built.{built}
use Rattle.wide_reader.proofs.Plans.{one_outcome, roomier}

-- what is read is derived
pub whole_sound : (room : ℕ) (ws rest : List WideWord) (a : Wide) → WideStepReads (Row Expression) room ws (Got (One a) rest) → WideDerives Expression room ws (One a) rest
whole_sound room ws rest a r = sound (loosely r)

-- what is derived from all the words is read, also with more room
whole_read : (room more : ℕ) (ws : List WideWord) (a : Wide) → room ≤ more → WideDerives Expression room ws (One a) [] → WideStepReads (Row Expression) more ws (Got (One a) [])
whole_read room more ws a h d = roomier (built d ends_all) more h (λ us e. cc)

-- an expression is one with more room too
pub more_room : (room more : ℕ) (ws : List WideWord) (a : Wide) → room ≤ more → WideDerives Expression room ws (One a) [] → WideDerives Expression more ws (One a) []
more_room room more ws a h d = whole_sound more ws [] a (whole_read room more ws a h d)

-- all the words have at most one tree, for any room
pub whole_unique : (room other : ℕ) (ws : List WideWord) (a b : Wide) → WideDerives Expression room ws (One a) [] → WideDerives Expression other ws (One b) [] → a ≡ b
whole_unique room other ws a b d e =
    let same = one_outcome (whole_read room (room + other) ws a (omega arith) d) (whole_read other (room + other) ws b (omega arith) e) in
    cc

-- a run that was not too deep and did not end in this tree excludes any other derivation, for any room
one_answer : (room other : ℕ) (ws : List WideWord) (b : Wide) (o : WideReadOutcome) → ((left : List WideWord) → o ≡ Refused (Deep left) → ⊥)
    → WideStepReads (Row Expression) room ws o → WideDerives Expression other ws (One b) [] → o ≡ Got (One b) []
one_answer room other ws b o not r d =
    one_outcome (roomier r (room + other) (omega arith) not) (whole_read other (room + other) ws b (omega arith) d)

-- a misfit is one for any room
pub misfit_never : (room other : ℕ) (ws us : List WideWord) (a : Wide) → WideStepReads (Row Expression) room ws (Refused (Misfit us)) → WideDerives Expression other ws (One a) [] → ⊥
misfit_never room other ws us a r d = let same = one_answer room other ws a (Refused (Misfit us)) (λ vs e. cc) r d in cc

-- words that the reader leaves belong to no phrase of all the words, for any room
pub rest_never : (room other : ℕ) (ws us : List WideWord) (w : WideWord) (a b : Wide) → WideStepReads (Row Expression) room ws (Got (One a) (w ∷ us)) → WideDerives Expression other ws (One b) [] → ⊥
rest_never room other ws us w a b r d = let same = one_answer room other ws b (Got (One a) (w ∷ us)) (λ vs e. cc) r d in cc

-- a text that is too deep for the reader is not a phrase with this room
pub deep_never : (room : ℕ) (ws us : List WideWord) (a : Wide) → WideStepReads (Row Expression) room ws (Refused (Deep us)) → WideDerives Expression room ws (One a) [] → ⊥
deep_never room ws us a r d = let same = one_outcome r (built d ends_all) in cc
