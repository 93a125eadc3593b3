-- Operators before an operand.
use Rattle.cel_reader.proofs.Prelude.{◌≡◌, ℕ, suc, List, ◌∷◌, ◌∙◌, ap, subst, Word, mark, Mark, Tree, unary_mark, at, this_mark, IsNotNext, Prefixes, none, one_more, wrapped, One, Member, Prefixed, StepReads, Row, Got, Refused, Cause, stands, goes, fails, calls, missing, UnaryOperator}
use Rattle.cel_reader.proofs.Steps.{found_at}

pub more : (op : UnaryOperator) (m : Mark) (n : ℕ) (ws us rest : List Word) → m ≡ unary_mark op → ws ≡ mark m ∷ us → Prefixes op n us rest → Prefixes op (suc n) ws rest
more op m n ws us rest e f p = one_more (f ∙ ap (λ (x : Mark). mark x ∷ us) e) p

pub ended : (op : UnaryOperator) (m : Mark) (ws : List Word) → m ≡ unary_mark op → IsNotNext (at m) ws → Prefixes op 0 ws ws
ended op m ws e n = none (subst (λ (x : Mark). IsNotNext (at x) ws) e n)

pub prefixed_refused : {op : UnaryOperator} {n room : ℕ} {ws rest : List Word} {e : Cause} → Prefixes op n ws rest → StepReads (Row Member) room rest (Refused e)
    → StepReads (Row (Prefixed op)) room ws (Refused e)
prefixed_refused (none n) r = goes (missing n r)
prefixed_refused (one_more e p) r = goes (found_at e this_mark (fails (prefixed_refused p r)))

pub prefixed_read : {op : UnaryOperator} {n room : ℕ} {ws rest end : List Word} {a : Tree} → Prefixes op n ws rest
    → StepReads (Row Member) room rest (Got (One a) end) → StepReads (Row (Prefixed op)) room ws (Got (One (wrapped op n a)) end)
prefixed_read (none n) r = goes (missing n r)
prefixed_read (one_more e p) r = goes (found_at e this_mark (calls _ (prefixed_read p r) stands))
