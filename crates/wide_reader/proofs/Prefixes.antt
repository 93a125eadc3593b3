-- Operators before an operand.
use Rattle.wide_reader.proofs.Prelude.{◌≡◌, ℕ, List, ◌∷◌, Bool, not, ◌∙◌, ap, subst, WideWord, mark, Mark, Wide, unary_mark, at, this_mark, WideIsNotNext, WidePrefixes, none, one_more, applied, One, Member, Prefixed, WideStepReads, Row, Got, Refused, WideCause, stands, goes, fails, calls, missing, UnaryOperator}
use Rattle.wide_reader.proofs.Steps.{found_at}

pub more : (op : UnaryOperator) (m : Mark) (odd last : Bool) (ws us rest : List WideWord) → m ≡ unary_mark op → ws ≡ mark m ∷ us → WidePrefixes op (not odd) last us rest → WidePrefixes op odd last ws rest
more op m odd last ws us rest e f p = one_more (f ∙ ap (λ (x : Mark). mark x ∷ us) e) p

pub ended : (op : UnaryOperator) (m : Mark) (odd : Bool) (ws : List WideWord) → m ≡ unary_mark op → WideIsNotNext (at m) ws → WidePrefixes op odd odd ws ws
ended op m odd ws e n = none (subst (λ (x : Mark). WideIsNotNext (at x) ws) e n)

pub prefixed_refused : {op : UnaryOperator} {odd last : Bool} {room : ℕ} {ws rest : List WideWord} {e : WideCause} → WidePrefixes op odd last ws rest
    → WideStepReads (Row Member) room rest (Refused e) → WideStepReads (Row (Prefixed op odd)) room ws (Refused e)
prefixed_refused (none n) r = goes (missing n (fails r))
prefixed_refused (one_more e p) r = goes (found_at e this_mark (prefixed_refused p r))

pub prefixed_read : {op : UnaryOperator} {odd last : Bool} {room : ℕ} {ws rest end : List WideWord} {a : Wide} → WidePrefixes op odd last ws rest
    → WideStepReads (Row Member) room rest (Got (One a) end) → WideStepReads (Row (Prefixed op odd)) room ws (Got (One (applied op last a)) end)
prefixed_read (none n) r = goes (missing n (calls _ r stands))
prefixed_read (one_more e p) r = goes (found_at e this_mark (prefixed_read p r))
