-- Tokens that are written one after the other.
use Rattle.std.proofs.Common.{List, [], ◌∷◌, ◌++◌, Result, Ok, Err, OnOk, refl, sym, ap, ◌∙◌, append-nil, append_assoc}
use Rattle.json.specs.Token.{Token}
use Rattle.json.specs.Written.{Writes, Written}
use Rattle.policy_glue.specs.ResponseTokens.{AddsTokens}

pub adds_none : (w : Written) → AddsTokens w w []
adds_none w = record { before = refl; added = sym (append-nil w.tokens) }

pub adds_more : {a b c : Written} {xs ys : List Token} → AddsTokens a b xs → AddsTokens b c ys → AddsTokens a c (xs ++ ys)
adds_more {a} {b} {c} {xs} {ys} first second = record {
  before = second.before ∙ first.before;
  added = second.added ∙ ap (λ (ts : List Token). ts ++ ys) first.added ∙ append_assoc a.tokens xs ys;
}

-- one token
pub one : {E : Type 0} {a b : Written} {t : Token} → Writes {E = E} (Ok tt) a b t → AddsTokens a b (t ∷ [])
one writes = record { before = writes.room.0; added = writes.ok }

-- one more token, if writing it succeeds
pub last : {E : Type 0} {a b c : Written} {ts : List Token} {t : Token} (r : Result (Unit {0}) E) → AddsTokens a b ts → Writes r b c t → OnOk r (AddsTokens a c (ts ++ t ∷ []))
last {E} {a} {b} {c} {ts} {t} (Ok u) adds writes =
    let more : AddsTokens b c (t ∷ []) = record { before = writes.room.0; added = writes.ok } in
    adds_more adds more
last (Err e) adds writes = tt
