-- The tokens of a list of parts.
use Rattle.value_table.proofs.Prelude.{◌≡◌, ℕ, zero, suc, ◌<◌, List, [], ◌∷◌, ◌++◌, length, get_or, drop, refl, ap, arith, append_assoc, append-nil, drop-nil, length-map, nil_from_length, Token, Value, items_of, value_in, meaning, Head, head, parts, texts_of, values_at, entries_of, built, IsContent, value_tokens, items_tokens, entries_tokens, opening, closing, row_tokens, head_keys, name_tokens, Part, Content, Backings}
use Rattle.json.specs.Token as json
use Rattle.value_table.proofs.Heads.{Fits, fits, meaning_built}

pub row_step : (bytes : List ℕ) (vs : List Value) (ns : List Part) (ps : List ℕ) (i : ℕ) → i < length ps
    → row_tokens (texts_of bytes (drop i ns)) (values_at vs (drop i ps))
    ≡ name_tokens (texts_of bytes (drop i ns)) ++ (value_tokens (value_in vs (get_or ps i 0)) ++ row_tokens (texts_of bytes (drop (suc i) ns)) (values_at vs (drop (suc i) ps)))
row_step bytes vs ns [] i h = absurd (omega arith)
row_step bytes vs [] (p ∷ ps) zero h = refl
row_step bytes vs (n ∷ ns) (p ∷ ps) zero h = refl
row_step bytes vs [] (p ∷ ps) (suc i) h = grind (arith, drop-nil, row_step bytes vs [] ps i (omega arith))
row_step bytes vs (n ∷ ns) (p ∷ ps) (suc i) h = row_step bytes vs ns ps i (omega arith)

items_row : (vs : List Value) → items_tokens (items_of vs) ≡ row_tokens [] vs
items_row [] = refl
items_row (v ∷ vs) = ap (λ t. value_tokens v ++ t) (items_row vs)

entries_row : (ks : List (List ℕ)) (vs : List Value) → length ks ≡ length vs → entries_tokens (entries_of ks vs) ≡ row_tokens ks vs
entries_row [] [] e = refl
entries_row (k ∷ ks) (v ∷ vs) e = ap (λ t. json.key k ∷ (value_tokens v ++ t)) (entries_row ks vs (omega arith))
entries_row _ _ e = absurd (omega arith)

built_tokens : (h : Head) (vs : List Value) → Fits h (length vs) → value_tokens (built h vs) ≡ opening h ++ (row_tokens (head_keys h) vs ++ closing h)
built_tokens h vs f = grind (arith, append-nil, nil_from_length, items_row, entries_row)

pub meaning_tokens : (bs : Backings) (vs : List Value) (i : ℕ) (c : Content) → IsContent bs i c
    → value_tokens (meaning bs vs c) ≡ opening (head bs c) ++ (row_tokens (head_keys (head bs c)) (values_at vs (parts bs c)) ++ closing (head bs c))
meaning_tokens bs vs i c h = grind (arith, meaning_built, built_tokens, length-map, fits)

pub step_tokens : (w0 w1 w2 n v r rest : List Token) → w1 ≡ w0 ++ n → w2 ≡ w1 ++ v → rest ≡ n ++ (v ++ r) → w2 ++ r ≡ w0 ++ rest
step_tokens w0 w1 w2 n v r rest p q e = grind (arith, append_assoc)

pub end_tokens : (w0 w w' o r c v : List Token) → w ++ [] ≡ w0 ++ (o ++ r) → w' ≡ w ++ c → v ≡ o ++ (r ++ c) → w' ≡ w0 ++ v
end_tokens w0 w w' o r c v p q e = grind (arith, append-nil, append_assoc)
