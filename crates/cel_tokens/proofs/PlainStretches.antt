-- A run of plain bytes in a text literal has itself as value.
use Rattle.cel_tokens.proofs.Prelude.{◌≡◌, ℕ, ◌+◌, List, [], ◌∷◌, ◌++◌, take, drop, refl, sym, ◌∙◌, ap, arith, Bool, true, false, Some, cond, IsUtf8, nat_tests, append-nil, append_assoc, drop-drop, take-append-drop, is_plain, skip_plain_of, content, piece, is_quote}
use Rattle.cel_tokens.proofs.Contents.{ended, goes_on}

plain_piece : (raw : Bool) (b : ℕ) (bs : List ℕ) → is_plain b ≡ true → piece raw (b ∷ bs) ≡ Some (1, b ∷ [])
plain_piece raw b bs h0 = grind arith

-- the same position and the same text, written differently
placed : (raw : Bool) (quote m n : ℕ) (said new rest : List ℕ) → m ≡ n → said ≡ new → content raw quote 0 m said rest ≡ content raw quote 0 n new rest
placed raw quote m n said new rest e f = λ i. content raw quote 0 (e i) (f i) rest

-- a run of plain bytes is read to its end, from any position
abbrev RunIs : Bool → ℕ → List ℕ → Type 0
RunIs raw quote xs =
    (n : ℕ) (said : List ℕ) → content raw quote 0 n said xs ≡ content raw quote 0 (n + skip_plain_of xs) (said ++ take (skip_plain_of xs) xs) (drop (skip_plain_of xs) xs)

plain_run_at : (raw : Bool) (quote n b : ℕ) (said bs : List ℕ) → is_quote quote ≡ true → RunIs raw quote bs → (plain : Bool) → is_plain b ≡ plain → content raw quote 0 n said (b ∷ bs) ≡ content raw quote 0 (n + cond plain (1 + skip_plain_of bs) 0) (said ++ take (cond plain (1 + skip_plain_of bs) 0) (b ∷ bs)) (drop (cond plain (1 + skip_plain_of bs) 0) (b ∷ bs))
plain_run_at raw quote n b said bs q more false h = placed raw quote n (n + 0) said (said ++ []) (b ∷ bs) (omega arith) (sym (append-nil said))
plain_run_at raw quote n b said bs q more true h = grind (arith, goes_on, nat_tests, plain_piece, placed, append_assoc)

plain_run : (raw : Bool) (quote : ℕ) (xs : List ℕ) → is_quote quote ≡ true → RunIs raw quote xs
plain_run raw quote [] q n said = ended raw quote 0 n said ∙ sym (ended raw quote 0 (n + 0) (said ++ []))
plain_run raw quote (b ∷ bs) q n said = plain_run_at raw quote n b said bs q (plain_run raw quote bs q) (is_plain b) refl

-- one run in the loop over a text
pub stretch_step : (raw : Bool) (quote n k : ℕ) (said rest xs : List ℕ) → is_quote quote ≡ true → rest ≡ drop n xs → k ≡ skip_plain_of rest
    → content raw quote 0 (n + k) (said ++ take k rest) (drop (n + k) xs) ≡ content raw quote 0 n said (drop n xs)
stretch_step raw quote n k said rest xs q r l = grind (arith, plain_run, drop-drop)

pub stretch_utf8 : (n k : ℕ) (said new rest xs : List ℕ) → rest ≡ drop n xs → new ≡ said ++ take k rest → IsUtf8 (said ++ drop n xs) → IsUtf8 (new ++ drop (n + k) xs)
stretch_utf8 n k said new rest xs r a u =
    let whole : said ++ rest ≡ (said ++ take k rest) ++ drop k rest = ap (λ ys. said ++ ys) (sym (take-append-drop k rest)) ∙ sym (append_assoc said (take k rest) (drop k rest)) in
    (grind (arith, drop-drop))
