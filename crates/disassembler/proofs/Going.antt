-- The listing, statement by statement.
use Rattle.disassembler.proofs.Prelude.{◌≡◌, ℕ, ◌<◌, arith, length, List, [], ◌∷◌, ◌++◌, refl, ap, append_assoc, append-nil, subst, Listing, after_statement, statement_of, statement_text, ended, place, Statement}

-- one more line in front
pub placed : (code more : List ℕ) → (code ≡ [] → ⊥) → Listing (after_statement code) more → Listing code (statement_text (statement_of code) ++ 10 ∷ more)
placed [] more some later = absurd (some refl)
placed (byte ∷ bytes) more some later = record {
  statements = statement_of (byte ∷ bytes) ∷ later.statements;
  lists = place later.lists;
  text_is = ap (λ (t : List ℕ). statement_text (statement_of (byte ∷ bytes)) ++ 10 ∷ t) later.text_is;
}

pub none_left : (code : List ℕ) → code ≡ [] → Listing code []
none_left [] e = record { statements = []; lists = ended; text_is = refl }
none_left (byte ∷ bytes) e = absurd cc

some_left : (code after : List ℕ) → length after < length code → code ≡ [] → ⊥
some_left code after less e = grind arith

-- the code after the next statement
pub record IsBehind (code after : List ℕ) : Type 0 where
  pub is : after ≡ after_statement code
  pub shorter : length after < length code

-- if any listing of the rest, appended to the text so far, completes the code's
-- listing, this also holds after one more line
pub goes : (code rest after out longer more : List ℕ) → ((t : List ℕ) → Listing rest t → Listing code (out ++ t)) → IsBehind rest after
    → longer ≡ (out ++ statement_text (statement_of rest)) ++ 10 ∷ [] → Listing after more → Listing code (longer ++ more)
goes code rest after out longer more so_far behind line later =
    let at = behind.is in
    let less = behind.shorter in
    grind (arith, append_assoc, placed, some_left)

pub whole : (code rest out : List ℕ) → ((t : List ℕ) → Listing rest t → Listing code (out ++ t)) → rest ≡ [] → Listing code out
whole code rest out so_far e = subst (λ t. Listing code t) (append-nil out) (so_far [] (none_left rest e))
