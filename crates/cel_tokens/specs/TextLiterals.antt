-- Text literals as they are written after the opening: pieces, then the closing quote (cel-spec, STRING_LIT).
use Rattle.std.specs.Prelude.{◌≡◌, ◌≢◌, ◌↔◌, ℕ, ◌+◌, List, [], ◌∷◌, ◌++◌, drop, Bool, Some}
use Rattle.cel_tokens.specs.Texts.{piece, content}

-- the first n of these bytes are pieces and the closing quote, and the literal's value
-- is the concatenation of the pieces' values
pub data LiteralMeans : Bool → ℕ → List ℕ → ℕ → List ℕ → Type 0 where
  closing : {raw : Bool} {quote : ℕ} {rest : List ℕ} → LiteralMeans raw quote (quote ∷ rest) 1 []
  one_piece : {raw : Bool} {quote b n : ℕ} {bs said : List ℕ} (x : ℕ × List ℕ) → b ≢ quote → piece raw (b ∷ bs) ≡ Some x
      → LiteralMeans raw quote (drop x.0 (b ∷ bs)) n said → LiteralMeans raw quote (b ∷ bs) (x.0 + n) (x.1 ++ said)

-- the computed value of a text literal is that of its pieces
abbrev pub SaysItsPieces : Type 0
SaysItsPieces = (raw : Bool) (quote : ℕ) (bytes : List ℕ) (n : ℕ) (said : List ℕ)
    → (content raw quote 0 0 [] bytes ≡ Some (n, said)) ↔ LiteralMeans raw quote bytes n said
