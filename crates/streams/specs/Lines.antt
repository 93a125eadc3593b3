-- The lines of an input.
use Rattle.std.specs.Prelude.{ℕ, ◌^◌, List, [], ◌∷◌, ◌++◌, fold, nat_eq, take, if◌then◌else◌}

-- one more byte after the ended lines and the bytes after them: a line feed ends the line
abbrev pub cut_byte : List (List ℕ) × List ℕ → ℕ → List (List ℕ) × List ℕ
cut_byte p b = if nat_eq b 10 then (p.0 ++ p.1 ∷ [], []) else (p.0, p.1 ++ b ∷ [])

-- an input split at its line feeds: the lines that have ended, and the bytes after them
unfoldable pub cut : List ℕ → List (List ℕ) × List ℕ
cut input = fold cut_byte ([], []) input

-- the lines, followed by the bytes after the last line feed if there are any
abbrev pub with_rest : List (List ℕ) → List ℕ → List (List ℕ)
with_rest lines [] = lines
with_rest lines (b ∷ bs) = lines ++ (b ∷ bs) ∷ []

-- the lines of an input: the last may lack a line feed, and there is no empty line after the last line feed
abbrev pub input_lines : List ℕ → List (List ℕ)
input_lines input = with_rest (cut input).0 (cut input).1

-- the readable part of an input: only the first 2^63 bytes are read
unfoldable pub readable : List ℕ → List ℕ
readable input = take (2 ^ 63) input
