-- Emitters with something added at the end.
use Rattle.codegen.proofs.Prelude.{◌≡◌, ℕ, List, ◌++◌, map, take, string_bytes, refl, sym, length, arith, take-map, length-map, take_all, take_at, Global}
use Rattle.std.specs.Prelude.{String}

-- the bytes of the first texts are the first of the bytes
pub texts_cut : (n : ℕ) (texts : List (String Global)) → map string_bytes (take n texts) ≡ take n (map string_bytes texts)
texts_cut n texts = sym (take-map string_bytes n texts)

-- ---- lists that begin with others

pub texts_front : (before after : List (String Global)) → take (length before) after ≡ before → take (length (map string_bytes before)) (map string_bytes after) ≡ map string_bytes before
texts_front before after h = grind (arith, string_bytes, length-map, texts_cut)

pub kept : (slots : List ℕ) → take (length slots) slots ≡ slots
kept slots = take_all (length slots) slots (omega arith)

pub longer : (slots more : List ℕ) → take (length slots) (slots ++ more) ≡ slots
longer slots more = take_at slots more (length slots) refl
