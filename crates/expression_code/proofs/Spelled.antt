-- If the code contains the bytes of a piece's encoding, the machine finds the piece there.
use Rattle.expression_code.proofs.Prelude.{◌≡◌, ℕ, ◌+◌, ◌*◌, ◌<◌, List, [], ◌∷◌, ◌++◌, length, drop, Some, refl, sym, ap, ◌∙◌, arith, append_assoc, length-append, length-drop, All, pos, drop-append_seam, drop-drop, lt-ltb, spelling, slot_count, Insn, DecodesSpelling, fetched, insn_at, AreInsns, SpelledStands, IsCodeAt, spellings}
use Rattle.bpf_machine.specs.Decoding.{slot_count as code_slots}
use Rattle.expression_code.proofs.Pieces.{length-spelling, some_slots, stands_cons}

fetched-inside : (code : List ℕ) (p : ℕ) → p < code_slots code → fetched code (pos p) ≡ Some (insn_at code p)
fetched-inside code p inside = rw (lt-ltb p (code_slots code) inside) refl

rest_drop : (i : Insn) (code rest : List ℕ) (p : ℕ) → drop (8 * p) code ≡ spelling i ++ rest → drop (8 * (p + slot_count i)) code ≡ rest
rest_drop i code rest p e =
    let long = length-spelling i in
    let place : 8 * (p + slot_count i) ≡ 8 * p + length (spelling i) = omega arith in
    ap (λ (n : ℕ). drop n code) place ∙ sym (drop-drop (length (spelling i)) (8 * p) code) ∙ ap (drop (length (spelling i))) e ∙ drop-append_seam (spelling i) rest

module _ (law : DecodesSpelling) (code : List ℕ) (bytes : All (λ b. b < 256) code) where
  first_inside : (i : Insn) (rest : List ℕ) (p : ℕ) → drop (8 * p) code ≡ spelling i ++ rest → p < code_slots code
  first_inside i rest p e =
      omega (arith, length-spelling i, some_slots i, ap (λ (bs : List ℕ). length bs) e ∙ length-append (spelling i) rest, length-drop (8 * p) code)

  stands_at : (piece : List Insn) (p : ℕ) (after : List ℕ) → drop (8 * p) code ≡ spellings piece ++ after → AreInsns piece → IsCodeAt code p piece
  stands_at [] p after e insns = record { here = λ k i h. absurd (cc) }
  stands_at (i ∷ is) p after e insns =
      let here : drop (8 * p) code ≡ spelling i ++ (spellings is ++ after) = e ∙ append_assoc (spelling i) (spellings is) after in
      let found : insn_at code p ≡ Some i = (law code bytes p i).1 insns.0 (spellings is ++ after, here) in
      stands_cons code p i is (fetched-inside code p (first_inside i (spellings is ++ after) p here) ∙ ap Some found) (stands_at is (p + slot_count i) after (rest_drop i code (spellings is ++ after) p here) insns.1)

pub spelled_stands : DecodesSpelling → SpelledStands
spelled_stands law before after piece p long bytes insns = grind (arith, stands_at, drop-append_seam)
