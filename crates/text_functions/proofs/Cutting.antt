-- Texts cut between code points.
use Rattle.text_functions.proofs.Prelude.{◌≡◌, ◌∙◌, ◌∷◌, ◌++◌, ◌<◌, ◌≤◌, ◌+◌, ◌-◌, ◌⊎◌, inl, inr, ℕ, zero, suc, true, ◌&&◌}
use Rattle.text_functions.proofs.Prelude.{and_parts, List, [], length, take, drop, refl, sym, ap, ap₂, arith, append_assoc, append-nil}
use Rattle.text_functions.proofs.Prelude.{length-append, drop_at, subst, append_cancel_right, IsCharBoundary, IsCharBoundary-at_seam}
use Rattle.text_functions.proofs.Prelude.{encode_utf8, encode_utf8_all, IsUtf8, all_scalars, scalar, chars, chars-encodes}
use Rattle.text_functions.proofs.Prelude.{chars_past_char, IsUtf8-past_char, encodes-append, encodes-chars, scalars-chars}
use Rattle.text_functions.proofs.Prelude.{IsLetterAndRest, IsCut}

-- n bytes come before the rest
cut_length : (front rest text : List ℕ) (n : ℕ) → text ≡ front ++ rest → n + length rest ≡ length text → length front ≡ n
cut_length front rest text n e h = omega (arith, h, ap length e, length-append front rest)

pub shorter : (front rest text : List ℕ) → text ≡ front ++ rest → length rest ≤ length text
shorter front rest text e = omega (arith, ap length e, length-append front rest)

pub seam : (text front rest : List ℕ) (n : ℕ) → IsUtf8 rest → text ≡ front ++ rest → n + length rest ≡ length text → IsCharBoundary text n
seam text front rest n utf8 e h = subst (IsCharBoundary text) (cut_length front rest text n e h) (IsCharBoundary-at_seam text front rest e utf8)

pub dropped : (text front rest : List ℕ) (n : ℕ) → text ≡ front ++ rest → n + length rest ≡ length text → drop n text ≡ rest
dropped text front rest n e h = ap (drop n) e ∙ drop_at front rest n (cut_length front rest text n e h)

-- a code point was taken off the front
pub end_of : (text before after rest : List ℕ) (code : ℕ) → before ≡ text → before ≡ encode_utf8 code ++ after → rest ≡ after → text ≡ encode_utf8 code ++ rest
end_of text before after rest code e h r = sym e ∙ h ∙ ap (λ xs. encode_utf8 code ++ xs) (sym r)

pub begins : (text letter back rest : List ℕ) (code : ℕ) → IsUtf8 text → text ≡ encode_utf8 code ++ rest → text ≡ letter ++ back → back ≡ rest → IsLetterAndRest text letter back
begins text letter back rest code utf8 e h b =
    let f : text ≡ encode_utf8 code ++ back = e ∙ ap (λ xs. encode_utf8 code ++ xs) (sym b) in
    record {
      code = code;
      spelled = append_cancel_right letter (encode_utf8 code) back (sym h ∙ f);
      parted = f;
      codes = chars_past_char text back code utf8 f;
      utf8 = IsUtf8-past_char text back code utf8 f;
    }

-- the code points passed on the way to the rest, from which `left` more are to be passed
pub record Passed (count : ℕ) (text rest : List ℕ) (left : ℕ) : Type 0 where
  pub passed : List ℕ
  pub parted : text ≡ encode_utf8_all passed ++ rest
  pub fronts : take count (chars text) ≡ passed ++ take left (chars rest)
  pub backs : drop count (chars text) ≡ drop left (chars rest)
  pub utf8 : IsUtf8 rest

pub none_passed : (count : ℕ) (text : List ℕ) → IsUtf8 text → Passed count text text count
none_passed count text utf8 = record { passed = []; parted = refl; fronts = refl; backs = refl; utf8 = utf8 }

pushed : (cs : List ℕ) (c : ℕ) → encode_utf8_all (cs ++ c ∷ []) ≡ encode_utf8_all cs ++ encode_utf8 c
pushed cs c = encodes-append cs (c ∷ []) ∙ ap (λ bs. encode_utf8_all cs ++ bs) (append-nil (encode_utf8 c))

one_more : (count : ℕ) (text rest letter after : List ℕ) (left : ℕ) → Passed count text rest (suc left) → IsLetterAndRest rest letter after → Passed count text after left
one_more count text rest letter after left p b = record {
  passed = p.passed ++ b.code ∷ [];
  parted =
      p.parted
      ∙ ap (λ bs. encode_utf8_all p.passed ++ bs) b.parted
      ∙ sym (append_assoc (encode_utf8_all p.passed) (encode_utf8 b.code) after)
      ∙ ap (λ bs. bs ++ after) (sym (pushed p.passed b.code));
  fronts =
      p.fronts
      ∙ ap (λ cs. p.passed ++ take (suc left) cs) b.codes
      ∙ sym (append_assoc p.passed (b.code ∷ []) (take left (chars after)));
  backs = p.backs ∙ ap (drop (suc left)) b.codes;
  utf8 = b.utf8;
}

pub more_passed : (count : ℕ) (text rest letter after : List ℕ) (left : ℕ) → Passed count text rest left → 0 < left → IsLetterAndRest rest letter after → Passed count text after (left - 1)
more_passed count text rest letter after zero p h b = let no : ⊥ = omega arith in absurd no
more_passed count text rest letter after (suc left) p h b =
    let e : suc left - 1 ≡ left = omega arith in
    let q : Passed count text after left = one_more count text rest letter after left p b in
    rw e q

pub no_rest : (rest : List ℕ) → length rest ≡ 0 → chars rest ≡ []
unfolding chars
no_rest [] e = refl
no_rest (b ∷ rest) e = let no : ⊥ = omega arith in absurd no

take_none : (left : ℕ) (cs : List ℕ) → cs ≡ [] → take left cs ≡ []
take_none zero cs e = refl
take_none (suc left) cs e = ap (take (suc left)) e

drop_none : (left : ℕ) (cs : List ℕ) → cs ≡ [] → drop left cs ≡ []
drop_none zero cs e = e
drop_none (suc left) cs e = ap (drop (suc left)) e

end_front : (rest : List ℕ) (left : ℕ) → (left ≡ 0) ⊎ (length rest ≡ 0) → take left (chars rest) ≡ []
end_front rest left (inl e) = ap (λ n. take n (chars rest)) e
end_front rest left (inr e) = take_none left (chars rest) (no_rest rest e)

end_back : (rest : List ℕ) (left : ℕ) → (left ≡ 0) ⊎ (length rest ≡ 0) → drop left (chars rest) ≡ chars rest
end_back rest left (inl e) = ap (λ n. drop n (chars rest)) e
end_back rest left (inr e) = drop_none left (chars rest) (no_rest rest e) ∙ sym (no_rest rest e)

scalars_front : (n : ℕ) (cs : List ℕ) → all_scalars cs ≡ true → all_scalars (take n cs) ≡ true
scalars_front zero cs h = refl
scalars_front (suc n) [] h = refl
scalars_front (suc n) (c ∷ cs) h =
    let p : (scalar c ≡ true) × (all_scalars cs ≡ true) = and_parts (scalar c) (all_scalars cs) h in
    ap₂ (λ a b. a && b) p.0 (scalars_front n cs p.1)

pub all_passed : (count : ℕ) (text rest : List ℕ) (left : ℕ) → IsUtf8 text → Passed count text rest left → (left ≡ 0) ⊎ (length rest ≡ 0)
    → (front back : List ℕ) → text ≡ front ++ back → back ≡ rest → IsCut count text front back
all_passed count text rest left utf8 p end front back h b =
    let passed : take count (chars text) ≡ p.passed = p.fronts ∙ ap (λ cs. p.passed ++ cs) (end_front rest left end) ∙ append-nil p.passed in
    let f : front ≡ encode_utf8_all p.passed = append_cancel_right front (encode_utf8_all p.passed) back (sym h ∙ p.parted ∙ ap (λ xs. encode_utf8_all p.passed ++ xs) (sym b)) in
    let kept : drop count (chars text) ≡ chars rest = p.backs ∙ end_back rest left end in
    let front_is : front ≡ encode_utf8_all (take count (chars text)) = f ∙ ap encode_utf8_all (sym passed) in
    record {
      front_is = front_is;
      front_codes = ap chars front_is ∙ chars-encodes (take count (chars text)) (scalars_front count (chars text) (scalars-chars text utf8));
      back_is = b ∙ sym (encodes-chars rest p.utf8) ∙ ap encode_utf8_all (sym kept);
      back_codes = ap chars b ∙ sym kept;
    }
