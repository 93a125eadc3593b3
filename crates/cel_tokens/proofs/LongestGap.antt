-- The computed gap is the longest run of blanks and comments.
use Rattle.cel_tokens.proofs.Prelude.{◌≡◌, ℕ, suc, ◌+◌, ◌≤◌, List, [], ◌∷◌, ◌++◌, length, drop, refl, sym, ◌∙◌, ap, subst, arith, Bool, true, false, not, nat_tests, length-append, between, stays_in_comment, is_blank, is_line_end, opens_comment, AllPass, Skips, IsLineOver, IsGap, none, blank, comment}
use Rattle.cel_tokens.proofs.Runs.{between_on, between_off}

-- ---- the bytes of a run

nothing : (c : Bool) → between c [] ≡ 0
unfolding between
nothing c = refl

at_blank : (b : ℕ) (bs : List ℕ) → is_blank b ≡ true → between false (b ∷ bs) ≡ between false bs + 1
at_blank b bs h = between_on false b bs (rw h refl) ∙ (rw h refl)

inside_line : (b : ℕ) (bs : List ℕ) → is_line_end b ≡ false → between true (b ∷ bs) ≡ between true bs + 1
inside_line b bs h = between_on true b bs refl ∙ (rw h refl)

at_line_end : (b : ℕ) (bs : List ℕ) → is_line_end b ≡ true → between true (b ∷ bs) ≡ between false bs + 1
at_line_end b bs h = between_on true b bs refl ∙ (rw h refl)

-- ---- no run is longer

line_over : (after : List ℕ) → IsLineOver after → between true after ≡ between false after
line_over after h = grind (arith, nothing, at_line_end, at_blank, nat_tests)

through_line : (inside after : List ℕ) → AllPass (λ b. not (is_line_end b)) inside → IsLineOver after → between true (inside ++ after) ≡ length inside + between false after
through_line [] after a h = let e = line_over after h in omega (arith, e)
through_line (b ∷ bs) after a h = grind (arith, inside_line, through_line bs after a.1 h)

-- the longest run continues after a shorter one
pub goes_on : {bytes rest : List ℕ} → Skips bytes rest → between false bytes + length rest ≡ between false rest + length bytes
goes_on none = refl
goes_on (blank {b = b} {bs = bs} h s) = grind (arith, at_blank, goes_on s)
goes_on (comment inside after a h s) = grind (arith, between_on, through_line, length-append, goes_on s)

none_longer : {bytes rest : List ℕ} → Skips bytes rest → length bytes ≤ between false bytes + length rest
none_longer s = let e = goes_on s in omega (arith, e)

-- ---- the computed gap is a run

pub within : (c : Bool) (bytes : List ℕ) → between c bytes ≤ length bytes
unfolding between
within c [] = omega arith
within c (b ∷ bs) = grind (arith, within (stays_in_comment c b) bs)

-- the rest of a comment's line, and the run after it
abbrev InComment : List ℕ → List ℕ → Type 0
InComment bytes rest =
    (inside : List ℕ) × (after : List ℕ) × (bytes ≡ inside ++ after) × AllPass (λ b. not (is_line_end b)) inside × IsLineOver after × Skips after rest

-- a run, or one that begins in a comment
abbrev Stretch : Bool → List ℕ → List ℕ → Type 0
Stretch true bytes rest = InComment bytes rest
Stretch false bytes rest = Skips bytes rest

abbrev behind : Bool → List ℕ → List ℕ
behind c bytes = drop (between c bytes) bytes

behind_more : (c d : Bool) (b : ℕ) (bs : List ℕ) → between c (b ∷ bs) ≡ between d bs + 1 → behind c (b ∷ bs) ≡ behind d bs
behind_more c d b bs e = let q : between d bs + 1 ≡ suc (between d bs) = omega arith in ap (λ n. drop n (b ∷ bs)) (e ∙ q)

behind_slashes : (bs : List ℕ) → behind false (47 ∷ 47 ∷ bs) ≡ behind true bs
behind_slashes bs =
    let q : between true bs + 2 ≡ suc (suc (between true bs)) = omega arith in
    ap (λ n. drop n (47 ∷ 47 ∷ bs)) ((grind (arith, between_on)) ∙ q)

in_line : (b : ℕ) (bs : List ℕ) → InComment bs (behind true bs) → (t : Bool) → is_line_end b ≡ t → Skips bs (behind false bs) → InComment (b ∷ bs) (behind true (b ∷ bs))
in_line b bs i true t s =
    subst (InComment (b ∷ bs)) (sym (behind_more true false b bs (at_line_end b bs t))) ([], b ∷ bs, refl, tt, t, blank (grind (arith, nat_tests)) s)
in_line b bs i false t s =
    subst (InComment (b ∷ bs)) (sym (behind_more true true b bs (inside_line b bs t))) (b ∷ i.0, i.1, ap (λ (xs : List ℕ). b ∷ xs) i.2, (rw t refl, i.3), i.4, i.5)

in_comment : (bs : List ℕ) → InComment bs (behind true bs) → Skips (47 ∷ 47 ∷ bs) (behind false (47 ∷ 47 ∷ bs))
in_comment bs i =
    subst (Skips (47 ∷ 47 ∷ bs)) (sym (behind_slashes bs)) (subst (λ (xs : List ℕ). Skips (47 ∷ 47 ∷ xs) (behind true bs)) (sym i.2) (comment i.0 i.1 i.3 i.4 i.5))

over_here : (b : ℕ) (bs : List ℕ) → is_blank b ≡ false → opens_comment (b ∷ bs) ≡ false → Skips (b ∷ bs) (behind false (b ∷ bs))
over_here b bs k o =
    let e : between false (b ∷ bs) ≡ 0 = between_off false b bs (rw (k, o) refl) in
    subst (Skips (b ∷ bs)) (sym (ap (λ n. drop n (b ∷ bs)) e)) none

-- the comment's rest after one of these bytes, if there is one
abbrev AfterOne : List ℕ → Type 0
AfterOne [] = Unit {0}
AfterOne (c ∷ cs) = InComment cs (behind true cs)

-- a byte that is not a blank
no_blank : (b : ℕ) (bs : List ℕ) → AfterOne bs → is_blank b ≡ false → (t : Bool) → opens_comment (b ∷ bs) ≡ t → Skips (b ∷ bs) (behind false (b ∷ bs))
no_blank b bs i k false t = over_here b bs k t
no_blank b [] i k true t = absurd cc
no_blank b (c ∷ cs) i k true t = grind (arith, nat_tests, in_comment)

outside : (b : ℕ) (bs : List ℕ) → Skips bs (behind false bs) → AfterOne bs → (t : Bool) → is_blank b ≡ t → Skips (b ∷ bs) (behind false (b ∷ bs))
outside b bs s i true t = subst (Skips (b ∷ bs)) (sym (behind_more false false b bs (at_blank b bs t))) (blank t s)
outside b bs s i false t = no_blank b bs i t (opens_comment (b ∷ bs)) refl

stretch : (c : Bool) (bytes : List ℕ) → Stretch c bytes (behind c bytes)
stretch true [] = ([], [], refl, tt, tt, subst (Skips []) (sym (ap (λ n. drop n []) (nothing true))) none)
stretch false [] = subst (Skips []) (sym (ap (λ n. drop n []) (nothing false))) none
stretch true (b ∷ bs) = in_line b bs (stretch true bs) (is_line_end b) refl (stretch false bs)
stretch false (b ∷ []) = outside b [] (stretch false []) tt (is_blank b) refl
stretch false (b ∷ c ∷ cs) = outside b (c ∷ cs) (stretch false (c ∷ cs)) (stretch true cs) (is_blank b) refl

pub is_longest_gap : (bytes : List ℕ) → IsGap bytes (between false bytes)
is_longest_gap bytes = (within false bytes, stretch false bytes, λ rest s. none_longer s)
