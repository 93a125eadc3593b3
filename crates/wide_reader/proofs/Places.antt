-- The error positions of the reader's runs.
use Rattle.wide_reader.proofs.Prelude.{◌≡◌, ℕ, suc, ◌+◌, ◌-◌, ◌<◌, ◌≤◌, List, [], ◌∷◌, ◌++◌, pos, length, take, drop, true, false, refl, sym, ◌∙◌, ap, subst, arith, append_assoc, length-append, length-take-le, take-append_seam, take-append-add, take-append-drop, take-append-le, WideWord, int, Wide, opens, Expression, One, WideDerives, Misfit, Deep, Got, Refused, Row, go, WideStepReads, WideIsViablePrefix, open_limit}
use Rattle.wide_reader.proofs.Alike.{Alike, same, down}
use Rattle.wide_reader.proofs.Local.{local}
use Rattle.wide_reader.proofs.Loose.{loosely, carried}
use Rattle.wide_reader.proofs.Sound.{sound}
use Rattle.wide_reader.proofs.Completed.{Finishes, Opening, ended, nil, nought_whole}
use Rattle.wide_reader.proofs.Theorems.{misfit_never, rest_never, deep_never}

-- the first words can be extended to an expression, but not with the next one
abbrev pub MisfitAt : ℕ → List WideWord → Type 0
MisfitAt count ws =
    (count ≤ length ws) × WideIsViablePrefix open_limit (take count ws) × (count < length ws → (room : ℕ) → WideIsViablePrefix room (take (suc count) ws) → ⊥)

-- the first words can be extended to an expression, but with the next bracket only if more may be open
abbrev pub OpenedAt : ℕ → List WideWord → Type 0
OpenedAt count ws =
    (w : WideWord) × (take (suc count) ws ≡ take count ws ++ w ∷ []) × (opens w ≡ true) × WideIsViablePrefix open_limit (take count ws)
    × (WideIsViablePrefix open_limit (take (suc count) ws) → ⊥) × WideIsViablePrefix (suc open_limit) (take (suc count) ws)

-- the common beginning of both
front_of : {x y ws us : List WideWord} → Alike x y ws us → (front : List WideWord) × (ws ≡ front ++ x) × (us ≡ front ++ y)
front_of same = ([], refl, refl)
front_of (down {w = w} a) = let t = front_of a in (w ∷ t.0, ap (λ (z : List WideWord). w ∷ z) t.1, ap (λ (z : List WideWord). w ∷ z) t.2)

parts : (front rest ws : List WideWord) → ws ≡ front ++ rest → length ws ≡ length front + length rest
parts front rest ws e = ap length e ∙ length-append front rest

-- the first n words are the front
front_is : (n : ℕ) (front rest ws : List WideWord) → ws ≡ front ++ rest → n ≡ length front → take n ws ≡ front
front_is n front rest ws e f = ap (λ (k : ℕ). take k ws) f ∙ ap (take (length front)) e ∙ take-append_seam front rest

-- the first n + 1 words are the front and one more
front_next : (n : ℕ) (w : WideWord) (front rest ws : List WideWord) → ws ≡ front ++ w ∷ rest → n ≡ length front → take (suc n) ws ≡ front ++ w ∷ []
front_next n w front rest ws e f =
    let g : suc n ≡ length front + 1 = omega (arith, f) in
    ap (λ (k : ℕ). take k ws) g ∙ ap (take (length front + 1)) e ∙ take-append-add front (w ∷ rest) 1

-- the front is determined by the words after it
one_front : (front other rest ws : List WideWord) → ws ≡ front ++ rest → ws ≡ other ++ rest → front ≡ other
one_front front other rest ws e f =
    let g : length front ≡ length other = omega (arith, parts front rest ws e, parts other rest ws f) in
    sym (front_is (length front) front rest ws e refl) ∙ front_is (length front) other rest ws f g

before : {x y ws us : List WideWord} (front : List WideWord) → ws ≡ front ++ x → Alike x y ws us → us ≡ front ++ y
before {x} {y} {ws} {us} front e a =
    let t = front_of a in
    t.2 ∙ ap (λ (z : List WideWord). z ++ y) (one_front t.0 front x ws t.1 e)

derived : (room : ℕ) (ws us : List WideWord) (a : Wide) → ws ≡ us → WideDerives Expression room ws (One a) [] → WideDerives Expression room us (One a) []
derived room ws us a e d = subst (λ (x : List WideWord). WideDerives Expression room x (One a) []) e d

viable_as : (room : ℕ) (ws us : List WideWord) → ws ≡ us → WideIsViablePrefix room us → WideIsViablePrefix room ws
viable_as room ws us e v = subst (λ (x : List WideWord). WideIsViablePrefix room x) (sym e) v

-- the words before those left can be extended to an expression
goes_on : (room : ℕ) (ws rest : List WideWord) → Finishes (go (Row Expression)) room ws rest → (front : List WideWord) × (ws ≡ front ++ rest) × WideIsViablePrefix room front
goes_on room ws rest f = let t = front_of f.3 in (t.0, t.1, (f.1, f.2, derived room f.0 (t.0 ++ f.1) f.2 t.2 (sound f.4)))

-- the bracket or question mark before the words left
opening : (room : ℕ) (ws rest : List WideWord) → Opening false (go (Row Expression)) room ws rest
    → (w : WideWord) × (opens w ≡ true) × Finishes (go (Row Expression)) room ws (w ∷ rest)
opening room ws rest h = grind arith

counted : (front rest ws : List WideWord) → ws ≡ front ++ rest → length ws - length rest ≡ length front
counted front rest ws e = omega (arith, parts front rest ws e)

misfit_next : (front rest ws : List WideWord) → ws ≡ front ++ rest → WideStepReads (Row Expression) open_limit ws (Refused (Misfit rest)) → length front < length ws
    → (room : ℕ) → WideIsViablePrefix room (take (suc (length front)) ws) → ⊥
misfit_next front [] ws e r h room v = absurd (omega (arith, h, parts front [] ws e))
misfit_next front (w ∷ us) ws e r h room v =
    let d = subst (λ (x : List WideWord). WideDerives Expression room (x ++ v.0) (One v.1) []) (front_next (length front) w front us ws e refl) v.2 in
    let t = local r (w ∷ v.0) refl in
    misfit_never open_limit room t.0 (w ∷ v.0) v.1 t.3 (derived room ((front ++ w ∷ []) ++ v.0) t.0 v.1 (append_assoc front (w ∷ []) v.0 ∙ sym (before front e t.1)) d)

pub misfit_at : (ws rest : List WideWord) → WideStepReads (Row Expression) open_limit ws (Refused (Misfit rest)) → MisfitAt (length ws - length rest) ws
misfit_at ws rest r =
    let t = goes_on open_limit ws rest (ended r) in
    let m : MisfitAt (length t.0) ws = (omega (arith, parts t.0 rest ws t.1), viable_as open_limit (take (length t.0) ws) t.0 (front_is (length t.0) t.0 rest ws t.1 refl) t.2, misfit_next t.0 rest ws t.1 r) in
    subst (λ (n : ℕ). MisfitAt n ws) (sym (counted t.0 rest ws t.1)) m

rest_next : (front us ws : List WideWord) (w : WideWord) (a : Wide) → ws ≡ front ++ w ∷ us → WideStepReads (Row Expression) open_limit ws (Got (One a) (w ∷ us))
    → length front < length ws → (room : ℕ) → WideIsViablePrefix room (take (suc (length front)) ws) → ⊥
rest_next front us ws w a e r h room v =
    let d = subst (λ (x : List WideWord). WideDerives Expression room (x ++ v.0) (One v.1) []) (front_next (length front) w front us ws e refl) v.2 in
    let t = local r (w ∷ v.0) refl in
    rest_never open_limit room t.0 v.0 w a v.1 t.3 (derived room ((front ++ w ∷ []) ++ v.0) t.0 v.1 (append_assoc front (w ∷ []) v.0 ∙ sym (before front e t.1)) d)

pub rest_at : (ws us : List WideWord) (w : WideWord) (a : Wide) → WideStepReads (Row Expression) open_limit ws (Got (One a) (w ∷ us)) → MisfitAt (length ws - suc (length us)) ws
rest_at ws us w a r =
    let d = carried (loosely r) [] in
    let t = front_of d.1 in
    let m : MisfitAt (length t.0) ws = (omega (arith, parts t.0 (w ∷ us) ws t.1), viable_as open_limit (take (length t.0) ws) t.0 (front_is (length t.0) t.0 (w ∷ us) ws t.1 refl) ([], a, derived open_limit d.0 (t.0 ++ []) a t.2 (sound d.2)), rest_next t.0 us ws w a t.1 r) in
    subst (λ (n : ℕ). MisfitAt n ws) (sym (counted t.0 (w ∷ us) ws t.1)) m

pub none_at : (ws : List WideWord) → ws ≡ [] → MisfitAt (length ws - length ws) ws
none_at [] e = (omega arith, (int (pos 0) ∷ [], nil, sound (nought_whole open_limit [])), λ h. absurd (omega (arith, h)))
none_at (w ∷ ws) e = absurd cc

deep_next : (front ws rest : List WideWord) → ws ≡ front ++ rest → WideStepReads (Row Expression) open_limit ws (Refused (Deep rest)) → WideIsViablePrefix open_limit front → ⊥
deep_next front ws rest e r v =
    let t = local r v.0 tt in
    deep_never open_limit t.0 v.0 v.1 t.3 (derived open_limit (front ++ v.0) t.0 v.1 (sym (before front e t.1)) v.2)

pub deep_at : (ws rest : List WideWord) → WideStepReads (Row Expression) open_limit ws (Refused (Deep rest)) → OpenedAt (length ws - suc (length rest)) ws
deep_at ws rest r =
    let t = goes_on (suc open_limit) ws rest (ended r).0 in
    let x = opening open_limit ws rest (ended r).1 in
    let u = goes_on open_limit ws (x.0 ∷ rest) x.2 in
    let n = counted u.0 (x.0 ∷ rest) ws u.1 in
    let k : suc (length ws - suc (length rest)) ≡ length t.0 = omega (arith, parts t.0 rest ws t.1, parts u.0 (x.0 ∷ rest) ws u.1) in
    let f = front_is (suc (length ws - suc (length rest))) t.0 rest ws t.1 k in
    let g = front_is (length ws - suc (length rest)) u.0 (x.0 ∷ rest) ws u.1 n in
    let h = front_next (length ws - suc (length rest)) x.0 u.0 rest ws u.1 n in
    (x.0, h ∙ ap (λ (y : List WideWord). y ++ x.0 ∷ []) (sym g), x.1, viable_as open_limit (take (length ws - suc (length rest)) ws) u.0 g u.2, λ v. deep_next t.0 ws rest t.1 r (viable_as open_limit t.0 (take (suc (length ws - suc (length rest))) ws) (sym f) v), viable_as (suc open_limit) (take (suc (length ws - suc (length rest))) ws) t.0 f t.2)

-- a shorter prefix of words that can be extended to an expression can be too
pub fewer : (room few many : ℕ) (ws : List WideWord) → few ≤ many → many ≤ length ws → WideIsViablePrefix room (take many ws) → WideIsViablePrefix room (take few ws)
fewer room few many ws h within v =
    let rest = drop few (take many ws) in
    let front : take few (take many ws) ≡ take few ws = sym (take-append-le few (take many ws) (drop many ws) (omega (arith, h, length-take-le many ws within))) ∙ ap (take few) (take-append-drop many ws) in
    let both : take many ws ≡ take few ws ++ rest = sym (take-append-drop few (take many ws)) ∙ ap (λ (x : List WideWord). x ++ rest) front in
    let all : take many ws ++ v.0 ≡ take few ws ++ (rest ++ v.0) = ap (λ (x : List WideWord). x ++ v.0) both ∙ append_assoc (take few ws) rest v.0 in
    (rest ++ v.0, v.1, subst (λ (x : List WideWord). WideDerives Expression room x (One v.1) []) all v.2)
