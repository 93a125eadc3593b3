-- The error positions of the reader's runs.
use Rattle.cel_reader.proofs.Prelude.{◌≡◌, ℕ, suc, ◌+◌, ◌-◌, ◌<◌, List, [], ◌∷◌, ◌++◌, pos, map, length, take, Err, true, false, refl, sym, ◌∙◌, ap, subst, arith, append_assoc, length-append, drop-map, take-append_seam, take-append-add, Word, token_view, int, CodeToken, UnexpectedToken, Tree, words, opens, Expression, One, Derives, Misfit, Deep, Got, Refused, Row, go, StepReads, place_left, refused_at, place_at, IsViablePrefix, UnexpectedAt, DeepAt, StandsAt, ParseErrorIsAt, Refusal, open_limit}
use Rattle.cel_reader.specs.declared.refusal.Refusal.TheVariants as refusal
use Rattle.cel_reader.proofs.Steps.{words_length}
use Rattle.cel_reader.specs.Reading.{PhraseFails}
use Rattle.cel_reader.proofs.Alike.{Alike, same, down}
use Rattle.cel_reader.proofs.Local.{local}
use Rattle.cel_reader.proofs.Loose.{loosely, carried}
use Rattle.cel_reader.proofs.Sound.{sound}
use Rattle.cel_reader.proofs.Completed.{Finishes, Opening, ended, nil, nought_whole}
use Rattle.cel_reader.proofs.Theorems.{misfit_never, rest_never, deep_never}

-- the common beginning of both
front_of : {x y ws us : List Word} → Alike x y ws us → (front : List Word) × (ws ≡ front ++ x) × (us ≡ front ++ y)
front_of same = ([], refl, refl)
front_of (down {w = w} a) = let t = front_of a in (w ∷ t.0, ap (λ (z : List Word). w ∷ z) t.1, ap (λ (z : List Word). w ∷ z) t.2)

parts : (front rest ws : List Word) → ws ≡ front ++ rest → length ws ≡ length front + length rest
parts front rest ws e = ap length e ∙ length-append front rest

-- the first n words are the front
front_is : (n : ℕ) (front rest ws : List Word) → ws ≡ front ++ rest → n ≡ length front → take n ws ≡ front
front_is n front rest ws e f = ap (λ (k : ℕ). take k ws) f ∙ ap (take (length front)) e ∙ take-append_seam front rest

-- the first n + 1 words are the front and one more
front_next : (n : ℕ) (w : Word) (front rest ws : List Word) → ws ≡ front ++ w ∷ rest → n ≡ length front → take (suc n) ws ≡ front ++ w ∷ []
front_next n w front rest ws e f =
    let g : suc n ≡ length front + 1 = omega (arith, f) in
    ap (λ (k : ℕ). take k ws) g ∙ ap (take (length front + 1)) e ∙ take-append-add front (w ∷ rest) 1

-- the front is determined by the words after it
one_front : (front other rest ws : List Word) → ws ≡ front ++ rest → ws ≡ other ++ rest → front ≡ other
one_front front other rest ws e f =
    let g : length front ≡ length other = omega (arith, parts front rest ws e, parts other rest ws f) in
    sym (front_is (length front) front rest ws e refl) ∙ front_is (length front) other rest ws f g

before : {x y ws us : List Word} (front : List Word) → ws ≡ front ++ x → Alike x y ws us → us ≡ front ++ y
before {x} {y} {ws} {us} front e a =
    let t = front_of a in
    t.2 ∙ ap (λ (z : List Word). z ++ y) (one_front t.0 front x ws t.1 e)

derived : (room : ℕ) (ws us : List Word) (a : Tree) → ws ≡ us → Derives Expression room ws (One a) [] → Derives Expression room us (One a) []
derived room ws us a e d = subst (λ (x : List Word). Derives Expression room x (One a) []) e d

viable_as : (room : ℕ) (ws us : List Word) → ws ≡ us → IsViablePrefix room us → IsViablePrefix room ws
viable_as room ws us e v = subst (λ (x : List Word). IsViablePrefix room x) (sym e) v

-- the words before those left can be extended to an expression
goes_on : (room : ℕ) (ws rest : List Word) → Finishes (go (Row Expression)) room ws rest → (front : List Word) × (ws ≡ front ++ rest) × IsViablePrefix room front
goes_on room ws rest f = let t = front_of f.3 in (t.0, t.1, (f.1, f.2, derived room f.0 (t.0 ++ f.1) f.2 t.2 (sound f.4)))

-- the bracket or question mark before the words left
opening : (room : ℕ) (ws rest : List Word) → Opening false (go (Row Expression)) room ws rest
    → (w : Word) × (opens w ≡ true) × Finishes (go (Row Expression)) room ws (w ∷ rest)
opening room ws rest h = grind arith

counted : (front rest ws : List Word) → ws ≡ front ++ rest → length ws - length rest ≡ length front
counted front rest ws e = omega (arith, parts front rest ws e)

misfit_next : (front rest ws : List Word) → ws ≡ front ++ rest → StepReads (Row Expression) open_limit ws (Refused (Misfit rest)) → length front < length ws
    → (room : ℕ) → IsViablePrefix room (take (suc (length front)) ws) → ⊥
misfit_next front [] ws e r h room v = absurd (omega (arith, h, parts front [] ws e))
misfit_next front (w ∷ us) ws e r h room v =
    let d = subst (λ (x : List Word). Derives Expression room (x ++ v.0) (One v.1) []) (front_next (length front) w front us ws e refl) v.2 in
    let t = local r (w ∷ v.0) refl in
    misfit_never open_limit room t.0 (w ∷ v.0) v.1 t.3 (derived room ((front ++ w ∷ []) ++ v.0) t.0 v.1 (append_assoc front (w ∷ []) v.0 ∙ sym (before front e t.1)) d)

pub misfit_at : (ws rest : List Word) → StepReads (Row Expression) open_limit ws (Refused (Misfit rest)) → UnexpectedAt (length ws - length rest) ws
misfit_at ws rest r =
    let t = goes_on open_limit ws rest (ended r) in
    let m : UnexpectedAt (length t.0) ws = (omega (arith, parts t.0 rest ws t.1), viable_as open_limit (take (length t.0) ws) t.0 (front_is (length t.0) t.0 rest ws t.1 refl) t.2, misfit_next t.0 rest ws t.1 r) in
    subst (λ (n : ℕ). UnexpectedAt n ws) (sym (counted t.0 rest ws t.1)) m

rest_next : (front us ws : List Word) (w : Word) (a : Tree) → ws ≡ front ++ w ∷ us → StepReads (Row Expression) open_limit ws (Got (One a) (w ∷ us))
    → length front < length ws → (room : ℕ) → IsViablePrefix room (take (suc (length front)) ws) → ⊥
rest_next front us ws w a e r h room v =
    let d = subst (λ (x : List Word). Derives Expression room (x ++ v.0) (One v.1) []) (front_next (length front) w front us ws e refl) v.2 in
    let t = local r (w ∷ v.0) refl in
    rest_never open_limit room t.0 v.0 w a v.1 t.3 (derived room ((front ++ w ∷ []) ++ v.0) t.0 v.1 (append_assoc front (w ∷ []) v.0 ∙ sym (before front e t.1)) d)

pub rest_at : (ws us : List Word) (w : Word) (a : Tree) → StepReads (Row Expression) open_limit ws (Got (One a) (w ∷ us)) → UnexpectedAt (length ws - suc (length us)) ws
rest_at ws us w a r =
    let d = carried (loosely r) [] in
    let t = front_of d.1 in
    let m : UnexpectedAt (length t.0) ws = (omega (arith, parts t.0 (w ∷ us) ws t.1), viable_as open_limit (take (length t.0) ws) t.0 (front_is (length t.0) t.0 (w ∷ us) ws t.1 refl) ([], a, derived open_limit d.0 (t.0 ++ []) a t.2 (sound d.2)), rest_next t.0 us ws w a t.1 r) in
    subst (λ (n : ℕ). UnexpectedAt n ws) (sym (counted t.0 (w ∷ us) ws t.1)) m

pub none_at : (ws : List Word) → ws ≡ [] → UnexpectedAt (length ws - length ws) ws
none_at [] e = (omega arith, (int (pos 0) ∷ [], nil, sound (nought_whole open_limit [])), λ h. absurd (omega (arith, h)))
none_at (w ∷ ws) e = absurd cc

deep_next : (front ws rest : List Word) → ws ≡ front ++ rest → StepReads (Row Expression) open_limit ws (Refused (Deep rest)) → IsViablePrefix open_limit front → ⊥
deep_next front ws rest e r v =
    let t = local r v.0 tt in
    deep_never open_limit t.0 v.0 v.1 t.3 (derived open_limit (front ++ v.0) t.0 v.1 (sym (before front e t.1)) v.2)

pub deep_at : (ws rest : List Word) → StepReads (Row Expression) open_limit ws (Refused (Deep rest)) → DeepAt (length ws - suc (length rest)) ws
deep_at ws rest r =
    let t = goes_on (suc open_limit) ws rest (ended r).0 in
    let x = opening open_limit ws rest (ended r).1 in
    let u = goes_on open_limit ws (x.0 ∷ rest) x.2 in
    let n = counted u.0 (x.0 ∷ rest) ws u.1 in
    let k : suc (length ws - suc (length rest)) ≡ length t.0 = omega (arith, parts t.0 rest ws t.1, parts u.0 (x.0 ∷ rest) ws u.1) in
    let f = front_is (suc (length ws - suc (length rest))) t.0 rest ws t.1 k in
    let g = front_is (length ws - suc (length rest)) u.0 (x.0 ∷ rest) ws u.1 n in
    let h = front_next (length ws - suc (length rest)) x.0 u.0 rest ws u.1 n in
    (x.0, h ∙ ap (λ (y : List Word). y ++ x.0 ∷ []) (sym g), x.1, viable_as open_limit (take (length ws - suc (length rest)) ws) u.0 g u.2, λ v. deep_next t.0 ws rest t.1 r (viable_as open_limit t.0 (take (suc (length ws - suc (length rest))) ws) (sym f) v), viable_as (suc open_limit) (take (suc (length ws - suc (length rest))) ws) t.0 f t.2)

stands : (source : List ℕ) (tokens : List CodeToken) (left : ℕ) (P : ℕ → List Word → Type 0) → P (length tokens - left) (words source tokens)
    → StandsAt (length source) (map (token_view source) tokens) (place_left (length source) tokens left) P
stands source tokens left P p = (length tokens - left, (grind arith) ∙ ap (place_at (length source)) (sym (drop-map (token_view source) (length tokens - left) tokens)), p)

same_count : (source : List ℕ) (tokens : List CodeToken) (left n : ℕ) → left ≡ n → length (words source tokens) - n ≡ length tokens - left
same_count source tokens left n e = omega (arith, e, words_length source tokens)

moved : (P : ℕ → List Word → Type 0) (source : List ℕ) (tokens : List CodeToken) (left n : ℕ) → left ≡ n → P (length (words source tokens) - n) (words source tokens) → StandsAt (length source) (map (token_view source) tokens) (place_left (length source) tokens left) P
moved P source tokens left n e p = stands source tokens left P (subst (λ (k : ℕ). P k (words source tokens)) (same_count source tokens left n e) p)

-- the reading is refused
pub placed_fails : (source : List ℕ) (tokens : List CodeToken) (e : Refusal) → PhraseFails e (StepReads (Row Expression) open_limit (words source tokens))
    → ParseErrorIsAt (length source) (map (token_view source) tokens) (Err (refused_at (length source) tokens e))
placed_fails source tokens (refusal.Misfit left) g = moved UnexpectedAt source tokens left (length g.0) g.1 (misfit_at (words source tokens) g.0 g.2)
placed_fails source tokens (refusal.Deep left) g = moved DeepAt source tokens left (suc (length g.0)) g.1 (deep_at (words source tokens) g.0 g.2)
placed_fails source tokens refusal.Memory g = tt

-- the reading leaves words
pub placed_rest : (source : List ℕ) (tokens rest : List CodeToken) (us : List Word) (w : Word) (a : Tree) → StepReads (Row Expression) open_limit (words source tokens) (Got (One a) (words source rest)) → words source rest ≡ w ∷ us → ParseErrorIsAt (length source) (map (token_view source) tokens) (Err (UnexpectedToken (place_left (length source) tokens (length rest))))
placed_rest source tokens rest us w a r e =
    let n : length rest ≡ suc (length us) = words_length source rest ∙ ap length e in
    moved UnexpectedAt source tokens (length rest) (suc (length us)) n (rest_at (words source tokens) us w a (subst (λ (x : List Word). StepReads (Row Expression) open_limit (words source tokens) (Got (One a) x)) e r))

-- there are no words
pub placed_none : (source : List ℕ) (tokens : List CodeToken) → words source tokens ≡ []
    → ParseErrorIsAt (length source) (map (token_view source) tokens) (Err (UnexpectedToken (place_left (length source) tokens (length tokens))))
placed_none source tokens e = moved UnexpectedAt source tokens (length tokens) (length (words source tokens)) (words_length source tokens) (none_at (words source tokens) e)
