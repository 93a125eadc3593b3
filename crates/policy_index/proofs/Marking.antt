-- An index in the making: its answers are those of a list of match resources for some of them, and those for `*` for the rest.
use Rattle.policy_index.proofs.Prelude.{◌≡◌, ◌∙◌, ◌||◌, ◌<◌, ◌≤◌, ◌+◌, ◌++◌, ◌∷◌, ℕ, Bool, true, false, List, [], Option, None, Some, Vec, Global, ap, append_assoc, append-nil, cond, drop, drop_all, drop_more, get_or, has, length, length-take-le, list_any, le_of_lt, map, map-append, length-map, marked, may_match, option_map, refl, set, set-append_seam, set-set, sym, take, take_all, take_more, unwrap_or, Bor, CodeMatchResources, BTreeMap, IsEmpty, String, answers, bytes_eq, bytes_eq-Decides, candidates, codes, match_view, views}
use Rattle.policy_index.proofs.Named.{may_match_or}

-- ---- one row

twice : (row : List Bool) (place : ℕ) (b c : Bool) → marked (marked row place b) place c ≡ marked row place (b || c)
twice row place true true = set-set row place true true
twice row place true false = refl
twice row place false c = refl

pub marked_twice : (place : ℕ) (b c : Bool) (before between after : List Bool)
    → between ≡ marked before place b → after ≡ marked between place c → after ≡ marked before place (b || c)
marked_twice place b c before between after e f = f ∙ ap (λ row. marked row place c) e ∙ twice before place b c

pub marked_more : {A : Type 0} (place : ℕ) (f : A → Bool) (all : List A) (i : ℕ) (a : A) (before after whole : List Bool)
    → i < length all → a ≡ get_or all i a
    → marked before place (list_any f (drop i all)) ≡ whole → after ≡ marked before place (f a)
    → marked after place (list_any f (drop (i + 1) all)) ≡ whole
marked_more place f all i a before after whole within is go e =
    let rest = drop (i + 1) all in
    ap (λ row. marked row place (list_any f rest)) e ∙ twice before place (f a) (list_any f rest)
    ∙ ap (λ l. marked before place (list_any f l)) (sym (drop_more all i a within ∙ ap (λ y. y ∷ rest) (sym is))) ∙ go

pub marked_all : {A : Type 0} (place : ℕ) (f : A → Bool) (all : List A) (i : ℕ) (row whole : List Bool) → length all ≤ i
    → marked row place (list_any f (drop i all)) ≡ whole → row ≡ whole
marked_all place f all i row whole end go = ap (λ l. marked row place (list_any f l)) (sym (drop_all i all end)) ∙ go

pub same_text : (a b : List ℕ) → bytes_eq a b ≡ true → a ≡ b
same_text a b e = (bytes_eq-Decides a b).0 e

-- the row of a resource is taken out, marked and put in again
pub marked_at : (b : Bool) (name x : List ℕ) (row : List ℕ → Option (Vec Bool Global)) (without after : Option (Vec Bool Global))
    (new : Vec Bool Global) (others : List Bool) (place : ℕ) → (b ≡ true → name ≡ x)
    → without ≡ cond b None (row x) → after ≡ cond b (Some new) without
    → new.items ≡ set (unwrap_or (option_map (λ v. v.items) (row name)) others) place true
    → unwrap_or (option_map (λ v. v.items) after) others ≡ marked (unwrap_or (option_map (λ v. v.items) (row x)) others) place b
marked_at true name x row without after new others place same e f is =
    ap (λ o. unwrap_or (option_map (λ v. v.items) o) others) f ∙ is
    ∙ ap (λ n. set (unwrap_or (option_map (λ v. v.items) (row n)) others) place true) (same refl)
marked_at false name x row without after new others place same e f is =
    ap (λ o. unwrap_or (option_map (λ v. v.items) o) others) (f ∙ e)

-- ---- one of the match resources more

seam : (b y : Bool) (row rest : List Bool) → marked (row ++ y ∷ rest) (length row) b ≡ row ++ (b || y) ∷ rest
seam true y row rest = set-append_seam row y rest true
seam false y row rest = refl

pub next : {A : Type 0} (f g h : A → Bool) (all : List A) (i : ℕ) (a : A) (before after : List Bool)
    → f a ≡ (h a || g a) → i < length all → a ≡ get_or all i a
    → before ≡ map f (take i all) ++ map g (drop i all) → after ≡ marked before i (h a)
    → after ≡ map f (take (i + 1) all) ++ map g (drop (i + 1) all)
next f g h all i a before after either within is so e =
    let rest = map g (drop (i + 1) all) in
    let row = map f (take i all) in
    let count : length row ≡ i = length-map (take i all) f ∙ length-take-le i all (le_of_lt within) in
    e ∙ ap (λ r. marked r i (h a)) (so ∙ ap (λ l. row ++ map g l) (drop_more all i a within ∙ ap (λ y. y ∷ drop (i + 1) all) (sym is)))
    ∙ ap (λ n. marked (row ++ g a ∷ rest) n (h a)) (sym count) ∙ seam (h a) (g a) row rest
    ∙ ap (λ b. row ++ b ∷ rest) (sym either) ∙ sym (append_assoc row (f a ∷ []) rest)
    ∙ ap (λ r. r ++ rest) (sym (map-append f (take i all) (a ∷ [])))
    ∙ ap (λ l. map f l ++ rest) (sym (take_more all i a within ∙ ap (λ y. take i all ++ y ∷ []) (sym is)))

all_views : (x : List ℕ) (cs : List (Bor CodeMatchResources)) → candidates (views cs) x ≡ map (λ m. may_match (match_view m.now) x) cs
all_views x [] = refl
all_views x (m ∷ cs) = ap (λ bs. may_match (match_view m.now) x ∷ bs) (all_views x cs)

-- one answer more
pub row_more : (cs : List (Bor CodeMatchResources)) (x : List ℕ) (i : ℕ) (m : Bor CodeMatchResources) (before after : List Bool)
    → i < length cs → m ≡ get_or cs i m
    → before ≡ candidates (views (take i cs)) x → after ≡ before ++ may_match (match_view m.now) x ∷ [] → after ≡ candidates
    (views (take (i + 1) cs)) x
row_more cs x i m before after within is so added =
    let one : Bor CodeMatchResources → Bool = λ m. may_match (match_view m.now) x in
    added ∙ ap (λ bs. bs ++ one m ∷ []) (so ∙ all_views x (take i cs)) ∙ sym (map-append one (take i cs) (m ∷ []))
    ∙ ap (map one) (sym (take_more cs i m within ∙ ap (λ y. take i cs ++ y ∷ []) (sym is))) ∙ sym (all_views x (take (i + 1) cs))

-- the answers for a resource once the first i of the match resources are marked
abbrev pub answers_after : List (Bor CodeMatchResources) → ℕ → List ℕ → List Bool
answers_after cs i x =
    map (λ m. may_match (match_view m.now) x) (take i cs) ++ map (λ m. may_match (match_view m.now) (codes "*")) (drop i cs)

pub answers_before_all : (cs : List (Bor CodeMatchResources)) (x : List ℕ) (rows : BTreeMap (String Global) (Vec Bool Global))
    (others : Vec Bool Global) → IsEmpty rows → others.items ≡ candidates (views cs) (codes "*")
    → answers (record { rows = rows; others = others }) x ≡ answers_after cs 0 x
unfolding answers
answers_before_all cs x rows others none is = rw none (is ∙ all_views (codes "*") cs)

pub answers_after_more : (cs : List (Bor CodeMatchResources)) (i : ℕ) (m : Bor CodeMatchResources) (x : List ℕ) (before after : List Bool)
    → i < length cs → m ≡ get_or cs i m → before ≡ answers_after cs i x → after ≡ marked before i (has m.now x)
    → after ≡ answers_after cs (i + 1) x
answers_after_more cs i m x before after =
    next (λ m. may_match (match_view m.now) x) (λ m. may_match (match_view m.now) (codes "*")) (λ m. has m.now x) cs i m before after
    (may_match_or x m.now)

pub answers_after_all : (cs : List (Bor CodeMatchResources)) (i : ℕ) (x : List ℕ) (row : List Bool) → length cs ≤ i
    → row ≡ answers_after cs i x → row ≡ candidates (views cs) x
answers_after_all cs i x row all is =
    let one : Bor CodeMatchResources → Bool = λ m. may_match (match_view m.now) x in
    is ∙ ap (λ l. map one (take i cs) ++ map (λ m. may_match (match_view m.now) (codes "*")) l) (drop_all i cs all)
    ∙ append-nil (map one (take i cs)) ∙ ap (map one) (take_all i cs all) ∙ sym (all_views x cs)
