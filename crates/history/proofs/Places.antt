-- Places at which a machine is available.
use Rattle.history.proofs.Prelude.{◌≡◌, ◌≢◌, ◌%◌, ◌++◌, append-nil, drop, ℕ, zero, suc, ◌+◌, ◌-◌, ◌<◌, ◌≤◌, Bool, true, false, true≢false, not, List, [], ◌∷◌, length, refl, sym, ap, ◌∙◌, arith, subst, map, Option, Some, None, option_map, get_or, inl, inr, ◌⊎◌, common_steps, nat_tests, cases_lt, drop-append-le, drop-drop, drop-map, get_or-map, get_or_default, length-append, length-drop, length-map, map-append, append_assoc, Contains-append_cases, Contains-append_left, Contains-append_right, All-append, All-drop, All-nil, All-push, All-same, keep_last, get_or_from_slice_get, slice_get_within, All, Contains, slice_get, State, is_running, next_state, state_after, state_after-add, state_after-more, state_after-zero, stays_stopped, IsDue, HasPlacesAdded, IsNearest, IsReplay, IsSpared, KeepsPlaces, Checkpoints, Reaches, Past, places_of, with_place}

-- of the first n of these places, none at or before k is greater than p
abbrev pub NoneNearer : List ℕ → ℕ → ℕ → ℕ → Type 0
NoneNearer places n k p = (i : ℕ) → i < n → get_or places i 0 ≤ k → get_or places i 0 ≤ p

pub none_first : (ps : List ℕ) (k p : ℕ) → NoneNearer ps 0 k p
none_first ps k p i low = grind arith

-- one more place
none_more : (ps : List ℕ) (n k p q r : ℕ) → NoneNearer ps n k p → get_or ps n 0 ≡ q → p ≤ r → (q ≤ k → q ≤ r) → NoneNearer ps (n + 1) k r
none_more ps n k p q r none is more next = grind arith

contains_cases : (ps : List ℕ) (x q : ℕ) → Contains (x ∷ ps) q → (x ≡ q) ⊎ Contains ps q
contains_cases ps x q c = grind arith

-- one more element in a list, and one less
contains_more : (front ps : List ℕ) (x q : ℕ) → Contains (front ++ ps) q → Contains (front ++ x ∷ ps) q
contains_more front ps x q c =
    elim (Contains-append_cases front ps q c) [
      | inl before ↦ Contains-append_left front (x ∷ ps) q before
      | inr behind ↦ Contains-append_right front (x ∷ ps) q (Contains-append_right (x ∷ []) ps q behind)
    ]

contains_less : (front ps : List ℕ) (x q : ℕ) → Contains (front ++ x ∷ ps) q → (x ≡ q) ⊎ Contains (front ++ ps) q
contains_less front ps x q c =
    elim (Contains-append_cases front (x ∷ ps) q c) [
      | inl before ↦ inr (Contains-append_left front ps q before)
      | inr behind ↦ elim (contains_cases ps x q behind) [ inl same ↦ inl same | inr rest ↦ inr (Contains-append_right front ps q rest) ]
    ]

-- the place of a machine in the list is one of the places
contains_place : {C : Type 0} (place : C → ℕ) (cs : List C) (i : ℕ) (c : C) → slice_get cs i ≡ Some c → Contains (map place cs) (place c)
contains_place place cs i c is =
    let low : i < length cs = slice_get_within cs i c is in
    (i, omega (arith, low, length-map cs place), get_or-map place cs i c (place c) low ∙ ap place (get_or_from_slice_get cs i c c is))

place_at : {C : Type 0} (place : C → ℕ) (cs : List C) (i : ℕ) (c : C) → slice_get cs i ≡ Some c → get_or (map place cs) i 0 ≡ place c
place_at place cs i c is =
    let low : i < length cs = slice_get_within cs i c is in
    get_or-map place cs i c 0 low ∙ ap place (get_or_from_slice_get cs i c c is)

-- all places were compared, and the start
pub nearest_is : (ps : List ℕ) (n k p : ℕ) → Contains (0 ∷ ps) p → p ≤ k → NoneNearer ps n k p → length ps ≤ n → IsNearest (0 ∷ ps) k p
nearest_is ps n k p among low none whole = grind (arith, nat_tests, get_or_default)

-- one more available place
pub nearest_with : (ps : List ℕ) (k p t r : ℕ) → IsNearest (0 ∷ ps) k p → (r ≡ p) ⊎ (r ≡ t) → r ≤ k → p ≤ r → (t ≤ k → t ≤ r) → IsNearest (0 ∷ t ∷ ps) k r
nearest_with ps k p t r nearest one low more next = record {
  among =
      elim one [
        | inl same ↦ subst (Contains (0 ∷ t ∷ ps)) (sym same) (contains_more (0 ∷ []) ps t p nearest.among)
        | inr same ↦ (1, omega arith, sym same)
      ];
  at_most = low;
  greatest = λ q c here.
      elim (contains_less (0 ∷ []) ps t q c) [
        | inl same ↦ let behind : t ≤ r = next (omega (arith, same, here)) in omega (arith, same, behind)
        | inr kept ↦ omega (arith, nearest.greatest q kept here, more)
      ];
}

-- there is a nearest place
nearest_step : (ps : List ℕ) (k t p : ℕ) → IsNearest (0 ∷ ps) k p → (r : ℕ) × IsNearest (0 ∷ t ∷ ps) k r
nearest_step ps k t p nearest =
    elim (cases_lt k t) [
      | inl behind ↦ (p, nearest_with ps k p t p nearest (inl refl) nearest.at_most (omega arith) (λ low. absurd (omega (arith, low, behind))))
      | inr not_behind ↦
          elim (cases_lt p t) [
            | inl later ↦ (t, nearest_with ps k p t t nearest (inr refl) (omega (arith, not_behind)) (omega (arith, later)) (λ low. omega arith))
            | inr not_later ↦ (p, nearest_with ps k p t p nearest (inl refl) nearest.at_most (omega arith) (λ low. omega (arith, not_later)))
          ]
    ]

nearest_some : (ps : List ℕ) (k : ℕ) → (p : ℕ) × IsNearest (0 ∷ ps) k p
nearest_some [] k =
    (0, nearest_is [] 0 k 0 (0, omega arith, refl) (omega arith) (none_first [] k 0) (omega arith))
nearest_some (t ∷ ps) k =
    let rest = nearest_some ps k in
    nearest_step ps k t rest.0 rest.1

-- later places reach what earlier ones do
reaches_more : (s : State) (n m k : ℕ) → n ≤ m → Reaches s n k → Reaches s m k
reaches_more s n m k more reaches below =
    let stopped : is_running (state_after n s).status ≡ false = reaches (omega (arith, more, below)) in
    ap (λ (t : State). is_running t.status) (sym (stays_stopped s (state_after n s) n m refl stopped more)) ∙ stopped

-- a machine that is at k in the same state as at n is the one at k
pub stands : (s t : State) (n k : ℕ) → t ≡ state_after n s → (n ≤ k) × (n < k → is_running t.status ≡ false) → t ≡ state_after k s
stands s t n k here reached =
    elim (cases_lt n k) [
      | inl before ↦ stays_stopped s t n k here (reached.1 before) reached.0
      | inr not_before ↦
          let same : n ≡ k = omega (arith, not_before, reached.0) in
          here ∙ ap (λ (i : ℕ). state_after i s) same
    ]

pub reaches_is : (s t : State) (n k : ℕ) → t ≡ state_after n s → (n < k → is_running t.status ≡ false) → Reaches s n k
reaches_is s t n k here stops before = grind arith

is_reached : (s t : State) (n k : ℕ) → t ≡ state_after n s → Reaches s n k → n < k → is_running t.status ≡ false
is_reached s t n k here reaches before = grind arith

-- a machine that does not reach a place at or after its own has to move
pub must_move : (b : Bool) (s t : State) (n k : ℕ) → t ≡ state_after n s → ((n ≤ k) × (n < k → is_running t.status ≡ false) → b ≡ true) → b ≡ false → n ≤ k → Reaches s n k → ⊥
must_move b s t n k here all said low reached = true≢false (sym (all (low, λ before. ap (λ (u : State). is_running u.status) here ∙ reached before)) ∙ said)

-- no step is needed to stay
pub replay_none : (h : Past) (k : ℕ) → h.place ≤ k → Reaches h.origin h.place k → IsReplay h k 0
replay_none h k low reaches =
    let some = nearest_some (h.place ∷ h.checkpoints) k in
    let behind : h.place ≤ some.0 = some.1.greatest h.place (1, omega arith, refl) low in
    record {
      from = some.0;
      nearest = some.1;
      at_most = omega (arith, some.1.at_most);
      reaches = reaches_more h.origin h.place (some.0 + 0) k (omega (arith, behind)) reaches;
    }

-- a replay from the nearest available place
pub replay_from : (h : Past) (k r n at : ℕ) → IsNearest (places_of h) k r → at ≤ k → Reaches h.origin at k → n ≡ at - r → IsReplay h k n
replay_from h k r n at nearest within reaches is = record {
  from = r;
  nearest = nearest;
  at_most = omega (arith, is, within, nearest.at_most);
  reaches = reaches_more h.origin at (r + n) k (omega (arith, is)) reaches;
}

-- one step from the place before k
pub next_place : (s t u : State) (k : ℕ) → t ≡ state_after (k - 1) s → 1 ≤ k → u ≡ next_state t → u ≡ state_after k s
next_place s t u k here some step = grind (arith, state_after-more)

pub not_running : (b c : Bool) → b ≡ not c → b ≡ true → c ≡ false
not_running b c is said = grind arith

pub before_next : (s u : State) (k : ℕ) → u ≡ state_after k s → u ≡ state_after (k + 1 - 1) s
before_next s u k here = grind arith

-- the first state is at place 0
pub start_is : (s t : State) (n : ℕ) → n ≡ 0 → t ≡ s → t ≡ state_after n s
start_is s t n none is = grind (arith, state_after-zero)

-- n steps from place k
pub places_on : (s t u : State) (k n m : ℕ) → t ≡ state_after k s → u ≡ state_after n t → m ≡ k + n → u ≡ state_after m s
places_on s t u k n m here run is =
    let whole : n + k ≡ m = omega (arith, is) in
    run ∙ ap (state_after n) here ∙ sym (state_after-add n k s) ∙ ap (λ (i : ℕ). state_after i s) whole

-- the machine after a replay is the one at place k
pub shown_again : (s u t : State) (n k : ℕ) → u ≡ s → t ≡ state_after n s → n ≤ k → Reaches s n k → t ≡ state_after k u
shown_again s u t n k origin here within reaches = grind (arith, nat_tests, is_reached, stands)

module _ {C : Type 0} (place : C → ℕ) (cs : List C) (ps : List ℕ) where
  -- the item that is read is one of the items
  pub contains_at : (i : ℕ) (a b c : C) → map place cs ≡ ps → slice_get cs i ≡ Some b
      → (c ≡ a) ⊎ (c ≡ b) → Contains (0 ∷ ps) (place a) → Contains (0 ∷ ps) (place c)
  contains_at i a b c whole is one among =
      elim one [
        | inl same ↦ subst (λ (n : ℕ). Contains (0 ∷ ps) n) (ap place (sym same)) among
        | inr same ↦
            let kept : Contains ps (place b) = subst (λ (qs : List ℕ). Contains qs (place b)) whole (contains_place place cs i b is) in
            subst (λ (n : ℕ). Contains (0 ∷ ps) n) (ap place (sym same)) (Contains-append_right (0 ∷ []) ps (place b) kept)
      ]

  pub none_more_at : (i k p : ℕ) (b c : C) → map place cs ≡ ps → slice_get cs i ≡ Some b
      → NoneNearer ps i k p → p ≤ place c → (place b ≤ k → place b ≤ place c) → NoneNearer ps (i + 1) k (place c)
  none_more_at i k p b c whole is none more next = grind (arith, nat_tests, none_more, place_at)

  pub all_places : (n : ℕ) → map place cs ≡ ps → length cs ≤ n → length ps ≤ n
  all_places n whole long = grind (arith, length-map)

-- an item that is read is one of the items
pub all_at : {C : Type 0} (P : C → Type 0) (cs : List C) (i : ℕ) (c : C) → All P cs → slice_get cs i ≡ Some c → P c
all_at P cs i c all is = grind (arith, get_or_from_slice_get, slice_get_within)

pub one_of : {C : Type 0} (P : C → Type 0) (a b c : C) → (c ≡ a) ⊎ (c ≡ b) → P a → P b → P c
one_of P a b c one first second = grind arith

-- a copy of one of two machines of a run is one too
pub copy_of : {C : Type 0} (place : C → ℕ) (state : C → State) (s r : State) (a b c d : C) → (c ≡ a) ⊎ (c ≡ b) → state a ≡ state_after (place a) r → r ≡ s
    → state b ≡ state_after (place b) s → (place d ≡ place c) × (state d ≡ state c) → state d ≡ state_after (place d) s
copy_of place state s r a b c d one first origin second copy =
    copy.1
    ∙ one_of (λ m. state m ≡ state_after (place m) s) a b c one (first ∙ ap (state_after (place a)) origin) second
    ∙ ap (λ (i : ℕ). state_after i s) (sym copy.0)

pub none_past : {C : Type 0} (cs : List C) (i : ℕ) → slice_get cs i ≡ None → i < length cs → ⊥
none_past [] i none low = omega (arith, low)
none_past (c ∷ cs) zero none low = let read : Some c ≡ None = none in cc
none_past (c ∷ cs) (suc i) none low = none_past cs i none (omega (arith, low))

-- the result of a read, as the value of the item
pub read_is : {B C : Type 0} (now : B → C) (r : Option B) (cs : List C) (i : ℕ) (b : B) → option_map now r ≡ slice_get cs i → r ≡ Some b → slice_get cs i ≡ Some (now b)
read_is now r cs i b read is = grind arith

pub read_none : {B C : Type 0} (now : B → C) (r : Option B) (cs : List C) (i : ℕ) → option_map now r ≡ slice_get cs i → r ≡ None → slice_get cs i ≡ None
read_none now r cs i read is = grind arith

-- the places of the machines with one more
pub places_kept : {C : Type 0} (place : C → ℕ) (cs : List C) (c : C) (ps : List ℕ) (room : ℕ) → map place cs ≡ ps → room ≡ 64
    → map place (keep_last room (cs ++ c ∷ [])) ≡ with_place ps (place c)
places_kept place cs c ps room is full = grind (arith, common_steps, drop-map, length-map, map-append)

-- a checkpoint is due if the nearest one is at another place
pub is_due : (ps : List ℕ) (k p : ℕ) → k % 1024 ≡ 0 → IsNearest (0 ∷ ps) k p → p ≢ k → IsDue ps k
is_due ps k p round nearest other = grind arith

-- nothing was added, and nothing dropped
keeps_same : (dropped_checkpoint : Bool) (ps : List ℕ) → KeepsPlaces dropped_checkpoint ps [] ps
keeps_same dropped_checkpoint ps = record {
  rounds = All-nil (λ (k : ℕ). k % 1024 ≡ 0);
  gone = 0;
  rest = sym (append-nil ps);
  within = omega arith;
  room = λ none. (omega arith, omega arith);
}

pub spared_all : (a b : Checkpoints) → b ≡ a → IsSpared a b
spared_all a b same = record {
  origin = ap (λ (k : Checkpoints). k.origin) same;
  keeps = subst (λ (ps : List ℕ). KeepsPlaces b.dropped_checkpoint ps [] b.places) (ap (λ (k : Checkpoints). k.places) same) (keeps_same b.dropped_checkpoint b.places);
  told = λ none. ap (λ (k : Checkpoints). k.dropped_checkpoint) (sym same) ∙ none;
}

-- the oldest is dropped
pub spared_oldest : (a b : Checkpoints) (x : ℕ) → b.origin ≡ a.origin → a.places ≡ x ∷ b.places → b.dropped_checkpoint ≡ true → IsSpared a b
spared_oldest a b x origin places told = record {
  origin = origin;
  keeps = record {
    rounds = All-nil (λ (k : ℕ). k % 1024 ≡ 0);
    gone = 1;
    rest = sym (append-nil b.places) ∙ ap (λ (ps : List ℕ). drop 1 (ps ++ [])) (sym places);
    within = omega (arith, ap (λ (ps : List ℕ). length ps) places, length-append a.places []);
    room = λ none. let wrong : true ≡ false = sym told ∙ none in cc;
  };
  told = λ none. let wrong : true ≡ false = sym told ∙ none in cc;
}

pub kept_spared : (a b : Checkpoints) → IsSpared a b → HasPlacesAdded a b
kept_spared a b s = record { origin = s.origin; added = []; keeps = s.keeps; told = s.told }

pub kept_all : (a b : Checkpoints) → b ≡ a → HasPlacesAdded a b
kept_all a b same = kept_spared a b (spared_all a b same)

-- one more place, of at most 64
keeps_one : (dropped_checkpoint : Bool) (ps qs : List ℕ) (k : ℕ) → length ps ≤ 64 → k % 1024 ≡ 0 → qs ≡ with_place ps k → KeepsPlaces dropped_checkpoint ps (k ∷ []) qs
keeps_one dropped_checkpoint ps qs k room round is =
    let long : length (ps ++ k ∷ []) ≡ length ps + 1 = length-append ps (k ∷ []) in
    record {
      rounds = All-push (λ (i : ℕ). i % 1024 ≡ 0) [] k (All-nil (λ (i : ℕ). i % 1024 ≡ 0)) round;
      gone = length (ps ++ k ∷ []) - 64;
      rest = is;
      within = omega arith;
      room = λ none. (omega (arith, long, room), omega arith);
    }

keeps_on : (f g : Bool) (ps qs rs xs ys : List ℕ) → (g ≡ false → f ≡ false) → KeepsPlaces f ps xs qs → KeepsPlaces g qs ys rs → KeepsPlaces g ps (xs ++ ys) rs
keeps_on f g ps qs rs xs ys told a b =
    let all : qs ++ ys ≡ drop a.gone (ps ++ (xs ++ ys)) =
    ap (λ (zs : List ℕ). zs ++ ys) a.rest ∙ sym (drop-append-le a.gone (ps ++ xs) ys a.within) ∙ ap (λ (zs : List ℕ). drop a.gone zs) (append_assoc ps xs ys) in
    let long : length (qs ++ ys) ≡ length (ps ++ (xs ++ ys)) - a.gone = ap (λ (zs : List ℕ). length zs) all ∙ length-drop a.gone (ps ++ (xs ++ ys)) in
    let longer : length (ps ++ xs) ≤ length (ps ++ (xs ++ ys)) = omega (arith, length-append ps xs, length-append ps (xs ++ ys), length-append xs ys) in
    record {
      rounds = All-append (λ (k : ℕ). k % 1024 ≡ 0) xs ys a.rounds b.rounds;
      gone = a.gone + b.gone;
      rest = b.rest ∙ ap (λ (zs : List ℕ). drop b.gone zs) all ∙ drop-drop b.gone a.gone (ps ++ (xs ++ ys));
      within = omega (arith, a.within, b.within, long, longer);
      room = λ none.
          let first = a.room (told none) in
          let second = b.room none in
          (omega (arith, first.0, second.0, length-append xs ys), omega (arith, first.1, second.1, long, longer));
    }

pub spared_on : (a b c : Checkpoints) → IsSpared a b → IsSpared b c → IsSpared a c
spared_on a b c first second = record {
  origin = second.origin ∙ first.origin;
  keeps = keeps_on b.dropped_checkpoint c.dropped_checkpoint a.places b.places c.places [] [] second.told first.keeps second.keeps;
  told = λ none. first.told (second.told none);
}

pub kept_on : (a b c : Checkpoints) → HasPlacesAdded a b → HasPlacesAdded b c → HasPlacesAdded a c
kept_on a b c first second = record {
  origin = second.origin ∙ first.origin;
  added = first.added ++ second.added;
  keeps = keeps_on b.dropped_checkpoint c.dropped_checkpoint a.places b.places c.places first.added second.added second.told first.keeps second.keeps;
  told = λ none. first.told (second.told none);
}

-- since these places were those of that run
pub keeps_since : (ps : List ℕ) (a b : Checkpoints) → a.places ≡ ps → HasPlacesAdded a b → (added : List ℕ) × KeepsPlaces b.dropped_checkpoint ps added b.places
keeps_since ps a b same kept = (kept.added, subst (λ (qs : List ℕ). KeepsPlaces b.dropped_checkpoint qs kept.added b.places) same kept.keeps)

pub spares_since : (ps : List ℕ) (a b : Checkpoints) → a.places ≡ ps → IsSpared a b → KeepsPlaces b.dropped_checkpoint ps [] b.places
spares_since ps a b same spared = subst (λ (qs : List ℕ). KeepsPlaces b.dropped_checkpoint qs [] b.places) same spared.keeps

-- one more place, of at most 64
pub kept_one : (a b c : Checkpoints) (k : ℕ) → length b.places ≤ 64 → k % 1024 ≡ 0 → IsSpared a b → c.origin ≡ b.origin → c.places ≡ with_place b.places k
    → c.dropped_checkpoint ≡ b.dropped_checkpoint → HasPlacesAdded a c
kept_one a b c k room round spared origin places told =
    kept_on a b c (kept_spared a b spared) (record {
      origin = origin;
      added = k ∷ [];
      keeps = keeps_one c.dropped_checkpoint b.places c.places k room round places;
      told = λ none. sym told ∙ none;
    })

-- a machine's own place is the nearest to itself
pub own_place : (ps : List ℕ) (t p : ℕ) → IsNearest (0 ∷ t ∷ ps) t p → p ≡ t
own_place ps t p nearest = grind arith

-- one step from place k
pub step_on : (s t u : State) (k m : ℕ) → t ≡ state_after k s → u ≡ next_state t → m ≡ k + 1 → u ≡ state_after m s
step_on s t u k m here step is = grind (arith, state_after-more)

-- a place that is not the nearest may be dropped
nearest_without_split : (ps : List ℕ) (k t x r p : ℕ) → IsNearest (0 ∷ t ∷ x ∷ ps) k r → r ≢ x → IsNearest (0 ∷ t ∷ ps) k p → r ≡ p
nearest_without_split ps k t x r p nearest other is =
    let there : Contains (0 ∷ t ∷ ps) r = elim (contains_less (0 ∷ t ∷ []) ps x r nearest.among) [ inl same ↦ absurd (other (sym same)) | inr rest ↦ rest ] in
    let here : Contains (0 ∷ t ∷ x ∷ ps) p = contains_more (0 ∷ t ∷ []) ps x p is.among in
    omega (arith, is.greatest r there nearest.at_most, nearest.greatest p here is.at_most)

-- the nearest of one list of places is that of the other
abbrev pub SameNearest : List ℕ → List ℕ → ℕ → ℕ → Type 0
SameNearest old new t k = (p : ℕ) → IsNearest (0 ∷ t ∷ new) k p → IsNearest (0 ∷ t ∷ old) k p

pub nearest_without : (old qs rs : List ℕ) (t k x r : ℕ) → SameNearest old qs t k → qs ≡ x ∷ rs → IsNearest (0 ∷ t ∷ qs) k r → r ≢ x → SameNearest old rs t k
nearest_without old qs rs t k x r same is nearest other p found =
    let wide : IsNearest (0 ∷ t ∷ x ∷ rs) k r = subst (λ (ps : List ℕ). IsNearest (0 ∷ t ∷ ps) k r) is nearest in
    let one : r ≡ p = nearest_without_split rs k t x r p wide other found in
    same p (subst (λ (q : ℕ). IsNearest (0 ∷ t ∷ qs) k q) one nearest)

-- the rest of the machines, each at its place
pub rest_all : {C : Type 0} (P : C → Type 0) (bs cs : List C) → bs ≡ drop 1 cs → All P cs → All P bs
rest_all P bs cs is all = All-same P bs (drop 1 cs) is (All-drop P 1 cs all)

-- one more is kept, limited to the newest
pub newest_all : {C : Type 0} (P : C → Type 0) (bs cs : List C) (c : C) (room : ℕ) → bs ≡ keep_last room (cs ++ c ∷ []) → All P cs → P c → All P bs
newest_all P bs cs c room is all one = All-same P bs (keep_last room (cs ++ c ∷ [])) is (All-drop P (length (cs ++ c ∷ []) - room) (cs ++ c ∷ []) (All-push P cs c all one))

-- at most n are kept
pub rest_within : {C : Type 0} (bs cs : List C) (n : ℕ) → bs ≡ drop 1 cs → length cs ≤ n → length bs ≤ n
rest_within {C = C} bs cs n is low = omega (arith, ap (λ (xs : List C). length xs) is, length-drop 1 cs, low)

pub newest_within : {C : Type 0} (bs cs : List C) (room : ℕ) → bs ≡ keep_last room cs → room ≡ 64 → length bs ≤ 64
newest_within {C = C} bs cs room is full = omega (arith, ap (λ (xs : List C). length xs) is, length-drop (length cs - room) cs, full)
