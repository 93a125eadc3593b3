-- Words that lead places to the roots of their classes.
use Rattle.value_table.proofs.Prelude.{◌≡◌, ℕ, ◌<◌, ◌≤◌, ◌++◌, max, min, List, length, length-append, Option, Some, Bool, true, false, slice_get, get_or, set, inl, inr, sym, ap, ◌∙◌, subst, arith, nat_lt, if◌then◌else◌, cases_eq, ltb-true, ltb-false, get_or-set_other, get_or-set_same, get_or_append_left, length-set, slice_get-get_or, slice_get_within, Value, AreOneClass, ClassesStay, Finds, IsRoot, LeadDown, Shortens, way_down, values_at, AreSame}

-- ---- one step of the path

way_some : (o : Option ℕ) (here next : ℕ) → next ≡ way_down o here → next < here → o ≡ Some next
way_some o here next e less = grind arith

word_of : (same : List ℕ) (here next d : ℕ) → slice_get same here ≡ Some next → here < length same → get_or same here d ≡ next
word_of same here next d e inside = let is = slice_get-get_or same here d inside in cc

way_is : (same : List ℕ) (place further d : ℕ) → LeadDown same → place < length same → further ≡ way_down (slice_get same place) place
    → get_or same place d ≡ further
way_is same place further d down inside e = grind (arith, min, get_or, slice_get-get_or)

module _ (old now : List ℕ) (place here next further : ℕ) (so_far : Shortens old now place) (low : here ≤ place) (is : next ≡ way_down (slice_get now here) here) (less : next < here) (beyond : further ≡ way_down (slice_get now next) next) where
  word_is : slice_get now here ≡ Some next
  word_is = way_some (slice_get now here) here next is less

  inside : here < length now
  inside = slice_get_within now here next word_is

  here_is : (d : ℕ) → get_or now here d ≡ next
  here_is d = word_of now here next d word_is inside

  next_is : (d : ℕ) → get_or now next d ≡ further
  next_is d = way_is now next further d so_far.down (let h = inside in omega arith) beyond

  other_word : (i d : ℕ) → (i ≡ here → ⊥) → get_or (set now here further) i d ≡ get_or now i d
  other_word i d other = get_or-set_other now here i further d other

  new_word : (d : ℕ) → get_or (set now here further) here d ≡ further
  new_word d = get_or-set_same now here further d inside

  down_more : LeadDown (set now here further)
  down_more i d within = grind (arith, length-set, cases_eq, get_or, set, new_word, next_is, inside, other_word)

  -- values that agree with the new words agree with the old ones
  same_before : (vs : List Value) → AreSame vs (set now here further) → AreSame vs now
  same_before vs s = record {
    long = let long = length-set now here further in let most = s.long in omega arith;
    below = so_far.down;
    equal = λ i d within.
        let long = length-set now here further in
        elim (cases_eq i here) [
          | inl same ↦
              let at_next : slice_get vs further ≡ slice_get vs next = ap (slice_get vs) (sym (other_word next d (λ e. omega arith) ∙ next_is d))
              ∙ s.equal next d (let h = inside in omega arith) in
              let at_here : slice_get vs further ≡ slice_get vs here = ap (slice_get vs) (sym (new_word d)) ∙ s.equal here d (let h = inside in omega arith) in
              ap (λ (j : ℕ). slice_get vs (get_or now j d)) same ∙ ap (slice_get vs) (here_is d) ∙ sym at_next ∙ at_here ∙ ap (slice_get vs) (sym same)
          | inr other ↦ ap (slice_get vs) (sym (other_word i d other)) ∙ s.equal i d (omega arith)
        ];
  }

  pub shortens_more : Shortens old (set now here further) place
  shortens_more = record {
    down = down_more;
    stay = λ vs s. so_far.stay vs (same_before vs s);
    roots = λ i root d within.
        let long = length-set now here further in
        elim (cases_eq i here) [
          | inl same ↦ absurd (let word = so_far.roots i root d (omega arith) in let moved = ap (λ (j : ℕ). get_or now j d) same in let n = here_is d in omega arith)
          | inr other ↦ other_word i d other ∙ so_far.roots i root d (omega arith)
        ];
    others = λ i d above. other_word i d (λ e. omega arith) ∙ so_far.others i d above;
  }

-- the path ends at a place that is its own parent
pub ends_at : (same : List ℕ) (here : ℕ) → LeadDown same → here ≤ way_down (slice_get same here) here → IsRoot same here
ends_at same here down last d inside = grind (arith, way_is, inside, slice_get)

-- ---- joining two classes

-- a root gets another place as its parent
module _ (old : List ℕ) (root target : ℕ) (down : LeadDown old) (is : IsRoot old root) where
  pub pointed_stay : ClassesStay old (set old root target)
  pointed_stay vs s = grind (arith, length-set, cases_eq, slice_get, get_or, get_or-set_other)

  pub pointed_one : root < length old → AreOneClass (set old root target) target root
  pointed_one inside vs s =
      let long = length-set old root target in ap (slice_get vs) (sym (get_or-set_same old root target 0 inside)) ∙ s.equal root 0 (omega arith)

-- the words after the later of two roots gets the earlier one as its parent
abbrev pub united : List ℕ → ℕ → ℕ → List ℕ
united old a b = if nat_lt a b then set old b a else set old a b

pub record Unites (old new : List ℕ) (a b : ℕ) : Type 0 where
  pub stay : ClassesStay old new
  pub one : max a b < length old → AreOneClass new a b
  pub others : (i d : ℕ) → max a b < i → get_or new i d ≡ get_or old i d

unites_by : (less : Bool) (old : List ℕ) (a b : ℕ) → nat_lt a b ≡ less → LeadDown old → IsRoot old (max a b)
    → Unites old (if less then set old b a else set old a b) a b
unites_by true old a b e down root =
    let h = ltb-true a b e in
    let larger : max a b ≡ b = omega arith in
    let is = subst (IsRoot old) larger root in
    record { stay = pointed_stay old b a down is; one = λ inside. pointed_one old b a down is (omega arith); others = λ i d above. get_or-set_other old b i a d (λ same. omega arith) }
unites_by false old a b e down root =
    let h = ltb-false a b e in
    let larger : max a b ≡ a = omega arith in
    let is = subst (IsRoot old) larger root in
    record { stay = pointed_stay old a b down is; one = λ inside vs s. sym (pointed_one old a b down is (omega arith) vs s); others = λ i d above. get_or-set_other old a i b d (λ same. omega arith) }

pub unites : (old : List ℕ) (a b : ℕ) → LeadDown old → IsRoot old (max a b) → Unites old (united old a b) a b
unites old a b down root = grind (arith, set, unites_by)

-- ---- the parts compared so far

-- These parts have equal values, and the classes are kept. Words after both places are unchanged, and the later root
-- is still a root.
pub record Matches (vs : List Value) (old now : List ℕ) (xs ys : List ℕ) (a b x y : ℕ) : Type 0 where
  pub known : AreSame vs now
  pub values : values_at vs xs ≡ values_at vs ys
  pub stay : ClassesStay old now
  pub others : (i d : ℕ) → a < i → b < i → get_or now i d ≡ get_or old i d
  pub root : IsRoot now (max x y)
  pub long : length now ≡ length old

-- the roots of both places are found one after the other
pub record BothFound (old now : List ℕ) (a b x y : ℕ) : Type 0 where
  pub stay : ClassesStay old now
  pub others : (i d : ℕ) → a < i → b < i → get_or now i d ≡ get_or old i d
  pub root : IsRoot now (max x y)

pub both_found : (old middle now : List ℕ) (a b x y : ℕ) → Finds old middle a x → Finds middle now b y → BothFound old now a b x y
both_found old middle now a b x y first second = grind arith

-- a root stays a root if its word is unchanged
pub root_stays : (old new : List ℕ) (i : ℕ) → length new ≡ length old → ((d : ℕ) → get_or new i d ≡ get_or old i d) → IsRoot old i → IsRoot new i
root_stays old new i long same root d inside = same d ∙ root d (omega arith)

-- appended words do not change the classes
pub words_before : (same more all : List ℕ) → all ≡ same ++ more → ClassesStay same all
words_before same more all is vs s = grind (arith, length-append, get_or, inside, get_or_append_left, slice_get)
