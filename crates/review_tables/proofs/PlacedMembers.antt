-- The members that are read of an object, by their keys.
use Rattle.value_table.proofs.Prelude.{◌≡◌, ℕ, ◌+◌, List, [], ◌∷◌, ◌++◌, length, Option, Some, None, option_map, Ordering, Less, Greater, refl, sym, ap, ap₂, ◌∙◌, subst, arith, length-append, append_assoc, append-nil, length-map, nat_cmp, slice_cmp, AllByRecursion, Value, Entries, no_entries, entry, keys_of, AreEntriesOrdered, IsOrdered, Ascend, saturated, value_in, entries_at, part_of, IsText, AreTexts, AreBelow, HasGrown, ExtendsBackings, values_at, entries_of, heap_values, Gains, Ok, Part}
use Rattle.value_table.specs.declared.heap.Heap.{Heap}
use Rattle.std.specs.Prelude.{option_and_then}
use Rattle.std.specs.declared.cmp.Ordering.TheVariants.{Equal}
use Rattle.std.specs.Ordering.{match_ordering}
use Rattle.std.specs.BTreeMap.{insert_entry}
use Rattle.std.specs.Borrow.{Bor}
use Rattle.std.specs.List.Sorted.{IsStrictlySortedBy}
use Rattle.std.specs.Map as map
use Rattle.serde_json.specs.Data as json
use Rattle.value_store.specs.Value as kind
use Rattle.value_store.specs.Size.{size_of, entries_size}
use Rattle.value_store.specs.Roots.{value_of, members_value}
use Rattle.review_tables.specs.Reading.{IsPlacedValue, PlacesValue, AddsPlaced, PlacedEntry, entry_keys, AreSoundEntries, placed_entries, AreMembers}
use Rattle.review_tables.specs.declared.placed.Placed.{Placed}
use Rattle.review_tables.specs.Members.{str_cmp}
use Rattle.value_table.proofs.Growing.{KeysStand, keys_step}
use Rattle.value_table.proofs.Heads.{entries_built}
use Rattle.value_table.proofs.Listed.{below_append}
use Rattle.review_tables.proofs.PlacedValues.{answers_stay, put_gained, put_on}

pub members_stay : (us vs : List Value) (es : List PlacedEntry) (ms : json.Members) → HasGrown us vs → AreMembers us es ms → AreMembers vs es ms
members_stay us vs [] json.no_members g h = tt
members_stay us vs (e ∷ es) (json.member k d ms) g h = (h.0, answers_stay us vs e.1 (value_of d) g h.1, members_stay us vs es ms g h.2)
members_stay us vs _ _ g h = absurd h

put_at : (o : Ordering) (vs : List Value) (us bs cs : List PlacedEntry) (ks ls ms : json.Members) → AreMembers vs us ks → AreMembers vs bs ls → AreMembers vs cs ms
    → AreMembers vs (match_ordering o us bs cs) (match_ordering o ks ls ms)
put_at Less vs us bs cs ks ls ms f g h = f
put_at Equal vs us bs cs ks ls ms f g h = g
put_at Greater vs us bs cs ks ls ms f g h = h

-- one more member, or a new value of one
pub member_put : (vs : List Value) (es : List PlacedEntry) (ms : json.Members) (k : Bor (List ℕ)) (a : Option Placed) (d : json.Data) → AreMembers vs es ms
    → PlacesValue vs a (value_of d) → AreMembers vs (insert_entry str_cmp es k a) (json.put k.now d ms)
member_put vs [] json.no_members k a d h s = (refl, s, tt)
member_put vs (x ∷ es) (json.member l e ms) k a d h s =
    let there = put_at (slice_cmp nat_cmp k.now x.0.now) vs ((k, a) ∷ x ∷ es) ((x.0, a) ∷ es) (x ∷ insert_entry str_cmp es k a) (json.member k.now d (json.member l e ms)) (json.member l d ms) (json.member l e (json.put k.now d ms))
    (refl, s, h) (h.0, s, h.2) (h.0, h.1, member_put vs es ms k a d h.2 s) in
    subst (λ y. AreMembers vs (insert_entry str_cmp (x ∷ es) k a) (match_ordering (slice_cmp nat_cmp k.now y) (json.member k.now d (json.member l e ms)) (json.member l d ms) (json.member l e (json.put k.now d ms)))) h.0 there
member_put vs _ _ k a d h s = absurd h

pub members_sound : (vs : List Value) (es : List PlacedEntry) (ms : json.Members) → AreMembers vs es ms → AreSoundEntries vs es
members_sound vs [] ms h = tt
members_sound vs (e ∷ es) json.no_members h = absurd h
members_sound vs (e ∷ es) (json.member k d ms) h = (h.1.sound, members_sound vs es ms h.2)

-- the map of the members
pub members_are : (vs : List Value) (es : List PlacedEntry) (ms : json.Members) → AreMembers vs es ms → placed_entries vs es ≡ members_value ms
members_are vs [] json.no_members h = refl
members_are vs (e ∷ es) (json.member k d ms) h =
    ap (option_and_then (λ v. option_map (entry e.0.now v) (placed_entries vs es))) h.1.is
    ∙ ap₂ (λ l o. option_and_then (λ v. option_map (entry l v) o) (value_of d)) h.0 (members_are vs es ms h.2)
members_are vs _ _ h = absurd h

-- ---- the entries, one by one

abbrev pub entries_before : List (List ℕ) → List Value → Entries → Entries
entries_before [] ws rest = rest
entries_before (k ∷ ks) [] rest = rest
entries_before (k ∷ ks) (w ∷ ws) rest = entry k w (entries_before ks ws rest)

before_none : (ks : List (List ℕ)) (ws : List Value) → entries_before ks ws no_entries ≡ entries_of ks ws
before_none [] ws = refl
before_none (k ∷ ks) [] = refl
before_none (k ∷ ks) (w ∷ ws) = ap (entry k w) (before_none ks ws)

before_more : (ks : List (List ℕ)) (ws : List Value) (k : List ℕ) (w : Value) (rest : Entries) → length ks ≡ length ws
    → entries_before ks ws (entry k w rest) ≡ entries_before (ks ++ k ∷ []) (ws ++ w ∷ []) rest
before_more [] [] k w rest e = refl
before_more [] (u ∷ ws) k w rest e = absurd (omega arith)
before_more (l ∷ ks) [] k w rest e = absurd (omega arith)
before_more (l ∷ ks) (u ∷ ws) k w rest e = ap (entry l u) (before_more ks ws k w rest (omega arith))

mapped_more : (ks : List (List ℕ)) (ws : List Value) (k : List ℕ) (w : Value) (o : Option Entries) → length ks ≡ length ws
    → option_map (entries_before ks ws) (option_map (entry k w) o) ≡ option_map (entries_before (ks ++ k ∷ []) (ws ++ w ∷ [])) o
mapped_more ks ws k w None e = refl
mapped_more ks ws k w (Some es) e = ap (λ fs. Some fs) (before_more ks ws k w es e)

ordered_more : (ks : List (List ℕ)) (ws : List Value) (k : List ℕ) (w : Value) → length ks ≡ length ws → AreEntriesOrdered (entries_of ks ws) → IsOrdered w
    → AreEntriesOrdered (entries_of (ks ++ k ∷ []) (ws ++ w ∷ []))
ordered_more [] [] k w e h o = (o, tt)
ordered_more [] (u ∷ ws) k w e h o = absurd (omega arith)
ordered_more (l ∷ ks) [] k w e h o = absurd (omega arith)
ordered_more (l ∷ ks) (u ∷ ws) k w e h o = (h.0, ordered_more ks ws k w (omega arith) h.1 o)

size_more : (ks : List (List ℕ)) (ws : List Value) (k : List ℕ) (w : Value) → length ks ≡ length ws
    → entries_size (entries_of (ks ++ k ∷ []) (ws ++ w ∷ [])) ≡ entries_size (entries_of ks ws) + (1 + length k + size_of w)
size_more [] [] k w e = omega arith
size_more [] (u ∷ ws) k w e = absurd (omega arith)
size_more (l ∷ ks) [] k w e = absurd (omega arith)
size_more (l ∷ ks) (u ∷ ws) k w e = omega (arith, size_more ks ws k w (omega arith))

keys_are : (ks : List (List ℕ)) (ws : List Value) → length ks ≡ length ws → keys_of (entries_of ks ws) ≡ ks
keys_are [] ws e = refl
keys_are (k ∷ ks) [] e = absurd (omega arith)
keys_are (k ∷ ks) (w ∷ ws) e = ap (λ xs. k ∷ xs) (keys_are ks ws (omega arith))

all_above : (k : Bor (List ℕ)) (es : List PlacedEntry) → AllByRecursion (λ l. str_cmp k l ≡ Less) (map.keys_of es) → AllByRecursion (λ l. slice_cmp nat_cmp k.now l ≡ Less) (entry_keys es)
all_above k [] h = tt
all_above k (e ∷ es) h = (h.0, all_above k es h.1)

names_ascend : (es : List PlacedEntry) → IsStrictlySortedBy str_cmp (map.keys_of es) → Ascend (entry_keys es)
unfolding IsStrictlySortedBy
names_ascend [] h = tt
names_ascend (e ∷ es) h = (all_above e.0 es h.0, names_ascend es h.1)

-- the keys and the places so far, and the remaining members
pub record Collects (all : List PlacedEntry) (vs : List Value) (bytes : List ℕ) (parts : List Part) (places : List ℕ) (n : ℕ) (rest : List PlacedEntry) : Type 0 where
  pub keys : List (List ℕ)
  pub stand : KeysStand keys bytes parts
  pub named : keys ++ entry_keys rest ≡ entry_keys all
  pub is : placed_entries vs all ≡ option_map (entries_before keys (values_at vs places)) (placed_entries vs rest)
  pub below : AreBelow (length vs) places
  pub pairs : length keys ≡ length (values_at vs places)
  pub ordered : AreEntriesOrdered (entries_of keys (values_at vs places))
  pub size : n ≡ saturated (1 + entries_size (entries_of keys (values_at vs places)))
  pub sound : AreSoundEntries vs rest

mapped_none : (o : Option Entries) → o ≡ option_map (entries_before [] []) o
mapped_none None = refl
mapped_none (Some es) = refl

pub collect_start : (all : List PlacedEntry) (vs : List Value) (bytes : List ℕ) → AreSoundEntries vs all → Collects all vs bytes [] [] 1 all
collect_start all vs bytes h = record {
  keys = [];
  stand = record { are = refl; texts = tt };
  named = refl;
  is = mapped_none (placed_entries vs all);
  below = tt;
  pairs = refl;
  ordered = tt;
  size = refl;
  sound = h;
}

values_more : (vs : List Value) (ps : List ℕ) (r : ℕ) → values_at vs (ps ++ r ∷ []) ≡ values_at vs ps ++ value_in vs r ∷ []
values_more vs [] r = refl
values_more vs (p ∷ ps) r = ap (λ xs. value_in vs p ∷ xs) (values_more vs ps r)

sized : (a b c d k : ℕ) → a ≡ saturated (1 + b) → d ≡ saturated c → saturated (saturated (a + (1 + k)) + d) ≡ saturated (1 + (b + (1 + k + c)))
sized a b c d k e f = omega arith

lengthened : {A B : Type 0} (xs : List A) (ys : List B) (x : A) (y : B) → length xs ≡ length ys → length (xs ++ x ∷ []) ≡ length (ys ++ y ∷ [])
lengthened xs ys x y e = omega (arith, length-append xs (x ∷ []), length-append ys (y ∷ []))

pub collect_step : (all : List PlacedEntry) (vs : List Value) (old new : Heap) (parts parts' : List Part) (places places' : List ℕ) (size size' : ℕ) (key : Bor (List ℕ)) (p : Placed) (rest : List PlacedEntry) (part : Part)
    → Collects all vs old.backings.bytes parts places size ((key, Some p) ∷ rest) → ExtendsBackings old.backings new.backings → IsText new.backings.bytes part → part_of new.backings.bytes part ≡ key.now → parts' ≡ parts ++ part ∷ []
    → places' ≡ places ++ p.place ∷ [] → size' ≡ saturated (saturated (size + (1 + length key.now)) + p.size) → Collects all vs new.backings.bytes parts' places' size' rest
collect_step all vs old new parts parts' places places' size size' key p rest part h up t is e f g =
    let ws : values_at vs places' ≡ values_at vs places ++ value_in vs p.place ∷ [] = ap (values_at vs) f ∙ values_more vs places p.place in
    let placed : IsPlacedValue vs p = h.sound.0 in
    let low : AreBelow (length vs) (p.place ∷ []) = (placed.inside, tt) in
    record {
      keys = h.keys ++ key.now ∷ [];
      stand = subst (KeysStand (h.keys ++ key.now ∷ []) new.backings.bytes) (sym e) (keys_step old.backings new.backings h.keys parts part key.now up t is h.stand);
      named = append_assoc h.keys (key.now ∷ []) (entry_keys rest) ∙ h.named;
      is = h.is ∙ mapped_more h.keys (values_at vs places) key.now (value_in vs p.place) (placed_entries vs rest) h.pairs
          ∙ ap (λ us. option_map (entries_before (h.keys ++ key.now ∷ []) us) (placed_entries vs rest)) (sym ws);
      below = subst (AreBelow (length vs)) (sym f) (below_append (length vs) places (p.place ∷ []) h.below low);
      pairs = lengthened h.keys (values_at vs places) key.now (value_in vs p.place) h.pairs ∙ ap (λ (us : List Value). length us) (sym ws);
      ordered = subst (λ us. AreEntriesOrdered (entries_of (h.keys ++ key.now ∷ []) us)) (sym ws) (ordered_more h.keys (values_at vs places) key.now (value_in vs p.place) h.pairs h.ordered placed.ordered);
      size = g ∙ sized size _ (size_of (value_in vs p.place)) p.size (length key.now) h.size placed.size ∙ ap (λ n. saturated (1 + n)) (sym (size_more h.keys (values_at vs places) key.now (value_in vs p.place) h.pairs))
          ∙ ap (λ us. saturated (1 + entries_size (entries_of (h.keys ++ key.now ∷ []) us))) (sym ws);
      sound = h.sound.1;
    }

-- a member has no value
pub collect_fails : (all : List PlacedEntry) (vs : List Value) (bytes : List ℕ) (parts : List Part) (places : List ℕ) (size : ℕ) (key : Bor (List ℕ)) (rest : List PlacedEntry)
    → Collects all vs bytes parts places size ((key, None) ∷ rest) → None ≡ option_map kind.map (placed_entries vs all)
collect_fails all vs bytes parts places size key rest h = sym (ap (option_map kind.map) h.is)

-- all members are collected
pub record Collected (all : List PlacedEntry) (vs : List Value) (bytes : List ℕ) (parts : List Part) (places : List ℕ) (n : ℕ) : Type 0 where
  pub texts : AreTexts bytes parts
  pub below : AreBelow (length vs) places
  pub pairs : length parts ≡ length places
  pub ordered : IsOrdered (kind.map (entries_at bytes vs parts places))
  pub is : Some (kind.map (entries_at bytes vs parts places)) ≡ option_map kind.map (placed_entries vs all)
  pub size : n ≡ saturated (size_of (kind.map (entries_at bytes vs parts places)))

pub collect_ends : (all : List PlacedEntry) (vs : List Value) (bytes : List ℕ) (parts : List Part) (places : List ℕ) (size : ℕ) (rest : List PlacedEntry)
    → Collects all vs bytes parts places size rest → rest ≡ [] → IsStrictlySortedBy str_cmp (map.keys_of all) → Collected all vs bytes parts places size
collect_ends all vs bytes parts places size rest h e o =
    let ws = values_at vs places in
    let built : entries_at bytes vs parts places ≡ entries_of h.keys ws = entries_built bytes vs parts places ∙ ap (λ ks. entries_of ks ws) h.stand.are in
    let named : h.keys ≡ entry_keys all = sym (append-nil h.keys) ∙ ap (λ es. h.keys ++ entry_keys es) (sym e) ∙ h.named in
    let ascend : Ascend (keys_of (entries_of h.keys ws)) = subst Ascend (sym (keys_are h.keys ws h.pairs ∙ named)) (names_ascend all o) in
    let both : IsOrdered (kind.map (entries_of h.keys ws)) = (ascend, h.ordered) in
    let whole : placed_entries vs all ≡ Some (entries_of h.keys ws) = h.is ∙ ap (λ es. option_map (entries_before h.keys ws) (placed_entries vs es)) e ∙ ap (λ es. Some es) (before_none h.keys ws) in
    record {
      texts = h.stand.texts;
      below = h.below;
      pairs = sym (length-map parts (part_of bytes)) ∙ ap (λ (ks : List (List ℕ)). length ks) h.stand.are ∙ h.pairs ∙ length-map places (value_in vs);
      ordered = subst (λ es. IsOrdered (kind.map es)) (sym built) both;
      is = ap (λ es. Some (kind.map es)) built ∙ sym (ap (option_map kind.map) whole);
      size = h.size ∙ ap (λ es. saturated (size_of (kind.map es))) (sym built);
    }

-- the map that the code builds
pub collected_map : (all : List PlacedEntry) (vs us : List Value) (bytes : List ℕ) (parts ks : List Part) (places ps : List ℕ) (n : ℕ) → Collected all vs bytes parts places n
    → us ≡ vs → ks ≡ parts → ps ≡ places → IsOrdered (kind.map (entries_at bytes us ks ps))
collected_map all vs us bytes parts ks places ps n h e f g =
    let same : entries_at bytes us ks ps ≡ entries_at bytes vs parts places = rw (e, f, g) in
    subst (λ es. IsOrdered (kind.map es)) (sym same) h.ordered

pub put_collected : (old mid new : Heap) (all : List PlacedEntry) (parts ks : List Part) (places ps : List ℕ) (n i : ℕ) → Collected all (heap_values old) mid.backings.bytes parts places n
    → heap_values mid ≡ heap_values old → ks ≡ parts → ps ≡ places → Gains mid (Some (kind.map (entries_at mid.backings.bytes (heap_values mid) ks ps))) (Ok i) new
    → AddsPlaced old new (Some (record { place = i; size = n })) (option_map kind.map (placed_entries (heap_values old) all))
put_collected old mid new all parts ks places ps n i h e f g gains =
    let same : entries_at mid.backings.bytes (heap_values mid) ks ps ≡ entries_at mid.backings.bytes (heap_values old) parts places = rw (e, f, g) in
    let grown : HasGrown (heap_values old) (heap_values mid) = ([], e ∙ sym (append-nil (heap_values old))) in
    put_on old mid new (Some (record { place = i; size = n })) _ _ grown (ap (λ es. Some (kind.map es)) same ∙ h.is)
    (put_gained mid new (kind.map (entries_at mid.backings.bytes (heap_values mid) ks ps)) i n gains (h.size ∙ ap (λ es. saturated (size_of (kind.map es))) (sym same)) (subst (λ es. IsOrdered (kind.map es)) (sym same) h.ordered))
