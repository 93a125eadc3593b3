-- If each use of an argument keeps a property of the rows, a whole parse without errors keeps it.
use Rattle.review_runner.proofs.Prelude.{◌≡◌, ℕ, zero, suc, List, [], ◌∷◌, Option, Some, None, Bool, true, false, is_some, arith, ⊤, if◌then◌else◌, fold, find, option_map_or, Kinds, or_else, Shape, Held, Names, Row, Rule, Step, Text, Waiting, Walk, after_flag, after_step, arg_by_id, attached_value, bundle_step, flag_met, long_met, long_or_other, option_met, reacted, settled, settled_rows, used, with_default, word_met, bundle_step_fault, flag_word_fault, long_fault, option_fault, react_fault, settle_fault, step_fault, turn_fault, use_fault, word_fault}
use Rattle.clap.specs.Walk.{Outcome, bundle_met, walked}
use Rattle.clap.specs.Faults.{flags_fault, walk_fault}
use Rattle.clap.specs.declared.error.kind.ErrorKind.TheVariants as kind

abbrev pub Each : {X : Type 0} → (X → Type 0) → List X → Type 0
Each Q [] = ⊤
Each Q (x ∷ xs) = Q x × Each Q xs

abbrev pub AtOption : {X : Type 0} → (X → Type 0) → Option X → Type 0
AtOption Q None = ⊤
AtOption Q (Some x) = Q x

pub picked : {X : Type 0} (Q : X → Type 0) (x : X) (b : Bool) (o : Option X) → Q x → AtOption Q o
    → AtOption Q (if b then Some x else o)
picked Q x true o h k = h
picked Q x false o h k = k

pub found : {X : Type 0} (Q : X → Type 0) (p : X → Bool) (c : List X) → Each Q c
    → AtOption Q (find p c)
found Q p [] h = tt
found Q p (x ∷ xs) h = picked Q x (p x) (find p xs) h.0 (found Q p xs h.1)

pub nothing : (a b : Kinds) → or_else a b ≡ [] → (a ≡ []) × (b ≡ [])
nothing a b e = grind arith

abbrev pub Keeps : (List Row → Type 0) → Bool → Rule → Type 0
Keeps G again a = (values : List Text) (rows : List Row) → use_fault again a values rows ≡ [] → G rows → G (used a values rows)

module _ (G : List Row → Type 0) (s : Shape) (names : Names) (each : Each (Keeps G s.args_override_self) s.rules) where
  abbrev K : Rule → Type 0
  K a = Keeps G s.args_override_self a

  settled_keeps : (p : Option (Text × List Text)) (rows : List Row)
      → option_map_or (λ p. option_map_or (λ a. use_fault s.args_override_self a p.1 rows) (arg_by_id s.rules p.0) []) p [] ≡ []
      → G rows → G (settled_rows s.rules p rows)
  settled_keeps p rows e g = grind (arith, found, K)

  reacted_keeps : (a : Rule) (vs : List Text) (h : Held) → K a
      → react_fault s.rules s.args_override_self a vs h ≡ [] → G h.rows
      → G (reacted s.rules a vs h).rows
  reacted_keeps a vs h k e g = let p = nothing _ _ e in k vs (settled s.rules h).rows p.1 (settled_keeps h.pending h.rows p.0 g)

  option_keeps : (a : Rule) (v : Option Text) (h : Held) → K a
      → option_fault s.rules s.args_override_self a v h ≡ [] → G h.rows
      → G (option_met s.rules a v h).0.rows
  option_keeps a (Some v) h k e g = reacted_keeps a (v ∷ []) h k e g
  option_keeps a None h k e g = settled_keeps h.pending h.rows e g

  long_by : (b : Bool) (a : Rule) (v : Option Text) (h : Held) → K a
      → (if b then option_fault s.rules s.args_override_self a v h else (if is_some v then kind.TooManyValues ∷ [] else react_fault s.rules s.args_override_self a [] h)) ≡ []
      → G h.rows → G (if b then option_met s.rules a v h else flag_met s.rules a v h).0.rows
  long_by true a v h k e g = option_keeps a v h k e g
  long_by false a (Some v) h k e g = g
  long_by false a None h k e g = reacted_keeps a [] h k e g

  long_keeps : (o : Option Rule) (v : Option Text) (h : Held) → AtOption K o
      → long_fault s.rules s.args_override_self o v h ≡ [] → G h.rows
      → G (long_met s.rules o v h).0.rows
  long_keeps o v h k e g = grind (arith, long_by)

  short_by : (b : Bool) (a : Rule) (rest : Text) (h : Held) (f : Held → Kinds) (m : Held
      → Held × Outcome) → K a
      → (if b then option_fault s.rules s.args_override_self a (attached_value rest) h else or_else (react_fault s.rules s.args_override_self a [] h) (f (reacted s.rules a [] h))) ≡ []
      → ((x : Held) → f x ≡ [] → G x.rows → G (m x).0.rows)
      → G h.rows
      → G (if b then option_met s.rules a (attached_value rest) h else m (reacted s.rules a [] h)).0.rows
  short_by b a rest h f m k e go g = grind (arith, option_keeps a (attached_value rest) h k, nothing, reacted_keeps a [] h k)

  bundle_by : (o : Option ℕ) (flags : Text) (skip : ℕ) (so_far : Outcome) (h : Held) (f : Text → ℕ
      → Held → Kinds) (m : Text → ℕ → Outcome → Held → Held × Outcome)
      → bundle_step_fault s.rules s.args_override_self o flags skip h f ≡ []
      → ((t : Text) (i : ℕ) (so : Outcome) (x : Held) → f t i x ≡ [] → G x.rows
      → G (m t i so x).0.rows)
      → G h.rows → G (bundle_step s.rules o flags skip so_far h m).0.rows
  bundle_by o flags skip so_far h f m e go g = grind (arith, found, K, short_by)

  bundle_keeps : (n : ℕ) (flags : Text) (skip : ℕ) (so_far : Outcome) (h : Held)
      → flags_fault s.rules s.args_override_self n flags skip h ≡ [] → G h.rows
      → G (bundle_met s.rules n flags skip so_far h).0.rows
  unfolding bundle_met flags_fault
  bundle_keeps zero flags skip so_far h e g = g
  bundle_keeps (suc n) flags skip so_far h e g = grind (arith, bundle_by, bundle_keeps n)

  after_keeps : (waiting : Waiting) (word : Text) (h : Held) (o : Outcome) → G h.rows
      → G (after_flag s.rules waiting word h o).0.rows
  after_keeps waiting word h o g = grind arith

  flag_word_keeps : (l : Option (Text × Option Text)) (waiting : Waiting) (word : Text) (h : Held)
      → flag_word_fault s.rules s.args_override_self l word h ≡ [] → G h.rows
      → G (long_or_other s.rules waiting word l h).0.rows
  flag_word_keeps l waiting word h e g = grind (arith, found, K, long_keeps, after_keeps, bundle_keeps)

  met_keeps : (b : Bool) (waiting : Waiting) (position : ℕ) (word : Text) (h : Held)
      → word_fault s names b waiting word h ≡ [] → G h.rows
      → G (word_met s.rules names b waiting position word h).0.rows
  met_keeps b waiting position word h e g = grind (arith, flag_word_keeps)

  step_keeps : (t : Step) (word : Text) (w : Walk) (h : Held) → step_fault s w.position h t ≡ []
      → G h.rows → G (after_step s.rules word w h t).held.rows
  step_keeps t word w h e g = grind (arith, settled_keeps)

  turn_keeps : (w : Walk) (word : Text) → turn_fault s names w word ≡ [] → G w.held.rows
      → G (walked s.rules names w word).held.rows
  unfolding walked
  turn_keeps w word e g = grind (arith, nothing, met_keeps, step_keeps)

  pub walk_keeps : (words : List Text) (w : Walk) → walk_fault s names w words ≡ [] → G w.held.rows
      → G (fold (walked s.rules names) w words).held.rows
  unfolding walk_fault
  walk_keeps [] w e g = g
  walk_keeps (word ∷ rest) w e g = let p = nothing _ _ e in walk_keeps rest (walked s.rules names w word) p.1 (turn_keeps w word p.0 g)

  pub settle_keeps : (h : Held) → settle_fault s.rules s.args_override_self h ≡ [] → G h.rows
      → G (settled s.rules h).rows
  settle_keeps h e g = settled_keeps h.pending h.rows e g

pub defaults_keep : (G : List Row → Type 0) (c : List Rule) (rows : List Row)
    → Each (λ a. (rows : List Row) → G rows → G (with_default rows a)) c → G rows
    → G (fold with_default rows c)
defaults_keep G [] rows each g = g
defaults_keep G (a ∷ c) rows each g = defaults_keep G c (with_default rows a) each.1 (each.0 rows g)
