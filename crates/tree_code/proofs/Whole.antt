-- The code of a whole expression gives its value, with or without a kept path and kept lists.
use Rattle.tree_code.proofs.Prelude.{◌≡◌, ℕ, ◌+◌, ◌*◌, ◌^◌, ◌<◌, ◌≤◌, Bool, List, [], ◌∷◌, ◌++◌, length, Option, Some, None, refl, ap, arith, Insn, R0, R1, Image, Core, plain_tree, Environment, Roots, meaning, need, nodes, name_leaf, field_tail, Context, RunContext, kept_path_code, HasText, store, RootField, nothing_kept, with_path, AreInsns, size, IsScope, Variable, scope_setting, field_insns, insns_append, leaf_insns, name_near, paths_give, texts_of, texts_of_each, address_of, code_with, first_path, front_of, keeping_code, path_or, plain_code, shorter, whole_code, Computes, Ready, TextsStand, environment_in, scope_context, cost, HasLiterals, gives_within, word_limit, part_slots_per_node, call_reach, node_limit, memo_limit, ◌-◌, Cores, Evaluates, FrameUse, clear_code, clear_insns, code_keeping, code_of, false, keeping, kept_lists, kept_lists_give, list_limit, part_charge_per_unit, part_steps_per_visit, spent_by, take, with_lists, with_lists_of, limit_with_path}
use Rattle.cel_macros.specs.CoreTree as core
use Rattle.tree_code.proofs.Parts.{texts_back, texts_front}
use Rattle.tree_code.proofs.CodeInsns.{AreNear, AreWithin, address_small, code_insns}
use Rattle.tree_code.proofs.Computed.{part_gives, visited, AreRoutines}
use Rattle.tree_code.proofs.Lengths.{clear_size, short_code, size_append}

-- ---- the path's field is one of the texts

module _ (constants : List ℕ) (texts : List (List ℕ)) (path : RootField) where
  abbrev Stands : Type 0
  Stands = HasText constants (address_of texts path.field) path.field

  path_stands : (a : Core) (f : List ℕ) (other : Option RootField) → path_or a f other ≡ Some path → (other ≡ Some path → Stands)
      → HasText constants (address_of texts f) f → Stands
  path_stands a f other is later here = grind arith

  first_stands : (e : Core) → first_path e ≡ Some path → TextsStand constants texts (texts_of e) → Stands
  unfolding first_path texts_of
  first_stands (core.select a f) is stand =
      let below = texts_front constants texts (texts_of a) (f ∷ []) stand in
      path_stands a f (first_path a) is (λ h. first_stands a h below) (texts_back constants texts (texts_of a) (f ∷ []) stand).0
  first_stands (core.has a f) is stand = first_stands a is (texts_front constants texts (texts_of a) (f ∷ []) stand)
  first_stands (core.index a b) is stand = first_stands a is (texts_front constants texts (texts_of a) (texts_of b) stand)
  first_stands (core.method a n arguments) is stand = first_stands a is (texts_front constants texts (texts_of a) (texts_of_each arguments) stand)
  first_stands (core.unary op a) is stand = first_stands a is stand
  first_stands (core.binary op a b) is stand = first_stands a is (texts_front constants texts (texts_of a) (texts_of b) stand)
  first_stands (core.ternary c a b) is stand = first_stands c is (texts_front constants texts (texts_of c) (texts_of a ++ texts_of b) stand)
  first_stands (core.fold m n r e) is stand = first_stands r is (texts_front constants texts (texts_of r) (texts_of e) stand)
  first_stands (core.fold_map n r e t) is stand = first_stands r is (texts_front constants texts (texts_of r) (texts_of e ++ texts_of t) stand)
  first_stands _ is stand = absurd (cc)

-- ---- the frame has a further word for it

front_is : (e : Core) (path : RootField) → front_of e ≡ Some path → (1 + need e ≤ word_limit) × (first_path e ≡ Some path) × (length (kept_lists e) ≤ limit_with_path)
front_is e path is = grind arith

-- ---- which of the two pieces of code it is

module _ (e : Core) (ts : List (List ℕ)) (rs : List (List ℕ × ℕ)) (p : ℕ) where
  pub whole_plain : None ≡ front_of e → plain_code e ts rs p ≡ whole_code e ts rs p
  unfolding whole_code
  whole_plain front = ap (λ (o : Option RootField). code_with o e ts rs p) front

  pub whole_keeping : (path : RootField) → Some path ≡ front_of e → shorter (plain_code e ts rs p) (keeping_code path e ts rs p) ≡ whole_code e ts rs p
  unfolding whole_code
  whole_keeping path front = ap (λ (o : Option RootField). code_with o e ts rs p) front

-- a fact that holds for both pieces holds for the shorter one
shorter_has : (P : List Insn → Type 0) (first second : List Insn) → P first → P second → P (shorter first second)
shorter_has P first second h g = grind arith

-- ---- its slots

few_taken : (lists : List Cores) → length (take list_limit lists) ≤ list_limit
few_taken [] = omega arith
few_taken (a ∷ []) = omega arith
few_taken (a ∷ b ∷ []) = omega arith
few_taken (a ∷ b ∷ d ∷ []) = omega arith
few_taken (a ∷ b ∷ d ∷ f ∷ more) = omega arith

-- a frame keeps few lists
few_lists : (e : Core) → length (kept_lists e) ≤ list_limit
few_lists e = few_taken (with_lists_of false [] e)

pub short_keeping : (lists : List Cores) (e : Core) (ts : List (List ℕ)) (rs : List (List ℕ × ℕ)) (words : FrameUse) (k p : ℕ) → length lists ≤ list_limit
    → size (code_keeping lists e ts rs words k p) + 4 ≤ part_slots_per_node * nodes e
short_keeping lists e ts rs words k p few =
    let rest = code_of e ts rs (with_lists lists words) k (p + length lists) in
    let all = size_append (clear_code 0 (length lists)) rest in
    let front = clear_size 0 (length lists) in
    let short = short_code e ts rs (with_lists lists words) k (p + length lists) in
    omega (arith, all, front, short, few)

module _ (e : Core) (ts : List (List ℕ)) (rs : List (List ℕ × ℕ)) (p : ℕ) where
  with_short : (o : Option RootField) → size (code_with o e ts rs p) ≤ size (plain_code e ts rs p)
  with_short o = grind arith

  -- the code of a whole expression is not longer than the code without a kept path
  pub whole_less : size (whole_code e ts rs p) ≤ size (plain_code e ts rs p)
  unfolding whole_code
  whole_less = with_short (front_of e)

  -- the code of a whole expression has at most 63 slots for each node, less 4
  pub whole_short : size (whole_code e ts rs p) + 4 ≤ part_slots_per_node * nodes e
  unfolding whole_code
  whole_short =
      let plain = short_keeping (kept_lists e) e ts rs nothing_kept 0 p (few_lists e) in
      let less = with_short (front_of e) in
      omega (arith, plain, less)

-- ---- its instructions

path_insns : (path : RootField) (address : ℕ) (rest : List Insn) → address < 2 ^ 64 → AreInsns rest → AreInsns (kept_path_code path address rest)
path_insns path address rest small insns =
    let root = leaf_insns (name_leaf path.root []) R1 (name_near path.root [] (λ k is. absurd (cc))) in
    let tail = field_tail address (length path.field) in
    (root.0, insns_append tail (store 0 R0 ∷ rest) (field_insns address (length path.field) small) (omega arith, insns))

module _ (ts : List (List ℕ)) (rs : List (List ℕ × ℕ)) (near : AreNear rs) (e : Core) (p : ℕ)
    (fits : need e ≤ word_limit) (few : nodes e ≤ node_limit) (inside : p + 10 + part_slots_per_node * nodes e ≤ call_reach) (literals : HasLiterals (plain_tree e)) where
  keeping_insns : (lists : List Cores) (words : FrameUse) (k q : ℕ) → length lists ≤ list_limit → AreWithin (with_lists lists words) → k + need e ≤ word_limit → q ≤ p + 6
      → AreInsns (code_keeping lists e ts rs words k q)
  keeping_insns lists words k q short within room near_q =
      insns_append (clear_code 0 (length lists)) (code_of e ts rs (with_lists lists words) k (q + length lists)) (clear_insns 0 (length lists) (omega (arith, short)))
      (code_insns ts rs near e (with_lists lists words) k (q + length lists) within room few (omega (arith, inside, short, near_q)) literals)

  outside_within : (lists : List Cores) (words : FrameUse) → words.items ≡ [] → length lists ≤ list_limit → AreWithin (with_lists lists words)
  outside_within lists words none short = record { items = λ n k is. absurd (cc); lists = omega (arith, short) }

  plain_insns : AreInsns (plain_code e ts rs p)
  plain_insns =
      keeping_insns (kept_lists e) nothing_kept 0 p (few_lists e) (outside_within (kept_lists e) nothing_kept refl (few_lists e)) (omega (arith, fits)) (omega arith)

  with_insns : (o : Option RootField) → front_of e ≡ o → AreInsns (code_with o e ts rs p)
  with_insns None front = plain_insns
  with_insns (Some path) front =
      let parts = front_is e path front in
      let rest = keeping_insns (kept_lists e) (with_path path) 1 (p + 6) (few_lists e) (outside_within (kept_lists e) (with_path path) refl (few_lists e)) parts.0 (omega arith) in
      shorter_has AreInsns (plain_code e ts rs p) (keeping_code path e ts rs p) plain_insns (path_insns path (address_of ts path.field) _ (address_small ts path.field) rest)

  -- it can be encoded if a frame has enough words for it, its nodes are few, and calls from it reach the routines
  pub whole_insns : AreInsns (whole_code e ts rs p)
  unfolding whole_code
  whole_insns = with_insns (front_of e) refl

-- ---- its value

module _ (image : Image) (deep : Bool) (roots : Roots) (constants : List ℕ) (scope later : List Variable) (rs : List (List ℕ × ℕ))
    (same : AreRoutines rs scope) (texts : List (List ℕ)) (depth p : ℕ) (e : Core) (is : IsScope image deep roots constants scope) (few : length scope ≤ memo_limit) (literals : HasLiterals (plain_tree e)) where
  abbrev pub s : RunContext
  s = scope_setting image deep scope

  abbrev pub c : Context
  c = scope_context roots [] nothing_kept constants (scope ++ later)

  abbrev pub env : Environment
  env = environment_in roots [] scope

  abbrev pub Meant : List Insn → Type 0
  Meant piece = Computes s p piece c depth 0 (meaning (plain_tree e) env) (cost (plain_tree e) env)

  -- the context with these words
  abbrev with_words : FrameUse → Context
  with_words words = scope_context roots [] words constants (scope ++ later)

  module _ (ready : Ready s scope texts c depth 0 e (cost (plain_tree e) env).is_deep) where
    ready_with : (words : FrameUse) (k : ℕ) → k + need e ≤ word_limit → Ready s scope texts (with_words words) depth k e (cost (plain_tree e) env).is_deep
    ready_with words k room = record { accepted = ready.accepted; frames = ready.frames; room = room; texts_stand = ready.texts_stand; may = ready.may }

    -- the words of the lists are emptied in a step each
    keeping_gives : (lists : List Cores) (words : FrameUse) (k q : ℕ) → length lists ≤ list_limit → k + need e ≤ word_limit → k ≤ word_limit
        → Evaluates s q (code_keeping lists e texts rs words k q) (keeping [] (with_words words)) depth k (meaning (plain_tree e) env)
        (length lists + (part_steps_per_visit * (cost (plain_tree e) env).visits - 8)) (part_charge_per_unit * spent_by (cost (plain_tree e) env) - 8)
    keeping_gives lists words k q short room low =
        kept_lists_give.cleared s q (with_words words) depth k lists _ _ _ _ low (omega (arith, short))
        (part_gives image deep roots constants scope later rs same texts [] (with_lists lists words) depth k (q + length lists) e is few literals (ready_with (with_lists lists words) k room))

    plain_gives : Meant (plain_code e texts rs p)
    plain_gives =
        let some = visited (plain_tree e) env in
        let short = few_lists e in
        let room = ready.room in
        gives_within s p (plain_code e texts rs p) c depth 0 _ _ _ _ _ (omega (arith, some, short)) (omega arith)
        (keeping_gives (kept_lists e) nothing_kept 0 p short room (omega arith))

    with_gives : (o : Option RootField) → front_of e ≡ o → Meant (code_with o e texts rs p)
    with_gives None front = plain_gives
    with_gives (Some path) front =
        let parts = front_is e path front in
        let short = few_lists e in
        let rest = keeping_gives (kept_lists e) (with_path path) 1 (p + 6) short parts.0 (omega arith) in
        let some = visited (plain_tree e) env in
        shorter_has Meant (plain_code e texts rs p) (keeping_code path e texts rs p) plain_gives
        (gives_within s p (keeping_code path e texts rs p) c depth 0 _ _ _ _ _ (let beside = parts.2 in omega (arith, some, beside)) (omega (arith, some))
        (paths_give.kept s p depth (address_of texts path.field) path _ c.environment constants _ _ _ (first_stands constants texts path e parts.1 ready.texts_stand) rest))

    -- It gives the expression's value within 128 steps a visit and 16 times the cost. The parts of an expression take
    -- 120 and 15 of these, the path takes 6 steps and 1 of charge, and each list that is kept takes a step.
    pub whole_gives : Meant (whole_code e texts rs p)
    unfolding whole_code
    whole_gives = with_gives (front_of e) refl
