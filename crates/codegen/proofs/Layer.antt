-- The code that an emitter adds.
use Rattle.codegen.proofs.Prelude.{◌≡◌, ℕ, ◌+◌, ◌<◌, ◌≤◌, ◌⊎◌, Bool, true, List, [], ◌∷◌, ◌++◌, length, refl, sym, ap, ◌∙◌, arith, ◌*◌, false, inl, inr, cases_lt, length-append, suc, subst, and_from, and_parts, le-leb, leb-true, nat_le, saturated, if◌then◌else◌, map as each, All, length-map, Core, variable, plain_tree, deepest, need, depth, nodes, Declaration, depths_of, declared, FrameUse, Variable, Returns, first_use, texts_of, whole_code, routine_code, Computes, environment_in, routines, with_texts, spent_by, AreTaken, EmitsRoutine, HasConstants, IsEmittable, Emitted, with_piece, without_code, HasLiterals, routines_of, Insn, ja, size, AreInsns, IsCodeAt, slots, size-append, size-cons, stands_rest, looser, to_place, passed, code_at, has_room, with_counted, with_expression, with_variable, Value, memo_tail, insns_append, memo_insns, routine_returns, EmitsExpression, EmitsVariable, HasRoutines, Running, Suits, LacksRoom, caller_context, context, cost_in, meaning_in, next_routine, next_variable, setting, variable_depth_limit, record_limit, memo_limit, word_limit, slot_reach, code_limit, node_limit, call_reach, part_slots_per_node, steps_per_visit, charge_per_unit}
use Rattle.tree_code.proofs.Computed.{visited}
use Rattle.tree_code.proofs.Whole.{whole_insns, whole_short}
use Rattle.tree_code.proofs.CodeInsns.{AreLow, AreNear, near_named}
use Rattle.tree_code.proofs.Layer.{gives_among, routine_is_passed, routines_are, routines_found, variable_is_taken, variable_joins}

pub emits_routine : (old : Emitted) (ds : List Declaration) (e : Core) → need e ≤ word_limit → HasLiterals (plain_tree e) → EmitsRoutine old ds e
emits_routine old ds e fits literals t typed =
    let slot = length old.code + 1 in (
      variable_joins old.constants old.routines ds e slot (record { cel_type = t; has_type = typed; literals = literals; fits = fits }),
      variable_is_taken old.constants old.routines ds e slot,
    )

-- ---- the code of an emitter after an expression or a variable is added

pub low_each : (slots : List ℕ) → All (λ slot. slot ≤ slot_reach) slots → AreLow slots
low_each [] h = tt
low_each (s ∷ slots) h = (h 0 0 (omega arith), low_each slots (λ k d inside. h (suc k) d (omega arith)))

-- there is room
room_is : (e : Emitted) → e.nodes ≤ node_limit → length e.code ≤ code_limit → has_room e ≡ true
room_is e few near = and_from (nat_le e.nodes node_limit) (nat_le (length e.code) code_limit) (le-leb e.nodes node_limit few) (le-leb (length e.code) code_limit near)

-- the bounds within which there is room
room_within : (e : Emitted) → has_room e ≡ true → (e.nodes ≤ node_limit) × (length e.code ≤ code_limit)
room_within e room =
    let parts = and_parts (nat_le e.nodes node_limit) (nat_le (length e.code) code_limit) room in
    (leb-true e.nodes node_limit parts.0, leb-true (length e.code) code_limit parts.1)

module _ (old : Emitted) (ds : List Declaration) (e : Core) (few : 2 * length old.routines ≤ old.nodes) (low : AreLow old.routines) (fits : need e ≤ word_limit) (literals : HasLiterals (plain_tree e)) where
  abbrev known : List (List ℕ)
  known = with_texts old.constants (texts_of e)

  abbrev table : List (List ℕ × ℕ)
  table = routines_of ds old.routines

  module _ (first : List Declaration) (r : Running) (suits : Suits old.routines known first e r) where
    is_expression : IsEmittable first e
    is_expression = record { cel_type = suits.cel_type; has_type = suits.has_type; literals = literals; fits = fits }

    has_constants : HasConstants r.constants old.constants e
    has_constants = record { more = suits.texts_are.later; constants_are = suits.texts_are.are; few = suits.texts_are.few }

    all_taken : length (r.scope ++ r.later) ≡ length old.routines
    all_taken = sym (length-map (r.scope ++ r.later) (λ (v : Variable). v.routine)) ∙ ap length suits.taken.slots_are

    scope_few : old.nodes ≤ node_limit → length r.scope ≤ memo_limit
    scope_few most = grind (arith, all_taken, length-append)

  -- ---- its instructions

  near : old.nodes ≤ node_limit → AreNear table
  near most name found is = grind (arith, near_named)

  piece_spells : (p : ℕ) → p + 10 + part_slots_per_node * nodes e ≤ call_reach → nodes e ≤ node_limit → old.nodes ≤ node_limit → AreInsns (whole_code e known table p)
  piece_spells p here short most = whole_insns known table (near most) e p fits short here literals

  -- the code with all declarations, if the type checker accepts the expression with the first ones
  computed : (first rest : List Declaration) (r : Running) (p frame : ℕ) → old.nodes ≤ node_limit → ds ≡ first ++ rest → Suits old.routines known first e r
      → HasRoutines r r.scope → frame + deepest e (depths_of first) ≤ record_limit
      → Computes (setting r) p (whole_code e known table p) (context r) frame 0 (meaning_in r e) (cost_in r e)
  computed first rest r p frame most whole suits scoped near =
      gives_among old.constants old.routines first table e p (is_expression first r suits) r.image r.is_deep r.roots r.constants r.scope r.later frame
      (routines_found old.routines ds first rest r.scope r.later whole suits.taken) suits.taken near (scope_few first r suits most)
      (has_constants first r suits) scoped suits.may

  -- ---- an expression

  -- code is left out only if there is no room for n nodes
  no_room_by : (n : ℕ) → has_room (with_counted old e n) ≡ false → (node_limit < old.nodes + n) ⊎ (old.nodes + n ≤ node_limit)
      → (code_limit < length old.code) ⊎ (length old.code ≤ code_limit) → LacksRoom old n
  no_room_by n none (inl many) far = inl many
  no_room_by n none (inr few) (inl far) = inr far
  no_room_by n none (inr few) (inr near) = let yes = room_is (with_counted old e n) (omega (arith, few)) near in absurd (cc)

  no_room : (n : ℕ) → has_room (with_counted old e n) ≡ false → LacksRoom old n
  no_room n none = no_room_by n none (cases_lt node_limit (old.nodes + n)) (cases_lt code_limit (length old.code))

  abbrev added : Emitted
  added = with_counted old e (nodes e)

  expression_by : (here : Bool) → has_room added ≡ here
      → EmitsExpression old (if here then with_piece added (code_at added ds e (length old.code)) else without_code added) ds e
  expression_by true room =
      let within = room_within added room in
      inl (grind (arith, within, whole_short, piece_spells, near, computed))
  expression_by false room = inr (no_room (nodes e) room, inr refl)

  pub emits_expression : EmitsExpression old (with_expression old ds e) ds e
  emits_expression = expression_by (has_room added) refl

  -- ---- a variable

  module _ (shallow : depth e (depths_of ds) ≤ variable_depth_limit) where
    abbrev slot : ℕ
    slot = next_routine old

    abbrev body : List Insn
    body = whole_code e known table slot

    abbrev routine : List Insn
    routine = routine_code e known table (length old.routines) slot

    joined_scope : (r : Running) (name : List ℕ) → old.nodes ≤ node_limit → Suits old.routines known ds e r → HasRoutines r (r.scope ++ r.later)
        → IsCodeAt r.image.code (length old.code) (passed routine) → HasRoutines r ((r.scope ++ r.later) ++ next_variable old body r.roots r.scope name e ∷ [])
    joined_scope r name most suits scoped stands =
        subst (λ (rs : List (List ℕ × ℕ)). HasRoutines r ((r.scope ++ r.later) ++ next_variable old (whole_code e known rs slot) r.roots r.scope name e ∷ [])) (sym (routines_are old.routines ds r.scope r.later suits.taken))
        (variable_joins old.constants old.routines ds e slot (is_expression ds r suits) r.image r.is_deep r.roots r.constants r.scope r.later name suits.taken shallow (scope_few ds r suits most) (has_constants ds r suits) scoped suits.may (stands_rest r.image.code (length old.code) (ja (size routine)) routine stands))

    -- the routine takes at most 128 steps a visit
    returned : (first rest : List Declaration) (r : Running) (name : List ℕ) (items : List (List ℕ × Value)) (words : FrameUse) (frame base : ℕ) → old.nodes ≤ node_limit
        → ds ≡ first ++ rest → Suits old.routines known first e r → HasRoutines r r.scope → frame + depth e (depths_of first) ≤ record_limit → base ≤ word_limit
        → IsCodeAt r.image.code (length old.code) (passed routine)
        → Returns (setting r) slot (length old.routines) (caller_context r items words name e) frame base (meaning_in r e) (steps_per_visit * (cost_in r e).visits) (charge_per_unit * spent_by (cost_in r e))
    returned first rest r name items words frame base most whole suits scoped near low stands =
        let v = next_variable old body r.roots r.scope name e in
        let all = all_taken first r suits in
        let behind = stands_rest r.image.code (length old.code) (ja (size routine)) routine stands in
        let here = subst (λ (i : ℕ). IsCodeAt r.image.code slot (body ++ memo_tail i)) (sym all) behind in
        let gives = computed first rest r slot (frame + 1) most whole suits scoped (omega (arith, near)) in
        let some = visited (plain_tree e) (environment_in r.roots [] r.scope) in
        rw (← all) (λ q b ready. looser (setting r) _ _ (omega (arith, some)) (omega arith) (routine_returns r.image r.is_deep (each first_use r.scope) r.roots r.constants (r.scope ++ r.later) v words items frame base here gives (omega (arith, all, few, most)) low (omega (arith, near)) q b ready))

    variable_by : (here : Bool) → has_room (with_counted old e (1 + nodes e)) ≡ here
        → EmitsVariable old (if here then record (with_piece (with_counted old e (1 + nodes e)) (passed (code_at (with_counted old e (1 + nodes e)) ds e slot ++ memo_tail (length old.routines)))) { routines = old.routines ++ slot ∷ [] } else without_code (with_counted old e (1 + nodes e))) ds e
    variable_by true room =
        let fit = room_within (with_counted old e (1 + nodes e)) room in
        let within : saturated (old.nodes + (1 + nodes e)) ≤ node_limit = fit.0 in
        let inside = fit.1 in
        let most : old.nodes ≤ node_limit = omega (arith, within) in
        let long = whole_short e known table slot in
        let both = size-append body (memo_tail (length old.routines)) in
        let first = size-cons (ja (size routine)) routine in
        inl (record {
          piece = passed routine;
          body = body;
          behind = refl;
          short = omega (arith, long, both, first);
          spells = λ constants are. (omega (arith, long, both, within), insns_append body (memo_tail (length old.routines)) (piece_spells slot (omega (arith, within, inside)) (omega (arith, within)) most) (memo_insns (length old.routines) (omega (arith, few, most))));
          passes = λ s b stands. to_place s (length (old.code ++ slots (passed routine))) (sym (length-append old.code (slots (passed routine)))) (routine_is_passed s (length old.code) routine b stands);
          returns = λ first rest r name items words frame base. returned first rest r name items words frame base most;
          joins = λ r name. joined_scope r name most;
          taken = λ roots scope name t taken.
              subst (λ (rs : List (List ℕ × ℕ)). AreTaken (old.routines ++ slot ∷ []) (ds ++ declared name t (depth e (depths_of ds)) ∷ []) (scope ++ next_variable old (whole_code e known rs slot) roots scope name e ∷ []) []) (sym (routines_are old.routines ds scope [] taken))
              (variable_is_taken old.constants old.routines ds e slot roots scope name t taken);
          counted = omega (arith, within);
          complete = refl;
        })
    variable_by false room = inr (no_room (1 + nodes e) room, inr refl)

    pub emits_variable : EmitsVariable old (with_variable old ds e) ds e
    emits_variable = variable_by (has_room (with_counted old e (1 + nodes e))) refl
