-- The value that code gives as an emitter makes it.
use Rattle.tree_code.proofs.Prelude.{◌≡◌, ℕ, ◌+◌, ◌≤◌, Bool, true, List, [], ◌∷◌, ◌++◌, length, append-nil, refl, sym, ap, ◌∙◌, arith, map as each, pos, zip, length-map, map-append, Image, Core, Cores, CoreEntries, no_cores, more_cores, no_core_entries, more_core_entries, variable, select, has, index, call, method, unary, binary, ternary, list, fold, fold_map, plain_tree, Roots, lookup, meaning, deepest, deepest_of, entries_deepest, depth, Declaration, depths_of, nothing_kept, IsScope, Variable, scope_setting, wider_gives, scope_begins, scope_grows, routine_named, texts_of, whole_code, Computes, Ready, TextsStand, environment_in, names, nestings, routines, scope_context, variable_of, with_texts, IsDeep, cost, AreShallow, AreTaken, ExpressionGives, FramesAreEnough, HasConstants, IsEmittable, VariableIsTaken, VariableJoins, RoutineGives, RoutineIsPassed, routines_of, ints, ja, size, slots, size-cons, stands_first, done, jump, passed, variable_depth_limit, record_limit, memo_limit}
use Rattle.std.specs.Prelude.{unwrap_or}
use Rattle.cel_macros.specs.CoreTree.{map}
use Rattle.tree_code.proofs.Accepted.{names_declared, typed_accepted}
use Rattle.tree_code.proofs.Lent.{texts_stand}
use Rattle.tree_code.proofs.Computed.{AreRoutines}
use Rattle.tree_code.proofs.Whole.{whole_gives}

-- ---- the routines of a scope's variables

zip_behind : (scope : List Variable) (ns : List (List ℕ)) (more : List ℕ)
    → zip (names scope ++ ns) (each (λ v. v.routine) scope ++ more) ≡ routines scope ++ zip ns more
zip_behind [] ns more = refl
zip_behind (v ∷ scope) ns more = ap (λ (rs : List (List ℕ × ℕ)). (v.name, v.routine) ∷ rs) (zip_behind scope ns more)

-- they come first among the routines of all declarations
routines_first : (slots : List ℕ) (first rest : List Declaration) (scope later : List Variable) → AreTaken slots first scope later
    → routines_of (first ++ rest) slots ≡ routines scope ++ zip (each (λ d. d.name) rest) (each (λ v. v.routine) later)
routines_first slots first rest scope later taken =
    rw (map-append, ← taken.slots_are, map-append, ← names_declared scope first taken.depths_are)
    (zip_behind scope (each (λ d. d.name) rest) (each (λ v. v.routine) later))

pub routines_are : (slots : List ℕ) (ds : List Declaration) (scope later : List Variable) → AreTaken slots ds scope later
    → routines_of ds slots ≡ routines scope
routines_are slots ds scope later taken = simp append-nil at (routines_first slots ds [] scope later taken)

-- each is found by its name
named_first : (behind : List (List ℕ × ℕ)) (scope : List Variable) → AreRoutines (routines scope ++ behind) scope
named_first behind [] n h = absurd (cc)
named_first behind (u ∷ scope) n h = grind (arith, named_first behind scope n)

pub routines_found : (slots : List ℕ) (ds first rest : List Declaration) (scope later : List Variable) → ds ≡ first ++ rest
    → AreTaken slots first scope later → AreRoutines (routines_of ds slots) scope
routines_found slots ds first rest scope later whole taken n h =
    ap (λ (all : List Declaration). routine_named n (routines_of all slots)) whole
    ∙ ap (routine_named n) (routines_first slots first rest scope later taken)
    ∙ named_first (zip (each (λ d. d.name) rest) (each (λ v. v.routine) later)) scope n h

-- ---- no expression uses a variable that is deeper than all declared ones

shallow_named : (n : List ℕ) (ds : List Declaration) → AreShallow ds → unwrap_or (lookup n (depths_of ds)) 0 ≤ variable_depth_limit
shallow_named n [] h = omega arith
shallow_named n (d ∷ ds) h = grind (arith, shallow_named n ds)

module _ (ds : List Declaration) (shallow : AreShallow ds) where
  mutual
    unfolding deepest

    deepest_within : (e : Core) → deepest e (depths_of ds) ≤ variable_depth_limit
    deepest_within (variable v) = shallow_named v ds shallow
    deepest_within (select a f) = deepest_within a
    deepest_within (has a f) = deepest_within a
    deepest_within (index a k) = let first = deepest_within a in let second = deepest_within k in omega arith
    deepest_within (call n arguments) = each_within arguments
    deepest_within (method a n arguments) = let first = deepest_within a in let rest = each_within arguments in omega arith
    deepest_within (unary op a) = deepest_within a
    deepest_within (binary op a b) = let first = deepest_within a in let second = deepest_within b in omega arith
    deepest_within (ternary c a b) = let first = deepest_within c in let second = deepest_within a in let third = deepest_within b in omega arith
    deepest_within (list items) = each_within items
    deepest_within (map es) = entries_within es
    deepest_within (fold m n r p) = let first = deepest_within r in let second = deepest_within p in omega arith
    deepest_within (fold_map n r p t) = let first = deepest_within r in let second = deepest_within p in let third = deepest_within t in omega arith
    deepest_within _ = omega arith

    each_within : (es : Cores) → deepest_of es (depths_of ds) ≤ variable_depth_limit
    each_within no_cores = omega arith
    each_within (more_cores a more) = let first = deepest_within a in let rest = each_within more in omega arith

    entries_within : (es : CoreEntries) → entries_deepest es (depths_of ds) ≤ variable_depth_limit
    entries_within no_core_entries = omega arith
    entries_within (more_core_entries k v more) = let first = deepest_within k in let second = deepest_within v in let rest = entries_within more in omega arith

-- ---- readiness

module _ (image : Image) (deep : Bool) (roots : Roots) (constants : List ℕ) (ds : List Declaration) (scope later : List Variable) (e : Core) (is : IsEmittable ds e) (depths : nestings scope ≡ depths_of ds) (may : IsDeep (plain_tree e) (environment_in roots [] scope) → deep ≡ true) (paid : List Variable) where
  pub ready : (known : List (List ℕ)) → TextsStand constants known (texts_of e) → (frame : ℕ) → frame + deepest e (depths_of ds) ≤ record_limit
      → Ready (scope_setting image deep paid) scope known (scope_context roots [] nothing_kept constants (scope ++ later)) frame 0 e (cost (plain_tree e) (environment_in roots [] scope)).is_deep
  ready known stand frame near = grind (arith, names_declared, typed_accepted, texts_stand)

-- the texts that were added are among the constants
pub known_stand : (constants : List ℕ) (texts : List (List ℕ)) (e : Core) → HasConstants constants texts e
    → TextsStand constants (with_texts texts (texts_of e)) (texts_of e)
known_stand constants texts e holds = rw holds.constants_are (texts_stand texts (texts_of e) holds.more (rw holds.constants_are at holds.few))

pub frames_are_enough : FramesAreEnough
frames_are_enough ds e shallow = deepest_within ds shallow e

module _ (texts : List (List ℕ)) (slots : List ℕ) (ds : List Declaration) (rs : List (List ℕ × ℕ)) (e : Core) (p : ℕ) (is : IsEmittable ds e) (image : Image) (deep : Bool) (roots : Roots) (constants : List ℕ) (scope later : List Variable) (frame : ℕ) where
  -- the code finds the routines of the scope's variables in this list
  pub gives_among : AreRoutines rs scope → AreTaken slots ds scope later → frame + deepest e (depths_of ds) ≤ record_limit → length scope ≤ memo_limit → HasConstants constants texts e
      → IsScope image deep roots constants scope → let env = environment_in roots [] scope in (IsDeep (plain_tree e) env → deep ≡ true)
      → Computes (scope_setting image deep scope) p (whole_code e (with_texts texts (texts_of e)) rs p)
      (scope_context roots [] nothing_kept constants (scope ++ later)) frame 0 (meaning (plain_tree e) env) (cost (plain_tree e) env)
  gives_among same taken near few holds scoped may =
      let known = with_texts texts (texts_of e) in
      whole_gives image deep roots constants scope later rs same known frame p e scoped few is.literals
      (ready image deep roots constants ds scope later e is taken.depths_are may scope known (known_stand constants texts e holds) frame near)

pub expression_gives : ExpressionGives
expression_gives texts slots ds e p is image deep roots constants scope later frame taken =
    gives_among texts slots ds (routines_of ds slots) e p is image deep roots constants scope later frame (λ n h. ap (routine_named n) (routines_are slots ds scope later taken)) taken

-- the routine of a variable extends the scope
pub routine_gives : RoutineGives
routine_gives image deep roots constants scope later texts name p e is few literals ready stands =
    scope_grows image deep roots constants (scope ++ later) (variable_of roots scope texts name e p) is (record {
      stands = stands;
      opens = omega arith;
      gives = λ depth room. wider_gives image deep scope later p _ _ (depth + 1) 0 _ _ _ (whole_gives image deep roots constants scope later (routines scope) (λ n h. refl) texts (depth + 1) p e (scope_begins image deep roots constants scope later is) few literals (grind arith));
    })

pub variable_joins : VariableJoins
variable_joins texts slots ds e p is image deep roots constants scope later n taken shallow few holds scoped may stands =
    let known = with_texts texts (texts_of e) in
    let count : length slots ≡ length (scope ++ later) = ap length (sym taken.slots_are) ∙ length-map (scope ++ later) (λ (v : Variable). v.routine) in
    routine_gives image deep roots constants scope later known n p e scoped few is.literals
    (ready image deep roots constants ds scope later e is taken.depths_are may (scope ++ later) known (known_stand constants texts e holds) 1 (omega arith))
    (rw (count, routines_are slots ds scope later taken) at stands)

pub variable_is_taken : VariableIsTaken
variable_is_taken texts slots ds e p roots scope n t taken = grind (arith, append-nil, map-append)

-- ---- a routine inside other code, after a jump over it

pub routine_is_passed : RoutineIsPassed
routine_is_passed s p piece b stands =
    jump s p (p + size (passed piece)) b (pos (size piece)) (stands_first s.image.code p (ja (size piece)) piece stands)
    (omega (arith, ints, size-cons (ja (size piece)) piece)) (done s (p + size (passed piece)) b _ refl)
