-- The program of a policy as it is emitted.
use Rattle.policy_code.proofs.Prelude.{◌≡◌, ℕ, zero, suc, ◌+◌, ◌-◌, ◌<◌, ◌≤◌, Bool, true, false, List, [], ◌∷◌, ◌++◌, length, map, take, drop, drop_more, get_or, Option, Some, None, Ok, refl, sym, ap, ◌∙◌, subst, arith, append_assoc, length-append, append-nil, ◌*◌, IsErrOf, take-append_seam, if◌then◌else◌, slice_get, slice_index_or, slice_set, option_map, fold, length-map, slice_get-map, slice_get_read, and_from, and_parts, nat_le, leb-true, le-leb, cases_lt, le-ltb, lt-ltb, slot_count, spelling, Insn, Tree, Core, expanded, core_view, CodeCore, depth, need, nodes, Declaration, declared, depths_of, scope_of, typing as type_of, code_at, has_room, with_counted, with_expression, passed, Emitted, with_insn_at, with_nodes, with_piece, without_code, no_code, HasTooManyTexts, IsTooLong, slot_spellings, routines_of, whole_short, size, slots, spellings, slots-append, size-append, size-cons, validation_expanded, validation_trees, variable_expanded, IsChecked, depth_in, scope_after, type_or_any, with_variable as with_declared, FitInOrder, MayFit, with_condition, with_conditions, with_decided, with_result, with_validation, with_validations, with_variables, with_way, emitted, denial_code, leave_error, message_tail, condition_tail, conditions_code, decided_code, decided_tail, if_true, message_code, outcome_tail, policy_code, result_code, routines_code, validation_code, validations_code, AreConditions, AreValidations, AreVariables, ValidationTree, VariableTree, PolicyTree, CheckedValidation, FailurePolicy, sum_by, fold-append, sum_by-cons, saturated, with_texts, joined, message_nodes, part_nodes, policy_nodes, policy_texts, validation_nodes, validation_texts, limit_passed, Laid, after_condition, after_conditions, after_variables, before_message, condition_codes, laid_conditions, laid_routines, message_codes, nothing_laid, texts_with, tree_code, validation_codes, variable_code, variable_codes, with_routine, with_slots, with_tree, with_message as with_message_laid, program_of, decided_slots, Exit, slot_spellings-append, slots_spelled, Checked, TooManyNodes, TooManyTextBytes, part_slot_limit, code_limit, node_limit, jump_limit, word_limit, variable_depth_limit, slot_limit, slots_per_node}
use Rattle.std.proofs.Common.{inl, inr, ◌⊎◌}
use Rattle.codegen.specs.Added.{with_variable}
use Rattle.policy_code.specs.Emission.{FitsFrame, with_message}
use Rattle.policy_code.proofs.MessageTails.{one_slot}
use Rattle.policy_code.proofs.Programs.Validations.{denial_size, message_tail_size, outcome_tail_size, result_size}
use Rattle.policy_code.proofs.Programs.Conditions.{tail_size}
use Rattle.policy_code.proofs.Programs.Sizes.{conditions_texts, message_texts_are, program_is_short, variables_texts}

-- ---- an expression

-- it has few slots, whether or not there is room for it
few_where : (room : Bool) (e : Emitted) (piece : List Insn) → (room ≡ true → size piece ≤ part_slot_limit) → length (if room then with_piece e piece else without_code e).code ≤ length e.code + part_slot_limit
few_where true e piece few = let counted = length-append e.code (slots piece) in let within = few refl in omega arith
few_where false e piece few = omega arith

pub few_slots : (e : Emitted) (scope : List Declaration) (tree : Core) → length (with_expression e scope tree).code ≤ length e.code + part_slot_limit
few_slots e scope tree =
    let counted = with_counted e tree (nodes tree) in
    few_where (has_room counted) counted (code_at counted scope tree (length e.code)) (λ room.
    let within : counted.nodes ≤ node_limit = leb-true counted.nodes node_limit (and_parts (nat_le counted.nodes node_limit) (nat_le (length e.code) code_limit) room).0 in
    let short = whole_short tree counted.constants (routines_of scope counted.routines) (length e.code) in
    omega (arith, within, short))

-- it follows the code that was already there
begins_where : (room : Bool) (e : Emitted) (piece : List Insn) → (more : List (Option Insn)) × ((if room then with_piece e piece else without_code e).code ≡ e.code ++ more)
begins_where true e piece = (slots piece, refl)
begins_where false e piece = ([], sym (append-nil e.code))

begins : (e : Emitted) (scope : List Declaration) (tree : Core) → (more : List (Option Insn)) × ((with_expression e scope tree).code ≡ e.code ++ more)
begins e scope tree =
    let counted = with_counted e tree (nodes tree) in
    begins_where (has_room counted) counted (code_at counted scope tree (length e.code))

-- ---- the jumps after a validation

get_behind : (xs ys : List (Option Insn)) (k : ℕ) → slice_get (xs ++ ys) (length xs + k) ≡ slice_get ys k
get_behind [] ys k = ap (slice_get ys) (omega arith)
get_behind (x ∷ xs) ys k = grind (arith, get_behind xs ys k)

set_here : (xs ys : List (Option Insn)) (x y : Option Insn) → slice_set (xs ++ x ∷ ys) (length xs) y ≡ xs ++ y ∷ ys
set_here [] ys x y = refl
set_here (z ∷ xs) ys x y = ap (λ (l : List (Option Insn)). z ∷ l) (set_here xs ys x y)

module _ (f : FailurePolicy) (i : ℕ) (scope : List Declaration) (tree : Core) (e e1 e2 e3 : Emitted) (jump : Insn) (denial : List Insn) (one : slot_count jump ≡ 1) (is : denial ≡ denial_code f i 0) (first : e1 ≡ with_piece e (jump ∷ [])) (second : e2 ≡ with_piece e1 denial) (third : e3 ≡ with_message i scope e2 tree) where
  abbrev rest : List (Option Insn)
  rest = (begins (with_nodes e2 1) scope tree).0 ++ slots (message_tail i)

  -- their slots once the message is emitted
  stands : e3.code ≡ e.code ++ Some jump ∷ (slots (denial_code f i 0) ++ rest)
  stands = grind (arith, begins, one, append_assoc)

  pub jump_stands : slice_get e3.code (length e.code) ≡ Some (Some jump)
  jump_stands =
      let start : length e.code ≡ length e.code + 0 = omega arith in
      ap (slice_get e3.code) start
      ∙ ap (λ (l : List (Option Insn)). slice_get l (length e.code + 0)) stands
      ∙ get_behind e.code (Some jump ∷ (slots (denial_code f i 0) ++ rest)) 0

  leave_in : (more : List (Option Insn)) → slice_get (Some jump ∷ (slots (denial_code f i 0) ++ more)) 5 ≡ Some (Some (leave_error f 4))
  unfolding denial_code
  leave_in more = refl

  -- the other jump, once the first one has its target
  pub leave_stands : (e4 : Emitted) (new : Insn) → e4 ≡ with_insn_at e3 (length e.code) new → slice_get e4.code (length e.code + 5) ≡ Some (Some (leave_error f 4))
  leave_stands e4 new put = grind (arith, stands, set_here, get_behind, leave_in)

  -- all of it is short
  pub few_between : (last : ℕ) → last + 1 ≡ length e3.code → (last - length e.code < jump_limit) × (length e.code + 5 ≤ last)
  few_between last at =
      let few = few_slots (with_nodes e2 1) scope tree in
      let begun = begins (with_nodes e2 1) scope tree in
      grind (arith, few, begun, length-append, one_slot jump one, denial_size, message_tail_size)

-- ---- variables

pub at_index : {A B : Type 0} (f : A → B) (xs : List A) (i : ℕ) (x : A) → i < length xs → x ≡ get_or xs i x → slice_get (map f xs) i ≡ Some (f x)
at_index f xs i x below is = slice_get-map f xs i ∙ ap (option_map f) (slice_get_read xs (length xs) i x refl below is)

pub take_more : {A B : Type 0} (f : A → B) (xs : List A) (i : ℕ) (x : A) → i < length xs → x ≡ get_or xs i x → take (i + 1) (map f xs) ≡ take i (map f xs) ++ f x ∷ []
take_more f [] i x below is = absurd (omega arith)
take_more f (y ∷ ys) zero x below is = ap (λ z. f z ∷ []) (sym is)
take_more f (y ∷ ys) (suc i) x below is = let n : suc i + 1 ≡ suc (i + 1) = omega arith in ap (λ m. take m (f y ∷ map f ys)) n ∙ ap (λ l. f y ∷ l) (take_more f ys i x (omega arith) is)

one_more : (ds : List Declaration) (v : VariableTree) → length (with_declared ds v) ≡ length ds + 1
one_more ds v = length-append ds (declared v.name (type_or_any (type_of v.expression (scope_of ds))) (depth_in ds v.expression) ∷ [])

-- a scope with more variables begins with those of the smaller scope
pub scope_begins : (vs : List VariableTree) (ds : List Declaration) → (more : List Declaration) × (fold with_declared ds vs ≡ ds ++ more)
scope_begins [] ds = ([], sym (append-nil ds))
scope_begins (v ∷ vs) ds = grind (arith, append_assoc, scope_begins vs (with_declared ds v))

abbrev FitsAt : List Declaration → Core → Type 0
FitsAt ds tree = (need tree ≤ word_limit) × (depth tree (depths_of ds) ≤ variable_depth_limit)

fits_first : (v : VariableTree) (more : List VariableTree) (ds : List Declaration) (tree : Core) → AreVariables ds (v ∷ more) → Some (expanded v.expression) ≡ Some tree → FitsAt (take (length ds) (fold with_declared ds (v ∷ more))) tree
fits_first v more ds tree are is =
    let here : expanded v.expression ≡ tree = cc in
    let begun = scope_begins (v ∷ more) ds in
    let front : ds ≡ take (length ds) (fold with_declared ds (v ∷ more)) = sym (ap (take (length ds)) begun.1 ∙ take-append_seam ds begun.0) in
    subst (λ (s : List Declaration). FitsAt s tree) front (subst (λ (a : Core). FitsAt ds a) here (are.0.fits, are.1))

fits_from : (vs : List VariableTree) (ds : List Declaration) → AreVariables ds vs → (i : ℕ) (tree : Core) → slice_get (map variable_expanded vs) i ≡ Some tree → FitsAt (take (length ds + i) (fold with_declared ds vs)) tree
fits_from [] ds are i tree is = absurd (cc)
fits_from (v ∷ more) ds are zero tree is = subst (λ (n : ℕ). FitsAt (take n (fold with_declared ds (v ∷ more))) tree) (omega arith) (fits_first v more ds tree are is)
fits_from (v ∷ more) ds are (suc i) tree is = grind (arith, fits_from more (with_declared ds v) are.2 i tree is, one_more)

pub fit_in_order : (vs : List VariableTree) (declarations : List Declaration) (trees : List Core) → AreVariables [] vs → declarations ≡ scope_after vs → trees ≡ map variable_expanded vs → FitInOrder declarations trees
fit_in_order vs declarations trees are scope same =
    subst (λ (ds : List Declaration). FitInOrder ds trees) (sym scope) (subst (FitInOrder (scope_after vs)) (sym same) (λ i tree is. subst (λ (n : ℕ). FitsAt (take n (scope_after vs)) tree) (omega arith) (fits_from vs [] are i tree is)))

length_scope : (vs : List VariableTree) (ds : List Declaration) → length (fold with_declared ds vs) ≡ length ds + length vs
length_scope [] ds = omega arith
length_scope (v ∷ vs) ds = grind (arith, length_scope vs (with_declared ds v), one_more)

pub as_many : {A B : Type 0} (f : A → Declaration) (g : B → Core) (vs : List VariableTree) (xs : List A) (ys : List B) → map f xs ≡ scope_after vs → map g ys ≡ map variable_expanded vs → length ys ≤ length xs
as_many f g vs xs ys scope same = grind (arith, length-map, length_scope)

-- ---- conditions and validations

first_same : {A : Type 0} (x y : A) (xs ys : List A) → x ∷ xs ≡ y ∷ ys → x ≡ y
first_same x y xs ys e = cc

pub conditions_fit : (trees : List Tree) (cores : List CodeCore) → AreConditions trees → map core_view cores ≡ map expanded trees → (k : ℕ) (d : CodeCore) → k < length cores → FitsFrame (core_view (slice_index_or cores k d))
conditions_fit trees [] are same k d below = absurd (omega arith)
conditions_fit [] (c ∷ cores) are same k d below = absurd (cc)
conditions_fit (a ∷ more) (c ∷ cores) are same zero d below = let here : core_view c ≡ expanded a = cc in subst FitsFrame (sym here) are.0.fits
conditions_fit (a ∷ more) (c ∷ cores) are same (suc k) d below = conditions_fit more cores are.1 (cc) k d (omega arith)

pub rules_fit : (scope : List Declaration) (rs : List ValidationTree) (vs : List CheckedValidation) → AreValidations scope rs → map validation_trees vs ≡ map validation_expanded rs → (k : ℕ) (d : CheckedValidation) → k < length vs → FitsFrame (core_view (slice_index_or vs k d).expression)
rules_fit scope rs [] are same k d below = absurd (omega arith)
rules_fit scope [] (v ∷ vs) are same k d below = absurd (cc)
rules_fit scope (r ∷ more) (v ∷ vs) are same zero d below = grind (arith, first_same)
rules_fit scope (r ∷ more) (v ∷ vs) are same (suc k) d below = rules_fit scope more vs are.2 (cc) k d (omega arith)

pub messages_fit : (scope : List Declaration) (rs : List ValidationTree) (vs : List CheckedValidation) → AreValidations scope rs → map validation_trees vs ≡ map validation_expanded rs → (k : ℕ) (d : CheckedValidation) → k < length vs → MayFit (option_map core_view (slice_index_or vs k d).message)
messages_fit scope rs [] are same k d below = absurd (omega arith)
messages_fit scope [] (v ∷ vs) are same k d below = absurd (cc)
messages_fit scope (r ∷ more) (v ∷ vs) are same zero d below = grind (arith, first_same)
messages_fit scope (r ∷ more) (v ∷ vs) are same (suc k) d below = messages_fit scope more vs are.2 (cc) k d (omega arith)

-- the emitter with this code, these texts, nodes and routines
abbrev pub emitter : List Insn → List (List ℕ) → ℕ → List ℕ → Emitted
emitter code texts n routines = record { code = slots code; constants = texts; nodes = saturated n; routines = routines; lacks_code = false }

-- the emitter has counted n nodes and everything so far; if there was room for the slots, it also has the code
pub record Same (e : Emitted) (l : Laid) (code : List Insn) (n : ℕ) : Type 0 where
  pub nodes_are : e.nodes ≡ saturated n
  pub texts_are : e.constants ≡ l.texts
  pub is : n ≤ node_limit → size code ≤ code_limit → e ≡ emitter code l.texts n l.routines
  pub place : l.place ≡ size code

has_room_in : (code : List Insn) (texts : List (List ℕ)) (n : ℕ) (routines : List ℕ) → n ≤ node_limit → size code ≤ code_limit → has_room (emitter code texts n routines) ≡ true
has_room_in code texts n routines short near =
    and_from (nat_le (saturated n) node_limit) (nat_le (length (slots code)) code_limit) (le-leb (saturated n) node_limit (omega arith))
    (le-leb (length (slots code)) code_limit near)

-- ---- one step

nodes_more : (n k : ℕ) → saturated (saturated n + k) ≡ saturated (n + k)
nodes_more n k = omega arith

-- if there is no room for code, everything else is counted in the same way
either : {A : Type 0} (see : Emitted → A) (b : Bool) (more less : Emitted) → see more ≡ see less → see (if b then more else less) ≡ see less
either see true more less same = same
either see false more less same = refl

module _ {e : Emitted} {l : Laid} {code : List Insn} {n : ℕ} (s : Same e l code n) where
  same_at : {other : List Insn} {m : ℕ} → code ≡ other → n ≡ m → Same e l other m
  same_at {m = m} same count = subst (λ (c : List Insn). Same e l c m) same (subst (λ (k : ℕ). Same e l code k) count s)

  same_nodes : (k : ℕ) → Same (with_nodes e k) l code (n + k)
  same_nodes k = grind arith

  same_piece : (piece : List Insn) (k : ℕ) → size piece ≡ k → Same (with_piece e piece) (with_slots k l) (code ++ piece) n
  same_piece piece k long = grind (arith, size-append, slots-append)

  same_expression : (ds : List Declaration) (a : Tree)
      → Same (with_expression e ds (expanded a)) (with_tree ds l a) (code ++ tree_code ds l a) (n + nodes (expanded a))
  same_expression ds a = grind (arith, size-append, either, nodes_more, has_room_in, slots-append)

  same_variable : (ds : List Declaration) (v : VariableTree)
      → Same (with_variable e ds (expanded v.expression)) (with_routine ds l v) (code ++ passed (variable_code ds l v)) (n + part_nodes v.expression)
  same_variable ds v = grind (arith, size-append, size-cons, either, nodes_more, has_room_in, slots-append)

-- a variable with its declaration
abbrev taken_declaration : List Declaration → VariableTree → Declaration
taken_declaration ds v = declared v.name (type_or_any (type_of v.expression (scope_of ds))) (depth_in ds v.expression)

-- the first of the declarations
first_declared : (all ds : List Declaration) (i : ℕ) (vs : List VariableTree) → fold with_declared ds vs ≡ all → length ds ≡ i → take i all ≡ ds
first_declared all ds i vs is long =
    let rest = scope_begins vs ds in
    ap (take i) (sym is ∙ rest.1) ∙ ap (λ n. take n (ds ++ rest.0)) (sym long) ∙ take-append_seam ds rest.0

same_variables : (all ds : List Declaration) (i : ℕ) (vs : List VariableTree) {e : Emitted} {l : Laid} {code : List Insn} {n : ℕ}
    → fold with_declared ds vs ≡ all → length ds ≡ i → Same e l code n
    → Same (with_variables all i e (map variable_expanded vs)) (after_variables ds l vs)
    (code ++ routines_code (variable_codes ds l vs)) (n + sum_by (λ v. part_nodes v.expression) vs)
same_variables all ds i [] {code = code} is long s = same_at s (sym (append-nil code)) (omega arith)
same_variables all ds i (v ∷ more) {e} {l} {code} {n} is long s =
    let counted = sum_by-cons (λ u. part_nodes u.expression) v more in
    let long_more = length-append ds (taken_declaration ds v ∷ []) in
    let Here : List Declaration → Type 0 = λ xs.
    Same (with_variable e xs (expanded v.expression)) (with_routine ds l v) (code ++ passed (variable_code ds l v)) (n + part_nodes v.expression) in
    let first : Here (take i all) = subst Here (sym (first_declared all ds i (v ∷ more) is long)) (same_variable s ds v) in
    same_at (same_variables all (with_declared ds v) (i + 1) more is (omega (arith, long, long_more)) first) (simp append_assoc) (omega (arith, counted))

same_condition : {e : Emitted} {l : Laid} {code : List Insn} {n : ℕ} (f : FailurePolicy) (a : Tree) → Same e l code n
    → Same (with_condition f e (expanded a)) (after_condition l a) (code ++ (tree_code [] l a ++ condition_tail f)) (n + part_nodes a)
same_condition f a s =
    same_at (same_piece (same_expression (same_nodes s 1) [] a) (condition_tail f) 9 (tail_size f)) (simp append_assoc) (omega arith)

same_conditions : (f : FailurePolicy) (cs : List Tree) {e : Emitted} {l : Laid} {code : List Insn} {n : ℕ} → Same e l code n
    → Same (with_conditions f e (map expanded cs)) (after_conditions l cs) (code ++ conditions_code f (condition_codes l cs)) (n + sum_by part_nodes cs)
unfolding conditions_code
same_conditions f [] {code = code} s = same_at s (sym (append-nil code)) (omega arith)
same_conditions f (a ∷ more) s =
    let counted = sum_by-cons part_nodes a more in
    same_at (same_conditions f more (same_condition f a s)) (simp append_assoc) (omega (arith, counted))

-- the code that follows the conditions, if there are any
same_decided : {e : Emitted} {l : Laid} {code : List Insn} {n : ℕ} (cs : List Tree) (before : Laid) → Same e l code n
    → Same (with_decided e (map expanded cs)) (with_slots (decided_slots cs) l) (code ++ decided_code (condition_codes before cs)) n
same_decided {e} {l} {code} {n} [] before s = grind (arith, same_at, append-nil)
same_decided (a ∷ more) before s = same_piece s decided_tail 5 refl

-- ---- validations

set_behind : (xs ys : List (Option Insn)) (k : ℕ) (o : Option Insn) → slice_set (xs ++ ys) (length xs + k) o ≡ xs ++ slice_set ys k o
set_behind [] ys k o = ap (λ (m : ℕ). slice_set ys m o) (omega arith)
set_behind (x ∷ xs) ys k o = grind (arith, set_behind xs ys k o)

-- the code after a validation once both jumps have their targets
way_put : (f : FailurePolicy) (i n : ℕ) (message : List Insn) → slice_set (slice_set (slots (result_code f i [] ++ message)) 0 (Some (if_true (n + 9)))) 5 (Some (leave_error f (n + 4))) ≡ slots (if_true (n + 9) ∷ (denial_code f i n ++ message))
unfolding denial_code
way_put f i n message = refl

ways_put : (f : FailurePolicy) (i : ℕ) (code message : List Insn) (texts : List (List ℕ)) (n : ℕ) (routines : List ℕ) → with_way f (size code) (emitter (code ++ (result_code f i [] ++ message)) texts n routines) ≡ emitter (code ++ result_code f i message) texts n routines
ways_put f i code message texts n routines =
    let old = result_code f i [] ++ message in
    let true_way = Some (if_true (size message + 9)) in
    let error_way = Some (leave_error f (size message + 4)) in
    let first = set_behind (slots code) (slots old) 0 true_way in
    let second = set_behind (slots code) (slice_set (slots old) 0 true_way) 5 error_way in
    let pieces = size-append (result_code f i []) message in
    grind (arith, first, second, pieces, way_put f i (size message) message, slots-append, size-append code old, result_size f i [])

same_result : {e : Emitted} {l : Laid} {code : List Insn} {n : ℕ} (f : FailurePolicy) (i : ℕ) (ds : List Declaration) (m : Option Tree) → Same e l code n
    → Same (with_result f i ds e (option_map expanded m)) (with_message_laid ds (with_slots 10 l) m) (code ++ result_code f i (message_code i (message_codes ds (with_slots 10 l) m))) (n + message_nodes m)
same_result f i ds None s = same_at (same_piece s (result_code f i []) 10 (result_size f i [])) refl (omega arith)
same_result {e} {l} {code} {n} f i ds (Some a) s =
    let front = result_code f i [] in
    let there = with_slots 10 l in
    let message = tree_code ds there a ++ message_tail i in
    let taken = same_piece (same_expression (same_nodes (same_piece s front 10 (result_size f i [])) 1) ds a) (message_tail i) 7 (message_tail_size i) in
    let put = ways_put f i code message (texts_with there a) (n + message_nodes (Some a)) l.routines in
    grind (arith, taken, put, s.is, size-append, result_size, append_assoc)

same_validation : {e : Emitted} {l : Laid} {code : List Insn} {n : ℕ} (f : FailurePolicy) (i : ℕ) (ds : List Declaration) (r : ValidationTree) → Same e l code n
    → Same (with_validation f i ds e (validation_expanded r)) (with_message_laid ds (before_message ds l r) r.message) (code ++ validation_code f i (tree_code ds l r.expression, message_codes ds (before_message ds l r) r.message)) (n + validation_nodes r)
same_validation f i ds r s = same_at (same_result f i ds r.message (same_expression (same_nodes s 1) ds r.expression)) (simp append_assoc) (omega arith)

-- the layout after the validations
abbrev after_rules : List Declaration → Laid → List ValidationTree → Laid
after_rules ds l [] = l
after_rules ds l (r ∷ more) = after_rules ds (with_message_laid ds (before_message ds l r) r.message) more

same_validations : (f : FailurePolicy) (ds : List Declaration) (rs : List ValidationTree) (i : ℕ) {e : Emitted} {l : Laid} {code : List Insn} {n : ℕ}
    → Same e l code n
    → Same (with_validations f i ds e (map validation_expanded rs)) (after_rules ds l rs)
    (code ++ validations_code f i (validation_codes ds l rs)) (n + sum_by validation_nodes rs)
unfolding validations_code
same_validations f ds [] i {code = code} s = same_at s (sym (append-nil code)) (omega arith)
same_validations f ds (r ∷ more) i s =
    let counted = sum_by-cons validation_nodes r more in
    same_at (same_validations f ds more (i + 1) (same_validation f i ds r s)) (simp append_assoc) (omega (arith, counted))

-- ---- the whole

-- the emitter after a policy's trees
abbrev pub emitted_of : FailurePolicy → PolicyTree → Emitted
emitted_of f t =
    let variables = with_variables (scope_after t.variables) 0 (with_nodes no_code 1) (map variable_expanded t.variables) in
    let conditions = with_decided (with_conditions f variables (map expanded t.conditions)) (map expanded t.conditions) in
    with_piece (with_validations f 0 (scope_after t.variables) conditions (map validation_expanded t.validations)) outcome_tail

-- its program without the exit
abbrev pub code_before : FailurePolicy → PolicyTree → List Insn
code_before f t =
    policy_code f (variable_codes [] nothing_laid t.variables) (condition_codes (laid_routines t) t.conditions)
    (validation_codes (scope_after t.variables) (laid_conditions t) t.validations)

-- the layout after the whole policy
abbrev laid_whole : PolicyTree → Laid
laid_whole t = with_slots 7 (after_rules (scope_after t.variables) (laid_conditions t) t.validations)

whole_is : (f : FailurePolicy) (t : PolicyTree) → Same (emitted_of f t) (laid_whole t) (code_before f t) (policy_nodes t)
unfolding policy_nodes policy_code
whole_is f t =
    let start : Same (with_nodes no_code 1) nothing_laid [] 1 = record { nodes_are = omega arith; texts_are = refl; is = λ few near. refl; place = refl } in
    let variables = same_variables (scope_after t.variables) [] 0 t.variables refl refl start in
    let conditions = same_decided t.conditions (laid_routines t) (same_conditions f t.conditions variables) in
    let rules = same_validations f (scope_after t.variables) t.validations 0 conditions in
    same_at (same_piece rules outcome_tail 7 outcome_tail_size) (simp append_assoc) refl

rules_texts : (ds : List Declaration) (l : Laid) (rs : List ValidationTree) → (after_rules ds l rs).texts ≡ with_texts l.texts (validation_texts rs)
rules_texts ds l [] = refl
rules_texts ds l (r ∷ more) = grind (arith, message_texts_are, fold-append, rules_texts ds (with_message_laid ds (before_message ds l r) r.message) more)

texts_laid : (t : PolicyTree) → (laid_whole t).texts ≡ policy_texts t
unfolding policy_texts
texts_laid t = grind (arith, rules_texts, conditions_texts, variables_texts, fold-append)

pub nodes_counted : (f : FailurePolicy) (t : PolicyTree) → (emitted_of f t).nodes ≡ saturated (policy_nodes t)
nodes_counted f t = (whole_is f t).nodes_are

pub texts_counted : (f : FailurePolicy) (t : PolicyTree) → (emitted_of f t).constants ≡ policy_texts t
texts_counted f t = (whole_is f t).texts_are ∙ texts_laid t

-- if there are few nodes, no code is left out
all_emitted : (f : FailurePolicy) (t : PolicyTree) → policy_nodes t ≤ node_limit
    → emitted_of f t ≡ emitter (code_before f t) (laid_whole t).texts (policy_nodes t) (laid_whole t).routines
unfolding program_of
all_emitted f t few =
    let short = program_is_short f t in
    let whole = size-append (code_before f t) (Exit ∷ []) in
    (whole_is f t).is few (omega (arith, short, whole, few))

pub policy_emitted : (f : FailurePolicy) (t : PolicyTree) → policy_nodes t ≤ node_limit → (emitted_of f t).code ≡ slots (code_before f t)
policy_emitted f t few = ap (λ (e : Emitted). e.code) (all_emitted f t few)

-- the checked parts are emitted as the policy's trees
pub emitted_is : (f : FailurePolicy) (c : Checked) (t : PolicyTree) → IsChecked c t → emitted f c ≡ emitted_of f t
emitted_is f c t is = grind arith

-- ---- limits

too_many_by : (f : FailurePolicy) (t : PolicyTree) → (emitted_of f t).lacks_code ≡ true
    → (node_limit < policy_nodes t) ⊎ (policy_nodes t ≤ node_limit) → slot_limit < slots_per_node * policy_nodes t
too_many_by f t lacks (inl many) = omega (arith, many)
too_many_by f t lacks (inr few) = let whole = ap (λ (e : Emitted). e.lacks_code) (all_emitted f t few) in absurd (cc)

pub too_long : (f : FailurePolicy) (t : PolicyTree) → IsTooLong (emitted_of f t) → slot_limit < slots_per_node * policy_nodes t
too_long f t (inl many) = let counted = nodes_counted f t in omega (arith, many)
too_long f t (inr lacks) = too_many_by f t lacks (cases_lt node_limit (policy_nodes t))

pub too_long_is : (f : FailurePolicy) (t : PolicyTree) → slot_limit < slots_per_node * policy_nodes t → IsTooLong (emitted_of f t)
too_long_is f t h = let counted = nodes_counted f t in inl (omega arith)

joined_counted : (f : FailurePolicy) (t : PolicyTree) → length (joined (emitted_of f t).constants) ≡ length (joined (policy_texts t))
joined_counted f t = ap (λ (texts : List (List ℕ)). length (joined texts)) (texts_counted f t)

pub passes_nodes : (f : FailurePolicy) (t : PolicyTree) → IsTooLong (emitted_of f t) → limit_passed t ≡ Some TooManyNodes
passes_nodes f t h = rw (lt-ltb slot_limit (slots_per_node * policy_nodes t) (too_long f t h)) refl

not_long : (f : FailurePolicy) (t : PolicyTree) → (IsTooLong (emitted_of f t) → ⊥) → slots_per_node * policy_nodes t ≤ slot_limit
not_long f t short = grind (arith, cases_lt, too_long_is)

-- ---- bytes

with_exit : (piece : List Insn) → slot_spellings (slots piece) ++ spelling Exit ≡ spellings (piece ++ Exit ∷ [])
with_exit piece =
    ap (λ (bytes : List ℕ). slot_spellings (slots piece) ++ bytes) (sym (append-nil (spelling Exit)))
    ∙ sym (slot_spellings-append (slots piece) (slots (Exit ∷ [])))
    ∙ ap slot_spellings (sym (slots-append piece (Exit ∷ [])))
    ∙ slots_spelled (piece ++ Exit ∷ [])

-- the bytes that are returned are those of the program and of its texts
pub finished : (f : FailurePolicy) (t : PolicyTree) (code constants : List ℕ) → (IsTooLong (emitted_of f t) → ⊥) → (HasTooManyTexts (emitted_of f t) → ⊥) → code ≡ slot_spellings (emitted_of f t).code ++ spelling Exit → constants ≡ joined (emitted_of f t).constants → (limit_passed t ≡ None) × (code ≡ spellings (program_of f t)) × (constants ≡ joined (policy_texts t))
unfolding program_of
finished f t code constants short few is are = grind (arith, not_long, cases_lt, le-ltb, policy_emitted, with_exit, texts_counted f t, joined_counted)

-- ---- the result of an emitter after the checked parts of a policy

module _ (f : FailurePolicy) (c : Checked) (t : PolicyTree) (is : IsChecked c t) (e : Emitted) (took : e ≡ emitted f c) where
  pub answers_program : (code constants : List ℕ) → (IsTooLong e → ⊥) → (HasTooManyTexts e → ⊥) → code ≡ slot_spellings e.code ++ spelling Exit
      → constants ≡ joined e.constants → (limit_passed t ≡ None) × (code ≡ spellings (program_of f t)) × (constants ≡ joined (policy_texts t))
  answers_program = rw (took ∙ emitted_is f c t is) (finished f t)

  pub answers_long : IsTooLong e → limit_passed t ≡ Some TooManyNodes
  answers_long = rw (took ∙ emitted_is f c t is) (passes_nodes f t)

  pub answers_texts : (IsTooLong e → ⊥) → HasTooManyTexts e → limit_passed t ≡ Some TooManyTextBytes
  answers_texts = rw (took ∙ emitted_is f c t is) (grind (arith, joined_counted, le-ltb, not_long, lt-ltb))

-- ---- lists

-- the rest of a list of the code, seen through f, begins with the element at its place
pub at_place : {A B : Type 0} (f : A → B) (xs : List A) (i : ℕ) (x : A) → i < length xs → x ≡ get_or xs i x → map f (drop i xs) ≡ f x ∷ map f (drop (i + 1) xs)
at_place f xs i x below is = ap (map f) (drop_more xs i x below ∙ ap (λ y. y ∷ drop (i + 1) xs) (sym is))

pub no_error : {T E : Type 0} (x : T) (e : E) → IsErrOf (Ok x) e → ⊥
no_error x e h = cc
