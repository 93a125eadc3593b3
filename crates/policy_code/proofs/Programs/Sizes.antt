-- The number of slots of a policy's program, and that each can be encoded.
use Rattle.policy_code.proofs.Prelude.{◌≡◌, ℕ, ◌+◌, ◌*◌, ◌≤◌, List, [], ◌∷◌, ◌++◌, Option, refl, sym, ◌∙◌, arith, suc, ◌<◌, length, length-append, ap, subst, sum_by, fold-append, sum_by-cons, Insn, Tree, expanded, nodes, Declaration, size, AreInsns, size-append, size-cons, with_text, with_texts, routines_of, whole_short, whole_insns, with_variable, scope_after, condition_texts, message_nodes, message_texts, part_nodes, policy_nodes, validation_nodes, tree_texts, variable_texts, condition_tail, conditions_code, message_code, policy_code, routines_code, validation_code, validations_code, denial_code, message_tail, outcome_tail, result_code, Laid, after_condition, after_conditions, after_variables, before_message, condition_codes, message_codes, program_of, texts_with, tree_code, validation_codes, variable_code, variable_codes, with_message, with_routine, laid_conditions, laid_routines, nothing_laid, ProgramIsShort, AreConditions, AreValidations, AreVariables, IsEmittableMessage, ProgramIsCode, ValidationTree, VariableTree, FailurePolicy, memo_tail, insns_append, memo_insns, whole_code, IsEmittable, AreLow, AreNear, near_named, decided_slots, part_slots_per_node, slots_per_node, branch_limit, part_limit, slot_reach, slot_limit}
use Rattle.policy_code.proofs.Programs.Validations.{outcome_tail_size, message_tail_size, result_size}
use Rattle.policy_code.proofs.Programs.Conditions.{condition_size}

-- ---- expressions

pub tree_short : (scope : List Declaration) (l : Laid) (a : Tree) → size (tree_code scope l a) + 4 ≤ part_slots_per_node * nodes (expanded a)
tree_short scope l a = whole_short (expanded a) (texts_with l a) (routines_of scope l.routines) l.place

pub routine_short : (scope : List Declaration) (l : Laid) (v : VariableTree) → size (variable_code scope l v) ≤ part_slots_per_node * nodes (expanded v.expression) + 2
routine_short scope l v = grind (arith, whole_short, size-append)

-- ---- variables, conditions and validations

pub routines_short : (scope : List Declaration) (l : Laid) (vs : List VariableTree) → size (routines_code (variable_codes scope l vs)) ≤ slots_per_node * sum_by (λ v. part_nodes v.expression) vs
routines_short scope l [] = omega arith
routines_short scope l (v ∷ more) =
    let rest = routines_short (with_variable scope v) (with_routine scope l v) more in
    grind (arith, size-append, size-cons, routine_short scope l v, sum_by-cons (λ u. part_nodes u.expression) v more)

pub conditions_short : (f : FailurePolicy) (l : Laid) (cs : List Tree) → size (conditions_code f (condition_codes l cs)) ≤ slots_per_node * sum_by part_nodes cs
unfolding conditions_code
conditions_short f l [] = omega arith
conditions_short f l (a ∷ more) = omega (arith, condition_size, tree_short, sum_by-cons, conditions_short f (after_condition l a) more)

pub message_short : (scope : List Declaration) (l : Laid) (i : ℕ) (m : Option Tree) → size (message_code i (message_codes scope l m)) ≤ part_slots_per_node * message_nodes m
message_short scope l i m = grind (arith, size-append, message_tail_size, tree_short)

pub validations_short : (f : FailurePolicy) (scope : List Declaration) (l : Laid) (i : ℕ) (rs : List ValidationTree)
    → size (validations_code f i (validation_codes scope l rs)) ≤ slots_per_node * sum_by validation_nodes rs
unfolding validations_code
validations_short f scope l i [] = omega arith
validations_short f scope l i (r ∷ more) =
    let behind = before_message scope l r in
    let rest = validations_short f scope (with_message scope behind r.message) (i + 1) more in
    omega (arith, size-append, result_size, tree_short, message_short scope behind i r.message, sum_by-cons validation_nodes r more)

-- ---- places, and slots of routines

pub variables_place : (vs : List VariableTree) (ds : List Declaration) (l : Laid) → (after_variables ds l vs).place ≡ l.place + size (routines_code (variable_codes ds l vs))
variables_place [] ds l = omega arith
variables_place (v ∷ more) ds l = grind (arith, variables_place more (with_variable ds v) (with_routine ds l v), size-cons, size-append)

pub conditions_place_is : (f : FailurePolicy) (cs : List Tree) (l : Laid)
    → (after_conditions l cs).place ≡ l.place + size (conditions_code f (condition_codes l cs))
unfolding conditions_code
conditions_place_is f [] l = omega arith
conditions_place_is f (a ∷ more) l = grind (arith, conditions_place_is f more (after_condition l a), condition_size)

pub conditions_slots : (cs : List Tree) (l : Laid) → (after_conditions l cs).routines ≡ l.routines
conditions_slots [] l = refl
conditions_slots (a ∷ more) l = conditions_slots more (after_condition l a)

-- ---- texts

-- the texts after all variables, all conditions and a message
pub variables_texts : (ds : List Declaration) (l : Laid) (vs : List VariableTree) → (after_variables ds l vs).texts ≡ with_texts l.texts (variable_texts vs)
variables_texts ds l [] = refl
variables_texts ds l (v ∷ more) = grind (arith, fold-append, variables_texts (with_variable ds v) (with_routine ds l v) more)

pub conditions_texts : (l : Laid) (cs : List Tree) → (after_conditions l cs).texts ≡ with_texts l.texts (condition_texts cs)
conditions_texts l [] = refl
conditions_texts l (a ∷ more) = conditions_texts (after_condition l a) more ∙ sym (fold-append with_text l.texts (tree_texts a) (condition_texts more))

pub message_texts_are : (ds : List Declaration) (l : Laid) (m : Option Tree) → (with_message ds l m).texts ≡ with_texts l.texts (message_texts m)
message_texts_are ds l m = grind arith

-- ---- the whole

pub program_is_short : ProgramIsShort
unfolding program_of policy_code policy_nodes
program_is_short f p = grind (arith, size-append, outcome_tail_size, routines_short, conditions_short, validations_short)

-- ---- the code after expressions

condition_tail_insns : (f : FailurePolicy) → AreInsns (condition_tail f)
unfolding condition_tail
condition_tail_insns f = grind arith

slots_few : {A : Type 0} (cs : List A) → decided_slots cs ≤ 5
slots_few cs = grind arith

denial_insns : (f : FailurePolicy) (i n : ℕ) → i < part_limit → n ≤ branch_limit → AreInsns (denial_code f i n)
unfolding denial_code
denial_insns f i n low short = grind arith

message_tail_insns : (i : ℕ) → i < part_limit → AreInsns (message_tail i)
unfolding message_tail
message_tail_insns i low = (tt, (tt, (omega arith, ((omega arith, omega arith), (omega arith, (omega arith, tt))))))

result_insns : (f : FailurePolicy) (i : ℕ) (message : List Insn) → i < part_limit → size message ≤ branch_limit → AreInsns message → AreInsns (result_code f i message)
result_insns f i message low short insns = ((omega arith, omega arith), insns_append (denial_code f i (size message)) message (denial_insns f i (size message) low short) insns)

outcome_tail_insns : AreInsns outcome_tail
unfolding outcome_tail
outcome_tail_insns = (omega arith, (omega arith, (omega arith, ((omega arith, omega arith), (omega arith, (omega arith, tt))))))

-- ---- the routines so far

low_more : (slots : List ℕ) (slot : ℕ) → AreLow slots → slot ≤ slot_reach → AreLow (slots ++ slot ∷ [])
low_more [] slot low h = (h, tt)
low_more (s ∷ slots) slot low h = (low.0, low_more slots slot low.1 h)

-- the routines so far begin inside an image, and with n more there are at most 64
record Low (l : Laid) (n : ℕ) : Type 0 where
  pub slots : AreLow l.routines
  pub few : length l.routines + n ≤ 64

near_all : (ds : List Declaration) (l : Laid) (n : ℕ) → Low l n → AreNear (routines_of ds l.routines)
near_all ds l n low name found e = grind (arith, near_named)

-- ---- expressions

tree_insns : (scope : List Declaration) (l : Laid) (a : Tree) → IsEmittable scope (expanded a) → Low l 0 → l.place + slots_per_node * part_nodes a ≤ slot_limit → AreInsns (tree_code scope l a)
tree_insns scope l a is low inside =
    let fits = is.fits in
    whole_insns (texts_with l a) (routines_of scope l.routines) (near_all scope l 0 low) (expanded a) l.place fits (omega arith) (omega arith) is.literals

routine_insns : (scope : List Declaration) (l : Laid) (v : VariableTree) (n : ℕ) → IsEmittable scope (expanded v.expression) → Low l (suc n)
    → l.place + slots_per_node * part_nodes v.expression ≤ slot_limit → AreInsns (variable_code scope l v)
routine_insns scope l v n is low inside =
    let fits = is.fits in
    insns_append (whole_code (expanded v.expression) (texts_with l v.expression) (routines_of scope l.routines) (l.place + 1)) (memo_tail (length l.routines))
    (whole_insns (texts_with l v.expression) (routines_of scope l.routines) (near_all scope l (suc n) low) (expanded v.expression) (l.place + 1) fits (omega arith) (omega arith) is.literals)
    (memo_insns (length l.routines) (omega arith))

-- ---- variables

with_routine_low : (scope : List Declaration) (l : Laid) (v : VariableTree) (n : ℕ) → Low l (suc n) → l.place + 1 ≤ slot_limit → Low (with_routine scope l v) n
with_routine_low scope l v n low inside = grind (arith, length-append, low_more)

routines_insns : (scope : List Declaration) (l : Laid) (vs : List VariableTree) → AreVariables scope vs → Low l (length vs)
    → l.place + slots_per_node * sum_by (λ v. part_nodes v.expression) vs ≤ slot_limit → AreInsns (routines_code (variable_codes scope l vs))
routines_insns scope l [] are low inside = tt
routines_insns scope l (v ∷ more) are low inside =
    let counted = sum_by-cons (λ u. part_nodes u.expression) v more in
    let long = routine_short scope l v in
    let later = with_routine_low scope l v (length more) low (omega (arith, counted, inside)) in
    let others = routines_insns (with_variable scope v) (with_routine scope l v) more are.2 later (omega (arith, counted, inside, long)) in
    (omega (arith, counted, inside, long), insns_append _ _ (routine_insns scope l v (length more) are.0 low (omega (arith, counted, inside))) others)

after_routines : (scope : List Declaration) (l : Laid) (vs : List VariableTree) → Low l (length vs)
    → l.place + slots_per_node * sum_by (λ v. part_nodes v.expression) vs ≤ slot_limit
    → Low (after_variables scope l vs) 0
after_routines scope l [] low inside = low
after_routines scope l (v ∷ more) low inside =
    let counted = sum_by-cons (λ u. part_nodes u.expression) v more in
    let long = routine_short scope l v in
    after_routines (with_variable scope v) (with_routine scope l v) more (with_routine_low scope l v (length more) low (omega (arith, counted, inside))) (omega (arith, counted, inside, long))

-- ---- conditions

same_low : (l m : Laid) → l.routines ≡ m.routines → Low l 0 → Low m 0
same_low l m same low = let few = low.few in let long = ap length same in record { slots = subst AreLow same low.slots; few = omega arith }

conditions_insns : (f : FailurePolicy) (l : Laid) (cs : List Tree) → AreConditions cs → Low l 0 → l.place + slots_per_node * sum_by part_nodes cs ≤ slot_limit
    → AreInsns (conditions_code f (condition_codes l cs))
unfolding conditions_code
conditions_insns f l [] are low inside = tt
conditions_insns f l (a ∷ more) are low inside =
    let counted = sum_by-cons part_nodes a more in
    let long = tree_short [] l a in
    let others = conditions_insns f (after_condition l a) more are.1 (same_low l (after_condition l a) refl low) (omega (arith, counted, inside, long)) in
    insns_append _ _ (tree_insns [] l a are.0 low (omega (arith, counted, inside))) (insns_append _ _ (condition_tail_insns f) others)

-- ---- validations

message_insns : (scope : List Declaration) (l : Laid) (i : ℕ) (m : Option Tree) → i < part_limit → IsEmittableMessage scope m → Low l 0
    → l.place + slots_per_node * message_nodes m ≤ slot_limit → AreInsns (message_code i (message_codes scope l m))
message_insns scope l i m few is low inside = grind (arith, insns_append, tree_insns, message_tail_insns)

message_inside : (scope : List Declaration) (l : Laid) (m : Option Tree) → (with_message scope l m).place ≤ l.place + slots_per_node * message_nodes m
message_inside scope l m = grind (arith, tree_short)

validations_insns : (f : FailurePolicy) (scope : List Declaration) (l : Laid) (i : ℕ) (rs : List ValidationTree) → AreValidations scope rs → Low l 0
    → i + length rs ≤ part_limit → l.place + slots_per_node * sum_by validation_nodes rs ≤ slot_limit → AreInsns (validations_code f i (validation_codes scope l rs))
unfolding validations_code
validations_insns f scope l i [] are low few inside = tt
validations_insns f scope l i (r ∷ more) are low few inside =
    let counted = sum_by-cons validation_nodes r more in
    let long = tree_short scope l r.expression in
    let behind = before_message scope l r in
    let low_behind = same_low l behind refl low in
    let message = message_code i (message_codes scope behind r.message) in
    let long_message = message_short scope behind i r.message in
    let later = same_low behind (with_message scope behind r.message) (grind arith) low_behind in
    let far = message_inside scope behind r.message in
    let small : size message ≤ branch_limit = omega (arith, counted, inside, long_message) in
    insns_append (validation_code f i (tree_code scope l r.expression, message_codes scope behind r.message)) (validations_code f (i + 1) (validation_codes scope (with_message scope behind r.message) more))
    (insns_append (tree_code scope l r.expression) (result_code f i message)
    (tree_insns scope l r.expression are.0 low (omega (arith, counted, inside)))
    (result_insns f i message (omega arith) small (message_insns scope behind i r.message (omega arith) are.1 low_behind (omega (arith, counted, inside, long)))))
    (validations_insns f scope (with_message scope behind r.message) (i + 1) more are.2 later (omega arith) (omega (arith, counted, inside, long, far)))

-- ---- the whole

pub program_is_code : ProgramIsCode
unfolding program_of policy_code policy_nodes
program_is_code f p has =
    let room = has.short in
    let few_rules = has.few_validations in
    let start : Low nothing_laid (length p.variables) = record { slots = tt; few = omega arith } in
    let first = after_routines [] nothing_laid p.variables start (omega (arith, room)) in
    let place = variables_place p.variables [] nothing_laid in
    let long = routines_short [] nothing_laid p.variables in
    let second = same_low (laid_routines p) (laid_conditions p) (sym (conditions_slots p.conditions (laid_routines p))) first in
    let farther = conditions_place_is f p.conditions (laid_routines p) in
    let longer = conditions_short f (laid_routines p) p.conditions in
    let decide = slots_few p.conditions in
    insns_append _ _
    (insns_append _ _ (routines_insns [] nothing_laid p.variables has.variables start (omega (arith, room)))
    (insns_append _ _ (conditions_insns f (laid_routines p) p.conditions has.conditions first (omega (arith, room, place, long)))
    (insns_append _ _ (grind arith)
    (insns_append _ _
    (validations_insns f (scope_after p.variables) (laid_conditions p) 0 p.validations has.validations second (omega (arith, few_rules))
    (omega (arith, room, place, long, farther, longer, decide)))
    outcome_tail_insns))))
    (tt, tt)
