-- A program from its start to its exit.
use Rattle.expression_code.proofs.Prelude.{◌≡◌, ℕ, ◌+◌, ◌*◌, ◌<◌, ◌≤◌, List, [], ◌∷◌, ◌++◌, replicate, refl, sym, subst, arith, inl, All, pos, Some, All-take, All-drop, All-head, All-replicate, All-tail, start_memory, word_in, part, start_laws, Exit, R0, ValueOrError, Names, Roots, DecodesSpelling, fetched, State, start_state, state_after, Frame, map-map, CpuState, at, RunContext, ExitsOrRunsOut, OutOfBudget, LeavesByExit, IsCodeAt, size, ProgramExits, start_body, total, IsWellFormedState, HasValues, FirstUse, first_uses, pending, Variable, first_charges, first_steps, first_use, routine_context, with_variables}
use Rattle.std.specs.Prelude.{map}
use Rattle.guest_memory.specs.Word.{word_of}
use Rattle.loader.specs.Contents as loader
use Rattle.value_store.specs.Placing.{Contents}
use Rattle.expression_code.proofs.Exits.{comes_to_exit}
use Rattle.expression_code.proofs.FirstUses.{pending-most, uses-most}
use Rattle.expression_code.proofs.Pieces.{stands_back, stands_first, stands_front}
use Rattle.expression_code.proofs.Runs.{into}
use Rattle.expression_code.proofs.Spelled.{spelled_stands}

pub halts_into : (s : RunContext) (x : ℕ) (b0 : CpuState) (P Q : CpuState → Type 0) {t : State} → ((b : CpuState) → P b → Q b) → ExitsOrRunsOut s x b0 P t → ExitsOrRunsOut s x b0 Q t
halts_into s x b0 P Q f (OutOfBudget calls e frames filled o) = OutOfBudget calls e frames filled o
halts_into s x b0 P Q f (LeavesByExit p b e filled l q) = LeavesByExit p b e filled l (f b q)

zeros_word : (bytes : List ℕ) → All (λ b. b ≡ 0) bytes → word_of bytes ≡ 0
zeros_word [] zeros = refl
zeros_word (b ∷ bs) zeros =
    omega (arith, All-head (λ b. b ≡ 0) b bs zeros, zeros_word bs (All-tail (λ b. b ≡ 0) b bs zeros))

pub word_in-zeros : (n i : ℕ) → word_in (replicate n 0) i ≡ 0
unfolding word_in
word_in-zeros n i = zeros_word (part (replicate n 0) (8 * i) 8) (All-take (λ b. b ≡ 0) 8 _ (All-drop (λ b. b ≡ 0) (8 * i) _ (All-replicate (λ b. b ≡ 0) n 0 refl)))

-- the largest cost of the first uses of a scope's variables
pub steps-most : (image : loader.Image) (scope : List Variable) (scratch : List ℕ) → pending (map first_use scope) (λ v. v.steps) scratch ≤ total (first_steps scope)
steps-most image scope scratch =
    subst (λ (ns : List ℕ). pending (map first_use scope) (λ v. v.steps) scratch ≤ total ns) (map-map (λ (v : FirstUse). v.steps) first_use scope) (pending-most image (map first_use scope) (λ v. v.steps) scratch)

pub charges-most : (image : loader.Image) (scope : List Variable) (old new : List ℕ) (calls : List Frame)
    → first_uses image (map first_use scope) (λ v. v.charge) old new calls ≤ total (first_charges scope)
charges-most image scope old new calls =
    subst (λ (ns : List ℕ). first_uses image (map first_use scope) (λ v. v.charge) old new calls ≤ total ns) (map-map (λ (v : FirstUse). v.charge) first_use scope) (uses-most image (map first_use scope) (λ v. v.charge) old new calls)

pub start_is : (image : loader.Image) (values : Contents) → start_state image values ≡ at image 0 (start_body image values)
unfolding start_state
start_is image values = refl

-- a program starts with a well-formed CPU state in which every memo is empty
pub start_fits : (image : loader.Image) (values : Contents) (roots : Roots) (variables : List (List ℕ × ValueOrError)) → All (λ b. b < 256) image.constants → HasValues roots values → IsWellFormedState (routine_context roots variables image.constants) 0 0 (start_body image values)
unfolding start_memory
start_fits image values roots variables bytes has = record {
  frame = record { shallow = omega arith; pointer_is = refl; records_are = refl; memory = start_laws.memory image.constants bytes };
  values = has;
  holds = record { names = λ n. tt; path = λ x at. absurd (cc); memos = λ i x is. inl (word_in-zeros 4096 i); lists = λ i items is. absurd (cc) };
  constants = refl;
}

pub program_exits : DecodesSpelling → ProgramExits
program_exits law image deep values roots piece routines firsts variables v n x m code bytes constants insns table g more =
    let s = with_variables image deep firsts in
    let start = start_body image values in
    let whole = piece ++ Exit ∷ [] in
    let stands : IsCodeAt image.code 0 whole = subst (λ (bs : List ℕ). IsCodeAt bs 0 whole) (sym code) (spelled_stands law [] routines whole 0 refl (subst (λ (bs : List ℕ). All (λ b. b < 256) bs) code bytes) insns) in
    let exit : fetched image.code (pos (0 + size piece)) ≡ Some (Some Exit) = stands_first image.code (0 + size piece) Exit [] (stands_back image.code 0 piece (Exit ∷ []) stands) in
    let runs = g.runs start (stands_front image.code 0 piece (Exit ∷ []) stands) (start_fits image values roots variables constants table) in
    let Named : CpuState → Type 0 = λ b. Names b.values.values (b.registers R0) v × (b.records ≡ []) in
    let named = into s Named (λ b shown. (shown.shows, shown.keeps.records)) runs in
    let most = pending-most image firsts (λ u. u.steps) start.memory.scratch in
    let halts = comes_to_exit s n x 0 (0 + size piece) m start Named named exit (λ b q. q.1) (omega arith) in
    subst (λ (t : State). ExitsOrRunsOut s x start (λ b. Names b.values.values (b.registers R0) v) (state_after m t)) (sym (start_is image values)) (halts_into s x start Named _ (λ b q. q.0) halts)
