-- A path whose value word 0 of the frame keeps.
use Rattle.expression_code.proofs.Prelude.{◌≡◌, ℕ, suc, ◌+◌, List, [], ◌∷◌, ◌++◌, length, Some, refl, sym, subst, arith, Names, Insn, R0, R1, ValueOrError, Environment, name_value, CpuState, operand_code, leaf_code, name_leaf, field_tail, Context, IsWellFormedState, Evaluates, LeavesValue, RunContext, RunsTo, PathsGive, kept_path_code, outside, path_in, HasText, RootField, nothing_kept, with_path, IsCodeAt, size, set_word, word_at}
use Rattle.expression_code.specs.Instructions as insn
use Rattle.expression_code.proofs.Frames.{keeps_then, shows_after, stored}
use Rattle.expression_code.proofs.Leaves.{leaves_give, leaves_name}
use Rattle.expression_code.proofs.Operators.{one_gives}
use Rattle.expression_code.proofs.Pieces.{size-append, size-cons, stands_back, stands_front, stands_rest}
use Rattle.expression_code.proofs.Runs.{and_then, into, looser, to_place}
use Rattle.expression_code.proofs.Selection.{selection_gives}
use Rattle.expression_code.proofs.Values.{small_reference}
use Rattle.expression_code.proofs.Listings.{begins, store}

module _ (s : RunContext) (depth address : ℕ) (path : RootField) (rest : List Insn) (environment : Environment) (constants : List ℕ) (x : ValueOrError) (n m : ℕ) where
  abbrev c : Context
  c = outside environment constants nothing_kept

  abbrev c1 : Context
  c1 = outside environment constants (with_path path)

  -- without the path
  shows_without : (old new : CpuState) → LeavesValue c1 depth 1 x old new → LeavesValue c depth 1 x old new
  shows_without old new shown = grind arith

  keeps_path : (q : ℕ) (b : CpuState) → IsCodeAt s.image.code q (insn.store 0 R0 ∷ rest) → IsWellFormedState c depth 0 b → Names b.values.values (b.registers R0) (path_in path c) → Evaluates s (q + 1) rest c1 depth 1 x n m → RunsTo s (1 + n) m q b (q + 1 + size rest) (LeavesValue c depth 0 x b)
  keeps_path q b has fits named gives =
      let r = b.registers R0 in
      let stored1 = stored c depth 0 0 r b fits (omega arith) (omega arith) (small_reference b.values r (path_in path c) fits.values.table named) in
      let b1 = set_word depth 0 r b in
      let kept : Names b1.values.values (word_at depth 0 b1) (path_in path c) = subst (λ (w : ℕ). Names b.values.values w (path_in path c)) (sym stored1.here) named in
      looser s {n = suc n} {x = m} (1 + n) m (omega arith) (omega arith)
      (begins has
      (store has 0 0 refl fits.frame (omega arith)
      (into s (LeavesValue c depth 0 x b) (λ b2 g2. shows_after (omega arith) (omega arith) stored1.keeps (shows_without b1 b2 g2) stored1.fits)
      (gives.runs b1 (stands_rest s.image.code q (insn.store 0 R0) rest has) (grind arith)))))

  abbrev front : List Insn
  front = operand_code (Some (name_leaf path.root [])) (leaf_code (name_leaf path.root [])) R1 ++ field_tail address (length path.field)

  -- the path's own code
  front_gives : (p : ℕ) → HasText constants address path.field → Evaluates s p front c depth 0 (path_in path c) 5 1
  unfolding name_value
  front_gives p text =
      let root = name_value path.root environment in
      one_gives s p (Some (name_leaf path.root [])) (leaf_code (name_leaf path.root [])) (field_tail address (length path.field)) R1 c depth 0 root (path_in path c) 1 0 3 1 refl (leaves_name.name c depth 0 path.root (omega arith)) (leaves_give.name s p c depth 0 path.root (omega arith))
      (selection_gives.field s _ c depth 0 root address path.field (omega arith) text)

  kept_gives : (p : ℕ) → HasText constants address path.field → Evaluates s (p + 6) rest c1 depth 1 x n m → Evaluates s p (kept_path_code path address rest) c depth 0 x (6 + n) (1 + m)
  kept_gives p text gives = record {
    runs = λ b has fits.
        let code = s.image.code in
        let put = insn.store 0 R0 in
        let Q = LeavesValue c depth 0 x b in
        let place : p + 5 + 1 + size rest ≡ p + size (front ++ put ∷ rest) = omega (arith, size-append front (put ∷ rest), size-cons put rest) in
        let there : p + 6 ≡ p + 5 + 1 = omega arith in
        to_place s _ place
        (looser s {n = 5 + (1 + n)} {x = 1 + m} (6 + n) (1 + m) (omega arith) (omega arith)
        (and_then s (1 + n) m (p + 5 + 1 + size rest) Q ((front_gives p text).runs b (stands_front code p front (put ∷ rest) has) fits) (λ b1 g1.
        into s Q (λ b2 g2. record { shows = g2.shows; fits = g2.fits; keeps = keeps_then (omega arith) g1.keeps g2.keeps })
        (keeps_path (p + 5) b1 (stands_back code p front (put ∷ rest) has) g1.fits g1.shows (subst (λ (i : ℕ). Evaluates s i rest c1 depth 1 x n m) there gives)))));
  }

pub paths_give : PathsGive
paths_give = grind (arith, kept_gives)
