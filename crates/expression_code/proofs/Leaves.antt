-- The code of literals without parts and of names gives their values.
-- For the laws in `specs/Gives/Leaves`.
use Rattle.expression_code.proofs.Prelude.{◌≡◌, ℕ, ◌+◌, ◌≤◌, List, length, Option, Some, None, Bool, true, false, refl, ap, subst, arith, ℤ, pos, FitsSigned, bytes_eq, codes, if◌then◌else◌, w64, cast_signed, cast_unsigned, is_utf8, to_z-of_z, Names, R0, R1, R2, Value, ValueOrError, error, value, null, boolean, int, text, Roots, lookup, name_value, root_bindings, value_or_error, CpuState, set_register, HelperPlaces, leaf_code, int_code, null_leaf, text_code, truth_leaf, held_leaf, name_leaf, reference_or_error, root_reference, Context, Evaluates, HasValues, IsHeld, RunContext, LeavesGive, LeavesName, HasText, Lends, IsLeafIn, IsLeafOf, SimpleOperand, Reference, frame_words}
use Rattle.std.specs.Option.{option_or}
use Rattle.expression_code.proofs.Sites.{in_frame}
use Rattle.value_store.specs.Placing.{Contents}
use Rattle.expression_code.proofs.Frames.{fits_registers, shows_registers}
use Rattle.expression_code.proofs.HelperAnswers.{helpers}
use Rattle.expression_code.proofs.Ints.{word_small}
use Rattle.expression_code.proofs.Listings.{ask, begins, load_wide, put_length}
use Rattle.expression_code.proofs.Loaded.{leaf_size, leaf_step}
use Rattle.expression_code.proofs.Operators.{shows_placed}
use Rattle.expression_code.proofs.Runs.{arrived, done, looser}
use Rattle.expression_code.proofs.Values.{names_error, names_no, names_null, names_yes}

-- a simple operand that holds its value in every well-formed CPU state
pub leaf_gives : (s : RunContext) (p : ℕ) (c : Context) (depth base : ℕ) (l : SimpleOperand) (x : ValueOrError) → IsLeafOf c depth base (Some l) x → Evaluates s p (leaf_code l) c depth base x 1 0
leaf_gives s p c depth base l x named = record {
  runs = λ b has fits.
      begins has
      (leaf_step has R0 x 0 l refl fits.frame refl (named b fits) (λ w is.
      arrived s (omega (arith, leaf_size l R0)) (shows_registers c depth base b _ refl x fits is)));
}

truth_named : (c : Context) (depth base : ℕ) (t : Bool) → IsLeafOf c depth base (Some (truth_leaf t)) (value (boolean t))
truth_named c depth base false b fits = names_no b.values fits.values.table.store
truth_named c depth base true b fits = names_yes b.values fits.values.table.store

int_gives : (s : RunContext) (p : ℕ) (c : Context) (depth base : ℕ) (z : ℤ) → base ≤ frame_words → FitsSigned w64 z → Evaluates s p (int_code z) c depth base (value (int z)) 2 1
int_gives s p c depth base z low h = record {
  runs = λ b has fits.
      let w = cast_unsigned w64 z in
      let asks = set_register b R1 w in
      let fits1 = fits_registers c depth base b asks.registers refl fits in
      let same : value (int (cast_signed w64 w)) ≡ value (int z) = ap (λ (i : ℤ). value (int i)) (to_z-of_z w64 z h) in
      let a = subst (λ (x : ValueOrError). HelperPlaces (pos 3) asks x 1) same (helpers.int_new c.environment.roots asks fits1.values (word_small z h)) in
      begins has
      (load_wide has 0 refl refl
      (ask has 2 refl a.answers (λ paid.
      done s (p + 3) _ _ (shows_placed (in_frame c depth base) (pos 3) (value (int z)) 1 b asks.registers low refl fits a paid))));
}

text_gives : (s : RunContext) (p : ℕ) (c : Context) (depth base : ℕ) (address : ℕ) (t : List ℕ) → base ≤ frame_words → HasText c.constants address t
    → is_utf8 t ≡ true → Evaluates s p (text_code address (length t)) c depth base (value (text t)) 3 (1 + length t)
text_gives s p c depth base address t low h utf8 = record {
  runs = λ b has fits.
      let asks = set_register (set_register b R1 address) R2 (length t) in
      let lends : Lends asks R1 R2 t = record { bytes_are = rw (fits.constants) h.bytes_are; address = h.address_is_word; count = (let few = h.length_is_immediate in omega (arith, few)) } in
      let a = helpers.text_const c.environment.roots asks t (fits_registers c depth base b asks.registers refl fits).values lends utf8 in
      looser s {n = 3} {x = 1 + length t + 0} 3 (1 + length t) (omega arith) (omega arith) (begins has
      (load_wide has 0 refl refl
      (put_length has 2 (length t) refl refl h.length_is_immediate
      (ask has 3 refl a.answers (λ paid.
      done s (p + 4) _ _ (shows_placed (in_frame c depth base) (pos 4) (value (text t)) (1 + length t) b asks.registers low refl fits a paid))))));
}

-- ---- names

-- the reference of a root, by which of the names it has
root_by : (roots : Roots) (values : Contents) → HasValues roots values → (t u v w x : Bool)
    → Names values.values (cast_unsigned w64 (reference_or_error (if t then Some (pos 4) else if u then Some (pos 5) else if v then Some (pos 6) else if w then Some (pos 7) else if x then Some (pos 8) else None)))
    (value_or_error (if t then Some roots.object else if u then Some roots.old_object else if v then Some roots.params else if w then Some roots.namespace_object else if x then Some roots.request else None))
root_by roots values h true u v w x = h.stand.object
root_by roots values h false true v w x = h.stand.old_object
root_by roots values h false false true w x = h.stand.params
root_by roots values h false false false true x = h.stand.namespace_object
root_by roots values h false false false false true = h.stand.request
root_by roots values h false false false false false = names_error values h.table.store

root_named : (roots : Roots) (values : Contents) (n : List ℕ) → HasValues roots values
    → Names values.values (cast_unsigned w64 (root_reference n)) (value_or_error (lookup n (root_bindings roots)))
unfolding root_reference
root_named roots values n h =
    root_by roots values h (bytes_eq (codes "object") n) (bytes_eq (codes "oldObject") n) (bytes_eq (codes "params") n) (bytes_eq (codes "namespaceObject") n) (bytes_eq (codes "request") n)

held_named : (depth base : ℕ) (b : CpuState) (r : ℤ) (root : Option Value) → base ≤ frame_words → Names b.values.values (cast_unsigned w64 r) (value_or_error root)
    → (word : Option ℕ) (item : Option Value) → IsHeld depth base b word item → IsLeafIn (held_leaf word r) depth b (value_or_error (option_or item root))
held_named depth base b r root low named word item held = grind arith

name_named : (c : Context) (depth base : ℕ) (n : List ℕ) → base ≤ frame_words → IsLeafOf c depth base (Some (name_leaf n c.words.items)) (name_value n c.environment)
unfolding name_value
name_named c depth base n low b fits =
    let roots = c.environment.roots in
    held_named depth base b (root_reference n) (lookup n (root_bindings roots)) low (root_named roots b.values n fits.values) (lookup n c.words.items) (lookup n c.environment.items) (fits.holds.names n)

pub leaves_name : LeavesName
leaves_name = grind (arith, names_null, truth_named, name_named)

pub leaves_give : LeavesGive
leaves_give = record {
  null = λ s p c depth base low. leaf_gives s p c depth base null_leaf (value null) (leaves_name.null c depth base);
  truth = λ s p c depth base t low. leaf_gives s p c depth base (truth_leaf t) (value (boolean t)) (truth_named c depth base t);
  int = int_gives;
  text = text_gives;
  name = λ s p c depth base n low. leaf_gives s p c depth base (name_leaf n c.words.items) (name_value n c.environment) (name_named c depth base n low);
  error = λ s p c depth base low. leaf_gives s p c depth base (Reference (pos 0)) error (λ b fits. names_error b.values fits.values.table.store);
}
