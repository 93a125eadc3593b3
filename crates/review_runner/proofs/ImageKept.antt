-- No step changes the image.
use Rattle.review_runner.proofs.Prelude.{◌≡◌, ℕ, zero, suc, refl, ◌∙◌, arith, load_row, load_signed_row, load_wide_row, store_row, alu_row, byte_swap_row, neg_row, sign_extend_row, atomic_row, call_row, branch_row, call_local_row, exit_row, jump_row, State, start_state, executed, next_state, state_after, Insn}
use Rattle.loader.specs.Contents.{Image}
use Rattle.value_store.specs.Placing as store

row_same : (i : Insn) (s : State) → (executed i s).image ≡ s.image
unfolding alu_row neg_row sign_extend_row byte_swap_row jump_row branch_row call_row call_local_row exit_row load_row load_signed_row load_wide_row store_row atomic_row
row_same i s = grind arith

next_same : (s : State) → (next_state s).image ≡ s.image
unfolding next_state
next_same s = grind (arith, row_same)

pub image_kept : (k : ℕ) (s : State) → (state_after k s).image ≡ s.image
unfolding state_after
image_kept zero s = refl
image_kept (suc k) s = next_same (state_after k s) ∙ image_kept k s

pub image_of_start : (image : Image) (values : store.Contents) (k : ℕ) → (state_after k (start_state image values)).image ≡ image
unfolding start_state
image_of_start image values k = image_kept k (start_state image values)
