-- The cost of the first uses of variables in a run.
use Rattle.std.specs.Prelude.{◌≡◌, ℕ, suc, ◌+◌, ℤ, pos, negsuc, ◌+ℤ◌, Bool, false, not, ◌&&◌, ◌||◌, List, [], ◌∷◌, nat_eq, Option, Some, if◌then◌else◌}
use Rattle.std.specs.List.{list_any}
use Rattle.guest_memory.specs.RegionWords.{word_in}
use Rattle.insn_codec.specs.declared.insn.Insn.{Insn, TheVariants.CallLocal}
use Rattle.loader.specs.Contents.{Image}
use Rattle.bpf_machine.specs.Decoding.{fetched}
use Rattle.bpf_machine.specs.declared.frame.Frame.{Frame}

-- a variable: the slot of its routine, and the cost of its first use
pub record FirstUse : Type 0 where
  pub routine : ℕ
  pub steps : ℕ
  pub charge : ℕ

-- the place is this slot
abbrev pub is_slot : ℕ → ℤ → Bool
is_slot slot (pos place) = nat_eq place slot
is_slot slot (negsuc n) = false

-- the instruction before a return place is a local call of the routine at this slot
abbrev pub is_call_of : ℕ → ℤ → Option (Option Insn) → Bool
is_call_of slot place (Some (Some (CallLocal offset))) = is_slot slot (place +ℤ offset)
is_call_of slot place _ = false

-- a routine is open if one of the records belongs to a call of it
abbrev pub is_open : Image → ℕ → List Frame → Bool
is_open image slot records = list_any (λ f. is_call_of slot f.return_pc (fetched image.code (f.return_pc +ℤ negsuc 0))) records

-- The memo was empty when its word was `old`, and now it is filled or the routine is open: so this is the variable's
-- first use.
abbrev pub is_first_use : (old new : ℕ) → Bool → Bool
is_first_use old new open_now = nat_eq old 0 && (not (nat_eq new 0) || open_now)

-- the costs of the variables from number i on that pass a test
unfoldable pub cost_where : (ℕ → FirstUse → Bool) → (FirstUse → ℕ) → ℕ → List FirstUse → ℕ
cost_where test cost i [] = 0
cost_where test cost i (v ∷ more) = (if test i v then cost v else 0) + cost_where test cost (suc i) more

-- the costs of the variables first used while the scratch region changed from `old` to `new`; these calls were opened
-- and are still open
abbrev pub first_uses : Image → List FirstUse → (FirstUse → ℕ) → (old new : List ℕ) → List Frame → ℕ
first_uses image variables cost old new calls =
    cost_where (λ i v. is_first_use (word_in old i) (word_in new i) (is_open image v.routine calls)) cost 0 variables

-- the costs of all variables with an empty memo
abbrev pub pending : List FirstUse → (FirstUse → ℕ) → List ℕ → ℕ
pending variables cost scratch = cost_where (λ i v. nat_eq (word_in scratch i) 0) cost 0 variables

-- a filled memo is never emptied
abbrev pub StayFilled : (old new : List ℕ) → Type 0
StayFilled old new = (i : ℕ) → word_in new i ≡ 0 → word_in old i ≡ 0
