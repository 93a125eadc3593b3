-- Refusals of code and constants, which depend on their lengths alone: a list of a million numbers is not looked at.
use Rattle.std.proofs.Common.{◌≡◌, ℕ, ◌/◌, ◌%◌, List, length, replicate, Option, Some, None, Result, Ok, Err, if◌then◌else◌, nat_eq, nat_lt, not, ◌==◌, ap, ◌∙◌}
use Rattle.std.proofs.lemmas.List.{length-replicate}
use Rattle.insn_codec.specs.Limits.{slot_limit}
use Rattle.disassembler.specs.Answers.{refusal_of}
use Rattle.disassembler.specs.declared.dis_error.DisError.{DisError, TheVariants.PartialSlot, TheVariants.CodeTooLong}
use Rattle.loader.specs.Contents.{Image}
use Rattle.loader.specs.Format.{image_from, is_bad_count, is_too_long}
use Rattle.loader.specs.declared.load_error.LoadError.{LoadError, TheVariants.BadLength, TheVariants.BadSlotCount, TheVariants.ConstantsTooLong}
use Rattle.loader.specs.declared.version.Version.TheVariants.{First}

-- zeros by their number
pub zeros : (n : ℕ) → length {A = ℕ} (replicate n 0) ≡ n
zeros n = length-replicate n 0

-- why code of this length has no listing
abbrev pub refusal_by : ℕ → Option DisError
refusal_by n =
    if not (n % 8 == 0) then Some PartialSlot
    else (if nat_lt slot_limit (n / 8) then Some CodeTooLong
    else None)

pub refused : (code : List ℕ) (n : ℕ) → length code ≡ n → refusal_of code ≡ refusal_by n
refused code n e = ap refusal_by e

-- the image of code and constants of these lengths
abbrev pub image_by : ℕ → ℕ → List ℕ → List ℕ → Result Image LoadError
image_by n k code constants =
    if not (nat_eq (n % 8) 0) then Err BadLength
    else (if is_bad_count (n / 8) then Err BadSlotCount
    else (if is_too_long k then Err ConstantsTooLong
    else Ok (record { version = First; code = code; constants = constants })))

pub made : (code constants : List ℕ) (n k : ℕ) → length code ≡ n → length constants ≡ k → image_from First code constants ≡ image_by n k code constants
unfolding image_from
made code constants n k e f =
    ap (λ (m : ℕ). image_by m (length constants) code constants) e ∙ ap (λ (m : ℕ). image_by n m code constants) f
