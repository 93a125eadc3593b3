-- Proofs of `rows::ending_rows_stand`: the result meets the contract.

use Rattle.std.proofs.Common.{◌≡◌, ℕ, List, [], ◌∷◌, Some, None, Ok, Err, inl, inr, refl, subst, sym, ap, ◌∙◌, arith}
use Rattle.std.specs.Prelude.{codes}
use Rattle.streams.specs.Streams.{stream}
use Rattle.cli.specs.Ending.{Ending, ProgramEnds, ending_status}
use Rattle.cli.specs.EndingRows.{IsEndingDone, IsRefused}
use Rattle.cli.specs.declared.refusal.Refusal.TheVariants.{Words}
use Rattle.cli.proofs.rows.ending_rows_stand.Goals as goal

not_otherwise : ProgramEnds (IsEndingDone 1) (stream (Some []) 0) (stream (Some []) 0) 0 → ⊥
not_otherwise e = let is : 0 ≡ 1 = e.status_is ∙ ap ending_status e.does in cc

not_another : ProgramEnds IsRefused (stream (Some []) 0) (stream (Some (codes "celbpf: U1\n")) 0) 3 → ⊥
not_another e = let is : 3 ≡ 2 = e.status_is ∙ ap ending_status e.does in cc

pub returns : goal.returns
returns c = record {
  nothing_said = inl (record { adds = λ before is. cc; failed = refl });
  done = record { ending = Ok 1; does = refl; status_is = refl; says = inl (record { adds = λ before is. cc; failed = refl }) };
  done_otherwise = not_otherwise;
  refused = record { ending = Err Words; does = refl; status_is = refl; says = inl (record { adds = λ before is. cc; failed = refl }) };
  refused_and_cut = record {
    ending = Err Words;
    does = refl;
    status_is = refl;
    says = inr (record { many = 3; is_cut = omega arith; adds = λ before is. cc; failed = refl });
  };
  refused_with_another_status = not_another;
}
