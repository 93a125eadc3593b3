-- Proof obligations of `phrase::up_to` (src/phrase.rt).
use Rattle.cel_reader.proofs.Prelude.{this_mark, unfit, fails, calls, missing}
use Rattle.cel_reader.proofs.Parts.{passed_on}
use Rattle.cel_reader.proofs.Steps.{found_at, misfit_left}
use Rattle.cel_reader.proofs.phrase.up_to.Goals as goal

pub returns-in-Some-clause-reads : goal.returns-in-Some-clause-reads
returns-in-Some-clause-reads c k s f room ws p o z = let q = rw c.in-Ok.is at p in calls _ q (found_at c.in-Some.ensures.at this_mark z)

pub returns-in-None-clause-reads : goal.returns-in-None-clause-reads
returns-in-None-clause-reads c k s f room ws p =
    let q = rw c.in-Ok.is at p in
    rw c.misfit.ensures (misfit_left _ _ _ (calls _ q (missing c.in-None.ensures.at unfit)))

pub returns-in-Err-clause-reads : goal.returns-in-Err-clause-reads
returns-in-Err-clause-reads c k s f room ws p = let q = rw c.in-Err.is at p in passed_on _ _ _ (λ j y. fails y) q
