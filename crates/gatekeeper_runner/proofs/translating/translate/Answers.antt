-- Proofs of `translating::translate`: the result meets the contract.

use Rattle.gatekeeper_runner.specs.Translating.{refused}
use Rattle.gatekeeper_runner.proofs.translating.translate.Goals as goal

pub returns-in-Err-clause-translates : goal.returns-in-Err-clause-translates
returns-in-Err-clause-translates g c =
    refused (record { fault = c.in-Err.fault; has = c.in-Err.ensures.translates; told = rw c.as_str.ensures.value at c.in_file.ensures })
