-- Proofs of `images::debugging::read_documents`: the result meets the contract.

use Rattle.review_runner.proofs.images.debugging.read_documents.Goals as goal

pub returns-clause-held : goal.returns-clause-held
returns-clause-held g c = rw c.as_deref.ensures.value at c.read_files.ensures.held
