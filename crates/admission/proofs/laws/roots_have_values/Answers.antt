-- Proofs of `laws::roots_have_values`: the result meets the contract.

use Rattle.admission.proofs.RootContents.{given_have_values, roots_have_values}
use Rattle.admission.proofs.laws.roots_have_values.Goals as goal

pub returns-clause-documents : goal.returns-clause-documents
returns-clause-documents c = roots_have_values c.starts_are_tables.ensures c.values_are_as_said.ensures.canonical

pub returns-clause-given : goal.returns-clause-given
returns-clause-given c = given_have_values c.starts_are_tables.ensures c.values_are_as_said.ensures.canonical
