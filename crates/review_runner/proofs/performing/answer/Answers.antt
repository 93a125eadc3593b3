-- Proofs of `performing::answer`: the result meets the contract.

use Rattle.review_runner.proofs.performing.answer.Goals as goal

pub returns-in-Compile : goal.returns-in-Compile
returns-in-Compile g c = rw (c.in-Compile.is, ← c.as_str.ensures.value, ← c.as_str-in-Compile.ensures.value) c.make_file.ensures

pub returns-in-Review : goal.returns-in-Review
returns-in-Review g c = rw c.in-Review.is c.review_files.ensures.reviews

pub returns-in-RunImage : goal.returns-in-RunImage
returns-in-RunImage g c = rw (c.in-RunImage.is, ← c.as_str-in-RunImage.ensures.value) c.run_file.ensures.runs

pub returns-in-Assemble : goal.returns-in-Assemble
returns-in-Assemble g c = rw (c.in-Assemble.is, ← c.as_str-in-Assemble.ensures.value, ← c.as_str-in-Assemble-2.ensures.value) c.make_file-in-Assemble.ensures

pub returns-in-List : goal.returns-in-List
returns-in-List g c = rw (c.in-List.is, ← c.as_str-in-List.ensures.value) c.list_file.ensures.lists
