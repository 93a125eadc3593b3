-- Proofs of `review::read_member`: the result meets the contract.

use Rattle.value_table.proofs.Prelude.{◌≡◌, arith, rules, bytes_eq-Decides}
use Rattle.std.specs.Prelude.{codes}
use Rattle.review_tables.proofs.ReviewReading.{reads_request, reads_version, reads_kind, reads_other}
use Rattle.review_tables.proofs.review.read_member.Goals as goal

pub returns-then-eq-clause-read : goal.returns-then-eq-clause-read
returns-then-eq-clause-read c =
    let is : c.args.key.now ≡ codes "request" = search rules in
    reads_request c.args.heap.now c.read_request.new.heap c.args.found.now c.in_ok-found.field-0 c.args.key.now _ c.read_request.new.reader is c.in_ok-found.ensures.read

pub returns-then-eq-2-clause-read : goal.returns-then-eq-2-clause-read
returns-then-eq-2-clause-read c =
    let is : c.args.key.now ≡ codes "apiVersion" = search rules in
    reads_version c.args.heap.now c.args.found.now c.in_ok-found-2.field-0 c.args.key.now _ c.read_is.new.reader c.requires is c.in_ok-found-2.ensures.read

pub returns-then-eq-3-clause-read : goal.returns-then-eq-3-clause-read
returns-then-eq-3-clause-read c =
    let is : c.args.key.now ≡ codes "kind" = search rules in
    reads_kind c.args.heap.now c.args.found.now c.in_ok-found-3.field-0 c.args.key.now _ c.read_is-then-eq-3.new.reader c.requires is c.in_ok-found-3.ensures.read

pub returns-clause-read : goal.returns-clause-read
returns-clause-read c =
    reads_other c.args.heap.now c.args.found.now c.args.key.now _ c.check_value.new.reader c.requires (λ e. let k : c.args.key.now ≡ codes "request" = e in grind (arith, bytes_eq-Decides)) (λ e. let k : c.args.key.now ≡ codes "apiVersion" = e in grind (arith, bytes_eq-Decides)) (λ e. let k : c.args.key.now ≡ codes "kind" = e in grind (arith, bytes_eq-Decides)) c.in_ok-check_value.ensures.read
