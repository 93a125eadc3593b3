-- Proofs of `review::read_request`: the result meets the contract.

use Rattle.std.proofs.Common.{◌≡◌, [], ◌∷◌, length, None, sym, ap, subst, ◌∙◌, lit<, arith}
use Rattle.json.specs.Json.{members, parse_map, value}
use Rattle.json.specs.Reads.{token_of}
use Rattle.json.proofs.Grammar.{value_is, value-begin_object}
use Rattle.serde_json.specs.Data as json
use Rattle.serde_json.specs.Read.{of_json, converted}
use Rattle.review_tables.specs.ReviewReading.{ReadsRequest}
use Rattle.review_tables.proofs.Conversion.{converted_object}
use Rattle.review_tables.proofs.ReviewReading.{request_other, request_read, not_object}
use Rattle.review_tables.proofs.review.read_request.Goals as goal

pub returns-in_err-token-clause-refused : goal.returns-in_err-token-clause-refused
returns-in_err-token-clause-refused c refused =
    let empty : c.args.reader.now ≡ [] = grind arith in
    ap (converted of_json) (ap (value 126) empty ∙ value_is 126 [])

pub returns-in_err-found-in-BeginObject-clause-refused : goal.returns-in_err-found-in-BeginObject-clause-refused
returns-in_err-found-in-BeginObject-clause-refused c refused =
    let first : c.args.reader.now ≡ token_of c.in_ok-token.token ∷ c.next.new.self = grind arith in
    let rest = c.next.new.self in
    let opened = ap (converted of_json) (ap (value 126) (first ∙ ap (λ k. token_of k ∷ rest) c.in-BeginObject.is) ∙ value-begin_object 126 rest (lit< tt)) ∙ converted_object (members (value 125) (length rest) rest) in
    opened ∙ ap (parse_map json.object) (c.gather_members.ensures.refused (grind arith))

pub returns-in_ok-request_of-in-BeginObject-clause-read : goal.returns-in_ok-request_of-in-BeginObject-clause-read
returns-in_ok-request_of-in-BeginObject-clause-read c =
    let first : c.args.reader.now ≡ token_of c.in_ok-token.token ∷ c.next.new.self = grind arith in
    let rest = c.next.new.self in
    let is = first ∙ ap (λ k. token_of k ∷ rest) c.in-BeginObject.is in
    subst (λ ts. ReadsRequest c.args.heap.now c.request_of.new.heap c.in_ok-request_of-in-BeginObject.field-0 (converted of_json (value 126 ts)) c.gather_members.new.reader) (sym is)
    (request_read c.args.heap.now c.gather_members.new.heap c.request_of.new.heap c.in_ok-request_of-in-BeginObject.field-0 c.in_ok-found-in-BeginObject.found.entries 126 rest c.gather_members.new.reader (lit< tt) c.in_ok-found-in-BeginObject.ensures.read c.in_ok-request_of-in-BeginObject.ensures)

pub returns-in_ok-check_token-in_default : goal.returns-in_ok-check_token-in_default
returns-in_ok-check_token-in_default c =
    let first : c.args.reader.now ≡ token_of c.in_ok-token.token ∷ c.next.new.self = grind arith in
    let read = request_other c.args.heap.now 126 (token_of c.in_ok-token.token) c.next.new.self c.check_token.new.reader c.requires (not_object c.in_ok-token.token c.in_default.not-BeginObject) c.in_ok-check_token-in_default.ensures.read in
    record {
      read = subst (λ ts. ReadsRequest c.args.heap.now c.args.heap.now None (converted of_json (value 126 ts)) c.check_token.new.reader) (sym first) read;
      shorter = let less = c.in_ok-check_token-in_default.ensures.shorter in grind arith;
      refused = λ e. absurd (cc);
    }
