-- Proofs of `review::read_whole`: the result meets the contract.

use Rattle.std.proofs.Common.{◌≡◌, [], ◌∷◌, length, None, sym, ap, subst, ◌∙◌, lit<, arith}
use Rattle.json.specs.Token.{Token}
use Rattle.json.specs.Json.{members, parse_map, value}
use Rattle.json.specs.Reads.{token_of}
use Rattle.json.proofs.Grammar.{value_is, value-begin_object}
use Rattle.serde_json.specs.Data as json
use Rattle.serde_json.specs.Read.{of_json, converted}
use Rattle.review_tables.specs.ReviewReading.{ReadsReviewValue}
use Rattle.review_tables.proofs.Conversion.{converted_object}
use Rattle.review_tables.proofs.ReviewReading.{top_read, top_other, not_object}
use Rattle.review_tables.proofs.review.read_whole.Goals as goal

pub returns-in_err-token-clause-refused : goal.returns-in_err-token-clause-refused
returns-in_err-token-clause-refused c refused =
    let empty : c.args.reader.now ≡ [] = grind arith in
    ap (converted of_json) (ap (value 127) empty ∙ value_is 127 [])

pub returns-in_err-found-in-BeginObject-clause-refused : goal.returns-in_err-found-in-BeginObject-clause-refused
returns-in_err-found-in-BeginObject-clause-refused c refused =
    let first : c.args.reader.now ≡ token_of c.in_ok-token.token ∷ c.next.new.self = grind arith in
    let rest = c.next.new.self in
    let opened = ap (converted of_json) (ap (value 127) (first ∙ ap (λ k. token_of k ∷ rest) c.in-BeginObject.is) ∙ value-begin_object 127 rest (lit< tt)) ∙ converted_object (members (value 126) (length rest) rest) in
    opened ∙ ap (parse_map json.object) (c.read_members.ensures.refused (grind arith))

pub returns-in_ok-found-in-BeginObject-clause-read : goal.returns-in_ok-found-in-BeginObject-clause-read
returns-in_ok-found-in-BeginObject-clause-read c =
    let first : c.args.reader.now ≡ token_of c.in_ok-token.token ∷ c.next.new.self = grind arith in
    let rest = c.next.new.self in
    let is = first ∙ ap (λ k. token_of k ∷ rest) c.in-BeginObject.is in
    let found = c.in_ok-found-in-BeginObject in
    let top = top_read c.args.heap.now c.read_members.new.heap found.found 127 rest c.read_members.new.reader (lit< tt) found.ensures.read in
    subst (λ ts. ReadsReviewValue c.args.heap.now c.read_members.new.heap c.request_of_review.result (converted of_json (value 127 ts)) c.read_members.new.reader) (sym is)
    (subst (λ r. ReadsReviewValue c.args.heap.now c.read_members.new.heap r (converted of_json (value 127 (Token.begin_object ∷ rest))) c.read_members.new.reader) (sym c.request_of_review.ensures) top)

pub returns-in_ok-check_token-in_default : goal.returns-in_ok-check_token-in_default
returns-in_ok-check_token-in_default c =
    let first : c.args.reader.now ≡ token_of c.in_ok-token.token ∷ c.next.new.self = grind arith in
    let read = top_other c.args.heap.now 127 (token_of c.in_ok-token.token) c.next.new.self c.check_token.new.reader c.requires (not_object c.in_ok-token.token c.in_default.not-BeginObject) c.in_ok-check_token-in_default.ensures.read in
    record { read = subst (λ ts. ReadsReviewValue c.args.heap.now c.args.heap.now None (converted of_json (value 127 ts)) c.check_token.new.reader) (sym first) read; refused = λ e. absurd (cc) }
