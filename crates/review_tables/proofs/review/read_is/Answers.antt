-- Proofs of `review::read_is`: the result meets the contract.

use Rattle.std.proofs.Common.{◌≡◌, [], ◌∷◌, sym, ap, subst, ◌∙◌, arith, rules}
use Rattle.json.specs.Token.{Token}
use Rattle.json.specs.Json.{value}
use Rattle.json.specs.Reads.{token_of}
use Rattle.json.proofs.Grammar.{value_is}
use Rattle.serde_json.specs.Read.{of_json, converted}
use Rattle.review_tables.specs.ReviewReading.{ComparesText}
use Rattle.review_tables.proofs.ReviewReading.{text_read, text_other, not_string}
use Rattle.review_tables.proofs.review.read_is.Goals as goal

pub returns-in_err-token-clause-refused : goal.returns-in_err-token-clause-refused
returns-in_err-token-clause-refused c refused =
    let empty : c.args.reader.now ≡ [] = grind arith in
    ap (converted of_json) (ap (value 126) empty ∙ value_is 126 [])

pub returns-in-String-clause-read : goal.returns-in-String-clause-read
returns-in-String-clause-read c =
    let first : c.args.reader.now ≡ token_of c.in_ok-token.token ∷ c.next.new.self = grind arith in
    let is : c.args.reader.now ≡ Token.string c.in-String.other.now ∷ c.next.new.self = grind (arith, first) in
    subst (λ ts. ComparesText c.eq.result c.args.text.now (converted of_json (value 126 ts)) c.next.new.self) (sym is) (text_read 126 c.in-String.other.now c.args.text.now c.next.new.self c.eq.result (search rules))

pub returns-in_ok-check_token-in_default : goal.returns-in_ok-check_token-in_default
returns-in_ok-check_token-in_default c =
    let first : c.args.reader.now ≡ token_of c.in_ok-token.token ∷ c.next.new.self = grind arith in
    let read = text_other 126 (token_of c.in_ok-token.token) c.args.text.now c.next.new.self c.check_token.new.reader (not_string c.in_ok-token.token c.in_default.not-String) c.in_ok-check_token-in_default.ensures.read in
    record {
      read = subst (λ ts. ComparesText _ c.args.text.now (converted of_json (value 126 ts)) c.check_token.new.reader) (sym first) read;
      shorter = let less = c.in_ok-check_token-in_default.ensures.shorter in grind arith;
      refused = λ e. absurd (cc);
    }
