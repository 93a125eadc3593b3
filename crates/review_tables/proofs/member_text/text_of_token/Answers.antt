-- Proofs of `member_text::text_of_token`: the result meets the contract.

use Rattle.std.proofs.Common.{◌≡◌, [], ◌∷◌, Some, sym, ap, subst}
use Rattle.json.specs.Token.{Token}
use Rattle.json.specs.Json.{value}
use Rattle.json.specs.Reads.{token_of}
use Rattle.serde_json.specs.Read.{of_json, converted}
use Rattle.review_tables.specs.MemberText.{FindsText}
use Rattle.review_tables.proofs.MemberTexts.{text_found, text_not_found}
use Rattle.review_tables.proofs.ReviewReading.{not_string}
use Rattle.review_tables.proofs.member_text.text_of_token.Goals as goal

pub returns-in-String-clause-found : goal.returns-in-String-clause-found
returns-in-String-clause-found c =
    let is : token_of c.args.token ∷ c.args.reader.now ≡ Token.string c.in-String.text.now ∷ c.args.reader.now = ap (λ k. token_of k ∷ c.args.reader.now) c.in-String.is in
    subst (λ ts. FindsText [] (Some c.in-String.text.now) (converted of_json (value c.args.depth ts)) c.args.reader.now) (sym is)
    (text_found c.args.depth c.in-String.text.now c.args.reader.now)

pub returns-in_ok-check_token-in_default : goal.returns-in_ok-check_token-in_default
returns-in_ok-check_token-in_default c =
    let done = c.in_ok-check_token-in_default.ensures in
    record {
      found = text_not_found c.args.depth (token_of c.args.token) c.args.reader.now c.check_token.new.reader (not_string c.args.token c.in_default.not-String) done.read;
      shorter = done.shorter;
      refused = tt;
    }
