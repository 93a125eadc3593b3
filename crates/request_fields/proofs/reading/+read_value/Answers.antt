-- Proofs of `reading::read_value`: the results meet the contracts; the loop invariant holds at first and is kept.

use Rattle.std.proofs.Common.{◌≡◌, ◌∙◌, [], ◌∷◌, None, Some, ap, ap₂, arith, option_map}
use Rattle.std.proofs.lemmas.Result.{IfOk-weaker}
use Rattle.json.specs.Json.{parse_map, read_key, value}
use Rattle.json.specs.Reads.{token_of}
use Rattle.json.specs.Token.{Token}
use Rattle.json.proofs.Grammar.{value_is}
use Rattle.serde_json.specs.Data as json
use Rattle.serde_json.specs.Read.{converted, of_json}
use Rattle.serde_json.specs.View.{members_view, view}
use Rattle.serde_json.proofs.Views.{view-Object}
use Rattle.review_tables.proofs.Turns.{key_refused, member_refused}
use Rattle.request_fields.proofs.KeptSoFar.{keeps_as, kept_ends, kept_start, kept_turn, opened, other_read, view-Null, view-String}
use Rattle.request_fields.proofs.reading.+read_value.Goals as goal

-- ---- members

pub read_members-members-init : goal.read_members-members-init
read_members-members-init t c = kept_start c.args.level c.args.depth c.args.reader.now (members_view c.new-kept.result.entries) (ap members_view c.new-kept.ensures.empty)

pub read_members-returns-in_err-key-clause-refused : goal.read_members-returns-in_err-key-clause-refused
read_members-returns-in_err-key-clause-refused t c refused =
    let l = c.members in
    key_refused c.args.depth c.args.reader.now l.reader l.invariant.read l.invariant.so_far c.in_err-key.ensures.value

pub read_members-returns-in_err-member-clause-refused : goal.read_members-returns-in_err-member-clause-refused
read_members-returns-in_err-member-clause-refused t c refused =
    let l = c.members in
    let named : read_key l.reader ≡ Some (Some c.in-Some.key.now, c.next_key.new.self) = grind arith in
    member_refused c.args.depth c.args.reader.now l.reader l.invariant.read l.invariant.so_far c.next_key.new.self c.in-Some.key.now named
    (c.read_member.ensures.refused (grind arith))

pub read_members-members-preserved : goal.read_members-members-preserved
read_members-members-preserved t c =
    let l = c.members in
    let named : read_key l.reader ≡ Some (Some c.in-Some.key.now, c.next_key.new.self) = grind arith in
    let done = c.in_ok-member.ensures in
    kept_turn c.args.level c.args.depth c.args.reader.now l.reader c.next_key.new.self c.read_member.new.reader (members_view l.kept.entries)
    (members_view c.in_ok-kept.kept.entries) c.in-Some.key.now c.below.result (option_map view c.in_ok-member.member) l.invariant named c.below.ensures done.read done.shorter
    c.in_ok-kept.ensures

pub read_members-returns-clause-read : goal.read_members-returns-clause-read
read_members-returns-clause-read t c =
    let l = c.members in
    let over : read_key l.reader ≡ Some (None, c.next_key.new.self) = grind arith in
    kept_ends c.args.level c.args.depth c.args.reader.now l.reader c.next_key.new.self (members_view l.kept.entries) _ (view-Object l.kept) l.invariant over

-- ---- values

pub read_value-returns-in_err-token-clause-refused : goal.read_value-returns-in_err-token-clause-refused
read_value-returns-in_err-token-clause-refused t c refused =
    let empty : c.args.reader.now ≡ [] = grind arith in
    ap (converted of_json) (ap (value c.args.depth) empty ∙ value_is c.args.depth [])

pub read_value-returns-then-depth-eq0-clause-refused : goal.read_value-returns-then-depth-eq0-clause-refused
unfolding value
read_value-returns-then-depth-eq0-clause-refused t c refused =
    let first : c.args.reader.now ≡ token_of c.in_ok-token.token ∷ c.next.new.self = grind arith in
    let none : c.args.depth ≡ 0 = omega arith in
    ap (converted of_json) (ap₂ value none (first ∙ ap (λ k. token_of k ∷ c.next.new.self) c.in-BeginObject.is))

pub read_value-returns-else-depth-eq0-clause-read : goal.read_value-returns-else-depth-eq0-clause-read
read_value-returns-else-depth-eq0-clause-read t c =
    let first : c.args.reader.now ≡ token_of c.in_ok-token.token ∷ c.next.new.self = grind arith in
    let is : c.args.reader.now ≡ Token.begin_object ∷ c.next.new.self = first ∙ ap (λ k. token_of k ∷ c.next.new.self) c.in-BeginObject.is in
    let opens = ap (λ ts. converted of_json (value c.args.depth ts)) is ∙ opened c.args.depth c.next.new.self (omega arith) in
    IfOk-weaker c.read_members.result _ _ (λ v h. keeps_as c.args.level (view v) _ _ c.read_members.new.reader opens h) c.read_members.ensures.read

pub read_value-returns-else-depth-eq0-clause-refused : goal.read_value-returns-else-depth-eq0-clause-refused
read_value-returns-else-depth-eq0-clause-refused t c refused =
    let first : c.args.reader.now ≡ token_of c.in_ok-token.token ∷ c.next.new.self = grind arith in
    let is : c.args.reader.now ≡ Token.begin_object ∷ c.next.new.self = first ∙ ap (λ k. token_of k ∷ c.next.new.self) c.in-BeginObject.is in
    let opens = ap (λ ts. converted of_json (value c.args.depth ts)) is ∙ opened c.args.depth c.next.new.self (omega arith) in
    opens ∙ ap (parse_map json.object) (c.read_members.ensures.refused refused)

pub read_value-returns-in_ok-from_str-in-String-clause-read : goal.read_value-returns-in_ok-from_str-in-String-clause-read
read_value-returns-in_ok-from_str-in-String-clause-read t c =
    let first : c.args.reader.now ≡ token_of c.in_ok-token.token ∷ c.next.new.self = grind arith in
    let is : c.args.reader.now ≡ Token.string c.in-String.text.now ∷ c.next.new.self = first ∙ ap (λ k. token_of k ∷ c.next.new.self) c.in-String.is in
    record {
      document = json.string c.in-String.text.now;
      is = ap (converted of_json) (ap (value c.args.depth) is ∙ value_is c.args.depth _);
      keeps = view-String c.in_ok-from_str-in-String.field-0 ∙ ap json.string c.in_ok-from_str-in-String.ensures.ok;
    }

pub read_value-returns-in-Null-clause-read : goal.read_value-returns-in-Null-clause-read
read_value-returns-in-Null-clause-read t c =
    let first : c.args.reader.now ≡ token_of c.in_ok-token.token ∷ c.next.new.self = grind arith in
    let is : c.args.reader.now ≡ Token.null ∷ c.next.new.self = first ∙ ap (λ k. token_of k ∷ c.next.new.self) c.in-Null.is in
    record { document = json.null; is = ap (converted of_json) (ap (value c.args.depth) is ∙ value_is c.args.depth _); keeps = view-Null }

pub read_value-returns-in_ok-check_token-in_default : goal.read_value-returns-in_ok-check_token-in_default
read_value-returns-in_ok-check_token-in_default t c =
    let first : c.args.reader.now ≡ token_of c.in_ok-token.token ∷ c.next.new.self = grind arith in
    let done = c.in_ok-check_token-in_default.ensures in
    record {
      read = keeps_as c.args.level _ _ _ c.check_token.new.reader (ap (λ ts. converted of_json (value c.args.depth ts)) first)
          (other_read c.args.level c.args.depth c.in_ok-token.token c.next.new.self c.check_token.new.reader c.in_default.not-BeginObject
          c.in_default.not-String c.in_default.not-Null done.read);
      shorter = grind (arith, first, done.shorter);
      refused = λ e. absurd (cc);
    }
