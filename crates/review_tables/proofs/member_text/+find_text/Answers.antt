-- Proofs of `member_text::find_text`: the results meet the contracts; the loop invariant holds at first and is kept.

use Rattle.value_table.proofs.Prelude.{◌≡◌, ◌<◌, ◌≤◌, [], ◌∷◌, length, Some, None, sym, ap, ap₂, ◌∙◌, arith, rules, bytes_eq, option_map, IfOk-weaker, subst}
use Rattle.std.proofs.Common.{map}
use Rattle.json.specs.Json.{read_key, value}
use Rattle.json.specs.Reads.{token_of}
use Rattle.json.specs.Token.{Token}
use Rattle.json.proofs.Grammar.{value_is, read_key-shorter}
use Rattle.serde_json.specs.Read.{of_json, converted}
use Rattle.review_tables.specs.MemberText.{FindsText}
use Rattle.review_tables.proofs.CheckLoops.{err_so, err_weaker}
use Rattle.review_tables.proofs.Turns.{key_refused, member_refused}
use Rattle.review_tables.proofs.MemberTexts.{member_found, members_refused, nothing_found, text_ends, text_start, text_turn}
use Rattle.review_tables.proofs.ReviewReading.{not_object}
use Rattle.review_tables.proofs.member_text.+find_text.Goals as goal

pub find_text-returns-in_err-token-clause-refused : goal.find_text-returns-in_err-token-clause-refused
find_text-returns-in_err-token-clause-refused t c =
    let empty : c.args.reader.now ≡ [] = grind arith in
    err_so _ _ (ap (converted of_json) (ap (value c.args.depth) empty ∙ value_is c.args.depth []))

pub text_in_members-members-init : goal.text_in_members-members-init
text_in_members-members-init t c = text_start c.args.depth c.args.key.now (map (λ s. s.now) c.args.rest.now) c.args.reader.now

pub text_in_members-returns-in_err-name-clause-refused : goal.text_in_members-returns-in_err-name-clause-refused
text_in_members-returns-in_err-name-clause-refused t c =
    let l = c.members in
    err_so _ _ (key_refused c.args.depth c.args.reader.now l.reader l.invariant.found l.invariant.so_far c.in_err-name.ensures.value)

pub text_in_members-members-preserved : goal.text_in_members-members-preserved
text_in_members-members-preserved t c =
    let l = c.members in
    let named : read_key l.reader ≡ Some (Some c.in-Some.name.now, c.next_key.new.self) = grind arith in
    let done = c.in_ok-found.ensures in
    let same : c.eq.result ≡ bytes_eq c.in-Some.name.now c.args.key.now = search rules in
    text_turn c.args.depth c.eq.result c.args.key.now c.in-Some.name.now (map (λ s. s.now) c.args.rest.now) c.args.reader.now l.reader c.next_key.new.self c.text_in_next.new.reader _ _ l.invariant named same done.found done.shorter

pub text_in_members-returns-in_err-found-clause-refused : goal.text_in_members-returns-in_err-found-clause-refused
text_in_members-returns-in_err-found-clause-refused t c =
    let l = c.members in
    let named : read_key l.reader ≡ Some (Some c.in-Some.name.now, c.next_key.new.self) = grind arith in
    err_so _ _ (member_refused c.args.depth c.args.reader.now l.reader l.invariant.found l.invariant.so_far c.next_key.new.self c.in-Some.name.now named c.in_err-found.ensures.refused)

pub text_in_members-returns-clause-found : goal.text_in_members-returns-clause-found
text_in_members-returns-clause-found t c =
    let l = c.members in
    let over : read_key l.reader ≡ Some (None, c.next_key.new.self) = grind arith in
    text_ends c.args.depth c.args.key.now (map (λ s. s.now) c.args.rest.now) c.args.reader.now l.reader c.next_key.new.self _ l.invariant over

pub text_in_members-returns-clause-shorter : goal.text_in_members-returns-clause-shorter
text_in_members-returns-clause-shorter t c =
    let l = c.members in
    let over : read_key l.reader ≡ Some (None, c.next_key.new.self) = grind arith in
    let less = read_key-shorter l.reader None c.next_key.new.self over in
    let within : length l.reader ≤ length c.args.reader.now = l.invariant.shorter in
    omega (arith, less, within)

pub text_in_token-returns-then-depth-eq0-clause-refused : goal.text_in_token-returns-then-depth-eq0-clause-refused
unfolding value
text_in_token-returns-then-depth-eq0-clause-refused t c =
    let none : c.args.depth ≡ 0 = omega arith in
    ap (converted of_json) (ap₂ value none (ap (λ k. token_of k ∷ c.args.reader.now) c.in-BeginObject.is))

pub text_in_token-returns-else-depth-eq0-clause-found : goal.text_in_token-returns-else-depth-eq0-clause-found
text_in_token-returns-else-depth-eq0-clause-found t c =
    let some : 0 < c.args.depth = omega arith in
    let is : token_of c.args.token ∷ c.args.reader.now ≡ Token.begin_object ∷ c.args.reader.now = ap (λ k. token_of k ∷ c.args.reader.now) c.in-BeginObject.is in
    IfOk-weaker c.text_in_members.result _ _
    (λ found g. subst (λ ts. FindsText (c.args.key.now ∷ map (λ s. s.now) c.args.rest.now) (option_map (λ s. s.now) found) (converted of_json (value c.args.depth ts)) c.text_in_members.new.reader) (sym is)
    (member_found c.args.depth c.args.key.now (map (λ s. s.now) c.args.rest.now) _ c.args.reader.now c.text_in_members.new.reader some g))
    c.text_in_members.ensures.found

pub text_in_token-returns-else-depth-eq0-clause-refused : goal.text_in_token-returns-else-depth-eq0-clause-refused
text_in_token-returns-else-depth-eq0-clause-refused t c =
    let some : 0 < c.args.depth = omega arith in
    let is : token_of c.args.token ∷ c.args.reader.now ≡ Token.begin_object ∷ c.args.reader.now = ap (λ k. token_of k ∷ c.args.reader.now) c.in-BeginObject.is in
    err_weaker c.text_in_members.result _ _
    (λ none. subst (λ ts. converted of_json (value c.args.depth ts) ≡ None) (sym is) (members_refused c.args.depth c.args.reader.now some none))
    c.text_in_members.ensures.refused

pub text_in_token-returns-in_ok-check_token-in_default : goal.text_in_token-returns-in_ok-check_token-in_default
text_in_token-returns-in_ok-check_token-in_default t c =
    let done = c.in_ok-check_token-in_default.ensures in
    record {
      found = nothing_found c.args.depth c.args.key.now (map (λ s. s.now) c.args.rest.now) (token_of c.args.token) c.args.reader.now c.check_token.new.reader (not_object c.args.token c.in_default.not-BeginObject) done.read;
      shorter = done.shorter;
      refused = tt;
    }
