-- The negative numbers of documents fit 64 bits signed.
use Rattle.admission.proofs.Prelude.{◌≡◌, ℕ, ◌^◌, ◌≤◌, Bool, true, List, Option, Some, None, arith, leb-true, w64, FitsSigned, option_and_then, if◌then◌else◌, is_utf8, with_sign, if_last, value, tokens, get, get_member, max_depth, of_items, of_json, of_members, FitsNumber, HasNumbers, HaveNumbers, MembersHaveNumbers, document_of}
use Rattle.json.specs.Json as text
use Rattle.serde_json.specs.Data as json
use Rattle.serde_json.specs.Read.{number_of}

-- ---- numbers

negative_fits : (d : ℕ) → d ≤ 2 ^ 63 → FitsSigned w64 (with_sign true d)
negative_fits d small = grind arith

number_fits : (s : List ℕ) (n : json.Num) → number_of s ≡ Some n → FitsNumber n
unfolding number_of
number_fits s n e = grind (arith, negative_fits, leb-true)

-- ---- parsed documents

put_fits : (k : List ℕ) (d : json.Data) (ms : json.Members) → HasNumbers d → MembersHaveNumbers ms → MembersHaveNumbers (json.put k d ms)
put_fits k d json.no_members new old = (new, tt)
put_fits k d (json.member l e ms) new old = grind (arith, put_fits k d ms new old.1)

mutual
  data_fits : (j : text.Json) (d : json.Data) → of_json j ≡ Some d → HasNumbers d
  data_fits (text.array js) d e = grind (arith, items_fit js)
  data_fits (text.object ms) d e = grind (arith, members_fit ms json.no_members)
  data_fits j d e = grind (arith, number_fits)

  items_fit : (js : text.Items) (ds : json.Items) → of_items js ≡ Some ds → HaveNumbers ds
  items_fit text.no_items ds e = grind arith
  items_fit (text.item j js) ds e = grind (arith, data_fits j, items_fit js)

  members_fit : (ms : text.Members) (found after : json.Members) → MembersHaveNumbers found → of_members ms found ≡ Some after → MembersHaveNumbers after
  members_fit text.no_members found after before e = grind arith
  members_fit (text.member k j ms) found after before e = grind (arith, put_fits, data_fits j, members_fit ms)

text_fits : (b : Bool) (o : Option text.Json) (d : json.Data) → (if b then option_and_then of_json o else None) ≡ Some d → HasNumbers d
text_fits b o d e = grind (arith, data_fits)

-- the numbers of a document
pub document_fits : (bytes : List ℕ) (d : json.Data) → document_of bytes ≡ Some d → HasNumbers d
unfolding document_of
document_fits bytes d e = text_fits (is_utf8 bytes) (option_and_then (λ p. if_last p.0 p.1) (value max_depth (tokens bytes))) d e

-- ---- members

pub member_fits : (k : List ℕ) (ms : json.Members) (e : json.Data) → MembersHaveNumbers ms → get_member k ms ≡ Some e → HasNumbers e
member_fits k json.no_members e has is = cc
member_fits k (json.member l d ms) e has is = grind (arith, member_fits k ms e has.1)

pub get_fits : (k : List ℕ) (d e : json.Data) → HasNumbers d → get k d ≡ Some e → HasNumbers e
get_fits k d e has is = grind (arith, member_fits)
