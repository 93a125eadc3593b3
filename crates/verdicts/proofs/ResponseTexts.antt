-- The text of a response consists of its tokens.
use Rattle.verdicts.proofs.Prelude.{◌≡◌, ℕ, List, [], ◌∷◌, ◌++◌, Option, Some, None, codes}
use Rattle.std.specs.Prelude.{decimal}
use Rattle.verdicts.proofs.Prelude.{refl, ap, ◌∙◌, append_assoc, append-nil, Ok, Rejection, rejection_tree, response_text}
use Rattle.json.specs.Print.{escape_byte, print, print_from, quoted}
use Rattle.json.specs.Token.{number, string}
use Rattle.json.specs.Written.{Writes, Written}
use Rattle.serde_json.proofs.Texts.{print-outline}
use Rattle.serde_json.specs.Written.{compact_text}
use Rattle.verdicts.specs.Response.{review_tree}
use Rattle.verdicts.specs.ResponseTokens.{allowed_tokens, denied_tokens, rejection_tokens, review_tokens, start_text}
use Rattle.verdicts.specs.Policy.{reason_code, reason_name}

-- a text that is written after others
pub text_added : {E : Type 0} (old new : Written) (bytes s : List ℕ)
    → old.before ≡ bytes → old.tokens ≡ [] → Writes {E = E} (Ok tt) old new (string s) → new.before ++ print new.tokens ≡ bytes ++ quoted s
unfolding print_from
text_added old new bytes s b t w =
    (λ i. (w.room.0 ∙ b) i ++ print ((w.ok ∙ ap (λ ts. ts ++ string s ∷ []) t) i))
    ∙ ap (λ (xs : List ℕ). bytes ++ xs) (append-nil (quoted s))

-- a number that is written after others
pub number_added : {E : Type 0} (old new : Written) (bytes digits : List ℕ)
    → old.before ≡ bytes → old.tokens ≡ [] → Writes {E = E} (Ok tt) old new (number digits)
    → new.before ++ print new.tokens ≡ bytes ++ digits
unfolding print_from
number_added old new bytes digits b t w =
    (λ i. (w.room.0 ∙ b) i ++ print ((w.ok ∙ ap (λ ts. ts ++ number digits ∷ []) t) i))
    ∙ ap (λ (xs : List ℕ). bytes ++ xs) (append-nil digits)

response_is : (said : Option Rejection) (uid : List ℕ)
    → print (review_tokens (rejection_tokens said uid)) ≡ compact_text (review_tree (rejection_tree said uid))
unfolding review_tree
response_is None uid = print-outline (review_tree (rejection_tree None uid))
response_is (Some o) uid = print-outline (review_tree (rejection_tree (Some o) uid))

-- one more part
pub part : (old new more before : List ℕ) → new ≡ old ++ more → old ≡ before → new ≡ before ++ more
part old new more before e f = e ∙ ap (λ (text : List ℕ). text ++ more) f

-- the parts of a response that allows the request
allowed_is : (uid : List ℕ)
    → start_text ++ (codes "true,\"uid\":" ++ (quoted uid ++ codes "}}")) ≡ print (review_tokens (allowed_tokens uid))
unfolding escape_byte print_from
allowed_is uid = refl

pub allowed_written : (uid : List ℕ) → ((start_text ++ codes "true,\"uid\":") ++ quoted uid) ++ codes "}}" ≡ response_text None uid
unfolding response_text
allowed_written uid =
    append_assoc (start_text ++ codes "true,\"uid\":") (quoted uid) (codes "}}")
    ∙ append_assoc start_text (codes "true,\"uid\":") (quoted uid ++ codes "}}")
    ∙ allowed_is uid
    ∙ response_is None uid

-- the parts of a response that denies the request
denied_is : (o : Rejection) (uid : List ℕ)
    → start_text ++ (codes "false,\"status\":{\"code\":" ++ (decimal (reason_code o.reason) ++ (codes ",\"message\":"
    ++ (quoted o.message ++ (codes ",\"reason\":" ++ (quoted (reason_name o.reason)
    ++ (codes "},\"uid\":" ++ (quoted uid ++ codes "}}"))))))))
    ≡ print (review_tokens (denied_tokens uid o))
unfolding escape_byte print_from
denied_is o uid = refl

nested : (a b c d e f g h i j : List ℕ)
    → ((((((((a ++ b) ++ c) ++ d) ++ e) ++ f) ++ g) ++ h) ++ i) ++ j ≡ a ++ (b ++ (c ++ (d ++ (e ++ (f ++ (g ++ (h ++ (i ++ j))))))))
nested a b c d e f g h i j =
    append_assoc (((((((a ++ b) ++ c) ++ d) ++ e) ++ f) ++ g) ++ h) i j
    ∙ append_assoc ((((((a ++ b) ++ c) ++ d) ++ e) ++ f) ++ g) h (i ++ j)
    ∙ append_assoc (((((a ++ b) ++ c) ++ d) ++ e) ++ f) g (h ++ (i ++ j))
    ∙ append_assoc ((((a ++ b) ++ c) ++ d) ++ e) f (g ++ (h ++ (i ++ j)))
    ∙ append_assoc (((a ++ b) ++ c) ++ d) e (f ++ (g ++ (h ++ (i ++ j))))
    ∙ append_assoc ((a ++ b) ++ c) d (e ++ (f ++ (g ++ (h ++ (i ++ j)))))
    ∙ append_assoc (a ++ b) c (d ++ (e ++ (f ++ (g ++ (h ++ (i ++ j))))))
    ∙ append_assoc a b (c ++ (d ++ (e ++ (f ++ (g ++ (h ++ (i ++ j)))))))

pub denied_written : (o : Rejection) (uid : List ℕ)
    → ((((((((start_text ++ codes "false,\"status\":{\"code\":") ++ decimal (reason_code o.reason))
    ++ codes ",\"message\":") ++ quoted o.message) ++ codes ",\"reason\":")
    ++ quoted (reason_name o.reason)) ++ codes "},\"uid\":") ++ quoted uid) ++ codes "}}" ≡ response_text (Some o) uid
unfolding response_text
denied_written o uid =
    nested start_text (codes "false,\"status\":{\"code\":") (decimal (reason_code o.reason)) (codes ",\"message\":") (quoted o.message)
    (codes ",\"reason\":") (quoted (reason_name o.reason)) (codes "},\"uid\":") (quoted uid) (codes "}}")
    ∙ denied_is o uid
    ∙ response_is (Some o) uid
