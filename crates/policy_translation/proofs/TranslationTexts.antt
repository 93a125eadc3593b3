-- The text of a translation consists of its tokens.
use Rattle.std.proofs.Common.{◌≡◌, ℕ, suc, ◌+◌, ◌<◌, ◌≤◌, List, [], ◌∷◌, ◌++◌, length, map, take, Result, Ok, Err, OnOk, arith, refl, sym, ap, ◌∙◌}
use Rattle.std.proofs.Common.{append_assoc, append-nil, codes, get_or, string_bytes, subst}
use Rattle.std.proofs.lemmas.List.{map-append, take_all, take_more}
use Rattle.policy_translation.specs.TranslationText.{translation_text}
use Rattle.std.proofs.lemmas.Bool.{eqb-true}
use Rattle.std.proofs.lemmas.List.{length-map, length-take-le}
use Rattle.std.specs.Prelude.{◌==◌, false, flat_map, true}
use Rattle.json.specs.Print.{print}
use Rattle.json.specs.Token.{Token, begin_array, begin_object, end_array, end_object, key}
use Rattle.json.specs.Tree.{items_tokens, members_tokens}
use Rattle.json.specs.Written.{Writes, Written}
use Rattle.serde_json.proofs.Texts.{print-outline}
use Rattle.serde_json.specs.Data as json
use Rattle.serde_json.specs.View.{items_of}
use Rattle.serde_json.specs.Written.{items_outline, members_outline}
use Rattle.policy_glue.specs.Policy.{NamedExpression, Policy, Validation, named_view, reason_name, validation_view}
use Rattle.policy_glue.specs.declared.named_expression.NamedExpression.{NamedExpression as CodeNamed}
use Rattle.policy_glue.specs.declared.part_kind.PartKind.{PartKind, TheVariants.Variable, TheVariants.Condition, TheVariants.Message}
use Rattle.policy_glue.specs.declared.part_kind.PartKind.TheVariants.{Validation as OfValidation}
use Rattle.policy_glue.specs.declared.validation.Validation.{Validation as CodeValidation}
use Rattle.policy_glue.specs.ResponseTokens.{AddsTokens}
use Rattle.policy_translation.specs.TranslationText.{Member, array_in, author_texts, failure_name, members_in, message_member, metadata_of, named_data, named_list, named_texts}
use Rattle.policy_translation.specs.TranslationText.{object_in, option_member, part_key, spec_members, text_member, translation_data, validation_data, validation_texts, validations_member, validations_texts}
use Rattle.policy_translation.specs.TranslationTokens.{AddsData, AddsMembers, data_tokens, member_tokens}
use Rattle.policy_translation.proofs.Tokens.{adds_more, adds_none, one}

-- the tokens of members, up to the end of their object
members_end : (ms : List Member) → members_tokens (members_outline (members_in ms)) ≡ flat_map member_tokens ms ++ end_object ∷ []
members_end [] = refl
members_end (m ∷ ms) = ap (λ ts. key m.0 ∷ (data_tokens m.1 ++ ts)) (members_end ms) ∙ ap (λ ts. key m.0 ∷ ts) (sym (append_assoc (data_tokens m.1) (flat_map member_tokens ms) (end_object ∷ [])))

-- the tokens of items, up to the end of their array
items_end : (ds : List json.Data) → items_tokens (items_outline (items_of ds)) ≡ flat_map data_tokens ds ++ end_array ∷ []
items_end [] = refl
items_end (d ∷ ds) = ap (λ ts. data_tokens d ++ ts) (items_end ds) ∙ sym (append_assoc (data_tokens d) (flat_map data_tokens ds) (end_array ∷ []))

-- an object is its members in braces
pub object_added : {a b : Written} (ms : List Member) → AddsTokens a b (begin_object ∷ (flat_map member_tokens ms ++ end_object ∷ [])) → AddsData a b (object_in ms)
object_added {a} {b} ms adds = subst (AddsTokens a b) (ap (λ ts. begin_object ∷ ts) (sym (members_end ms))) adds

-- an array is its items in brackets
pub array_added : {a b : Written} (ds : List json.Data) → AddsTokens a b (begin_array ∷ (flat_map data_tokens ds ++ end_array ∷ [])) → AddsData a b (array_in ds)
array_added {a} {b} ds adds = subst (AddsTokens a b) (ap (λ ts. begin_array ∷ ts) (sym (items_end ds))) adds

flat_more : {A B : Type 0} (f : A → List B) (xs ys : List A) → flat_map f (xs ++ ys) ≡ flat_map f xs ++ flat_map f ys
flat_more f [] ys = refl
flat_more f (x ∷ xs) ys = ap (λ (bs : List _). f x ++ bs) (flat_more f xs ys) ∙ sym (append_assoc (f x) (flat_map f xs) (flat_map f ys))

-- members after members
pub members_more : {a b c : Written} (xs ys : List Member) → AddsMembers a b xs → AddsMembers b c ys → AddsMembers a c (xs ++ ys)
members_more {a} {b} {c} xs ys first second = subst (AddsTokens a c) (sym (flat_more member_tokens xs ys)) (adds_more first second)

-- a member of this key and value
pub member_added : {E : Type 0} {a b c : Written} (name : List ℕ) (d : json.Data) → Writes {E = E} (Ok tt) a b (key name) → AddsData b c d → AddsMembers a c ((name, d) ∷ [])
member_added {a = a} {c = c} name d named adds = subst (AddsTokens a c) (sym (append-nil (key name ∷ data_tokens d))) (adds_more (one named) adds)

-- the text that is written to an empty buffer
text_is : (source profile : Policy) (old new : Written) → old.before ≡ [] → old.tokens ≡ [] → AddsData old new (translation_data source profile)
    → (new.before ++ print new.tokens) ++ 10 ∷ [] ≡ translation_text source profile
unfolding translation_text
text_is source profile old new empty none adds =
    ap (λ (text : List ℕ). text ++ 10 ∷ [])
    ((λ i. (adds.before ∙ empty) i ++ print ((adds.added ∙ ap (λ (ts : List Token). ts ++ data_tokens (translation_data source profile)) none) i))
    ∙ print-outline (translation_data source profile))

-- the same text, of what the parts of two policies are
pub text_of_views : (a b source profile : Policy) (old new : Written) → a ≡ source → b ≡ profile → old.before ≡ [] → old.tokens ≡ []
    → AddsData old new (translation_data a b) → (new.before ++ print new.tokens) ++ 10 ∷ [] ≡ translation_text source profile
text_of_views a b source profile old new e f empty none adds = text_is a b old new empty none adds ∙ (λ i. translation_text (e i) (f i))

-- ---- loops

-- the part of items that is written so far, before an item of the list
module _ {A : Type 0} {B : Type 0} (f : A → List B) (xs : List A) (i : ℕ) (x : A) (within : i < length xs) (is : x ≡ get_or xs i x) where
  pub flat_one : flat_map f (take (i + 1) xs) ≡ flat_map f (take i xs) ++ f x
  flat_one =
      ap (flat_map f) (take_more xs i x within ∙ ap (λ (y : A). take i xs ++ y ∷ []) (sym is))
      ∙ flat_more f (take i xs) (x ∷ []) ∙ ap (λ (bs : List B). flat_map f (take i xs) ++ bs) (append-nil (f x))

-- items of items
pub flat_mapped : {A B : Type 0} (g : B → json.Data) (h : A → B) (xs : List A) → flat_map data_tokens (map g (map h xs)) ≡ flat_map (λ (x : A). data_tokens (g (h x))) xs
flat_mapped g h [] = refl
flat_mapped g h (x ∷ xs) = ap (λ (ts : List Token). data_tokens (g (h x)) ++ ts) (flat_mapped g h xs)

named_more : (part : PartKind) (k n : ℕ) (ns : List NamedExpression) (x : NamedExpression) → n ≡ k + length ns
    → named_texts part k (ns ++ x ∷ []) ≡ named_texts part k ns ++ text_member (part_key part n) x.expression ∷ []
named_more part k n [] x e = ap (λ m. text_member (part_key part m) x.expression ∷ []) (omega (arith, e))
named_more part k n (y ∷ ns) x e = ap (λ ms. text_member (part_key part k) y.expression ∷ ms) (named_more part (suc k) n ns x (omega (arith, e)))

validations_more : (k n : ℕ) (vs : List Validation) (x : Validation) → n ≡ k + length vs
    → validations_texts k (vs ++ x ∷ []) ≡ validations_texts k vs ++ validation_texts n x
validations_more k n [] x e = append-nil (validation_texts k x) ∙ ap (λ m. validation_texts m x) (omega (arith, e))
validations_more k n (y ∷ vs) x e =
    ap (λ ms. validation_texts k y ++ ms) (validations_more (suc k) n vs x (omega (arith, e)))
    ∙ sym (append_assoc (validation_texts k y) (validations_texts (suc k) vs) (validation_texts n x))

-- the texts so far, and those of the part at this place
module _ {A B : Type 0} (see : A → B) (xs : List A) (i : ℕ) (x : A) (within : i < length xs) (is : x ≡ get_or xs i x) where
  seen_more : map see (take (i + 1) xs) ≡ map see (take i xs) ++ see x ∷ []
  seen_more = ap (map see) (take_more xs i x within ∙ ap (λ (y : A). take i xs ++ y ∷ []) (sym is)) ∙ map-append see (take i xs) (x ∷ [])

  seen_count : i ≡ 0 + length (map see (take i xs))
  seen_count = let many = length-map (take i xs) see in let some = length-take-le i xs (omega (arith, within)) in omega (arith, many, some)

pub named_step : {a b c : Written} (part : PartKind) (ns : List CodeNamed) (i : ℕ) (x : CodeNamed) → i < length ns → x ≡ get_or ns i x
    → AddsMembers a b (named_texts part 0 (map named_view (take i ns))) → AddsMembers b c (text_member (part_key part i) (string_bytes x.expression) ∷ [])
    → AddsMembers a c (named_texts part 0 (map named_view (take (i + 1) ns)))
named_step {a} {b} {c} part ns i x within is before adds =
    subst (AddsMembers a c)
    (sym (ap (named_texts part 0) (seen_more named_view ns i x within is) ∙ named_more part 0 i (map named_view (take i ns)) (named_view x) (seen_count named_view ns i x within is)))
    (members_more _ _ before adds)

pub validations_step : {a b c : Written} (vs : List CodeValidation) (i : ℕ) (x : CodeValidation) → i < length vs → x ≡ get_or vs i x
    → AddsMembers a b (validations_texts 0 (map validation_view (take i vs))) → AddsMembers b c (validation_texts i (validation_view x))
    → AddsMembers a c (validations_texts 0 (map validation_view (take (i + 1) vs)))
validations_step {a} {b} {c} vs i x within is before adds =
    subst (AddsMembers a c)
    (sym (ap (validations_texts 0) (seen_more validation_view vs i x within is) ∙ validations_more 0 i (map validation_view (take i vs)) (validation_view x) (seen_count validation_view vs i x within is)))
    (members_more _ _ before adds)

-- ---- the ends of objects and arrays, if they can be written

pub object_last : {E : Type 0} {a b c d : Written} (ms : List Member) (r : Result (Unit {0}) E) → Writes {E = E} (Ok tt) a b begin_object → AddsMembers b c ms
    → Writes r c d end_object → OnOk r (AddsData a d (object_in ms))
object_last ms (Ok u) begins adds ends = object_added ms (adds_more (adds_more (one begins) adds) (one ends))
object_last ms (Err e) begins adds ends = tt

pub array_last : {E : Type 0} {a c d : Written} (ds : List json.Data) (r : Result (Unit {0}) E) → AddsTokens a c (begin_array ∷ flat_map data_tokens ds)
    → Writes r c d end_array → OnOk r (AddsData a d (array_in ds))
array_last ds (Ok u) adds ends = array_added ds (adds_more adds (one ends))
array_last ds (Err e) adds ends = tt

-- a member whose value is written last
pub member_last : {E F : Type 0} {a b : Written} (c : Written) (name : List ℕ) (d : json.Data) (r : Result (Unit {0}) F) → Writes {E = E} (Ok tt) a b (key name)
    → OnOk r (AddsData b c d) → OnOk r (AddsMembers a c ((name, d) ∷ []))
member_last {E} c name d (Ok u) named adds = member_added {E = E} name d named adds
member_last c name d (Err e) named adds = tt

pub object_all : {E F : Type 0} {a b c d : Written} (ms : List Member) → Writes {E = E} (Ok tt) a b begin_object → AddsMembers b c ms
    → Writes {E = F} (Ok tt) c d end_object → AddsData a d (object_in ms)
object_all ms begins adds ends = object_added ms (adds_more (adds_more (one begins) adds) (one ends))

-- ---- items of an array

module _ {A B : Type 0} (g : B → json.Data) (h : A → B) (xs : List A) (i : ℕ) where
  pub items_more : {a b c : Written} (x : A) → i < length xs → x ≡ get_or xs i x
      → AddsTokens a b (begin_array ∷ flat_map (λ (y : A). data_tokens (g (h y))) (take i xs)) → AddsData b c (g (h x))
      → AddsTokens a c (begin_array ∷ flat_map (λ (y : A). data_tokens (g (h y))) (take (i + 1) xs))
  items_more {a} {b} {c} x within is before adds =
      subst (AddsTokens a c) (ap (λ ts. begin_array ∷ ts) (sym (flat_one (λ (y : A). data_tokens (g (h y))) xs i x within is))) (adds_more before adds)

  pub items_last : {E : Type 0} {a c d : Written} → length xs ≤ i → (r : Result (Unit {0}) E)
      → AddsTokens a c (begin_array ∷ flat_map (λ (y : A). data_tokens (g (h y))) (take i xs)) → Writes r c d end_array
      → OnOk r (AddsData a d (array_in (map g (map h xs))))
  items_last {E} {a} {c} {d} past r adds writes =
      array_last (map g (map h xs)) r
      (subst (AddsTokens a c)
      (ap (λ ts. begin_array ∷ ts)
      (ap (flat_map (λ (y : A). data_tokens (g (h y)))) (take_all i xs past) ∙ sym (flat_mapped g h xs)))
      adds)
      writes

-- ---- what may be left out

not_zero : (n : ℕ) → (suc n == 0) ≡ true → ⊥
not_zero n is = let zero : suc n ≡ 0 = eqb-true (suc n) 0 is in omega (arith, zero)

pub named_none : (w : Written) (name : List ℕ) (ns : List CodeNamed) → (length ns == 0) ≡ true → AddsMembers w w (named_list name (map named_view ns))
named_none w name [] none = adds_none w
named_none w name (n ∷ ns) none = absurd (not_zero (length ns) none)

pub named_some : {E F : Type 0} {a b : Written} (c : Written) (name : List ℕ) (ns : List CodeNamed) → (length ns == 0) ≡ false → (r : Result (Unit {0}) F)
    → Writes {E = E} (Ok tt) a b (key name) → OnOk r (AddsData b c (array_in (map named_data (map named_view ns))))
    → OnOk r (AddsMembers a c (named_list name (map named_view ns)))
named_some c name [] some r named adds = absurd (cc)
named_some {E} c name (n ∷ ns) some r named adds = member_last {E = E} c name (array_in (map named_data (map named_view (n ∷ ns)))) r named adds

pub message_none : (w : Written) (text : List ℕ) → (length text == 0) ≡ true → AddsMembers w w (message_member text)
message_none w [] none = adds_none w
message_none w (b ∷ bs) none = absurd (not_zero (length bs) none)

pub message_some : {F : Type 0} (a b : Written) (text : List ℕ) → (length text == 0) ≡ false → (r : Result (Unit {0}) F)
    → OnOk r (AddsMembers a b (text_member (codes "message") text ∷ [])) → OnOk r (AddsMembers a b (message_member text))
message_some a b [] some r adds = absurd (cc)
message_some a b (x ∷ xs) some r adds = adds

-- all texts
pub named_all : {a b : Written} (part : PartKind) (ns : List CodeNamed) (i : ℕ) → length ns ≤ i
    → AddsMembers a b (named_texts part 0 (map named_view (take i ns))) → AddsMembers a b (named_texts part 0 (map named_view ns))
named_all {a} {b} part ns i past adds = subst (λ (xs : List CodeNamed). AddsMembers a b (named_texts part 0 (map named_view xs))) (take_all i ns past) adds

pub validations_all : {a b : Written} (vs : List CodeValidation) (i : ℕ) → length vs ≤ i
    → AddsMembers a b (validations_texts 0 (map validation_view (take i vs))) → AddsMembers a b (validations_texts 0 (map validation_view vs))
validations_all {a} {b} vs i past adds = subst (λ (xs : List CodeValidation). AddsMembers a b (validations_texts 0 (map validation_view xs))) (take_all i vs past) adds

-- ---- whole objects

module _ {E : Type 0} {a b c d : Written} (r : Result (Unit {0}) E) where
  pub named_whole : (n : NamedExpression) → Writes {E = E} (Ok tt) a b begin_object → AddsMembers b c (text_member (codes "name") n.name ∷ [])
      → {e : Written} → AddsMembers c d (text_member (codes "expression") n.expression ∷ []) → Writes r d e end_object → OnOk r (AddsData a e (named_data n))
  named_whole n begins name expression ends =
      object_last (text_member (codes "name") n.name ∷ text_member (codes "expression") n.expression ∷ []) r begins
      (members_more (text_member (codes "name") n.name ∷ []) (text_member (codes "expression") n.expression ∷ []) name expression) ends

  pub validation_whole : (v : Validation) {e f g : Written} → Writes {E = E} (Ok tt) a b begin_object
      → AddsMembers b c (text_member (codes "expression") v.expression ∷ []) → AddsMembers c d (message_member v.message)
      → AddsMembers d e (option_member (codes "messageExpression") v.message_expression) → AddsMembers e f (text_member (codes "reason") (reason_name v.reason) ∷ [])
      → Writes r f g end_object → OnOk r (AddsData a g (validation_data v))
  validation_whole v begins expression message option reason ends =
      let last = text_member (codes "reason") (reason_name v.reason) ∷ [] in
      let some = option_member (codes "messageExpression") v.message_expression ++ last in
      let all = message_member v.message ++ some in
      object_last (text_member (codes "expression") v.expression ∷ all) r begins
      (members_more (text_member (codes "expression") v.expression ∷ []) all expression
      (members_more (message_member v.message) some message (members_more (option_member (codes "messageExpression") v.message_expression) last option reason)))
      ends

  pub spec_whole : (p : Policy) {e f g : Written} → Writes {E = E} (Ok tt) a b begin_object
      → AddsMembers b c (text_member (codes "failurePolicy") (failure_name p.failure_policy) ∷ []) → AddsMembers c d (named_list (codes "variables") p.variables)
      → AddsMembers d e (named_list (codes "matchConditions") p.conditions) → AddsMembers e f (validations_member p.validations ∷ [])
      → Writes r f g end_object → OnOk r (AddsData a g (object_in (spec_members p)))
  spec_whole p begins failure variables conditions validations ends =
      let last = validations_member p.validations ∷ [] in
      let some = named_list (codes "matchConditions") p.conditions ++ last in
      let all = named_list (codes "variables") p.variables ++ some in
      object_last (spec_members p) r begins
      (members_more (text_member (codes "failurePolicy") (failure_name p.failure_policy) ∷ []) all failure
      (members_more (named_list (codes "variables") p.variables) some variables (members_more (named_list (codes "matchConditions") p.conditions) last conditions validations)))
      ends

-- the texts of the author, in the metadata
pub metadata_whole : {E : Type 0} {a b c d e f g : Written} (p : Policy) (r : Result (Unit {0}) E) → Writes {E = E} (Ok tt) a b begin_object
    → Writes {E = E} (Ok tt) b c (key (codes "annotations")) → Writes {E = E} (Ok tt) c d begin_object → AddsMembers d e (author_texts p)
    → Writes {E = E} (Ok tt) e f end_object → Writes r f g end_object → OnOk r (AddsData a g (metadata_of p))
metadata_whole {E} p r begins named opens texts closes ends =
    object_last ((codes "annotations", object_in (author_texts p)) ∷ []) r begins
    (member_added {E = E} (codes "annotations") (object_in (author_texts p)) named (object_all (author_texts p) opens texts closes)) ends

-- the whole policy
pub policy_whole : {E : Type 0} {a b c d e f g h i : Written} (source profile : Policy) (r : Result (Unit {0}) E) → Writes {E = E} (Ok tt) a b begin_object
    → AddsMembers b c (text_member (codes "apiVersion") (codes "admissionregistration.k8s.io/v1") ∷ [])
    → AddsMembers c d (text_member (codes "kind") (codes "ValidatingAdmissionPolicy") ∷ [])
    → Writes {E = E} (Ok tt) d e (key (codes "metadata")) → AddsData e f (metadata_of source)
    → Writes {E = E} (Ok tt) f g (key (codes "spec")) → AddsData g h (object_in (spec_members profile))
    → Writes r h i end_object → OnOk r (AddsData a i (translation_data source profile))
policy_whole {E} source profile r begins version kind metadata_key metadata spec_key spec ends =
    let version_member = text_member (codes "apiVersion") (codes "admissionregistration.k8s.io/v1") in
    let kind_member = text_member (codes "kind") (codes "ValidatingAdmissionPolicy") in
    let metadata_member : Member = (codes "metadata", metadata_of source) in
    let spec_member : Member = (codes "spec", object_in (spec_members profile)) in
    object_last (version_member ∷ kind_member ∷ metadata_member ∷ spec_member ∷ []) r begins
    (members_more (version_member ∷ []) (kind_member ∷ metadata_member ∷ spec_member ∷ []) version
    (members_more (kind_member ∷ []) (metadata_member ∷ spec_member ∷ []) kind
    (members_more (metadata_member ∷ []) (spec_member ∷ []) (member_added {E = E} (codes "metadata") (metadata_of source) metadata_key metadata)
    (member_added {E = E} (codes "spec") (object_in (spec_members profile)) spec_key spec))))
    ends

-- the texts of all parts
pub texts_whole : {F : Type 0} {a b c : Written} (d : Written) (p : Policy) (r : Result (Unit {0}) F) → AddsMembers a b (named_texts Variable 0 p.variables)
    → AddsMembers b c (named_texts Condition 0 p.conditions) → OnOk r (AddsMembers c d (validations_texts 0 p.validations)) → OnOk r (AddsMembers a d (author_texts p))
texts_whole d p (Ok u) variables conditions validations =
    let last = validations_texts 0 p.validations in
    members_more (named_texts Variable 0 p.variables) (named_texts Condition 0 p.conditions ++ last) variables
    (members_more (named_texts Condition 0 p.conditions) last conditions validations)
texts_whole d p (Err e) variables conditions validations = tt

-- the texts of a validation with a message expression
pub message_whole : {F : Type 0} {a b : Written} (c : Written) (place : ℕ) (expression message : List ℕ) (r : Result (Unit {0}) F)
    → AddsMembers a b (text_member (part_key OfValidation place) expression ∷ []) → OnOk r (AddsMembers b c (text_member (part_key Message place) message ∷ []))
    → OnOk r (AddsMembers a c (text_member (part_key OfValidation place) expression ∷ text_member (part_key Message place) message ∷ []))
message_whole c place expression message (Ok u) first second =
    members_more (text_member (part_key OfValidation place) expression ∷ []) (text_member (part_key Message place) message ∷ []) first second
message_whole c place expression message (Err e) first second = tt

-- the parts of a key
pub pieces : (s t u : List ℕ) → s ++ (t ++ (u ++ [])) ≡ s ++ (t ++ u)
pieces s t u = ap (λ (v : List ℕ). s ++ (t ++ v)) (append-nil u)
