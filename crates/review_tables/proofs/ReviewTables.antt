-- The values of the roots in documents.
use Rattle.value_table.proofs.Prelude.{◌≡◌, ℕ, List, [], ◌∷◌, Option, Some, None, IsSome, Result, Ok, Err, inl, inr, refl, sym, ap, ◌∙◌, subst, arith, option_map, Value, value_in, HasGrown, IsValueAt, heap_values, Contents, start_contents}
use Rattle.value_table.specs.declared.heap.Heap.{Heap}
use Rattle.std.specs.Prelude.{option_and_then, codes}
use Rattle.std.specs.Str.{IsUtf8}
use Rattle.std.proofs.lemmas.Str.{IsUtf8-from_is_utf8, is_utf8-from_IsUtf8}
use Rattle.serde_json.specs.Data as json
use Rattle.serde_json.specs.Find.{get_member}
use Rattle.serde_json.specs.Read.{read}
use Rattle.value_store.specs.Value as kind
use Rattle.value_store.specs.Lookup.{text_part}
use Rattle.value_store.specs.Roots.{value_of}
use Rattle.review_tables.specs.Reading.{AddsPlaced, PlacesValue, ReadsDocument, IsSoundPlace, placed_value}
use Rattle.value_store.specs.Documents.{document_of, text_or_empty}
use Rattle.value_store.specs.Reviews.{ReviewRoots, null_parts, parts_of, parts_in, request_of, root_documents, uid_in}
use Rattle.review_tables.specs.ReviewReading.{IsPlacedRequest, IsRequestOf, ReadsReview}
use Rattle.review_tables.specs.RootPlaces.{ArePlacedValues, AreSoundPlaces, ChargeReturns, TableReturns}
use Rattle.review_tables.specs.OtherRoots.{OtherValues, other_values, values_of_others, AreSoundOthers}
use Rattle.review_tables.specs.ReviewTable.{ReviewIsRead, ReviewReturns, DocumentIsRead, DocumentReturns, OthersAreRead, OthersReturn, OtherIsRefused, RootsArePlaced, ReviewTableReturns}
use Rattle.value_store.specs.declared.table_error.TableError.{TableError}
use Rattle.review_tables.specs.declared.other_roots.OtherRoots.{OtherRoots}
use Rattle.review_tables.specs.declared.placed.Placed.{Placed}
use Rattle.review_tables.specs.declared.placed_request.PlacedRequest.{PlacedRequest}
use Rattle.review_tables.specs.declared.review_error.ReviewError.{ReviewError}
use Rattle.review_tables.specs.declared.review_error.ReviewError.TheVariants.{InvalidReview, InvalidDocument, RootRefused, ChargeTooLarge, Memory}
use Rattle.review_tables.proofs.PlacedValues.{answers_stay}

-- ---- texts

pub text_read : (bytes s : List ℕ) → s ≡ bytes → IsUtf8 bytes → read s ≡ document_of bytes
unfolding document_of
text_read bytes s e utf8 = rw (is_utf8-from_IsUtf8 bytes utf8) (ap read e)

pub text_refused : (bytes : List ℕ) → (IsUtf8 bytes → ⊥) → None ≡ document_of bytes
unfolding document_of
text_refused bytes none = grind (arith, IsUtf8-from_is_utf8)

-- the text at the place of a text
pub text_there : (vs : List Value) (place : ℕ) (o : Option (List ℕ)) (s : List ℕ) → o ≡ text_part (value_in vs place) → IsValueAt vs place (kind.text s) → o ≡ Some s
text_there vs place o s e h = e ∙ ap text_part h.is

-- ---- the review

-- the parts of a review are those of its request
parts_there : (o : Option json.Data) → option_and_then parts_in o ≡ option_map parts_of (option_and_then request_of o)
parts_there None = refl
parts_there (Some d) = refl

pub parts_are : (o : Option json.Data) (ms : json.Members) → option_and_then request_of o ≡ Some ms → option_and_then parts_in o ≡ Some (parts_of ms)
parts_are o ms e = parts_there o ∙ ap (option_map parts_of) e

no_parts : (o : Option json.Data) → option_and_then request_of o ≡ None → option_and_then parts_in o ≡ None
no_parts o e = parts_there o ∙ ap (option_map parts_of) e

some_request : (vs : List Value) (r : PlacedRequest) (o : Option json.Members) → IsRequestOf vs (Some r) o → (ms : json.Members) × (o ≡ Some ms) × IsPlacedRequest vs r ms
some_request vs r None h = absurd h
some_request vs r (Some ms) h = (ms, refl, h)

no_request : (vs : List Value) (o : Option json.Members) → IsRequestOf vs None o → o ≡ None
no_request vs None h = refl
no_request vs (Some ms) h = absurd h

pub review_is_read : (old h : Heap) (r : PlacedRequest) (o q : Option json.Data) → o ≡ q → ReadsReview old h (Some r) o → ReviewIsRead old h r q
review_is_read old h r o q e g =
    let m = some_request (heap_values h) r (request_of g.document) g.request in
    record { members = m.0; is = ap (option_and_then request_of) (sym e ∙ g.is) ∙ m.1; heap = g.heap; grown = g.grown; request = m.2 }

pub no_review : (old h : Heap) (o q : Option json.Data) → o ≡ q → ReadsReview old h None o → option_and_then parts_in q ≡ None
no_review old h o q e g = no_parts q (ap (option_and_then request_of) (sym e ∙ g.is) ∙ no_request (heap_values h) (request_of g.document) g.request)

pub no_document : (o q : Option json.Data) → o ≡ q → o ≡ None → option_and_then parts_in q ≡ None
no_document o q e none = ap (option_and_then parts_in) (sym e ∙ none)

pub document_is_read : (old new : Heap) (p : Option Placed) (o q : Option json.Data) → o ≡ q → ReadsDocument old new p o → DocumentIsRead old new p q
document_is_read old new p o q e g = record { document = g.document; is = sym e ∙ g.is; puts = g.puts }

-- ---- the namespace and the params

sound_stays : (us vs : List Value) (p : Option Placed) → HasGrown us vs → IsSoundPlace us p → IsSoundPlace vs p
sound_stays us vs p g h = (answers_stay us vs p (placed_value us p) g (record { sound = h; is = refl })).sound

both : (a b c d : Option Value) → a ≡ c → b ≡ d → ◌≡◌ {A = Option OtherValues} (Some (record { namespace = a; params = b })) (Some (record { namespace = c; params = d }))
both a b c d e f = λ i. Some (record { namespace = e i; params = f i })

pub others_are_read : (h0 h1 h2 : Heap) (n p : Option Placed) (namespace params : Option json.Data) → DocumentIsRead h0 h1 n namespace → DocumentIsRead h1 h2 p params
    → OthersAreRead h2 (record { namespace = n; params = p }) namespace params
others_are_read h0 h1 h2 n p namespace params b c =
    let given = answers_stay (heap_values h1) (heap_values h2) n _ c.puts.grown b.puts.value in
    record {
      heap = c.puts.heap;
      sound = (given.sound, c.puts.value.sound);
      values = both _ _ _ _ given.is c.puts.value.is ∙ sym (ap (λ x. other_values x params) b.is ∙ ap (other_values (Some b.document)) c.is);
    }

pub namespace_refused : (old new : Heap) (e : ReviewError) (namespace params : Option json.Data) → DocumentReturns old new (Err e) namespace → OthersReturn new (Err e) namespace params
namespace_refused old new InvalidDocument namespace params g = rw g refl
namespace_refused old new Memory namespace params g = tt
namespace_refused old new _ namespace params g = absurd g

no_params : (namespace : Option json.Data) → other_values namespace None ≡ None
no_params None = refl
no_params (Some d) = refl

pub params_refused : (old new : Heap) (e : ReviewError) (namespace params : Option json.Data) → DocumentReturns old new (Err e) params → OthersReturn new (Err e) namespace params
params_refused old new InvalidDocument namespace params g = ap (other_values namespace) g ∙ no_params namespace
params_refused old new Memory namespace params g = tt
params_refused old new _ namespace params g = absurd g

-- ---- the roots

pub all_stay : (us vs : List Value) (ps : List (Option Placed)) (ds : List json.Data) → HasGrown us vs → ArePlacedValues us ps ds → ArePlacedValues vs ps ds
all_stay us vs [] [] g h = tt
all_stay us vs (p ∷ ps) (d ∷ ds) g h = (answers_stay us vs p (value_of d) g h.0, all_stay us vs ps ds g h.1)
all_stay us vs _ _ g h = absurd h

pub all_sound_stay : (us vs : List Value) (ps : List (Option Placed)) → HasGrown us vs → AreSoundPlaces us ps → AreSoundPlaces vs ps
all_sound_stay us vs [] g h = tt
all_sound_stay us vs (p ∷ ps) g h = (sound_stays us vs p g h.0, all_sound_stay us vs ps g h.1)

same_values : (o p : OtherValues) → Some o ≡ Some p → o ≡ p
same_values o p e = cc

same_namespace : (o p : OtherValues) → Some o ≡ Some p → o.namespace ≡ p.namespace
same_namespace o p e = ap (λ (v : OtherValues). v.namespace) (same_values o p e)

same_params : (o p : OtherValues) → Some o ≡ Some p → o.params ≡ p.params
same_params o p e = ap (λ (v : OtherValues). v.params) (same_values o p e)

-- the shared values are those of two documents
some_others : (vs : List Value) (o : OtherRoots) (namespace params : Option json.Data) → AreSoundOthers vs (Some o) → values_of_others vs (Some o) ≡ other_values namespace params
    → (n : json.Data) × (p : json.Data) × (namespace ≡ Some n) × (params ≡ Some p) × PlacesValue vs o.namespace (value_of n) × PlacesValue vs o.params (value_of p)
some_others vs o (Some n) (Some p) s e =
    (n, p, refl, refl, record { sound = s.0; is = same_namespace _ _ e }, record { sound = s.1; is = same_params _ _ e })
some_others vs o (Some n) None s e = absurd (cc)
some_others vs o None params s e = absurd (cc)

pub no_others : (parts : Option ReviewRoots) (namespace params : Option json.Data) → IsSome parts → None ≡ other_values namespace params → OtherIsRefused parts namespace params
no_others parts None params s e = (s, inl refl)
no_others parts (Some n) None s e = (s, inr refl)
no_others parts (Some n) (Some p) s e = absurd (cc)

pub all_there : (o : Option ReviewRoots) (namespace params : Option json.Data) (parts : ReviewRoots) (n p : json.Data) → o ≡ Some parts → namespace ≡ Some n → params ≡ Some p
    → root_documents o namespace params ≡ Some (parts.object ∷ parts.old_object ∷ p ∷ n ∷ parts.request ∷ [])
all_there o namespace params parts n p e f g = rw (e, f, g) refl

-- whether or not both documents are there
pub none_given : (vs : List Value) (o : Option OtherRoots) (namespace params : Option json.Data) → o ≡ None → values_of_others vs o ≡ other_values namespace params → None ≡ other_values namespace params
none_given vs o namespace params is e = subst (λ (q : Option OtherRoots). values_of_others vs q ≡ other_values namespace params) is e

pub some_given : (vs : List Value) (o : Option OtherRoots) (q : OtherRoots) (namespace params : Option json.Data) → o ≡ Some q → values_of_others vs o ≡ other_values namespace params
    → values_of_others vs (Some q) ≡ other_values namespace params
some_given vs o q namespace params is e = subst (λ (r : Option OtherRoots). values_of_others vs r ≡ other_values namespace params) is e

pub some_sound : (vs : List Value) (o : Option OtherRoots) (q : OtherRoots) → o ≡ Some q → AreSoundOthers vs o → AreSoundOthers vs (Some q)
some_sound vs o q is h = subst (AreSoundOthers vs) is h

pub roots_are_placed : (old h : Heap) (r : PlacedRequest) (o : OtherRoots) (review namespace params : Option json.Data) → ReviewIsRead old h r review
    → AreSoundOthers (heap_values old) (Some o) → values_of_others (heap_values old) (Some o) ≡ other_values namespace params
    → RootsArePlaced h (r.object ∷ r.old_object ∷ o.params ∷ o.namespace ∷ r.rest ∷ []) (option_and_then parts_in review) namespace params
roots_are_placed old h r o review namespace params a s e =
    let given = some_others (heap_values old) o namespace params s e in
    let n = answers_stay (heap_values old) (heap_values h) o.namespace _ a.grown given.4 in
    let p = answers_stay (heap_values old) (heap_values h) o.params _ a.grown given.5 in
    let parts = parts_of a.members in
    record {
      documents = parts.object ∷ parts.old_object ∷ given.1 ∷ given.0 ∷ parts.request ∷ [];
      is = all_there _ namespace params parts given.0 given.1 (parts_are review a.members a.is) given.2 given.3;
      answer = (a.request.object, (a.request.old_object, (p, (n, (a.request.rest, tt)))));
    }

pub roots_are_sound : (old h : Heap) (r : PlacedRequest) (o : OtherRoots) (review : Option json.Data) → ReviewIsRead old h r review → AreSoundOthers (heap_values old) (Some o)
    → AreSoundPlaces (heap_values h) (r.object ∷ r.old_object ∷ o.params ∷ o.namespace ∷ r.rest ∷ [])
roots_are_sound old h r o review a s =
    let n = sound_stays (heap_values old) (heap_values h) o.namespace a.grown s.0 in
    let p = sound_stays (heap_values old) (heap_values h) o.params a.grown s.1 in
    (a.request.object.sound, (a.request.old_object.sound, (p, (n, (a.request.rest.sound, tt)))))

some_parts : (o : Option json.Data) (ms : json.Members) → option_and_then request_of o ≡ Some ms → IsSome (option_and_then parts_in o)
some_parts o ms e = rw (parts_are o ms e) refl

-- the roots without a review
pub others_are_placed : (old h : Heap) (null : Option Placed) (o : OtherRoots) (namespace params : Option json.Data) → AddsPlaced old h null (Some kind.null)
    → AreSoundOthers (heap_values old) (Some o) → values_of_others (heap_values old) (Some o) ≡ other_values namespace params
    → RootsArePlaced h (null ∷ null ∷ o.params ∷ o.namespace ∷ null ∷ []) (Some null_parts) namespace params
others_are_placed old h null o namespace params a s e =
    let given = some_others (heap_values old) o namespace params s e in
    let n = answers_stay (heap_values old) (heap_values h) o.namespace _ a.grown given.4 in
    let p = answers_stay (heap_values old) (heap_values h) o.params _ a.grown given.5 in
    record {
      documents = json.null ∷ json.null ∷ given.1 ∷ given.0 ∷ json.null ∷ [];
      is = all_there _ namespace params null_parts given.0 given.1 refl given.2 given.3;
      answer = (a.value, (a.value, (p, (n, (a.value, tt)))));
    }

pub others_are_sound : (old h : Heap) (null : Option Placed) (o : OtherRoots) → AddsPlaced old h null (Some kind.null) → AreSoundOthers (heap_values old) (Some o)
    → AreSoundPlaces (heap_values h) (null ∷ null ∷ o.params ∷ o.namespace ∷ null ∷ [])
others_are_sound old h null o a s =
    let n = sound_stays (heap_values old) (heap_values h) o.namespace a.grown s.0 in
    let p = sound_stays (heap_values old) (heap_values h) o.params a.grown s.1 in
    (a.value.sound, (a.value.sound, (p, (n, (a.value.sound, tt)))))

-- ---- the table

charged_as : {S : Type 0} (contents : S → Contents) (h : Heap) (places : List ℕ) (e : ReviewError) (due : Result Contents TableError) → ChargeReturns h places (Err e) due → TableReturns contents (Err e) due
charged_as contents h places (RootRefused k) due g = g
charged_as contents h places ChargeTooLarge due g = g
charged_as contents h places Memory due g = tt
charged_as contents h places _ due g = absurd g

-- the refusal of roots whose values were added
pub charge_refused : {S : Type 0} (contents : S → Contents) (r : Result S ReviewError) (e : ReviewError) (h : Heap) (places : List ℕ) (due : Result Contents TableError) → r ≡ Err e
    → ChargeReturns h places (Err e) due → TableReturns contents r due
charge_refused contents r e h places due same g = subst (λ q. TableReturns contents q due) (sym same) (charged_as contents h places e due g)

review_refused_by : {S : Type 0} (contents : S → Contents) (old new : Heap) (e : ReviewError) (review namespace params : Option json.Data) → ReviewReturns old new (Err e) review
    → ReviewTableReturns contents (Err e) (option_and_then parts_in review) namespace params
review_refused_by contents old new InvalidReview review namespace params g = g
review_refused_by contents old new Memory review namespace params g = tt
review_refused_by contents old new _ review namespace params g = absurd g

-- the refusal of a review
pub review_refused : {S : Type 0} (contents : S → Contents) (r : Result S ReviewError) (e : ReviewError) (old new : Heap) (review namespace params : Option json.Data) → r ≡ Err e
    → ReviewReturns old new (Err e) review → ReviewTableReturns contents r (option_and_then parts_in review) namespace params
review_refused contents r e old new review namespace params same g =
    subst (λ q. ReviewTableReturns contents q (option_and_then parts_in review) namespace params) (sym same) (review_refused_by contents old new e review namespace params g)

-- the refusal of another document
pub other_refused : (old new : Heap) (r : PlacedRequest) (review namespace params : Option json.Data) → ReviewIsRead old new r review
    → None ≡ other_values namespace params → OtherIsRefused (option_and_then parts_in review) namespace params
other_refused old new r review namespace params a e = no_others (option_and_then parts_in review) namespace params (some_parts review a.members a.is) e

-- the table of roots whose values were added
module _ {S T : Type 0} (contents : S → Contents) (seen : T → Contents) (h : Heap) (roots : List (Option Placed)) (parts : Option ReviewRoots) (namespace params : Option json.Data)
    (at : RootsArePlaced h roots parts namespace params) where
  refused_by : (e : ReviewError) → ((ds : List json.Data) → ArePlacedValues (heap_values h) roots ds → TableReturns contents (Err e) (start_contents ds)) → ReviewTableReturns seen (Err e) parts namespace params
  refused_by (RootRefused place) g = (at.documents, at.is, g at.documents at.answer)
  refused_by ChargeTooLarge g = (at.documents, at.is, g at.documents at.answer)
  refused_by Memory g = tt
  refused_by InvalidReview g = absurd (g at.documents at.answer)
  refused_by InvalidDocument g = absurd (g at.documents at.answer)

  pub placed_refused : (r : Result T ReviewError) (e : ReviewError) → r ≡ Err e → ((ds : List json.Data) → ArePlacedValues (heap_values h) roots ds → TableReturns contents (Err e) (start_contents ds))
      → ReviewTableReturns seen r parts namespace params
  placed_refused r e same g = subst (λ q. ReviewTableReturns seen q parts namespace params) (sym same) (refused_by e g)

  pub placed_given : (t : S) (s : T) → contents t ≡ seen s → ((ds : List json.Data) → ArePlacedValues (heap_values h) roots ds → TableReturns contents (Ok t) (start_contents ds))
      → ReviewTableReturns seen (Ok s) parts namespace params
  placed_given t s e g = (at.documents, at.is, g at.documents at.answer ∙ ap Ok e)

-- the table or its refusal
pub placed_returns : {S : Type 0} (contents : S → Contents) (h : Heap) (roots : List (Option Placed)) (parts : Option ReviewRoots) (namespace params : Option json.Data) (r : Result S ReviewError)
    → RootsArePlaced h roots parts namespace params → ((ds : List json.Data) → ArePlacedValues (heap_values h) roots ds → TableReturns contents r (start_contents ds))
    → ReviewTableReturns contents r parts namespace params
placed_returns contents h roots parts namespace params (Ok t) at g = placed_given contents contents h roots parts namespace params at t t refl g
placed_returns contents h roots parts namespace params (Err e) at g = placed_refused contents contents h roots parts namespace params at (Err e) e refl g

-- the uid of a review
pub uid_is : (bytes text : List ℕ) (ms : json.Members) → option_and_then request_of (document_of bytes) ≡ Some ms → get_member (codes "uid") ms ≡ Some (json.string text) → text ≡ uid_in bytes
unfolding uid_in
uid_is bytes text ms e f = sym (ap (λ o. text_or_empty (option_and_then (get_member (codes "uid")) o)) e ∙ ap text_or_empty f)
