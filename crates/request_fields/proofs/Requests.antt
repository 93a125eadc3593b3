-- The request in the kept fields of a review is that of the whole review.
use Rattle.std.proofs.Common.{◌≡◌, ◌∙◌, ◌&&◌, ℕ, Bool, true, false, List, Option, Some, None, ap, ap₂, codes, is_some, option_map, refl, sym, true≢false, if◌then◌else◌}
use Rattle.std.specs.Prelude.{option_and_then}
use Rattle.serde_json.specs.Data as json
use Rattle.serde_json.specs.Find.{get, get_member}
use Rattle.value_store.specs.Documents.{equals_string, is_text}
use Rattle.value_store.specs.Reviews.{is_review, members_in, request_of}
use Rattle.json_fields.specs.Fields.{field, field_of, text_of, text_or_empty_of}
use Rattle.admission_match.specs.Matching.{writes}
use Rattle.admission_match.specs.Requests.{GroupVersionResource}
use Rattle.admission_match.specs.declared.operation.Operation.{Operation}
use Rattle.admission_documents.specs.Requests.{GroupVersionKind, Target, if_as_sent, if_written, is_as_sent, is_kind, is_resource, keeps_kind, keeps_resource, keeps_subresource, kind_from, kind_in, kind_of, labels_if_metadata, new_object_of, object_of, operation_of, request_from, request_in, resource_from, resource_in, resource_of, target_from, target_in, target_parts}
use Rattle.admission_documents.specs.Selectors.{are_texts, if_text_map, labels_field, labels_in, text_at}
use Rattle.request_fields.specs.Fields.{below, below_request, kept, kept_members}
use Rattle.request_fields.specs.Same.{IsSameObject, IsSameRequestIf, RequestIsKept}
use Rattle.request_fields.specs.declared.level.Level.TheVariants as level
use Rattle.request_fields.proofs.Kept.{at_kept, equals_kept, field_kept, field_of_kept, is_text_kept, text_at_kept, text_kept, text_or_empty_at_kept, there_kept}
use Rattle.request_fields.proofs.Ordered.{get_kept}

-- ---- kinds and resources

kind_kept : (d : json.Data) → kind_in (kept level.Kind d) ≡ kind_in d
unfolding kind_in below
kind_kept d =
    ap (λ g. kind_from g (text_of (field (codes "version") (kept level.Kind d))) (text_of (field (codes "kind") (kept level.Kind d))))
    (text_or_empty_at_kept level.Kind level.Text (codes "group") refl d)
    ∙ ap₂ (kind_from (text_or_empty_of (field (codes "group") d)))
    (text_at_kept level.Kind level.Text (codes "version") refl d) (text_at_kept level.Kind level.Text (codes "kind") refl d)

resource_kept : (d : json.Data) → resource_in (kept level.Kind d) ≡ resource_in d
unfolding resource_in below
resource_kept d =
    ap (λ g. resource_from g (text_of (field (codes "version") (kept level.Kind d))) (text_of (field (codes "resource") (kept level.Kind d))))
    (text_or_empty_at_kept level.Kind level.Text (codes "group") refl d)
    ∙ ap₂ (resource_from (text_or_empty_of (field (codes "group") d)))
    (text_at_kept level.Kind level.Text (codes "version") refl d) (text_at_kept level.Kind level.Text (codes "resource") refl d)

kind_of_kept : (o : Option json.Data) → kind_of (option_map (kept level.Kind) o) ≡ kind_of o
kind_of_kept None = refl
kind_of_kept (Some d) = kind_kept d

resource_of_kept : (o : Option json.Data) → resource_of (option_map (kept level.Kind) o) ≡ resource_of o
resource_of_kept None = refl
resource_of_kept (Some d) = resource_kept d

keeps_kind_kept : (k : GroupVersionKind) (o : Option json.Data) → keeps_kind k (option_map (kept level.Kind) o) ≡ keeps_kind k o
unfolding keeps_kind
keeps_kind_kept k None = refl
keeps_kind_kept k (Some d) = ap (is_kind k) (kind_kept d)

keeps_resource_kept : (x : GroupVersionResource) (o : Option json.Data) → keeps_resource x (option_map (kept level.Kind) o) ≡ keeps_resource x o
unfolding keeps_resource
keeps_resource_kept x None = refl
keeps_resource_kept x (Some d) = ap (is_resource x) (resource_kept d)

keeps_subresource_kept : (s : List ℕ) (o : Option json.Data) → keeps_subresource s (option_map (kept level.Text) o) ≡ keeps_subresource s o
unfolding keeps_subresource
keeps_subresource_kept s None = refl
keeps_subresource_kept s (Some json.null) = refl
keeps_subresource_kept s (Some (json.boolean b)) = refl
keeps_subresource_kept s (Some (json.number n)) = refl
keeps_subresource_kept s (Some (json.string t)) = refl
keeps_subresource_kept s (Some (json.array ds)) = refl
keeps_subresource_kept s (Some (json.object ms)) = refl

operation_kept : (o : Option json.Data) → operation_of (option_map (kept level.Text) o) ≡ operation_of o
unfolding operation_of
operation_kept None = refl
operation_kept (Some json.null) = refl
operation_kept (Some (json.boolean b)) = refl
operation_kept (Some (json.number n)) = refl
operation_kept (Some (json.string t)) = refl
operation_kept (Some (json.array ds)) = refl
operation_kept (Some (json.object ms)) = refl

-- ---- the target

is_as_sent_kept : (d : json.Data) (t : Target) → is_as_sent (kept level.Request d) t ≡ is_as_sent d t
unfolding is_as_sent below below_request
is_as_sent_kept d t =
    let kind : keeps_kind t.kind (field (codes "requestKind") (kept level.Request d)) ≡ keeps_kind t.kind (field (codes "requestKind") d) =
    ap (keeps_kind t.kind) (field_kept level.Request level.Kind (codes "requestKind") refl d) ∙ keeps_kind_kept t.kind (field (codes "requestKind") d) in
    let resource : keeps_resource t.resource (field (codes "requestResource") (kept level.Request d)) ≡ keeps_resource t.resource (field (codes "requestResource") d) =
    ap (keeps_resource t.resource) (field_kept level.Request level.Kind (codes "requestResource") refl d) ∙ keeps_resource_kept t.resource (field (codes "requestResource") d) in
    let subresource : keeps_subresource t.subresource (field (codes "requestSubResource") (kept level.Request d)) ≡ keeps_subresource t.subresource (field (codes "requestSubResource") d) =
    ap (keeps_subresource t.subresource) (field_kept level.Request level.Text (codes "requestSubResource") refl d)
    ∙ keeps_subresource_kept t.subresource (field (codes "requestSubResource") d) in
    ap₂ (λ (a b : Bool). a && b) (ap₂ (λ (a b : Bool). a && b) kind resource) subresource

target_parts_kept : (d : json.Data) → target_parts (kept level.Request d) ≡ target_parts d
unfolding target_parts below below_request
target_parts_kept d =
    let kind : kind_of (field (codes "kind") (kept level.Request d)) ≡ kind_of (field (codes "kind") d) =
    ap kind_of (field_kept level.Request level.Kind (codes "kind") refl d) ∙ kind_of_kept (field (codes "kind") d) in
    let resource : resource_of (field (codes "resource") (kept level.Request d)) ≡ resource_of (field (codes "resource") d) =
    ap resource_of (field_kept level.Request level.Kind (codes "resource") refl d) ∙ resource_of_kept (field (codes "resource") d) in
    ap (λ k. target_from k (resource_of (field (codes "resource") (kept level.Request d))) (text_or_empty_of (field (codes "subResource") (kept level.Request d)))) kind
    ∙ ap₂ (target_from (kind_of (field (codes "kind") d))) resource (text_or_empty_at_kept level.Request level.Text (codes "subResource") refl d)

if_as_sent_kept : (d : json.Data) (o : Option Target) → if_as_sent (kept level.Request d) o ≡ if_as_sent d o
if_as_sent_kept d None = refl
if_as_sent_kept d (Some t) = ap (λ b. if b then Some t else None) (is_as_sent_kept d t)

target_kept : (d : json.Data) → target_in (kept level.Request d) ≡ target_in d
target_kept d = ap (if_as_sent (kept level.Request d)) (target_parts_kept d) ∙ if_as_sent_kept d (target_parts d)

-- ---- objects

abbrev object_kept : Option (Option json.Data) → Option (Option json.Data)
object_kept o = option_map (λ x. option_map (kept level.Object) x) o

object_of_kept : (o : Option json.Data) → object_of (option_map (kept level.Object) o) ≡ object_kept (object_of o)
object_of_kept None = refl
object_of_kept (Some json.null) = refl
object_of_kept (Some (json.boolean b)) = refl
object_of_kept (Some (json.number n)) = refl
object_of_kept (Some (json.string s)) = refl
object_of_kept (Some (json.array ds)) = refl
object_of_kept (Some (json.object ms)) = refl

abbrev no_object : Option json.Data
no_object = None

needed : (b : Bool) → (if b then None else Some no_object) ≡ object_kept (if b then None else Some no_object)
needed true = refl
needed false = refl

if_written_kept : (operation : Operation) (x : Option (Option json.Data)) → if_written operation (object_kept x) ≡ object_kept (if_written operation x)
if_written_kept operation None = refl
if_written_kept operation (Some None) = needed (writes operation)
if_written_kept operation (Some (Some d)) = refl

new_object_kept : (operation : Option Operation) (o : Option json.Data)
    → new_object_of operation (option_map (kept level.Object) o) ≡ object_kept (new_object_of operation o)
new_object_kept None o = refl
new_object_kept (Some operation) o = ap (if_written operation) (object_of_kept o) ∙ if_written_kept operation (object_of o)

-- ---- labels

are_texts_kept : (ms : json.Members) → are_texts (kept_members level.Labels ms) ≡ are_texts ms
unfolding below
are_texts_kept json.no_members = refl
are_texts_kept (json.member k json.null ms) = refl
are_texts_kept (json.member k (json.boolean b) ms) = refl
are_texts_kept (json.member k (json.number n) ms) = refl
are_texts_kept (json.member k (json.string s) ms) = are_texts_kept ms
are_texts_kept (json.member k (json.array ds) ms) = refl
are_texts_kept (json.member k (json.object es) ms) = refl

texts_stay : (ms : json.Members) → are_texts ms ≡ true → kept_members level.Labels ms ≡ ms
unfolding below
texts_stay json.no_members e = refl
texts_stay (json.member k json.null ms) e = absurd (true≢false (sym e))
texts_stay (json.member k (json.boolean b) ms) e = absurd (true≢false (sym e))
texts_stay (json.member k (json.number n) ms) e = absurd (true≢false (sym e))
texts_stay (json.member k (json.string s) ms) e = ap (json.member k (json.string s)) (texts_stay ms e)
texts_stay (json.member k (json.array ds) ms) e = absurd (true≢false (sym e))
texts_stay (json.member k (json.object es) ms) e = absurd (true≢false (sym e))

if_texts : (b : Bool) (ms : json.Members) → are_texts ms ≡ b
    → (if b then Some (json.object (kept_members level.Labels ms)) else None) ≡ (if b then Some (json.object ms) else None)
if_texts true ms e = ap (λ (x : json.Members). Some (json.object x)) (texts_stay ms e)
if_texts false ms e = refl

text_map_kept : (o : Option json.Data) → if_text_map (option_map (kept level.Labels) o) ≡ if_text_map o
text_map_kept None = refl
text_map_kept (Some json.null) = refl
text_map_kept (Some (json.boolean b)) = refl
text_map_kept (Some (json.number n)) = refl
text_map_kept (Some (json.string s)) = refl
text_map_kept (Some (json.array ds)) = refl
text_map_kept (Some (json.object ms)) =
    ap (λ b. if b then Some (json.object (kept_members level.Labels ms)) else None) (are_texts_kept ms) ∙ if_texts (are_texts ms) ms refl

metadata_kept : (d : json.Data) → field (codes "metadata") (kept level.Object d) ≡ option_map (kept level.Metadata) (field (codes "metadata") d)
unfolding below
metadata_kept d = field_kept level.Object level.Metadata (codes "metadata") refl d

labels_field_kept : (d : json.Data) → labels_field (kept level.Object d) ≡ option_map (kept level.Labels) (labels_field d)
unfolding below
labels_field_kept d =
    ap (field_of (codes "labels")) (metadata_kept d) ∙ field_of_kept level.Metadata level.Labels (codes "labels") refl (field (codes "metadata") d)

labels_kept : (d : json.Data) → labels_in (kept level.Object d) ≡ labels_in d
unfolding labels_in
labels_kept d = ap text_at (ap if_text_map (labels_field_kept d) ∙ text_map_kept (labels_field d))

has_metadata : (d : json.Data) → is_some (field (codes "metadata") (kept level.Object d)) ≡ is_some (field (codes "metadata") d)
has_metadata d = ap is_some (metadata_kept d) ∙ there_kept level.Metadata (field (codes "metadata") d)

labels_if_kept : (o : Option json.Data) → labels_if_metadata (option_map (kept level.Object) o) ≡ labels_if_metadata o
labels_if_kept None = refl
labels_if_kept (Some d) = ap₂ (λ b l. if b then Some l else None) (has_metadata d) (labels_kept d)

-- ---- names

metadata_text_kept : (k : List ℕ) → below level.Metadata k ≡ Some level.Text → (d : json.Data)
    → text_of (field_of k (field (codes "metadata") (kept level.Object d))) ≡ text_of (field_of k (field (codes "metadata") d))
metadata_text_kept k e d =
    ap (λ o. text_of (field_of k o)) (metadata_kept d)
    ∙ ap text_of (field_of_kept level.Metadata level.Text k e (field (codes "metadata") d)) ∙ text_kept level.Text (field_of k (field (codes "metadata") d))

same_object : (o : Option json.Data) → IsSameObject o (option_map (kept level.Object) o)
unfolding below
same_object None = tt
same_object (Some d) = record {
  metadata = has_metadata d;
  name = metadata_text_kept (codes "name") refl d;
  prefix = metadata_text_kept (codes "generateName") refl d;
}

-- ---- the request

same_from : (target : Option Target) (name namespace : Option (List ℕ)) (operation : Option Operation) (x y : Option (Option json.Data))
    → IsSameRequestIf (request_from target name namespace operation x y) (request_from target name namespace operation (object_kept x) (object_kept y))
same_from None name namespace operation x y = tt
same_from (Some t) None namespace operation x y = tt
same_from (Some t) (Some n) None operation x y = tt
same_from (Some t) (Some n) (Some s) None x y = tt
same_from (Some t) (Some n) (Some s) (Some o) None y = tt
same_from (Some t) (Some n) (Some s) (Some o) (Some a) None = tt
same_from (Some t) (Some n) (Some s) (Some o) (Some a) (Some b) = record {
  kind = refl;
  attributes = ap₂ (λ l m. record {
    resource = t.resource;
    subresource = t.subresource;
    name = n;
    namespace = s;
    operation = o;
    object = l;
    old_object = m;
  }) (labels_if_kept a) (labels_if_kept b);
  object = same_object a;
  old_object = same_object b;
}

request_kept : (d : json.Data) → IsSameRequestIf (request_in d) (request_in (kept level.Request d))
unfolding request_in below below_request
request_kept d =
    let name = text_or_empty_at_kept level.Request level.Text (codes "name") refl d in
    let namespace = text_or_empty_at_kept level.Request level.Text (codes "namespace") refl d in
    let operation : operation_of (field (codes "operation") (kept level.Request d)) ≡ operation_of (field (codes "operation") d) =
    ap operation_of (field_kept level.Request level.Text (codes "operation") refl d) ∙ operation_kept (field (codes "operation") d) in
    let object : new_object_of (operation_of (field (codes "operation") (kept level.Request d))) (field (codes "object") (kept level.Request d))
    ≡ object_kept (new_object_of (operation_of (field (codes "operation") d)) (field (codes "object") d)) =
    ap₂ new_object_of operation (field_kept level.Request level.Object (codes "object") refl d)
    ∙ new_object_kept (operation_of (field (codes "operation") d)) (field (codes "object") d) in
    let old_object : object_of (field (codes "oldObject") (kept level.Request d)) ≡ object_kept (object_of (field (codes "oldObject") d)) =
    ap object_of (field_kept level.Request level.Object (codes "oldObject") refl d) ∙ object_of_kept (field (codes "oldObject") d) in
    rw (target_kept d, name, namespace, object, old_object, operation) (same_from (target_in d) (text_or_empty_of (field (codes "name") d))
    (text_or_empty_of (field (codes "namespace") d)) (operation_of (field (codes "operation") d))
    (new_object_of (operation_of (field (codes "operation") d)) (field (codes "object") d)) (object_of (field (codes "oldObject") d)))

-- ---- the review

is_review_kept : (d : json.Data) → is_review (kept level.Review d) ≡ is_review d
unfolding below
is_review_kept d =
    let version : equals_string (get (codes "apiVersion") (kept level.Review d)) (codes "admission.k8s.io/v1") ≡ equals_string (get (codes "apiVersion") d) (codes "admission.k8s.io/v1") =
    ap (λ o. equals_string o (codes "admission.k8s.io/v1")) (at_kept level.Review level.Text (codes "apiVersion") refl d)
    ∙ equals_kept level.Text (get (codes "apiVersion") d) (codes "admission.k8s.io/v1") in
    let kind : equals_string (get (codes "kind") (kept level.Review d)) (codes "AdmissionReview") ≡ equals_string (get (codes "kind") d) (codes "AdmissionReview") =
    ap (λ o. equals_string o (codes "AdmissionReview")) (at_kept level.Review level.Text (codes "kind") refl d)
    ∙ equals_kept level.Text (get (codes "kind") d) (codes "AdmissionReview") in
    ap₂ (λ (a b : Bool). a && b) version kind

uid_kept : (ms : json.Members) → get_member (codes "uid") (kept_members level.Request ms) ≡ option_map (kept level.Text) (get_member (codes "uid") ms)
unfolding below below_request
uid_kept ms = get_kept level.Request level.Text (codes "uid") ms refl

if_mapped : {A B : Type 0} (f : A → B) (b : Bool) (a : A) → (if b then Some (f a) else None) ≡ option_map f (if b then Some a else None)
if_mapped f true a = refl
if_mapped f false a = refl

members_kept : (o : Option json.Data)
    → option_and_then members_in (option_map (kept level.Request) o) ≡ option_map (kept_members level.Request) (option_and_then members_in o)
members_kept None = refl
members_kept (Some json.null) = refl
members_kept (Some (json.boolean b)) = refl
members_kept (Some (json.number n)) = refl
members_kept (Some (json.string s)) = refl
members_kept (Some (json.array ds)) = refl
members_kept (Some (json.object ms)) =
    ap (λ b. if b then Some (kept_members level.Request ms) else None)
    (ap is_text (uid_kept ms) ∙ is_text_kept level.Text (get_member (codes "uid") ms))
    ∙ if_mapped (kept_members level.Request) (is_text (get_member (codes "uid") ms)) ms

if_review : (b : Bool) (o : Option json.Members)
    → (if b then option_map (kept_members level.Request) o else None) ≡ option_map (kept_members level.Request) (if b then o else None)
if_review true o = refl
if_review false o = refl

request_of_kept : (d : json.Data) → request_of (kept level.Review d) ≡ option_map (kept_members level.Request) (request_of d)
unfolding below
request_of_kept d =
    ap₂ (λ b o. if b then o else None) (is_review_kept d)
    (ap (option_and_then members_in) (at_kept level.Review level.Request (codes "request") refl d) ∙ members_kept (get (codes "request") d))
    ∙ if_review (is_review d) (option_and_then members_in (get (codes "request") d))

same_request : (o : Option json.Members)
    → IsSameRequestIf (option_and_then request_in (option_map json.object o))
    (option_and_then request_in (option_map json.object (option_map (kept_members level.Request) o)))
same_request None = tt
same_request (Some ms) = request_kept (json.object ms)

-- a request's `uid` is a text, which stays
uid_at : (g : Option json.Data) (ms : json.Members) → get_member (codes "uid") ms ≡ g
    → option_and_then (get_member (codes "uid")) (option_map (kept_members level.Request) (if is_text g then Some ms else None))
    ≡ option_and_then (get_member (codes "uid")) (if is_text g then Some ms else None)
uid_at None ms e = refl
uid_at (Some json.null) ms e = refl
uid_at (Some (json.boolean b)) ms e = refl
uid_at (Some (json.number n)) ms e = refl
uid_at (Some (json.string s)) ms e = uid_kept ms ∙ ap (option_map (kept level.Text)) e ∙ sym e
uid_at (Some (json.array ds)) ms e = refl
uid_at (Some (json.object es)) ms e = refl

uid_in_request : (o : Option json.Data)
    → option_and_then (get_member (codes "uid")) (option_map (kept_members level.Request) (option_and_then members_in o))
    ≡ option_and_then (get_member (codes "uid")) (option_and_then members_in o)
uid_in_request None = refl
uid_in_request (Some json.null) = refl
uid_in_request (Some (json.boolean b)) = refl
uid_in_request (Some (json.number n)) = refl
uid_in_request (Some (json.string s)) = refl
uid_in_request (Some (json.array ds)) = refl
uid_in_request (Some (json.object ms)) = uid_at (get_member (codes "uid") ms) ms refl

same_uid : (b : Bool) (o : Option json.Data)
    → option_and_then (get_member (codes "uid")) (option_map (kept_members level.Request) (if b then option_and_then members_in o else None))
    ≡ option_and_then (get_member (codes "uid")) (if b then option_and_then members_in o else None)
same_uid true o = uid_in_request o
same_uid false o = refl

pub request_is_kept : RequestIsKept
request_is_kept d =
    let is = request_of_kept d in
    record {
      request = rw is (same_request (request_of d));
      uid = ap (option_and_then (get_member (codes "uid"))) is ∙ same_uid (is_review d) (get (codes "request") d);
    }
