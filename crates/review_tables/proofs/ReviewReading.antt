-- The parts of a review are read member by member.
use Rattle.value_table.proofs.Prelude.{◌≡◌, ◌<◌, ◌≤◌, ℕ, zero, suc, ◌-◌, List, [], ◌∷◌, length, Bool, true, false, Option, Some, None, option_map, if◌then◌else◌, refl, sym, ap, ap₂, ◌∙◌, subst, arith, true≢false, bytes_eq, bytes_eq-Decides, Value, heap_values, IsHeap}
use Rattle.value_table.specs.declared.heap.Heap.{Heap}
use Rattle.std.specs.Prelude.{option_and_then, codes, ◌&&◌}
use Rattle.std.specs.Borrow.{Bor}
use Rattle.json.specs.Token.{Token}
use Rattle.json.specs.Token as token
use Rattle.json.specs.declared.token.Token as tokens
use Rattle.json.specs.declared.token.Token.TheVariants as variant
use Rattle.json.specs.Reads.{token_of}
use Rattle.json.specs.Json as spec
use Rattle.json.specs.Json.{parse_map, read_key, items, members, value}
use Rattle.json.proofs.Grammar.{value_is, value-begin_array, value-begin_object, read_key-shorter}
use Rattle.serde_json.specs.Data as json
use Rattle.serde_json.specs.Read.{max_depth, number_of, of_json, of_items, of_members, converted}
use Rattle.serde_json.specs.Find.{get_member}
use Rattle.serde_json.proofs.Views.{get_member-put, get_member-put_other}
use Rattle.review_tables.specs.Reading.{PlacedEntry, AreMembers, ReadsEntries, LeavesTokens}
use Rattle.value_store.specs.Documents.{equals_string}
use Rattle.value_store.specs.Reviews.{is_review, members_in, request_of}
use Rattle.review_tables.specs.ReviewReading.{IsRequestOf, MakesRequest, AreReviewFields, ReadsMember, ReadsMembers, ReadsRequest, ReadsReview, ComparesText, ReadsReviewValue}
use Rattle.value_table.specs.Growing.{HasGrown}
use Rattle.review_tables.specs.declared.placed_request.PlacedRequest.{PlacedRequest}
use Rattle.review_tables.specs.declared.review_fields.ReviewFields.{ReviewFields}
use Rattle.value_table.proofs.Growing.{grown_more, grown_none}
use Rattle.review_tables.proofs.Conversion.{converted_array, converted_object, whole, document_read, document_and_more}
use Rattle.review_tables.proofs.Turns.{MembersSoFar, members_begin, members_next, members_over}

-- ---- the kind of the value that was read

abbrev pub DataOf : Token → json.Data → Type 0
DataOf token.begin_object d = (ms : json.Members) × (d ≡ json.object ms)
DataOf token.begin_array d = (ds : json.Items) × (d ≡ json.array ds)
DataOf (token.string s) d = d ≡ json.string s
DataOf (token.number s) d = (n : json.Num) × (d ≡ json.number n)
DataOf (token.boolean b) d = d ≡ json.boolean b
DataOf token.null d = d ≡ json.null
DataOf _ d = ⊥

abbrev pick : {A : Type 0} → A → Option A → A
pick d None = d
pick d (Some a) = a

same_data : (x d : json.Data) (s r : List Token) → ◌≡◌ {A = Option (json.Data × List Token)} (Some (x, s)) (Some (d, r)) → d ≡ x
same_data x d s r e =
    let first : json.Data × List Token = (x, s) in
    sym (ap (λ (p : json.Data × List Token). p.0) (ap (pick first) e))

mapped : {A : Type 0} (f : A → json.Data) (o : Option (A × List Token)) (d : json.Data) (r : List Token) → parse_map f o ≡ Some (d, r) → (a : A) × (d ≡ f a)
mapped f None d r e = absurd (cc)
mapped f (Some p) d r e = (p.0, same_data (f p.0) d p.1 r e)

numbered : (o : Option json.Num) (ts : List Token) (d : json.Data) (r : List Token) → option_map {U = json.Data × List Token} (λ b. (b, ts)) (option_map json.number o) ≡ Some (d, r) → (n : json.Num) × (d ≡ json.number n)
numbered None ts d r e = absurd (cc)
numbered (Some n) ts d r e = (n, same_data (json.number n) d ts r e)

object_of : (o : Option (spec.Members × List Token)) (d : json.Data) (r : List Token) → converted of_json (parse_map spec.object o) ≡ Some (d, r) → (ms : json.Members) × (d ≡ json.object ms)
object_of o d r e = mapped json.object (converted (λ ms. of_members ms json.no_members) o) d r (sym (converted_object o) ∙ e)

array_of : (o : Option (spec.Items × List Token)) (d : json.Data) (r : List Token) → converted of_json (parse_map spec.array o) ≡ Some (d, r) → (ds : json.Items) × (d ≡ json.array ds)
array_of o d r e = mapped json.array (converted of_items o) d r (sym (converted_array o) ∙ e)

begun_object : (depth : ℕ) (ts : List Token) (d : json.Data) (r : List Token) → converted of_json (value depth (token.begin_object ∷ ts)) ≡ Some (d, r) → (ms : json.Members) × (d ≡ json.object ms)
begun_object zero ts d r e = let g = ap (converted of_json) (sym (value_is zero (token.begin_object ∷ ts))) ∙ e in absurd (cc)
begun_object (suc n) ts d r e = object_of (members (value (suc n - 1)) (length ts) ts) d r (sym (ap (converted of_json) (value-begin_object (suc n) ts (omega arith))) ∙ e)

begun_array : (depth : ℕ) (ts : List Token) (d : json.Data) (r : List Token) → converted of_json (value depth (token.begin_array ∷ ts)) ≡ Some (d, r) → (ds : json.Items) × (d ≡ json.array ds)
begun_array zero ts d r e = let g = ap (converted of_json) (sym (value_is zero (token.begin_array ∷ ts))) ∙ e in absurd (cc)
begun_array (suc n) ts d r e = array_of (items (value (suc n - 1)) (length ts) ts) d r (sym (ap (converted of_json) (value-begin_array (suc n) ts (omega arith))) ∙ e)

pub data_of : (depth : ℕ) (t : Token) (ts : List Token) (d : json.Data) (r : List Token) → converted of_json (value depth (t ∷ ts)) ≡ Some (d, r) → DataOf t d
data_of depth token.begin_object ts d r e = begun_object depth ts d r e
data_of depth token.begin_array ts d r e = begun_array depth ts d r e
data_of depth (token.string s) ts d r e = same_data (json.string s) d ts r (ap (converted of_json) (sym (value_is depth (token.string s ∷ ts))) ∙ e)
data_of depth (token.number s) ts d r e = numbered (number_of s) ts d r (ap (converted of_json) (sym (value_is depth (token.number s ∷ ts))) ∙ e)
data_of depth (token.boolean b) ts d r e = same_data (json.boolean b) d ts r (ap (converted of_json) (sym (value_is depth (token.boolean b ∷ ts))) ∙ e)
data_of depth token.null ts d r e = same_data json.null d ts r (ap (converted of_json) (sym (value_is depth (token.null ∷ ts))) ∙ e)
data_of depth t ts d r e = let g = ap (converted of_json) (sym (value_is depth (t ∷ ts))) ∙ e in absurd (cc)

-- ---- the members of a review

apart : (a b : List ℕ) → bytes_eq a b ≡ false → a ≡ b → ⊥
apart a b e same = absurd (true≢false (sym ((bytes_eq-Decides a b).1 same) ∙ e))

other_kept : (key k : List ℕ) (d : json.Data) (ms : json.Members) (name : List ℕ) → k ≡ name → bytes_eq key name ≡ false → get_member key (json.put k d ms) ≡ get_member key ms
other_kept key k d ms name e f = get_member-put_other key k d ms (λ same. apart key name f (same ∙ e))

this_put : (key k : List ℕ) (d : json.Data) (ms : json.Members) → k ≡ key → get_member key (json.put k d ms) ≡ Some d
this_put key k d ms e = ap (λ l. get_member l (json.put k d ms)) (sym e) ∙ get_member-put k d ms

pub found_request : (us vs : List Value) (f : ReviewFields) (r : Option PlacedRequest) (k : List ℕ) (d : json.Data) (ms : json.Members) → k ≡ codes "request" → IsRequestOf vs r (members_in d) → AreReviewFields us f ms
    → AreReviewFields vs (record f { request = r }) (json.put k d ms)
found_request us vs f r k d ms e a h = record {
  version = h.version ∙ ap (λ g. equals_string g (codes "admission.k8s.io/v1")) (sym (other_kept (codes "apiVersion") k d ms (codes "request") e refl));
  kind = h.kind ∙ ap (λ g. equals_string g (codes "AdmissionReview")) (sym (other_kept (codes "kind") k d ms (codes "request") e refl));
  request = subst (λ g. IsRequestOf vs r (option_and_then members_in g)) (sym (this_put (codes "request") k d ms e)) a;
}

pub found_version : (vs : List Value) (f : ReviewFields) (b : Bool) (k : List ℕ) (d : json.Data) (ms : json.Members) → k ≡ codes "apiVersion" → b ≡ equals_string (Some d) (codes "admission.k8s.io/v1") → AreReviewFields vs f ms
    → AreReviewFields vs (record f { version = b }) (json.put k d ms)
found_version vs f b k d ms e a h = record {
  version = a ∙ ap (λ g. equals_string g (codes "admission.k8s.io/v1")) (sym (this_put (codes "apiVersion") k d ms e));
  kind = h.kind ∙ ap (λ g. equals_string g (codes "AdmissionReview")) (sym (other_kept (codes "kind") k d ms (codes "apiVersion") e refl));
  request = subst (λ g. IsRequestOf vs f.request (option_and_then members_in g)) (sym (other_kept (codes "request") k d ms (codes "apiVersion") e refl)) h.request;
}

pub found_kind : (vs : List Value) (f : ReviewFields) (b : Bool) (k : List ℕ) (d : json.Data) (ms : json.Members) → k ≡ codes "kind" → b ≡ equals_string (Some d) (codes "AdmissionReview") → AreReviewFields vs f ms
    → AreReviewFields vs (record f { kind = b }) (json.put k d ms)
found_kind vs f b k d ms e a h = record {
  version = h.version ∙ ap (λ g. equals_string g (codes "admission.k8s.io/v1")) (sym (other_kept (codes "apiVersion") k d ms (codes "kind") e refl));
  kind = a ∙ ap (λ g. equals_string g (codes "AdmissionReview")) (sym (this_put (codes "kind") k d ms e));
  request = subst (λ g. IsRequestOf vs f.request (option_and_then members_in g)) (sym (other_kept (codes "request") k d ms (codes "kind") e refl)) h.request;
}

pub found_other : (vs : List Value) (f : ReviewFields) (k : List ℕ) (d : json.Data) (ms : json.Members) → (k ≡ codes "request" → ⊥) → (k ≡ codes "apiVersion" → ⊥) → (k ≡ codes "kind" → ⊥) → AreReviewFields vs f ms
    → AreReviewFields vs f (json.put k d ms)
found_other vs f k d ms x y z h = record {
  version = h.version ∙ ap (λ g. equals_string g (codes "admission.k8s.io/v1")) (sym (get_member-put_other (codes "apiVersion") k d ms (λ e. y (sym e))));
  kind = h.kind ∙ ap (λ g. equals_string g (codes "AdmissionReview")) (sym (get_member-put_other (codes "kind") k d ms (λ e. z (sym e))));
  request = subst (λ g. IsRequestOf vs f.request (option_and_then members_in g)) (sym (get_member-put_other (codes "request") k d ms (λ e. x (sym e)))) h.request;
}

pub found_first : (vs : List Value) → AreReviewFields vs (record { version = false; kind = false; request = None }) json.no_members
found_first vs = record { version = refl; kind = refl; request = tt }

-- ---- a value of another kind

pub by_kind : (P : json.Data → Type 0) (t : Token) (d : json.Data) → DataOf t d → ((ms : json.Members) → t ≡ token.begin_object → P (json.object ms)) → ((ds : json.Items) → P (json.array ds))
    → ((s : List ℕ) → t ≡ token.string s → P (json.string s)) → ((n : json.Num) → P (json.number n)) → ((b : Bool) → P (json.boolean b)) → P json.null → P d
by_kind P token.begin_object d h object array text number truth null = subst P (sym h.1) (object h.0 refl)
by_kind P token.begin_array d h object array text number truth null = subst P (sym h.1) (array h.0)
by_kind P (token.string s) d h object array text number truth null = subst P (sym h) (text s refl)
by_kind P (token.number s) d h object array text number truth null = subst P (sym h.1) (number h.0)
by_kind P (token.boolean b) d h object array text number truth null = subst P (sym h) (truth b)
by_kind P token.null d h object array text number truth null = subst P (sym h) null
by_kind P _ d h object array text number truth null = absurd h

pub other_request : (t : Token) (d : json.Data) → DataOf t d → (t ≡ token.begin_object → ⊥) → (members_in d ≡ None) × (request_of d ≡ None)
other_request t d h n =
    by_kind (λ e. (members_in e ≡ None) × (request_of e ≡ None)) t d h (λ ms e. absurd (n e)) (λ ds. (refl, refl)) (λ s e. (refl, refl)) (λ m. (refl, refl)) (λ b. (refl, refl)) (refl, refl)

pub other_text : (t : Token) (d : json.Data) (text : List ℕ) → DataOf t d → ((s : List ℕ) → t ≡ token.string s → ⊥) → false ≡ equals_string (Some d) text
other_text t d text h n = by_kind (λ e. false ≡ equals_string (Some e) text) t d h (λ ms e. refl) (λ ds. refl) (λ s e. absurd (n s e)) (λ m. refl) (λ b. refl) refl

-- ---- the members of a review, one turn at a time

pub record FoundSoFar (depth : ℕ) (first now : List Token) (vs : List Value) (state : ReviewFields) : Type 0 where
  pub shorter : length now ≤ length first
  pub found : json.Members
  pub so_far : MembersSoFar depth first now found
  pub are : AreReviewFields vs state found

pub so_far_start : (depth : ℕ) (first : List Token) (vs : List Value) → FoundSoFar depth first first vs (record { version = false; kind = false; request = None })
so_far_start depth first vs = record { shorter = omega arith; found = json.no_members; so_far = members_begin depth first; are = found_first vs }

pub so_far_turn : (depth : ℕ) (first now mid next : List Token) (old new : Heap) (k : List ℕ) (f g : ReviewFields) → FoundSoFar depth first now (heap_values old) f → read_key now ≡ Some (Some k, mid)
    → ReadsMember old new f g k (converted of_json (value depth mid)) next → length next < length mid → FoundSoFar depth first next (heap_values new) g
so_far_turn depth first now mid next old new k f g h key r less =
    let before = read_key-shorter now (Some k) mid key in
    record {
      shorter = let n = h.shorter in omega arith;
      found = json.put k r.document h.found;
      so_far = members_next depth first now mid next h.found k r.document h.so_far key r.is less;
      are = r.found h.found h.are;
    }

pub so_far_ends : (depth : ℕ) (first now next : List Token) (old h : Heap) (f : ReviewFields) → FoundSoFar depth first now (heap_values h) f → IsHeap h → HasGrown (heap_values old) (heap_values h)
    → read_key now ≡ Some (None, next) → ReadsMembers old h f (converted (λ ms. of_members ms json.no_members) (members (value depth) (length first) first)) next
so_far_ends depth first now next old h f s ok up over =
    record { members = s.found; is = members_over depth first now s.found s.so_far next over; heap = ok; grown = up; found = s.are }

-- ---- a member

pub reads_request : (old new : Heap) (f : ReviewFields) (r : Option PlacedRequest) (k : List ℕ) (o : Option (json.Data × List Token)) (rest : List Token) → k ≡ codes "request" → ReadsRequest old new r o rest
    → ReadsMember old new f (record f { request = r }) k o rest
reads_request old new f r k o rest e h = record {
  document = h.document;
  is = h.is;
  heap = h.heap;
  grown = h.grown;
  found = λ ms are. found_request (heap_values old) (heap_values new) f r k h.document ms e h.request are;
}

pub reads_version : (old : Heap) (f : ReviewFields) (b : Bool) (k : List ℕ) (o : Option (json.Data × List Token)) (rest : List Token) → IsHeap old → k ≡ codes "apiVersion" → ComparesText b (codes "admission.k8s.io/v1") o rest
    → ReadsMember old old f (record f { version = b }) k o rest
reads_version old f b k o rest ok e h = record { document = h.document; is = h.is; heap = ok; grown = grown_none (heap_values old); found = λ ms are. found_version (heap_values old) f b k h.document ms e h.text are }

pub reads_kind : (old : Heap) (f : ReviewFields) (b : Bool) (k : List ℕ) (o : Option (json.Data × List Token)) (rest : List Token) → IsHeap old → k ≡ codes "kind" → ComparesText b (codes "AdmissionReview") o rest
    → ReadsMember old old f (record f { kind = b }) k o rest
reads_kind old f b k o rest ok e h = record { document = h.document; is = h.is; heap = ok; grown = grown_none (heap_values old); found = λ ms are. found_kind (heap_values old) f b k h.document ms e h.text are }

pub reads_other : (old : Heap) (f : ReviewFields) (k : List ℕ) (o : Option (json.Data × List Token)) (rest : List Token) → IsHeap old → (k ≡ codes "request" → ⊥) → (k ≡ codes "apiVersion" → ⊥)
    → (k ≡ codes "kind" → ⊥) → LeavesTokens o rest → ReadsMember old old f f k o rest
reads_other old f k o rest ok x y z h = record { document = h.0; is = h.1; heap = ok; grown = grown_none (heap_values old); found = λ ms are. found_other (heap_values old) f k h.0 ms x y z are }

pub text_read : (depth : ℕ) (s text : List ℕ) (ts : List Token) (b : Bool) → b ≡ bytes_eq s text → ComparesText b text (converted of_json (value depth (token.string s ∷ ts))) ts
text_read depth s text ts b e = record { document = json.string s; is = ap (converted of_json) (value_is depth (token.string s ∷ ts)); text = e }

pub text_other : (depth : ℕ) (t : Token) (text : List ℕ) (ts rest : List Token) → ((s : List ℕ) → t ≡ token.string s → ⊥) → LeavesTokens (converted of_json (value depth (t ∷ ts))) rest
    → ComparesText false text (converted of_json (value depth (t ∷ ts))) rest
text_other depth t text ts rest n h = record { document = h.0; is = h.1; text = other_text t h.0 text (data_of depth t ts h.0 rest h.1) n }

pub request_other : (h : Heap) (depth : ℕ) (t : Token) (ts rest : List Token) → IsHeap h → (t ≡ token.begin_object → ⊥) → LeavesTokens (converted of_json (value depth (t ∷ ts))) rest
    → ReadsRequest h h None (converted of_json (value depth (t ∷ ts))) rest
request_other h depth t ts rest ok n l = record {
  document = l.0;
  is = l.1;
  heap = ok;
  grown = grown_none (heap_values h);
  request = let none = other_request t l.0 (data_of depth t ts l.0 rest l.1) n in subst (IsRequestOf (heap_values h) None) (sym none.0) tt;
}

pub request_read : (h0 h1 h2 : Heap) (r : Option PlacedRequest) (es : List PlacedEntry) (depth : ℕ) (ts rest : List Token) → 0 < depth
    → ReadsEntries h0 h1 es (converted (λ ms. of_members ms json.no_members) (members (value (depth - 1)) (length ts) ts)) rest
    → ((ms : json.Members) → AreMembers (heap_values h1) es ms → MakesRequest h1 h2 r ms) → ReadsRequest h0 h2 r (converted of_json (value depth (token.begin_object ∷ ts))) rest
request_read h0 h1 h2 r es depth ts rest some g made =
    let opened = ap (converted of_json) (value-begin_object depth ts some) ∙ converted_object (members (value (depth - 1)) (length ts) ts) in
    let q = made g.members g.are in
    record {
      document = json.object g.members;
      is = opened ∙ ap (parse_map json.object) g.is;
      heap = q.heap;
      grown = grown_more (heap_values h0) (heap_values h1) (heap_values h2) g.grown q.grown;
      request = q.request;
    }

-- ---- the whole

whole_by : (vs : List Value) (v k : Bool) (r : Option PlacedRequest) (ms : Option json.Members) → IsRequestOf vs r ms → IsRequestOf vs (if v && k then r else None) (if v && k then ms else None)
whole_by vs true true r ms h = h
whole_by vs true false r ms h = tt
whole_by vs false k r ms h = tt

pub top_read : (old h : Heap) (f : ReviewFields) (depth : ℕ) (ts rest : List Token) → 0 < depth
    → ReadsMembers old h f (converted (λ ms. of_members ms json.no_members) (members (value (depth - 1)) (length ts) ts)) rest
    → ReadsReviewValue old h (if f.version && f.kind then f.request else None) (converted of_json (value depth (token.begin_object ∷ ts))) rest
top_read old h f depth ts rest some g =
    let opened = ap (converted of_json) (value-begin_object depth ts some) ∙ converted_object (members (value (depth - 1)) (length ts) ts) in
    let both : (f.version && f.kind) ≡ is_review (json.object g.members) = ap₂ (λ v k. v && k) g.found.version g.found.kind in
    let there = whole_by (heap_values h) f.version f.kind f.request _ g.found.request in
    record {
      document = json.object g.members;
      is = opened ∙ ap (parse_map json.object) g.is;
      heap = g.heap;
      grown = g.grown;
      request = subst (λ b. IsRequestOf (heap_values h) (if f.version && f.kind then f.request else None) (if b then option_and_then members_in (get_member (codes "request") g.members) else None)) both there;
    }

pub top_other : (h : Heap) (depth : ℕ) (t : Token) (ts rest : List Token) → IsHeap h → (t ≡ token.begin_object → ⊥) → LeavesTokens (converted of_json (value depth (t ∷ ts))) rest
    → ReadsReviewValue h h None (converted of_json (value depth (t ∷ ts))) rest
top_other h depth t ts rest ok n l = record {
  document = l.0;
  is = l.1;
  heap = ok;
  grown = grown_none (heap_values h);
  request = let none = other_request t l.0 (data_of depth t ts l.0 rest l.1) n in subst (IsRequestOf (heap_values h) None) (sym none.1) tt;
}

pub review_read : (old h : Heap) (r : Option PlacedRequest) (ts : List Token) → ReadsReviewValue old h r (converted of_json (value max_depth ts)) [] → ReadsReview old h r (whole (value max_depth ts))
review_read old h r ts t = record { document = t.document; is = document_read (value max_depth ts) t.document t.is; heap = t.heap; grown = t.grown; request = t.request }

pub review_and_more : (old h : Heap) (r : Option PlacedRequest) (ts rest : List Token) (t : Token) → ReadsReviewValue old h r (converted of_json (value max_depth ts)) (t ∷ rest) → whole (value max_depth ts) ≡ None
review_and_more old h r ts rest t d = document_and_more (value max_depth ts) d.document t rest d.is

-- ---- tokens of other kinds

pub not_string : (t : tokens.Token) → ((o : Bor (List ℕ)) → t ≡ variant.String o → ⊥) → (s : List ℕ) → token_of t ≡ token.string s → ⊥
not_string (variant.String o) n s e = n o refl
not_string _ n s e = absurd (cc)

pub not_object : (t : tokens.Token) → (t ≡ variant.BeginObject → ⊥) → token_of t ≡ token.begin_object → ⊥
not_object variant.BeginObject n e = n refl
not_object _ n e = absurd (cc)
