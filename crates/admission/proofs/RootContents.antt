-- The contents at the start of a review's roots.
use Rattle.admission.proofs.Prelude.{◌≡◌, ℕ, suc, Bool, true, false, List, [], ◌∷◌, ◌++◌, length, Option, Some, None, Result, Ok, Err, bytes_eq, refl, sym, ap, ◌∙◌, subst, arith, ◌≤◌, leb-true, codes, map, nat_le, option_and_then, option_map, unwrap_or, if◌then◌else◌, get, StartIsCanonical, Contents, charge_limit, first_values, contents_of, root_of, root_then, roots_of, sizes, start_contents, TableError, RootsTooLarge, Roots, AreDocuments, HasNumbers, MembersHaveNumbers, StartsAreTables, HasValues, started, values_of_roots, document_of, ReviewRoots, accepted, contents_from, contents_given, document_given, documents_from, documents_given, is_review, members_in, parts_given, parts_in, parts_of, request_of, without, AreOfRoots, DocumentsHaveValues, GivenHaveValues, RunError}
use Rattle.serde_json.specs.Data as json
use Rattle.value_store.specs.Value.{Value, value}
use Rattle.admission.proofs.DocumentNumbers.{document_fits, get_fits, member_fits}

-- ---- the numbers of the roots

record HaveNumbers (p : ReviewRoots) : Type 0 where
  object : HasNumbers p.object
  old_object : HasNumbers p.old_object
  request : HasNumbers p.request

without_when : (b : Bool) (k : List ℕ) (d : json.Data) (ms more : json.Members) → HasNumbers d → MembersHaveNumbers ms → MembersHaveNumbers more
    → MembersHaveNumbers (if b then ms else json.member k d more)
without_when b k d ms more own rest later = grind arith

without_fits : (key : List ℕ) (ms : json.Members) → MembersHaveNumbers ms → MembersHaveNumbers (without key ms)
without_fits key json.no_members has = tt
without_fits key (json.member k d ms) has = without_when (bytes_eq key k) k d ms (without key ms) has.0 has.1 (without_fits key ms has.1)

null_or : (o : Option json.Data) → ((d : json.Data) → o ≡ Some d → HasNumbers d) → HasNumbers (unwrap_or o json.null)
null_or o fits = grind arith

parts_fit : (ms : json.Members) → MembersHaveNumbers ms → HaveNumbers (parts_of ms)
unfolding parts_of
parts_fit ms has = grind (arith, without_fits, null_or, member_fits)

members_fit : (d : json.Data) (ms : json.Members) → HasNumbers d → members_in d ≡ Some ms → MembersHaveNumbers ms
members_fit d ms has e = grind arith

request_by : (o : Option json.Data) (ms : json.Members) → ((d : json.Data) → o ≡ Some d → HasNumbers d) → option_and_then members_in o ≡ Some ms → MembersHaveNumbers ms
request_by None ms fits e = absurd (cc)
request_by (Some d) ms fits e = members_fit d ms (fits d refl) e

request_when : (b : Bool) (o : Option json.Data) (ms : json.Members) → ((d : json.Data) → o ≡ Some d → HasNumbers d)
    → (if b then option_and_then members_in o else None) ≡ Some ms → MembersHaveNumbers ms
request_when true o ms fits e = request_by o ms fits e
request_when false o ms fits e = absurd (cc)

request_fits : (d : json.Data) (ms : json.Members) → HasNumbers d → request_of d ≡ Some ms → MembersHaveNumbers ms
request_fits d ms has e = request_when (is_review d) (get (codes "request") d) ms (λ r is. get_fits (codes "request") d r has is) e

parts_by : (o : Option json.Members) (p : ReviewRoots) → ((ms : json.Members) → o ≡ Some ms → MembersHaveNumbers ms) → option_map parts_of o ≡ Some p → HaveNumbers p
parts_by o p fits e = grind (arith, parts_fit)

review_by : (o : Option json.Data) (p : ReviewRoots) → ((d : json.Data) → o ≡ Some d → HasNumbers d) → option_and_then parts_in o ≡ Some p → HaveNumbers p
review_by None p fits e = absurd (cc)
review_by (Some d) p fits e = parts_by (request_of d) p (λ ms is. request_fits d ms (fits d refl) is) e

review_fits : (review : List ℕ) (p : ReviewRoots) → parts_given (Some review) ≡ Some p → HaveNumbers p
review_fits review p e = review_by (document_of review) p (document_fits review) e

other_fits : (o : Option (List ℕ)) (d : json.Data) → document_given o ≡ Some d → HasNumbers d
other_fits o d e = grind (arith, document_fits)

-- five documents with their numbers
pub record AreFive (ds : List json.Data) : Type 0 where
  pub five : length ds ≡ 5
  pub documents : AreDocuments ds

five_by : (a : Option ReviewRoots) (b c : Option json.Data) (ds : List json.Data) → ((p : ReviewRoots) → a ≡ Some p → HaveNumbers p)
    → ((d : json.Data) → b ≡ Some d → HasNumbers d) → ((d : json.Data) → c ≡ Some d → HasNumbers d)
    → documents_from a b c ≡ Ok ds → AreFive ds
five_by a b c ds first second third e = grind arith

-- without a review the roots are null and have no numbers
given_fits : (review : Option (List ℕ)) (p : ReviewRoots) → parts_given review ≡ Some p → HaveNumbers p
given_fits review p e = grind (arith, review_fits)

pub are_five : (review namespace params : Option (List ℕ)) (ds : List json.Data) → documents_given review namespace params ≡ Ok ds → AreFive ds
unfolding documents_given
are_five review namespace params ds e = five_by (parts_given review) (document_given namespace) (document_given params) ds (given_fits review) (other_fits namespace) (other_fits params) e

-- ---- the contents

more_roots : (count : ℕ) (r : Result Value TableError) (rest : Result (List Value) TableError) (vs : List Value)
    → ((ws : List Value) → rest ≡ Ok ws → length ws ≡ count) → root_then r rest ≡ Ok vs → length vs ≡ suc count
more_roots count r rest vs later h = grind arith

as_many : (place : ℕ) (ds : List json.Data) (vs : List Value) → roots_of place ds ≡ Ok vs → length vs ≡ length ds
as_many place [] vs e = let same : [] ≡ vs = cc in ap length (sym same)
as_many place (d ∷ ds) vs e = more_roots (length ds) (root_of place d) (roots_of (suc place) ds) vs (as_many (suc place) ds) e

record AreRoots (vs : List Value) : Type 0 where
  roots : Roots
  are : vs ≡ values_of_roots roots

five_roots : (vs : List Value) → length vs ≡ 5 → AreRoots vs
five_roots (a ∷ b ∷ c ∷ d ∷ f ∷ []) e = record { roots = record { object = a; old_object = b; params = c; namespace_object = d; request = f }; are = refl }
five_roots vs e = absurd (omega (arith, e))

-- the contents are those at the start with some roots
pub record AreStarted (values : Contents) : Type 0 where
  pub roots : Roots
  pub are : values ≡ started roots

limited : (test : Bool) (vs : List Value) (values : Contents) → AreRoots vs
    → (if test then Ok (record { values = first_values ++ map value vs; charge = sizes vs }) else Err RootsTooLarge) ≡ Ok values → AreStarted values
limited test vs values own e = grind arith

started_by : (r : Result (List Value) TableError) (values : Contents) → ((vs : List Value) → r ≡ Ok vs → length vs ≡ 5) → contents_of r ≡ Ok values → AreStarted values
started_by (Err e) values five h = absurd (cc)
started_by (Ok vs) values five h = limited (nat_le (sizes vs) charge_limit) vs values (five_roots vs (five vs refl)) h

pub are_started : (ds : List json.Data) (values : Contents) → length ds ≡ 5 → start_contents ds ≡ Ok values → AreStarted values
are_started ds values five e = started_by (roots_of 4 ds) values (λ vs h. as_many 4 ds vs h ∙ five) e

-- and they are within the limit
fit_when : (test : Bool) (vs : List Value) (values : Contents) → nat_le (sizes vs) charge_limit ≡ test
    → (if test then Ok (record { values = first_values ++ map value vs; charge = sizes vs }) else Err RootsTooLarge) ≡ Ok values → values.charge ≤ charge_limit
fit_when true vs values is e =
    let same : record { values = first_values ++ map value vs; charge = sizes vs } ≡ values = cc in
    let charge : sizes vs ≡ values.charge = ap (λ (c : Contents). c.charge) same in
    let within = leb-true (sizes vs) charge_limit is in
    omega (arith, charge, within)
fit_when false vs values is e = absurd (cc)

fit_by : (r : Result (List Value) TableError) (values : Contents) → contents_of r ≡ Ok values → values.charge ≤ charge_limit
fit_by (Err e) values h = absurd (cc)
fit_by (Ok vs) values h = fit_when (nat_le (sizes vs) charge_limit) vs values refl h

-- programs can run on them
pub has_values : StartsAreTables → StartIsCanonical → (ds : List json.Data) (r : Roots) → AreFive ds → start_contents ds ≡ Ok (started r) → HasValues r (started r)
has_values tables canonical ds r five e = record {
  table = tables ds (started r) five.five five.documents e;
  canonical = canonical ds (started r) e;
  stand = record { object = refl; old_object = refl; params = refl; namespace_object = refl; request = refl };
}

-- five documents that are not refused give the contents of roots
pub roots_have_values : StartsAreTables → StartIsCanonical → DocumentsHaveValues
roots_have_values tables canonical ds values five documents e =
    let own = are_started ds values five e in
    let has = has_values tables canonical ds own.roots (record { five = five; documents = documents }) (e ∙ ap Ok own.are) in
    record { roots = own.roots; are = own.are; has = subst (HasValues own.roots) (sym own.are) has }

values_of_documents : (P : Type 0) (r : Result (List json.Data) RunError) (values : Contents) → contents_from r ≡ Ok values
    → ((ds : List json.Data) → r ≡ Ok ds → start_contents ds ≡ Ok values → P) → P
values_of_documents P r values is then_have = grind arith

-- the contents for documents that are not refused are those of some roots
pub given_are_started : (review namespace params : Option (List ℕ)) (values : Contents) → contents_given review namespace params ≡ Ok values → AreStarted values
unfolding contents_given
given_are_started review namespace params values is =
    values_of_documents (AreStarted values) (documents_given review namespace params) values is
    (λ ds documents starts. are_started ds values (are_five review namespace params ds documents).five starts)

pub given_have_values : StartsAreTables → StartIsCanonical → GivenHaveValues
unfolding contents_given
given_have_values tables canonical review namespace params values is =
    values_of_documents (AreOfRoots values) (documents_given review namespace params) values is (λ ds documents starts. let own = are_five review namespace params ds documents in roots_have_values tables canonical ds values own.five own.documents starts)

pub given_fit : (review namespace params : Option (List ℕ)) (values : Contents) → contents_given review namespace params ≡ Ok values → values.charge ≤ charge_limit
unfolding contents_given
given_fit review namespace params values is =
    values_of_documents (values.charge ≤ charge_limit) (documents_given review namespace params) values is (λ ds documents starts. fit_by (roots_of 4 ds) values starts)

-- the contents for the documents that become the roots
pub contents_are : (review : List ℕ) (namespace params : Option (List ℕ)) (ds : List json.Data) (values : Contents) → documents_given (Some review) namespace params ≡ Ok ds → start_contents ds ≡ Ok values → contents_given (Some review) namespace params ≡ Ok values
unfolding contents_given
contents_are review namespace params ds values documents is = ap contents_from documents ∙ ap accepted is
