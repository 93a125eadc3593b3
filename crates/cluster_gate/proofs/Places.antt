-- Documents that are read beside a review, and the tables that share them.
use Rattle.cluster_gate.proofs.Prelude.{◌≡◌, ◌∙◌, ◌++◌, ◌<◌, ℕ, zero, suc, arith, get_or, length, List, [], ◌∷◌, Option, Some, None, Result, Ok, Err, refl, subst, sym, view}
use Rattle.serde_json.specs.Data as json
use Rattle.value_store.specs.Documents.{document_given, document_of}
use Rattle.value_store.specs.Reviews.{parts_given}
use Rattle.value_store.specs.Roots.{value_of}
use Rattle.value_store.specs.Value as kind
use Rattle.review_tables.specs.DocumentPool.{IsGiven, IsPooledAfter, IsSoundGiven, OpenValues}
use Rattle.value_table.specs.Growing.{HasGrown}
use Rattle.value_table.specs.Held.{Held, held_contents}
use Rattle.review_tables.specs.ReviewTable.{ReviewTableReturns}
use Rattle.review_tables.specs.declared.pooled_document.PooledDocument.{PooledDocument}
use Rattle.review_tables.specs.declared.review_error.ReviewError.{ReviewError}
use Rattle.review_tables.specs.declared.review_error.ReviewError.TheVariants.{InvalidReview, InvalidDocument, RootRefused, ChargeTooLarge, Memory}
use Rattle.value_table.proofs.Growing.{grown_none}
use Rattle.review_tables.proofs.PlacedValues.{answers_stay}
use Rattle.cluster_gate.specs.Opened.{AreReadHere, IsReadHere, IsReadIf}
use Rattle.cluster_gate.specs.Tables.{GivesTable, IsPlacedIn, SharesTable}
use Rattle.cluster_gate.specs.Texts.{IsJsonTextOf, IsJsonTextIf}
use Rattle.cluster_gate.specs.declared.read_document.ReadDocument.{ReadDocument}

-- ---- documents

-- a document that was read is still there after others were read
pub here_stays : (us vs : List kind.Value) (d : json.Data) (p : PooledDocument) → HasGrown us vs → IsReadHere us d p → IsReadHere vs d p
here_stays us vs d p grown here = record {
  text = here.text;
  of = here.of;
  document = here.document;
  is = here.is;
  pooled = answers_stay us vs p.placed (value_of here.document) grown here.pooled;
}

pub all_here : (us vs : List kind.Value) (ds : List ReadDocument) → HasGrown us vs → AreReadHere us ds → AreReadHere vs ds
all_here us vs [] grown here = tt
all_here us vs (d ∷ ds) grown here = (here_stays us vs (view d.document.now) d.pooled grown here.0, all_here us vs ds grown here.1)

pub if_stays : (us vs : List kind.Value) (d : Option json.Data) (p : Option PooledDocument) → HasGrown us vs → IsReadIf us d p → IsReadIf vs d p
if_stays us vs None None grown here = tt
if_stays us vs (Some d) (Some p) grown here = here_stays us vs d p grown here
if_stays us vs None (Some p) grown here = absurd here
if_stays us vs (Some d) None grown here = absurd here

-- the document at a place was read
pub here_at : (vs : List kind.Value) (ds : List ReadDocument) (i : ℕ) (d : ReadDocument) → i < length ds → d ≡ get_or ds i d → AreReadHere vs ds
    → IsReadHere vs (view d.document.now) d.pooled
here_at vs (e ∷ ds) zero d within is here = subst (λ (x : ReadDocument). IsReadHere vs (view x.document.now) x.pooled) (sym is) here.0
here_at vs (e ∷ ds) (suc i) d within is here = here_at vs ds i d (omega (arith, within)) is here.1
here_at vs [] i d within is here = absurd (omega (arith, within))

-- the text of a document was read
pub read_now : (before after : List kind.Value) (d : json.Data) (text : List ℕ) (p : PooledDocument) → IsJsonTextOf d text → IsPooledAfter before after p (document_of text)
    → IsReadHere after d p
read_now before after d text p of after_read = record { text = text; of = of; document = after_read.document; is = after_read.is; pooled = after_read.pooled }

-- one more document was read
pub one_more : (vs : List kind.Value) (ds : List ReadDocument) (d : ReadDocument) → AreReadHere vs ds → IsReadHere vs (view d.document.now) d.pooled
    → AreReadHere vs (ds ++ d ∷ [])
one_more vs [] d here last = (last, tt)
one_more vs (e ∷ ds) d here last = (here.0, one_more vs ds d here.1 last)

-- ---- places

-- nothing needs to be read
pub place_none : (o : OpenValues) → IsPlacedIn o o None None
place_none o = record { review = refl; grown = grown_none o.values; here = tt }

pub place_found : (o : OpenValues) (d : json.Data) (p : PooledDocument) → IsReadHere o.values d p → IsPlacedIn o o (Some d) (Some p)
place_found o d p here = record { review = refl; grown = grown_none o.values; here = here }

-- ---- tables

record Given (vs : List kind.Value) (d : Option json.Data) (p : Option PooledDocument) : Type 0 where
  text : Option (List ℕ)
  of : IsJsonTextIf d text
  document : json.Data
  is : document_given text ≡ Some document
  given : IsGiven vs p document

given_by : (vs : List kind.Value) (d : Option json.Data) (p : Option PooledDocument) → IsReadIf vs d p → Given vs d p
given_by vs None None here = record { text = None; of = tt; document = json.null; is = refl; given = refl }
given_by vs (Some d) (Some p) here = record { text = Some here.text; of = here.of; document = here.document; is = here.is; given = here.pooled }
given_by vs None (Some p) here = absurd here
given_by vs (Some d) None here = absurd here

pub sound_here : (vs : List kind.Value) (d : Option json.Data) (p : Option PooledDocument) → IsReadIf vs d p → IsSoundGiven vs p
sound_here vs None None here = tt
sound_here vs (Some d) (Some p) here = here.pooled.sound
sound_here vs None (Some p) here = absurd here
sound_here vs (Some d) None here = absurd here

-- the table of documents that were read
gives_table : (review : List ℕ) (vs : List kind.Value) (params namespace : Option json.Data) (p n : Option PooledDocument) (r : Result Held ReviewError)
    → IsReadIf vs namespace n → IsReadIf vs params p
    → ((d e : json.Data) → IsGiven vs n d → IsGiven vs p e → ReviewTableReturns held_contents r (parts_given (Some review)) (Some d) (Some e))
    → GivesTable review params namespace r
gives_table review vs params namespace p n r here also returns =
    let one = given_by vs namespace n here in
    let other = given_by vs params p also in
    record {
      namespace_text = one.text;
      params_text = other.text;
      namespace_is = one.of;
      params_is = other.of;
      returns = rw (one.is, other.is) (returns one.document other.document one.given other.given);
    }

shares_by : (review : List ℕ) (params namespace : Option json.Data) (r : Result Held ReviewError) → GivesTable review params namespace r → SharesTable review params namespace r
shares_by review params namespace (Ok t) gives = gives
shares_by review params namespace (Err (RootRefused k)) gives = gives
shares_by review params namespace (Err ChargeTooLarge) gives = gives
shares_by review params namespace (Err InvalidReview) gives = tt
shares_by review params namespace (Err InvalidDocument) gives = tt
shares_by review params namespace (Err Memory) gives = tt

pub shares_table : (first middle last : OpenValues) (params namespace : Option json.Data) (p n : Option PooledDocument) (r : Result Held ReviewError)
    → IsPlacedIn first middle namespace n → IsPlacedIn middle last params p
    → ((d e : json.Data) → IsGiven last.values n d → IsGiven last.values p e → ReviewTableReturns held_contents r (parts_given (Some last.review)) (Some d) (Some e))
    → SharesTable first.review params namespace r
shares_table first middle last params namespace p n r one other returns =
    shares_by first.review params namespace r
    (subst (λ (review : List ℕ). GivesTable review params namespace r) (other.review ∙ one.review)
    (gives_table last.review last.values params namespace p n r (if_stays middle.values last.values namespace n other.grown one.here) other.here returns))
