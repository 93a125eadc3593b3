-- Reviews, and what is kept of them, worked out by hand.
use Rattle.std.specs.Prelude.{◌≡◌, ℕ, List, Option, codes, option_map}
use Rattle.serde_json.specs.Data as json
use Rattle.value_store.specs.Documents.{document_of}
use Rattle.request_fields.specs.Fields.{kept}
use Rattle.request_fields.specs.declared.level.Level.TheVariants.{Review}

-- what is kept of the document of a text
abbrev pub kept_of : List ℕ → Option json.Data
kept_of text = option_map (kept Review) (document_of text)

pub record FieldRowsHold : Type 0 where
  -- a Pod keeps its name and labels
  pub pod : kept_of (codes "{\"apiVersion\":\"admission.k8s.io/v1\",\"kind\":\"AdmissionReview\",\"request\":{\"uid\":\"u\",\"object\":{\"apiVersion\":\"v1\",\"kind\":\"Pod\",\"metadata\":{\"name\":\"web\",\"labels\":{\"app\":\"a\"},\"uid\":\"x\"},\"spec\":{\"hostNetwork\":true}},\"options\":{}}}")
      ≡ document_of (codes "{\"apiVersion\":\"admission.k8s.io/v1\",\"kind\":\"AdmissionReview\",\"request\":{\"uid\":\"u\",\"object\":{\"metadata\":{\"name\":\"web\",\"labels\":{\"app\":\"a\"}}}}}")
  -- numbers are false where a text counts, and are dropped elsewhere
  pub numbers : kept_of (codes "{\"request\":{\"name\":0.5,\"object\":{\"metadata\":{\"labels\":{\"a\":\"b\",\"n\":1}},\"spec\":{\"weight\":0.5}}}}")
      ≡ document_of (codes "{\"request\":{\"name\":false,\"object\":{\"metadata\":{\"labels\":{\"a\":\"b\",\"n\":false}}}}}")
  -- the last of equal keys counts
  pub repeated : kept_of (codes "{\"kind\":\"A\",\"request\":{\"object\":{\"metadata\":{\"name\":\"a\"}}},\"kind\":\"B\",\"request\":{\"uid\":\"u\",\"uid\":null}}")
      ≡ document_of (codes "{\"kind\":\"B\",\"request\":{\"uid\":null}}")
  -- of a map where a text counts no member is kept
  pub map_for_text : kept_of (codes "{\"request\":{\"uid\":{\"a\":\"b\"},\"kind\":{\"group\":[\"a\"],\"kind\":\"Pod\",\"other\":\"x\"}}}")
      ≡ document_of (codes "{\"request\":{\"uid\":{},\"kind\":{\"group\":false,\"kind\":\"Pod\"}}}")
  -- what is dropped is read all the same
  pub not_json : kept_of (codes "{\"other\":[1,]}") ≡ document_of (codes "")
