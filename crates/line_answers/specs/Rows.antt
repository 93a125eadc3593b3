-- Reports on lines, worked by hand.
use Rattle.std.specs.Prelude.{◌≡◌, true, false, [], ◌∷◌, codes}
use Rattle.line_answers.specs.Lines.{LineTexts, no_memory_text, passes}
use Rattle.line_answers.specs.Telling.{TellsEach, told_of}

-- an answer that refuses is reported with its number, any other is not
pub record ToldRowsStand : Type 0 where
  pub refused : told_of 3 (codes "{\"refused\":\"N2\",\"uid\":\"u\"}\n") ≡ codes "celbpf: line 3: {\"refused\":\"N2\",\"uid\":\"u\"}\n"
  pub by_a_policy : told_of 12 (codes "{\"policy\":\"p\",\"refused\":\"C7\",\"uid\":\"u\"}\n")
      ≡ codes "celbpf: line 12: {\"policy\":\"p\",\"refused\":\"C7\",\"uid\":\"u\"}\n"
  pub no_memory : told_of 1 no_memory_text ≡ codes "celbpf: line 1: {\"refused\":\"memory\"}\n"
  pub decided : told_of 1 (codes "{\"apiVersion\":\"admission.k8s.io/v1\"}\n") ≡ []
  pub passed_over : told_of 1 [] ≡ []
  pub refused_within : told_of 1 (codes " {\"refused\":\"N2\"}\n") ≡ []

-- an answer that allows passes, and so does a line without an answer
pub record PassesRowsStand : Type 0 where
  pub allowed : passes (codes "{\"apiVersion\":\"admission.k8s.io/v1\",\"kind\":\"AdmissionReview\",\"response\":{\"allowed\":true,\"uid\":\"u\"}}\n") ≡ true
  pub annotated : passes (codes "{\"apiVersion\":\"admission.k8s.io/v1\",\"kind\":\"AdmissionReview\",\"response\":{\"allowed\":true,\"auditAnnotations\":{\"a\":\"b\"},\"uid\":\"u\"}}\n") ≡ true
  pub denied :
      passes (codes "{\"apiVersion\":\"admission.k8s.io/v1\",\"kind\":\"AdmissionReview\",\"response\":{\"allowed\":false,\"status\":{\"code\":422,\"message\":\"\\\"allowed\\\":true\",\"reason\":\"Invalid\"},\"uid\":\"u\"}}\n")
      ≡ false
  pub refused : passes (codes "{\"refused\":\"N2\",\"uid\":\"u\"}\n") ≡ false
  pub by_a_policy : passes (codes "{\"policy\":\"p\",\"refused\":\"C7\",\"uid\":\"u\"}\n") ≡ false
  pub no_memory : passes no_memory_text ≡ false
  pub passed_over : passes [] ≡ true

-- the texts of the rows below: a refusal for each line except the empty one
abbrev pub row_texts : LineTexts
row_texts [] text = text ≡ []
row_texts (b ∷ bs) text = text ≡ codes "{\"refused\":\"N2\"}\n"

-- an empty line counts, and is not reported
pub record TellsRowsStand : Type 0 where
  pub first : TellsEach row_texts (codes "a" ∷ []) (codes "{\"refused\":\"N2\"}\n") false (codes "celbpf: line 1: {\"refused\":\"N2\"}\n")
  pub second : TellsEach row_texts ([] ∷ codes "a" ∷ []) (codes "{\"refused\":\"N2\"}\n") false (codes "celbpf: line 2: {\"refused\":\"N2\"}\n")
