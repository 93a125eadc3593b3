-- The documents of a review, as functions borrow them.
use Rattle.std.specs.Prelude.{ℕ, List, Option, option_map}
use Rattle.std.specs.Borrow.{Bor}
use Rattle.admission.specs.Deciding.{Documents}
use Rattle.admission.specs.declared.language.Language.{Language, TheVariants.Profile}

-- the documents of a policy in a language, and of a review under it; the last two are optional
abbrev pub documents_in : Language → List ℕ → List ℕ → Option (Bor (List ℕ)) → Option (Bor (List ℕ)) → Documents
documents_in language policy review namespace params = record {
  language = language;
  policy = policy;
  review = review;
  namespace = option_map (λ b. b.now) namespace;
  params = option_map (λ b. b.now) params;
}

-- these documents, with a policy in the language that is compiled
abbrev pub documents_lent : List ℕ → List ℕ → Option (Bor (List ℕ)) → Option (Bor (List ℕ)) → Documents
documents_lent policy review namespace params = documents_in Profile policy review namespace params
