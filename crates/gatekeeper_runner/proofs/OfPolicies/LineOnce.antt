-- A line has one answer.
use Rattle.gatekeeper_runner.proofs.Prelude.{◌≡◌, ℕ, List, [], ◌∷◌, map, None, Result, Err, refl, sym, ap, ◌∙◌, subst, OneImage, ReviewHasOneResult, Decision, RunError, DecidesLine, answer_text, decides, too_long_text, LinesHaveOneAnswer, AreResults, IsResult, DecideTogether, Gatekeeper, PolicyFile, PolicyResult, Refused, joined, rejections, told_refusal, uid_in, under}
use Rattle.line_answers.proofs.OneAnswer.{HasOneText, answers_same}
use Rattle.gatekeeper_runner.specs.Policies.Together as together
use Rattle.policy_glue.specs.OneAnswer as policy
use Rattle.gatekeeper_runner.proofs.OfPolicies.SaidOnce.{says_once}

module _ (compiles_once : policy.CompileHasOneResult) (reviews_once : ReviewHasOneResult) (t : Gatekeeper) (line : List ℕ) where
  result_once : (p : PolicyFile) (r s : Result Decision RunError) → IsResult OneImage t line (record { policy = p; result = r }) → IsResult OneImage t line (record { policy = p; result = s }) → r ≡ s
  result_once p r s a b = says_once compiles_once reviews_once (under t p line) t.limits r s a.no_memory b.no_memory a.decides b.decides

  results_once : (xs ys : List PolicyResult) → map (λ r. r.policy) xs ≡ map (λ r. r.policy) ys → AreResults OneImage t line xs → AreResults OneImage t line ys → xs ≡ ys
  results_once [] [] same a b = refl
  results_once [] (y ∷ ys) same a b = absurd (cc)
  results_once (x ∷ xs) [] same a b = absurd (cc)
  results_once (x ∷ xs) (y ∷ ys) same a b =
      let first : x.policy ≡ y.policy = cc in
      let others : map (λ (r : PolicyResult). r.policy) xs ≡ map (λ (r : PolicyResult). r.policy) ys = cc in
      let its : IsResult OneImage t line (record { policy = x.policy; result = y.result }) = subst (λ (p : PolicyFile). IsResult OneImage t line (record { policy = p; result = y.result })) (sym first) b.0 in
      let second : x.result ≡ y.result = result_once x.policy x.result y.result a.0 its in
      let rest : xs ≡ ys = results_once xs ys others a.1 b.1 in
      λ i. record { policy = first i; result = second i } ∷ rest i

  together_once : (r s : Result Decision Refused) → DecideTogether OneImage t line r → DecideTogether OneImage t line s → r ≡ s
  together_once r s (together.no_values {e = e} is) (together.no_values {e = f} also) =
      let same : e ≡ f = cc in ap (λ (x : RunError). Err (record { error = x; policy = None })) same
  together_once r s (together.no_values is) (together.decided rs given of are) = absurd (cc)
  together_once r s (together.decided rs given of are) (together.no_values is) = absurd (cc)
  together_once r s (together.decided xs given of are) (together.decided ys given2 of2 are2) =
      ap (λ (rs : List PolicyResult). joined (rejections rs) (told_refusal rs) (uid_in line)) (results_once xs ys (of ∙ sym of2) are are2)

  text_once : HasOneText t.max_line too_long_text (DecidesLine OneImage t) line
  text_once a b (decides {result = r} by) (decides {result = s} also) = ap (answer_text line) (together_once r s by also)

pub lines_once : policy.CompileHasOneResult → ReviewHasOneResult → LinesHaveOneAnswer
lines_once compiles reviews t line = answers_same t.max_line too_long_text (DecidesLine OneImage t) line (text_once compiles reviews t line)

-- the text of a line by what is decided together
pub line_decided : (t : Gatekeeper) (line text : List ℕ) (result : Result Decision Refused) → DecideTogether OneImage t line result
    → text ≡ answer_text line result → DecidesLine OneImage t line text
line_decided t line text result by is = subst (DecidesLine OneImage t line) (sym is) (decides {result = result} by)
