-- The plans of lists, by how a list ends or continues.
use Rattle.wide_reader.proofs.Prelude.{◌≡◌, ◌≢◌, ℕ, List, [], ◌∷◌, true, false, inl, inr, ◌∙◌, ap, WideWord, mark, Mark, Comma, at, in_literal, this_mark, this_one, WideIsNotNext, WideCloses, WideGoesOn, closing_mark, takes_comma, Misfit, WideReadOutcome, Got, Refused, WideKind, WideOf, phrase, WideReadStep, WidePlan, misfit, done, go, look, behind, WidePlanRuns, stands, unfit, found, missing, Closing, Call}
use Rattle.wide_reader.proofs.Steps.{found_at}

pub comma_no_end : (c : Closing) → mark Comma ≢ mark (closing_mark c)
comma_no_end Call e = cc
comma_no_end _ e = cc

comma_lacks : (c : Closing) (ws us : List WideWord) → ws ≡ mark Comma ∷ us → WideIsNotNext (at (closing_mark c)) ws
comma_lacks c ws us e = rw e (comma_no_end c)

end_lacks : (c : Closing) (ws : List WideWord) → WideGoesOn c ws → WideIsNotNext (at (closing_mark c)) ws
end_lacks c [] g = tt
end_lacks c (w ∷ ws) g = λ e. g ws (inl (ap (λ (x : WideWord). x ∷ ws) e))

-- the closing mark does not follow the comma
behind_lacks : (c : Closing) (ws us : List WideWord) → WideGoesOn c ws → ws ≡ mark Comma ∷ us → WideIsNotNext (in_literal c (closing_mark c)) us
behind_lacks c ws [] g e = tt
behind_lacks c ws (w ∷ us) g e = λ t f. g us (inr (t, e ∙ ap (λ (x : WideWord). mark Comma ∷ x ∷ us) f))

pub in_any : (c : Closing) (m : Mark) (ws : List WideWord) → WideIsNotNext (at m) ws → WideIsNotNext (in_literal c m) ws
in_any c m [] n = tt
in_any c m (w ∷ ws) n = λ t. n

in_this : (c : Closing) (m : Mark) (ws : List WideWord) → takes_comma c ≡ true → WideIsNotNext (in_literal c m) ws → WideIsNotNext (at m) ws
in_this c m [] t n = tt
in_this c m (w ∷ ws) t n = n t

-- a list after its bracket
abbrev pub list : {k : WideKind} → Closing → WideOf k → WideReadStep false k → WidePlan false k
list c none first =
    look (at (closing_mark c)) (λ x. done none) (look (in_literal c Comma) (λ x. look (at (closing_mark c)) (λ y. done none) misfit) (go first))

module _ {k : WideKind} (c : Closing) (all : WideOf k) (next : WideReadStep false k) {room : ℕ} {ws : List WideWord} where
  pub behind_ends : {rest : List WideWord} → WideCloses c ws rest → WidePlanRuns (behind c all next) room ws (Got (phrase k all) rest)
  behind_ends (inl e) = found_at e this_mark stands
  behind_ends (inr p) = missing (comma_lacks c ws _ p.1) (found_at p.1 this_mark (found (this_one p.0) stands))

  pub behind_misfit : WideGoesOn c ws → WideIsNotNext (at Comma) ws → WidePlanRuns (behind c all next) room ws (Refused (Misfit ws))
  behind_misfit g n = missing (end_lacks c ws g) (missing n unfit)

  pub behind_goes : {us : List WideWord} {o : WideReadOutcome} → WideGoesOn c ws → ws ≡ mark Comma ∷ us → WidePlanRuns (go next) room us o → WidePlanRuns (behind c all next) room ws o
  behind_goes {us = us} g e r = missing (end_lacks c ws g) (found_at e this_mark (missing (behind_lacks c ws us g e) r))

  pub list_empty : {rest : List WideWord} → WideCloses c ws rest → WidePlanRuns (list c all next) room ws (Got (phrase k all) rest)
  list_empty (inl e) = found_at e this_mark stands
  list_empty (inr p) = missing (comma_lacks c ws _ p.1) (found_at p.1 (this_one p.0) (found this_mark stands))

  pub list_goes : {o : WideReadOutcome} → WideGoesOn c ws → WideIsNotNext (in_literal c Comma) ws → WidePlanRuns (go next) room ws o → WidePlanRuns (list c all next) room ws o
  list_goes g n r = missing (end_lacks c ws g) (missing n r)

  pub list_comma : (us : List WideWord) → takes_comma c ≡ true → WideGoesOn c ws → ws ≡ mark Comma ∷ us → WidePlanRuns (list c all next) room ws (Refused (Misfit us))
  list_comma us t g e = missing (end_lacks c ws g) (found_at e (this_one t) (missing (in_this c (closing_mark c) us t (behind_lacks c ws us g e)) unfit))
