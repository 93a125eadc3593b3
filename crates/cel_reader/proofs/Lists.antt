-- The plans of lists, by how a list ends or continues.
use Rattle.cel_reader.proofs.Prelude.{◌≡◌, ◌≢◌, ℕ, List, [], ◌∷◌, Bool, true, false, inl, inr, refl, ◌∙◌, ap, if◌then◌else◌, Word, mark, Mark, Comma, Tree, at, in_literal, this_mark, this_one, IsNotNext, Closes, GoesOn, closing_mark, takes_comma, Misfit, ReadOutcome, Got, Refused, Kind, Of, phrase, Step, Item, Plan, misfit, done, go, look, behind, PlanRuns, StepReads, stands, unfit, goes, fails, found, missing, passes, Closing, Call}
use Rattle.cel_reader.proofs.Looks.{other_one}
use Rattle.cel_reader.proofs.Steps.{found_at}

pub comma_no_end : (c : Closing) → mark Comma ≢ mark (closing_mark c)
comma_no_end Call e = cc
comma_no_end _ e = cc

comma_lacks : (c : Closing) (ws us : List Word) → ws ≡ mark Comma ∷ us → IsNotNext (at (closing_mark c)) ws
comma_lacks c ws us e = rw e (comma_no_end c)

end_lacks : (c : Closing) (ws : List Word) → GoesOn c ws → IsNotNext (at (closing_mark c)) ws
end_lacks c [] g = tt
end_lacks c (w ∷ ws) g = λ e. g ws (inl (ap (λ (x : Word). x ∷ ws) e))

-- the closing mark does not follow the comma
behind_lacks : (c : Closing) (ws us : List Word) → GoesOn c ws → ws ≡ mark Comma ∷ us → IsNotNext (in_literal c (closing_mark c)) us
behind_lacks c ws [] g e = tt
behind_lacks c ws (w ∷ us) g e = λ t f. g us (inr (t, e ∙ ap (λ (x : Word). mark Comma ∷ x ∷ us) f))

in_any : (c : Closing) (m : Mark) (ws : List Word) → IsNotNext (at m) ws → IsNotNext (in_literal c m) ws
in_any c m [] n = tt
in_any c m (w ∷ ws) n = λ t. n

in_this : (c : Closing) (m : Mark) (ws : List Word) → takes_comma c ≡ true → IsNotNext (in_literal c m) ws → IsNotNext (at m) ws
in_this c m [] t n = tt
in_this c m (w ∷ ws) t n = n t

-- a list after its bracket
abbrev pub list : {k : Kind} → Closing → Of k → Step false k → Plan false k
list c none first =
    look (at (closing_mark c)) (λ x. done none) (look (in_literal c Comma) (λ x. look (at (closing_mark c)) (λ y. done none) misfit) (go first))

module _ {k : Kind} (c : Closing) (all : Of k) (next : Step false k) {room : ℕ} {ws : List Word} where
  pub behind_ends : {rest : List Word} → Closes c ws rest → PlanRuns (behind c all next) room ws (Got (phrase k all) rest)
  behind_ends (inl e) = found_at e this_mark stands
  behind_ends (inr p) = missing (comma_lacks c ws _ p.1) (found_at p.1 this_mark (found (this_one p.0) stands))

  pub behind_misfit : GoesOn c ws → IsNotNext (at Comma) ws → PlanRuns (behind c all next) room ws (Refused (Misfit ws))
  behind_misfit g n = missing (end_lacks c ws g) (missing n unfit)

  pub behind_goes : {us : List Word} {o : ReadOutcome} → GoesOn c ws → ws ≡ mark Comma ∷ us → PlanRuns (go next) room us o → PlanRuns (behind c all next) room ws o
  behind_goes {us = us} g e r = missing (end_lacks c ws g) (found_at e this_mark (missing (behind_lacks c ws us g e) r))

  pub list_empty : {rest : List Word} → Closes c ws rest → PlanRuns (list c all next) room ws (Got (phrase k all) rest)
  list_empty (inl e) = found_at e this_mark stands
  list_empty (inr p) = missing (comma_lacks c ws _ p.1) (found_at p.1 (this_one p.0) (found this_mark stands))

  pub list_goes : {o : ReadOutcome} → GoesOn c ws → IsNotNext (at Comma) ws → PlanRuns (go next) room ws o → PlanRuns (list c all next) room ws o
  list_goes g n r = missing (end_lacks c ws g) (missing (in_any c Comma ws n) r)

  list_comma_by : (b : Bool) (us : List Word) → takes_comma c ≡ b → GoesOn c ws → ws ≡ mark Comma ∷ us
      → (takes_comma c ≡ false → PlanRuns (go next) room ws (Refused (Misfit ws))) → PlanRuns (list c all next) room ws (Refused (Misfit (if b then us else ws)))
  list_comma_by true us t g e r =
      missing (end_lacks c ws g) (found_at e (this_one t) (missing (in_this c (closing_mark c) us t (behind_lacks c ws us g e)) unfit))
  list_comma_by false us t g e r = missing (end_lacks c ws g) (missing (other_one c Comma ws t) (r t))

  pub list_comma : (us : List Word) → GoesOn c ws → ws ≡ mark Comma ∷ us → (takes_comma c ≡ false → PlanRuns (go next) room ws (Refused (Misfit ws)))
      → PlanRuns (list c all next) room ws (Refused (Misfit (if takes_comma c then us else ws)))
  list_comma us g e r = list_comma_by (takes_comma c) us refl g e r

-- an item does not begin with a comma
comma_refused : (c : Closing) (items : List Tree) (room : ℕ) (us : List Word) → StepReads (Item c items) room (mark Comma ∷ us) (Refused (Misfit (mark Comma ∷ us)))
comma_refused c items room us =
    goes (fails (goes (fails (goes (fails (goes (fails (goes (fails (goes (fails (goes (fails (goes (missing (λ f. cc) (missing (λ f. cc)
    (goes (fails (goes (passes (λ f. cc) (passes (λ f. cc) (passes (λ f. cc) (missing refl (missing (λ n f. cc) unfit))))))))))))))))))))))))

pub comma_misfit : (c : Closing) (items : List Tree) (room : ℕ) (ws us : List Word) → ws ≡ mark Comma ∷ us → StepReads (Item c items) room ws (Refused (Misfit ws))
comma_misfit c items room ws us e = rw e (comma_refused c items room us)
