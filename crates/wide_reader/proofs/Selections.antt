-- The plans of what follows a dot.
use Rattle.wide_reader.proofs.Prelude.{◌≡◌, ℕ, List, ◌∷◌, true, ◌∙◌, WideWord, name, quoted, Wide, wides, is_selector, is_quoted_name, named, back_quoted, this_mark, this_name, this_quoted, WideIsNotNext, Starts, Access, Plain, Optional, method_of, One, Misfit, WideReadOutcome, Got, Refused, Selection, maybe_call, WidePlanRuns, WideStepReads, stands, unfit, goes, found, missing}
use Rattle.wide_reader.specs.Tree as tree
use Rattle.wide_reader.proofs.Steps.{found_at}

-- a name in back quotes is no other name
not_name : (n : List ℕ) (rest : List WideWord) → WideIsNotNext (named is_selector) (quoted n ∷ rest)
not_name n rest m e = absurd cc

module _ {a : Wide} {room : ℕ} {ws us : List WideWord} where
  pub by_quoted : {n : List ℕ} {rest : List WideWord} (o : Access) → Starts o ws us → us ≡ quoted n ∷ rest → is_quoted_name n ≡ true
      → WideStepReads (Selection a) room ws (Got (One (tree.select a o n)) rest)
  by_quoted {n = n} {rest = rest} Plain s e is = goes (missing s.1 (rw (s.0 ∙ e) (missing (not_name n rest) (found (this_quoted is) stands))))
  by_quoted {n = n} {rest = rest} Optional s e is = goes (found_at s this_mark (rw e (missing (not_name n rest) (found (this_quoted is) stands))))

  pub by_none : (o : Access) → Starts o ws us → WideIsNotNext back_quoted us → WideIsNotNext (named is_selector) us → WideStepReads (Selection a) room ws (Refused (Misfit us))
  by_none Plain s q n = goes (missing s.1 (rw (s.0) (missing n (missing q unfit))))
  by_none Optional s q n = goes (found_at s this_mark (missing n (missing q unfit)))

  pub by_optional : {n : List ℕ} {rest : List WideWord} → Starts Optional ws us → us ≡ name n ∷ rest → is_selector n ≡ true
      → WideStepReads (Selection a) room ws (Got (One (tree.select a Optional n)) rest)
  by_optional s e is = goes (found_at s this_mark (rw e (found (this_name is) stands)))

  pub by_plain : {n : List ℕ} {rest : List WideWord} {o : WideReadOutcome} → Starts Plain ws us → us ≡ name n ∷ rest → is_selector n ≡ true
      → WidePlanRuns (maybe_call (tree.select a Plain n) (λ more. method_of a n (wides more))) room rest o → WideStepReads (Selection a) room ws o
  by_plain s e is r = goes (missing s.1 (rw (s.0 ∙ e) (found (this_name is) r)))
