-- As many indices as the documents are wide are enough for a policy.
use Rattle.std.specs.Prelude.{⊤}
use Rattle.std.proofs.Common.{◌≡◌, ◌≤◌, ℕ, Bool, true, false, List, [], ◌∷◌, ◌++◌, map, Option, Some, if◌then◌else◌, unwrap_or, refl, sym, subst, arith, bytes_eq}
use Rattle.cel_macros.specs.Environment.{Roots, lookup}
use Rattle.wide_reader.specs.Tree.{Wide}
use Rattle.wide_meaning.specs.Environment.{WideEnvironment, variable_in}
use Rattle.wide_meaning.specs.Meaning.{wide_meaning}
use Rattle.wide_meaning.specs.Outcome.{Outcome, failed}
use Rattle.wide_translation.specs.Placed.{AreTabled, WideStep, condition_roots, wide_environment}
use Rattle.wide_widths.specs.Law.{IsOutcomeWithin, IsEnvironmentWithin, AreRootsWithin}
use Rattle.wide_widths.specs.Narrow.{known, is_narrow, literal_limit}
use Rattle.wide_widths.proofs.Law.{narrow_means_within}
use Rattle.wide_widths.proofs.Within.{and_left, and_right}
use Rattle.wide_indices.specs.Law.{NarrowPoliciesAreTabled, NarrowConditionsAreTabled}
use Rattle.wide_indices.specs.Narrow.{has_narrow_ranges, policy_has_narrow_ranges, outside}
use Rattle.wide_indices.specs.Tables.{index_tables, table_length}
use Rattle.wide_indices.proofs.Indexed.{narrow_ranges_are_indexed}

-- ---- variables

-- a variable, what is known of it, and what it evaluates to
record Judged : Type 0 where
  name : List ℕ
  is_narrow : Bool
  outcome : Outcome

abbrev judgements : List Judged → List (List ℕ × Bool)
judgements js = map (λ j. (j.name, j.is_narrow)) js

abbrev outcomes : List Judged → List (List ℕ × Outcome)
outcomes js = map (λ j. (j.name, j.outcome)) js

map_more : {A : Type 0} (f : Judged → A) (js : List Judged) (j : Judged) → map f (js ++ j ∷ []) ≡ map f js ++ f j ∷ []
map_more f [] j = refl
map_more f (i ∷ js) j = λ d. f i ∷ map_more f js j d

module _ (n : ℕ) where
  abbrev AreWithin : List Judged → Type 0
  AreWithin [] = ⊤
  AreWithin (j ∷ js) = (j.is_narrow ≡ true → IsOutcomeWithin n j.outcome) × AreWithin js

  one_more : (js : List Judged) (j : Judged) → AreWithin js → (j.is_narrow ≡ true → IsOutcomeWithin n j.outcome) → AreWithin (js ++ j ∷ [])
  one_more [] j h g = (g, tt)
  one_more (i ∷ js) j h g = (h.0, one_more js j h.1 g)

  varied_by : (b : Bool) (j : Judged) (o : Option Bool) (q : Option Outcome) → (j.is_narrow ≡ true → IsOutcomeWithin n j.outcome)
      → (known o ≡ true → IsOutcomeWithin n (unwrap_or q failed))
      → known (if b then Some j.is_narrow else o) ≡ true → IsOutcomeWithin n (unwrap_or (if b then Some j.outcome else q) failed)
  varied_by true j o q h g k = h k
  varied_by false j o q h g k = g k

  varied : (js : List Judged) (x : List ℕ) → AreWithin js → known (lookup x (judgements js)) ≡ true → IsOutcomeWithin n (variable_in x (outcomes js))
  varied [] x h k = tt
  varied (j ∷ js) x h k = varied_by (bytes_eq j.name x) j (lookup x (judgements js)) (lookup x (outcomes js)) h.0 (λ i. varied js x h.1 i) k

  within : (js : List Judged) (roots : Roots) → AreRootsWithin n roots → literal_limit ≤ n → AreWithin js
      → IsEnvironmentWithin n (outside (judgements js)) (wide_environment roots (outcomes js))
  within js roots r l h = record {
    roots = r;
    literals = l;
    named = λ x v k e. absurd (cc);
    hidden = refl;
    varied = λ x k. varied js x h k;
  }

-- ---- policies

module _ (others : Wide → WideEnvironment → Outcome) (w : Bool) (n m : ℕ) (roots : Roots) (l : n ≤ m) (r : AreRootsWithin n roots) (t : literal_limit ≤ n) where
  after : (vs : List WideStep) (js : List Judged) (e : Wide) → AreWithin n js → policy_has_narrow_ranges (judgements js) vs e ≡ true
      → AreTabled others w (index_tables m) roots (outcomes js) vs e
  after [] js e h g = λ q u. narrow_ranges_are_indexed others n m (outside (judgements js)) (wide_environment roots (outcomes js)) e l (within n js roots r t h) g
  after (v ∷ vs) js e h g =
      let env : WideEnvironment = wide_environment roots (outcomes js) in
      let j : Judged = record { name = v.name; is_narrow = is_narrow (outside (judgements js)) v.wide; outcome = wide_meaning others v.wide env } in
      let ns : judgements (js ++ j ∷ []) ≡ judgements js ++ (j.name, j.is_narrow) ∷ [] = map_more (λ i. (i.name, i.is_narrow)) js j in
      let os : outcomes (js ++ j ∷ []) ≡ outcomes js ++ (j.name, j.outcome) ∷ [] = map_more (λ i. (i.name, i.outcome)) js j in
      let here : has_narrow_ranges (outside (judgements js)) v.wide ≡ true
      = and_left (has_narrow_ranges (outside (judgements js)) v.wide) (policy_has_narrow_ranges (judgements js ++ (j.name, j.is_narrow) ∷ []) vs e) g in
      let later : policy_has_narrow_ranges (judgements js ++ (j.name, j.is_narrow) ∷ []) vs e ≡ true
      = and_right (has_narrow_ranges (outside (judgements js)) v.wide) (policy_has_narrow_ranges (judgements js ++ (j.name, j.is_narrow) ∷ []) vs e) g in
      let more : AreWithin n (js ++ j ∷ []) = one_more n js j h (λ i. narrow_means_within others n (outside (judgements js)) env v.wide (within n js roots r t h) i) in
      let rest : AreTabled others w (index_tables m) roots (outcomes (js ++ j ∷ [])) vs e
      = after vs (js ++ j ∷ []) e more (subst (λ (x : List (List ℕ × Bool)). policy_has_narrow_ranges x vs e ≡ true) (sym ns) later) in (
        (λ q u. narrow_ranges_are_indexed others n m (outside (judgements js)) env v.wide l (within n js roots r t h) here),
        subst (λ (x : List (List ℕ × Outcome)). AreTabled others w (index_tables m) roots x vs e) os rest,
      )

-- ---- documents

roots_within : (roots : Roots) → AreRootsWithin (table_length roots) roots
roots_within roots = record {
  object = omega arith;
  old_object = omega arith;
  params = omega arith;
  namespace_object = omega arith;
  request = omega arith;
}

-- without a namespace they are no wider
shorter : (roots : Roots) → table_length (condition_roots roots) ≤ table_length roots
shorter roots = omega arith

limited : (roots : Roots) → literal_limit ≤ table_length roots
limited roots = omega arith

trans_le : (a b c : ℕ) → a ≤ b → b ≤ c → a ≤ c
trans_le a b c h g = omega arith

pub narrow_policies_are_tabled : NarrowPoliciesAreTabled
narrow_policies_are_tabled others w m roots vs e l g =
    after others w (table_length roots) m roots l (roots_within roots) (limited roots) vs [] e tt g

pub narrow_conditions_are_tabled : NarrowConditionsAreTabled
narrow_conditions_are_tabled others w m roots e l g =
    let c : Roots = condition_roots roots in
    after others w (table_length c) m c (trans_le (table_length c) (table_length roots) m (shorter roots) l) (roots_within c) (limited c) [] [] e tt g
