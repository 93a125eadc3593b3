-- Loops over the parts of a policy.
use Rattle.std.proofs.Common.{◌≡◌, ◌+◌, ◌<◌, ◌≤◌, ℕ, Bool, List, [], ◌∷◌, ◌++◌, drop, get_or, length, length-append, map, Option, Some, None, Result, Ok, Err, refl, sym, ap, subst, arith, ◌∙◌, append_assoc}
use Rattle.std.proofs.Math.ListN.{drop_of_length-le}
use Rattle.std.proofs.lemmas.List.{drop_more, map-append}
use Rattle.wide_translation.specs.Placed.{WideStep, kind_of}
use Rattle.policy_glue.specs.Policy.{NamedExpression, Validation, validation_view}
use Rattle.policy_glue.specs.declared.part_kind.PartKind.TheVariants as part
use Rattle.wide_policy.specs.Returns.{with_variable, IsAddedWide, IsListsOf, IsPairOf, HasAddedPair}
use Rattle.wide_policy.specs.Taking.{Visible, visible, EndsWith, over, refused, next, TakesWideVariable, RefusesWideVariable, TakesWideCondition, RefusesWideCondition, TakesNamed, TakenValidation, TakesWideValidation, RefusesWideValidation, profile_named, profile_validation, with_note, notes_from}
use Rattle.wide_policy.specs.declared.expression_error.WideExpressionError.{WideExpressionError}
use Rattle.wide_policy.specs.declared.left_out.LeftOut.{LeftOut}
use Rattle.wide_policy.specs.declared.message_rule.MessageRule.{MessageRule}
use Rattle.wide_policy.specs.declared.taken_lists.TakenLists.{TakenLists}
use Rattle.wide_policy.specs.declared.taken_pair.TakenPair.{TakenPair}
use Rattle.wide_policy.specs.declared.wide_policy_error.WidePolicyError.{WidePolicyError}

-- the parts before this place are taken, and what the rest ends in, after them, all parts end in
pub record Walks {A B : Type 0} (Takes : List B → A → B → Type 0) (Refuses : List B → A → WidePolicyError → Type 0) (all rest : List A) (place : ℕ) (taken : List B) : Type 0 where
  pub count : length taken ≡ place
  pub goes : (end : Result (List B) WidePolicyError) → EndsWith Takes Refuses taken rest end → EndsWith Takes Refuses [] all end

-- the place of the loop in a list of the code
here_is : {X A : Type 0} (view : X → A) (xs : List X) (place : ℕ) (x : X) → place < length xs → x ≡ get_or xs place x
    → map view (drop place xs) ≡ view x ∷ map view (drop (place + 1) xs)
here_is view xs place x below is = ap (map view) (drop_more xs place x below ∙ ap (λ y. y ∷ drop (place + 1) xs) (sym is))

module _ {A B X : Type 0} (Takes : List B → A → B → Type 0) (Refuses : List B → A → WidePolicyError → Type 0) (view : X → A) (xs : List X) (all : List A) (place : ℕ) (taken : List B) where
  pub walk_step : (x : X) (b : B) → place < length xs → x ≡ get_or xs place x → Walks Takes Refuses all (map view (drop place xs)) place taken → Takes taken (view x) b
      → Walks Takes Refuses all (map view (drop (place + 1) xs)) (place + 1) (taken ++ b ∷ [])
  walk_step x b below is go takes = record {
    count = length-append taken (b ∷ []) ∙ ap (λ k. k + 1) go.count;
    goes = λ end h. go.goes end (subst (λ ns. EndsWith Takes Refuses taken ns end) (sym (here_is view xs place x below is)) (next b takes h));
  }

  pub walk_fail : (x : X) (e : WidePolicyError) → place < length xs → x ≡ get_or xs place x → Walks Takes Refuses all (map view (drop place xs)) place taken → Refuses taken (view x) e
      → EndsWith Takes Refuses [] all (Err e)
  walk_fail x e below is go refuses = go.goes (Err e) (subst (λ ns. EndsWith Takes Refuses taken ns (Err e)) (sym (here_is view xs place x below is)) (refused e refuses))

  pub walk_end : length xs ≤ place → Walks Takes Refuses all (map view (drop place xs)) place taken → EndsWith Takes Refuses [] all (Ok taken)
  walk_end past go = go.goes (Ok taken) (subst (λ ns. EndsWith Takes Refuses taken ns (Ok taken)) (sym (ap (map view) (drop_of_length-le xs past))) over)

-- one more item, as the code's values are seen
pub one_pushed : {A B : Type 0} (f : A → B) (old new : List A) (x : A) → new ≡ old ++ x ∷ [] → map f new ≡ map f old ++ f x ∷ []
one_pushed f old new x is = ap (map f) is ∙ map-append f old (x ∷ [])

-- ---- variables

pub record VariablesGo (wrapped : Bool) (all rest : List NamedExpression) (place : ℕ) (scope : Visible) (list : List NamedExpression) : Type 0 where
  pub taken : List WideStep
  pub walks : Walks (TakesWideVariable wrapped) (RefusesWideVariable wrapped) all rest place taken
  pub scope_is : scope ≡ visible wrapped (map kind_of taken)
  pub list_is : list ≡ map profile_named taken

pub record ConditionsGo (wrapped : Bool) (all rest : List NamedExpression) (place : ℕ) (list : List NamedExpression) : Type 0 where
  pub taken : List WideStep
  pub walks : Walks (TakesWideCondition wrapped) (RefusesWideCondition wrapped) all rest place taken
  pub list_is : list ≡ map profile_named taken

module _ {X : Type 0} (view : X → NamedExpression) (xs : List X) (all : List NamedExpression) (place : ℕ) (wrapped : Bool) where
  pub variables_step : (x : X) (old new : Visible) (before after : List NamedExpression) → place < length xs → x ≡ get_or xs place x
      → VariablesGo wrapped all (map view (drop place xs)) place old before → IsAddedWide (view x) old new before after
      → VariablesGo wrapped all (map view (drop (place + 1) xs)) (place + 1) new after
  variables_step x old new before after below is go added =
      let v : WideStep = added.variable in
      record {
        taken = go.taken ++ v ∷ [];
        walks = walk_step (TakesWideVariable wrapped) (RefusesWideVariable wrapped) view xs all place go.taken x v below is go.walks
            (subst (λ (s : Visible). TakesNamed part.Variable s (view x) v) go.scope_is added.taken);
        scope_is = added.scope ∙ ap (λ (s : Visible). with_variable s (kind_of v)) go.scope_is ∙ ap (visible wrapped) (sym (map-append kind_of go.taken (v ∷ [])));
        list_is = added.list ∙ ap (λ (s : List NamedExpression). s ++ profile_named v ∷ []) go.list_is ∙ sym (map-append profile_named go.taken (v ∷ []));
      }

  pub conditions_step : (x : X) (v : WideStep) (before after : List NamedExpression) → place < length xs → x ≡ get_or xs place x
      → ConditionsGo wrapped all (map view (drop place xs)) place before → TakesNamed part.Condition (visible wrapped []) (view x) v → after ≡ before ++ profile_named v ∷ []
      → ConditionsGo wrapped all (map view (drop (place + 1) xs)) (place + 1) after
  conditions_step x v before after below is go takes more = record {
    taken = go.taken ++ v ∷ [];
    walks = walk_step (TakesWideCondition wrapped) (RefusesWideCondition wrapped) view xs all place go.taken x v below is go.walks takes;
    list_is = more ∙ ap (λ (s : List NamedExpression). s ++ profile_named v ∷ []) go.list_is ∙ sym (map-append profile_named go.taken (v ∷ []));
  }

-- ---- validations

note_apart : (place : ℕ) (o : Option WideExpressionError) (more : List LeftOut) → with_note place o more ≡ with_note place o [] ++ more
note_apart place None more = refl
note_apart place (Some e) more = refl

notes_more : (start : ℕ) (rs : List TakenValidation) (r : TakenValidation) → notes_from start (rs ++ r ∷ []) ≡ notes_from start rs ++ with_note (start + length rs) r.left_out []
notes_more start [] r = ap (λ n. with_note n r.left_out []) (omega arith)
notes_more start (s ∷ rs) r =
    let next : notes_from (start + 1) (rs ++ r ∷ []) ≡ notes_from (start + 1) rs ++ with_note (start + 1 + length rs) r.left_out [] = notes_more (start + 1) rs r in
    let count : start + 1 + length rs ≡ start + length (s ∷ rs) = omega arith in
    note_apart start s.left_out (notes_from (start + 1) (rs ++ r ∷ []))
    ∙ ap (λ (l : List LeftOut). with_note start s.left_out [] ++ l) (next ∙ ap (λ n. notes_from (start + 1) rs ++ with_note n r.left_out []) count)
    ∙ sym (append_assoc (with_note start s.left_out []) (notes_from (start + 1) rs) (with_note (start + length (s ∷ rs)) r.left_out []))
    ∙ ap (λ (l : List LeftOut). l ++ with_note (start + length (s ∷ rs)) r.left_out []) (sym (note_apart start s.left_out (notes_from (start + 1) rs)))

pub record ValidationsGo (rule : MessageRule) (seen : Visible) (all rest : List Validation) (place : ℕ) (lists : TakenLists) : Type 0 where
  pub taken : List TakenValidation
  pub walks : Walks (λ before n r. TakesWideValidation rule seen n r) (λ before n e. RefusesWideValidation rule seen (length before) n e) all rest place taken
  pub lists_are : IsListsOf taken lists

lists_more : (rs : List TakenValidation) (r : TakenValidation) (old new : TakenLists) (place : ℕ) (pair : TakenPair) → length rs ≡ place → IsListsOf rs old → IsPairOf r pair
    → HasAddedPair old new place pair → IsListsOf (rs ++ r ∷ []) new
lists_more rs r old new place pair count are is added = record {
  source = one_pushed validation_view old.source.items new.source.items pair.source added.source
      ∙ (λ i. are.source i ++ is.source i ∷ []) ∙ sym (map-append (λ (v : TakenValidation). v.source) rs (r ∷ []));
  profile = one_pushed validation_view old.profile.items new.profile.items pair.profile added.profile
      ∙ (λ i. are.profile i ++ is.profile i ∷ []) ∙ sym (map-append profile_validation rs (r ∷ []));
  left_out = added.left_out ∙ (λ i. are.left_out i ++ with_note place (is.refusal i) [])
      ∙ ap (λ n. notes_from 0 rs ++ with_note n r.left_out []) (sym count ∙ omega arith) ∙ sym (notes_more 0 rs r);
}

module _ {X : Type 0} (view : X → Validation) (xs : List X) (all : List Validation) (place : ℕ) (rule : MessageRule) (seen : Visible) where
  pub validations_step : (x : X) (r : TakenValidation) (pair : TakenPair) (old new : TakenLists) → place < length xs → x ≡ get_or xs place x
      → ValidationsGo rule seen all (map view (drop place xs)) place old → TakesWideValidation rule seen (view x) r → IsPairOf r pair → HasAddedPair old new place pair
      → ValidationsGo rule seen all (map view (drop (place + 1) xs)) (place + 1) new
  validations_step x r pair old new below is go takes pairs added = record {
    taken = go.taken ++ r ∷ [];
    walks = walk_step (λ before n s. TakesWideValidation rule seen n s) (λ before n e. RefusesWideValidation rule seen (length before) n e) view xs all place go.taken x r below is go.walks takes;
    lists_are = lists_more go.taken r old new place pair go.walks.count go.lists_are pairs added;
  }
