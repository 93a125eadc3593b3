-- The policies that follow from a policy are accepted too.
use Rattle.std.proofs.Common.{◌≡◌, ◌||◌, Bool, List, [], ◌∷◌, length, map, nat_eq, nat_lt, refl, ap, ◌∙◌}
use Rattle.std.proofs.lemmas.List.{length-map}
use Rattle.std.specs.List.{list_any}
use Rattle.wide_translation.specs.Placed.{kind_of}
use Rattle.policy_glue.specs.Policy.{Validation, Policy, part_limit}
use Rattle.policy_glue.specs.Reading.{IsAcceptedPolicy, has_line_break}
use Rattle.policy_glue.specs.declared.part_kind.PartKind.TheVariants as part
use Rattle.wide_policy.proofs.Pairs.{same_length, same_any}
use Rattle.wide_policy.proofs.Trees.{PartsHold, IsSomeVariable}
use Rattle.wide_policy.specs.Taking.{Visible, visible, TakesNamed, TakesWideValidation, TakenValidation, TakenParts, profile_named, profile_validation, source_of, profile_of}
use Rattle.wide_policy.specs.declared.message_rule.MessageRule.{MessageRule}

-- as many parts, with the same messages
record IsAlike (p q : Policy) : Type 0 where
  conditions : length q.conditions ≡ length p.conditions
  variables : length q.variables ≡ length p.variables
  validations : length q.validations ≡ length p.validations
  messages : list_any (λ r. has_line_break r.message) q.validations ≡ list_any (λ r. has_line_break r.message) p.validations

accepted_too : (p q : Policy) → IsAlike p q → IsAcceptedPolicy p → IsAcceptedPolicy q
accepted_too p q like is = record {
  validations = ap (λ n. nat_eq n 0) like.validations ∙ is.validations;
  counts = (λ i. nat_lt part_limit (like.conditions i) || (nat_lt part_limit (like.variables i) || nat_lt part_limit (like.validations i))) ∙ is.counts;
  messages = like.messages ∙ is.messages;
}

same_message : (r : MessageRule) (seen : Visible) (n : Validation) (v : TakenValidation) → TakesWideValidation r seen n v
    → has_line_break v.source.message ≡ has_line_break n.message
same_message r seen n v is = ap (λ (s : Validation). has_line_break s.message) is.source

map_any : {A B : Type 0} (f : A → B) (g : B → Bool) (xs : List A) → list_any g (map f xs) ≡ list_any (λ x. g (f x)) xs
map_any f g [] = refl
map_any f g (x ∷ xs) = ap (λ b. g (f x) || b) (map_any f g xs)

module _ (wrapped : Bool) (r : MessageRule) (p : Policy) (t : TakenParts) (holds : PartsHold wrapped r p t) (is : IsAcceptedPolicy p) where
  validations_long : length t.validations ≡ length p.validations
  validations_long = same_length (TakesWideValidation r (visible wrapped (map kind_of t.variables))) p.validations t.validations holds.validations

  messages_same : list_any (λ v. has_line_break v.source.message) t.validations ≡ list_any (λ n. has_line_break n.message) p.validations
  messages_same = same_any (TakesWideValidation r (visible wrapped (map kind_of t.variables))) (λ n. has_line_break n.message) (λ v. has_line_break v.source.message) p.validations t.validations
      (same_message r (visible wrapped (map kind_of t.variables))) holds.validations

  pub source_accepted : IsAcceptedPolicy (source_of p t)
  source_accepted = accepted_too p (source_of p t) (record {
    conditions = refl;
    variables = refl;
    validations = length-map t.validations (λ (v : TakenValidation). v.source) ∙ validations_long;
    messages = map_any (λ (v : TakenValidation). v.source) (λ n. has_line_break n.message) t.validations ∙ messages_same;
  }) is

  pub profile_accepted : IsAcceptedPolicy (profile_of p t)
  profile_accepted = accepted_too p (profile_of p t) (record {
    conditions = length-map t.conditions profile_named ∙ same_length (TakesNamed part.Condition (visible wrapped [])) p.conditions t.conditions holds.conditions;
    variables = length-map t.variables profile_named ∙ same_length IsSomeVariable p.variables t.variables holds.variables;
    validations = length-map t.validations profile_validation ∙ validations_long;
    messages = map_any profile_validation (λ n. has_line_break n.message) t.validations ∙ messages_same;
  }) is
