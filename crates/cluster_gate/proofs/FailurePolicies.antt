-- The failure policy in a policy's document is that of the compiled policy.
use Rattle.cluster_gate.proofs.Prelude.{◌≡◌, ◌∙◌, ℕ, List, Bool, true, false, Option, Some, None, Result, Ok, Err, ap, option_map, refl, subst, sym}
use Rattle.std.proofs.lemmas.Slice.Eq.{bytes_eq-Decides}
use Rattle.std.specs.Prelude.{bytes_eq, codes, if◌then◌else◌, not, option_and_then}
use Rattle.std.specs.Option.{option_map_or}
use Rattle.serde_json.specs.Data as json
use Rattle.serde_json.specs.Find.{get}
use Rattle.value_store.specs.Documents.{equals_string}
use Rattle.policy_glue.specs.Policy.{NamedExpression, Policy, Validation}
use Rattle.policy_glue.specs.Reading.{failure_in, has_head, has_spec_form, has_top_form, judged, named_list_in, policy_in, policy_of, policy_parts_in, spec_in, spec_parts, validation_in}
use Rattle.policy_glue.specs.declared.name_rule.NameRule.TheVariants.{NotEmpty, Identifier}
use Rattle.policy_glue.specs.declared.failure_policy.FailurePolicy.{FailurePolicy, TheVariants.Fail, TheVariants.Ignore}
use Rattle.policy_glue.specs.declared.policy_error.PolicyError.{PolicyError, TheVariants.InvalidField, TheVariants.MessageWithLineBreak, TheVariants.NoValidations, TheVariants.NotAPolicy, TheVariants.NotJson, TheVariants.TooManyParts}
use Rattle.json_fields.specs.Fields.{field, field_of, list_in, present}
use Rattle.json_fields.specs.Members.{in_object}
use Rattle.cluster_plan.specs.Steps.{fails_closed}
use Rattle.value_store.specs.Documents.{document_of}
use Rattle.wide_policy.specs.WideDocuments.{has_audit_annotations, normal_document, normal_spec, wide_policy_in, wide_policy_of, with_read_error}
use Rattle.wide_policy.specs.declared.wide_policy_error.WidePolicyError.TheVariants.{HasAuditAnnotations, Unread}
use Rattle.admission.specs.Deciding.{IsSaid}
use Rattle.admission.specs.declared.language.Language.{Language, TheVariants.Profile, TheVariants.Wide}
use Rattle.cluster_gate.proofs.Compiled.{failure_compiled, spec_compiled}
use Rattle.cluster_gate.proofs.Normal.{failure_normal, spec_normal}
use Rattle.cluster_gate.proofs.SameReading.{compiled_shallow}
use Rattle.cluster_gate.specs.Laws.{FailsClosedAsCompiled, denies_errors}
use Rattle.cluster_gate.specs.CompiledDocuments.{compiled_document, spec_members}

-- ---- what a policy is read from

judged_by : (a b c : Bool) (p q : Policy)
    → ◌≡◌ {A = Result Policy PolicyError} (if a then Err NoValidations else (if b then Err TooManyParts else (if c then Err MessageWithLineBreak else Ok p))) (Ok q) → p ≡ q
judged_by true b c p q e = absurd (cc)
judged_by false true c p q e = absurd (cc)
judged_by false false true p q e = absurd (cc)
judged_by false false false p q e = cc

form_is : (o : Option Policy) (q : Policy) → option_map_or judged o (Err InvalidField) ≡ Ok q → o ≡ Some q
form_is None q e = absurd (cc)
form_is (Some p) q e = ap Some (judged_by _ _ _ p q e)

head_is : (b : Bool) (o : Option Policy) (q : Policy) → ◌≡◌ {A = Result Policy PolicyError} (if b then option_map_or judged o (Err InvalidField) else Err NotAPolicy) (Ok q) → o ≡ Some q
head_is true o q e = form_is o q e
head_is false o q e = absurd (cc)

top_is : (b : Bool) (o : Option Policy) (q : Policy) → (if b then o else None) ≡ Some q → o ≡ Some q
top_is true o q e = e
top_is false o q e = absurd (cc)

-- the specification that a policy is read from
record IsSpec (o : Option json.Data) (q : Policy) : Type 0 where
  spec : json.Data
  is : o ≡ Some spec
  form : has_spec_form spec ≡ true
  parts : spec_parts spec ≡ Some q

spec_by : (d : json.Data) (q : Policy) (b : Bool) → has_spec_form d ≡ b → (if b then spec_parts d else None) ≡ Some q → IsSpec (Some d) q
spec_by d q true f e = record { spec = d; is = refl; form = f; parts = e }
spec_by d q false f e = absurd (cc)

spec_is : (o : Option json.Data) (q : Policy) → spec_in o ≡ Some q → IsSpec o q
spec_is None q e = absurd (cc)
spec_is (Some d) q e = spec_by d q (has_spec_form d) refl e

read_spec : (d : json.Data) (q : Policy) → policy_of d ≡ Ok q → IsSpec (get (codes "spec") d) q
unfolding policy_of
read_spec d q e = spec_is (get (codes "spec") d) q (top_is (has_top_form d) (spec_in (get (codes "spec") d)) q (head_is (has_head d) (policy_parts_in d) q e))

-- ---- the failure policy

-- a policy, if each of its parts has the right form
abbrev policy_from : Option FailurePolicy → Option (List NamedExpression) → Option (List NamedExpression) → Option (List Validation) → Option Policy
policy_from failure conditions variables validations =
    option_and_then (λ f. option_and_then (λ cs. option_and_then (λ vs. option_and_then (λ rs.
    Some (record { failure_policy = f; conditions = cs; variables = vs; validations = rs })) validations) variables) conditions) failure

first_part : (f : Option FailurePolicy) (cs vs : Option (List NamedExpression)) (rs : Option (List Validation)) (q : Policy) → policy_from f cs vs rs ≡ Some q
    → f ≡ Some q.failure_policy
first_part None cs vs rs q e = absurd (cc)
first_part (Some f) None vs rs q e = absurd (cc)
first_part (Some f) (Some cs) None rs q e = absurd (cc)
first_part (Some f) (Some cs) (Some vs) None q e = absurd (cc)
first_part (Some f) (Some cs) (Some vs) (Some rs) q e =
    let same : record { failure_policy = f; conditions = cs; variables = vs; validations = rs } ≡ q = cc in ap (λ (p : Policy). Some p.failure_policy) same

failure_is : (d : json.Data) (q : Policy) → spec_parts d ≡ Some q → failure_in (get (codes "failurePolicy") d) ≡ Some q.failure_policy
unfolding spec_parts
failure_is d q e =
    first_part (failure_in (get (codes "failurePolicy") d)) (named_list_in NotEmpty (get (codes "matchConditions") d))
    (named_list_in Identifier (get (codes "variables") d)) (list_in validation_in (get (codes "validations") d)) q e

named : (a b : Bool) (f : FailurePolicy) → (if a then Some Fail else (if b then Some Ignore else None)) ≡ Some f → (a ≡ true → b ≡ false) → not b ≡ denies_errors f
named true true f e h = let no = h refl in absurd (cc)
named true false f e h = let same : Fail ≡ f = cc in ap denies_errors same
named false true f e h = let same : Ignore ≡ f = cc in ap denies_errors same
named false false f e h = absurd (cc)

not_ignore : (s : List ℕ) → bytes_eq s (codes "Fail") ≡ true → bytes_eq s (codes "Ignore") ≡ false
not_ignore s is = ap (λ (t : List ℕ). bytes_eq t (codes "Ignore")) ((bytes_eq-Decides s (codes "Fail")).0 is)

denies_alike : (o : Option json.Data) (f : FailurePolicy) → failure_in o ≡ Some f → not (equals_string o (codes "Ignore")) ≡ denies_errors f
denies_alike None f e = let same : Fail ≡ f = cc in ap denies_errors same
denies_alike (Some json.null) f e = absurd (cc)
denies_alike (Some (json.boolean b)) f e = absurd (cc)
denies_alike (Some (json.number n)) f e = absurd (cc)
denies_alike (Some (json.string s)) f e = named (bytes_eq s (codes "Fail")) (bytes_eq s (codes "Ignore")) f e (not_ignore s)
denies_alike (Some (json.array ds)) f e = absurd (cc)
denies_alike (Some (json.object ms)) f e = absurd (cc)

-- ---- documents that are read

-- the specification that is read is made of that of the document, with the same failure policy unless it is null
module _ (F : json.Data → json.Data) (keeps : (s : json.Data) → get (codes "failurePolicy") (F s) ≡ present (get (codes "failurePolicy") s))
    (shows : (s : json.Data) → has_spec_form (F s) ≡ true → present (Some s) ≡ Some s) where
  record IsSpecIn (o : Option json.Data) (compiled : json.Data) : Type 0 where
    spec : json.Data
    is : o ≡ Some spec
    compiled_is : F spec ≡ compiled

  spec_in_state : (o : Option json.Data) (compiled : json.Data) → option_map F o ≡ Some compiled → IsSpecIn o compiled
  spec_in_state None compiled e = absurd (cc)
  spec_in_state (Some d) compiled e = record { spec = d; is = refl; compiled_is = cc }

  closed_by : (d e : json.Data) (q : Policy) → get (codes "spec") e ≡ option_map F (get (codes "spec") d) → policy_of e ≡ Ok q → fails_closed d ≡ denies_errors q.failure_policy
  unfolding fails_closed field
  closed_by d e q made read =
      let spec = read_spec e q read in
      let found = spec_in_state (get (codes "spec") d) spec.spec (sym made ∙ spec.is) in
      let ignores = λ (o : Option json.Data). not (equals_string (field_of (codes "failurePolicy") o) (codes "Ignore")) in
      let form : has_spec_form (F found.spec) ≡ true = ap has_spec_form found.compiled_is ∙ spec.form in
      let failure : failure_in (present (get (codes "failurePolicy") found.spec)) ≡ Some q.failure_policy =
      ap failure_in (sym (keeps found.spec) ∙ ap (get (codes "failurePolicy")) found.compiled_is) ∙ failure_is spec.spec q spec.parts in
      ap (λ (o : Option json.Data). ignores (present o)) found.is
      ∙ ap ignores (shows found.spec form)
      ∙ denies_alike (present (get (codes "failurePolicy") found.spec)) q.failure_policy failure

shown : (d : json.Data) → has_spec_form (in_object spec_members d) ≡ true → present (Some d) ≡ Some d
unfolding has_spec_form
shown json.null e = absurd (cc)
shown (json.boolean b) e = refl
shown (json.number n) e = refl
shown (json.string s) e = refl
shown (json.array ds) e = refl
shown (json.object ms) e = refl

-- ---- the wide language

-- the specification as it is read
abbrev wide_spec : json.Data → json.Data
wide_spec s = in_object normal_spec (in_object spec_members s)

wide_shown : (d : json.Data) → has_spec_form (wide_spec d) ≡ true → present (Some d) ≡ Some d
unfolding has_spec_form
wide_shown json.null e = absurd (cc)
wide_shown (json.boolean b) e = refl
wide_shown (json.number n) e = refl
wide_shown (json.string s) e = refl
wide_shown (json.array ds) e = refl
wide_shown (json.object ms) e = refl

present_twice : (o : Option json.Data) → present (present o) ≡ present o
present_twice None = refl
present_twice (Some json.null) = refl
present_twice (Some (json.boolean b)) = refl
present_twice (Some (json.number n)) = refl
present_twice (Some (json.string s)) = refl
present_twice (Some (json.array ds)) = refl
present_twice (Some (json.object ms)) = refl

wide_keeps : (s : json.Data) → get (codes "failurePolicy") (wide_spec s) ≡ present (get (codes "failurePolicy") s)
wide_keeps s =
    failure_normal (in_object spec_members s) ∙ ap present (failure_compiled s) ∙ present_twice (get (codes "failurePolicy") s)

option_map_twice : (f g : json.Data → json.Data) (o : Option json.Data) → option_map f (option_map g o) ≡ option_map (λ (d : json.Data). f (g d)) o
option_map_twice f g None = refl
option_map_twice f g (Some d) = refl

wide_made : (d : json.Data) → get (codes "spec") (normal_document (compiled_document d)) ≡ option_map wide_spec (get (codes "spec") d)
wide_made d =
    spec_normal (compiled_document d) ∙ ap (option_map (in_object normal_spec)) (spec_compiled d)
    ∙ option_map_twice (in_object normal_spec) (in_object spec_members) (get (codes "spec") d)

taken_by : (b : Bool) (r : Result Policy PolicyError) (q : Policy) → (if b then Err HasAuditAnnotations else with_read_error r) ≡ Ok q → r ≡ Ok q
taken_by true r q e = absurd (cc)
taken_by false (Ok p) q e = let same : p ≡ q = cc in ap Ok same
taken_by false (Err x) q e = absurd (cc)

wide_read : (d : json.Data) (q : Policy) → wide_policy_of d ≡ Ok q → policy_of (normal_document d) ≡ Ok q
unfolding wide_policy_of
wide_read d q e = taken_by (has_audit_annotations d) (policy_of (normal_document d)) q e

-- ---- the law

closed_as_said : (l : Language) (d : json.Data) (text : List ℕ) (told parsed : Policy) (wrapped : Bool) → document_of text ≡ Some (compiled_document d) → IsSaid l text told parsed wrapped
    → fails_closed d ≡ denies_errors parsed.failure_policy
unfolding policy_in wide_policy_in
closed_as_said Profile d text told parsed wrapped reads said =
    closed_by (in_object spec_members) failure_compiled shown d (compiled_document d) parsed (spec_compiled d)
    (subst (λ (o : Option json.Data). option_map_or policy_of o (Err NotJson) ≡ Ok parsed) reads said.0)
closed_as_said (Wide rule) d text told parsed wrapped reads said =
    let q = said.1.parsed in
    let read = subst (λ (o : Option json.Data). option_map_or wide_policy_of o (Err (Unread NotJson)) ≡ Ok q) reads said.1.is_said in
    closed_by wide_spec wide_keeps wide_shown d (normal_document (compiled_document d)) q (wide_made d) (wide_read (compiled_document d) q read)
    ∙ ap (λ (p : Policy). denies_errors p.failure_policy) (sym said.1.profile)

pub fails_closed_as_compiled : FailsClosedAsCompiled
fails_closed_as_compiled l p names c shallow =
    closed_as_said l p.document c.text c.is_policy.told c.is_policy.parsed c.is_policy.wrapped (c.has_text.reads (compiled_shallow p.document shallow)) c.is_policy.is_said
