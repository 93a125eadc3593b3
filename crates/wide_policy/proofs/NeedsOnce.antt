-- If an expression is refused because it needs a table of indices, it is refused for nothing else.
use Rattle.std.proofs.Common.{◌≡◌, ◌∙◌, ℕ, Bool, true, false, true≢false, List, [], ◌∷◌, ◌++◌, length, map, Some, Result, Ok, Err, refl, sym, ap, subst}
use Rattle.std.proofs.lemmas.Bool.{false≢true}
use Rattle.wide_translation.specs.Carried.{WideFault, NeedsIndices, refused as is_refused}
use Rattle.wide_translation.specs.Declarations.{fault_of, is_memory}
use Rattle.wide_translation.specs.Placed.{WideStep, kind_of}
use Rattle.wide_translation.specs.Translated.{translated}
use Rattle.wide_translation.specs.declared.translation_error.TranslationError.{TranslationError}
use Rattle.wide_translation.specs.declared.translation_error.TranslationError.TheVariants as translation
use Rattle.wide_reader.proofs.Told.{one_wide}
use Rattle.policy_glue.specs.Policy.{Validation, Policy}
use Rattle.policy_glue.specs.declared.part_kind.PartKind.{PartKind}
use Rattle.policy_glue.specs.declared.part_kind.PartKind.TheVariants as part
use Rattle.wide_policy.proofs.Once.{not_untranslated, ok_once, one_condition, one_conditions, one_step, one_variables, read_text, taken_condition, taken_place, taken_step, taken_validation}
use Rattle.wide_policy.specs.Depth.{is_too_deep}
use Rattle.wide_policy.specs.Errors.{needs_indices}
use Rattle.wide_policy.specs.Taking.{EndsWith, IsRefusedPart, IsUntranslated, RefusesPart, RefusesWideCondition, RefusesWideValidation, RefusesWideVariable, TakenParts, TakenValidation, TakesWideCondition, TakesWideValidation, TakesWideVariable, Visible, WidePartsEnd, scope_for, visible}
use Rattle.wide_policy.specs.Taking as taking
use Rattle.wide_policy.specs.declared.expression_error.WideExpressionError.{WideExpressionError}
use Rattle.wide_policy.specs.declared.expression_error.WideExpressionError.TheVariants as error
use Rattle.wide_policy.specs.declared.message_rule.MessageRule.{MessageRule}
use Rattle.wide_policy.specs.declared.wide_policy_error.WidePolicyError.{WidePolicyError}
use Rattle.wide_policy.specs.declared.wide_policy_error.WidePolicyError.TheVariants as wide_error

-- ---- one expression

-- the fault of the error is the need of a table
its_fault : (e : TranslationError) → is_memory e ≡ false → fault_of e ≡ NeedsIndices → e ≡ translation.NeedsIndices
its_fault (translation.UnknownName n) h f = absurd (cc)
its_fault translation.OptionalValue h f = absurd (cc)
its_fault (translation.TakenName n) h f = absurd (cc)
its_fault translation.UnsignedInt h f = absurd (cc)
its_fault translation.NeedsIndices h f = refl
its_fault translation.OptionalEntry h f = absurd (cc)
its_fault translation.Unsupported h f = absurd (cc)
its_fault translation.Memory h f = absurd (true≢false h)

refused_once : (f g : WideFault) → is_refused f ≡ is_refused g → f ≡ g
refused_once f g e = cc

module _ (p : PartKind) (seen : Visible) (text : List ℕ) where
  -- no other error
  one_need : (e : WideExpressionError) → IsUntranslated p seen text translation.NeedsIndices → IsRefusedPart p seen text e → e ≡ error.Untranslated translation.NeedsIndices
  one_need (error.Unread e) need why = absurd (read_text text need.1 e need.2 why)
  one_need error.TooDeep need why = absurd (true≢false (sym why.2 ∙ ap is_too_deep (sym (one_wide text need.1 why.0 need.2 why.1)) ∙ need.3))
  one_need (error.Untranslated e) need why =
      let same : translated (scope_for p seen) why.1 ≡ is_refused NeedsIndices = ap (translated (scope_for p seen)) (one_wide text why.1 need.1 why.2 need.2) ∙ need.4 in
      ap error.Untranslated (its_fault e why.0 (refused_once (fault_of e) NeedsIndices (sym why.4 ∙ same)))
  one_need error.OptionalResult need why = absurd (not_untranslated p seen text why.0 need.1 translation.NeedsIndices why.1 need.2 need.4)
  one_need error.Unwritten need why = absurd (not_untranslated p seen text why.0 need.1 translation.NeedsIndices why.1 need.2 need.4)
  one_need error.Memory need why = absurd why

  -- the cause of such a refusal
  its_cause : (place : ℕ) (e : WideExpressionError) → IsRefusedPart p seen text e → needs_indices (wide_error.InvalidExpression p place e) ≡ true → IsUntranslated p seen text translation.NeedsIndices
  its_cause place (error.Unread e) why needs = absurd (false≢true needs)
  its_cause place error.TooDeep why needs = absurd (false≢true needs)
  its_cause place (error.Untranslated (translation.UnknownName n)) why needs = absurd (false≢true needs)
  its_cause place (error.Untranslated translation.OptionalValue) why needs = absurd (false≢true needs)
  its_cause place (error.Untranslated (translation.TakenName n)) why needs = absurd (false≢true needs)
  its_cause place (error.Untranslated translation.UnsignedInt) why needs = absurd (false≢true needs)
  its_cause place (error.Untranslated translation.NeedsIndices) why needs = why
  its_cause place (error.Untranslated translation.OptionalEntry) why needs = absurd (false≢true needs)
  its_cause place (error.Untranslated translation.Unsupported) why needs = absurd (false≢true needs)
  its_cause place (error.Untranslated translation.Memory) why needs = absurd (false≢true needs)
  its_cause place error.OptionalResult why needs = absurd (false≢true needs)
  its_cause place error.Unwritten why needs = absurd (false≢true needs)
  its_cause place error.Memory why needs = absurd (false≢true needs)

  part_needs : (m n : ℕ) (e f : WidePolicyError) → RefusesPart p seen m text e → RefusesPart p seen n text f → needs_indices e ≡ true → needs_indices f ≡ true
  part_needs m n e f is also needs =
      let need = its_cause m is.cause is.because (ap needs_indices (sym is.is) ∙ needs) in
      ap needs_indices (also.is ∙ ap (wide_error.InvalidExpression p n) (one_need also.cause need also.because))

-- ---- lists of parts

module _ {A B : Type 0} (Takes : List B → A → B → Type 0) (Refuses : List B → A → WidePolicyError → Type 0)
    (once : (before : List B) (n : A) (a b : B) → Takes before n a → Takes before n b → a ≡ b)
    (apart : (before : List B) (n : A) (b : B) (e : WidePolicyError) → Takes before n b → Refuses before n e → ⊥)
    (alike : (before : List B) (n : A) (e f : WidePolicyError) → Refuses before n e → Refuses before n f → needs_indices e ≡ true → needs_indices f ≡ true) where
  list_needs_by : (before : List B) (ns : List A) (r s : Result (List B) WidePolicyError) (e f : WidePolicyError) → EndsWith Takes Refuses before ns r → r ≡ Err e
      → EndsWith Takes Refuses before ns s → s ≡ Err f → needs_indices e ≡ true → needs_indices f ≡ true
  list_needs_by before [] r s e f taking.over is other also needs = absurd (cc)
  list_needs_by before (n ∷ ns) r s e f (taking.refused g why) is (taking.refused h because) also needs =
      let first : g ≡ e = cc in
      let second : h ≡ f = cc in
      ap needs_indices (sym second) ∙ alike before n g h why because (ap needs_indices first ∙ needs)
  list_needs_by before (n ∷ ns) r s e f (taking.refused g why) is (taking.next c takes more) also needs = absurd (apart before n c g takes why)
  list_needs_by before (n ∷ ns) r s e f (taking.next b takes rest) is (taking.refused h because) also needs = absurd (apart before n b h takes because)
  list_needs_by before (n ∷ ns) r s e f (taking.next b takes rest) is (taking.next c other more) also needs =
      let same = once before n c b other takes in
      list_needs_by (before ++ b ∷ []) ns r s e f rest is (subst (λ (d : B). EndsWith Takes Refuses (before ++ d ∷ []) ns s) same more) also needs

  list_needs : (ns : List A) (e f : WidePolicyError) → EndsWith Takes Refuses [] ns (Err e) → EndsWith Takes Refuses [] ns (Err f) → needs_indices e ≡ true → needs_indices f ≡ true
  list_needs ns e f is also needs = list_needs_by [] ns (Err e) (Err f) e f is refl also refl needs

-- the same of parts that do not use the earlier ones
module _ {A B : Type 0} (Takes : A → B → Type 0) (Refuses : ℕ → A → WidePolicyError → Type 0)
    (apart : (place : ℕ) (n : A) (b : B) (e : WidePolicyError) → Takes n b → Refuses place n e → ⊥)
    (alike : (m k : ℕ) (n : A) (e f : WidePolicyError) → Refuses m n e → Refuses k n f → needs_indices e ≡ true → needs_indices f ≡ true) where
  abbrev Goes : List B → List A → Result (List B) WidePolicyError → Type 0
  Goes before ns end = EndsWith (λ (taken : List B) (n : A) (b : B). Takes n b) (λ (taken : List B) (n : A) (e : WidePolicyError). Refuses (length taken) n e) before ns end

  each_needs_by : (before others : List B) (ns : List A) (r s : Result (List B) WidePolicyError) (e f : WidePolicyError) → Goes before ns r → r ≡ Err e → Goes others ns s → s ≡ Err f
      → needs_indices e ≡ true → needs_indices f ≡ true
  each_needs_by before others [] r s e f taking.over is other also needs = absurd (cc)
  each_needs_by before others (n ∷ ns) r s e f (taking.refused g why) is (taking.refused h because) also needs =
      let first : g ≡ e = cc in
      let second : h ≡ f = cc in
      ap needs_indices (sym second) ∙ alike (length before) (length others) n g h why because (ap needs_indices first ∙ needs)
  each_needs_by before others (n ∷ ns) r s e f (taking.refused g why) is (taking.next c takes more) also needs = absurd (apart (length before) n c g takes why)
  each_needs_by before others (n ∷ ns) r s e f (taking.next b takes rest) is (taking.refused h because) also needs = absurd (apart (length others) n b h takes because)
  each_needs_by before others (n ∷ ns) r s e f (taking.next b takes rest) is (taking.next c other more) also needs =
      each_needs_by (before ++ b ∷ []) (others ++ c ∷ []) ns r s e f rest is more also needs

  each_needs : (ns : List A) (e f : WidePolicyError) → Goes [] ns (Err e) → Goes [] ns (Err f) → needs_indices e ≡ true → needs_indices f ≡ true
  each_needs ns e f is also needs = each_needs_by [] [] ns (Err e) (Err f) e f is refl also refl needs

-- ---- policies

some_once : (a b : List ℕ) → Some a ≡ Some b → a ≡ b
some_once a b e = cc

validation_needs : (r : MessageRule) (seen : Visible) (m k : ℕ) (n : Validation) (e f : WidePolicyError) → RefusesWideValidation r seen m n e → RefusesWideValidation r seen k n f
    → needs_indices e ≡ true → needs_indices f ≡ true
validation_needs r seen m k n e f (taking.expression g why) (taking.expression h because) needs = part_needs part.Validation seen n.expression m k g h why because needs
validation_needs r seen m k n e f (taking.expression g why) (taking.message x text h required takes is because) needs =
    absurd (taken_place part.Validation seen n.expression x m g takes why)
validation_needs r seen m k n e f (taking.message x text g required takes is why) (taking.expression h because) needs =
    absurd (taken_place part.Validation seen n.expression x k h takes because)
validation_needs r seen m k n e f (taking.message x text g required takes is why) (taking.message y other h must also same because) needs =
    let texts = some_once other text (sym same ∙ is) in
    part_needs part.Message seen text m k g h why (subst (λ (t : List ℕ). RefusesPart part.Message seen k t h) texts because) needs

module _ (wrapped : Bool) (r : MessageRule) (p : Policy) where
  variables_need : (e f : WidePolicyError) → taking.WideVariablesEnd wrapped p.variables (Err e) → taking.WideVariablesEnd wrapped p.variables (Err f)
      → needs_indices e ≡ true → needs_indices f ≡ true
  variables_need e f is also needs = list_needs (TakesWideVariable wrapped) (RefusesWideVariable wrapped) (one_step wrapped) (taken_step wrapped)
      (λ before n g h why because. part_needs part.Variable (visible wrapped (map kind_of before)) n.expression (length before) (length before) g h why because) p.variables e f is also needs

  conditions_need : (e f : WidePolicyError) → taking.WideConditionsEnd wrapped p.conditions (Err e) → taking.WideConditionsEnd wrapped p.conditions (Err f)
      → needs_indices e ≡ true → needs_indices f ≡ true
  conditions_need e f is also needs = list_needs (TakesWideCondition wrapped) (RefusesWideCondition wrapped) (one_condition wrapped) (taken_condition wrapped)
      (λ before n g h why because. part_needs part.Condition (visible wrapped []) n.expression (length before) (length before) g h why because) p.conditions e f is also needs

  validations_need : (seen : Visible) (e f : WidePolicyError) → taking.WideValidationsEnd r seen p.validations (Err e) → taking.WideValidationsEnd r seen p.validations (Err f)
      → needs_indices e ≡ true → needs_indices f ≡ true
  validations_need seen e f is also needs = each_needs (TakesWideValidation r seen) (RefusesWideValidation r seen) (taken_validation r seen) (validation_needs r seen) p.validations e f is also needs

  no_variables : (vs : List WideStep) (e : WidePolicyError) → taking.WideVariablesEnd wrapped p.variables (Ok vs) → taking.WideVariablesEnd wrapped p.variables (Err e) → ⊥
  no_variables vs e is also = let both : Err e ≡ Ok vs = one_variables wrapped p.variables vs (Err e) is also in absurd (cc)

  no_conditions : (cs : List WideStep) (e : WidePolicyError) → taking.WideConditionsEnd wrapped p.conditions (Ok cs) → taking.WideConditionsEnd wrapped p.conditions (Err e) → ⊥
  no_conditions cs e is also = let both : Err e ≡ Ok cs = one_conditions wrapped p.conditions cs (Err e) is also in absurd (cc)

  parts_need_by : (a b : Result TakenParts WidePolicyError) (e f : WidePolicyError) → WidePartsEnd wrapped r p a → a ≡ Err e → WidePartsEnd wrapped r p b → b ≡ Err f
      → needs_indices e ≡ true → needs_indices f ≡ true
  parts_need_by a b e f (taking.in_variables g ends) is (taking.in_variables h others) also needs =
      let first : g ≡ e = cc in
      let second : h ≡ f = cc in
      ap needs_indices (sym second) ∙ variables_need g h ends others (ap needs_indices first ∙ needs)
  parts_need_by a b e f (taking.in_variables g ends) is (taking.in_conditions ws h before others) also needs = absurd (no_variables ws g before ends)
  parts_need_by a b e f (taking.in_variables g ends) is (taking.in_validations ws ds h before between others) also needs = absurd (no_variables ws g before ends)
  parts_need_by a b e f (taking.in_conditions vs g first ends) is (taking.in_variables h others) also needs = absurd (no_variables vs h first others)
  parts_need_by a b e f (taking.in_conditions vs g first ends) is (taking.in_conditions ws h before others) also needs =
      let one : g ≡ e = cc in
      let two : h ≡ f = cc in
      ap needs_indices (sym two) ∙ conditions_need g h ends others (ap needs_indices one ∙ needs)
  parts_need_by a b e f (taking.in_conditions vs g first ends) is (taking.in_validations ws ds h before between others) also needs = absurd (no_conditions ds g between ends)
  parts_need_by a b e f (taking.in_validations vs cs g first second ends) is (taking.in_variables h others) also needs = absurd (no_variables vs h first others)
  parts_need_by a b e f (taking.in_validations vs cs g first second ends) is (taking.in_conditions ws h before others) also needs = absurd (no_conditions cs h second others)
  parts_need_by a b e f (taking.in_validations vs cs g first second ends) is (taking.in_validations ws ds h before between others) also needs =
      let one : g ≡ e = cc in
      let two : h ≡ f = cc in
      let same : ws ≡ vs = ok_once _ _ (one_variables wrapped p.variables vs (Ok ws) first before) in
      ap needs_indices (sym two) ∙ validations_need (visible wrapped (map kind_of vs)) g h ends
      (subst (λ (us : List WideStep). taking.WideValidationsEnd r (visible wrapped (map kind_of us)) p.validations (Err h)) same others) (ap needs_indices one ∙ needs)
  parts_need_by a b e f (taking.taken vs cs rs v c s) is other also needs = absurd (cc)
  parts_need_by a b e f one is (taking.taken vs cs rs v c s) also needs = absurd (cc)

  -- if a policy's first refusal is for the need of a table, each of its first refusals is
  pub parts_need : (e f : WidePolicyError) → WidePartsEnd wrapped r p (Err e) → WidePartsEnd wrapped r p (Err f) → needs_indices e ≡ true → needs_indices f ≡ true
  parts_need e f is also needs = parts_need_by (Err e) (Err f) e f is refl also refl needs
