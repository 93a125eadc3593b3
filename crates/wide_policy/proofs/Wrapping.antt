-- Policies that are read with or without a table of indices.
use Rattle.std.proofs.Common.{◌≡◌, ◌∙◌, ℕ, Bool, true, false, true≢false, List, Some, None, Result, Ok, Err, refl, sym, ap, subst}
use Rattle.std.proofs.lemmas.Bool.{false≢true}
use Rattle.wide_translation.specs.declared.translation_error.TranslationError.TheVariants as translation
use Rattle.policy_glue.specs.Policy.{Policy}
use Rattle.policy_glue.specs.declared.part_kind.PartKind.{PartKind}
use Rattle.wide_policy.proofs.NeedsOnce.{parts_need}
use Rattle.wide_policy.proofs.Once.{no_refusal, ok_once, same_source}
use Rattle.wide_policy.proofs.Theorem.{has_tree, parts_fault}
use Rattle.wide_policy.specs.Errors.{needs_indices}
use Rattle.wide_policy.specs.NarrowTrees.{is_policy_tabled}
use Rattle.wide_policy.specs.Reading.{ArePartsTaken, AreWrapped, IsWidePolicy, IsWideTree, WidePolicyReturns}
use Rattle.wide_policy.specs.Returns.{IsReadAs, IsRefusedAs, IsTabledOr, ReadsWide, ReturnsPolicy, ReturnsTabled, first_refusal}
use Rattle.wide_policy.specs.Taking.{TakenParts, WidePartsEnd, source_of, wide_tree_of}
use Rattle.wide_policy.specs.WideDocuments.{ReadsSource, wide_policy_in}
use Rattle.wide_policy.specs.declared.expression_error.WideExpressionError.{WideExpressionError}
use Rattle.wide_policy.specs.declared.expression_error.WideExpressionError.TheVariants as cause
use Rattle.wide_policy.specs.declared.message_rule.MessageRule.{MessageRule}
use Rattle.wide_policy.specs.declared.policy.WidePolicy.{WidePolicy}
use Rattle.wide_policy.specs.declared.wide_policy_error.WidePolicyError.{WidePolicyError}
use Rattle.wide_policy.specs.declared.wide_policy_error.WidePolicyError.TheVariants as error

-- ---- one reading

module _ (wrapped : Bool) (r : MessageRule) (document : List ℕ) where
  pub source_refused : (e : WidePolicyError) → ReadsSource (wide_policy_in document) (Err e) → ReadsWide wrapped r document (Err e)
  source_refused (error.Unread e) is = is
  source_refused error.HasAuditAnnotations is = is
  source_refused (error.InvalidExpression p n x) is = absurd is
  source_refused error.Memory is = tt

  module _ (parsed : Policy) (said : wide_policy_in document ≡ Ok parsed) where
    expression_refused : (e : WidePolicyError) → ReturnsPolicy wrapped r parsed (Err e) → ReadsWide wrapped r document (Err e)
    expression_refused (error.Unread e) is = absurd (parts_fault wrapped r parsed (Err (error.Unread e)) (error.Unread e) (is (λ g. cc)) refl)
    expression_refused error.HasAuditAnnotations is = absurd (parts_fault wrapped r parsed (Err error.HasAuditAnnotations) error.HasAuditAnnotations (is (λ g. cc)) refl)
    expression_refused (error.InvalidExpression p n x) is = record { parsed = parsed; is_said = said; end = is (λ g. cc) }
    expression_refused error.Memory is = tt

    pub whole_read : (x : Result WidePolicy WidePolicyError) → ReturnsPolicy wrapped r parsed x → ReadsWide wrapped r document x
    whole_read (Ok p) is = record { parsed = parsed; is_said = said; parts = is.0; end = is.1; is = is.2 }
    whole_read (Err e) is = expression_refused e is

-- ---- both

need_of : (p : PartKind) (n : ℕ) (x : WideExpressionError) → needs_indices (error.InvalidExpression p n x) ≡ true → x ≡ cause.Untranslated translation.NeedsIndices
need_of p n (cause.Unread e) needs = absurd (false≢true needs)
need_of p n cause.TooDeep needs = absurd (false≢true needs)
need_of p n (cause.Untranslated (translation.UnknownName m)) needs = absurd (false≢true needs)
need_of p n (cause.Untranslated translation.OptionalValue) needs = absurd (false≢true needs)
need_of p n (cause.Untranslated (translation.TakenName m)) needs = absurd (false≢true needs)
need_of p n (cause.Untranslated translation.UnsignedInt) needs = absurd (false≢true needs)
need_of p n (cause.Untranslated translation.NeedsIndices) needs = refl
need_of p n (cause.Untranslated translation.OptionalEntry) needs = absurd (false≢true needs)
need_of p n (cause.Untranslated translation.Unsupported) needs = absurd (false≢true needs)
need_of p n (cause.Untranslated translation.Memory) needs = absurd (false≢true needs)
need_of p n cause.OptionalResult needs = absurd (false≢true needs)
need_of p n cause.Unwritten needs = absurd (false≢true needs)
need_of p n cause.Memory needs = absurd (false≢true needs)

module _ (r : MessageRule) (document : List ℕ) where
  pub plain_read : (p : WidePolicy) → ReadsWide false r document (Ok p) → WidePolicyReturns r document (Ok p)
  plain_read p said = record {
    parsed = said.parsed;
    is_said = said.is_said;
    parts = said.parts;
    taken = subst (λ (w : Bool). ArePartsTaken w r said.parsed said.parts) (sym said.is.wrapped_is) said.end;
    source = said.is.source;
    profile = said.is.profile;
    left_out = said.is.left_out;
  }

  -- a refusal for something else
  pub other_refusal : (e : WidePolicyError) → ReadsWide false r document (Err e) → needs_indices e ≡ false → WidePolicyReturns r document (Err e)
  other_refusal (error.Unread e) said other = said
  other_refusal error.HasAuditAnnotations said other = said
  other_refusal (error.InvalidExpression p n x) said other = record {
    parsed = said.parsed;
    is_said = said.is_said;
    end = said.end;
    unmended = λ parts is. true≢false (sym (parts_need false r said.parsed (error.InvalidExpression is.part is.place (cause.Untranslated translation.NeedsIndices))
        (error.InvalidExpression p n x) is.needed said.end refl) ∙ other);
  }
  other_refusal error.Memory said other = tt

  -- the policy with a table
  wrapped_by : (p : PartKind) (n : ℕ) (x : WideExpressionError) (q : WidePolicy) → IsRefusedAs false r document (error.InvalidExpression p n x)
      → needs_indices (error.InvalidExpression p n x) ≡ true → IsReadAs true r document q → ((w : _) → IsWideTree q.source w → is_policy_tabled w ≡ true) → IsWidePolicy r document q
  wrapped_by p n x q first needs second tabled =
      let same : first.parsed ≡ second.parsed = ok_once _ _ (sym first.is_said ∙ second.is_said) in
      let end : WidePartsEnd false r second.parsed (Err (error.InvalidExpression p n (cause.Untranslated translation.NeedsIndices))) =
      subst (λ (y : WideExpressionError). WidePartsEnd false r second.parsed (Err (error.InvalidExpression p n y))) (need_of p n x needs)
      (subst (λ (o : Policy). WidePartsEnd false r o (Err (error.InvalidExpression p n x))) same first.end) in
      let are : AreWrapped r second.parsed second.parts = record {
        part = p;
        place = n;
        needed = end;
        end = second.end;
        tabled = tabled (wide_tree_of second.parts) (has_tree true r second.parsed second.parts second.end q.source second.is.source);
      } in
      record {
        parsed = second.parsed;
        is_said = second.is_said;
        parts = second.parts;
        taken = subst (λ (w : Bool). ArePartsTaken w r second.parsed second.parts) (sym second.is.wrapped_is) are;
        source = second.is.source;
        profile = second.is.profile;
        left_out = second.is.left_out;
      }

  wrapped_read : (e : WidePolicyError) (p q : WidePolicy) → ReadsWide false r document (Err e) → needs_indices e ≡ true → ReadsWide true r document (Ok p) → ReturnsTabled p (Some q)
      → WidePolicyReturns r document (Ok q)
  wrapped_read (error.Unread e) p q first needs second tabled = absurd (false≢true needs)
  wrapped_read error.HasAuditAnnotations p q first needs second tabled = absurd (false≢true needs)
  wrapped_read (error.InvalidExpression k n x) p q first needs second tabled =
      subst (λ (o : WidePolicy). IsWidePolicy r document o) tabled.0 (wrapped_by k n x p first needs second tabled.1)
  wrapped_read error.Memory p q first needs second tabled = absurd (false≢true needs)

  -- the first refusal stays, if no parts are taken with a table
  stays : (e : WidePolicyError) → ReadsWide false r document (Err e) → needs_indices e ≡ true
      → ((parsed : Policy) → wide_policy_in document ≡ Ok parsed → (parts : TakenParts) → AreWrapped r parsed parts → ⊥) → WidePolicyReturns r document (Err e)
  stays (error.Unread e) first needs none = first
  stays error.HasAuditAnnotations first needs none = first
  stays (error.InvalidExpression p n x) first needs none = record { parsed = first.parsed; is_said = first.is_said; end = first.end; unmended = none first.parsed first.is_said }
  stays error.Memory first needs none = tt

  untabled_stays : (e : WidePolicyError) (p : WidePolicy) → ReadsWide false r document (Err e) → needs_indices e ≡ true → ReadsWide true r document (Ok p) → ReturnsTabled p None
      → WidePolicyReturns r document (Err e)
  untabled_stays e p first needs second untabled = stays e first needs (λ parsed said parts is.
      let same : second.parsed ≡ parsed = ok_once _ _ (sym second.is_said ∙ said) in
      let end : WidePartsEnd true r parsed (Ok second.parts) = subst (λ (o : Policy). WidePartsEnd true r o (Ok second.parts)) same second.end in
      let source : p.source ≡ source_of parsed parts = second.is.source ∙ ap (λ (o : Policy). source_of o second.parts) same ∙ same_source true r parsed second.parts parts end is.end in
      true≢false (sym is.tabled ∙ untabled (wide_tree_of parts) (has_tree true r parsed parts is.end p.source source)))

  pub refused_stays : (e f : WidePolicyError) → ReadsWide false r document (Err e) → needs_indices e ≡ true → ReadsWide true r document (Err f)
      → WidePolicyReturns r document (Err (first_refusal f e))
  refused_stays e (error.Unread f) first needs second = stays e first needs (λ parsed said parts is. let both : Ok parsed ≡ Err (error.Unread f) = sym said ∙ second in absurd (cc))
  refused_stays e error.HasAuditAnnotations first needs second = stays e first needs (λ parsed said parts is. let both : Ok parsed ≡ Err error.HasAuditAnnotations = sym said ∙ second in absurd (cc))
  refused_stays e (error.InvalidExpression p n x) first needs second = stays e first needs (λ parsed said parts is.
      let same : second.parsed ≡ parsed = ok_once _ _ (sym second.is_said ∙ said) in
      no_refusal true r parsed parts (Err (error.InvalidExpression p n x)) (error.InvalidExpression p n x) is.end
      (subst (λ (o : Policy). WidePartsEnd true r o (Err (error.InvalidExpression p n x))) same second.end) refl)
  refused_stays e error.Memory first needs second = tt

  -- the result with a table, after the first refusal
  pub either_read : (e : WidePolicyError) (p : WidePolicy) (x : Result WidePolicy WidePolicyError) → ReadsWide false r document (Err e) → needs_indices e ≡ true → ReadsWide true r document (Ok p)
      → IsTabledOr p e x → WidePolicyReturns r document x
  either_read e p (Ok q) first needs second said = wrapped_read e p q first needs second said
  either_read e p (Err error.Memory) first needs second said = tt
  either_read e p (Err (error.Unread f)) first needs second said =
      subst (λ (g : WidePolicyError). WidePolicyReturns r document (Err g)) (sym said.0) (untabled_stays e p first needs second said.1)
  either_read e p (Err error.HasAuditAnnotations) first needs second said =
      subst (λ (g : WidePolicyError). WidePolicyReturns r document (Err g)) (sym said.0) (untabled_stays e p first needs second said.1)
  either_read e p (Err (error.InvalidExpression k n y)) first needs second said =
      subst (λ (g : WidePolicyError). WidePolicyReturns r document (Err g)) (sym said.0) (untabled_stays e p first needs second said.1)
