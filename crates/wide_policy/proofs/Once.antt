-- A document holds one policy, or is refused.
use Rattle.std.proofs.Common.{◌≡◌, ◌≢◌, ◌∙◌, ℕ, suc, zero, Bool, true, false, true≢false, List, [], ◌∷◌, ◌++◌, length, take, drop, map, Option, Some, None, option_map, Result, Ok, Err, refl, sym, ap, subst}
use Rattle.std.proofs.lemmas.List.{take-append-drop}
use Rattle.cel_tokens.specs.declared.read_error.ReadError.{ReadError}
use Rattle.cel_tokens.specs.declared.read_error.ReadError.TheVariants as read_error
use Rattle.wide_tokens.specs.Lexis.{WideLexes}
use Rattle.wide_tokens.specs.Token.{WideToken, WideWord, bytes, double}
use Rattle.wide_tokens.proofs.OneReading.{one_end}
use Rattle.cel_reader.specs.Tree.{Tree}
use Rattle.cel_writer.specs.Printed.{printed}
use Rattle.cel_writer.specs.Writing.{IsReadBack}
use Rattle.wide_reader.specs.Answers.{AreSupported, IsWide, IsWideExpression, UnsupportedAt, WideIsViablePrefix}
use Rattle.wide_reader.specs.Faults.{fault}
use Rattle.wide_reader.specs.Grammar.{Expression, One, WideDerives}
use Rattle.wide_reader.specs.Limits.{open_limit}
use Rattle.wide_reader.specs.Look.{words_only}
use Rattle.wide_reader.specs.Tree.{Wide}
use Rattle.wide_reader.specs.Words.{is_unsupported}
use Rattle.wide_reader.specs.declared.wide_error.WideReadError.{WideReadError}
use Rattle.wide_reader.specs.declared.wide_error.WideReadError.TheVariants as wide_read
use Rattle.wide_reader.proofs.Told.{one_formed, one_list, one_wide}
use Rattle.wide_kinds.specs.declared.kind.Kind.{Kind}
use Rattle.wide_translation.specs.Carried.{Translation, plain, guarded, listed, taken as is_taken, refused as is_refused}
use Rattle.wide_translation.specs.Declarations.{IsTranslatedTo, fault_of}
use Rattle.wide_translation.specs.Placed.{WideStep, kind_of}
use Rattle.wide_translation.specs.Translated.{translated}
use Rattle.wide_translation.specs.declared.translation_error.TranslationError.{TranslationError}
use Rattle.wide_translation.specs.declared.translation_error.TranslationError.TheVariants as translation_error
use Rattle.policy_glue.specs.Policy.{NamedExpression, Validation, Policy}
use Rattle.policy_glue.specs.declared.part_kind.PartKind.{PartKind}
use Rattle.policy_glue.specs.declared.part_kind.PartKind.TheVariants as part
use Rattle.wide_policy.proofs.Trees.{parts_hold}
use Rattle.wide_policy.specs.Carrying.{EachPair}
use Rattle.wide_policy.specs.Depth.{is_too_deep}
use Rattle.wide_policy.specs.Laws.{HasSameTexts}
use Rattle.wide_policy.specs.Reading.{ArePartsTaken, AreWrapped, IsWidePolicy, WidePolicyReturns}
use Rattle.wide_policy.specs.Taking.{Visible, visible, TakenExpression, IsTranslated, scope_for, IsTakenPart, IsRefusedPart, IsUnreadWide, RefusesPart, EndsWith, TakesNamed, TakesWideVariable, RefusesWideVariable, TakesWideCondition, RefusesWideCondition, TakenValidation, TakesWideMessage, TakesWideValidation, RefusesWideValidation, TakenParts, WidePartsEnd, expression_of, fits, kept_text, profile_named, profile_of, profile_validation, source_of}
use Rattle.wide_policy.specs.Taking as taking
use Rattle.wide_policy.specs.WideDocuments.{wide_policy_in}
use Rattle.wide_policy.specs.declared.expression_error.WideExpressionError.{WideExpressionError}
use Rattle.wide_policy.specs.declared.expression_error.WideExpressionError.TheVariants as error
use Rattle.wide_policy.specs.declared.message_rule.MessageRule.{MessageRule}
use Rattle.wide_policy.specs.declared.message_rule.MessageRule.TheVariants as rule
use Rattle.wide_policy.specs.declared.policy.WidePolicy.{WidePolicy}
use Rattle.wide_policy.specs.declared.wide_policy_error.WidePolicyError.{WidePolicyError}
use Rattle.wide_policy.specs.declared.wide_policy_error.WidePolicyError.TheVariants as wide_error

-- ---- texts

-- supported words have no unsupported one
not_supported : (w x : WideWord) → is_unsupported w ≡ true → x ∷ [] ≡ w ∷ [] → is_unsupported x ≡ false → ⊥
not_supported w x u e s = let f : x ≡ w = cc in true≢false (sym u ∙ ap is_unsupported (sym f) ∙ s)

none_foreign : (w : WideWord) (count : ℕ) (ws : List WideWord) → is_unsupported w ≡ true → take (suc count) ws ≡ take count ws ++ w ∷ [] → AreSupported ws → ⊥
none_foreign w zero [] u e s = absurd cc
none_foreign w (suc n) [] u e s = absurd cc
none_foreign w zero (x ∷ ws) u e s = not_supported w x u e s.0
none_foreign w (suc n) (x ∷ ws) u e s = let f : take (suc n) ws ≡ take n ws ++ w ∷ [] = cc in none_foreign w n ws u f s.1

-- the first words of an expression can be extended to one
begun : (ws : List WideWord) (n : ℕ) (a : Wide) → IsWideExpression open_limit ws a → WideIsViablePrefix open_limit (take n ws)
begun ws n a d = (drop n ws, a, subst (λ (us : List WideWord). WideDerives Expression open_limit us (One a) []) (sym (take-append-drop n ws)) d)

not_cut : (source : List ℕ) (w : Wide) (e : ReadError) → IsWide source w → WideLexes source (Err e) → ⊥
not_cut source w e is cut = let same = one_end source (Ok is.0.0) (Err e) is.0.1 cut in absurd cc

not_foreign : (source : List ℕ) (w : Wide) (x : WideWord) (ls : List WideToken) (count : ℕ) → is_unsupported x ≡ true → IsWide source w → WideLexes source (Ok ls) → UnsupportedAt x count (words_only ls) → ⊥
not_foreign source w x ls count u is lexes at =
    let same = one_list source is.0.0 ls is.0.1 lexes in
    none_foreign x count (words_only ls) u at.1 (subst (λ (ms : List WideToken). AreSupported (words_only ms)) same is.0.2.0)

-- a text that is an expression is not refused
pub read_text : (source : List ℕ) (w : Wide) (e : WideReadError) → IsWide source w → IsUnreadWide source e → ⊥
read_text source w (wide_read.Text read_error.Memory) is why = why
read_text source w (wide_read.Text (read_error.UnknownCharacter place)) is why = not_cut source w (read_error.UnknownCharacter place) is why
read_text source w (wide_read.Text (read_error.InvalidTextLiteral place)) is why = not_cut source w (read_error.InvalidTextLiteral place) is why
read_text source w (wide_read.Text (read_error.IntOutOfRange place)) is why = not_cut source w (read_error.IntOutOfRange place) is why
read_text source w (wide_read.Text (read_error.TextTooLong place)) is why = not_cut source w (read_error.TextTooLong place) is why
read_text source w (wide_read.Text (read_error.UnexpectedToken place)) is why =
    let same = one_list source is.0.0 why.0 is.0.1 why.1 in
    why.2.2.4 open_limit w (subst (λ (ms : List WideToken). IsWideExpression open_limit (words_only ms) w) same is.0.2.1)
read_text source w (wide_read.Text (read_error.TooManyOpen place)) is why =
    let same = one_list source is.0.0 why.0 is.0.1 why.1 in
    why.2.2.5 (begun (words_only why.0) (suc why.2.0) w (subst (λ (ms : List WideToken). IsWideExpression open_limit (words_only ms) w) same is.0.2.1))
read_text source w (wide_read.Bytes place) is why = not_foreign source w bytes why.0 why.2.0 refl is why.1 why.2.2
read_text source w (wide_read.Double place) is why = not_foreign source w double why.0 why.2.0 refl is why.1 why.2.2
read_text source w (wide_read.Macro f) is why =
    let same = one_formed source w why.0 is.0 why.1 in
    let none : None ≡ Some f = sym is.1 ∙ ap fault same ∙ why.2 in absurd cc

-- ---- one expression

-- a translation has one kind and one tree
one_taken : (t : Translation) (k j : Kind) (a b : Tree) → IsTranslatedTo t k a → IsTranslatedTo t j b → (k ≡ j) × (a ≡ b)
one_taken (is_taken (plain v t)) k j a b is also = (is.0 ∙ sym also.0, is.1 ∙ sym also.1)
one_taken (is_taken (guarded v g t)) k j a b is also = (is.0 ∙ sym also.0, is.1 ∙ sym also.1)
one_taken (is_taken (listed v l)) k j a b is also = (is.0 ∙ sym also.0, is.1 ∙ sym also.1)
one_taken (is_refused f) k j a b is also = absurd is

module _ (p : PartKind) (seen : Visible) (text : List ℕ) where
  one_translated : (x y : TakenExpression) → IsTranslated p seen text x → IsTranslated p seen text y → x ≡ y
  one_translated x y is also =
      let wide : x.wide ≡ y.wide = one_wide text x.wide y.wide is.reads also.reads in
      let both = one_taken (translated (scope_for p seen) y.wide) x.kind y.kind x.tree y.tree
      (subst (λ (w : Wide). IsTranslatedTo (translated (scope_for p seen) w) x.kind x.tree) wide is.translation) also.translation in
      λ i. record { wide = wide i; kind = both.0 i; tree = both.1 i }

  pub not_untranslated : (x : TakenExpression) (w : Wide) (e : TranslationError) → IsTranslated p seen text x → IsWide text w → translated (scope_for p seen) w ≡ is_refused (fault_of e) → ⊥
  not_untranslated x w e is reads unsaid =
      let wide : x.wide ≡ w = one_wide text x.wide w is.reads reads in
      subst (λ (t : Translation). IsTranslatedTo t x.kind x.tree) (ap (translated (scope_for p seen)) wide ∙ unsaid) is.translation

  pub one_part : (x y : TakenExpression) → IsTakenPart p seen text x → IsTakenPart p seen text y → x ≡ y
  one_part x y is also = one_translated x y is.is also.is

  -- a part that is taken is not refused
  pub taken_part : (x : TakenExpression) (e : WideExpressionError) → IsTakenPart p seen text x → IsRefusedPart p seen text e → ⊥
  taken_part x (error.Unread e) is why = read_text text x.wide e is.is.reads why
  taken_part x error.TooDeep is why =
      let wide : x.wide ≡ why.0 = one_wide text x.wide why.0 is.is.reads why.1 in
      true≢false (sym why.2 ∙ ap is_too_deep (sym wide) ∙ is.is.shallow)
  taken_part x (error.Untranslated e) is why = not_untranslated x why.1 e is.is why.2 why.4
  taken_part x error.OptionalResult is why =
      let same = one_translated x why.0 is.is why.1 in
      true≢false (sym is.fit ∙ ap (λ (y : TakenExpression). fits p y.kind) same ∙ why.2)
  taken_part x error.Unwritten is why =
      let same = one_translated x why.0 is.is why.1 in
      why.3 (subst (λ (y : TakenExpression). IsReadBack y.tree) same is.written)
  taken_part x error.Memory is why = why

  pub taken_place : (x : TakenExpression) (place : ℕ) (e : WidePolicyError) → IsTakenPart p seen text x → RefusesPart p seen place text e → ⊥
  taken_place x place e is why = taken_part x why.cause is why.because

-- ---- lists of parts

module _ {A B : Type 0} (Takes : List B → A → B → Type 0) (Refuses : List B → A → WidePolicyError → Type 0)
    (once : (taken : List B) (n : A) (a b : B) → Takes taken n a → Takes taken n b → a ≡ b)
    (apart : (taken : List B) (n : A) (b : B) (e : WidePolicyError) → Takes taken n b → Refuses taken n e → ⊥) where
  one_by : (taken : List B) (ns : List A) (xs : List B) (r s : Result (List B) WidePolicyError) → EndsWith Takes Refuses taken ns r → r ≡ Ok xs → EndsWith Takes Refuses taken ns s → s ≡ Ok xs
  one_by taken [] xs r s taking.over is taking.over = is
  one_by taken (n ∷ ns) xs r s (taking.refused e why) is also = absurd (cc)
  one_by taken (n ∷ ns) xs r s (taking.next b takes rest) is (taking.refused e why) = absurd (apart taken n b e takes why)
  one_by taken (n ∷ ns) xs r s (taking.next b takes rest) is (taking.next c other more) =
      let same = once taken n c b other takes in
      one_by (taken ++ b ∷ []) ns xs r s rest is (subst (λ (d : B). EndsWith Takes Refuses (taken ++ d ∷ []) ns s) same more)

  -- parts that are all taken end in one list
  pub one_list_taken : (ns : List A) (xs : List B) (s : Result (List B) WidePolicyError) → EndsWith Takes Refuses [] ns (Ok xs) → EndsWith Takes Refuses [] ns s → s ≡ Ok xs
  one_list_taken ns xs s ends also = one_by [] ns xs (Ok xs) s ends refl also

module _ {A B : Type 0} (Takes : A → B → Type 0) (Refuses : ℕ → A → WidePolicyError → Type 0)
    (apart : (place : ℕ) (n : A) (b : B) (e : WidePolicyError) → Takes n b → Refuses place n e → ⊥) where
  none_refused_by : (taken others : List B) (ns : List A) (r s : Result (List B) WidePolicyError) (xs : List B) (e : WidePolicyError)
      → EndsWith (λ before n b. Takes n b) (λ before n f. Refuses (length before) n f) taken ns r → r ≡ Ok xs
      → EndsWith (λ before n b. Takes n b) (λ before n f. Refuses (length before) n f) others ns s → s ≡ Err e → ⊥
  none_refused_by taken others [] r s xs e taking.over is taking.over also = absurd (cc)
  none_refused_by taken others (n ∷ ns) r s xs e (taking.refused f why) is so also = absurd (cc)
  none_refused_by taken others (n ∷ ns) r s xs e (taking.next b takes rest) is (taking.refused f why) also = apart (length others) n b f takes why
  none_refused_by taken others (n ∷ ns) r s xs e (taking.next b takes rest) is (taking.next c other more) also =
      none_refused_by (taken ++ b ∷ []) (others ++ c ∷ []) ns r s xs e rest is more also

-- ---- variables and conditions

module _ (p : PartKind) (seen : Visible) (n : NamedExpression) where
  one_named : (a b : WideStep) → TakesNamed p seen n a → TakesNamed p seen n b → a ≡ b
  one_named a b is also =
      let name : a.name ≡ b.name = is.name ∙ sym also.name in
      let same = one_part p seen n.expression (expression_of a) (expression_of b) is.expression also.expression in
      λ i. record { name = name i; wide = (same i).wide; kind = (same i).kind; tree = (same i).tree }

  taken_named : (a : WideStep) (place : ℕ) (e : WidePolicyError) → TakesNamed p seen n a → RefusesPart p seen place n.expression e → ⊥
  taken_named a place e is why = taken_place p seen n.expression (expression_of a) place e is.expression why

module _ (wrapped : Bool) where
  pub one_step : (taken : List WideStep) (n : NamedExpression) (a b : WideStep) → TakesWideVariable wrapped taken n a → TakesWideVariable wrapped taken n b → a ≡ b
  one_step taken n a b is also = one_named part.Variable (visible wrapped (map kind_of taken)) n a b is also

  pub taken_step : (taken : List WideStep) (n : NamedExpression) (a : WideStep) (e : WidePolicyError) → TakesWideVariable wrapped taken n a → RefusesWideVariable wrapped taken n e → ⊥
  taken_step taken n a e is why = taken_named part.Variable (visible wrapped (map kind_of taken)) n a (length taken) e is why

  pub one_condition : (taken : List WideStep) (n : NamedExpression) (a b : WideStep) → TakesWideCondition wrapped taken n a → TakesWideCondition wrapped taken n b → a ≡ b
  one_condition taken n a b is also = one_named part.Condition (visible wrapped []) n a b is also

  pub taken_condition : (taken : List WideStep) (n : NamedExpression) (a : WideStep) (e : WidePolicyError) → TakesWideCondition wrapped taken n a → RefusesWideCondition wrapped taken n e → ⊥
  taken_condition taken n a e is why = taken_named part.Condition (visible wrapped []) n a (length taken) e is why

  pub one_variables : (ns : List NamedExpression) (vs : List WideStep) (s : Result (List WideStep) WidePolicyError) → taking.WideVariablesEnd wrapped ns (Ok vs)
      → taking.WideVariablesEnd wrapped ns s → s ≡ Ok vs
  one_variables ns vs s is also = one_list_taken (TakesWideVariable wrapped) (RefusesWideVariable wrapped) one_step taken_step ns vs s is also

  pub one_conditions : (ns : List NamedExpression) (cs : List WideStep) (s : Result (List WideStep) WidePolicyError) → taking.WideConditionsEnd wrapped ns (Ok cs)
      → taking.WideConditionsEnd wrapped ns s → s ≡ Ok cs
  one_conditions ns cs s is also = one_list_taken (TakesWideCondition wrapped) (RefusesWideCondition wrapped) one_condition taken_condition ns cs s is also

-- ---- validations

module _ (r : MessageRule) (seen : Visible) where
  no_cause : (y : Option TakenExpression) (f : WideExpressionError) → TakesWideMessage r seen None y (Some f) → ⊥
  no_cause None f is = is
  no_cause (Some y) f is = is

  -- two message expressions of one text are kept or left out together
  one_message : (text : Option (List ℕ)) (x y : Option TakenExpression) (e f : Option WideExpressionError) → TakesWideMessage r seen text x e → TakesWideMessage r seen text y f
      → (x ≡ y) × (kept_text e text ≡ kept_text f text)
  one_message None None None None None is also = (refl, refl)
  one_message None None y None (Some f) is also = absurd (no_cause y f also)
  one_message None None (Some y) None None is also = absurd also
  one_message None None y (Some e) f is also = absurd is
  one_message None (Some x) y None f is also = absurd is
  one_message None (Some x) y (Some e) f is also = absurd is
  one_message (Some text) None y None f is also = absurd is
  one_message (Some text) (Some x) y (Some e) f is also = absurd is
  one_message (Some text) (Some x) (Some y) None None is also = (ap Some (one_part part.Message seen text x y is also), refl)
  one_message (Some text) (Some x) None None (Some f) is also = absurd (taken_part part.Message seen text x f is also.1)
  one_message (Some text) (Some x) None None None is also = absurd also
  one_message (Some text) (Some x) (Some y) None (Some f) is also = absurd also
  one_message (Some text) None (Some y) (Some e) None is also = absurd (taken_part part.Message seen text y e also is.1)
  one_message (Some text) None None (Some e) (Some f) is also = (refl, refl)
  one_message (Some text) None None (Some e) None is also = absurd also
  one_message (Some text) None (Some y) (Some e) (Some f) is also = absurd also

  one_source : (n : Validation) (a b : TakenValidation) → TakesWideValidation r seen n a → TakesWideValidation r seen n b → a.source ≡ b.source
  one_source n a b is also =
      let same = one_message n.message_expression a.message b.message a.left_out b.left_out is.message also.message in
      is.source ∙ ap (λ (text : Option (List ℕ)). record n { message_expression = text }) same.1 ∙ sym also.source

  one_profile : (n : Validation) (a b : TakenValidation) → TakesWideValidation r seen n a → TakesWideValidation r seen n b → profile_validation a ≡ profile_validation b
  one_profile n a b is also =
      let source = one_source n a b is also in
      let tree = one_part part.Validation seen n.expression a.expression b.expression is.expression also.expression in
      let message = (one_message n.message_expression a.message b.message a.left_out b.left_out is.message also.message).0 in
      λ i. record {
        expression = printed (tree i).tree;
        message = (source i).message;
        reason = (source i).reason;
        message_expression = option_map (λ (x : TakenExpression). printed x.tree) (message i);
      }

  taken_message : (text : List ℕ) (x : Option TakenExpression) (e : Option WideExpressionError) (f : WidePolicyError) (place : ℕ) → r ≡ rule.Required → RefusesPart part.Message seen place text f
      → TakesWideMessage r seen (Some text) x e → ⊥
  taken_message text (Some x) None f place required why is = taken_place part.Message seen text x place f is why
  taken_message text None (Some e) f place required why is = let both : rule.Required ≡ rule.LeftOut = sym required ∙ is.0 in absurd (cc)
  taken_message text None None f place required why is = is
  taken_message text (Some x) (Some e) f place required why is = is

  pub taken_validation : (place : ℕ) (n : Validation) (a : TakenValidation) (e : WidePolicyError) → TakesWideValidation r seen n a → RefusesWideValidation r seen place n e → ⊥
  taken_validation place n a e is (taking.expression f why) = taken_place part.Validation seen n.expression a.expression place f is.expression why
  taken_validation place n a e is (taking.message x text f required other has why) =
      taken_message text a.message a.left_out f place required why (subst (λ (t : Option (List ℕ)). TakesWideMessage r seen t a.message a.left_out) has is.message)

-- lists of such pairs have equal values too
same_each : {A B C : Type 0} (P : A → B → Type 0) (f : B → C) → ((a : A) (b c : B) → P a b → P a c → f b ≡ f c) → (xs : List A) (ys zs : List B) → EachPair P xs ys → EachPair P xs zs
    → map f ys ≡ map f zs
same_each P f same [] [] [] h k = refl
same_each P f same [] [] (z ∷ zs) h k = absurd k
same_each P f same [] (y ∷ ys) zs h k = absurd h
same_each P f same (x ∷ xs) [] zs h k = absurd h
same_each P f same (x ∷ xs) (y ∷ ys) [] h k = absurd k
same_each P f same (x ∷ xs) (y ∷ ys) (z ∷ zs) h k = λ i. same x y z h.0 k.0 i ∷ same_each P f same xs ys zs h.1 k.1 i

-- ---- policies

variables_of : (wrapped : Bool) (r : MessageRule) (p : Policy) (parts : TakenParts) (end : Result TakenParts WidePolicyError) → WidePartsEnd wrapped r p end → end ≡ Ok parts → taking.WideVariablesEnd wrapped p.variables (Ok parts.variables)
variables_of wrapped r p parts end (taking.taken vs cs rs v c s) e =
    let same : record { variables = vs; conditions = cs; validations = rs } ≡ parts = cc in
    subst (λ (t : TakenParts). taking.WideVariablesEnd wrapped p.variables (Ok t.variables)) same v
variables_of wrapped r p parts end other e = absurd (cc)

conditions_of : (wrapped : Bool) (r : MessageRule) (p : Policy) (parts : TakenParts) (end : Result TakenParts WidePolicyError) → WidePartsEnd wrapped r p end → end ≡ Ok parts → taking.WideConditionsEnd wrapped p.conditions (Ok parts.conditions)
conditions_of wrapped r p parts end (taking.taken vs cs rs v c s) e =
    let same : record { variables = vs; conditions = cs; validations = rs } ≡ parts = cc in
    subst (λ (t : TakenParts). taking.WideConditionsEnd wrapped p.conditions (Ok t.conditions)) same c
conditions_of wrapped r p parts end other e = absurd (cc)

validations_of : (wrapped : Bool) (r : MessageRule) (p : Policy) (parts : TakenParts) (end : Result TakenParts WidePolicyError) → WidePartsEnd wrapped r p end → end ≡ Ok parts
    → taking.WideValidationsEnd r (visible wrapped (map kind_of parts.variables)) p.validations (Ok parts.validations)
validations_of wrapped r p parts end (taking.taken vs cs rs v c s) e =
    let same : record { variables = vs; conditions = cs; validations = rs } ≡ parts = cc in
    subst (λ (t : TakenParts). taking.WideValidationsEnd r (visible wrapped (map kind_of t.variables)) p.validations (Ok t.validations)) same s
validations_of wrapped r p parts end other e = absurd (cc)

pub ok_once : {A E : Type 0} (x y : A) → ◌≡◌ {A = Result A E} (Ok x) (Ok y) → x ≡ y
ok_once x y is = cc

module _ (wrapped : Bool) (r : MessageRule) (p : Policy) (a b : TakenParts) (is : WidePartsEnd wrapped r p (Ok a)) (also : WidePartsEnd wrapped r p (Ok b)) where
  same_variables : a.variables ≡ b.variables
  same_variables = ok_once _ _ (one_variables wrapped p.variables b.variables (Ok a.variables) (variables_of wrapped r p b (Ok b) also refl) (variables_of wrapped r p a (Ok a) is refl))

  same_conditions : a.conditions ≡ b.conditions
  same_conditions = ok_once _ _ (one_conditions wrapped p.conditions b.conditions (Ok a.conditions) (conditions_of wrapped r p b (Ok b) also refl) (conditions_of wrapped r p a (Ok a) is refl))

  pairs : EachPair (TakesWideValidation r (visible wrapped (map kind_of b.variables))) p.validations a.validations
  pairs = subst (λ (vs : List WideStep). EachPair (TakesWideValidation r (visible wrapped (map kind_of vs))) p.validations a.validations) same_variables (parts_hold wrapped r p a is).validations

  pub same_source : source_of p a ≡ source_of p b
  same_source =
      let same = same_each (TakesWideValidation r (visible wrapped (map kind_of b.variables))) (λ (v : TakenValidation). v.source) (λ n x y. one_source r (visible wrapped (map kind_of b.variables)) n x y)
      p.validations a.validations b.validations pairs (parts_hold wrapped r p b also).validations in
      λ i. record p { validations = same i }

  pub same_profile : profile_of p a ≡ profile_of p b
  same_profile =
      let same = same_each (TakesWideValidation r (visible wrapped (map kind_of b.variables))) profile_validation (λ n x y. one_profile r (visible wrapped (map kind_of b.variables)) n x y)
      p.validations a.validations b.validations pairs (parts_hold wrapped r p b also).validations in
      λ i. record {
        failure_policy = p.failure_policy;
        conditions = map profile_named (same_conditions i);
        variables = map profile_named (same_variables i);
        validations = same i;
      }

-- parts that are taken are not refused
pub no_refusal : (wrapped : Bool) (r : MessageRule) (p : Policy) (a : TakenParts) (end : Result TakenParts WidePolicyError) (e : WidePolicyError) → WidePartsEnd wrapped r p (Ok a) → WidePartsEnd wrapped r p end → end ≡ Err e → ⊥
no_refusal wrapped r p a end e is (taking.in_variables f ends) same =
    let both = one_variables wrapped p.variables a.variables (Err f) (variables_of wrapped r p a (Ok a) is refl) ends in absurd (cc)
no_refusal wrapped r p a end e is (taking.in_conditions vs f before ends) same =
    let both = one_conditions wrapped p.conditions a.conditions (Err f) (conditions_of wrapped r p a (Ok a) is refl) ends in absurd (cc)
no_refusal wrapped r p a end e is (taking.in_validations vs cs f before between ends) same =
    let variables = ok_once _ _ (one_variables wrapped p.variables a.variables (Ok vs) (variables_of wrapped r p a (Ok a) is refl) before) in
    none_refused_by (TakesWideValidation r (visible wrapped (map kind_of vs))) (λ place n g. RefusesWideValidation r (visible wrapped (map kind_of vs)) place n g) (taken_validation r (visible wrapped (map kind_of vs))) [] [] p.validations
    (Ok a.validations) (Err f) a.validations f
    (subst (λ (us : List WideStep). taking.WideValidationsEnd r (visible wrapped (map kind_of us)) p.validations (Ok a.validations)) (sym variables) (validations_of wrapped r p a (Ok a) is refl)) refl ends refl
no_refusal wrapped r p a end e is (taking.taken vs cs rs v c s) same = absurd (cc)

-- ---- the laws

-- parts that are taken without a table are not refused for their need of one
plain_apart : (r : MessageRule) (p : Policy) (a b : TakenParts) → WidePartsEnd false r p (Ok a) → AreWrapped r p b → ⊥
plain_apart r p a b is also = no_refusal false r p a (Err (wide_error.InvalidExpression also.part also.place (error.Untranslated translation_error.NeedsIndices)))
    (wide_error.InvalidExpression also.part also.place (error.Untranslated translation_error.NeedsIndices)) is also.needed refl

-- parts that are taken give the same policies
record GiveTheSame (p : Policy) (a b : TakenParts) : Type 0 where
  source : source_of p a ≡ source_of p b
  profile : profile_of p a ≡ profile_of p b

one_taken_as : (v w : Bool) (r : MessageRule) (p : Policy) (a b : TakenParts) → ArePartsTaken v r p a → ArePartsTaken w r p b → (v ≡ w) × GiveTheSame p a b
one_taken_as false false r p a b is also = (refl, record { source = same_source false r p a b is also; profile = same_profile false r p a b is also })
one_taken_as false true r p a b is also = absurd (plain_apart r p a b is also)
one_taken_as true false r p a b is also = absurd (plain_apart r p b a also is)
one_taken_as true true r p a b is also = (refl, record { source = same_source true r p a b is.end also.end; profile = same_profile true r p a b is.end also.end })

pub one_policy : (r : MessageRule) (document : List ℕ) (p q : WidePolicy) → IsWidePolicy r document p → IsWidePolicy r document q → HasSameTexts p q
one_policy r document p q is also =
    let parsed : is.parsed ≡ also.parsed = ok_once _ _ (sym is.is_said ∙ also.is_said) in
    let taken = subst (λ (o : Policy). ArePartsTaken p.wrapped r o is.parts) parsed is.taken in
    let same = one_taken_as p.wrapped q.wrapped r also.parsed is.parts also.parts taken also.taken in
    record {
      wrapped = same.0;
      source = is.source ∙ ap (λ (o : Policy). source_of o is.parts) parsed ∙ same.1.source ∙ sym also.source;
      profile = is.profile ∙ ap (λ (o : Policy). profile_of o is.parts) parsed ∙ same.1.profile ∙ sym also.profile;
    }

refused_document : (document : List ℕ) (parsed : Policy) (e : WidePolicyError) → wide_policy_in document ≡ Ok parsed → wide_policy_in document ≡ Err e → ⊥
refused_document document parsed e is also = let both : Ok parsed ≡ Err e = sym is ∙ also in absurd (cc)

not_refused_as : (w : Bool) (r : MessageRule) (p : Policy) (a : TakenParts) (e : WidePolicyError) → ArePartsTaken w r p a → WidePartsEnd false r p (Err e) → ((b : TakenParts) → AreWrapped r p b → ⊥) → ⊥
not_refused_as false r p a e is end none = no_refusal false r p a (Err e) e is end refl
not_refused_as true r p a e is end none = none a is

pub not_refused : (r : MessageRule) (document : List ℕ) (p : WidePolicy) (e : WidePolicyError) → e ≢ wide_error.Memory → IsWidePolicy r document p → WidePolicyReturns r document (Err e) → ⊥
not_refused r document p (wide_error.Unread e) some is why = refused_document document is.parsed (wide_error.Unread e) is.is_said why
not_refused r document p wide_error.HasAuditAnnotations some is why = refused_document document is.parsed wide_error.HasAuditAnnotations is.is_said why
not_refused r document p (wide_error.InvalidExpression k n x) some is why =
    let parsed : is.parsed ≡ why.parsed = ok_once _ _ (sym is.is_said ∙ why.is_said) in
    not_refused_as p.wrapped r why.parsed is.parts (wide_error.InvalidExpression k n x) (subst (λ (o : Policy). ArePartsTaken p.wrapped r o is.parts) parsed is.taken) why.end why.unmended
not_refused r document p wide_error.Memory some is why = some refl
