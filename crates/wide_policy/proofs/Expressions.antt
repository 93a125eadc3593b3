-- Results on single expressions.
use Rattle.std.proofs.Common.{◌≡◌, ◌≢◌, ℕ, true, false, List, Result, Ok, Err, IsErr, refl, sym, ap, subst, arith, ◌∙◌, String, Global}
use Rattle.std.proofs.lemmas.Bool.{false≢true}
use Rattle.std.specs.Result.{IsErrAnd}
use Rattle.cel_tokens.specs.declared.read_error.ReadError.{ReadError}
use Rattle.cel_tokens.specs.declared.read_error.ReadError.TheVariants as read_error
use Rattle.cel_reader.specs.Tree.{view}
use Rattle.cel_writer.specs.Printed.{printed}
use Rattle.cel_writer.specs.Writing.{WritesBack, IsReadBack}
use Rattle.cel_writer.specs.declared.write_error.WriteError.{WriteError}
use Rattle.cel_writer.specs.declared.write_error.WriteError.TheVariants as write_error
use Rattle.wide_reader.specs.Answers.{IsWide, WideReadReturns}
use Rattle.wide_reader.specs.Tree.{Wide}
use Rattle.wide_reader.specs.declared.wide_error.WideReadError.{WideReadError}
use Rattle.wide_reader.specs.declared.wide_error.WideReadError.TheVariants as wide_read
use Rattle.wide_translation.specs.Declarations.{IsTranslation}
use Rattle.wide_translation.specs.Translated.{translated}
use Rattle.wide_translation.specs.declared.translated.Translated.{Translated}
use Rattle.wide_translation.specs.declared.translation_error.TranslationError.{TranslationError}
use Rattle.wide_translation.specs.declared.translation_error.TranslationError.TheVariants as translation
use Rattle.policy_glue.specs.declared.part_kind.PartKind.{PartKind}
use Rattle.wide_policy.specs.Depth.{is_too_deep}
use Rattle.wide_policy.specs.Errors.{from_reader, from_translation, from_writer, in_part}
use Rattle.wide_policy.specs.Returns.{ReturnsTranslation, ReturnsExpression, ReturnsPart}
use Rattle.wide_policy.specs.Taking.{Visible, IsRefusedPart, fits, scope_for}
use Rattle.wide_policy.specs.declared.expression_error.WideExpressionError.{WideExpressionError}
use Rattle.wide_policy.specs.declared.expression_error.WideExpressionError.TheVariants as error
use Rattle.wide_policy.specs.declared.wide_policy_error.WidePolicyError.{WidePolicyError}

-- an error that is returned unchanged
pub handed_on : {X E : Type 0} (Target : Result X E → Type 0) (e : E) (r : Result X E) → Target (Err e) → IsErr r → IsErrAnd r (λ x. x ≡ e) → Target r
handed_on Target e r here err is = grind (arith, false≢true)

module _ (p : PartKind) (s : Visible) (text : List ℕ) where
  -- the text is not an expression
  unread_text : (e : ReadError) → WideReadReturns text (Err (wide_read.Text e)) → ReturnsTranslation p s text (Err (from_reader (wide_read.Text e)))
  unread_text read_error.Memory said = λ some. absurd (some refl)
  unread_text (read_error.UnknownCharacter place) said = λ some. said
  unread_text (read_error.InvalidTextLiteral place) said = λ some. said
  unread_text (read_error.IntOutOfRange place) said = λ some. said
  unread_text (read_error.UnexpectedToken place) said = λ some. said
  unread_text (read_error.TooManyOpen place) said = λ some. said
  unread_text (read_error.TextTooLong place) said = λ some. said

  pub unread_by : (e : WideReadError) → WideReadReturns text (Err e) → ReturnsTranslation p s text (Err (from_reader e))
  unread_by (wide_read.Text e) said = unread_text e said
  unread_by (wide_read.Bytes place) said = λ some. said
  unread_by (wide_read.Double place) said = λ some. said
  unread_by (wide_read.Macro fault) said = λ some. said

  -- the expression is too deep
  pub too_deep_by : (w : Wide) → IsWide text w → is_too_deep w ≡ true → ReturnsTranslation p s text (Err error.TooDeep)
  too_deep_by w reads deep = λ some. (w, reads, deep)

  -- the expression has no translation
  pub untranslated_by : (w : Wide) (e : TranslationError) → IsWide text w → is_too_deep w ≡ false → IsTranslation (translated (scope_for p s) w) (Err e)
      → ReturnsTranslation p s text (Err (from_translation e))
  untranslated_by w translation.Memory reads shallow said = λ some. absurd (some refl)
  untranslated_by w (translation.UnknownName n) reads shallow said = λ some. (refl, w, reads, shallow, said refl)
  untranslated_by w translation.OptionalValue reads shallow said = λ some. (refl, w, reads, shallow, said refl)
  untranslated_by w (translation.TakenName n) reads shallow said = λ some. (refl, w, reads, shallow, said refl)
  untranslated_by w translation.UnsignedInt reads shallow said = λ some. (refl, w, reads, shallow, said refl)
  untranslated_by w translation.NeedsIndices reads shallow said = λ some. (refl, w, reads, shallow, said refl)
  untranslated_by w translation.OptionalEntry reads shallow said = λ some. (refl, w, reads, shallow, said refl)
  untranslated_by w translation.Unsupported reads shallow said = λ some. (refl, w, reads, shallow, said refl)

  pub translated_is : (w : Wide) (t : Translated) → IsWide text w → is_too_deep w ≡ false → IsTranslation (translated (scope_for p s) w) (Ok t) → ReturnsTranslation p s text (Ok t)
  translated_is w t reads shallow said =
      (record { wide = w; kind = t.kind; tree = view t.expression }, record { reads = reads; shallow = shallow; translation = said }, refl, refl)

  module _ (t : Translated) (one : ReturnsTranslation p s text (Ok t)) where
    pub optional_is : fits p t.kind ≡ false → IsRefusedPart p s text error.OptionalResult
    optional_is other = (one.0, one.1, ap (fits p) one.2 ∙ other)

    pub unwritten_by : (e : WriteError) → fits p t.kind ≡ true → WritesBack (view t.expression) (Err e) → from_writer e ≢ error.Memory → IsRefusedPart p s text (from_writer e)
    unwritten_by write_error.Memory fit said some = absurd (some refl)
    unwritten_by write_error.Unreadable fit said some = (one.0, one.1, ap (fits p) one.2 ∙ fit, λ written. said (subst IsReadBack one.3 written))

    pub expression_is : (written : String Global) → fits p t.kind ≡ true → WritesBack (view t.expression) (Ok written) → ReturnsExpression p s text (Ok (t.kind, written))
    expression_is written fit said = record {
      expression = one.0;
      taken = record { is = one.1; fit = ap (fits p) one.2 ∙ fit; written = subst IsReadBack (sym one.3) said.1 };
      kind_is = sym one.2;
      text_is = said.0 ∙ ap printed (sym one.3);
    }

  part_by : (place : ℕ) (e : WideExpressionError) → ReturnsExpression p s text (Err e) → ReturnsPart p place s text (Err (in_part p place e))
  part_by place (error.Unread e) said = λ some. record { cause = error.Unread e; because = said (λ is. cc); is = refl }
  part_by place error.TooDeep said = λ some. record { cause = error.TooDeep; because = said (λ is. cc); is = refl }
  part_by place (error.Untranslated e) said = λ some. record { cause = error.Untranslated e; because = said (λ is. cc); is = refl }
  part_by place error.OptionalResult said = λ some. record { cause = error.OptionalResult; because = said (λ is. cc); is = refl }
  part_by place error.Unwritten said = λ some. record { cause = error.Unwritten; because = said (λ is. cc); is = refl }
  part_by place error.Memory said = λ some. absurd (some refl)

  pub part_refused : (place : ℕ) (e : WideExpressionError) (x : WidePolicyError) → ReturnsExpression p s text (Err e) → x ≡ in_part p place e
      → ReturnsPart p place s text (Err x)
  part_refused place e x said is = subst (λ (y : WidePolicyError). ReturnsPart p place s text (Err y)) (sym is) (part_by place e said)
