-- Proof obligations of `opening::wide_standing`.
use Rattle.admission.specs.Deciding.{IsWideRefused, OpensWideGate}
use Rattle.admission.specs.declared.language.Language.TheVariants.{Wide}
use Rattle.admission.specs.declared.wide_refusal.WideRefusal.{WideRefusal}
use Rattle.admission.specs.declared.wide_refusal.WideRefusal.TheVariants as wide_refusal
use Rattle.cluster_gate.specs.Gates.{notes, refused}
use Rattle.cluster_gate.proofs.Prelude.{Err, refl, subst}
use Rattle.cluster_gate.proofs.opening.wide_standing.Goals as goal

pub returns-in_ok-standing_of-in-Ok : goal.returns-in_ok-standing_of-in-Ok
returns-in_ok-standing_of-in-Ok c p is = record {
  stands = c.in_ok-standing_of-in-Ok.ensures (Wide c.args.rule) p (record {
    text = c.args.text.now;
    has_text = is;
    of_policy = ((_, c.in-Ok.ensures.opens.is_said), c.in-Ok.ensures.opens.compiled);
    image = c.in-Ok.ensures.one;
  });
  leaves = notes _ _ _ _ refl is c.in-Ok.ensures.opens.is_said;
}

pub returns-in-Err-Unread : goal.returns-in-Err-Unread
returns-in-Err-Unread c p is =
    let why : IsWideRefused c.args.rule c.args.text.now (wide_refusal.Unread c.in-Err-Unread.error) =
    subst (λ (e : WideRefusal). OpensWideGate c.args.rule c.args.text.now (Err e)) c.in-Err-Unread.field-0-is c.in-Err-Unread.ensures.opens in
    record {
      stands = λ s lacks. record { text = c.args.text.now; has_text = is; refused = why };
      leaves = rw c.new-in-Err-Unread.ensures.items (refused (wide_refusal.Unread c.in-Err-Unread.error) refl is why);
    }

pub returns-in-Err-Uncompiled : goal.returns-in-Err-Uncompiled
returns-in-Err-Uncompiled c p is =
    let why : IsWideRefused c.args.rule c.args.text.now (wide_refusal.Uncompiled c.in-Err-Uncompiled.error) =
    subst (λ (e : WideRefusal). OpensWideGate c.args.rule c.args.text.now (Err e)) c.in-Err-Uncompiled.field-0-is c.in-Err-Uncompiled.ensures.opens in
    record {
      stands = λ s lacks. record { text = c.args.text.now; has_text = is; refused = why };
      leaves = rw c.new-in-Err-Uncompiled.ensures.items (refused (wide_refusal.Uncompiled c.in-Err-Uncompiled.error) refl is why);
    }
