-- Proof obligations of `validations::some_message`.
use Rattle.std.proofs.Common.{Some, ap, refl}
use Rattle.wide_policy.proofs.Messages.{message_is, message_left}
use Rattle.wide_policy.proofs.validations.some_message.Goals as goal

pub returns-in_ok-from_str-in-Ok : goal.returns-in_ok-from_str-in-Ok
returns-in_ok-from_str-in-Ok c =
    message_is c.args.scope.now c.args.place c.args.text.now c.args.rule c.in-Ok.field-0-0 c.in-Ok.profile _ c.in-Ok.ensures (ap Some c.in_ok-from_str-in-Ok.ensures.ok) refl refl

pub returns-in-Err : goal.returns-in-Err
returns-in-Err c = message_left c.args.scope.now c.args.place c.args.text.now c.args.rule c.in-Err.error _ c.in-Err.ensures c.left_out.ensures
