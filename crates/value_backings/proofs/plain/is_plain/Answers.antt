use Rattle.json.proofs.Printed.Plain.{escape_on_plain}
use Rattle.value_backings.proofs.plain.is_plain.Goals as goal

pub returns-then-text-lt8 : goal.returns-then-text-lt8
returns-then-text-lt8 c = escape_on_plain c.plain_few.result c.args.text.now c.plain_few.ensures

pub returns-else-text-lt8 : goal.returns-else-text-lt8
returns-else-text-lt8 c = escape_on_plain c.plain_long.result c.args.text.now c.plain_long.ensures
