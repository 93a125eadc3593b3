-- Proof obligations of `effect_of` (src/calling.rt).
use Rattle.helper_table.proofs.calling.effect_of.Goals as goal

pub returns-in-IntNew-clause-can : goal.returns-in-IntNew-clause-can
returns-in-IntNew-clause-can g c = c.int_new.ensures.can _

pub returns-in-TextConst-clause-can : goal.returns-in-TextConst-clause-can
returns-in-TextConst-clause-can g c = c.text_const.ensures.can _

pub returns-in-ListNew-clause-can : goal.returns-in-ListNew-clause-can
returns-in-ListNew-clause-can g c = c.list_new.ensures.can _

pub returns-in-MapNew-clause-can : goal.returns-in-MapNew-clause-can
returns-in-MapNew-clause-can g c = c.map_new.ensures.can _
