-- Proofs of `formats::is_label_value`: what the bytes give, the code points give.
use Rattle.text_functions.proofs.Prelude.{◌∙◌, ap, is_label_value}
use Rattle.text_functions.proofs.Ascii.{label_value_ascii, same}
use Rattle.text_functions.proofs.formats.is_label_value.Goals as goal

pub returns : goal.returns
returns c = c.is_value.ensures ∙ ap is_label_value c.as_bytes.ensures.value ∙ same is_label_value label_value_ascii c.args.text.now c.utf8.text
