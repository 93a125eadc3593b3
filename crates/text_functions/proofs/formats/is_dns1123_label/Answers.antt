-- Proofs of `formats::is_dns1123_label`: what the bytes give, the code points give.
use Rattle.text_functions.proofs.Prelude.{◌∙◌, ap, is_dns1123_label}
use Rattle.text_functions.proofs.Ascii.{dns1123_label_ascii, same}
use Rattle.text_functions.proofs.formats.is_dns1123_label.Goals as goal

pub returns : goal.returns
returns c = c.is_short_label.ensures ∙ ap is_dns1123_label c.as_bytes.ensures.value ∙ same is_dns1123_label dns1123_label_ascii c.args.text.now c.utf8.text
