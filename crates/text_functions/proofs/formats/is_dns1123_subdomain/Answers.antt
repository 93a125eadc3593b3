-- Proofs of `formats::is_dns1123_subdomain`: what the bytes give, the code points give.
use Rattle.text_functions.proofs.Prelude.{◌∙◌, ap, is_dns1123_subdomain}
use Rattle.text_functions.proofs.Ascii.{dns1123_subdomain_ascii, same}
use Rattle.text_functions.proofs.formats.is_dns1123_subdomain.Goals as goal

pub returns : goal.returns
returns c = c.is_subdomain.ensures ∙ ap is_dns1123_subdomain c.as_bytes.ensures.value ∙ same is_dns1123_subdomain dns1123_subdomain_ascii c.args.text.now c.utf8.text
