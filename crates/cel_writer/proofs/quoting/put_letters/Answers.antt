-- Proof obligations of `quoting::put_letters`.
use Rattle.std.proofs.Common.{◌++◌, ◌∙◌, ap, string_bytes, sym, List, ℕ}
use Rattle.std.proofs.lemmas.Iterator.{YieldsList-from_chars}
use Rattle.std.proofs.lemmas.Iterator.Consumers.{YieldsList-end}
use Rattle.std.proofs.lemmas.List.{map-id}
use Rattle.std.specs.List.{flat_map}
use Rattle.cel_writer.specs.Printed.{letter_text}
use Rattle.cel_writer.proofs.quoting.put_letters.Goals as goal

pub returns : goal.returns
returns c =
    let end = YieldsList-end (YieldsList-from_chars c.args.text.now c.utf8.text cc) c.loop-c.yielded _ c.loop-c.yielded_by _ _ c.in-None.is c.next.ensures.steps in
    c.loop-c.invariant ∙ ap (λ (cs : List ℕ). string_bytes c.args.out.now ++ flat_map letter_text cs) (sym (map-id c.loop-c.yielded) ∙ end.0)
