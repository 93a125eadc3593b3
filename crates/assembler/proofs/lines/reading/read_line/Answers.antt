-- Proof obligations of `read_line` (src/lines/reading.rt).
use Rattle.assembler.proofs.Prelude.{◌∷◌, ◌++◌, Some, None, lit<, sym, ◌∙◌, ap, bytes_eq-Decides, split_parts, strip_suffix_char, codes}
use Rattle.assembler.proofs.Ends.{differ}
use Rattle.assembler.proofs.Lacking.{lacks_from}
use Rattle.assembler.proofs.Whole.{code_only, exit_only, nothing_only, reads_line}
use Rattle.assembler.proofs.lines.reading.read_line.Goals as goal

pub returns-then-eq : goal.returns-then-eq
returns-then-eq c =
    let same = (bytes_eq-Decides c.args.line.now _).0 (sym c.eq.ensures ∙ c.if-eq.true) in
    record { reads = ((same, tt, tt), λ i h e. exit_only i h (sym same ∙ e)) }

pub returns-in_default-split_once : goal.returns-in_default-split_once
returns-in_default-split_once c =
    let space = lacks_from 32 c.args.line.now (split_parts 32 c.args.line.now None c.in_default-split_once.ensures.cases (lit< tt)) in
    let other = differ c.args.line.now (codes "exit") c.eq.result c.eq.ensures c.if-eq.false in
    record { reads = nothing_only c.args.line.now space other (strip_suffix_char 58 c.args.line.now None c.in_default.ensures.cases (lit< tt)) }

pub returns-in_default-mnemonic_of : goal.returns-in_default-mnemonic_of
returns-in_default-mnemonic_of c =
    let p = split_parts 32 c.args.line.now (Some (c.in-Some-split_once.word, c.in-Some-split_once.operands)) c.in-Some-split_once.ensures.cases (lit< tt) in
    record {
      reads = λ i h e.
          let k = code_only c.in-Some-split_once.word.now c.in-Some-split_once.operands.now i (lacks_from 32 c.in-Some-split_once.word.now p.1) h (sym p.0 ∙ e) in
          c.in_default-mnemonic_of.ensures k.0 k.2;
    }

pub returns : goal.returns
returns c =
    let p = split_parts 32 c.args.line.now (Some (c.in-Some-split_once.word, c.in-Some-split_once.operands)) c.in-Some-split_once.ensures.cases (lit< tt) in
    record { reads = reads_line c.in-Some-mnemonic_of.mnemonic c.in-Some-split_once.operands.now c.args.line.now c.read_operands.result (p.0 ∙ ap (λ w. w ++ 32 ∷ c.in-Some-split_once.operands.now) c.in-Some-mnemonic_of.ensures) c.read_operands.ensures }
