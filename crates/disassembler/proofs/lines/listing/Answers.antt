-- Proof obligations of `listing` (src/lines.rt).
use Rattle.disassembler.proofs.Prelude.{◌≡◌, ℕ, List, [], ◌∷◌, ◌++◌, ap, ◌∙◌, rules, arith, string_bytes, common_steps, statement_text}
use Rattle.disassembler.proofs.Going.{goes, whole}
use Rattle.disassembler.proofs.lines.listing.Goals as goal

pub statements-preserved : goal.statements-preserved
unfolding lib.Utf8.encode
statements-preserved c = (
  c.in-Some.ensures.goes_on.1,
  λ more later.
      let line : string_bytes c.in_ok-line.line ≡ statement_text c.in-Some.statement = search rules in
      let joined : string_bytes c.push_str.new.self ≡ string_bytes c.statements.text ++ string_bytes c.in_ok-line.line =
      grind (arith, common_steps, c.in_ok-push_str.ensures.bytes, c.as_str.ensures.value) in
      let with_line = joined ∙ ap (λ (xs : List ℕ). string_bytes c.statements.text ++ xs) (line ∙ ap statement_text c.in-Some.ensures.found.0) in
      goes c.args.code.now c.statements.rest.now c.in-Some.after.now (string_bytes c.statements.text) (string_bytes c.push.new.self) more
      c.statements.invariant.1 (record { is = c.in-Some.ensures.found.1; shorter = c.in-Some.ensures.goes_on.0 })
      (c.in_ok-push.ensures.bytes ∙ ap (λ (xs : List ℕ). xs ++ 10 ∷ []) with_line) later,
)

pub returns : goal.returns
returns c = (c.in-Ok.ensures, whole c.args.code.now c.statements.rest.now (string_bytes c.statements.text) c.statements.invariant.1 c.in_default.ensures.found)
