-- Proof obligations of `content` (src/content.rt).
use Rattle.wide_tokens.proofs.Prelude.{◌≡◌, ◌≤◌, ℕ, List, ◌+◌, ◌++◌, content, closes, get_or, length, drop, arith, refl, sym, ◌∙◌, ap, subst, IsUtf8, piece, drop-drop}
use Rattle.std.proofs.Common.{length-drop}
use Rattle.cel_tokens.proofs.Contents.{quote_ascii, said_utf8}
use Rattle.wide_tokens.specs.Pieces.{said_by}
use Rattle.wide_tokens.proofs.Contents.{content_closes, content_more, content_over, content_refused}
use Rattle.wide_tokens.proofs.content.content.Goals as goal

pub text_of-requires : goal.text_of-requires
text_of-requires c =
    let t = c.tail-rest.ensures in
    let u = subst (λ ys. IsUtf8 (c.loop-n.said.items ++ ys)) (sym t) c.loop-n.invariant.utf8 in
    said_utf8 c.loop-n.said.items c.tail-rest.result.now u (omega (arith, c.in-Some.ensures.ends.2)) (omega (arith, c.in-Some.ensures.first, quote_ascii c.args.opening.quote c.requires.quoted))

pub returns-in-Some-clause-value : goal.returns-in-Some-clause-value
returns-in-Some-clause-value c =
    let e = c.text_of.ensures in
    let t = c.tail-rest.ensures in
    rw (e, c.in-Some.ensures.ends.1) (sym (content_closes c.args.opening c.loop-n.n c.loop-n.said.items c.args.bytes.now c.loop-n-test.true (ap (closes c.args.opening.long c.args.opening.quote) (sym t) ∙ c.in-Some.ensures.ends.0)) ∙ c.loop-n.invariant.so_far)

pub returns-in_default-piece_at-clause-value : goal.returns-in_default-piece_at-clause-value
returns-in_default-piece_at-clause-value c =
    let t = c.tail-rest.ensures in
    let v = c.in_default-piece_at.ensures.value in
    sym (content_refused c.args.opening c.loop-n.n c.loop-n.said.items c.args.bytes.now c.loop-n-test.true (ap (closes c.args.opening.long c.args.opening.quote) (sym t) ∙ c.in_default.ensures.goes_on refl) (ap (piece c.args.opening.raw c.args.opening.long) (sym t) ∙ sym v)) ∙ c.loop-n.invariant.so_far

pub loop-n-preserved : goal.loop-n-preserved
loop-n-preserved c =
    let t = c.tail-rest.ensures in
    let e = c.in-Some-piece_at.ensures in
    let w = e.within in
    let len = c.piece_len-n.ensures in
    let d = length-drop c.loop-n.n c.args.bytes.now in
    let l = ap length t in
    let p = said_by c.in-Some-piece_at.piece in
    let u = e.utf8 c.loop-n.said.items (subst (λ ys. IsUtf8 (c.loop-n.said.items ++ ys)) (sym t) c.loop-n.invariant.utf8) in
    let added = c.in_ok-add.ensures in
    let low = subst (λ (ys : List ℕ). p.0 ≤ length ys) t w.1 in
    let more = content_more c.args.opening c.loop-n.n c.loop-n.said.items c.args.bytes.now p c.loop-n-test.true (ap (closes c.args.opening.long c.args.opening.quote) (sym t) ∙ c.in_default.ensures.goes_on refl) (ap (piece c.args.opening.raw c.args.opening.long) (sym t) ∙ sym e.value) w.0 low in
    let utf8 = subst (λ (ys : List ℕ). IsUtf8 ((c.loop-n.said.items ++ p.1) ++ ys)) (ap (drop p.0) t ∙ drop-drop p.0 c.loop-n.n c.args.bytes.now) u in
    rw (len, added) (record {
      in_range = omega (arith, w, len, d, l);
      so_far = sym more ∙ c.loop-n.invariant.so_far;
      utf8 = utf8;
    })

pub returns-clause-value : goal.returns-clause-value
returns-clause-value c =
    sym (content_over c.args.opening c.loop-n.said.items c.args.bytes.now c.loop-n.n c.loop-n-test.false) ∙ c.loop-n.invariant.so_far
