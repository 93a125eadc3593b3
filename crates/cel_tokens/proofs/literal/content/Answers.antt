-- Proof obligations of `content` (src/literal.rt).
use Rattle.cel_tokens.proofs.Prelude.{◌≡◌, ℕ, List, ◌+◌, ◌++◌, content, get_or, length, drop, arith, sym, ◌∙◌, ap, subst, drop-cons, IsUtf8, piece, get_or-drop, drop-drop, prefix_len-le-length, is_plain}
use Rattle.std.proofs.Common.{length-drop}
use Rattle.cel_tokens.proofs.Contents.{closes, content_more, content_over, content_refused, quote_ascii, said_utf8}
use Rattle.cel_tokens.proofs.PlainStretches.{stretch_step, stretch_utf8}
use Rattle.cel_tokens.proofs.literal.content.Goals as goal

pub text_of-requires : goal.text_of-requires
text_of-requires c =
    let d = length-drop c.loop-n.n c.args.bytes.now in
    let t = c.loop-n-test.true in
    let g = get_or-drop c.loop-n.n c.args.bytes.now 0 0 in
    let e : c.loop-n.n + 0 ≡ c.loop-n.n = omega arith in
    let z = ap (λ y. get_or c.args.bytes.now y 0) e in
    said_utf8 c.loop-n.said.items (drop c.loop-n.n c.args.bytes.now) c.loop-n.invariant.utf8 (omega (arith, d, t)) (omega (arith, g, z, c.if-bytes-n.true, quote_ascii c.args.quote c.requires.quoted))

pub loop-n-preserved-then-plain-gt0 : goal.loop-n-preserved-then-plain-gt0
loop-n-preserved-then-plain-gt0 c =
    let n = c.loop-n.n in
    let k = c.skip_plain-plain.result in
    let t = c.tail-rest.ensures in
    let a = c.in_ok-extend_from_slice.ensures.items in
    let d = length-drop n c.args.bytes.now in
    let l = ap length t in
    let w = prefix_len-le-length is_plain c.tail-rest.result.now in
    record {
      in_range = omega (arith, w, d, l, c.skip_plain-plain.ensures, c.loop-n-test.true);
      so_far =
          ap (λ (said : List ℕ). content c.args.raw c.args.quote 0 (n + k) said (drop (n + k) c.args.bytes.now)) a
          ∙ stretch_step c.args.raw c.args.quote n k c.loop-n.said.items c.tail-rest.result.now c.args.bytes.now c.requires.quoted t c.skip_plain-plain.ensures
          ∙ c.loop-n.invariant.so_far;
      utf8 = stretch_utf8 n k c.loop-n.said.items c.extend_from_slice.new.self.items c.tail-rest.result.now c.args.bytes.now t a c.loop-n.invariant.utf8;
    }

pub returns-then-bytes-n-clause-value : goal.returns-then-bytes-n-clause-value
returns-then-bytes-n-clause-value c =
    let e = c.text_of.ensures in
    rw e (sym (grind (arith, drop-cons, closes)) ∙ c.loop-n.invariant.so_far)

pub returns-in_default-clause-value : goal.returns-in_default-clause-value
returns-in_default-clause-value c =
    let t = c.tail-rest.ensures in
    let v = c.in_default.ensures.value in
    sym (content_refused c.args.raw c.args.quote c.loop-n.n c.loop-n.said.items c.args.bytes.now c.loop-n-test.true c.if-bytes-n.false (ap (piece c.args.raw) (sym t) ∙ sym v)) ∙ c.loop-n.invariant.so_far

pub loop-n-preserved : goal.loop-n-preserved
loop-n-preserved c =
    let t = c.tail-rest.ensures in
    let e = c.in-Some.ensures in
    let w = e.within in
    let len = c.piece_len-n.ensures in
    let added = c.in_ok-add.ensures in
    let d = length-drop c.loop-n.n c.args.bytes.now in
    let l = ap length t in
    let p = c.in-Some.piece in
    let u = e.utf8 c.loop-n.said.items (subst (λ ys. IsUtf8 (c.loop-n.said.items ++ ys)) (sym t) c.loop-n.invariant.utf8) in
    record {
      in_range = omega (arith, w, len, d, l);
      so_far =
          (grind (arith, content_more)) ∙ c.loop-n.invariant.so_far;
      utf8 =
          (grind (arith, drop-drop));
    }

pub returns-clause-value : goal.returns-clause-value
returns-clause-value c =
    sym (content_over c.args.raw c.args.quote c.loop-n.said.items c.args.bytes.now c.loop-n.n c.loop-n-test.false) ∙ c.loop-n.invariant.so_far
