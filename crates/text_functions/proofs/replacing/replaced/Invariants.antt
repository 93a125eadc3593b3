-- Loop invariants and measures of `replaced` (src/replacing.rt).
use Rattle.text_functions.proofs.Prelude.{◌≡◌, ◌++◌, IsUtf8, chars, encode_utf8_all, replaced, string_bytes}
use Rattle.text_functions.proofs.replacing.replaced.Given as goal

abbrev pub invariant-places : goal.invariant-places
invariant-places l = record {
  utf8 : IsUtf8 l.rest;
  is :
      string_bytes l.made ++ encode_utf8_all (replaced l.left (chars l.part) (chars l.other) (chars l.rest))
      ≡ encode_utf8_all (replaced l.most (chars l.part) (chars l.other) (chars l.text));
}

abbrev pub decreases-places : goal.decreases-places
decreases-places l = l.left
