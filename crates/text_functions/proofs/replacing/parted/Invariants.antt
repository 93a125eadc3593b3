-- Loop invariants and measures of `parted` (src/replacing.rt).
use Rattle.text_functions.proofs.Prelude.{◌≡◌, ◌++◌, IsUtf8, chars, encode_utf8_all, parted, string_bytes}
use Rattle.text_functions.proofs.replacing.parted.Given as goal

abbrev pub invariant-letters : goal.invariant-letters
invariant-letters l = record {
  utf8 : IsUtf8 l.rest;
  is : string_bytes l.made ++ encode_utf8_all (parted l.left (chars l.other) (chars l.rest)) ≡ encode_utf8_all (parted l.count (chars l.other) (chars l.text));
}

abbrev pub decreases-letters : goal.decreases-letters
decreases-letters l = l.left
