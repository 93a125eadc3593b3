-- Proof obligations of `Pattern::find_all` (src/pattern.rt).
use Rattle.std.proofs.Common.{◌≡◌, map, ap, ◌∙◌}
use Rattle.std.proofs.lemmas.Iterator.Consumers.{YieldsList-from_first, YieldsList-end}
use Rattle.regex.specs.Patterns.{find_all_str, span}
use Rattle.regex.specs.Strings.{regex_pattern, placed_span, placed_spans_left, spans_left, matches_haystack}
use Rattle.pattern_reader.specs.Patterns.{regex_of}
use Rattle.pattern_reader.proofs.Spans.{span_in, spans_back, spans_of}
use Rattle.pattern_reader.proofs.pattern.Pattern.find_all.Goals as goal

pub returns : goal.returns
returns c =
    let all = c.find_iter-found-items.result in
    let found : spans_left all ≡ map span (find_all_str (regex_pattern (regex_of c.args.self.now)) c.args.text.now) =
    rw c.in_ok-matcher.ensures.pattern at c.find_iter-found-items.ensures.found in
    let same : c.into_iter-found-iterator.result ≡ all = cc in
    let end = YieldsList-end (YieldsList-from_first placed_span placed_spans_left (placed_spans_left all) (ap placed_spans_left same))
    c.loop-found.yielded _ c.loop-found.yielded_by _ c.next.new.self c.in-None.is c.next.ensures.steps in
    c.loop-found.invariant ∙ spans_of c.loop-found.yielded ∙ ap (map span_in) end.0
    ∙ spans_back (matches_haystack all) (spans_left all) ∙ found
