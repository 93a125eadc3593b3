-- The code of comparisons and of membership gives their values.
-- For the laws in `specs/Gives/Comparison`.
use Rattle.expression_code.proofs.Prelude.{◌≡◌, ℕ, ◌+◌, ◌<◌, List, ◌∷◌, subst, arith, pos, Insn, Register, R0, R1, R2, ValueOrError, equal_of, less_of, member_of, not_of, equal_tail, less_tail, not_less_tail, opposite_of, unequal_tail, not_tail, Context, RunContext, ComparisonGives, TailGives, mov_reg, Combines, size, frame_words}
use Rattle.expression_code.proofs.Sites.{Site, Budget, site_at, in_frame, budget, CombinesAt}
use Rattle.expression_code.proofs.HelperAnswers.{helpers}
use Rattle.expression_code.proofs.Operators.{call_on_result, calls_give, combines_then}

-- a tail whose value is stated in another form
same_tail : (site : Site) (tail : List Insn) (r q : Register) (x y z w : ValueOrError) (t : Budget) → z ≡ w
    → CombinesAt site tail r q x y z t → CombinesAt site tail r q x y w t
same_tail site tail r q x y z w t e h = subst (λ (v : ValueOrError). Combines site.setting site.slot tail r q site.frame.context site.frame.depth site.frame.base x y v t.steps t.charge) e h

opposite_gives : (site : Site) (tail : List Insn) (r q : Register) (x y z : ValueOrError) → site.frame.base < frame_words
    → CombinesAt site tail r q x y z (budget 1 1) → CombinesAt site (opposite_of tail) r q x y (not_of z) (budget 3 2)
opposite_gives site tail r q x y z low h =
    combines_then site.setting site.slot site.frame.base tail (mov_reg R1 R0 ∷ not_tail) r q site.frame.context site.frame.depth x y z (not_of z) 1 1 2 1 h (call_on_result site.setting (site.slot + size tail) (pos 23) not_of site.frame.context site.frame.depth site.frame.base z (omega arith) helpers.not)

equal_gives : TailGives equal_tail R1 R2 equal_of 1 1
equal_gives s p k c depth x y low = calls_give.two s p k (pos 9) equal_of c depth x y low helpers.equal

less_gives : TailGives less_tail R1 R2 less_of 1 1
less_gives s p k c depth x y low = calls_give.two s p k (pos 10) less_of c depth x y low helpers.less

swapped_gives : (s : RunContext) (p k : ℕ) (c : Context) (depth : ℕ) (x y : ValueOrError) → k < frame_words → Combines s p less_tail R2 R1 c depth k x y (less_of y x) 1 1
swapped_gives s p k c depth x y low = calls_give.swapped s p k (pos 10) less_of c depth x y low helpers.less

pub comparison_gives : ComparisonGives
comparison_gives = record {
  equal = equal_gives;
  unequal = λ s p k c depth x y low. same_tail (site_at s p (in_frame c depth k)) unequal_tail R1 R2 x y _ _ (budget 3 2) (grind arith) (opposite_gives (site_at s p (in_frame c depth k)) equal_tail R1 R2 x y _ low (equal_gives s p k c depth x y low));
  less = less_gives;
  less_equal = λ s p k c depth x y low. same_tail (site_at s p (in_frame c depth k)) not_less_tail R2 R1 x y _ _ (budget 3 2) (grind arith) (opposite_gives (site_at s p (in_frame c depth k)) less_tail R2 R1 x y _ low (swapped_gives s p k c depth x y low));
  greater = λ s p k c depth x y low. same_tail (site_at s p (in_frame c depth k)) less_tail R2 R1 x y _ _ (budget 1 1) (grind arith) (swapped_gives s p k c depth x y low);
  greater_equal = λ s p k c depth x y low. same_tail (site_at s p (in_frame c depth k)) not_less_tail R1 R2 x y _ _ (budget 3 2) (grind arith) (opposite_gives (site_at s p (in_frame c depth k)) less_tail R1 R2 x y _ low (less_gives s p k c depth x y low));
  member = λ s p k c depth x y low. calls_give.two s p k (pos 15) member_of c depth x y low helpers.member;
}
