-- Lists of parts that are all taken.
use Rattle.std.proofs.Common.{◌≡◌, List, [], ◌∷◌, ◌++◌, Result, Ok, Err, append-nil, append_assoc, refl, sym, subst, ◌∙◌}
use Rattle.policy_glue.specs.Checking as checking
use Rattle.policy_glue.specs.Checking.{TakenOrRefused}
use Rattle.policy_glue.specs.declared.compile_error.CompileError.{CompileError}
use Rattle.wide_policy.specs.Carrying.{EachPair}
use Rattle.wide_policy.specs.Taking.{EndsWith, over, refused, next}
use Rattle.wide_policy.specs.declared.wide_policy_error.WidePolicyError.{WidePolicyError}

module _ {A B : Type 0} (Takes : List B → A → B → Type 0) (Refuses : List B → A → WidePolicyError → Type 0) (Holds : List B → List A → List B → Type 0)
    (start : (taken : List B) → Holds taken [] [])
    (step : (taken : List B) (n : A) (b : B) (ns : List A) (more : List B) → Takes taken n b → Holds (taken ++ b ∷ []) ns more → Holds taken (n ∷ ns) (b ∷ more)) where
  record HoldsAfter (taken : List B) (ns : List A) (out : List B) : Type 0 where
    more : List B
    out_is : out ≡ taken ++ more
    holds : Holds taken ns more

  holds_by : (taken : List B) (ns : List A) (end : Result (List B) WidePolicyError) (out : List B) → EndsWith Takes Refuses taken ns end → end ≡ Ok out → HoldsAfter taken ns out
  holds_by taken [] end out over e = let same : taken ≡ out = cc in record { more = []; out_is = sym same ∙ sym (append-nil taken); holds = start taken }
  holds_by taken (n ∷ ns) end out (refused err why) e = absurd (cc)
  holds_by taken (n ∷ ns) end out (next b takes rest) e =
      let r = holds_by (taken ++ b ∷ []) ns end out rest e in
      record { more = b ∷ r.more; out_is = r.out_is ∙ append_assoc taken (b ∷ []) r.more; holds = step taken n b ns r.more takes r.holds }

  -- what holds of no parts, and of one more, holds of all parts
  pub all_hold : (ns : List A) (out : List B) → EndsWith Takes Refuses [] ns (Ok out) → Holds [] ns out
  all_hold ns out ends = let h = holds_by [] ns (Ok out) out ends refl in subst (Holds [] ns) (sym h.out_is) h.holds

-- what holds of each refusal holds of the one that the parts end in
module _ {A B : Type 0} (Takes : List B → A → B → Type 0) (Refuses : List B → A → WidePolicyError → Type 0) (Q : WidePolicyError → Type 0)
    (given : (taken : List B) (n : A) (e : WidePolicyError) → Refuses taken n e → Q e) where
  refused_by : (taken : List B) (ns : List A) (end : Result (List B) WidePolicyError) (e : WidePolicyError) → EndsWith Takes Refuses taken ns end → end ≡ Err e → Q e
  refused_by taken [] end e over is = absurd (cc)
  refused_by taken (n ∷ ns) end e (refused f why) is = let same : f ≡ e = cc in subst Q same (given taken n f why)
  refused_by taken (n ∷ ns) end e (next b takes rest) is = refused_by (taken ++ b ∷ []) ns end e rest is

  pub refusal_holds : (ns : List A) (e : WidePolicyError) → EndsWith Takes Refuses [] ns (Err e) → Q e
  refusal_holds ns e ends = refused_by [] ns (Err e) e ends refl

-- likewise, of the parts that `policy_glue` takes, each on its own
module _ {A B : Type 0} (Takes : List B → A → B → Type 0) (Refuses : List B → A → CompileError → Type 0) (P : A → B → Type 0)
    (given : (taken : List B) (n : A) (b : B) → Takes taken n b → P n b) where
  record PairsAfter (taken : List B) (ns : List A) (out : List B) : Type 0 where
    more : List B
    out_is : out ≡ taken ++ more
    pairs : EachPair P ns more

  pairs_by : (taken : List B) (ns : List A) (end : Result (List B) CompileError) (out : List B) → TakenOrRefused Takes Refuses taken ns end → end ≡ Ok out → PairsAfter taken ns out
  pairs_by taken [] end out checking.over e = let same : taken ≡ out = cc in record { more = []; out_is = sym same ∙ sym (append-nil taken); pairs = tt }
  pairs_by taken (n ∷ ns) end out (checking.refused err why) e = absurd (cc)
  pairs_by taken (n ∷ ns) end out (checking.next b takes rest) e =
      let r = pairs_by (taken ++ b ∷ []) ns end out rest e in
      record { more = b ∷ r.more; out_is = r.out_is ∙ append_assoc taken (b ∷ []) r.more; pairs = (given taken n b takes, r.pairs) }

  pub all_paired : (ns : List A) (out : List B) → TakenOrRefused Takes Refuses [] ns (Ok out) → EachPair P ns out
  all_paired ns out ends = let h = pairs_by [] ns (Ok out) out ends refl in subst (EachPair P ns) (sym h.out_is) h.pairs
