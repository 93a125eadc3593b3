-- Names in the expressions of a list.
use Rattle.policy_glue.proofs.Prelude.{◌≡◌, ◌||◌, ◌∙◌, ◌<◌, ◌+◌, ℕ, Bool, true, false, List, [], ◌∷◌, ◌++◌, refl, sym, ap, subst, list_any, Result, Ok, append-nil, append_assoc, length, get_or, drop, drop_more, map, string_bytes, Tree, ReadsTree, TakenOrRefused, TakesCondition, RefusesCondition, PartsEnd, Compiles, CompileError, Policy, PolicyTree, NamedExpression, CodeNamedExpression, named_view}
use Rattle.policy_glue.specs.Checking as checking
use Rattle.policy_glue.specs.Limits as limits
use Rattle.policy_glue.specs.Naming.{EachReads}

-- trees of the expressions that are left, of which one passes exactly if one of all trees does
pub record RestPasses (p : Tree → Bool) (rest : List NamedExpression) (all_trees : List Tree) : Type 0 where
  pub trees : List Tree
  pub reads : EachReads rest trees
  pub same : list_any p all_trees ≡ list_any p trees

-- no tree so far passes
pub record NamesGo (p : Tree → Bool) (all rest : List NamedExpression) : Type 0 where
  pub left : (trees : List Tree) → EachReads all trees → RestPasses p rest trees

pub names_start : (p : Tree → Bool) (all : List NamedExpression) → NamesGo p all all
names_start p all = record { left = λ trees reads. record { trees = trees; reads = reads; same = refl } }

module _ (p : Tree → Bool) (n : NamedExpression) (rest : List NamedExpression) (passes : Bool) (says : (a : Tree) → ReadsTree n.expression a → passes ≡ p a) where
  past_first : (all trees : List Tree) → EachReads (n ∷ rest) trees → list_any p all ≡ list_any p trees → passes ≡ false → RestPasses p rest all
  past_first all [] reads same none = absurd reads
  past_first all (a ∷ more) reads same none = record {
    trees = more;
    reads = reads.1;
    same = same ∙ ap (λ b. b || list_any p more) (sym (says a reads.0) ∙ none);
  }

  at_first : (all trees : List Tree) → EachReads (n ∷ rest) trees → list_any p all ≡ list_any p trees → passes ≡ true → true ≡ list_any p all
  at_first all [] reads same found = absurd reads
  at_first all (a ∷ more) reads same found = sym (same ∙ ap (λ b. b || list_any p more) (sym (says a reads.0) ∙ found))

  pub names_next : (all : List NamedExpression) → NamesGo p all (n ∷ rest) → passes ≡ false → NamesGo p all rest
  names_next all go none = record { left = λ trees reads. let r = go.left trees reads in past_first trees r.trees r.reads r.same none }

  pub names_found : (all : List NamedExpression) → NamesGo p all (n ∷ rest) → passes ≡ true → (trees : List Tree) → EachReads all trees → true ≡ list_any p trees
  names_found all go found trees reads = let r = go.left trees reads in at_first trees r.trees r.reads r.same found

-- the same with the expressions in a list of the code
pub named_next : (p : Tree → Bool) (xs : List CodeNamedExpression) (i : ℕ) (x : CodeNamedExpression) (text : List ℕ) (passes : Bool) → i < length xs → x ≡ get_or xs i x
    → text ≡ string_bytes x.expression → ((a : Tree) → ReadsTree text a → passes ≡ p a) → NamesGo p (map named_view xs) (map named_view (drop i xs)) → passes ≡ false
    → NamesGo p (map named_view xs) (map named_view (drop (i + 1) xs))
named_next p xs i x text passes within is source says go none =
    let rest = ap (map named_view) (drop_more xs i x within ∙ ap (λ y. y ∷ drop (i + 1) xs) (sym is)) in
    names_next p (named_view x) (map named_view (drop (i + 1) xs)) passes (λ a reads. says a (subst (λ t. ReadsTree t a) (sym source) reads)) (map named_view xs)
    (subst (NamesGo p (map named_view xs)) rest go) none

none_left : (p : Tree → Bool) (all trees : List Tree) → EachReads [] trees → list_any p all ≡ list_any p trees → false ≡ list_any p all
none_left p all [] reads same = sym same
none_left p all (a ∷ more) reads same = absurd reads

pub names_end : (p : Tree → Bool) (all : List NamedExpression) → NamesGo p all [] → (trees : List Tree) → EachReads all trees → false ≡ list_any p trees
names_end p all go trees reads = let r = go.left trees reads in none_left p trees r.trees r.reads r.same

-- ---- the conditions of a policy that compiles

-- after those taken come the trees of the other expressions
record EndsRead (taken : List Tree) (ns : List NamedExpression) (out : List Tree) : Type 0 where
  more : List Tree
  out_is : out ≡ taken ++ more
  reads : EachReads ns more

ends_read : (taken : List Tree) (ns : List NamedExpression) (end : Result (List Tree) CompileError) (out : List Tree)
    → TakenOrRefused TakesCondition RefusesCondition taken ns end → end ≡ Ok out → EndsRead taken ns out
ends_read taken [] end out checking.over e = let same : taken ≡ out = cc in record { more = []; out_is = sym same ∙ sym (append-nil taken); reads = tt }
ends_read taken (n ∷ ns) end out (checking.refused err why) e = absurd (cc)
ends_read taken (n ∷ ns) end out (checking.next a takes rest) e =
    let r = ends_read (taken ++ a ∷ []) ns end out rest e in
    record { more = a ∷ r.more; out_is = r.out_is ∙ append_assoc taken (a ∷ []) r.more; reads = (takes.taken.reads, r.reads) }

parts_read : (p : Policy) (end : Result PolicyTree CompileError) (t : PolicyTree) → PartsEnd p end → end ≡ Ok t → EachReads p.conditions t.conditions
parts_read p end t (checking.taken vs cs rs v c r) e =
    let same : record { variables = vs; conditions = cs; validations = rs } ≡ t = cc in
    let read = ends_read [] p.conditions (Ok cs) cs c refl in
    subst (EachReads p.conditions) (sym read.out_is ∙ ap (λ (u : PolicyTree). u.conditions) same) read.reads
parts_read p end t other e = absurd (cc)

-- each condition of a policy that compiles is the tree that it compiles to
pub compiled_reads : (p : Policy) (end : Result PolicyTree CompileError) (t : PolicyTree) → Compiles p end → end ≡ Ok t → EachReads p.conditions t.conditions
compiled_reads p end t (limits.refused err parts) e = absurd (cc)
compiled_reads p end t (limits.too_large u err parts above) e = absurd (cc)
compiled_reads p end t (limits.compiled u parts fits) e = parts_read p (Ok u) t parts e
