-- A callee has the name that it was found by, and is the function and the test of that name.
use Rattle.cel_macros.proofs.Prelude.{◌≡◌, ℕ, Bool, true, false, List, [], ◌∷◌, Option, Some, None, IfSome, bytes_eq, refl, ap, sym, ◌∙◌, arith, Function, TextTest, function_named, test_named, is_has, Callee, OfFunction, OfTest, Unknown, callee_name, callee_named, function_in, test_in}
use Rattle.cel_macros.specs.Functions.{function_name, test_name}
use Rattle.cel_macros.specs.declared.function.Function.{TheVariants.Size, TheVariants.String as StringFunction, TheVariants.Dyn}
use Rattle.cel_macros.specs.declared.text_test.TextTest.{TheVariants.StartsWith, TheVariants.EndsWith, TheVariants.Contains}
use Rattle.std.proofs.Common.{find, IsSome}
use lib.Pointwise.{bytes_decides}
use Rattle.std.specs.Option.{option_map_or}

-- the callee of a name that denotes this function or this test
abbrev callee_of : Option Function → Option TextTest → List ℕ → Callee
callee_of f t n = option_map_or OfFunction f (option_map_or OfTest t (Unknown n))

-- ---- what is found by a name has that name

pub weaker : {A : Type 0} (o : Option A) (P Q : A → Type 0) → ((a : A) → P a → Q a) → IfSome o P → IfSome o Q
weaker o P Q h p = grind arith

pub found : {A : Type 0} (test : A → Bool) (xs : List A) → IfSome (find test xs) (λ a. test a ≡ true)
found test [] = tt
found test (x ∷ xs) = grind (arith, found test xs)

function_back : (n : List ℕ) → IfSome (function_named n) (λ f. function_name f ≡ n)
unfolding function_named
function_back n = weaker (function_named n) _ _ (λ f e. (bytes_decides (function_name f) n).0 e) (found (λ f. bytes_eq (function_name f) n) (Size ∷ StringFunction ∷ Dyn ∷ []))

test_back : (n : List ℕ) → IfSome (test_named n) (λ t. test_name t ≡ n)
unfolding test_named
test_back n = weaker (test_named n) _ _ (λ t e. (bytes_decides (test_name t) n).0 e) (found (λ t. bytes_eq (test_name t) n) (StartsWith ∷ EndsWith ∷ Contains ∷ []))

-- ---- a name denotes the callee that is written so

back_by : (f : Option Function) (t : Option TextTest) (n : List ℕ) → IfSome f (λ x. function_name x ≡ n) → IfSome t (λ x. test_name x ≡ n)
    → callee_name (callee_of f t n) ≡ n
back_by (Some f) t n ef et = ef
back_by None (Some t) n ef et = et
back_by None None n ef et = refl

pub callee_back : (n : List ℕ) → callee_name (callee_named n) ≡ n
unfolding callee_named
callee_back n = back_by (function_named n) (test_named n) n (function_back n) (test_back n)

-- ---- a name denotes at most one function or test

function_by : (f : Option Function) (t : Option TextTest) (n : List ℕ) → function_in (callee_of f t n) ≡ f
function_by (Some f) t n = refl
function_by None (Some t) n = refl
function_by None None n = refl

pub function_stays : (n : List ℕ) → function_in (callee_named n) ≡ function_named n
unfolding callee_named
function_stays n = function_by (function_named n) (test_named n) n

no_test : (f : Function) → test_named (function_name f) ≡ None
unfolding test_named
no_test Size = refl
no_test StringFunction = refl
no_test Dyn = refl

test_alone : (t : Option TextTest) (n : List ℕ) → test_in (callee_of None t n) ≡ t
test_alone (Some t) n = refl
test_alone None n = refl

test_by : (f : Option Function) (n : List ℕ) → IfSome f (λ x. function_name x ≡ n) → test_in (callee_of f (test_named n) n) ≡ test_named n
test_by (Some f) n e = sym (no_test f) ∙ ap test_named e
test_by None n e = test_alone (test_named n) n

pub test_stays : (n : List ℕ) → test_in (callee_named n) ≡ test_named n
unfolding callee_named
test_stays n = test_by (function_named n) n (function_back n)

-- ---- the name of a function or a test denotes it again, and none of them is `has`

pub function_again : (c : Callee) → IsSome (function_in c) → callee_named (callee_name c) ≡ c
unfolding callee_named function_named test_named
function_again (OfFunction Size) h = refl
function_again (OfFunction StringFunction) h = refl
function_again (OfFunction Dyn) h = refl
function_again (OfTest t) h = absurd (cc)
function_again (Unknown n) h = absurd (cc)

pub test_again : (c : Callee) → IsSome (test_in c) → callee_named (callee_name c) ≡ c
unfolding callee_named function_named test_named
test_again (OfTest StartsWith) h = refl
test_again (OfTest EndsWith) h = refl
test_again (OfTest Contains) h = refl
test_again (OfFunction f) h = absurd (cc)
test_again (Unknown n) h = absurd (cc)

pub not_has : (c : Callee) → IsSome (function_in c) → is_has (callee_name c) ≡ false
unfolding is_has
not_has (OfFunction Size) h = refl
not_has (OfFunction StringFunction) h = refl
not_has (OfFunction Dyn) h = refl
not_has (OfTest t) h = absurd (cc)
not_has (Unknown n) h = absurd (cc)
