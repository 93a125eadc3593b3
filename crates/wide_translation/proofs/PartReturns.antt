-- What is returned of an expression, from what was returned of one of its parts.
use Rattle.std.proofs.Common.{◌≡◌, ◌∙◌, ℕ, false, List, Result, Ok, Err, string_bytes, refl, ap, sym, subst}
use Rattle.cel_reader.specs.Tree.{Tree, view}
use Rattle.wide_reader.specs.declared.wide.Access.{Access, TheVariants.Plain, TheVariants.Optional}
use Rattle.wide_kinds.specs.declared.kind.ValueKind.{ValueKind}
use Rattle.wide_kinds.specs.declared.kind.ValueKind.TheVariants as kind
use Rattle.wide_translation.specs.declared.carried.Carried.{Carried as CodeCarried}
use Rattle.wide_translation.specs.declared.entry_part.EntryPart.{EntryPart}
use Rattle.wide_translation.specs.declared.pair_ranges.PairRange.{PairRange}
use Rattle.wide_translation.specs.declared.translation_error.TranslationError.{TranslationError}
use Rattle.wide_translation.specs.Carried.{Carried, plain, listed, WideFault, OptionalValue, Translation, taken, refused}
use Rattle.wide_translation.specs.Declarations.{ReturnsCarried, ReturnsEntryPart, ReturnsRange, carried_view, is_memory, fault_of}
use Rattle.wide_translation.specs.Translated.{with_carried, on_plain, as_list, from_list, Pairs, no_pairs, entry_more}
use Rattle.wide_translation.proofs.EntrySteps.{key_refused, key_is_optional, entry_value_refused, any_key}

-- ---- a part that is translated, or refused

pub taken_part : (t : Translation) (p : Result CodeCarried TranslationError) (c : CodeCarried) (f : Carried → Translation) (r : Result CodeCarried TranslationError)
    → p ≡ Ok c → ReturnsCarried t p → ReturnsCarried (f (carried_view c)) r → ReturnsCarried (with_carried t f) r
taken_part t p c f r is h x =
    subst (λ (y : Translation). ReturnsCarried (with_carried y f) r) (sym (subst (λ (q : Result CodeCarried TranslationError). ReturnsCarried t q) is h)) x

pub refused_part : (t : Translation) (p : Result CodeCarried TranslationError) (e : TranslationError) (f : Carried → Translation)
    → p ≡ Err e → ReturnsCarried t p → is_memory e ≡ false → with_carried t f ≡ refused (fault_of e)
refused_part t p e f is h m = ap (λ (y : Translation). with_carried y f) (subst (λ (q : Result CodeCarried TranslationError). ReturnsCarried t q) is h m)

-- ---- a part that is a value, of which the kind and the tree are known

pub plain_part : (o : Carried) (k : ValueKind) (a : Tree) (f : ValueKind → Tree → Translation) (r : Result CodeCarried TranslationError)
    → o ≡ plain k a → ReturnsCarried (f k a) r → ReturnsCarried (on_plain o f) r
plain_part o k a f r is x = subst (λ (y : Carried). ReturnsCarried (on_plain y f) r) (sym is) x

-- what comes after it is refused
pub refused_plain : (o : Carried) (k : ValueKind) (a : Tree) (f : ValueKind → Tree → Translation) (e : WideFault) → o ≡ plain k a → f k a ≡ refused e → on_plain o f ≡ refused e
refused_plain o k a f e is x = ap (λ (y : Carried). on_plain y f) is ∙ x

-- ---- a part that is an optional value as a list

pub listed_part : (g : WideFault) (o : Carried) (k : ValueKind) (a : Tree) (f : ValueKind → Tree → Translation) (r : Result CodeCarried TranslationError)
    → o ≡ listed k a → ReturnsCarried (f k a) r → ReturnsCarried (from_list g o f) r
listed_part g o k a f r is x = subst (λ (y : Carried). ReturnsCarried (from_list g y f) r) (sym is) x

pub refused_listed : (g : WideFault) (o : Carried) (k : ValueKind) (a : Tree) (f : ValueKind → Tree → Translation) (e : WideFault) → o ≡ listed k a → f k a ≡ refused e → from_list g o f ≡ refused e
refused_listed g o k a f e is x = ap (λ (y : Carried). from_list g y f) is ∙ x

pub same_list : (g : WideFault) (o c : Carried) (f : ValueKind → Tree → Translation) (r : Result CodeCarried TranslationError)
    → o ≡ as_list c → ReturnsCarried (from_list g o f) r → ReturnsCarried (from_list g (as_list c) f) r
same_list g o c f r is x = subst (λ (y : Carried). ReturnsCarried (from_list g y f) r) is x

-- ---- the range of a macro with two names

pub range_taken : (t : Translation) (p : Result CodeCarried TranslationError) (c : CodeCarried) (f : Carried → (Tree → Translation) → Translation) (y : List ℕ) (r : Result PairRange TranslationError)
    → p ≡ Ok c → ReturnsCarried t p → ReturnsRange (f (carried_view c)) y r → ReturnsRange (λ h. with_carried t (λ d. f d h)) y r
range_taken t p c f y r is h x =
    subst (λ (u : Translation). ReturnsRange (λ g. with_carried u (λ d. f d g)) y r) (sym (subst (λ (q : Result CodeCarried TranslationError). ReturnsCarried t q) is h)) x

pub over_range : (g : (Tree → Translation) → Translation) (y : List ℕ) (o : Result PairRange TranslationError) (p : PairRange) (f : List ℕ → Tree → Translation) (r : Result CodeCarried TranslationError)
    → o ≡ Ok p → ReturnsRange g y o → ReturnsCarried (f (string_bytes p.binder) (view p.range)) r → ReturnsCarried (g (f y)) r
over_range g y o p f r is h x =
    let ranges : ReturnsRange g y (Ok p) = subst (λ (q : Result PairRange TranslationError). ReturnsRange g y q) is h in
    subst (λ (t : Translation). ReturnsCarried t r) (ap (λ (w : List ℕ). f w (view p.range)) ranges.0 ∙ sym (ranges.1 (f y))) x

pub no_range : (g : (Tree → Translation) → Translation) (y : List ℕ) (o : Result PairRange TranslationError) (e : TranslationError) (f : Tree → Translation)
    → o ≡ Err e → ReturnsRange g y o → is_memory e ≡ false → g f ≡ refused (fault_of e)
no_range g y o e f is h m = subst (λ (q : Result PairRange TranslationError). ReturnsRange g y q) is h m f

-- ---- an entry of a map literal

pub entry_key : (o : Access) (t u : Translation) (p : Result CodeCarried TranslationError) (c : CodeCarried) (r : Result EntryPart TranslationError)
    → p ≡ Ok c → ReturnsCarried t p → ReturnsEntryPart (entry_more o (taken (carried_view c)) u) r → ReturnsEntryPart (entry_more o t u) r
entry_key o t u p c r is h x =
    subst (λ (y : Translation). ReturnsEntryPart (entry_more o y u) r) (sym (subst (λ (q : Result CodeCarried TranslationError). ReturnsCarried t q) is h)) x

pub no_entry_key : (o : Access) (t u : Translation) (p : Result CodeCarried TranslationError) (e : TranslationError) (y : Pairs)
    → p ≡ Err e → ReturnsCarried t p → is_memory e ≡ false → entry_more o t u y ≡ no_pairs (fault_of e)
no_entry_key o t u p e y is h m = key_refused o t u (fault_of e) y (subst (λ (q : Result CodeCarried TranslationError). ReturnsCarried t q) is h m)

pub no_entry_plain : (o : Access) (c : Carried) (u : Translation) (y : Pairs) → ((f : ValueKind → Tree → Translation) → on_plain c f ≡ refused OptionalValue)
    → entry_more o (taken c) u y ≡ no_pairs OptionalValue
no_entry_plain o c u y n = key_is_optional o (taken c) u c y refl n

any_kind : (o : Access) (k : ValueKind) (a : Tree) (u : Translation) (y : Pairs) → entry_more o (taken (plain k a)) u y ≡ entry_more o (taken (plain kind.Dyn a)) u y
any_kind o k a (taken c) y = any_key o k kind.Dyn a c y
any_kind Plain k a (refused e) y = refl
any_kind Optional k a (refused e) y = refl

pub entry_plain : (o : Access) (c : Carried) (k : ValueKind) (a : Tree) (u : Translation) (r : Result EntryPart TranslationError)
    → c ≡ plain k a → ReturnsEntryPart (entry_more o (taken (plain kind.Dyn a)) u) r → ReturnsEntryPart (entry_more o (taken c) u) r
entry_plain o c k a u (Ok p) is x = λ ps. ap (λ (y : Carried). entry_more o (taken y) u ps) is ∙ any_kind o k a u ps ∙ x ps
entry_plain o c k a u (Err e) is x = λ m ps. ap (λ (y : Carried). entry_more o (taken y) u ps) is ∙ any_kind o k a u ps ∙ x m ps

pub entry_value : (o : Access) (t u : Translation) (p : Result CodeCarried TranslationError) (c : CodeCarried) (r : Result EntryPart TranslationError)
    → p ≡ Ok c → ReturnsCarried u p → ReturnsEntryPart (entry_more o t (taken (carried_view c))) r → ReturnsEntryPart (entry_more o t u) r
entry_value o t u p c r is h x =
    subst (λ (y : Translation). ReturnsEntryPart (entry_more o t y) r) (sym (subst (λ (q : Result CodeCarried TranslationError). ReturnsCarried u q) is h)) x

pub no_entry_value : (o : Access) (k : ValueKind) (a : Tree) (u : Translation) (p : Result CodeCarried TranslationError) (e : TranslationError) (y : Pairs)
    → p ≡ Err e → ReturnsCarried u p → is_memory e ≡ false → entry_more o (taken (plain k a)) u y ≡ no_pairs (fault_of e)
no_entry_value o k a u p e y is h m =
    entry_value_refused o (taken (plain k a)) u k a (fault_of e) y refl (subst (λ (q : Result CodeCarried TranslationError). ReturnsCarried u q) is h m)
