-- Entries of map literals, one more at a time.
use Rattle.std.proofs.Common.{◌≡◌, ℕ, false, ◌+◌, ◌<◌, ◌≤◌, List, [], ◌∷◌, ◌++◌, length, get_or, drop, map, string_bytes, Result, ap, sym, subst, ◌∙◌, refl}
use Rattle.std.specs.declared.alloc.Global.{Global}
use Rattle.std.specs.declared.string.String.{String}
use Rattle.cel_reader.specs.declared.expr.Expr.{Expr}
use Rattle.cel_reader.specs.Tree as node
use Rattle.cel_reader.specs.Tree.{Tree, view}
use Rattle.cel_reader.specs.declared.operator.BinaryOperator.{TheVariants.NotEqual}
use Rattle.wide_reader.specs.Tree as wide
use Rattle.wide_reader.specs.declared.wide.Access.{Access, TheVariants.Plain, TheVariants.Optional}
use Rattle.wide_reader.specs.declared.wide.Wide.{Wide as CodeWide}
use Rattle.wide_kinds.specs.declared.kind.ValueKind.{ValueKind}
use Rattle.wide_translation.specs.Carried.{Carried, plain, guarded, listed, WideFault, OptionalValue, OptionalEntry, Translation, taken, refused}
use Rattle.wide_translation.specs.Declarations.{with_part, parts_of, IsRefusal, ReturnsCarried, fault_of, is_memory}
use Rattle.wide_translation.specs.declared.translation_error.TranslationError.{TranslationError}
use Rattle.wide_translation.specs.declared.carried.Carried.{Carried as CodeCarried}
use Rattle.wide_translation.specs.Parts.{entries_push, on_plain}
use Rattle.wide_translation.specs.Forms.{empty_tree, first_tree}
use Rattle.wide_translation.specs.Scope.{WideScope}
use Rattle.wide_translation.specs.Segments.{entries_more}
use Rattle.wide_translation.specs.Translated.{no_parts_left, optional_part, Pairs, pairs, no_pairs, optional_more, keyed_more, entry_more, map_translation}
unfoldable use Rattle.wide_translation.specs.Translated.{translated, entries_translated}
use Rattle.wide_translation.specs.declared.entry_part.EntryPart.{EntryPart}
use Rattle.wide_translation.specs.declared.entry_part.EntryPart.TheVariants as entry
use Rattle.wide_translation.proofs.ItemSteps.{dropped, all_dropped}

-- ---- one entry

pub guarded_more : (field : String Global) (k : ValueKind) (g v : Expr) (ps : Pairs)
    → optional_more (string_bytes field) (guarded k (view g) (view v)) ps ≡ with_part (entry.Optional field g v) ps
guarded_more field k g v (pairs ps) = refl
guarded_more field k g v (no_pairs e) = refl

pub listed_more : (field : String Global) (k : ValueKind) (l : Tree) (g v : Expr) (ps : Pairs) → view g ≡ node.binary NotEqual l empty_tree → view v ≡ first_tree l
    → optional_more (string_bytes field) (listed k l) ps ≡ with_part (entry.Optional field g v) ps
listed_more field k l g v (pairs ps) e h = λ j. pairs (optional_part (string_bytes field) (sym e j) (sym h j) ps)
listed_more field k l g v (no_pairs f) e h = refl

pub no_text : (t : Tree) (c : Carried) (ps : Pairs) → ((f : List ℕ) → t ≡ node.literal (node.text f) → ⊥) → keyed_more t c ps ≡ no_pairs OptionalEntry
no_text (node.literal (node.text f)) c ps n = absurd (n f refl)
no_text (node.literal (node.int z)) c ps n = refl
no_text (node.literal (node.truth b)) c ps n = refl
no_text (node.literal node.null) c ps n = refl
no_text _ c ps n = refl

pub always_more : (k l : ValueKind) (key item : Expr) (ps : Pairs) → entry_more Plain (taken (plain k (view key))) (taken (plain l (view item))) ps ≡ with_part (entry.Always key item) ps
always_more k l key item (pairs ps) = refl
always_more k l key item (no_pairs e) = refl

pub never_optional : (k : ValueKind) (t : Tree) (c : Carried) (ps : Pairs) → ((f : ValueKind → Tree → Translation) → on_plain c f ≡ refused OptionalValue)
    → entry_more Plain (taken (plain k t)) (taken c) ps ≡ no_pairs OptionalValue
never_optional k t (plain l a) ps n = let x : taken (plain l a) ≡ refused OptionalValue = n (λ j d. taken (plain j d)) in absurd (cc)
never_optional k t (guarded l g v) ps n = refl
never_optional k t (listed l m) ps n = refl

-- entries of a literal with one more
pub entry_pushed : (xs : List (Expr × Expr)) (a b : Expr) → node.entries (map node.entry_view (xs ++ (a, b) ∷ [])) ≡ entries_push (node.entries (map node.entry_view xs)) (view a) (view b)
entry_pushed [] a b = refl
entry_pushed (x ∷ xs) a b = λ j. node.more_entries (view x.0) (view x.1) (entry_pushed xs a b j)

-- ---- entries

abbrev pub given_entries : WideScope → List (Access × CodeWide × CodeWide) → Pairs
given_entries s es = entries_translated s (wide.entries (map wide.entry_view es))

entries_fault : (done : List EntryPart) (f : WideFault) → entries_more done (no_pairs f) ≡ no_pairs f
entries_fault [] f = refl
entries_fault (p ∷ done) f = ap (with_part p) (entries_fault done f)

entries_entry : (done : List EntryPart) (p : EntryPart) (x : Pairs) → entries_more done (with_part p x) ≡ entries_more (done ++ p ∷ []) x
entries_entry [] p x = refl
entries_entry (d ∷ done) p x = ap (with_part d) (entries_entry done p x)

entries_pairs : (done : List EntryPart) → entries_more done (pairs no_parts_left) ≡ pairs (parts_of done)
entries_pairs [] = refl
entries_pairs (d ∷ done) = ap (with_part d) (entries_pairs done)

-- the kind of a key does not matter
pub any_key : (o : Access) (k l : ValueKind) (a : Tree) (c : Carried) (ps : Pairs) → entry_more o (taken (plain k a)) (taken c) ps ≡ entry_more o (taken (plain l a)) (taken c) ps
any_key Plain k l a (plain i b) (pairs ps) = refl
any_key Plain k l a (plain i b) (no_pairs e) = refl
any_key Plain k l a (guarded i g v) ps = refl
any_key Plain k l a (listed i m) ps = refl
any_key Optional k l a c ps = refl

pub entry_next : (s : WideScope) (given : List (Access × CodeWide × CodeWide)) (i : ℕ) (x : Access × CodeWide × CodeWide) (p : EntryPart) (done : List EntryPart)
    → i < length given → x ≡ get_or given i x → ((ps : Pairs) → entry_more x.0 (translated s (wide.view x.1)) (translated s (wide.view x.2)) ps ≡ with_part p ps)
    → entries_more done (given_entries s (drop i given)) ≡ entries_more (done ++ p ∷ []) (given_entries s (drop (i + 1) given))
unfolding translated
entry_next s given i x p done h e f =
    ap (λ ys. entries_more done (given_entries s ys)) (dropped given i x h e)
    ∙ ap (entries_more done) (f (given_entries s (drop (i + 1) given)))
    ∙ entries_entry done p (given_entries s (drop (i + 1) given))

-- an entry that is refused, from what its parts are
pub entry_refused : (s : WideScope) (given : List (Access × CodeWide × CodeWide)) (i : ℕ) (x : Access × CodeWide × CodeWide) (f : WideFault) (done : List EntryPart)
    → i < length given → x ≡ get_or given i x → ((y : Pairs) → entry_more x.0 (translated s (wide.view x.1)) (translated s (wide.view x.2)) y ≡ no_pairs f)
    → map_translation (entries_more done (given_entries s (drop i given))) ≡ refused f
unfolding translated
entry_refused s given i x f done h e q =
    ap map_translation
    (ap (λ ys. entries_more done (given_entries s ys)) (dropped given i x h e) ∙ ap (entries_more done) (q (given_entries s (drop (i + 1) given))) ∙ entries_fault done f)

pub key_refused : (o : Access) (t u : Translation) (f : WideFault) (y : Pairs) → t ≡ refused f → entry_more o t u y ≡ no_pairs f
key_refused Plain t u f y q = λ j. entry_more Plain (q j) u y
key_refused Optional t u f y q = λ j. entry_more Optional (q j) u y

no_plain : (c : Carried) → ((f : ValueKind → Tree → Translation) → on_plain c f ≡ refused OptionalValue) → (k : ValueKind) (a : Tree) → c ≡ plain k a → ⊥
no_plain (plain l b) n k a e = let x : taken (plain l b) ≡ refused OptionalValue = n (λ j d. taken (plain j d)) in cc
no_plain (guarded l g v) n k a e = cc
no_plain (listed l m) n k a e = cc

key_optional : (o : Access) (t u : Translation) (c : Carried) (y : Pairs) → t ≡ taken c → ((k : ValueKind) (a : Tree) → c ≡ plain k a → ⊥) → entry_more o t u y ≡ no_pairs OptionalValue
key_optional o t u (plain k a) y q n = absurd (n k a refl)
key_optional Plain t u (guarded k g v) y q n = λ j. entry_more Plain (q j) u y
key_optional Optional t u (guarded k g v) y q n = λ j. entry_more Optional (q j) u y
key_optional Plain t u (listed k l) y q n = λ j. entry_more Plain (q j) u y
key_optional Optional t u (listed k l) y q n = λ j. entry_more Optional (q j) u y

pub entry_value_refused : (o : Access) (t u : Translation) (k : ValueKind) (a : Tree) (f : WideFault) (y : Pairs) → t ≡ taken (plain k a) → u ≡ refused f → entry_more o t u y ≡ no_pairs f
entry_value_refused Plain t u k a f y q r = λ j. entry_more Plain (q j) (r j) y
entry_value_refused Optional t u k a f y q r = λ j. entry_more Optional (q j) (r j) y

-- no more entries
pub entries_end : (s : WideScope) (given : List (Access × CodeWide × CodeWide)) (i : ℕ) (done : List EntryPart) → length given ≤ i
    → map_translation (entries_more done (given_entries s (drop i given))) ≡ map_translation (pairs (parts_of done))
unfolding translated
entries_end s given i done h = ap (λ ys. map_translation (entries_more done (given_entries s ys))) (all_dropped given i h) ∙ ap map_translation (entries_pairs done)

-- ---- what the code returns, from its entries so far

pub entries_refusal : (s : WideScope) (given : List (Access × CodeWide × CodeWide)) (i : ℕ) (x : Access × CodeWide × CodeWide) (e : TranslationError) (done : List EntryPart) (all : Pairs)
    → all ≡ entries_more done (given_entries s (drop i given)) → i < length given → x ≡ get_or given i x
    → (is_memory e ≡ false → (y : Pairs) → entry_more x.0 (translated s (wide.view x.1)) (translated s (wide.view x.2)) y ≡ no_pairs (fault_of e))
    → IsRefusal (map_translation all) e
entries_refusal s given i x e done all inv h is r = λ m. ap map_translation inv ∙ entry_refused s given i x (fault_of e) done h is (r m)

-- a key that is an optional value
pub key_is_optional : (o : Access) (t u : Translation) (c : Carried) (y : Pairs) → t ≡ taken c → ((f : ValueKind → Tree → Translation) → on_plain c f ≡ refused OptionalValue)
    → entry_more o t u y ≡ no_pairs OptionalValue
key_is_optional o t u c y q n = key_optional o t u c y q (λ k a e. no_plain c n k a e)

-- one more entry of the code
pub entries_next : (s : WideScope) (given : List (Access × CodeWide × CodeWide)) (i : ℕ) (x : Access × CodeWide × CodeWide) (p : EntryPart) (done more : List EntryPart) (all : Pairs)
    → all ≡ entries_more done (given_entries s (drop i given)) → i < length given → x ≡ get_or given i x
    → ((ps : Pairs) → entry_more x.0 (translated s (wide.view x.1)) (translated s (wide.view x.2)) ps ≡ with_part p ps) → more ≡ done ++ p ∷ []
    → all ≡ entries_more more (given_entries s (drop (i + 1) given))
entries_next s given i x p done more all inv h is f w =
    inv ∙ entry_next s given i x p done h is f ∙ ap (λ d. entries_more d (given_entries s (drop (i + 1) given))) (sym w)

-- all entries
pub entries_whole : (s : WideScope) (given : List (Access × CodeWide × CodeWide)) (i : ℕ) (done slice : List EntryPart) (all : Pairs) (r : Result CodeCarried TranslationError)
    → all ≡ entries_more done (given_entries s (drop i given)) → length given ≤ i → slice ≡ done → ReturnsCarried (map_translation (pairs (parts_of slice))) r
    → ReturnsCarried (map_translation all) r
entries_whole s given i done slice all r inv h is x =
    subst (λ (t : Translation). ReturnsCarried t r)
    (sym (ap map_translation inv ∙ entries_end s given i done h ∙ ap (λ (d : List EntryPart). map_translation (pairs (parts_of d))) (sym is))) x
