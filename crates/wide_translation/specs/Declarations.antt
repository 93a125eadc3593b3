-- Scopes, trees and errors of the code as plain data.
use Rattle.std.specs.Prelude.{◌≡◌, ℕ, Bool, true, false, List, [], ◌∷◌, Option, Some, None, Result, Ok, Err, map, string_bytes}
use Rattle.cel_reader.specs.Tree.{Tree, view}
use Rattle.cel_reader.specs.declared.expr.Expr.{Expr}
use Rattle.wide_kinds.specs.declared.kind.Kind.{Kind}
use Rattle.wide_translation.specs.declared.carried.Carried.{Carried as CodeCarried}
use Rattle.wide_translation.specs.declared.carried.Carried.TheVariants as code
use Rattle.wide_translation.specs.declared.names.Names.{Names}
use Rattle.wide_translation.specs.declared.names.Names.TheOpen.{Names-F}
use Rattle.wide_translation.specs.declared.names.Names.TheOpen as layer
use Rattle.wide_translation.specs.declared.names.Names.TheFolds.{fold-Names}
use Rattle.wide_translation.specs.declared.scope.Variable.{Variable}
use Rattle.wide_translation.specs.declared.translated.Translated.{Translated}
use Rattle.wide_translation.specs.declared.translation_error.TranslationError.{TranslationError}
use Rattle.wide_translation.specs.declared.translation_error.TranslationError.TheVariants as error
use Rattle.wide_translation.specs.Carried.{Carried, plain, guarded, listed, WideFault, UnknownName, OptionalValue, TakenName, UnsignedInt, NeedsIndices, OptionalEntry, Unsupported, Translation, taken, refused}
use Rattle.wide_translation.specs.Parts.{IsFinished, EntryParts, no_parts_left, entry_part, optional_part, Pairs, pairs, no_pairs}
use Rattle.wide_translation.specs.declared.entry_part.EntryPart.{EntryPart}
use Rattle.wide_translation.specs.declared.entry_part.EntryPart.TheVariants as entry
use Rattle.wide_translation.specs.Pairs.{PairUse, values_only, keys_only, both}
use Rattle.wide_translation.specs.Scope.{WideScope, Place, itself, part, unused, enclosed, scope_of, condition_scope}
use Rattle.wide_translation.specs.declared.pair_ranges.PairRange.{PairRange}
use Rattle.wide_translation.specs.declared.pair_use.PairUse.{PairUse as CodeUse}
use Rattle.wide_translation.specs.declared.pair_use.PairUse.TheVariants as uses
use Rattle.wide_translation.specs.declared.place.Place.{Place as CodePlace}
use Rattle.wide_translation.specs.declared.place.Place.TheVariants as places

-- a variable and its kind
abbrev pub declaration : Variable → List ℕ × Kind
declaration v = (string_bytes v.name, v.kind)

-- how a name of the code is written, as plain data
abbrev pub place_view : CodePlace → Place
place_view (places.Itself k) = itself k
place_view (places.Key y) = part (string_bytes y) 0
place_view (places.Value y) = part (string_bytes y) 1
place_view places.Unused = unused

-- which names are used, as plain data
abbrev pub use_view : CodeUse → PairUse
use_view uses.ValuesOnly = values_only
use_view uses.KeysOnly = keys_only
use_view uses.Both = both

-- one layer of names, and the scope of the names around it
abbrev pub scope_step : Names-F WideScope → WideScope
scope_step (layer.Outside variables wrapped) = scope_of wrapped (map declaration variables.now)
scope_step (layer.Condition wrapped) = condition_scope wrapped
scope_step (layer.Within n p outer) = enclosed n.now (place_view p) outer.now

-- the scope of the code's names
abbrev pub scope_in : Names → WideScope
scope_in = fold-Names WideScope scope_step

-- what the code carries as plain data
abbrev pub carried_view : CodeCarried → Carried
carried_view (code.Plain k t) = plain k (view t)
carried_view (code.Guarded k g v) = guarded k (view g) (view v)
carried_view (code.Listed k l) = listed k (view l)

-- whether the error is that memory ran out
abbrev pub is_memory : TranslationError → Bool
is_memory error.Memory = true
is_memory _ = false

-- the fault that an error tells; that of out of memory is not used
abbrev pub fault_of : TranslationError → WideFault
fault_of (error.UnknownName n) = UnknownName (string_bytes n)
fault_of error.OptionalValue = OptionalValue
fault_of (error.TakenName n) = TakenName (string_bytes n)
fault_of error.UnsignedInt = UnsignedInt
fault_of error.NeedsIndices = NeedsIndices
fault_of error.OptionalEntry = OptionalEntry
fault_of error.Unsupported = Unsupported
fault_of error.Memory = Unsupported

-- the translation is refused with the fault of the error, unless that is out of memory
abbrev pub IsRefusal : Translation → TranslationError → Type 0
IsRefusal t e = is_memory e ≡ false → t ≡ refused (fault_of e)

-- the translation is taken, and finished as this kind and tree
abbrev pub IsTranslatedTo : Translation → Kind → Tree → Type 0
IsTranslatedTo (taken c) k a = IsFinished c k a
IsTranslatedTo (refused f) k a = ⊥

-- what the code returns is the translation, or the error of its fault
abbrev pub IsTranslation : Translation → Result Translated TranslationError → Type 0
IsTranslation t (Ok r) = IsTranslatedTo t r.kind (view r.expression)
IsTranslation t (Err e) = IsRefusal t e

-- what the code returns is the translation as it is carried, or the error of its fault
abbrev pub ReturnsCarried : Translation → Result CodeCarried TranslationError → Type 0
ReturnsCarried t (Ok c) = t ≡ taken (carried_view c)
ReturnsCarried t (Err e) = IsRefusal t e

-- the range of a macro, or the error that there is none
abbrev pub IsPairRange : Option Tree → Result Expr TranslationError → Type 0
IsPairRange o (Ok e) = o ≡ Some (view e)
IsPairRange o (Err e) = is_memory e ≡ false → (o ≡ None) × (fault_of e ≡ NeedsIndices)

-- what follows from a tree, which the code returns, or the error of its fault
abbrev pub ReturnsTree : ((Tree → Translation) → Translation) → Result Expr TranslationError → Type 0
ReturnsTree g (Ok e) = (f : Tree → Translation) → g f ≡ f (view e)
ReturnsTree g (Err e) = is_memory e ≡ false → (f : Tree → Translation) → g f ≡ refused (fault_of e)

-- the same of the range of a macro, which the code returns with the iteration name
abbrev pub ReturnsRange : ((Tree → Translation) → Translation) → List ℕ → Result PairRange TranslationError → Type 0
ReturnsRange g y (Ok r) = (string_bytes r.binder ≡ y) × ((f : Tree → Translation) → g f ≡ f (view r.range))
ReturnsRange g y (Err e) = is_memory e ≡ false → (f : Tree → Translation) → g f ≡ refused (fault_of e)

-- an entry of the code before others
abbrev pub part_step : EntryPart → EntryParts → EntryParts
part_step (entry.Always k v) ps = entry_part (view k) (view v) ps
part_step (entry.Optional f g v) ps = optional_part (string_bytes f) (view g) (view v) ps

-- the entries of the code
abbrev pub parts_of : List EntryPart → EntryParts
parts_of [] = no_parts_left
parts_of (p ∷ more) = part_step p (parts_of more)

-- an entry of the code before others, or the first fault
abbrev pub with_part : EntryPart → Pairs → Pairs
with_part p (pairs ps) = pairs (part_step p ps)
with_part p (no_pairs e) = no_pairs e

-- what the code returns is the entry that comes before any others, or the error of its fault
abbrev pub ReturnsEntryPart : (Pairs → Pairs) → Result EntryPart TranslationError → Type 0
ReturnsEntryPart f (Ok p) = (ps : Pairs) → f ps ≡ with_part p ps
ReturnsEntryPart f (Err e) = is_memory e ≡ false → (ps : Pairs) → f ps ≡ no_pairs (fault_of e)
