-- Macros by their names and numbers of arguments (cel-spec, Macros; cel-go's optional and two-name macros).
use Rattle.std.specs.Prelude.{ℕ, ◌+◌, List, Bool, ◌||◌, ◌==◌, if◌then◌else◌, Option, Some, None, codes, bytes_eq}
use Rattle.wide_reader.specs.Tree as tree
use Rattle.wide_reader.specs.Tree.{Wide, Wides, no_wides, more_wides}
use Rattle.wide_reader.specs.declared.wide.Access.TheVariants.{Plain}
use Rattle.wide_reader.specs.declared.form.Form.{Form, TheVariants.Fold, TheVariants.FilterMap, TheVariants.PairFold, TheVariants.PairFilterMap, TheVariants.OptionalFold, TheVariants.ComputedMap}
use Rattle.wide_reader.specs.declared.wide.Macro.TheVariants as macros
use Rattle.wide_reader.specs.declared.wide.PairMacro.TheVariants as pairs
use Rattle.wide_reader.specs.declared.wide.OptionalMacro.TheVariants as optionals

-- the macro of this name with two arguments, the first a name
abbrev pub of_two : List ℕ → Option Form
of_two n =
    if bytes_eq n (codes "all") then Some (Fold macros.All)
    else (if bytes_eq n (codes "exists") then Some (Fold macros.Exists)
    else (if bytes_eq n (codes "exists_one") then Some (Fold macros.ExistsOne)
    else (if bytes_eq n (codes "filter") then Some (Fold macros.Filter)
    else (if bytes_eq n (codes "map") then Some (Fold macros.Map)
    else (if bytes_eq n (codes "optMap") then Some (OptionalFold optionals.Map)
    else (if bytes_eq n (codes "optFlatMap") then Some (OptionalFold optionals.FlatMap)
    else None))))))

-- the macro of this name with three arguments: of `map` the first is a name, of the others the first two
abbrev pub of_three : List ℕ → Option Form
of_three n =
    if bytes_eq n (codes "map") then Some FilterMap
    else (if bytes_eq n (codes "all") then Some (PairFold pairs.All)
    else (if bytes_eq n (codes "exists") then Some (PairFold pairs.Exists)
    else (if bytes_eq n (codes "exists_one") || bytes_eq n (codes "existsOne") then Some (PairFold pairs.ExistsOne)
    else (if bytes_eq n (codes "transformList") then Some (PairFold pairs.TransformList)
    else (if bytes_eq n (codes "transformMap") || bytes_eq n (codes "transformMapEntry") then Some ComputedMap
    else None)))))

-- the macro of this name with four arguments, the first two names
abbrev pub of_four : List ℕ → Option Form
of_four n =
    if bytes_eq n (codes "transformList") then Some PairFilterMap
    else (if bytes_eq n (codes "transformMap") || bytes_eq n (codes "transformMapEntry") then Some ComputedMap
    else None)

-- the macro of this name with this number of arguments, if any; otherwise the method is an ordinary one
abbrev pub form_of : List ℕ → ℕ → Option Form
form_of n count =
    if count == 2 then of_two n else (if count == 3 then of_three n else (if count == 4 then of_four n else None))

-- whether a function's name is that of the macro that tests for a field
abbrev pub is_has : List ℕ → Bool
is_has n = bytes_eq n (codes "has")

-- the number of arguments
abbrev pub wide_count : Wides → ℕ
wide_count no_wides = 0
wide_count (more_wides a more) = wide_count more + 1

-- a macro of this form over these arguments; the method, if an argument that has to be a name is none, or both names
-- are the same
abbrev pub formed : Option Form → Wide → List ℕ → Wides → Wide
formed (Some (Fold m)) a n (more_wides (tree.name x) (more_wides p no_wides)) = tree.fold m a x p
formed (Some (OptionalFold m)) a n (more_wides (tree.name x) (more_wides t no_wides)) = tree.optional_fold m a x t
formed (Some FilterMap) a n (more_wides (tree.name x) (more_wides p (more_wides t no_wides))) = tree.filter_map a x p t
formed (Some (PairFold m)) a n (more_wides (tree.name k) (more_wides (tree.name v) (more_wides p no_wides))) =
    if bytes_eq k v then tree.method a n (more_wides (tree.name k) (more_wides (tree.name v) (more_wides p no_wides)))
    else tree.pair_fold m a k v p
formed (Some PairFilterMap) a n (more_wides (tree.name k) (more_wides (tree.name v) (more_wides p (more_wides t no_wides)))) =
    if bytes_eq k v then tree.method a n (more_wides (tree.name k) (more_wides (tree.name v) (more_wides p (more_wides t no_wides))))
    else tree.pair_filter_map a k v p t
formed _ a n more = tree.method a n more

-- the call of a method, or the macro that it is
abbrev pub method_of : Wide → List ℕ → Wides → Wide
method_of a n more = formed (form_of n (wide_count more)) a n more

-- the test for a field that the argument selects without a question mark; otherwise the call
abbrev pub tested : List ℕ → Wides → Wide
tested n (more_wides (tree.select a Plain f) no_wides) = tree.has a f
tested n more = tree.call n more

-- the call of a function, or the test for a field
abbrev pub call_of : List ℕ → Wides → Wide
call_of n more = if is_has n then tested n more else tree.call n more
