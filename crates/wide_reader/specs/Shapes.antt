-- The arguments of macros.
use Rattle.std.specs.Prelude.{◌≡◌, ℕ, List, [], ◌∷◌, Bool, true, false, not, Option, Some, None, is_some, bytes_eq}
use Rattle.wide_reader.specs.Tree as tree
use Rattle.wide_reader.specs.Tree.{Wide, Wides, no_wides, more_wides}
use Rattle.wide_reader.specs.declared.wide.Access.TheVariants.{Plain}
use Rattle.wide_reader.specs.declared.form.Form.{Form, TheVariants.Fold, TheVariants.FilterMap, TheVariants.PairFold, TheVariants.PairFilterMap, TheVariants.OptionalFold, TheVariants.ComputedMap}

-- the name, if the expression is one without a dot before it
abbrev pub plain_name : Wide → Option (List ℕ)
plain_name (tree.name n) = Some n
plain_name _ = None

-- whether both are names, and different ones
abbrev pub are_names : Option (List ℕ) → Option (List ℕ) → Bool
are_names (Some k) (Some v) = not (bytes_eq k v)
are_names _ _ = false

-- whether the first argument is a name
abbrev pub begins_with_name : Wides → Bool
begins_with_name no_wides = false
begins_with_name (more_wides a more) = is_some (plain_name a)

-- whether the first two arguments are different names
abbrev pub begins_with_names : Wides → Bool
begins_with_names (more_wides a (more_wides b more)) = are_names (plain_name a) (plain_name b)
begins_with_names _ = false

-- whether the arguments begin with the names that the macro takes
abbrev pub has_names : Form → Wides → Bool
has_names (Fold m) more = begins_with_name more
has_names (OptionalFold m) more = begins_with_name more
has_names FilterMap more = begins_with_name more
has_names (PairFold m) more = begins_with_names more
has_names PairFilterMap more = begins_with_names more
has_names ComputedMap more = false

-- whether the only argument selects a field without a question mark
abbrev pub is_selection : Wides → Bool
is_selection (more_wides (tree.select a Plain f) no_wides) = true
is_selection _ = false

-- the arguments are a name and another one
abbrev pub HasName : List Wide → Type 0
HasName ws = (x : List ℕ) × (p : Wide) × (ws ≡ tree.name x ∷ p ∷ [])

-- the arguments are two names
abbrev pub AreNames : List Wide → Type 0
AreNames ws = (k : List ℕ) × (v : List ℕ) × (ws ≡ tree.name k ∷ tree.name v ∷ [])

-- the arguments are two different names and another one
abbrev pub HasTwoNames : List Wide → Type 0
HasTwoNames ws = (k : List ℕ) × (v : List ℕ) × (p : Wide) × (ws ≡ tree.name k ∷ tree.name v ∷ p ∷ []) × (bytes_eq k v ≡ false)

-- the arguments are those of a macro of this form
abbrev pub AreArguments : Form → List Wide → Type 0
AreArguments (Fold m) ws = HasName ws
AreArguments (OptionalFold m) ws = HasName ws
AreArguments FilterMap ws = (x : List ℕ) × (p : Wide) × (t : Wide) × (ws ≡ tree.name x ∷ p ∷ t ∷ [])
AreArguments (PairFold m) ws = HasTwoNames ws
AreArguments PairFilterMap ws =
    (k : List ℕ) × (v : List ℕ) × (p : Wide) × (t : Wide) × (ws ≡ tree.name k ∷ tree.name v ∷ p ∷ t ∷ []) × (bytes_eq k v ≡ false)
AreArguments ComputedMap ws = ⊥
