-- Versions (SemVer 2.0.0; apiserver, pkg/cel/library/semverlib.go, Parse and normalizeAndParse).
use Rattle.std.specs.Prelude.{◌≡◌, ℕ, ◌^◌, List, [], ◌∷◌, length, take, drop, Bool, true, not, ◌&&◌, ◌||◌, ◌==◌, nat_lt}
use Rattle.std.specs.Prelude.{Option, Some, None, option_and_then, if◌then◌else◌}
use Rattle.text_numbers.specs.Numbers.{digits_len, number}
use Rattle.versions.specs.Identifiers.{are_pre_identifiers, ending, has_zero, is_small}
use Rattle.versions.specs.declared.version.Version.{Version as CodeVersion}

infixl 10 ◌>>=◌
-- the function applied to the value, if there is one
abbrev pub ◌>>=◌ : {A B : Type 0} → Option A → (A → Option B) → Option B
o >>= f = option_and_then f o

-- x, if the test passes
abbrev pub when : {X : Type 0} → Bool → X → Option X
when test x = if test then Some x else None

-- the numbers and the pre-release of a version, which is empty if there is none; build metadata count for nothing
pub record Version : Type 0 where
  pub major : ℕ
  pub minor : ℕ
  pub patch : ℕ
  pub pre : List ℕ

abbrev pub version_view : CodeVersion → Version
version_view v = record { major = v.major; minor = v.minor; patch = v.patch; pre = v.pre.now }

abbrev pub IsPre : List ℕ → Type 0
IsPre pre = (length pre == 0 || are_pre_identifiers pre) ≡ true

-- digits of a number of 64 bits; a zero may be in front of others if the text is normalized
abbrev pub is_allowed : Bool → List ℕ → Bool
is_allowed normalize digits = (normalize || not (has_zero digits)) && is_small digits

-- the number of these digits, if there are any, and the text that follows
abbrev pub numeral : Bool → List ℕ → List ℕ → Option (ℕ × List ℕ)
numeral normalize digits rest = when (not (length digits == 0) && is_allowed normalize digits) (number digits, rest)

-- the number at the front, and the text that follows
unfoldable pub number_at : Bool → List ℕ → Option (ℕ × List ℕ)
number_at normalize text = numeral normalize (take (digits_len text) text) (drop (digits_len text) text)

-- likewise for the patch: normalized, it may lack its digits if two bytes or more follow
unfoldable pub patch_at : Bool → List ℕ → Option (ℕ × List ℕ)
patch_at normalize text =
    if (normalize && digits_len text == 0) && nat_lt 1 (length text) then Some (0, text) else number_at normalize text

-- the text after a dot (46)
abbrev pub after_dot : List ℕ → Option (List ℕ)
after_dot [] = None
after_dot (b ∷ text) = if b == 46 then Some text else None

-- the next numbers; normalized, they are 0 where the text ends
unfoldable pub minor_at : Bool → List ℕ → Option (ℕ × List ℕ)
minor_at normalize rest = if normalize && length rest == 0 then Some (0, []) else (after_dot rest >>= number_at normalize)

unfoldable pub last_at : Bool → List ℕ → Option (ℕ × List ℕ)
last_at normalize rest = if normalize && length rest == 0 then Some (0, []) else (after_dot rest >>= patch_at normalize)

-- normalized, one v (118) in front is left out
abbrev pub without_v : Bool → List ℕ → List ℕ
without_v normalize [] = []
without_v normalize (b ∷ text) = if normalize && b == 118 then text else b ∷ text

-- `semver(text, normalize)`
unfoldable pub version_of : Bool → List ℕ → Option Version
version_of normalize text = do
  x ← number_at normalize (without_v normalize text)
  y ← minor_at normalize x.1
  z ← last_at normalize y.1
  pre ← ending z.1
  Some (record { major = x.0; minor = y.0; patch = z.0; pre = pre })

-- `major()`, `minor()`, `patch()`: an int, if it fits 64 bits
abbrev pub int_of : ℕ → Option ℕ
int_of n = when (nat_lt n (2 ^ 63)) n
