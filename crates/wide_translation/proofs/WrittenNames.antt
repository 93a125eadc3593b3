-- What iteration names are written as.
use Rattle.std.proofs.Common.{◌≡◌, ℕ, zero, suc, Bool, true, false, ◌||◌, List, ◌++◌, replicate, bytes_eq, codes, if◌then◌else◌}
use Rattle.std.proofs.Common.{refl, ap, sym, ◌∙◌}
use lib.Pointwise.{bytes_decides}
unfoldable use Rattle.cel_macros.specs.Environment.{is_root}
use Rattle.cel_macros.specs.MacroFault.{is_taken as is_reserved}
use Rattle.cel_macros.specs.Macros.{variables_name}
use Rattle.wide_translation.specs.Names.{pair_name, is_taken, written_name}

-- ---- bools

pub or_left : (a b : Bool) → (a || b) ≡ false → a ≡ false
or_left false b h = refl
or_left true b h = h

pub or_right : (a b : Bool) → (a || b) ≡ false → b ≡ false
or_right false b h = h
or_right true b h = absurd (cc)

-- ---- two names of which one alone passes a test

unlike_by : (f : List ℕ → Bool) (b : Bool) (x n : List ℕ) → bytes_eq x n ≡ b → f x ≡ false → f n ≡ true → b ≡ false
unlike_by f false x n e h g = refl
unlike_by f true x n e h g = absurd (let same : x ≡ n = (bytes_decides x n).0 e in let other : f n ≡ false = sym (ap f same) ∙ h in cc)

pub unlike : (f : List ℕ → Bool) (x n : List ℕ) → f x ≡ false → f n ≡ true → bytes_eq x n ≡ false
unlike f x n h g = unlike_by f (bytes_eq x n) x n refl h g

other_by : (f : List ℕ → Bool) (b : Bool) (x n : List ℕ) → bytes_eq x n ≡ b → f x ≡ true → f n ≡ false → b ≡ false
other_by f false x n e h g = refl
other_by f true x n e h g = absurd (let same : x ≡ n = (bytes_decides x n).0 e in let other : f n ≡ true = sym (ap f same) ∙ h in cc)

other : (f : List ℕ → Bool) (x n : List ℕ) → f x ≡ true → f n ≡ false → bytes_eq x n ≡ false
other f x n h g = other_by f (bytes_eq x n) x n refl h g

-- ---- what is written is neither a root nor `variables`

no_root_by : (b : Bool) (x : List ℕ) → is_reserved x ≡ b → is_root (if b then codes "celbpf_" ++ x else x) ≡ false
unfolding is_root
no_root_by true x e = refl
no_root_by false x e = or_left (is_root x) (bytes_eq variables_name x) e

pub written_is_no_root : (x : List ℕ) → is_root (written_name x) ≡ false
written_is_no_root x = no_root_by (is_reserved x) x refl

no_variables_by : (b : Bool) (x : List ℕ) → is_reserved x ≡ b → bytes_eq variables_name (if b then codes "celbpf_" ++ x else x) ≡ false
no_variables_by true x e = refl
no_variables_by false x e = or_right (is_root x) (bytes_eq variables_name x) e

pub written_is_no_variables : (x : List ℕ) → bytes_eq variables_name (written_name x) ≡ false
written_is_no_variables x = no_variables_by (is_reserved x) x refl

-- ---- different names are written differently

apart_by : (b c : Bool) (x n : List ℕ) → is_taken x ≡ false → is_taken n ≡ false → bytes_eq x n ≡ false
    → bytes_eq (if b then codes "celbpf_" ++ x else x) (if c then codes "celbpf_" ++ n else n) ≡ false
apart_by true true x n h g e = e
apart_by true false x n h g e = other is_taken (codes "celbpf_" ++ x) n refl g
apart_by false true x n h g e = unlike is_taken x (codes "celbpf_" ++ n) h refl
apart_by false false x n h g e = e

pub written_apart : (x n : List ℕ) → is_taken x ≡ false → is_taken n ≡ false → bytes_eq x n ≡ false → bytes_eq (written_name x) (written_name n) ≡ false
written_apart x n h g e = apart_by (is_reserved x) (is_reserved n) x n h g e

-- ---- the names that the translation binds are written for no name

not_written_by : (b : Bool) (z n : List ℕ) → is_reserved n ≡ b → is_reserved z ≡ false → is_taken n ≡ false
    → bytes_eq (codes "celbpf_" ++ z) (if b then codes "celbpf_" ++ n else n) ≡ false
not_written_by true z n e h g = unlike is_reserved z n h e
not_written_by false z n e h g = other is_taken (codes "celbpf_" ++ z) n refl g

pub not_written : (z n : List ℕ) → is_reserved z ≡ false → is_taken n ≡ false → bytes_eq (codes "celbpf_" ++ z) (written_name n) ≡ false
not_written z n h g = not_written_by (is_reserved n) z n refl h g

-- `p`, `pp`, .. are neither roots nor `variables`
pub pair_end_is_free : (d : ℕ) → is_reserved (codes "p" ++ replicate d 112) ≡ false
unfolding is_root
pair_end_is_free zero = refl
pair_end_is_free (suc d) = refl

pair_by : (b : Bool) (x : List ℕ) (d : ℕ) → is_reserved x ≡ b → is_taken x ≡ false → bytes_eq (if b then codes "celbpf_" ++ x else x) (pair_name d) ≡ false
pair_by true x d e h = other is_reserved x (codes "p" ++ replicate d 112) e (pair_end_is_free d)
pair_by false x d e h = unlike is_taken x (pair_name d) h refl

pub written_and_pair : (x : List ℕ) (d : ℕ) → is_taken x ≡ false → bytes_eq (written_name x) (pair_name d) ≡ false
written_and_pair x d h = pair_by (is_reserved x) x d refl h
