-- The result for a text is unique.
use Rattle.wide_reader.proofs.Prelude.{◌≡◌, ◌≢◌, ℕ, zero, suc, ◌+◌, ◌<◌, ◌≤◌, List, [], ◌∷◌, ◌++◌, length, take, drop, true, false, true≢false, Ok, Err, Result, Some, None, refl, sym, ◌∙◌, ap, subst, inl, inr, arith, cases_order, length-append, length-take, take-append-drop, WideWord, WideToken, WideLexes, one_end, Wide, CodeWide, words_only, Expression, One, WideDerives, AreSupported, IsWideExpression, WideIsViablePrefix, WideUnexpectedAt, WideDeepAt, UnsupportedAt, WideReadReturns, FormsWide, IsWide, place_at, is_unsupported, open_limit, WideReadError, ReadError, UnknownCharacter, InvalidTextLiteral, IntOutOfRange, UnexpectedToken, TooManyOpen, TextTooLong, Memory}
use Rattle.wide_tokens.specs.Token.{bytes, double}
use Rattle.wide_reader.specs.Faults.{fault}
use Rattle.wide_reader.specs.Laws.{wide_of}
use Rattle.wide_reader.specs.declared.wide_error.WideReadError.TheVariants as errors
use Rattle.wide_reader.specs.declared.wide_error.MacroFault.{MacroFault}
use Rattle.wide_reader.proofs.Places.{fewer}
use Rattle.wide_reader.proofs.Told.{one_list, one_formed, one_wide}

-- ---- words

-- a prefix longer than that before a misfit cannot be extended
behind_misfit : (count many : ℕ) (ws : List WideWord) → count < many → many ≤ length ws → WideUnexpectedAt count ws → (room : ℕ)
    → WideIsViablePrefix room (take many ws) → ⊥
behind_misfit count many ws h within wrong room v = wrong.3 (omega (arith, h, within)) room (fewer room (suc count) many ws h within v)

-- with 100 open, a prefix longer than that before one bracket too many cannot be extended
behind_deep : (count many : ℕ) (ws : List WideWord) → count < many → many ≤ length ws → WideDeepAt count ws → WideIsViablePrefix open_limit (take many ws) → ⊥
behind_deep count many ws h within wrong v = wrong.5 (fewer open_limit (suc count) many ws h within v)

-- a word after these is one of the words
one_within : (count : ℕ) (w : WideWord) (ws : List WideWord) → take (suc count) ws ≡ take count ws ++ w ∷ [] → count < length ws
one_within count w ws e =
    let more : length (take (suc count) ws) ≡ length (take count ws) + 1 = ap length e ∙ length-append (take count ws) (w ∷ []) in
    omega (arith, more, length-take (suc count) ws, length-take count ws)

-- words with an unsupported one are not supported
not_supported : (w x : WideWord) → is_unsupported w ≡ true → x ∷ [] ≡ w ∷ [] → is_unsupported x ≡ false → ⊥
not_supported w x u e s = let f : x ≡ w = cc in true≢false (sym u ∙ ap is_unsupported (sym f) ∙ s)

foreign_in : (w : WideWord) (count many : ℕ) (ws : List WideWord) → is_unsupported w ≡ true → take (suc count) ws ≡ take count ws ++ w ∷ [] → count < many
    → AreSupported (take many ws) → ⊥
foreign_in w zero many [] u e h s = absurd cc
foreign_in w (suc n) many [] u e h s = absurd cc
foreign_in w zero zero (x ∷ ws) u e h s = omega (arith, h)
foreign_in w zero (suc m) (x ∷ ws) u e h s = not_supported w x u e s.0
foreign_in w (suc n) zero (x ∷ ws) u e h s = omega (arith, h)
foreign_in w (suc n) (suc m) (x ∷ ws) u e h s =
    let f : take (suc n) ws ≡ take n ws ++ w ∷ [] = cc in foreign_in w n m ws u f (omega (arith, h)) s.1

foreign_in_all : (w : WideWord) (count : ℕ) (ws : List WideWord) → is_unsupported w ≡ true → take (suc count) ws ≡ take count ws ++ w ∷ [] → AreSupported ws → ⊥
foreign_in_all w zero [] u e s = absurd cc
foreign_in_all w (suc n) [] u e s = absurd cc
foreign_in_all w zero (x ∷ ws) u e s = not_supported w x u e s.0
foreign_in_all w (suc n) (x ∷ ws) u e s = let f : take (suc n) ws ≡ take n ws ++ w ∷ [] = cc in foreign_in_all w n ws u f s.1

one_word : (w v : WideWord) (count : ℕ) (ws : List WideWord) → take (suc count) ws ≡ take count ws ++ w ∷ [] → take (suc count) ws ≡ take count ws ++ v ∷ [] → w ≡ v
one_word w v zero [] e f = absurd cc
one_word w v (suc n) [] e f = absurd cc
one_word w v zero (x ∷ ws) e f = let g : w ∷ [] ≡ v ∷ [] = sym e ∙ f in cc
one_word w v (suc n) (x ∷ ws) e f =
    let g : take (suc n) ws ≡ take n ws ++ w ∷ [] = cc in let h : take (suc n) ws ≡ take n ws ++ v ∷ [] = cc in one_word w v n ws g h

-- a cause of an error in words
data Fault : Type 0 where
  misfit : Fault
  deep : Fault
  foreign_bytes : Fault
  foreign_double : Fault

abbrev WrongAt : Fault → ℕ → List WideWord → Type 0
WrongAt misfit count ws = WideUnexpectedAt count ws
WrongAt deep count ws = WideDeepAt count ws
WrongAt foreign_bytes count ws = UnsupportedAt bytes count ws
WrongAt foreign_double count ws = UnsupportedAt double count ws

abbrev error_of : Fault → ℕ → WideReadError
error_of misfit place = errors.Text (UnexpectedToken place)
error_of deep place = errors.Text (TooManyOpen place)
error_of foreign_bytes place = errors.Bytes place
error_of foreign_double place = errors.Double place

module _ (ws : List WideWord) (count other : ℕ) where
  misfit_once : WideUnexpectedAt count ws → WideUnexpectedAt other ws → count ≡ other
  misfit_once a b = elim (cases_order count other) [
    | inl e ↦ e
    | inr (inl h) ↦ absurd (behind_misfit count other ws h b.1 a open_limit b.2)
    | inr (inr h) ↦ absurd (behind_misfit other count ws h a.1 b open_limit a.2)
  ]

  deep_once : WideDeepAt count ws → WideDeepAt other ws → count ≡ other
  deep_once a b = elim (cases_order count other) [
    | inl e ↦ e
    | inr (inl h) ↦ absurd (behind_deep count other ws h (omega (arith, one_within other b.1 ws b.2)) a b.4)
    | inr (inr h) ↦ absurd (behind_deep other count ws h (omega (arith, one_within count a.1 ws a.2)) b a.4)
  ]

  misfit_not_deep : WideUnexpectedAt count ws → WideDeepAt other ws → ⊥
  misfit_not_deep a b = elim (cases_order other count) [
    | inl e ↦ behind_misfit count (suc other) ws (omega (arith, e)) (one_within other b.1 ws b.2) a (suc open_limit) b.6
    | inr (inl h) ↦ behind_deep other count ws h a.1 b a.2
    | inr (inr h) ↦ behind_misfit count (suc other) ws (omega (arith, h)) (one_within other b.1 ws b.2) a (suc open_limit) b.6
  ]

  misfit_not_foreign : (w : WideWord) → is_unsupported w ≡ true → WideUnexpectedAt count ws → UnsupportedAt w other ws → ⊥
  misfit_not_foreign w u a b = elim (cases_order other count) [
    | inl e ↦ behind_misfit count (suc other) ws (omega (arith, e)) (one_within other w ws b.1) a open_limit b.2
    | inr (inl h) ↦ foreign_in w other count ws u b.1 h a.0
    | inr (inr h) ↦ behind_misfit count (suc other) ws (omega (arith, h)) (one_within other w ws b.1) a open_limit b.2
  ]

  deep_not_foreign : (w : WideWord) → is_unsupported w ≡ true → WideDeepAt count ws → UnsupportedAt w other ws → ⊥
  deep_not_foreign w u a b = elim (cases_order other count) [
    | inl e ↦ behind_deep count (suc other) ws (omega (arith, e)) (one_within other w ws b.1) a b.2
    | inr (inl h) ↦ foreign_in w other count ws u b.1 h a.0
    | inr (inr h) ↦ behind_deep count (suc other) ws (omega (arith, h)) (one_within other w ws b.1) a b.2
  ]

  foreign_once : (w v : WideWord) → is_unsupported w ≡ true → is_unsupported v ≡ true → UnsupportedAt w count ws → UnsupportedAt v other ws → count ≡ other
  foreign_once w v u t a b = elim (cases_order count other) [
    | inl e ↦ e
    | inr (inl h) ↦ absurd (foreign_in w count other ws u a.1 h b.0)
    | inr (inr h) ↦ absurd (foreign_in v other count ws t b.1 h a.0)
  ]

bytes_or_double : (ws : List WideWord) (count other : ℕ) → UnsupportedAt bytes count ws → UnsupportedAt double other ws → ⊥
bytes_or_double ws count other a b =
    let e = foreign_once ws count other bytes double refl refl a b in
    let f = subst (λ (n : ℕ). take (suc n) ws ≡ take n ws ++ bytes ∷ []) e a.1 in
    let g : bytes ≡ double = one_word bytes double other ws f b.1 in
    absurd cc

wrong_once : (ws : List WideWord) (x y : Fault) (count other : ℕ) → WrongAt x count ws → WrongAt y other ws → (count ≡ other) × (x ≡ y)
wrong_once ws misfit misfit count other a b = (misfit_once ws count other a b, refl)
wrong_once ws misfit deep count other a b = absurd (misfit_not_deep ws count other a b)
wrong_once ws misfit foreign_bytes count other a b = absurd (misfit_not_foreign ws count other bytes refl a b)
wrong_once ws misfit foreign_double count other a b = absurd (misfit_not_foreign ws count other double refl a b)
wrong_once ws deep misfit count other a b = absurd (misfit_not_deep ws other count b a)
wrong_once ws deep deep count other a b = (deep_once ws count other a b, refl)
wrong_once ws deep foreign_bytes count other a b = absurd (deep_not_foreign ws count other bytes refl a b)
wrong_once ws deep foreign_double count other a b = absurd (deep_not_foreign ws count other double refl a b)
wrong_once ws foreign_bytes misfit count other a b = absurd (misfit_not_foreign ws other count bytes refl b a)
wrong_once ws foreign_bytes deep count other a b = absurd (deep_not_foreign ws other count bytes refl b a)
wrong_once ws foreign_bytes foreign_bytes count other a b = (foreign_once ws count other bytes bytes refl refl a b, refl)
wrong_once ws foreign_bytes foreign_double count other a b = absurd (bytes_or_double ws count other a b)
wrong_once ws foreign_double misfit count other a b = absurd (misfit_not_foreign ws other count double refl b a)
wrong_once ws foreign_double deep count other a b = absurd (deep_not_foreign ws other count double refl b a)
wrong_once ws foreign_double foreign_bytes count other a b = absurd (bytes_or_double ws other count b a)
wrong_once ws foreign_double foreign_double count other a b = (foreign_once ws count other double double refl refl a b, refl)

-- an expression has no error
begun : (ws : List WideWord) (n : ℕ) (a : Wide) → IsWideExpression open_limit ws a → WideIsViablePrefix open_limit (take n ws)
begun ws n a d = (drop n ws, a, subst (λ (us : List WideWord). WideDerives Expression open_limit us (One a) []) (sym (take-append-drop n ws)) d)

not_wrong : (ws : List WideWord) (a : Wide) (x : Fault) (count : ℕ) → AreSupported ws → IsWideExpression open_limit ws a → WrongAt x count ws → ⊥
not_wrong ws a misfit count s d wrong = wrong.4 open_limit a d
not_wrong ws a deep count s d wrong = wrong.5 (begun ws (suc count) a d)
not_wrong ws a foreign_bytes count s d wrong = foreign_in_all bytes count ws refl wrong.1 s
not_wrong ws a foreign_double count s d wrong = foreign_in_all double count ws refl wrong.1 s

-- ---- texts

-- a text is an expression, or has no tokens, or has an error at some word, or an invalid macro
data Outcome (source : List ℕ) : Result Wide WideReadError → Type 0 where
  is_read : {w : Wide} → IsWide source w → Outcome source (Ok w)
  cut_off : {e : ReadError} → WideLexes source (Err e) → Outcome source (Err (errors.Text e))
  wrong : (x : Fault) (lexemes : List WideToken) (count : ℕ) → WideLexes source (Ok lexemes) → WrongAt x count (words_only lexemes)
      → Outcome source (Err (error_of x (place_at (length source) (drop count lexemes))))
  bad_macro : {f : MacroFault} (w : Wide) → FormsWide source w → fault w ≡ Some f → Outcome source (Err (errors.Macro f))

no_tokens : {P : Type 0} (source : List ℕ) (ls : List WideToken) (e : ReadError) → WideLexes source (Ok ls) → WideLexes source (Err e) → P
no_tokens source ls e l m = let f = one_end source (Ok ls) (Err e) l m in absurd cc

one_cut : (source : List ℕ) (e f : ReadError) → WideLexes source (Err e) → WideLexes source (Err f) → e ≡ f
one_cut source e f l m = let g = one_end source (Err e) (Err f) l m in cc

no_wrong : {P : Type 0} (source : List ℕ) (w : Wide) (x : Fault) (ls : List WideToken) (count : ℕ) → FormsWide source w → WideLexes source (Ok ls)
    → WrongAt x count (words_only ls) → P
no_wrong source w x ls count p l a =
    let e = one_list source ls p.0 l p.1 in
    absurd (not_wrong (words_only p.0) w x count p.2.0 p.2.1 (subst (λ (ms : List WideToken). WrongAt x count (words_only ms)) e a))

one_macro : {P : Type 0} (source : List ℕ) (w u : Wide) (f : MacroFault) → FormsWide source w → fault w ≡ None → FormsWide source u → fault u ≡ Some f → P
one_macro source w u f p e q g = let h = one_formed source w u p q in let k : None ≡ Some f = sym e ∙ ap fault h ∙ g in absurd cc

same_fault : (source : List ℕ) (w u : Wide) (f g : MacroFault) → FormsWide source w → fault w ≡ Some f → FormsWide source u → fault u ≡ Some g → f ≡ g
same_fault source w u f g p e q h = let i = one_formed source w u p q in let k : Some f ≡ Some g = sym e ∙ ap fault i ∙ h in cc

same_wrong : (source : List ℕ) (x y : Fault) (ls ms : List WideToken) (n m : ℕ) → ls ≡ ms → n ≡ m → x ≡ y
    → error_of x (place_at (length source) (drop n ls)) ≡ error_of y (place_at (length source) (drop m ms))
same_wrong source x y ls ms n m e f g =
    ap (λ (z : Fault). error_of z (place_at (length source) (drop n ls))) g
    ∙ ap (λ (k : ℕ). error_of y (place_at (length source) (drop k ls))) f ∙ ap (λ (ks : List WideToken). error_of y (place_at (length source) (drop m ks))) e

one_outcome : (source : List ℕ) (r s : Result Wide WideReadError) → Outcome source r → Outcome source s → r ≡ s
one_outcome source r s (is_read {w = a} p) (is_read {w = b} q) = ap (λ (w : Wide). Ok w) (one_wide source a b p q)
one_outcome source r s (is_read p) (cut_off {e = e} m) = no_tokens source p.0.0 e p.0.1 m
one_outcome source r s (is_read {w = a} p) (wrong x ls n l q) = no_wrong source a x ls n p.0 l q
one_outcome source r s (is_read {w = a} p) (bad_macro {f = f} u q h) = one_macro source a u f p.0 p.1 q h
one_outcome source r s (cut_off {e = e} m) (is_read q) = no_tokens source q.0.0 e q.0.1 m
one_outcome source r s (cut_off {e = e} l) (cut_off {e = f} m) = ap (λ (x : ReadError). Err (errors.Text x)) (one_cut source e f l m)
one_outcome source r s (cut_off {e = e} m) (wrong x ls n l q) = no_tokens source ls e l m
one_outcome source r s (cut_off {e = e} m) (bad_macro u q h) = no_tokens source q.0 e q.1 m
one_outcome source r s (wrong x ls n l p) (is_read {w = b} q) = no_wrong source b x ls n q.0 l p
one_outcome source r s (wrong x ls n l p) (cut_off {e = e} m) = no_tokens source ls e l m
one_outcome source r s (wrong x ls n l p) (wrong y ms m k q) =
    let e = one_list source ls ms l k in
    let w = wrong_once (words_only ms) x y n m (subst (λ (zs : List WideToken). WrongAt x n (words_only zs)) e p) q in
    ap (λ (z : WideReadError). Err z) (same_wrong source x y ls ms n m e w.0 w.1)
one_outcome source r s (wrong x ls n l p) (bad_macro u q h) = no_wrong source u x ls n q l p
one_outcome source r s (bad_macro {f = f} w p g) (is_read {w = b} q) = one_macro source b w f q.0 q.1 p g
one_outcome source r s (bad_macro w p g) (cut_off {e = e} m) = no_tokens source p.0 e p.1 m
one_outcome source r s (bad_macro w p g) (wrong x ls n l q) = no_wrong source w x ls n p l q
one_outcome source r s (bad_macro {f = f} w p g) (bad_macro {f = k} u q h) = ap (λ (x : MacroFault). Err (errors.Macro x)) (same_fault source w u f k p g q h)

-- ---- results

placed : (source : List ℕ) (x : Fault) (ls : List WideToken) (place count : ℕ) → WideLexes source (Ok ls) → place ≡ place_at (length source) (drop count ls)
    → WrongAt x count (words_only ls) → Outcome source (Err (error_of x place))
placed source x ls place count l e a = subst (λ (n : ℕ). Outcome source (Err (error_of x n))) (sym e) (wrong x ls count l a)

outcome : (source : List ℕ) (r : Result CodeWide WideReadError) → r ≢ Err (errors.Text Memory) → WideReadReturns source r → Outcome source (wide_of r)
outcome source (Ok e) n p = is_read p
outcome source (Err (errors.Macro f)) n p = bad_macro p.0 p.1 p.2
outcome source (Err (errors.Bytes place)) n p = placed source foreign_bytes p.0 place p.2.0 p.1 p.2.1 p.2.2
outcome source (Err (errors.Double place)) n p = placed source foreign_double p.0 place p.2.0 p.1 p.2.1 p.2.2
outcome source (Err (errors.Text (UnexpectedToken place))) n p = placed source misfit p.0 place p.2.0 p.1 p.2.1 p.2.2
outcome source (Err (errors.Text (TooManyOpen place))) n p = placed source deep p.0 place p.2.0 p.1 p.2.1 p.2.2
outcome source (Err (errors.Text Memory)) n p = absurd (n refl)
outcome source (Err (errors.Text (UnknownCharacter place))) n p = cut_off p
outcome source (Err (errors.Text (InvalidTextLiteral place))) n p = cut_off p
outcome source (Err (errors.Text (IntOutOfRange place))) n p = cut_off p
outcome source (Err (errors.Text (TextTooLong place))) n p = cut_off p

pub one_result : (source : List ℕ) (r s : Result CodeWide WideReadError) → r ≢ Err (errors.Text Memory) → s ≢ Err (errors.Text Memory)
    → WideReadReturns source r → WideReadReturns source s → wide_of r ≡ wide_of s
one_result source r s n m p q = one_outcome source (wide_of r) (wide_of s) (outcome source r n p) (outcome source s m q)
