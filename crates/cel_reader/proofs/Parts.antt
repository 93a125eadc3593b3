-- Results that are built from what was read.
use Rattle.cel_reader.proofs.Prelude.{◌≡◌, Ok, Err, Result, IfOk, IsErrAnd, err_from_is_err_and, ReadOutcome, Refused, Cause, ReturnsOutcome, Refusal}
use Rattle.cel_reader.specs.Reading.{PhraseLeads, PhraseFails, IsPhraseOf}
use Rattle.cel_reader.specs.declared.refusal.Refusal.TheVariants as refusal

-- an error that is passed on
pub passed_on : (e : Refusal) (P Q : ReadOutcome → Type 0) → ((k : Cause) → P (Refused k) → Q (Refused k)) → PhraseFails e P → PhraseFails e Q
passed_on (refusal.Misfit left) P Q f p = (p.0, p.1, f _ p.2)
passed_on (refusal.Deep left) P Q f p = (p.0, p.1, f _ p.2)
passed_on refusal.Memory P Q f p = tt

-- what leads to the outcomes of one reading, as a result of another
pub led : {X : Type 0} (seen : X → ReadOutcome) (r : Result X Refusal) (A : X → ReadOutcome → Type 0) (P Q : ReadOutcome → Type 0) → PhraseLeads r A P
    → ((o : ReadOutcome) → P o → Q o) → ((x : X) → A x (seen x)) → ReturnsOutcome seen r Q
led seen (Ok x) A P Q l f a = f _ (l _ (a x))
led seen (Err e) A P Q l f a = passed_on e P Q (λ k. f (Refused k)) l

-- an error of the code, of a reading that leads on
pub leads_refused : {X : Type 0} (A : X → ReadOutcome → Type 0) (P Q : ReadOutcome → Type 0) (e : Refusal) (r : Result X Refusal) → IsErrAnd r (λ f. f ≡ e) → PhraseFails e P
    → ((k : Cause) → P (Refused k) → Q (Refused k)) → PhraseLeads r A Q
leads_refused A P Q e r is g f = let p = err_from_is_err_and r is in rw (p.1, p.2) (passed_on e P Q f g)

-- a result that is built from what was read
pub built : {X Y : Type 0} (seen : X → ReadOutcome) (shown : Y → ReadOutcome) (read : Result X Refusal) (result : Result Y Refusal) (B : X → Y → Type 0) (P Q : ReadOutcome → Type 0)
    → IsPhraseOf read result B → ReturnsOutcome seen read P → ((k : Cause) → P (Refused k) → Q (Refused k)) → ((x : X) (y : Y) → B x y → P (seen x) → Q (shown y))
    → ReturnsOutcome shown result Q
built seen shown (Ok x) (Ok y) B P Q b r f g = g x y b r
built seen shown (Ok x) (Err e) B P Q b r f g = rw b tt
built seen shown (Err e) result B P Q b r f g = rw b (passed_on e P Q f r)

-- a result that is built from what was read, and leads on
pub leads_on : {X Y : Type 0} (seen : X → ReadOutcome) (read : Result X Refusal) (result : Result Y Refusal) (B : X → Y → Type 0) (A : Y → ReadOutcome → Type 0) (P Q : ReadOutcome → Type 0)
    → IsPhraseOf read result B → ReturnsOutcome seen read P → ((k : Cause) → P (Refused k) → Q (Refused k)) → ((x : X) (y : Y) → B x y → P (seen x) → (o : ReadOutcome) → A y o → Q o)
    → PhraseLeads result A Q
leads_on seen (Ok x) (Ok y) B A P Q b r f g = g x y b r
leads_on seen (Ok x) (Err e) B A P Q b r f g = rw b tt
leads_on seen (Err e) result B A P Q b r f g = rw b (passed_on e P Q f r)

-- how many tokens are behind it
pub built_within : {X Y : Type 0} (read : Result X Refusal) (result : Result Y Refusal) (B : X → Y → Type 0) (S : X → Type 0) (T : Y → Type 0)
    → IsPhraseOf read result B → IfOk read S → ((x : X) (y : Y) → B x y → S x → T y) → IfOk result T
built_within (Ok x) (Ok y) B S T b s f = f x y b s
built_within (Ok x) (Err e) B S T b s f = tt
built_within (Err e) result B S T b s f = rw b tt

-- its error is that of the reading
pub built_fails : {X Y : Type 0} (seen : X → ReadOutcome) (read : Result X Refusal) (e : Refusal) (B : X → Y → Type 0) (P : ReadOutcome → Type 0)
    → IsPhraseOf read (Err e) B → ReturnsOutcome seen read P → PhraseFails e P
built_fails seen (Ok x) e B P b r = rw b tt
built_fails seen (Err d) e B P b r = let q : e ≡ d = cc in rw q r

pub led_fails : {X Y : Type 0} (read : Result X Refusal) (e : Refusal) (B : X → Y → Type 0) (A : X → ReadOutcome → Type 0) (P : ReadOutcome → Type 0)
    → IsPhraseOf read (Err e) B → PhraseLeads read A P → PhraseFails e P
led_fails (Ok x) e B A P b l = rw b tt
led_fails (Err d) e B A P b l = let q : e ≡ d = cc in rw q l

-- the part that was read
pub built_then : {X Y : Type 0} (seen : X → ReadOutcome) (read : Result X Refusal) (y : Y) (B : X → Y → Type 0) (P : ReadOutcome → Type 0) (S : X → Type 0) (Z : Type 0)
    → IsPhraseOf read (Ok y) B → ReturnsOutcome seen read P → IfOk read S → ((x : X) → B x y → P (seen x) → S x → Z) → Z
built_then seen (Ok x) y B P S Z b r s f = f x b r s
built_then seen (Err d) y B P S Z b r s f = absurd cc

pub led_then : {X Y : Type 0} (read : Result X Refusal) (y : Y) (B : X → Y → Type 0) (A : X → ReadOutcome → Type 0) (P : ReadOutcome → Type 0) (S : X → Type 0) (Z : Type 0)
    → IsPhraseOf read (Ok y) B → PhraseLeads read A P → IfOk read S → ((x : X) → B x y → ((o : ReadOutcome) → A x o → P o) → S x → Z) → Z
led_then (Ok x) y B A P S Z b l s f = f x b l s
led_then (Err d) y B A P S Z b l s f = absurd cc
