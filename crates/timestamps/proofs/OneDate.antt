-- A day has one date.
use Rattle.std.proofs.Common.{◌≡◌, ◌∙◌, ℕ, zero, suc, ◌+◌, ◌-◌, ◌<◌, ◌≤◌, Bool, true, false, cond, nat_le, ◌&&◌, arith, refl, sym, ap, subst}
use Rattle.std.proofs.lemmas.Bool.{and_parts, cases_lt}
use Rattle.std.proofs.lemmas.Bool.Decides.{nat_tests}
use Rattle.timestamps.proofs.Years.{years_follow}
use Rattle.timestamps.specs.Calendar.{day_number, days_before_year, days_in, days_of_months, is_day, is_leap, year_days}
use Rattle.timestamps.specs.Fields.{IsDate}
use Rattle.timestamps.specs.declared.date.Date.{Date}
use mathlib.Core.Logic.{inl, inr}

at_most : (a b : ℕ) → nat_le a b ≡ true → a ≤ b
at_most a b h = grind (arith, nat_tests)

pub record Exists (y m d : ℕ) : Type 0 where
  pub some_month : 1 ≤ m
  pub last_month : m ≤ 12
  pub some_day : 1 ≤ d
  pub last_day : d ≤ days_in (is_leap y) m

pub existing : (y m d : ℕ) → is_day y m d ≡ true → Exists y m d
unfolding is_day
existing y m d h =
    let p = and_parts (nat_le 1 m && nat_le m 12) (nat_le 1 d && nat_le d (days_in (is_leap y) m)) h in
    let a = and_parts (nat_le 1 m) (nat_le m 12) p.0 in
    let b = and_parts (nat_le 1 d) (nat_le d (days_in (is_leap y) m)) p.1 in
    record {
      some_month = at_most 1 m a.0;
      last_month = at_most m 12 a.1;
      some_day = at_most 1 d b.0;
      last_day = at_most d (days_in (is_leap y) m) b.1;
    }

one_more : (leap : Bool) (n : ℕ) → days_of_months leap (suc n) ≡ days_of_months leap n + days_in leap (suc n)
unfolding days_of_months
one_more leap n = refl

months_grow : (leap : Bool) (k n : ℕ) → days_of_months leap n ≤ days_of_months leap (k + n)
months_grow leap zero n = let e : 0 + n ≡ n = omega arith in rw e (omega arith)
months_grow leap (suc k) n =
    let h : days_of_months leap n ≤ days_of_months leap (k + n) = months_grow leap k n in
    let e : suc k + n ≡ suc (k + n) = omega arith in
    rw e (omega (arith, one_more leap (k + n), h))

up_to : (leap : Bool) (m n : ℕ) → m ≤ n → days_of_months leap m ≤ days_of_months leap n
up_to leap m n h =
    let e : (n - m) + m ≡ n = omega arith in
    subst (λ k. days_of_months leap m ≤ days_of_months leap k) e (months_grow leap (n - m) m)

-- the day of the year, from 0
abbrev day_of_year : Bool → ℕ → ℕ → ℕ
day_of_year leap m d = days_of_months leap (m - 1) + (d - 1)

-- it is before the end of its month
in_month : (leap : Bool) (m d : ℕ) → 1 ≤ m → 1 ≤ d → d ≤ days_in leap m → day_of_year leap m d < days_of_months leap m
in_month leap zero d h i j = absurd (omega arith)
in_month leap (suc m) d h i j = let e : suc m - 1 ≡ m = omega arith in rw e (omega (arith, one_more leap m))

year_has : (leap : Bool) → days_of_months leap 12 ≡ cond leap 366 365
unfolding days_of_months
year_has true = refl
year_has false = refl

in_year : (y m d : ℕ) → Exists y m d → day_of_year (is_leap y) m d < year_days y
in_year y m d e =
    omega (arith, in_month (is_leap y) m d e.some_month e.some_day e.last_day, up_to (is_leap y) m 12 e.last_month, year_has (is_leap y))

years_grow : (a b : ℕ) → a ≤ b → days_before_year a ≤ days_before_year b
years_grow a b h = omega arith

number_is : (y m d : ℕ) → day_number y m d ≡ days_before_year y + day_of_year (is_leap y) m d
unfolding day_number
number_is y m d = omega arith

-- an earlier year has only smaller numbers
before : (y m d v n e : ℕ) → Exists y m d → y < v → day_number y m d < day_number v n e
before y m d v n e x h =
    omega (arith, number_is y m d, number_is v n e, in_year y m d x, years_follow y, years_grow (suc y) v h)

same_year : (y m d v n e : ℕ) → Exists y m d → Exists v n e → day_number y m d ≡ day_number v n e → y ≡ v
same_year y m d v n e x z h = elim (cases_lt y v) [
  | inl l ↦ absurd (let b = before y m d v n e x l in omega arith)
  | inr k ↦ elim (cases_lt v y) [
    | inl l ↦ absurd (let b = before v n e y m d z l in omega arith)
    | inr j ↦ omega arith
  ]
]

-- an earlier month has only earlier days of the year
earlier : (leap : Bool) (m d n e : ℕ) → 1 ≤ m → 1 ≤ d → d ≤ days_in leap m → m < n → day_of_year leap m d < day_of_year leap n e
earlier leap m d n e a b c h = omega (arith, in_month leap m d a b c, up_to leap m (n - 1) (omega arith))

same_month : (leap : Bool) (m d n e : ℕ) → 1 ≤ m → 1 ≤ d → d ≤ days_in leap m → 1 ≤ n → 1 ≤ e → e ≤ days_in leap n → day_of_year leap m d ≡ day_of_year leap n e → m ≡ n
same_month leap m d n e a b c f g i h = elim (cases_lt m n) [
  | inl l ↦ absurd (let p = earlier leap m d n e a b c l in omega arith)
  | inr k ↦ elim (cases_lt n m) [
    | inl l ↦ absurd (let p = earlier leap n e m d f g i l in omega arith)
    | inr j ↦ omega arith
  ]
]

same_day : (y m d n e : ℕ) → Exists y m d → Exists y n e → day_number y m d ≡ day_number y n e → (m ≡ n) × (d ≡ e)
same_day y m d n e x z h =
    let p : day_of_year (is_leap y) m d ≡ day_of_year (is_leap y) n e = omega (arith, number_is y m d, number_is y n e, h) in
    let q : m ≡ n = same_month (is_leap y) m d n e x.some_month x.some_day x.last_day z.some_month z.some_day z.last_day p in
    let r : days_of_months (is_leap y) (m - 1) ≡ days_of_months (is_leap y) (n - 1) = ap (λ k. days_of_months (is_leap y) (k - 1)) q in
    (q, omega (arith, x.some_day, z.some_day))

pub one_date : (n : ℕ) (a b : Date) → IsDate n a → IsDate n b → a ≡ b
one_date n a b p q =
    let x = existing a.year a.month a.day p.exists in
    let z = existing b.year b.month b.day q.exists in
    let h : day_number a.year a.month a.day ≡ day_number b.year b.month b.day = p.number ∙ sym q.number in
    let y : a.year ≡ b.year = same_year a.year a.month a.day b.year b.month b.day x z h in
    let w : Exists a.year b.month b.day = subst (λ k. Exists k b.month b.day) (sym y) z in
    let g : day_number a.year a.month a.day ≡ day_number a.year b.month b.day = h ∙ ap (λ k. day_number k b.month b.day) (sym y) in
    let s = same_day a.year a.month a.day b.month b.day x w g in
    λ i. record { year = y i; month = s.0 i; day = s.1 i }
