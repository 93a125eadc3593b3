-- Borrowed ranges of the constants.
use Rattle.guest_memory.proofs.Prelude.{◌≡◌, ℕ, ◌+◌, ◌-◌, ◌<◌, ◌≤◌, List, length, get_or, Option, Some, sym, ap, ◌∙◌, arith, length-drop, IsSome, ◌↔◌, slice_get, cases_lt, nat_tests, slice_get-get_or, Memory, Constants, IsMemory, base_of, byte_at, part, place_of, constants_of, LentIsBytes, AllStandIn, length-take-le}
use Rattle.guest_memory.proofs.Places.{HasPlace, all_stand}
use Rattle.guest_memory.proofs.Map.{byte_at-region}
use Rattle.guest_memory.proofs.Reading.{length-part, get_or-part}

abbrev place : Memory → ℕ → ℕ → Option ℕ
place m address n = place_of (base_of Constants) (length m.constants) address n

-- borrowed bytes are those of the constants from an offset on
pub record Lends (m : Memory) (address n : ℕ) (lent : List ℕ) : Type 0 where
  pub at : ℕ
  pub place_is : HasPlace (base_of Constants) (length m.constants) address n at
  pub is : part m.constants at n ≡ lent

lends : (m : Memory) (address n : ℕ) (lent : List ℕ) → 1 ≤ n → constants_of m address n ≡ Some lent → Lends m address n lent
unfolding constants_of
lends m address n lent some h = grind (arith, nat_tests)

lent_byte : (m : Memory) (address n : ℕ) (lent : List ℕ) → IsMemory m → Lends m address n lent → (i : ℕ) → i < n → slice_get lent i ≡ byte_at m (address + i)
lent_byte m address n lent is l i inside =
    let p = l.place_is in
    let low = p.low in
    let high = p.high in
    let at_is = p.is in
    let whole : length (part m.constants l.at n) ≡ n = length-part m.constants l.at n (omega arith) in
    let index : address + i - base_of Constants ≡ l.at + i = omega arith in
    ap (λ (bs : List ℕ). slice_get bs i) (sym l.is)
    ∙ slice_get-get_or (part m.constants l.at n) i 0 (omega arith)
    ∙ ap Some (get_or-part m.constants l.at n i inside ∙ ap (λ (k : ℕ). get_or m.constants k 0) (sym index))
    ∙ sym (byte_at-region Constants m (address + i) is (all_stand Constants m address n l.at p i inside))

law_bytes : (m : Memory) (address n : ℕ) (lent : List ℕ) → IsMemory m → constants_of m address n ≡ Some lent → (i : ℕ) → i < n → slice_get lent i ≡ byte_at m (address + i)
law_bytes m address n lent is h i inside = lent_byte m address n lent is (lends m address n lent (omega arith) h) i inside

law_length : (m : Memory) (address n : ℕ) (lent : List ℕ) → constants_of m address n ≡ Some lent → length lent ≡ n
unfolding constants_of
law_length m address n lent h = grind (arith, cases_lt, nat_tests, length-take-le, length-drop)

law_done : (m : Memory) (address n : ℕ) → IsSome (constants_of m address n) ↔ AllStandIn Constants m address n
unfolding constants_of
law_done m address n = grind (arith, cases_lt, nat_tests)

pub lent_laws : LentIsBytes
lent_laws = grind (arith, law_bytes, law_length, law_done)
