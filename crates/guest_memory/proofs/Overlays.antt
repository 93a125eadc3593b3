-- The bytes of a list after some of them are overwritten.
use Rattle.guest_memory.proofs.Prelude.{◌≡◌, ℕ, ◌+◌, ◌<◌, ◌≤◌, List, length, get_or, Some, sym, ap, ◌∙◌, arith, inl, inr, length-append, length-drop, get_or-drop, get_or-take, All, slice_get, ◌⊎◌, get_or-append, cases_lt, length-take-le, get_or-append_right, All-take, All-drop, All-append, slice_get-get_or, slice_get_past, overlay}

module _ (old : List ℕ) (at : ℕ) (bytes : List ℕ) (fits : at + length bytes ≤ length old) where
  pub length-overlay : length (overlay old at bytes) ≡ length old
  length-overlay = grind (arith, length-take-le, length-append, length-drop)

  pub get_or-overlay_inside : (i : ℕ) → i < length bytes → get_or (overlay old at bytes) (at + i) 0 ≡ get_or bytes i 0
  get_or-overlay_inside i h = grind (arith, get_or-append_right, length-take-le, get_or-append)

  get_or-overlay_outside : (i : ℕ) → (i < at) ⊎ (at + length bytes ≤ i) → get_or (overlay old at bytes) i 0 ≡ get_or old i 0
  get_or-overlay_outside i h = grind (arith, length-take-le, get_or-append, get_or-take, get_or-append_right, get_or-drop)

  -- only the overwritten bytes change
  pub slice_get-overlay_outside : (i : ℕ) → (i < at) ⊎ (at + length bytes ≤ i) → slice_get (overlay old at bytes) i ≡ slice_get old i
  slice_get-overlay_outside i outside =
      let whole = length-overlay in
      elim (cases_lt i (length old)) [
        | inl inside ↦
            slice_get-get_or (overlay old at bytes) i 0 (omega arith) ∙ ap Some (get_or-overlay_outside i outside) ∙ sym (slice_get-get_or old i 0 inside)
        | inr past ↦ slice_get_past (overlay old at bytes) i (omega arith) ∙ sym (slice_get_past old i past)
      ]

  pub all-overlay : All (λ b. b < 256) old → All (λ b. b < 256) bytes → All (λ b. b < 256) (overlay old at bytes)
  all-overlay all_old all_bytes = search (All-append, All-take, All-drop)
