-- Words that clap takes, and that go together.
use Rattle.gatekeeper_runner.proofs.Prelude.{◌≡◌, ◌∙◌, take_all, true, false, List, [], ◌∷◌, ◌++◌, ap, arith, refl, sym, Ok, Err, Result, Kinds, Row, Text, entered, fault_of, faults, gatekeeper_app}
use Rattle.gatekeeper_runner.proofs.Prelude.{choice_faults, go_together, lines_faults, lines_order_view, matches_of, order_of_words, translation_app, translation_from, is_translate}
use Rattle.gatekeeper_runner.proofs.Prelude.{GatekeeperOrderReturns, InvalidArguments, OrderError}
use Rattle.std.specs.Borrow.{Bor}
use Rattle.std.specs.List.{list_any}
use Rattle.std.specs.Prelude.{Bool, ℕ, ◌-◌, ◌||◌, ◌≤◌, drop, length, map, take}
use Rattle.cli.specs.Parsing.{IsNotTaken, TakesWords}
use Rattle.cli.proofs.Endings.{words_refused}
use Rattle.host.specs.declared.order_error.OrderError.TheVariants as order_error
use Rattle.gatekeeper_runner.specs.Orders.{asks_translation, by_translation, order_from, translation_order_view}
use Rattle.gatekeeper_runner.specs.Program.{AsksOrder}
use Rattle.gatekeeper_runner.specs.declared.order.Order.{Order as CodeOrder}
use Rattle.gatekeeper_runner.specs.declared.order.Order.TheVariants as code
use Rattle.gatekeeper_runner.specs.declared.translating.order.TranslationOrder.{TranslationOrder}

-- two lists together are empty only if the first is
none_first : (ks ls : Kinds) → ks ++ ls ≡ [] → ks ≡ []
none_first [] ls none = refl
none_first (k ∷ ks) ls none = absurd (cc)

none_both : (ks ls : Kinds) → ks ≡ [] → ls ≡ [] → ks ++ ls ≡ []
none_both ks ls e f = (λ i. e i ++ f i)

none_second : (ks ls : Kinds) → ks ++ ls ≡ [] → ls ≡ []
none_second [] ls none = none
none_second (k ∷ ks) ls none = absurd (cc)

no_choice : (rows : List Row) → go_together rows ≡ true → choice_faults rows ≡ []
no_choice rows together = rw together refl

some_choice : (rows : List Row) → go_together rows ≡ false → choice_faults rows ≡ [] → ⊥
some_choice rows apart none = let bad = rw apart at none in (cc)

-- the words are accepted
pub taken : (words : List Text) → fault_of gatekeeper_app words ≡ [] → go_together (entered words) ≡ true → lines_faults words ≡ []
unfolding lines_faults
taken words none together = none_both _ _ none (no_choice (entered words) together)

-- clap does not accept them
pub not_taken : (words : List Text) (e : OrderError) → IsNotTaken (fault_of gatekeeper_app words) e → IsNotTaken (lines_faults words) e
unfolding lines_faults
not_taken words InvalidArguments some = λ none. some (none_first _ _ none)
not_taken words order_error.Memory some = tt

-- they do not go together
pub not_together : (words : List Text) → go_together (entered words) ≡ false → lines_faults words ≡ [] → ⊥
unfolding lines_faults
not_together words apart none = some_choice (entered words) apart (none_second _ _ none)

-- what words that are given ask for
pub asked : (words : List Text) (r : Result CodeOrder OrderError) → GatekeeperOrderReturns words r → AsksOrder (Ok words) r
asked words (Ok o) ordered = record { words = words; are_given = refl; are_taken = ordered.0; asked = ordered.1 }
asked words (Err e) refused = words_refused faults words e refused

-- ---- --translate

module _ (words : List Text) where
  module _ (asked : asks_translation words ≡ true) where
    -- the words ask for a translation
    pub asks_for : (o : TranslationOrder) → fault_of translation_app words ≡ [] → translation_order_view o ≡ translation_from (matches_of translation_app words)
        → GatekeeperOrderReturns words (Ok (code.Translation o))
    unfolding faults order_of_words
    asks_for o none is = rw asked (none, ap by_translation (sym is))

    pub not_asked : (e : OrderError) → IsNotTaken (fault_of translation_app words) e → IsNotTaken (faults words) e
    unfolding faults
    not_asked e why = rw asked why

  -- they do not
  pub asks_lines : (r : Result CodeOrder OrderError) → asks_translation words ≡ false
      → TakesWords (lines_faults words) (λ o. order_from (entered words) ≡ lines_order_view o) r → GatekeeperOrderReturns words r
  unfolding faults order_of_words
  asks_lines r asked takes = rw asked takes

-- one of the texts behind references meets a test
any_of_texts : (p : List ℕ → Bool) (words : List (Bor (List ℕ))) → list_any (λ s. p s.now) words ≡ list_any p (map (λ s. s.now) words)
any_of_texts p [] = refl
any_of_texts p (w ∷ ws) = ap (λ b. p w.now || b) (any_of_texts p ws)

-- a word after the first is --translate
pub asks_after_first : (words : List (Bor (List ℕ))) (b : Bool) → 1 ≤ length words → b ≡ list_any (λ s. is_translate s.now) (take (length words - 1) (drop 1 words))
    → b ≡ asks_translation (map (λ s. s.now) words)
asks_after_first [] b some is = absurd (omega (arith, some))
asks_after_first (w ∷ ws) b some is =
    is ∙ ap (list_any (λ s. is_translate s.now)) (take_all (length (w ∷ ws) - 1) ws (omega (arith))) ∙ any_of_texts is_translate ws
