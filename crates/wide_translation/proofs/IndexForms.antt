-- Indices by literals, by the form of the index.
use Rattle.std.proofs.Common.{◌≡◌, ℕ, true, false, List, refl}
use Rattle.wide_reader.specs.declared.wide.Access.{Access, TheVariants.Plain, TheVariants.Optional}
use Rattle.wide_translation.specs.Carried.{Carried, plain, guarded, listed, taken}
use Rattle.wide_translation.specs.Keys.{is_index_of_value}
use Rattle.wide_translation.specs.ComputedIndices.{key_carried}
use Rattle.wide_translation.specs.Translated.{on_plain, value_index, plain_index, text_index, count_index, field_carried}
use Rattle.wide_translation.specs.Translated.{item_carried}

pub index_of_value : (o : Access) (c d : Carried) → is_index_of_value o c ≡ true → plain_index o c d ≡ value_index c d
index_of_value Plain (plain k t) d h = refl
index_of_value Plain (guarded k g v) d h = absurd (cc)
index_of_value Plain (listed k l) d h = absurd (cc)
index_of_value Optional c d h = absurd (cc)

pub index_of_key : (o : Access) (c d : Carried) → is_index_of_value o c ≡ false → plain_index o c d ≡ on_plain d (λ j b. taken (key_carried c j b))
index_of_key Plain (plain k t) d h = absurd (cc)
index_of_key Plain (guarded k g v) d h = refl
index_of_key Plain (listed k l) d h = refl
index_of_key Optional (plain k t) d h = refl
index_of_key Optional (guarded k g v) d h = refl
index_of_key Optional (listed k l) d h = refl

pub text_index_of_value : (f : List ℕ) (o : Access) (c d : Carried) → is_index_of_value o c ≡ true → text_index f o c d ≡ plain_index o c d
text_index_of_value f Plain (plain k t) d h = refl
text_index_of_value f Plain (guarded k g v) d h = absurd (cc)
text_index_of_value f Plain (listed k l) d h = absurd (cc)
text_index_of_value f Optional c d h = absurd (cc)

pub text_index_of_field : (f : List ℕ) (o : Access) (c d : Carried) → is_index_of_value o c ≡ false → text_index f o c d ≡ taken (field_carried o f c)
text_index_of_field f Plain (plain k t) d h = absurd (cc)
text_index_of_field f Plain (guarded k g v) d h = refl
text_index_of_field f Plain (listed k l) d h = refl
text_index_of_field f Optional (plain k t) d h = refl
text_index_of_field f Optional (guarded k g v) d h = refl
text_index_of_field f Optional (listed k l) d h = refl

pub count_index_of_value : (n : ℕ) (o : Access) (c d : Carried) → is_index_of_value o c ≡ true → count_index n o c d ≡ plain_index o c d
count_index_of_value n Plain (plain k t) d h = refl
count_index_of_value n Plain (guarded k g v) d h = absurd (cc)
count_index_of_value n Plain (listed k l) d h = absurd (cc)
count_index_of_value n Optional c d h = absurd (cc)

pub count_index_of_item : (n : ℕ) (o : Access) (c d : Carried) → is_index_of_value o c ≡ false → count_index n o c d ≡ taken (item_carried n c)
count_index_of_item n Plain (plain k t) d h = absurd (cc)
count_index_of_item n Plain (guarded k g v) d h = refl
count_index_of_item n Plain (listed k l) d h = refl
count_index_of_item n Optional (plain k t) d h = refl
count_index_of_item n Optional (guarded k g v) d h = refl
count_index_of_item n Optional (listed k l) d h = refl
