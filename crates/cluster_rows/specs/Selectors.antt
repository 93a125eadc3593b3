-- Label selectors: the ends of the ranges of characters, and an operator that needs no value.
use Rattle.std.specs.Prelude.{◌≡◌, true, false, [], codes, Ok}
use Rattle.label_selectors.specs.Storing.{checked_requirement, is_label_key, is_label_value}
use Rattle.label_selectors.specs.declared.operator.Operator.TheVariants.{DoesNotExist}

-- a value begins and ends with one of [A-Za-z0-9] (Kubernetes, IsValidLabelValue): the first and the last character of
-- each range, and the ASCII characters next to them
pub record ValueRowsHold : Type 0 where
  pub first_capital : is_label_value (codes "A") ≡ true
  pub last_capital : is_label_value (codes "Z") ≡ true
  pub before_capitals : is_label_value (codes "@") ≡ false
  pub after_capitals : is_label_value (codes "[") ≡ false
  pub first_small : is_label_value (codes "a") ≡ true
  pub last_small : is_label_value (codes "z") ≡ true
  pub before_small : is_label_value (codes "`") ≡ false
  pub after_small : is_label_value (codes "{") ≡ false
  pub first_digit : is_label_value (codes "0") ≡ true
  pub last_digit : is_label_value (codes "9") ≡ true
  pub before_digits : is_label_value (codes "/") ≡ false
  pub after_digits : is_label_value (codes ":") ≡ false

-- a part of a prefix is a DNS label, with dashes inside (RFC 1123, section 2.1)
pub record PrefixRowsHold : Type 0 where
  pub dash : is_label_key (codes "a-b/name") ≡ true
  pub dash_in_the_second_part : is_label_key (codes "a.b-c/name") ≡ true
  pub comma : is_label_key (codes "a,b/name") ≡ false
  pub underscore : is_label_key (codes "a_b/name") ≡ false
  pub dash_at_the_start : is_label_key (codes "-a/name") ≡ false

-- DoesNotExist takes no values (Kubernetes, LabelSelectorRequirement)
pub record SelectorOperatorsHold : Type 0 where
  pub absence : checked_requirement (codes "env") (codes "DoesNotExist") [] ≡ Ok DoesNotExist
