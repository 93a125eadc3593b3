-- What a text gives follows from its parts.
use Rattle.std.proofs.Common.{◌≡◌, Option, Some, ap, option_map, option_and_then}
use Rattle.std.specs.Option.{is_some}
use Rattle.quantities.specs.Quantities.{Spelled, integer_in, quantity_in, result_of, sign_in}

pub quantity_by : (o : Option Spelled) (s : Spelled) → Some s ≡ o → quantity_in s ≡ result_of o
quantity_by o s e = ap result_of e

pub integer_by : (o : Option Spelled) (s : Spelled) → Some s ≡ o → integer_in s ≡ option_and_then integer_in o
integer_by o s e = ap (option_and_then integer_in) e

pub is_integer_by : (o : Option Spelled) (s : Spelled) → Some s ≡ o → Some (is_some (integer_in s)) ≡ option_map (λ s. is_some (integer_in s)) o
is_integer_by o s e = ap (option_map (λ s. is_some (integer_in s))) e

pub sign_by : (o : Option Spelled) (s : Spelled) → Some s ≡ o → Some (sign_in s) ≡ option_map sign_in o
sign_by o s e = ap (option_map sign_in) e
