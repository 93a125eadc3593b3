-- Rules of Kubernetes that policies follow otherwise here, after its pages and its API reference.
use Rattle.std.specs.Prelude.{◌≡◌, pos, [], ◌∷◌, Ok, codes}
use Rattle.cel_reader.specs.Written.{dot, map_literal, name, num, str}
use Rattle.cel_macros.specs.Written.{Means, number}
use Rattle.cel_types.specs.Types.{refused, UnknownName}
use Rattle.cel_types.specs.Typing.{typing}
use Rattle.policy_glue.specs.Rows.{plain_validation, policy_with, said}
use Rattle.policy_glue.specs.declared.failure_policy.FailurePolicy.{TheVariants.Fail}

pub record KubernetesRowsStand : Type 0 where
  -- a condition's name need not be a qualified name
  pub any_name : said (codes "{\"matchConditions\":[{\"name\":\"a b\",\"expression\":\"c\"}],\"validations\":[{\"expression\":\"d\"}]}")
      ≡ Ok (record {
        failure_policy = Fail;
        conditions = record { name = codes "a b"; expression = codes "c" } ∷ [];
        variables = [];
        validations = plain_validation (codes "d") ∷ [];
      })
  -- an expression of two lines needs no message
  pub two_lines : said (codes "{\"validations\":[{\"expression\":\"a\\n&& b\"}]}")
      ≡ Ok (policy_with Fail (plain_validation (codes "a\n&& b") ∷ []))

pub record AuthorizerRowsStand : Type 0 where
  -- no name of an expression is `authorizer`
  pub authorizer : typing (name "authorizer") (record { items = []; variables = [] }) ≡ refused UnknownName

pub record FieldNameRowsStand : Type 0 where
  -- {'__namespace__': 1}.__namespace__
  pub own_name : Means (dot (map_literal ((str "__namespace__", num 1) ∷ [])) "__namespace__") (number (pos 1))
