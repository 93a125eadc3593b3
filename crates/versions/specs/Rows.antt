-- Texts with the values that the definitions give: those of semver.org, of the tests of blang/semver, and of its code.
use Rattle.std.specs.Prelude.{◌≡◌, [], ◌∷◌, ◌++◌, Some, None, true, false, codes}
use Rattle.std.specs.declared.cmp.Ordering.TheVariants.{Equal, Greater, Less}
use Rattle.versions.specs.Order.{pre_cmp, precedence}
use Rattle.versions.specs.Versions.{version_of}

-- versions as they are
pub record VersionRowsHold : Type 0 where
  pub plain : version_of false (codes "1.2.3") ≡ Some (record { major = 1; minor = 2; patch = 3; pre = [] })
  pub zeros : version_of false (codes "0.0.0") ≡ Some (record { major = 0; minor = 0; patch = 0; pre = [] })
  pub alpha : version_of false (codes "1.0.0-alpha.1") ≡ Some (record { major = 1; minor = 0; patch = 0; pre = codes "alpha.1" })
  pub mixed : version_of false (codes "1.0.0-0A.is.legal") ≡ Some (record { major = 1; minor = 0; patch = 0; pre = codes "0A.is.legal" })
  pub hyphens : version_of false (codes "1.0.0-x-y-z.--") ≡ Some (record { major = 1; minor = 0; patch = 0; pre = codes "x-y-z.--" })
  pub build : version_of false (codes "1.0.0+20130313144700") ≡ Some (record { major = 1; minor = 0; patch = 0; pre = [] })
  pub zeros_in_build : version_of false (codes "1.0.0-alpha+001") ≡ Some (record { major = 1; minor = 0; patch = 0; pre = codes "alpha" })
  pub hyphen_in_build : version_of false (codes "1.0.0+21AF26D3---117B344092BD")
      ≡ Some (record { major = 1; minor = 0; patch = 0; pre = [] })
  pub both : version_of false (codes "1.0.0-beta+exp.sha.5114f85") ≡ Some (record { major = 1; minor = 0; patch = 0; pre = codes "beta" })
  pub greatest : version_of false (codes "18446744073709551615.0.0-18446744073709551615")
      ≡ Some (record { major = 18446744073709551615; minor = 0; patch = 0; pre = codes "18446744073709551615" })

-- texts that are not versions
pub record RefusedVersionRowsHold : Type 0 where
  pub empty : version_of false [] ≡ None
  pub major_alone : version_of false (codes "1") ≡ None
  pub no_patch : version_of false (codes "1.2") ≡ None
  pub v : version_of false (codes "v1.2.3") ≡ None
  pub zero_in_front : version_of false (codes "01.2.3") ≡ None
  pub zero_in_the_patch : version_of false (codes "1.2.03") ≡ None
  pub no_pre : version_of false (codes "1.2.3-") ≡ None
  pub no_build : version_of false (codes "1.2.3+") ≡ None
  pub zero_in_pre : version_of false (codes "1.2.3-01") ≡ None
  pub no_identifier : version_of false (codes "1.2.3-a..b") ≡ None
  pub no_last_identifier : version_of false (codes "1.2.3-a.") ≡ None
  pub underscore : version_of false (codes "1.2.3+a_b") ≡ None
  pub two_builds : version_of false (codes "1.2.3+a+b") ≡ None
  pub letter : version_of false (codes "1.2.3-" ++ (0xc3 ∷ 0xa9 ∷ [])) ≡ None
  pub blank : version_of false (codes "1.2.3 ") ≡ None
  pub four_numbers : version_of false (codes "1.2.3.4") ≡ None
  pub minus : version_of false (codes "-1.2.3") ≡ None
  pub no_number : version_of false (codes "1..3") ≡ None
  pub large : version_of false (codes "18446744073709551616.0.0") ≡ None
  pub large_in_pre : version_of false (codes "1.0.0-18446744073709551616") ≡ None

-- normalized versions
pub record NormalizedRowsHold : Type 0 where
  pub v : version_of true (codes "v1.2.3") ≡ Some (record { major = 1; minor = 2; patch = 3; pre = [] })
  pub no_patch : version_of true (codes "v01.01") ≡ Some (record { major = 1; minor = 1; patch = 0; pre = [] })
  pub major_alone : version_of true (codes "1") ≡ Some (record { major = 1; minor = 0; patch = 0; pre = [] })
  pub zeros : version_of true (codes "00.00.01-rc+b") ≡ Some (record { major = 0; minor = 0; patch = 1; pre = codes "rc" })
  pub no_digit : version_of true (codes "1.2.-rc") ≡ Some (record { major = 1; minor = 2; patch = 0; pre = codes "rc" })
  pub build_alone : version_of true (codes "1.2.+b") ≡ Some (record { major = 1; minor = 2; patch = 0; pre = [] })
  pub two_hyphens : version_of true (codes "1.2.--") ≡ Some (record { major = 1; minor = 2; patch = 0; pre = codes "-" })
  pub two_v : version_of true (codes "vv1") ≡ None
  pub v_alone : version_of true (codes "v") ≡ None
  pub empty : version_of true [] ≡ None
  pub short_with_pre : version_of true (codes "1-rc") ≡ None
  pub short_with_build : version_of true (codes "1.2+b") ≡ None
  pub hyphen_alone : version_of true (codes "1.2.-") ≡ None
  pub empty_patch : version_of true (codes "1.2.") ≡ None
  pub letter : version_of true (codes "1.2.x") ≡ None
  pub blank : version_of true (codes " 1.2.3") ≡ None
  pub zero_in_pre : version_of true (codes "1.2.3-01") ≡ None

-- the order of pre-releases, and of versions
pub record VersionOrderRowsHold : Type 0 where
  pub longer : pre_cmp (codes "alpha") (codes "alpha.1") ≡ Less
  pub number_first : pre_cmp (codes "alpha.1") (codes "alpha.beta") ≡ Less
  pub by_bytes : pre_cmp (codes "alpha.beta") (codes "beta") ≡ Less
  pub any_longer : pre_cmp (codes "beta") (codes "beta.2") ≡ Less
  pub by_size : pre_cmp (codes "beta.2") (codes "beta.11") ≡ Less
  pub by_letters : pre_cmp (codes "beta.11") (codes "rc.1") ≡ Less
  pub none_last : pre_cmp (codes "rc.1") [] ≡ Less
  pub none_after : pre_cmp [] (codes "0") ≡ Greater
  pub none_equal : pre_cmp [] [] ≡ Equal
  pub equal : pre_cmp (codes "a.1") (codes "a.1") ≡ Equal
  pub capitals_first : pre_cmp (codes "B") (codes "a") ≡ Less
  pub first_decides : pre_cmp (codes "b.1") (codes "a.2") ≡ Greater
  pub major : precedence (record { major = 1; minor = 9; patch = 9; pre = [] })
      (record { major = 2; minor = 0; patch = 0; pre = codes "a" }) ≡ Less
  pub minor : precedence (record { major = 2; minor = 1; patch = 0; pre = [] })
      (record { major = 2; minor = 0; patch = 1; pre = [] }) ≡ Greater
  pub patch : precedence (record { major = 2; minor = 1; patch = 0; pre = [] })
      (record { major = 2; minor = 1; patch = 1; pre = [] }) ≡ Less
  pub pre : precedence (record { major = 1; minor = 0; patch = 0; pre = codes "alpha.2" })
      (record { major = 1; minor = 0; patch = 0; pre = codes "alpha.10" }) ≡ Less
