-- Texts and timestamps with the values that the definitions give: those of cel-go, of RFC 3339's examples, and of calendars.
use Rattle.std.specs.Prelude.{◌≡◌, pos, negsuc, ◌+ℤ◌, ◌-ℤ◌, [], Some, None, codes}
use Rattle.timestamps.specs.Arithmetic.{between}
use Rattle.timestamps.specs.Fields.{AreFields}
use Rattle.timestamps.specs.Timestamps.{timestamp_of, within}

-- timestamps in nanoseconds since 1970
pub record TimestampRowsHold : Type 0 where
  pub start : timestamp_of (codes "1970-01-01T00:00:00Z") ≡ Some (pos 0)
  pub cel_go : timestamp_of (codes "2009-02-13T23:31:30Z") ≡ Some (pos 1234567890000000000)
  pub fraction : timestamp_of (codes "1985-04-12T23:20:50.52Z") ≡ Some (pos 482196050520000000)
  pub behind : timestamp_of (codes "1996-12-19T16:39:57-08:00") ≡ Some (pos 851042397000000000)
  pub ahead : timestamp_of (codes "1937-01-01T12:00:27.87+00:20") ≡ Some (negsuc 1041337172129999999)
  pub no_offset : timestamp_of (codes "1990-12-31T23:59:59-00:00") ≡ Some (pos 662687999000000000)
  pub before : timestamp_of (codes "1969-12-31T23:59:59.5Z") ≡ Some (negsuc 499999999)
  pub nine_digits : timestamp_of (codes "1970-01-01T00:00:00.123456789Z") ≡ Some (pos 123456789)
  pub more_digits : timestamp_of (codes "1970-01-01T00:00:00.0000000019Z") ≡ Some (pos 1)
  pub leap_day : timestamp_of (codes "2000-02-29T00:00:00Z") ≡ Some (pos 951782400000000000)
  pub no_leap_year : timestamp_of (codes "1900-03-01T00:00:00Z") ≡ Some (negsuc 2203891199999999999)
  pub greatest_offset : timestamp_of (codes "1970-01-01T23:59:00+23:59") ≡ Some (pos 0)
  pub first : timestamp_of (codes "0001-01-01T00:00:00Z") ≡ Some (negsuc 62135596799999999999)
  pub first_behind : timestamp_of (codes "0000-12-31T23:59:00-00:01") ≡ Some (negsuc 62135596799999999999)
  pub last : timestamp_of (codes "9999-12-31T23:59:59.999999999Z") ≡ Some (pos 253402300799999999999)

-- texts that are not timestamps
pub record RefusedTimestampRowsHold : Type 0 where
  pub empty : timestamp_of [] ≡ None
  pub date_alone : timestamp_of (codes "2009-02-13") ≡ None
  pub no_zone : timestamp_of (codes "2009-02-13T23:31:30") ≡ None
  pub small_t : timestamp_of (codes "2009-02-13t23:31:30Z") ≡ None
  pub small_z : timestamp_of (codes "2009-02-13T23:31:30z") ≡ None
  pub blank : timestamp_of (codes "2009-02-13 23:31:30Z") ≡ None
  pub blank_after : timestamp_of (codes "2009-02-13T23:31:30Z ") ≡ None
  pub no_month : timestamp_of (codes "2009-00-13T23:31:30Z") ≡ None
  pub month_13 : timestamp_of (codes "2009-13-13T23:31:30Z") ≡ None
  pub no_day : timestamp_of (codes "2009-02-00T23:31:30Z") ≡ None
  pub february_30 : timestamp_of (codes "2000-02-30T00:00:00Z") ≡ None
  pub no_leap_day : timestamp_of (codes "1900-02-29T00:00:00Z") ≡ None
  pub april_31 : timestamp_of (codes "2009-04-31T00:00:00Z") ≡ None
  pub hour_24 : timestamp_of (codes "2009-02-13T24:00:00Z") ≡ None
  pub minute_60 : timestamp_of (codes "2009-02-13T23:60:00Z") ≡ None
  pub leap_second : timestamp_of (codes "1990-12-31T23:59:60Z") ≡ None
  pub short_hour : timestamp_of (codes "2009-02-13T3:31:30Z") ≡ None
  pub point_alone : timestamp_of (codes "2009-02-13T23:31:30.Z") ≡ None
  pub comma : timestamp_of (codes "2009-02-13T23:31:30,5Z") ≡ None
  pub offset_of_24 : timestamp_of (codes "2009-02-13T23:31:30+24:00") ≡ None
  pub offset_of_60 : timestamp_of (codes "2009-02-13T23:31:30+00:60") ≡ None
  pub offset_without_colon : timestamp_of (codes "2009-02-13T23:31:30+0000") ≡ None
  pub five_digits : timestamp_of (codes "12009-02-13T23:31:30Z") ≡ None
  pub year_0 : timestamp_of (codes "0000-12-31T23:59:59Z") ≡ None
  pub before_year_1 : timestamp_of (codes "0001-01-01T00:00:00+00:01") ≡ None
  pub after_year_9999 : timestamp_of (codes "9999-12-31T23:59:59-00:01") ≡ None

-- fields
pub record TimestampFieldRowsHold : Type 0 where
  pub cel_go : AreFields (pos 1234567890123456789) (record {
    date = record { year = 2009; month = 2; day = 13 };
    day_of_year = 43;
    day_of_week = 5;
    hours = 23;
    minutes = 31;
    seconds = 30;
    milliseconds = 123;
  })
  pub start : AreFields (pos 0) (record {
    date = record { year = 1970; month = 1; day = 1 };
    day_of_year = 0;
    day_of_week = 4;
    hours = 0;
    minutes = 0;
    seconds = 0;
    milliseconds = 0;
  })
  pub before : AreFields (negsuc 0) (record {
    date = record { year = 1969; month = 12; day = 31 };
    day_of_year = 364;
    day_of_week = 3;
    hours = 23;
    minutes = 59;
    seconds = 59;
    milliseconds = 999;
  })
  pub leap_day : AreFields (pos 951782400000000000) (record {
    date = record { year = 2000; month = 2; day = 29 };
    day_of_year = 59;
    day_of_week = 2;
    hours = 0;
    minutes = 0;
    seconds = 0;
    milliseconds = 0;
  })
  pub no_leap_year : AreFields (negsuc 2203891199999999999) (record {
    date = record { year = 1900; month = 3; day = 1 };
    day_of_year = 59;
    day_of_week = 4;
    hours = 0;
    minutes = 0;
    seconds = 0;
    milliseconds = 0;
  })
  pub last_of_a_leap_year : AreFields (pos 1735689599000000000) (record {
    date = record { year = 2024; month = 12; day = 31 };
    day_of_year = 365;
    day_of_week = 2;
    hours = 23;
    minutes = 59;
    seconds = 59;
    milliseconds = 0;
  })
  pub first : AreFields (negsuc 62135596799999999999) (record {
    date = record { year = 1; month = 1; day = 1 };
    day_of_year = 0;
    day_of_week = 1;
    hours = 0;
    minutes = 0;
    seconds = 0;
    milliseconds = 0;
  })
  pub last : AreFields (pos 253402300799999999999) (record {
    date = record { year = 9999; month = 12; day = 31 };
    day_of_year = 364;
    day_of_week = 5;
    hours = 23;
    minutes = 59;
    seconds = 59;
    milliseconds = 999;
  })

-- sums and differences: 86400000000000 is a day. 9223372036 seconds have a sign and 63 bits as nanoseconds, one more has not
pub record SpanRowsHold : Type 0 where
  pub day_before : within (pos 1772323200000000000 -ℤ pos 86400000000000) ≡ Some (pos 1772236800000000000)
  pub day_after : within (pos 1772236800000000000 +ℤ pos 86400000000000) ≡ Some (pos 1772323200000000000)
  pub before_1970 : within (pos 0 +ℤ negsuc 0) ≡ Some (negsuc 0)
  pub after_the_end : within (pos 253402300799999999999 +ℤ pos 1) ≡ None
  pub before_the_start : within (negsuc 62135596799999999999 -ℤ pos 1) ≡ None
  pub between_days : between (pos 1772323200000000000) (pos 1772236800000000000) ≡ Some (pos 86400000000000)
  pub backwards : between (pos 1772236800000000000) (pos 1772323200000000000) ≡ Some (negsuc 86399999999999)
  pub greatest : between (pos 9223372036854775807) (pos 0) ≡ Some (pos 9223372036854775807)
  pub least : between (pos 0) (pos 9223372036854775808) ≡ Some (negsuc 9223372036854775807)
  pub above : between (pos 9223372036854775808) (pos 0) ≡ None
  pub seconds_below : between (pos 145224192) (pos 9223372037000000000) ≡ None
  pub ages : between (pos 253402300799999999999) (negsuc 62135596799999999999) ≡ None
