-- A time of a type is one that exists.
use Rattle.std.proofs.Common.{◌≡◌, ℕ, ◌==◌, ◌&&◌, Bool, true, false, if◌then◌else◌}
use Rattle.der_asn1.specs.Times.{is_date_time, is_utc_time}
use Rattle.der_asn1.specs.declared.times.date_time.DateTime.{DateTime}
use Rattle.der_c_values.specs.TimeValues.{is_time_of}

and_right : (a b : Bool) → (a && b) ≡ true → b ≡ true
and_right true b h = h
and_right false b h = absurd (let wrong : false ≡ true = h in cc)

module _ (t : DateTime) where
  from_tests : (a b : Bool) → (if a then is_utc_time t else if b then is_date_time t else false) ≡ true → is_date_time t ≡ true
  from_tests true b h = and_right _ _ (and_right _ _ h)
  from_tests false true h = h
  from_tests false false h = absurd (let wrong : false ≡ true = h in cc)

pub time_exists : (word : ℕ) (t : DateTime) → is_time_of word t ≡ true → is_date_time t ≡ true
time_exists word t h = from_tests t (word == 23) (word == 24) h
