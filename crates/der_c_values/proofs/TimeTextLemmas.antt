-- The text of a time, digit by digit.
use Rattle.std.proofs.Common.{◌≡◌, ℕ, ◌+◌, ◌/◌, ◌%◌, ◌<◌, true, List, ◌∷◌, ◌++◌, codes, length, ap, ◌∙◌, arith}
use Rattle.std.proofs.lemmas.Fmt.{decimal_digit}
use Rattle.std.specs.Fmt.{decimal}
use Rattle.der_asn1.specs.DateTimeText.{date_time_text, two_decimals}
use Rattle.der_asn1.specs.Times.{is_date_time, two_digits}
use Rattle.der_asn1.specs.declared.times.date_time.DateTime.{DateTime}
use Rattle.der_asn1.proofs.TimeLemmas.{bounded}

two_decimals_are : (n : ℕ) → n < 100 → two_decimals n ≡ two_digits n
two_decimals_are n h = ap (λ l. l ++ decimal (n % 10)) (decimal_digit (n / 10) (omega arith)) ∙ ap (λ l. (48 + n / 10) ∷ l) (decimal_digit (n % 10) (omega arith))

abbrev pub text_of_parts : List ℕ → List ℕ → List ℕ → List ℕ → List ℕ → List ℕ → List ℕ → List ℕ
text_of_parts a b c d e f g = a ++ (b ++ (codes "-" ++ (c ++ (codes "-" ++ (d ++ (codes "T" ++ (e ++ (codes ":" ++ (f ++ (codes ":" ++ (g ++ codes "Z")))))))))))

abbrev pub digits_text : DateTime → List ℕ
digits_text t = text_of_parts (two_digits (t.year / 100)) (two_digits (t.year % 100)) (two_digits t.month) (two_digits t.day) (two_digits t.hour) (two_digits t.minute) (two_digits t.second)

pub text_is_digits : (t : DateTime) → is_date_time t ≡ true → date_time_text t ≡ digits_text t
text_is_digits t valid =
    let b = bounded t valid in
    let century = two_decimals_are (t.year / 100) (omega (arith, b.year)) in
    let year = two_decimals_are (t.year % 100) (omega arith) in
    let month = two_decimals_are t.month (omega (arith, b.month)) in
    let day = two_decimals_are t.day (omega (arith, b.day)) in
    let hour = two_decimals_are t.hour (omega (arith, b.hour)) in
    let minute = two_decimals_are t.minute (omega (arith, b.minute)) in
    let second = two_decimals_are t.second (omega (arith, b.second)) in
    ap (λ x. text_of_parts x (two_decimals (t.year % 100)) (two_decimals t.month) (two_decimals t.day) (two_decimals t.hour) (two_decimals t.minute) (two_decimals t.second)) century
    ∙ ap (λ x. text_of_parts (two_digits (t.year / 100)) x (two_decimals t.month) (two_decimals t.day) (two_decimals t.hour) (two_decimals t.minute) (two_decimals t.second)) year
    ∙ ap (λ x. text_of_parts (two_digits (t.year / 100)) (two_digits (t.year % 100)) x (two_decimals t.day) (two_decimals t.hour) (two_decimals t.minute) (two_decimals t.second)) month
    ∙ ap (λ x. text_of_parts (two_digits (t.year / 100)) (two_digits (t.year % 100)) (two_digits t.month) x (two_decimals t.hour) (two_decimals t.minute) (two_decimals t.second)) day
    ∙ ap (λ x. text_of_parts (two_digits (t.year / 100)) (two_digits (t.year % 100)) (two_digits t.month) (two_digits t.day) x (two_decimals t.minute) (two_decimals t.second)) hour
    ∙ ap (λ x. text_of_parts (two_digits (t.year / 100)) (two_digits (t.year % 100)) (two_digits t.month) (two_digits t.day) (two_digits t.hour) x (two_decimals t.second)) minute
    ∙ ap (λ x. text_of_parts (two_digits (t.year / 100)) (two_digits (t.year % 100)) (two_digits t.month) (two_digits t.day) (two_digits t.hour) (two_digits t.minute) x) second

pub length-text : (t : DateTime) → is_date_time t ≡ true → length (date_time_text t) ≡ 20
length-text t valid = ap length (text_is_digits t valid)
