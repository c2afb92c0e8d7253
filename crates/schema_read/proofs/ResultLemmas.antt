-- What holds of a result, or of an option.
use Rattle.std.specs.Prelude.{◌≡◌, true, Result, Ok, Err, IfOk, IfErr, Option, Some, None, IfSome, IfNone, is_some, is_none}

-- what follows for the value, if there is one
pub if_ok : {A E : Type 0} {P Q : A → Type 0} (r : Result A E) → ((a : A) → P a → Q a) → IfOk r P → IfOk r Q
if_ok (Ok a) f p = f a p
if_ok (Err e) f p = tt

-- what holds anyway, if there is an error
pub on_err : {A E : Type 0} {P : Type 0} (r : Result A E) → P → IfErr r (λ e. P)
on_err (Ok a) p = tt
on_err (Err e) p = p

-- what holds if there is no value, where a test says that there is none
pub if_none : {A : Type 0} {P : Type 0} (o : Option A) → IfNone o P → is_none o ≡ true → P
if_none None p on = p
if_none (Some a) p on = absurd (cc)

-- what holds of the value, where a test says that there is one
pub if_some : {A : Type 0} {P : A → Type 0} (o : Option A) → IfSome o P → is_some o ≡ true → (a : A) × P a
if_some None p on = absurd (cc)
if_some (Some a) p on = (a, p)
