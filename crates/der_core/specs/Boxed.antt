-- Boxed values: `BoxedRead` has the cases of reading one.
use Rattle.std.specs.Prelude.{◌≡◌, Result, Ok, Err}
use Rattle.der_base.specs.Error.{error_of_kind}
use Rattle.der_base.specs.declared.error.Error.{Error}
use Rattle.der_base.specs.declared.error.ErrorKind.TheVariants.{OutOfMemory}
use Rattle.der_core.specs.ReaderState.{ReaderState}

-- a value is read, and then memory is allocated; if that fails the reader stays after the contents
pub data BoxedRead {A B E : Type 0} (unboxed : B → A)
    (answers : ReaderState → Result A E → ReaderState → Type 0) (converts : Error → E → Type 0)
    (s : ReaderState) (result : Result B E) (t : ReaderState) : Type 0 where
  boxed : (b : B) → answers s (Ok (unboxed b)) t → result ≡ Ok b
      → BoxedRead unboxed answers converts s result t
  not_read : (e : E) → answers s (Err e) t → result ≡ Err e
      → BoxedRead unboxed answers converts s result t
  no_memory : (v : A) (e : E) → answers s (Ok v) t → converts (error_of_kind OutOfMemory) e
      → result ≡ Err e → BoxedRead unboxed answers converts s result t
