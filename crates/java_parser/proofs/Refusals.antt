-- What an error says that is passed on.
use Rattle.std.proofs.Common.{◌≡◌, Option, None, Result, Err, ap}
use Rattle.std.specs.Prelude.{IsErrOf}
use Rattle.java_parser_types.specs.declared.error.ReadError.{ReadError}
use Rattle.java_parser_types.specs.declared.error.ReadError.TheVariants.{Memory, Unformed}
use Rattle.java_parser_types.specs.ReadAnswer.{Fails}

pub fails_so : {Y : Type 0} (e : ReadError) (read : Option Y) → e ≡ Unformed → Fails e read → read ≡ None
fails_so Memory read e f = absurd cc
fails_so Unformed read e f = f

pub error_is : {T : Type 0} (x y : ReadError) → IsErrOf {T = T} (Err x) y → x ≡ y
error_is x y e = cc

abbrev refused : (U : Type 0) → ReadError → Result U ReadError
refused U z = Err z

pub same_error : {T U : Type 0} (x y : ReadError) → IsErrOf {T = T} (Err x) y → IsErrOf {T = U} (Err x) y
same_error {T} {U} x y e = ap (refused U) (error_is x y e)
