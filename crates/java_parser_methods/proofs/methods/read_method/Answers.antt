use Rattle.std.proofs.Common.{Result, Ok, Err, IfOk}
use Rattle.java_tree.specs.declared.methods.MethodTree.{MethodTree}
use Rattle.java_tree.specs.KeptPlaces.{Places, Marks, AreAt, kept}
use Rattle.java_tree.specs.MethodPlaces.{method_marks}
use Rattle.java_parser_types.specs.declared.error.ReadError.{ReadError}
use Rattle.java_parser_types.specs.LedPlaces.{Leads}
use Rattle.java_parser_methods.specs.SignatureReading.{front_marks}
use Rattle.java_parser_methods.proofs.methods.read_method.Goals as goal

from_start : (read : Marks → Marks) (here left : Places) → Leads read here left → (r : Result MethodTree ReadError)
    → IfOk r (λ tree. (start : Places) → Leads read start left → AreAt (method_marks tree) start)
    → IfOk r (λ tree. AreAt (method_marks tree) here)
from_start read here left led (Ok x) h = h here led
from_start read here left led (Err e) h = tt

pub returns-clause-places : goal.returns-clause-places
returns-clause-places c =
    from_start (front_marks c.in_ok-front.front) (kept c.args.tokens.now) (kept c.in_ok-front.rest.now)
    c.in_ok-front.ensures.places c.method_from_name.result c.method_from_name.ensures.places
