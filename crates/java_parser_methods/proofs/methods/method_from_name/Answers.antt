use Rattle.std.proofs.Common.{[], map, sym, subst, refl}
use Rattle.java_parser_methods.specs.SignatureReading.{front_marks, signature_marks, whole_named_at}
use Rattle.java_tree.specs.KeptPlaces.{kept, each_puts, stmt_places}
use Rattle.java_tree.specs.KeptPlaces.{Marks, AreAt}
use Rattle.java_parser_methods.proofs.LedMarks.{whole_at}
use Rattle.java_parser_methods.proofs.methods.method_from_name.Goals as goal

pub returns-clause-places : goal.returns-clause-places
returns-clause-places c start so_far =
    subst (λ (ms : Marks). AreAt ms start) (sym c.method.ensures.places) (whole_at (front_marks c.args.front)
    (signature_marks c.in_ok-signature.signature) (each_puts (map stmt_places c.in_ok-body.body.items) []) start
    (kept c.args.tokens.now) (kept c.in_ok-signature.rest.now) so_far c.in_ok-signature.ensures.places
    c.in_ok-body.ensures.places)

pub returns-clause-gives : goal.returns-clause-gives
unfolding whole_named_at
returns-clause-gives c =
    rw (c.in_ok-signature.ensures.gives, c.in_ok-body.ensures.gives, c.method.ensures.gives) refl
