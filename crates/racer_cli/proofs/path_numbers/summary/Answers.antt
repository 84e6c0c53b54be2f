use Rattle.std.proofs.Common.{List, [], ◌∷◌, ◌++◌, refl, sym, ap, subst, ◌∙◌, arith}
use Rattle.access_domain.specs.declared.access.Access.{Access}
use Rattle.access_domain.specs.Records.{IsWithin}
use Rattle.racer_cli.proofs.path_numbers.summary.Goals as goal

pub from_vec-requires : goal.from_vec-requires
from_vec-requires c =
    let one : Access = c.in_ok-access.field-0 in
    subst IsWithin
    (sym (c.in_ok-push.ensures.items ∙ ap (λ (xs : List Access). xs ++ one ∷ []) c.new-records.ensures.items))
    (record { firsts = refl; limit = omega arith })
