use Rattle.std.proofs.Common.{◌≡◌, ◌<◌, List, length, slice_get, refl, sym, ap, ◌∙◌, arith}
use Rattle.std.proofs.lemmas.Option.{slice_get_read}
use Rattle.access_domain.specs.declared.access.Access.{Access}
use Rattle.access_domain.proofs.access.Accesses.get.Goals as goal

pub returns : goal.returns
returns c =
    let items : List Access = c.self.inside.items.items in
    let index = c.args.index in
    let count : length items ≡ length c.args.self.now = ap length c.self.view_is in
    let within : index < length items = omega arith in
    ap (λ (records : List Access). slice_get records index) (sym c.self.view_is)
    ∙ slice_get_read items _ index c.index.result.now refl within c.index.ensures
