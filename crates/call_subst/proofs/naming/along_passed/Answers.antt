use Rattle.std.proofs.Common.{◌≡◌, ◌≤◌, List, Option, length, unwrap_or, slice_index_or, sym, ap, ◌∙◌}
use Rattle.std.proofs.lemmas.Bool.{ltb-false}
use Rattle.std.proofs.lemmas.Option.{unwrap_or-slice_get, slice_get_past}
use Rattle.owner_domain.specs.declared.value.Value.{Value}
use Rattle.owner_domain.specs.declared.value.Value.TheVariants.{Unnamed}
use Rattle.owner_domain.specs.Values.{along}
use Rattle.owner_domain.proofs.Along.{along-unnamed}
use Rattle.call_subst.proofs.naming.along_passed.Goals as goal

pub returns-in-None : goal.returns-in-None
returns-in-None c =
    let values : List Value = c.args.values.now in
    let index = c.args.index in
    let past : length values ≤ index = ltb-false index (length values) (sym c.in-None.ensures.lookup.0) in
    let none : slice_index_or values index Unnamed ≡ Unnamed =
    sym (unwrap_or-slice_get values index Unnamed)
    ∙ ap (λ (o : Option Value). unwrap_or o Unnamed) (slice_get_past values index past) in
    sym (along-unnamed c.args.fields.now) ∙ ap (λ (v : Value). along v c.args.fields.now) (sym none)
