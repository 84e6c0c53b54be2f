use Rattle.std.proofs.Common.{List, ap, ◌∙◌}
use Rattle.std.specs.List.{list_any}
use Rattle.access_domain.specs.declared.numbered.NumberedAccess.{NumberedAccess}
use Rattle.access_domain.specs.declared.numbered.NumberedKey.{NumberedKey}
use Rattle.access_domain.specs.Numbered.{numbered_key_eq, numbered_key_of, same_numbered_key}
use Rattle.access_domain.proofs.NumberedKeys.{among_numbered}
use Rattle.access_domain.proofs.numbered.NumberedAccesses.has_key_of.Goals as goal

pub returns : goal.returns
returns c =
    let access = c.args.access in
    let items : List NumberedAccess = c.self.inside.items.items in
    let keys : List NumberedKey = c.self.inside.keys.keys in
    c.contains.ensures
    ∙ ap (λ (k : NumberedKey). list_any (numbered_key_eq k) keys) c.key_of.ensures
    ∙ ap (list_any (numbered_key_eq (numbered_key_of access))) c.self.invariant.keyed
    ∙ among_numbered access items
    ∙ ap (list_any (λ r. same_numbered_key r access)) c.self.view_is
