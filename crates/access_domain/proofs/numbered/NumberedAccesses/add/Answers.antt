use Rattle.std.proofs.Common.{◌≡◌, ◌≤◌, false, List, [], ◌∷◌, ◌++◌, length, length-append, refl, sym, ap, subst, ◌∙◌}
use Rattle.std.proofs.Common.{arith}
use Rattle.std.specs.List.{list_any}
use Rattle.indexmap.specs.IndexSet.{insert_key}
use Rattle.racer_base.specs.declared.limits.TheConstants.{MAX_SUMMARY_KEYS}
use Rattle.access_domain.specs.declared.numbered.NumberedAccess.{NumberedAccess}
use Rattle.access_domain.specs.declared.numbered.NumberedKey.{NumberedKey}
use Rattle.access_domain.specs.Numbered.{numbered_key_eq, numbered_key_of, same_numbered_key, AreKept}
use Rattle.access_domain.proofs.NumberedKeys.{HasNumberedKeysOf-added}
use Rattle.access_domain.proofs.numbered.NumberedAccesses.add.Goals as goal

pub invariant_of-self-2 : goal.invariant_of-self-2
invariant_of-self-2 c =
    let access : NumberedAccess = c.args.access in
    let items : List NumberedAccess = c.self.inside.items.items in
    let old : List NumberedKey = c.self.inside.keys.keys in
    let new : List NumberedKey = c.put.new.keys.keys in
    let fresh : list_any (λ r. same_numbered_key r access) items ≡ false =
    ap (list_any (λ r. same_numbered_key r access)) c.self.view_is ∙ sym c.if-has_key_of.ensures in
    let put : new ≡ insert_key numbered_key_eq old (numbered_key_of access) =
    c.in-Ok.ensures.keys ∙ ap (insert_key numbered_key_eq old) c.key_of.ensures in
    let count : length (items ++ access ∷ []) ≤ MAX_SUMMARY_KEYS = omega (arith, length-append items (access ∷ [])) in
    subst (AreKept new) (sym c.in-Ok.ensures.items)
    (record {
      keyed = HasNumberedKeysOf-added old new items access c.self.invariant.keyed fresh put;
      limit = count;
    })

pub returns : goal.returns
returns c =
    let items : List NumberedAccess = c.self.inside.items.items in
    let count : length items ≡ length c.args.self.now = ap length c.self.view_is in (
      sym c.if-has_key_of.ensures,
      omega arith,
      c.in-Ok.ensures.items ∙ ap (λ (records : List NumberedAccess). records ++ c.args.access ∷ []) c.self.view_is,
    )

pub returns-then-len-ge-MAX_SUMMARY_KEYS : goal.returns-then-len-ge-MAX_SUMMARY_KEYS
returns-then-len-ge-MAX_SUMMARY_KEYS c =
    let items : List NumberedAccess = c.self.inside.items.items in
    let count : length items ≡ length c.args.self.now = ap length c.self.view_is in
    let limit : length items ≤ MAX_SUMMARY_KEYS = c.self.invariant.limit in
    (sym c.if-has_key_of.ensures, omega arith, refl)
