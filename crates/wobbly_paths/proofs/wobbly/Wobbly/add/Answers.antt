use Rattle.std.proofs.Common.{◌≡◌, ◌+◌, ◌≤◌, Bool, true, false, not, cond, List, length, refl, sym, ap, ◌∙◌, arith}
use Rattle.std.specs.Bool.{OnFalse}
use Rattle.std.specs.FinSet as set
use Rattle.racer_base.specs.declared.limits.TheConstants.{MAX_SUMMARY_KEYS}
use Rattle.access_paths.specs.declared.path.Path.{Path}
use Rattle.access_paths.specs.Order.{PathSet}
use Rattle.wobbly_paths.specs.Inside.{set_of, IsWithin}
use Rattle.wobbly_paths.proofs.SetLemmas.{contains-set, set_of-added, IsWithin-added}
use Rattle.wobbly_paths.proofs.wobbly.Wobbly.add.Goals as goal

was_new : (there added : Bool) → added ≡ not there → added ≡ true → there ≡ false
was_new true added e t = cc
was_new false added e t = refl

was_there : (there added : Bool) → added ≡ not there → added ≡ false → there ≡ true
was_there true added e f = refl
was_there false added e f = cc

kept : {P : Type 0} (added : Bool) → added ≡ false → OnFalse added P → P
kept true e p = cc
kept false e p = p

pub returns-in_default-clause-cases : goal.returns-in_default-clause-cases
returns-in_default-clause-cases c =
    let old : List Path = c.self.inside.paths.keys in (
      ap (λ (paths : PathSet). set.contains paths c.args.path) (sym c.self.view_is)
          ∙ sym (contains-set old c.args.path)
          ∙ c.in_default.ensures.absent,
      omega arith,
      ap set_of c.in_default.ensures.err ∙ c.self.view_is,
    )

pub returns-then-not-added-clause-cases : goal.returns-then-not-added-clause-cases
returns-then-not-added-clause-cases c =
    let old : List Path = c.self.inside.paths.keys in (
      ap (λ (paths : PathSet). set.contains paths c.args.path) (sym c.self.view_is)
          ∙ sym (contains-set old c.args.path)
          ∙ was_there _ c.in-Ok.added c.in-Ok.ensures.added c.if-not-added.true,
      ap set_of (kept c.in-Ok.added c.if-not-added.true c.in-Ok.ensures.unchanged) ∙ c.self.view_is,
    )

pub invariant_of-self-2 : goal.invariant_of-self-2
invariant_of-self-2 c =
    let old : List Path = c.self.inside.paths.keys in
    let new : List Path = c.insert.new.self.keys in
    let fresh : set.contains (set_of old) c.args.path ≡ false =
    sym (contains-set old c.args.path) ∙ was_new _ c.in-Ok.added c.in-Ok.ensures.added c.if-not-added.false in
    let grown : set_of new ≡ set.insert (set_of old) c.args.path =
    set_of-added old new c.args.path c.in-Ok.ensures.updates.0 in
    let long : length new ≡ length old + 1 =
    c.in-Ok.ensures.len ∙ ap (λ (b : Bool). length old + cond b 1 0) c.if-not-added.false in
    let were : set.len (set_of old) ≡ length old = c.self.invariant.different in
    let count : set.len (set_of old) ≡ set.len c.args.self.now = ap set.len c.self.view_is in
    IsWithin-added old new c.args.path c.self.invariant fresh grown long (omega arith)

pub returns-clause-cases : goal.returns-clause-cases
returns-clause-cases c =
    let old : List Path = c.self.inside.paths.keys in
    let grown : set_of c.insert.new.self.keys ≡ set.insert (set_of old) c.args.path =
    set_of-added old c.insert.new.self.keys c.args.path c.in-Ok.ensures.updates.0 in (
      ap (λ (paths : PathSet). set.contains paths c.args.path) (sym c.self.view_is)
          ∙ sym (contains-set old c.args.path)
          ∙ was_new _ c.in-Ok.added c.in-Ok.ensures.added c.if-not-added.false,
      omega arith,
      grown ∙ ap (λ (paths : PathSet). set.insert paths c.args.path) c.self.view_is,
    )

pub returns-clause-limit : goal.returns-clause-limit
returns-clause-limit c =
    let within : IsWithin c.insert.new.self.keys = invariant_of-self-2 c in
    let different : set.len (set_of c.insert.new.self.keys) ≡ length c.insert.new.self.keys = within.different in
    let limit : length c.insert.new.self.keys ≤ MAX_SUMMARY_KEYS = within.limit in
    omega arith
