use Rattle.std.proofs.Common.{◌≡◌, Bool, false, None, Some, length, refl, rules, sym, ap, ◌∙◌}
use Rattle.std.specs.Prelude.{Option, is_none}
use Rattle.std.proofs.lemmas.Option.{slice_get_past, slice_get_read}
use Rattle.core_code.specs.declared.code.Reason.{Reason}
use Rattle.core_lowering_rules.specs.Context.{Context, is_analysed}
use Rattle.core_lowering_context.proofs.context.Context.is_analysed.Goals as goal

abbrev is_read : Option (Option Reason) → Bool
is_read None = false
is_read (Some status) = is_none status

pub returns-in-None : goal.returns-in-None
returns-in-None c =
    ap is_read (sym (slice_get_past c.self.inside.statuses.now c.args.m.0 c.in-None.ensures.lookup.3))
    ∙ ap (λ (context : Context). is_analysed context c.args.m) c.self.view_is

pub returns-in-Some : goal.returns-in-Some
returns-in-Some c =
    let statuses = c.self.inside.statuses.now in
    let status = c.in-Some.status.now in
    let found = c.in-Some.ensures.lookup in
    let given : c.is_none.result ≡ is_none status = search rules in
    given
    ∙ ap is_read (sym (slice_get_read statuses (length statuses) c.args.m.0 status refl found.3.0 found.1))
    ∙ ap (λ (context : Context). is_analysed context c.args.m) c.self.view_is
