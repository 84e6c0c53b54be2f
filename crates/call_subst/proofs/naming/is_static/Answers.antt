use Rattle.std.proofs.Common.{Bool, true, None, Some, length, slice_get, refl, sym, ap, ◌∙◌, option_map}
use Rattle.std.specs.Prelude.{Option}
use Rattle.std.proofs.lemmas.Option.{slice_get-map, slice_get_past, slice_get_read}
use Rattle.core_code.specs.Core.{Method, method_of}
use Rattle.call_subst.proofs.naming.is_static.Goals as goal

abbrev is_read : Option Method → Bool
is_read None = true
is_read (Some method) = method.is_static

pub returns-in-Some : goal.returns-in-Some
returns-in-Some c =
    let methods = c.methods.result.now in
    let found = c.in-Some.ensures.lookup in
    let read = slice_get_read methods (length methods) c.args.method.0 c.in-Some.method.now refl found.3.0 found.1 in
    ap (λ o. is_read (option_map method_of o)) (sym read)
    ∙ ap is_read (sym (slice_get-map method_of methods c.args.method.0))
    ∙ ap (λ all. is_read (slice_get all c.args.method.0)) c.methods.ensures

pub returns-in-None : goal.returns-in-None
returns-in-None c =
    let methods = c.methods.result.now in
    let past = slice_get_past methods c.args.method.0 c.in-None.ensures.lookup.3 in
    ap (λ o. is_read (option_map method_of o)) (sym past)
    ∙ ap is_read (sym (slice_get-map method_of methods c.args.method.0))
    ∙ ap (λ all. is_read (slice_get all c.args.method.0)) c.methods.ensures
