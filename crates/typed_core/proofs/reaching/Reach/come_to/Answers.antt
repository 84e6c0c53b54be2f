use Rattle.std.proofs.Common.{◌≡◌, ◌<◌, false, length, refl, sym, ◌∙◌, arith}
use Rattle.std.proofs.lemmas.List.{get_or_read}
use Rattle.typed_core.specs.Reaching.{is_come_to}
use Rattle.typed_core.proofs.Coming.{came-new}
use Rattle.typed_core.proofs.reaching.Reach.come_to.Goals as goal

pub returns : goal.returns
returns c =
    let flags = c.args.self.now.flags in
    let low : c.args.m.0 < length flags.items = omega (arith, c.if-number-len.false, c.len.ensures, flags.ok.0) in
    let not_yet : is_come_to c.args.self.now c.args.m ≡ false =
    sym (get_or_read flags.items c.args.m.0 c.index.result.now low c.index.ensures false) ∙ c.if-index.false in
    came-new c.args.m c.args.self.now _ low not_yet refl c.in-Ok.ensures.items
