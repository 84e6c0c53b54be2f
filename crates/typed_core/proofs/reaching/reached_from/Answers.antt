use Rattle.std.proofs.Common.{◌≡◌, List, length, map, ap, subst, ◌∙◌, arith}
use Rattle.std.proofs.lemmas.List.{length-map}
use Rattle.core_code.specs.CalleeRows.{different, rows_in}
use Rattle.core_code.specs.Calls.{calls_in}
use Rattle.core_code.specs.Core.{Method, method_of}
use Rattle.core_code.specs.Program.{core}
use Rattle.typed_core.specs.Reaching.{AreEntries}
use Rattle.typed_core.proofs.Reached.{reached-flags}
use Rattle.typed_core.proofs.reaching.reached_from.Goals as goal

pub follow-requires : goal.follow-requires
follow-requires c =
    let program = core c.args.program.now in
    let rows : length (rows_in c.args.rows.now) ≡ length program.methods =
    ap length c.requires.rows_are ∙ length-map program.methods (λ (m : Method). different (calls_in m.code)) in
    let methods : length (map method_of c.methods-methods.result.now) ≡ length program.methods =
    ap length c.methods-methods.ensures in
    let flags : length c.in_ok-reach.reach.flags.items ≡ length (map method_of c.methods-methods.result.now) =
    c.in_ok-reach.ensures.size in
    record { rows = omega arith; come = c.in_ok-reach.ensures.follow.come }

pub returns-clause-flags : goal.returns-clause-flags
returns-clause-flags c =
    let p = c.args.program.now in
    let program = core p in
    let methods = c.methods-methods.result.now in
    let entries : AreEntries c.args.class program.methods c.in_ok-reach.reach =
    subst (λ (ms : List Method). AreEntries c.args.class ms c.in_ok-reach.reach) c.methods-methods.ensures
    c.in_ok-reach.ensures in
    let long : length (map method_of methods) ≡ length methods = length-map methods method_of in
    let same : length (map method_of methods) ≡ length program.methods = ap length c.methods-methods.ensures in
    reached-flags program c.args.class (rows_in c.args.rows.now) c.in_ok-reach.reach c.follow.new.self (length methods)
    p.calls_right p.ranks_there p.entries_analysed c.requires.rows_are entries c.in_ok-follow.ensures
    (omega arith)

pub returns-clause-size : goal.returns-clause-size
returns-clause-size c =
    c.in_ok-follow.ensures.size ∙ c.in_ok-reach.ensures.size ∙ ap length c.methods-methods.ensures
