use Rattle.std.proofs.Common.{ℕ, Some, sym, ap, option_map, ◌∙◌}
use Rattle.std.specs.Option.{option_copied}
use Rattle.core_code.specs.Program.{core}
use Rattle.access_domain.specs.Outcomes.{outcomes_held}
use Rattle.access_paths.specs.declared.path.Path.{Path}
use Rattle.access_paths.specs.Paths.{front}
use Rattle.witness_build.proofs.FoundPrefixes.{unstable-is}
use Rattle.witness_build.proofs.prefixes.unstable_prefix.Goals as goal

pub returns-in_ok-front-in-Some : goal.returns-in_ok-front-in-Some
returns-in_ok-front-in-Some c =
    let path = c.args.path.now in
    ap (λ (p : Path). Some p) c.in_ok-front-in-Some.ensures
    ∙ ap (option_map (λ (n : ℕ). front n path)) (sym c.in-Some.is)
    ∙ unstable-is (core c.args.program.now) (outcomes_held c.args.outcomes.now.items) c.args.m1 c.args.m2 path
    (option_copied c.wobbly_of.result) (option_copied c.wobbly_of-2.result) c.in_ok-first.first
    c.in_ok-second.second c.least.result c.requires c.wobbly_of.ensures c.wobbly_of-2.ensures
    c.in_ok-first.ensures c.in_ok-second.ensures c.least.ensures

pub returns-in-None : goal.returns-in-None
returns-in-None c =
    let path = c.args.path.now in
    ap (option_map (λ (n : ℕ). front n path)) (sym c.in-None.is)
    ∙ unstable-is (core c.args.program.now) (outcomes_held c.args.outcomes.now.items) c.args.m1 c.args.m2 path
    (option_copied c.wobbly_of.result) (option_copied c.wobbly_of-2.result) c.in_ok-first.first
    c.in_ok-second.second c.least.result c.requires c.wobbly_of.ensures c.wobbly_of-2.ensures
    c.in_ok-first.ensures c.in_ok-second.ensures c.least.ensures
