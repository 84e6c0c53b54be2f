use Rattle.std.proofs.Common.{Bool, List, [], map, sym, ap, subst, string_bytes, ◌∙◌}
use Rattle.racer_base.specs.declared.ids.MethodId.{MethodId}
use Rattle.core_code.specs.Chains.{TellCycles, flag_of}
use Rattle.core_code.specs.Recursion.{all_rows}
use Rattle.core_lowering_rules.specs.Programs.{program_of, draft_of}
use Rattle.core_lowering.proofs.programs.program_of.Goals as goal

pub program-requires-clause-recursive : goal.program-requires-clause-recursive
program-requires-clause-recursive c =
    subst (λ (flags : List Bool). TellCycles (all_rows (draft_of c.args.declared.containers [] c.args.units.now)) flags)
    (sym c.as_slice.ensures.value)
    (subst (λ (rows : List (List MethodId)). TellCycles rows c.in_ok-flags.flags.items) c.requires.rows
    c.in_ok-flags.ensures.exact)

pub returns : goal.returns
returns c =
    record {
      flags = c.in_ok-flags.flags.items;
      recursive =
          subst (λ (rows : List (List MethodId)). TellCycles rows c.in_ok-flags.flags.items) c.requires.rows
          c.in_ok-flags.ensures.exact;
      program =
          c.in_ok-made.ensures
          ∙ ap
          (λ flags. program_of c.args.declared.containers (map (λ file. string_bytes file) c.args.files.now)
          c.args.units.now (flag_of flags))
          c.as_slice.ensures.value;
    }
