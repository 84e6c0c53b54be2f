use Rattle.std.proofs.Common.{rules, None, Some, ◌∙◌}
use Rattle.core_code.specs.Program.{core}
use Rattle.witness_text_names.specs.Indexes.{reached_of}
use Rattle.witness_text_names.specs.Names.{names_in}
use Rattle.witness_text_names.proofs.NamesCut.{some_name}
use Rattle.witness_text_names.proofs.Walks.{walk_end, walk_next, walk_stop}
use Rattle.witness_text_names.proofs.walk.walk.Goals as goal

pub loop-name-preserved : goal.loop-name-preserved
loop-name-preserved c = (
  search rules,
  walk_next (core c.args.program.now) c.args.ends c.loop-name.rest.now c.in-Some.name.now
      (names_in c.in-Some.behind.now) c.loop-name.path.items c.push.new.self.items (reached_of c.loop-name.reached)
      (reached_of c.in-Some-next_named.next) c.in-Some-next_named.field c.in-Some.ensures.names
      (some_name c.in-Some.behind.now) c.in-Some-next_named.ensures c.in_ok-push.ensures.items
      ∙ c.loop-name.invariant.1,
)

pub returns-in_default-next_named : goal.returns-in_default-next_named
returns-in_default-next_named c =
    walk_stop (core c.args.program.now) c.args.ends c.loop-name.rest.now c.in-Some.name.now
    (names_in c.in-Some.behind.now) c.loop-name.path.items (reached_of c.loop-name.reached) c.in-Some.ensures.names
    (some_name c.in-Some.behind.now) c.in_default-next_named.ensures
    ∙ c.loop-name.invariant.1

pub returns-in_default-last_named : goal.returns-in_default-last_named
returns-in_default-last_named c =
    walk_end (core c.args.program.now) c.args.ends c.loop-name.rest.now c.loop-name.path.items
    (reached_of c.loop-name.reached) None c.in_default.ensures.names c.in_default-last_named.ensures
    ∙ c.loop-name.invariant.1

pub returns : goal.returns
returns c =
    walk_end (core c.args.program.now) c.args.ends c.loop-name.rest.now c.loop-name.path.items
    (reached_of c.loop-name.reached) (Some c.in-Some-last_named.field) c.in_default.ensures.names
    c.in-Some-last_named.ensures
    ∙ c.loop-name.invariant.1
