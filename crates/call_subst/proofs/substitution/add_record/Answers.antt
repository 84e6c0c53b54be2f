use Rattle.std.proofs.Common.{List, sym, ap, ◌∙◌}
use Rattle.std.specs.Option.{option_to_list}
use Rattle.access_paths.specs.declared.path.Path.{Path}
use Rattle.access_domain.specs.declared.access.Access.{Access}
use Rattle.access_domain.specs.declared.numbered.NumberedAccess.{NumberedAccess}
use Rattle.access_domain.specs.Additions.{keys_added}
use Rattle.access_domain.specs.Numbered.{read_accesses}
use Rattle.access_domain.proofs.NumberedReading.{numbered-still, read-added}
use Rattle.call_subst.proofs.substitution.add_record.Goals as goal

pub returns-in-Added-clause-all : goal.returns-in-Added-clause-all
returns-in-Added-clause-all c =
    let old : List Path = c.args.table.now in
    let kept : List NumberedAccess = c.args.kept.now in
    read-added old c.number_access.new.table c.number_access.ensures.table c.number_access.ensures.each_once kept
    c.add.new.self c.in_ok-number_access.field-0 c.add.result c.requires.numbers c.in_ok-number_access.ensures.range
    c.add.ensures c.in-Added.is c.in-Some.made c.in_ok-number_access.ensures.access
    ∙ ap (λ (rs : List Access). keys_added (read_accesses old kept) rs)
    (ap option_to_list (sym c.in-Some.is) ∙ c.in_ok-made.ensures)

pub returns-in-Added-clause-numbers : goal.returns-in-Added-clause-numbers
returns-in-Added-clause-numbers c =
    numbered-still c.args.table.now c.number_access.new.table c.number_access.ensures.table
    c.number_access.ensures.each_once c.args.kept.now c.add.new.self c.in_ok-number_access.field-0 c.add.result
    c.requires.numbers c.in_ok-number_access.ensures.range c.add.ensures c.in-Added.is
