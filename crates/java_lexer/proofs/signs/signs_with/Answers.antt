use Rattle.std.proofs.Common.{◌≡◌, ◌<◌, false, refl, rules, arith}
use Rattle.java_lexer.specs.Scanning.{signs_with}
use Rattle.java_lexer.proofs.Tables.{row}
use Rattle.java_lexer.proofs.SignGroups.{is_start, is_start_only, group_40, group_41, group_123, group_125, group_91}
use Rattle.java_lexer.proofs.SignGroups.{group_93, group_59, group_44, group_46, group_64, group_58, group_126}
use Rattle.java_lexer.proofs.SignGroups.{group_63, group_61, group_33, group_62, group_60, group_45, group_43, group_42}
use Rattle.java_lexer.proofs.SignGroups.{group_47, group_37, group_38, group_124, group_94}
use Rattle.java_lexer.proofs.signs.signs_with.Goals as goal

pub slice_bounds-result-end-in_default : goal.slice_bounds-result-end-in_default
slice_bounds-result-end-in_default c = refl

pub returns-in-40 : goal.returns-in-40
returns-in-40 c = row signs_with 40 c.args.first _ group_40 c.in-40.is

pub returns-in-41 : goal.returns-in-41
returns-in-41 c = row signs_with 41 c.args.first _ group_41 c.in-41.is

pub returns-in-123 : goal.returns-in-123
returns-in-123 c = row signs_with 123 c.args.first _ group_123 c.in-123.is

pub returns-in-125 : goal.returns-in-125
returns-in-125 c = row signs_with 125 c.args.first _ group_125 c.in-125.is

pub returns-in-91 : goal.returns-in-91
returns-in-91 c = row signs_with 91 c.args.first _ group_91 c.in-91.is

pub returns-in-93 : goal.returns-in-93
returns-in-93 c = row signs_with 93 c.args.first _ group_93 c.in-93.is

pub returns-in-59 : goal.returns-in-59
returns-in-59 c = row signs_with 59 c.args.first _ group_59 c.in-59.is

pub returns-in-44 : goal.returns-in-44
returns-in-44 c = row signs_with 44 c.args.first _ group_44 c.in-44.is

pub returns-in-46 : goal.returns-in-46
returns-in-46 c = row signs_with 46 c.args.first _ group_46 c.in-46.is

pub returns-in-64 : goal.returns-in-64
returns-in-64 c = row signs_with 64 c.args.first _ group_64 c.in-64.is

pub returns-in-58 : goal.returns-in-58
returns-in-58 c = row signs_with 58 c.args.first _ group_58 c.in-58.is

pub returns-in-126 : goal.returns-in-126
returns-in-126 c = row signs_with 126 c.args.first _ group_126 c.in-126.is

pub returns-in-63 : goal.returns-in-63
returns-in-63 c = row signs_with 63 c.args.first _ group_63 c.in-63.is

pub returns-in-61 : goal.returns-in-61
returns-in-61 c = row signs_with 61 c.args.first _ group_61 c.in-61.is

pub returns-in-33 : goal.returns-in-33
returns-in-33 c = row signs_with 33 c.args.first _ group_33 c.in-33.is

pub returns-in-62 : goal.returns-in-62
returns-in-62 c = row signs_with 62 c.args.first _ group_62 c.in-62.is

pub returns-in-60 : goal.returns-in-60
returns-in-60 c = row signs_with 60 c.args.first _ group_60 c.in-60.is

pub returns-in-45 : goal.returns-in-45
returns-in-45 c = row signs_with 45 c.args.first _ group_45 c.in-45.is

pub returns-in-43 : goal.returns-in-43
returns-in-43 c = row signs_with 43 c.args.first _ group_43 c.in-43.is

pub returns-in-42 : goal.returns-in-42
returns-in-42 c = row signs_with 42 c.args.first _ group_42 c.in-42.is

pub returns-in-47 : goal.returns-in-47
returns-in-47 c = row signs_with 47 c.args.first _ group_47 c.in-47.is

pub returns-in-37 : goal.returns-in-37
returns-in-37 c = row signs_with 37 c.args.first _ group_37 c.in-37.is

pub returns-in-38 : goal.returns-in-38
returns-in-38 c = row signs_with 38 c.args.first _ group_38 c.in-38.is

pub returns-in-124 : goal.returns-in-124
returns-in-124 c = row signs_with 124 c.args.first _ group_124 c.in-124.is

pub returns-in-94 : goal.returns-in-94
returns-in-94 c = row signs_with 94 c.args.first _ group_94 c.in-94.is

pub returns-in_default : goal.returns-in_default
returns-in_default c =
    let none : is_start c.args.first ≡ false = search rules in
    let small : c.args.first < 256 = omega arith in
    is_start_only c.args.first small none
