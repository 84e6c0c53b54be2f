use Rattle.std.proofs.Common.{◌≡◌, ◌<◌, false, refl, rules, arith}
use Rattle.java_lexer.specs.Scanning.{keywords_with}
use Rattle.java_lexer.proofs.Tables.{row}
use Rattle.java_lexer.proofs.KeywordGroups.{is_keyword_start, is_keyword_start_only, group_97, group_98, group_99}
use Rattle.java_lexer.proofs.KeywordGroups.{group_100, group_101, group_102, group_103, group_105, group_108, group_110}
use Rattle.java_lexer.proofs.KeywordGroups.{group_112, group_114, group_115, group_116, group_118, group_119}
use Rattle.java_lexer.proofs.words.keywords_with.Goals as goal

pub slice_bounds-result-end-in_default : goal.slice_bounds-result-end-in_default
slice_bounds-result-end-in_default c = refl

pub returns-in-97 : goal.returns-in-97
returns-in-97 c = row keywords_with 97 c.args.first _ group_97 c.in-97.is

pub returns-in-98 : goal.returns-in-98
returns-in-98 c = row keywords_with 98 c.args.first _ group_98 c.in-98.is

pub returns-in-99 : goal.returns-in-99
returns-in-99 c = row keywords_with 99 c.args.first _ group_99 c.in-99.is

pub returns-in-100 : goal.returns-in-100
returns-in-100 c = row keywords_with 100 c.args.first _ group_100 c.in-100.is

pub returns-in-101 : goal.returns-in-101
returns-in-101 c = row keywords_with 101 c.args.first _ group_101 c.in-101.is

pub returns-in-102 : goal.returns-in-102
returns-in-102 c = row keywords_with 102 c.args.first _ group_102 c.in-102.is

pub returns-in-103 : goal.returns-in-103
returns-in-103 c = row keywords_with 103 c.args.first _ group_103 c.in-103.is

pub returns-in-105 : goal.returns-in-105
returns-in-105 c = row keywords_with 105 c.args.first _ group_105 c.in-105.is

pub returns-in-108 : goal.returns-in-108
returns-in-108 c = row keywords_with 108 c.args.first _ group_108 c.in-108.is

pub returns-in-110 : goal.returns-in-110
returns-in-110 c = row keywords_with 110 c.args.first _ group_110 c.in-110.is

pub returns-in-112 : goal.returns-in-112
returns-in-112 c = row keywords_with 112 c.args.first _ group_112 c.in-112.is

pub returns-in-114 : goal.returns-in-114
returns-in-114 c = row keywords_with 114 c.args.first _ group_114 c.in-114.is

pub returns-in-115 : goal.returns-in-115
returns-in-115 c = row keywords_with 115 c.args.first _ group_115 c.in-115.is

pub returns-in-116 : goal.returns-in-116
returns-in-116 c = row keywords_with 116 c.args.first _ group_116 c.in-116.is

pub returns-in-118 : goal.returns-in-118
returns-in-118 c = row keywords_with 118 c.args.first _ group_118 c.in-118.is

pub returns-in-119 : goal.returns-in-119
returns-in-119 c = row keywords_with 119 c.args.first _ group_119 c.in-119.is

pub returns-in_default : goal.returns-in_default
returns-in_default c =
    let none : is_keyword_start c.args.first ≡ false = search rules in
    let small : c.args.first < 256 = omega arith in
    is_keyword_start_only c.args.first small none
