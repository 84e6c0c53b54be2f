use Rattle.std.proofs.Common.{rules, map, string_bytes}
use Rattle.racer_words.proofs.GivenLines.{some_line, no_line}
use Rattle.racer_words.proofs.Texts.{are_texts}
use Rattle.racer_words.proofs.line.given_line.Goals as goal

-- src/line.rt:39:1
pub returns-in-Ok-Some : goal.returns-in-Ok-Some
returns-in-Ok-Some c = some_line (map string_bytes c.args.words.now) _ (are_texts c.args.words.now) (search rules)
    (search rules)

-- src/line.rt:39:1
pub returns-in-Ok-None : goal.returns-in-Ok-None
returns-in-Ok-None c = no_line (map string_bytes c.args.words.now) (are_texts c.args.words.now) (search rules)
