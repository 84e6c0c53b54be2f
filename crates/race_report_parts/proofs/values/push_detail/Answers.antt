use Rattle.std.proofs.Common.{subst, sym}
use Rattle.core_code.specs.Program.{core}
use Rattle.core_ways.specs.declared.mark.Mark.{Mark}
use Rattle.core_ways.specs.Marks.{said_by}
use Rattle.race_report_parts.specs.Sides.{sides_told}
use Rattle.race_report_parts.specs.Written.{Puts}
use Rattle.race_report_parts.specs.Pieces.{detail_text}
use Rattle.race_report_parts.proofs.PutChains.{two}
use Rattle.race_report_parts.proofs.values.push_detail.Goals as goal

pub returns-in-Confirmed : goal.returns-in-Confirmed
returns-in-Confirmed c =
    subst (λ (mark : Mark). Puts (detail_text (core c.args.program.now) (sides_told c.args.sides.now) (said_by mark))
    c.args.text.now c.push_witness_member.new.text) (sym c.in-Confirmed.is) c.push_witness_member.ensures

pub returns-in-Blocked : goal.returns-in-Blocked
returns-in-Blocked c =
    let program = core c.args.program.now in
    let sides = sides_told c.args.sides.now in
    subst (λ (mark : Mark). Puts (detail_text program sides (said_by mark)) c.args.text.now
    c.push_mark_number-in-Blocked.new.text) (sym c.in-Blocked.is)
    (two
    c.push_mark_place-in-Blocked.ensures c.push_mark_number-in-Blocked.ensures)
