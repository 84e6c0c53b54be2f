use Rattle.std.proofs.Common.{◌∙◌, string_bytes}
use Rattle.racer_run.proofs.EditSessions.{why_said}
use Rattle.racer_run.proofs.sessions.not_edits.Goals as goal

pub returns : goal.returns
returns c =
    why_said c.args.fault (string_bytes c.in_ok-text.text) (string_bytes c.put_why.new.text) c.from.result
    c.in_ok-put_why.ensures c.in_ok-text.ensures.ok (c.from.ensures ∙ c.in_ok-push_str.ensures.bytes)
