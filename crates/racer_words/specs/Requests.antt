-- A contract of a public call rests on this: what is seen of a request.
use Rattle.racer_words.specs.declared.request.Request.{Request}
use Rattle.racer_words.specs.declared.request.Request.TheVariants as request
use Rattle.racer_words.specs.declared.request.WantedReport.{WantedReport}
use Rattle.racer_words.specs.declared.request.WantedReplay.{WantedReplay}
use Rattle.racer_words.specs.declared.request.WantedMade.{WantedMade}
use Rattle.racer_words.specs.declared.request.WantedEdits.{WantedEdits}
use Rattle.racer_words.specs.Words as words

-- what is seen of a wanted report
abbrev pub wanted_of : WantedReport → words.WantedReport
wanted_of wanted =
    record {
      folder = wanted.folder;
      mode = wanted.mode;
      workers = wanted.workers;
      history = wanted.history;
      containers = wanted.containers;
      typed = wanted.typed;
    }

abbrev pub replay_of : WantedReplay → words.WantedReplay
replay_of wanted =
    record { folder = wanted.folder; witness = wanted.witness; containers = wanted.containers }

abbrev pub made_of : WantedMade → words.WantedMade
made_of wanted = record { number = wanted.number; workers = wanted.workers }

abbrev pub edits_of : WantedEdits → words.WantedEdits
edits_of wanted = record { folder = wanted.folder; edits = wanted.edits }

abbrev pub seen : Request → words.Request
seen (request.ReportOn wanted) = words.ReportOn (wanted_of wanted)
seen (request.ReplayOf wanted) = words.ReplayOf (replay_of wanted)
seen (request.MadeOf wanted) = words.MadeOf (made_of wanted)
seen (request.EditsOf wanted) = words.EditsOf (edits_of wanted)
