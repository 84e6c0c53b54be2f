-- No public contract rests on this: what is seen of the code's forms and labels.
use Rattle.racer_words.specs.declared.forms.Form.{Form}
use Rattle.racer_words.specs.declared.forms.Form.TheVariants as form
use Rattle.racer_words.specs.declared.forms.Label.{Label}
use Rattle.racer_words.specs.declared.forms.Label.TheVariants as label
use Rattle.racer_words.specs.Uses as uses
use Rattle.racer_words.specs.Words as words

abbrev pub form_view : Form → words.Form
form_view form.Report = words.ForReport
form_view form.Replay = words.ForReplay
form_view form.Made = words.ForMade
form_view form.Edits = words.ForEdits

abbrev pub label_view : Label → uses.Label
label_view label.Folder = uses.Folder
label_view label.Workers = uses.Workers
label_view label.Replay = uses.Replay
label_view label.Made = uses.Made
label_view label.Json = uses.Json
label_view label.Summaries = uses.Summaries
label_view label.History = uses.History
label_view label.Containers = uses.Containers
label_view label.Edits = uses.Edits
label_view label.Typed = uses.Typed
