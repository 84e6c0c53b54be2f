-- A contract of a public call rests on this: `push_history`, and `run` of racer_run. The text of a history.
use Rattle.std.specs.Prelude.{ℕ, List, [], ◌++◌, codes, Option, None, Some}
use Rattle.std.specs.List.{flat_map}
use Rattle.std.specs.Fmt.{decimal}
use Rattle.racer_base.specs.declared.ids.MethodId.{MethodId}
use Rattle.core_code.specs.Calls.{method_at}
use Rattle.core_code.specs.Core.{Core, Method}
use Rattle.race_report_parts.specs.Texts.{method_text}
use Rattle.summary_store.specs.declared.machine.Event.{Event}
use Rattle.summary_store.specs.declared.machine.Event.TheVariants.{Take, Park, Publish, Leave}

-- the text of a method, where there is one
abbrev pub text_of : Core → Option Method → List ℕ
text_of core None = []
text_of core (Some method) = method_text core method

-- a space, and the text of the method of this number
abbrev pub method_word : Core → MethodId → List ℕ
method_word core m = codes " " ++ text_of core (method_at core m)

-- the line of an event: its word, the worker's number, and the methods; of a park first the parked one
abbrev pub event_line : Core → Event → List ℕ
event_line core (Take w m) = codes "take " ++ decimal w ++ method_word core m ++ codes "\n"
event_line core (Park w m callee) = codes "park " ++ decimal w ++ method_word core m ++ method_word core callee
    ++ codes "\n"
event_line core (Publish w m) = codes "publish " ++ decimal w ++ method_word core m ++ codes "\n"
event_line core (Leave w) = codes "leave " ++ decimal w ++ codes "\n"

-- the lines of the events, in their order
abbrev pub history_text : Core → List Event → List ℕ
history_text core history = flat_map (event_line core) history
