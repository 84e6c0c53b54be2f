-- A contract of a public call rests on this: what is seen of the monitors that a thread holds, and of the set that
-- finds them.
use Rattle.std.specs.Prelude.{◌≡◌, Bool, true, false, not, List, [], ◌∷◌, map, reverse}
use Rattle.std.specs.BTreeSet.{BTreeSet, Updates, contains}
use Rattle.std.specs.List.{list_any}
use Rattle.core_semantics.specs.declared.answer.Holder.{Holder}
use Rattle.core_semantics.specs.declared.monitors.HeldMonitor.{HeldMonitor}
use Rattle.core_semantics.specs.Objects.{same_monitor}
use Rattle.core_semantics.specs.Order.{holder_cmp}

abbrev pub monitors_in : List HeldMonitor → List Holder
monitors_in held = map (λ (h : HeldMonitor). h.monitor) held

-- the last one first
abbrev pub monitors_of : List HeldMonitor → List Holder
monitors_of held = monitors_in (reverse held)

abbrev pub is_held : List Holder → Holder → Bool
is_held monitors m = list_any (λ held. same_monitor held m) monitors

-- each says whether it is not among those behind it
abbrev pub AreFirsts : List HeldMonitor → Type 0
AreFirsts [] = Unit
AreFirsts (h ∷ below) = (h.is_first ≡ not (is_held (monitors_in below) h.monitor)) × AreFirsts below

-- the set has these, and they say which of them are the first
abbrev pub IsIndexed : BTreeSet Holder → List HeldMonitor → Type 0
IsIndexed index held = ((m : Holder) → contains holder_cmp index m ≡ is_held (monitors_in held) m) × AreFirsts held

abbrev pub HasMonitorsOf : BTreeSet Holder → List HeldMonitor → Type 0
HasMonitorsOf index held = IsIndexed index (reverse held)

-- one was put at the end, and its copy into the set
abbrev pub HasPushed : List HeldMonitor → BTreeSet Holder → List HeldMonitor → BTreeSet Holder → Holder → Holder →
    Type 0
HasPushed held index more index2 monitor copy =
    (reverse more ≡ record { monitor = monitor; is_first = not (contains holder_cmp index copy) } ∷ reverse held)
    × Updates holder_cmp index index2 copy true

abbrev pub IsAsBefore : List HeldMonitor → BTreeSet Holder → List HeldMonitor → BTreeSet Holder → Type 0
IsAsBefore held index held2 index2 = (held2 ≡ held) × (index2.keys ≡ index.keys)

-- the set without a monitor, where that is a first one, and else the set
abbrev pub IsWithout : Bool → Holder → BTreeSet Holder → BTreeSet Holder → Type 0
IsWithout true m index index2 = Updates holder_cmp index index2 m false
IsWithout false m index index2 = index2.keys ≡ index.keys

abbrev pub IsPopped : List HeldMonitor → BTreeSet Holder → List HeldMonitor → BTreeSet Holder → Type 0
IsPopped [] index left index2 = (left ≡ []) × (index2.keys ≡ index.keys)
IsPopped (h ∷ below) index left index2 = (left ≡ below) × IsWithout h.is_first h.monitor index index2

-- the last one was taken, and from the set where it was a first one
abbrev pub HasPopped : List HeldMonitor → BTreeSet Holder → List HeldMonitor → BTreeSet Holder → Type 0
HasPopped held index left index2 = IsPopped (reverse held) index (reverse left) index2
