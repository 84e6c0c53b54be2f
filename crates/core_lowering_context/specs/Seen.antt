-- A contract of a public call rests on this: the variables in scope, found by their names.
use Rattle.std.specs.Prelude.{◌≡◌, ℕ, ◌-◌, Bool, List, [], ◌∷◌, Option, Some, None, Vec, String, bytes_eq, map, take}
use Rattle.std.specs.Prelude.{length, if◌then◌else◌}
use Rattle.std.specs.BTreeMap.{BTreeMap, get_by_text}
use Rattle.std.specs.Global.{Global}
use Rattle.std.specs.List.{filter}
use Rattle.std.specs.Option.{option_or}
use Rattle.racer_base.specs.declared.ids.VarId.{VarId}
use Rattle.java_resolver.specs.declared.scope.ScopeVariable.{ScopeVariable}
use Rattle.java_resolver.specs.declared.scope.VariableKind.{VariableKind}

abbrev pub variable : (name : List ℕ) → VarId → VariableKind → ScopeVariable
variable name id known = record { name = name; id = id; kind = known.kind; is_lock = known.is_lock }

abbrev pub known_of : ScopeVariable → VariableKind
known_of v = record { kind = v.kind; is_lock = v.is_lock }

-- the number of a variable, and what is known of it
abbrev pub Seen : Type 0
Seen = VarId × VariableKind

abbrev pub seen : ScopeVariable → Seen
seen v = (v.id, known_of v)

-- the variables of each name, the innermost last
abbrev pub ByName : Type 0
ByName = BTreeMap (String Global) (Vec Seen Global)

abbrev pub items_in : Option (Vec Seen Global) → List Seen
items_in None = []
items_in (Some all) = all.items

abbrev pub seen_at : ByName → List ℕ → List Seen
seen_at index name = items_in (get_by_text index name)

abbrev pub is_named : List ℕ → ScopeVariable → Bool
is_named name v = bytes_eq v.name name

-- at each name stand the variables of this name
abbrev pub FindsAll : ByName → List ScopeVariable → Type 0
FindsAll index all = (name : List ℕ) → seen_at index name ≡ map seen (filter (is_named name) all)

-- these stand at this name now, and elsewhere stands what stood there
abbrev pub ChangesAt : ByName → ByName → List ℕ → List Seen → Type 0
ChangesAt old new name now =
    (other : List ℕ) → seen_at new other ≡ (if bytes_eq name other then now else seen_at old other)

abbrev pub last_of : List Seen → Option Seen
last_of [] = None
last_of (x ∷ xs) = option_or (last_of xs) (Some x)

-- without the last element
abbrev pub front_of : {A : Type 0} → List A → List A
front_of xs = take (length xs - 1) xs
