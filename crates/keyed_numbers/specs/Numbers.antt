-- A contract of a public call rests on this: how numbers are kept by a name and a key, the first of each.
use Rattle.std.specs.Prelude.{◌≡◌, ℕ, nat_eq, Bool, ◌&&◌, List, Option, Some, None, bytes_eq, if◌then◌else◌}
use Rattle.std.specs.Prelude.{option_and_then, String}
use Rattle.std.specs.Option.{option_or}
use Rattle.std.specs.Global.{Global}
use Rattle.std.specs.Ordering.{nat_cmp, ordering_then}
use Rattle.std.specs.declared.cmp.Ordering.{Ordering}
use Rattle.std.specs.BTreeMap.{BTreeMap, get, get_by_text}

-- the number of a class, and one more
abbrev pub Key : Type 0
Key = ℕ × ℕ

abbrev pub key_cmp : Key → Key → Ordering
key_cmp x y = ordering_then (nat_cmp x.0 y.0) (nat_cmp x.1 y.1)

abbrev pub key_eq : Key → Key → Bool
key_eq x y = nat_eq x.0 y.0 && nat_eq x.1 y.1

-- numbers by keys
abbrev pub Keyed : Type 0
Keyed = BTreeMap Key ℕ

-- these by names
abbrev pub Named : Type 0
Named = BTreeMap (String Global) Keyed

abbrev pub keyed_at : Keyed → Key → Option ℕ
keyed_at numbers key = get key_cmp numbers key

abbrev pub number_in : Key → Option Keyed → Option ℕ
number_in key found = option_and_then (λ (numbers : Keyed). keyed_at numbers key) found

-- the number at a name and a key
abbrev pub number_at : Named → List ℕ → Key → Option ℕ
number_at named name key = number_in key (get_by_text named name)

-- what was there, else this where it belongs there
abbrev pub or_added : Bool → ℕ → Option ℕ → Option ℕ
or_added here number old = option_or old (if here then Some number else None)

abbrev pub AddsKeyed : Keyed → Keyed → Key → ℕ → Type 0
AddsKeyed old new key number = (k : Key) → keyed_at new k ≡ or_added (key_eq key k) number (keyed_at old k)

-- the number went to its name and key, where none was
abbrev pub AddsNumber : Named → Named → List ℕ → Key → ℕ → Type 0
AddsNumber old new name key number =
    (other : List ℕ) (k : Key) →
    number_at new other k ≡ or_added (bytes_eq name other && key_eq key k) number (number_at old other k)
