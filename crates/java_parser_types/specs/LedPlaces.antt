-- A contract of a public call rests on this: from the places of tokens to those behind what was read.
use Rattle.java_tree.specs.KeptPlaces.{Places, Marks, AreAt}

-- whatever marks the places left behind, what was read and they mark those here
abbrev pub Leads : (Marks → Marks) → Places → Places → Type 0
Leads read here left = (rest : Marks) → AreAt rest left → AreAt (read rest) here

-- where what was read before leads to some places, the whole leads to those left behind
abbrev pub LeadsOn : (Marks → Marks) → (Marks → Marks) → Places → Places → Type 0
LeadsOn before whole here left = (start : Places) → Leads before start here → Leads whole start left
