-- A contract of a public call rests on this: what is seen of a set of ends in the code.
use Rattle.std.specs.Prelude.{Bool, true, false, List, [], ◌∷◌, ◌++◌, map, ℕ, Option, Some, None}
use Rattle.std.specs.BTreeSet.{BTreeSet}
use Rattle.std.specs.Borrow.{Bor}
use Rattle.core_lowering_drafts.specs.declared.ends.Ends.{Ends as EndSet}
use Rattle.core_lowering_drafts.specs.declared.ends.Asked.{Asked}
use Rattle.core_lowering_drafts.specs.Drafts.{End, Normal, Return, Exception, Exit, Ends}

abbrev pub flag : Bool → End → Ends
flag true e = e ∷ []
flag false e = []

-- the ends that are said to be there
abbrev pub listed : (normal returns throws : Bool) → (exits : List ℕ) → Ends
listed normal returns throws exits =
    flag normal Normal ++ (flag returns Return ++ (flag throws Exception ++ map Exit exits))

abbrev pub seen : EndSet → Ends
seen ends = listed ends.normal ends.returns ends.throws ends.exits.keys

abbrev pub exits_asked : Option (Bor (BTreeSet ℕ)) → List ℕ
exits_asked None = []
exits_asked (Some exits) = exits.now.keys

abbrev pub seen_asked : Asked → Ends
seen_asked asked = listed asked.normal asked.returns asked.throws (exits_asked asked.exits)

abbrev pub is_nil : List ℕ → Bool
is_nil [] = true
is_nil (x ∷ xs) = false
