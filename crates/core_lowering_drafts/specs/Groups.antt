-- A contract of a public call rests on this: groups of a `switch`, each of which goes on in the next one (JLS 14.11).
use Rattle.std.specs.Prelude.{◌≡◌, ℕ, suc, ◌<◌, List, [], ◌∷◌, length, take, get_or}
use Rattle.core_lowering_drafts.specs.declared.ends.Ends.{Ends as EndSet}
use Rattle.core_lowering_drafts.specs.Drafts.{Choice, SameEnds, in_order, no_part}
use Rattle.core_lowering_drafts.specs.EndSets.{seen}
use Rattle.core_lowering_drafts.specs.Lists.{Parts, ends_of, size_of}

-- what goes on in a group, or nothing, since that may be entered itself; then the group
abbrev pub fall_in : Parts → List Parts → Parts
fall_in before [] = before
fall_in before (group ∷ groups) = fall_in (Choice (in_order before) no_part ∷ group) groups

abbrev pub fallen : List Parts → Parts
fallen [] = []
fallen (group ∷ groups) = fall_in group groups

-- what goes on in the group behind these, or nothing
abbrev pub entered : List Parts → Parts
entered [] = []
entered (group ∷ groups) = Choice (in_order (fall_in group groups)) no_part ∷ []

-- these are the ends of the first group, of the first two, and so on
abbrev pub AreEnds : List EndSet → List Parts → Type 0
AreEnds ends groups =
    (length ends ≡ length groups)
    × ((i : ℕ) (d : EndSet) → i < length groups →
    SameEnds (seen (get_or ends i d)) (ends_of (fallen (take (suc i) groups))))

abbrev pub groups_size : List Parts → ℕ
groups_size groups = suc (size_of (fallen groups))
