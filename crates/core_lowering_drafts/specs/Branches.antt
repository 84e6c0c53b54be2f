-- A contract of a public call rests on this: what is seen of the branches behind a body with a `finally`.
use Rattle.std.specs.Prelude.{◌≡◌, ℕ, ◌+◌, List, [], ◌∷◌, ◌++◌, ⊤}
use Rattle.core_lowering_drafts.specs.declared.behind.After.{After}
use Rattle.core_lowering_drafts.specs.declared.behind.Branch.{Branch as CodeBranch}
use Rattle.core_lowering_drafts.specs.declared.behind.Tail.{Tail}
use Rattle.core_lowering_drafts.specs.declared.behind.Tail.TheVariants as tail
use Rattle.core_lowering_drafts.specs.Drafts.{Draft, Ends, Normal, SameEnds, in_order, without}
use Rattle.core_lowering_drafts.specs.EndSets.{seen, seen_asked}
use Rattle.core_lowering_drafts.specs.Lists.{Parts, size_of}
use Rattle.core_lowering_drafts.specs.Only.{Branch, Last, Rest, branches, onto}

abbrev pub rest_by : (finally last : Draft) → Ends → Tail → Rest
rest_by finally last asked tail.AtExit = onto finally asked (onto last asked Last)
rest_by finally last asked tail.Kept = onto finally (Normal ∷ asked) Last
rest_by finally last asked tail.Turned = onto finally (without Normal asked) Last

abbrev pub asked_by : Ends → Tail → Ends
asked_by asked tail.AtExit = asked
asked_by asked tail.Kept = Normal ∷ asked
asked_by asked tail.Turned = without Normal asked

abbrev pub rest_behind : After → Tail → Rest
rest_behind after t = rest_by (in_order after.finally.now) (in_order after.last.now) (seen_asked after.asked) t

abbrev pub asked_behind : After → Tail → Ends
asked_behind after t = asked_by (seen_asked after.asked) t

-- what is done then, in parts
abbrev pub parts_behind : After → Tail → Parts
parts_behind after tail.AtExit = after.finally.now ++ after.last.now
parts_behind after tail.Kept = after.finally.now
parts_behind after tail.Turned = after.finally.now

abbrev pub branch_of : After → CodeBranch → Branch
branch_of after b =
    record { by = seen b.by; behind = rest_behind after b.tail; asked = asked_behind after b.tail }

abbrev pub all_branches : ℕ → Ends → After → List Branch
all_branches k body after =
    branches k body (seen_asked after.asked) (rest_behind after tail.AtExit) (rest_behind after tail.Kept)
    (rest_behind after tail.Turned)

-- the same branches, where the order of ends does not count
abbrev pub AreAlike : List Branch → List Branch → Type 0
AreAlike [] [] = ⊤
AreAlike [] (c ∷ cs) = ⊥
AreAlike (b ∷ bs) [] = ⊥
AreAlike (b ∷ bs) (c ∷ cs) = SameEnds b.by c.by × (b.behind ≡ c.behind) × AreAlike bs cs

-- how many parts are done behind
abbrev pub after_size : After → ℕ
after_size after = size_of after.finally.now + size_of after.last.now
