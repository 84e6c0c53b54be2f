-- No public contract rests on this: when a value of the analysis may stand in place of another.
use Rattle.std.specs.Prelude.{◌≡◌, List, [], ◌∷◌, Some}
use Rattle.access_paths.specs.declared.path.Path.{Path}
use Rattle.owner_domain.specs.declared.value.Value.{Value}
use Rattle.owner_domain.specs.declared.value.State.{State}
use Rattle.core_code.specs.Core.{Core}
use Rattle.core_ways_laws.specs.Names.{Naming, name_of}
use Rattle.core_ways_laws.specs.Quiet.{Quietness}

-- the second value says no more than the first, and both are called the same where that is a quiet path
pub record IsWeaker (core : Core) (quiet : Quietness core) (n : Naming) (v w : Value) : Type 0 where
  pub named : (q : Path) → name_of n w ≡ Some q → name_of n v ≡ Some q
  pub kept : (q : Path) → name_of n v ≡ Some q → quiet.IsIn q → name_of n w ≡ Some q

-- lists of values slot by slot
abbrev pub AreWeaker : (core : Core) → Quietness core → Naming → List Value → List Value → Type 0
AreWeaker core quiet n [] [] = Unit {0}
AreWeaker core quiet n (v ∷ vs) (w ∷ ws) = IsWeaker core quiet n v w × AreWeaker core quiet n vs ws
AreWeaker core quiet n _ _ = ⊥

-- states slot by slot
pub record IsWeakerState (core : Core) (quiet : Quietness core) (n : Naming) (s t : State) : Type 0 where
  pub vars : AreWeaker core quiet n s.vars t.vars
  pub stack : AreWeaker core quiet n s.stack t.stack
