-- No public contract rests on this: marks that came of groups of warnings are those of the warnings, in order.
use Rattle.std.proofs.Common.{◌≡◌, ◌∙◌, ◌++◌, ◌∷◌, ◌<◌, ℕ, [], List, ap, map, refl, subst, sym}
use Rattle.std.proofs.lemmas.List.{map-append}
use Rattle.std.specs.Borrow.{Bor}
use Rattle.std.specs.Global.{Global}
use Rattle.std.specs.List.{AllZip, flat_map}
use Rattle.std.specs.Prelude.{Contains, Err, IfOk, MatchResult, Ok, Result, vec_items}
use Rattle.std.specs.declared.vec.Vec.{Vec}
use Rattle.rayon.specs.Lists.{chunks_of}
use Rattle.rayon.proofs.ToStd.{chunks_of-concat}
use Rattle.racer_base.specs.declared.out_of_memory.Memory.{Memory}
use Rattle.core_code.specs.Core.{Core}
use Rattle.core_ways.specs.declared.mark.Mark.{Mark}
use Rattle.core_ways.specs.Marks.{said_by}
use Rattle.race_pairs.specs.declared.warning.Warning.{Warning}
use Rattle.witness_build_laws.specs.Warned.{warning_mark}

abbrev Group : Type 0
Group = Bor (List Warning)

abbrev GroupMarks : Type 0
GroupMarks = Vec Mark Global

-- the warnings of groups, side by side
abbrev warnings_of : List Group → List Warning
warnings_of groups = flat_map (λ l. l) (map (λ (g : Group). g.now) groups)

module _ (core : Core) where
  -- what was made of a group is its marks, where none was refused
  abbrev pub AreMarks : Group → Result GroupMarks Memory → Type 0
  AreMarks group made = IfOk made (λ marks. map said_by marks.items ≡ map (warning_mark core) group.now)

  -- the marks of groups, side by side
  side_by_side : (groups : List Group) (marks : List GroupMarks) → AllZip AreMarks groups (map Ok marks)
      → map said_by (flat_map vec_items marks) ≡ map (warning_mark core) (warnings_of groups)
  side_by_side [] [] are = refl
  side_by_side [] (m ∷ marks) are = absurd are
  side_by_side (g ∷ groups) [] are = absurd are
  side_by_side (g ∷ groups) (m ∷ marks) are =
      map-append said_by m.items (flat_map vec_items marks)
      ∙ ap (λ front. front ++ map said_by (flat_map vec_items marks)) are.0
      ∙ ap (λ behind. map (warning_mark core) g.now ++ behind) (side_by_side groups marks are.1)
      ∙ sym (map-append (warning_mark core) g.now (warnings_of groups))

  -- the same of what is collected of the groups of a list, where none was refused
  pub collected : (found : List Warning) (size : ℕ) (groups : List Group) (each : List (Result GroupMarks Memory))
      (made : Result (Vec GroupMarks Global) Memory)
      → 0 < size → map (λ (g : Group). g.now) groups ≡ chunks_of size found → AllZip AreMarks groups each
      → MatchResult made (λ v. (ys : List GroupMarks) × (each ≡ map Ok ys) × (v.items ≡ ys))
      (λ e. Contains each (Err e))
      → IfOk made (λ v. map said_by (flat_map vec_items v.items) ≡ map (warning_mark core) found)
  collected found size groups each (Ok v) some cut are is =
      ap (λ marks. map said_by (flat_map vec_items marks)) is.2
      ∙ side_by_side groups is.0 (subst (AllZip AreMarks groups) is.1 are)
      ∙ ap (map (warning_mark core)) (ap (flat_map (λ l. l)) cut ∙ chunks_of-concat size found some)
  collected found size groups each (Err e) some cut are is = tt
