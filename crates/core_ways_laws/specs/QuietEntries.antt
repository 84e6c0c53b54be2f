-- A contract of a public call rests on this: `legs_meet_records`. The quiet paths of the two entries of a warning are
-- as the invariant needs them.
use Rattle.std.proofs.Common.{◌≡◌, ◌+◌, Bool, true, false, ◌&&◌, [], ◌∷◌, ◌++◌, Some, length, take}
use Rattle.std.proofs.Common.{refl, sym, ap, ◌∙◌, subst, arith}
use Rattle.std.specs.Prelude.{IsTrue}
use Rattle.std.specs.List.{list_all}
use Rattle.std.proofs.lemmas.List.{take-append-le, length-append}
use Rattle.std.proofs.lemmas.List.Folds.{list_all-append}
use Rattle.racer_base.specs.declared.ids.FieldId.{FieldId}
use Rattle.racer_base.specs.declared.ids.MethodId.{MethodId}
use Rattle.access_paths.specs.declared.path.Root.{Root}
use Rattle.access_paths.specs.declared.path.Path.{Path}
use Rattle.access_paths.specs.Paths.{extended, front}
use Rattle.core_code.specs.Core.{Core}
use Rattle.core_semantics.specs.Steps.{kind_of}
use Rattle.core_ways.specs.Stable.{is_lasting_root, is_wobbly}
use Rattle.access_domain.specs.Longer.{longer}
use Rattle.core_ways_laws.specs.Quiet.{IsQuiet, Quietness, is_declared}

first_true : (a b : Bool) → (a && b) ≡ true → a ≡ true
first_true true b h = refl
first_true false b h = h

-- what is quiet is quiet without its last field
pub quiet_shorter : (core : Core) (m1 m2 : MethodId) (q : Path) (f : FieldId) (r : Path) → extended q f ≡ Some r →
    IsQuiet core m1 m2 r → IsQuiet core m1 m2 q
quiet_shorter core m1 m2 q f r e is =
    let one = longer q f r e in
    let room = one.room in
    let fields : r.fields ≡ q.fields ++ f ∷ [] = ap (λ (x : Path). x.fields) one.is in
    let root : r.root ≡ q.root = ap (λ (x : Path). x.root) one.is in
    let long : length r.fields ≡ length q.fields + 1 = ap length fields ∙ length-append q.fields (f ∷ []) in
    let all : list_all (λ g. is_declared (kind_of core g)) (q.fields ++ f ∷ []) ≡ true =
    ap (list_all (λ g. is_declared (kind_of core g))) (sym fields) ∙ is.declared in
    record {
      lasts = subst (λ (x : Root). IsTrue (is_lasting_root x)) root is.lasts;
      short = omega arith;
      declared =
          first_true (list_all (λ g. is_declared (kind_of core g)) q.fields)
          (list_all (λ g. is_declared (kind_of core g)) (f ∷ []))
          (sym (list_all-append (λ g. is_declared (kind_of core g)) q.fields (f ∷ [])) ∙ all);
      calm = λ k within.
          let start : take k r.fields ≡ take k q.fields =
          ap (take k) fields ∙ take-append-le k q.fields (f ∷ []) within in
          let same : front k r ≡ front k q = (λ i. record { root = root i; fields = start i }) in
          subst (λ (p : Path). (is_wobbly core m1 p ≡ false) × (is_wobbly core m2 p ≡ false)) same
          (is.calm k (omega arith));
    }

-- the quiet paths of the two entries of a warning
abbrev pub quietness_of : (core : Core) (m1 m2 : MethodId) → Quietness core
quietness_of core m1 m2 =
    record {
      IsIn = IsQuiet core m1 m2;
      lasts = λ q is. is.lasts;
      short = λ q is. is.short;
      declared = λ q is. is.declared;
      prefix = quiet_shorter core m1 m2;
    }
