-- A contract of a public call rests on this: the law `legs_meet_records`. A path with one field more.
use Rattle.std.proofs.Common.{◌≡◌, ◌<◌, Bool, true, false, cond, List, [], ◌∷◌, ◌++◌, None, Some, length, nat_lt}
use Rattle.std.proofs.Common.{refl, ap}
use Rattle.std.proofs.lemmas.Bool.{ltb-true, lt-ltb}
use Rattle.racer_base.specs.declared.ids.FieldId.{FieldId}
use Rattle.racer_base.specs.declared.limits.TheConstants.{MAX_PATH_FIELDS}
use Rattle.access_paths.specs.declared.path.Root.{Root}
use Rattle.access_paths.specs.declared.path.Path.{Path}
use Rattle.access_paths.specs.Paths.{extended}

abbrev pub path_of : Root → List FieldId → Path
path_of root fields = record { root = root; fields = fields }

-- the second path is the first with this field at its end
pub record IsLonger (p : Path) (f : FieldId) (q : Path) : Type 0 where
  pub room : length p.fields < MAX_PATH_FIELDS
  pub is : q ≡ path_of p.root (p.fields ++ f ∷ [])

pub longer : (p : Path) (f : FieldId) (q : Path) → extended p f ≡ Some q → IsLonger p f q
longer p f q e =
    elim (nat_lt (length p.fields) MAX_PATH_FIELDS) as (λ b. nat_lt (length p.fields) MAX_PATH_FIELDS ≡ b →
    cond b (Some (path_of p.root (p.fields ++ f ∷ []))) None ≡ Some q → IsLonger p f q) [
      | true ↦ λ t is. record { room = ltb-true (length p.fields) MAX_PATH_FIELDS t; is = cc }
      | false ↦ λ t is. absurd cc
    ] refl e

pub extended-room : (p : Path) (f : FieldId) → length p.fields < MAX_PATH_FIELDS →
    extended p f ≡ Some (path_of p.root (p.fields ++ f ∷ []))
extended-room p f room =
    ap (λ (b : Bool). cond b (Some (path_of p.root (p.fields ++ f ∷ []))) None)
    (lt-ltb (length p.fields) MAX_PATH_FIELDS room)
