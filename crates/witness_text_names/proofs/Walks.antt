-- The fields that names lead along are those of the start path that they are.
use Rattle.std.proofs.Common.{◌≡◌, ℕ, cond, List, [], ◌∷◌, ◌++◌, Option, None, Some, is_some, refl, sym}
use Rattle.std.proofs.Common.{ap, ◌∙◌}
use Rattle.std.proofs.lemmas.List.Sums.{fold_push}
use Rattle.std.specs.Global.{Global}
use Rattle.std.specs.Option.{option_and_then, option_map}
use Rattle.std.specs.declared.vec.Vec.{Vec}
use Rattle.racer_base.specs.declared.ids.FieldId.{FieldId}
use Rattle.core_code.specs.Core.{Core, Method}
use Rattle.core_semantics.specs.declared.object.StartPath.{StartPath}
use Rattle.core_semantics.specs.declared.object.StartRoot.{StartRoot}
use Rattle.core_semantics.specs.Objects.{lengthened, root_path}
use Rattle.core_semantics_kinds.specs.Reached.{Reached, Roots, behind, reached_from, roots_of}
use Rattle.witness_text_names.specs.declared.walk.Ends.{Ends}
use Rattle.witness_text_names.specs.declared.walk.Ends.TheVariants.{AtObject}
use Rattle.witness_text_names.specs.Indexes.{Walk, ended, last_named, next_named, step_on}
use Rattle.witness_text_names.specs.Names.{field_named, names_in, root_named}
use Rattle.witness_text_names.specs.Objects.{object_named, one_field, path_along, path_named}

-- ---- one name more

abbrev pub onto : List FieldId → FieldId × Reached → Walk
onto fields next = (fields ++ next.0 ∷ [], next.1)

-- fields, and the one behind them
abbrev pub Ended : Type 0
Ended = List FieldId × FieldId

-- what is seen of fields that the code has found
abbrev pub seen_found : Option (Vec FieldId Global × FieldId) → Option Ended
seen_found found = option_map (λ (p : Vec FieldId Global × FieldId). (p.0.items, p.1)) found

-- what is walked of a name and others, where the name leads so far
abbrev ended_by : Core → Ends → List (List ℕ) → List FieldId → Option (FieldId × Reached) → Option Ended
ended_by core ends names fields next = option_and_then (ended core ends names) (option_map (onto fields) next)

ended_more : (core : Core) (ends : Ends) (name : List ℕ) (names : List (List ℕ)) (fields : List FieldId)
    (r : Reached) → (names ≡ [] → ⊥) →
    ended core ends (name ∷ names) (fields, r) ≡ ended_by core ends names fields (next_named core name r)
ended_more core ends name [] fields r some = absurd (some refl)
ended_more core ends name (next ∷ names) fields r some = refl

pub walk_next : (core : Core) (ends : Ends) (all name : List ℕ) (names : List (List ℕ)) (fields more : List FieldId)
    (r next : Reached) (f : FieldId) → names_in all ≡ name ∷ names → (names ≡ [] → ⊥) →
    Some (f, next) ≡ next_named core name r → more ≡ fields ++ f ∷ [] →
    ended core ends names (more, next) ≡ ended core ends (names_in all) (fields, r)
walk_next core ends all name names fields more r next f cut some is grown =
    ap (λ (fs : List FieldId). ended core ends names (fs, next)) grown
    ∙ ap (ended_by core ends names fields) is
    ∙ sym (ended_more core ends name names fields r some)
    ∙ sym (ap (λ (ns : List (List ℕ)). ended core ends ns (fields, r)) cut)

pub walk_stop : (core : Core) (ends : Ends) (all name : List ℕ) (names : List (List ℕ)) (fields : List FieldId)
    (r : Reached) → names_in all ≡ name ∷ names → (names ≡ [] → ⊥) → None ≡ next_named core name r →
    None ≡ ended core ends (names_in all) (fields, r)
walk_stop core ends all name names fields r cut some is =
    ap (ended_by core ends names fields) is
    ∙ sym (ended_more core ends name names fields r some)
    ∙ sym (ap (λ (ns : List (List ℕ)). ended core ends ns (fields, r)) cut)

pub walk_end : (core : Core) (ends : Ends) (all : List ℕ) (fields : List FieldId) (r : Reached) (o : Option FieldId) →
    names_in all ≡ all ∷ [] → o ≡ last_named core ends all r →
    option_map (λ (f : FieldId). (fields, f)) o ≡ ended core ends (names_in all) (fields, r)
walk_end core ends all fields r o cut is =
    ap (option_map (λ (f : FieldId). (fields, f))) is
    ∙ sym (ap (λ (ns : List (List ℕ)). ended core ends ns (fields, r)) cut)

-- ---- start paths

module _ (core : Core) (roots : Roots) (root : StartRoot) where
  abbrev pub at : List FieldId → StartPath
  at fields = record { root = root; fields = fields }

  abbrev kept : StartPath → Option Reached → Option StartPath
  kept q o = cond (is_some o) (Some q) None

  -- what is made of a path is made of its fields and of what they reach
  abbrev pub AreAlike : {X : Type 0} → (StartPath → Option X) → (Walk → Option X) → Type 0
  AreAlike next rest =
      (fields : List FieldId) (r : Reached) → reached_from core roots (at fields) ≡ Some r →
      next (at fields) ≡ rest (fields, r)

  by_behind : {X : Type 0} (next : StartPath → Option X) (rest : Walk → Option X) (fields : List FieldId) (f : FieldId)
      (o : Option Reached) → reached_from core roots (lengthened (at fields) f) ≡ o → AreAlike next rest →
      option_and_then next (kept (lengthened (at fields) f) o)
      ≡ option_and_then rest (option_map (onto fields) (option_map (λ (n : Reached). (f, n)) o))
  by_behind next rest fields f None is alike = refl
  by_behind next rest fields f (Some n) is alike = alike (fields ++ f ∷ []) n is

  by_field : {X : Type 0} (next : StartPath → Option X) (rest : Walk → Option X) (fields : List FieldId) (r : Reached)
      (o : Option FieldId) → reached_from core roots (at fields) ≡ Some r → AreAlike next rest →
      option_and_then next
      (option_and_then (λ f. kept (lengthened (at fields) f) (reached_from core roots (lengthened (at fields) f))) o)
      ≡ option_and_then rest (option_map (onto fields)
      (option_and_then (λ f. option_map (λ (n : Reached). (f, n)) (behind core (Some r) f)) o))
  by_field next rest fields r None is alike = refl
  by_field next rest fields r (Some f) is alike =
      let longer : reached_from core roots (lengthened (at fields) f) ≡ behind core (Some r) f =
      fold_push (behind core) (roots root) fields f ∙ ap (λ (o : Option Reached). behind core o f) is in
      ap (λ (o : Option Reached). option_and_then next (kept (lengthened (at fields) f) o)) longer
      ∙ by_behind next rest fields f (behind core (Some r) f) longer alike

  -- the same of one name more
  pub one_step : {X : Type 0} (next : StartPath → Option X) (rest : Walk → Option X) (name : List ℕ)
      (fields : List FieldId) (r : Reached) → reached_from core roots (at fields) ≡ Some r → AreAlike next rest →
      option_and_then next (one_field core roots name (at fields))
      ≡ option_and_then rest (step_on core name (fields, r))
  one_step next rest name fields r is alike =
      ap (λ (o : Option Reached). option_and_then next
      (option_and_then (λ f. kept (lengthened (at fields) f) (reached_from core roots (lengthened (at fields) f)))
      (option_and_then (field_named core name) o))) is
      ∙ by_field next rest fields r (field_named core name r) is alike

  abbrev pub at_end : Ended → StartPath
  at_end e = at (e.0 ++ e.1 ∷ [])

  last_step : (fields : List FieldId) (o : Option (FieldId × Reached)) →
      option_and_then (λ (w : Walk). Some (at w.0)) (option_map (onto fields) o)
      ≡ option_map at_end (option_map (λ (f : FieldId). (fields, f)) (option_map (λ (n : FieldId × Reached). n.0) o))
  last_step fields None = refl
  last_step fields (Some n) = refl

  pub mapped_behind : {X Y : Type 0} (g : X → Y) (rest : Walk → Option X) (o : Option Walk) →
      option_and_then (λ (w : Walk). option_map g (rest w)) o ≡ option_map g (option_and_then rest o)
  mapped_behind g rest None = refl
  mapped_behind g rest (Some w) = refl

  -- names that lead from what was reached are the path
  pub leads : (names : List (List ℕ)) → (names ≡ [] → ⊥) →
      AreAlike (path_along core roots names) (λ w. option_map at_end (ended core AtObject names w))
  leads [] some fields r is = absurd (some refl)
  leads (name ∷ []) some fields r is =
      one_step (path_along core roots []) (λ w. Some (at w.0)) name fields r is (λ gs q e. refl)
      ∙ last_step fields (next_named core name r)
  leads (name ∷ next ∷ names) some fields r is =
      one_step (path_along core roots (next ∷ names))
      (λ w. option_map at_end (ended core AtObject (next ∷ names) w)) name fields r is
      (leads (next ∷ names) (λ e. absurd cc))
      ∙ mapped_behind at_end (ended core AtObject (next ∷ names)) (step_on core name (fields, r))

-- ---- texts

-- a root, and the names behind it
abbrev path_by : Core → Method → Method → List (List ℕ) → Option StartRoot → Option StartPath
path_by core f g names o = option_and_then (λ r. path_along core (roots_of f g) names (root_path r)) o

object_by : (core : Core) (f g : Method) (text name : List ℕ) (names : List (List ℕ)) →
    names_in text ≡ name ∷ names → (names ≡ [] → ⊥) →
    path_by core f g names (root_named core f g name) ≡ object_named core f g text
object_by core f g text name [] cut some = absurd (some refl)
object_by core f g text name (first ∷ names) cut some =
    sym (ap (λ (ns : List (List ℕ)). path_named core f g ns) cut)

-- where a root leads somewhere, the text is what its other names lead along
pub root_walked : (core : Core) (f g : Method) (text name : List ℕ) (names : List (List ℕ)) (r : StartRoot)
    (from : Reached) (found : Option Ended) → names_in text ≡ name ∷ names → (names ≡ [] → ⊥) →
    Some r ≡ root_named core f g name → Some from ≡ roots_of f g r →
    found ≡ ended core AtObject names ([], from) →
    option_map (at_end core (roots_of f g) r) found ≡ object_named core f g text
root_walked core f g text name names r from found cut some is leads_to walks =
    ap (option_map (at_end core (roots_of f g) r)) walks
    ∙ sym (leads core (roots_of f g) r names some [] from (sym leads_to))
    ∙ ap (path_by core f g names) is ∙ object_by core f g text name names cut some
