-- The classes whose fields code reads.
use Rattle.std.proofs.Common.{◌≡◌, Bool, true, false, ◌||◌, List, [], ◌∷◌, ◌++◌, Option, None, Some, refl, sym, ap, ◌∙◌}
use Rattle.std.specs.Prelude.{option_to_list}
use Rattle.std.proofs.lemmas.List.Folds.{list_any-append}
use Rattle.std.proofs.Math.Bool.{or-false}
use Rattle.racer_base.specs.declared.ids.ClassId.{ClassId}
use Rattle.racer_base.specs.declared.ids.Place.{Place}
use Rattle.racer_base.specs.declared.ids.SiteId.{SiteId}
use Rattle.core_code.specs.declared.code.Op.{Op as CoreOp}
use Rattle.core_code.specs.Core.{Core}
use Rattle.core_code.specs.Kinds.{same_class}
use Rattle.core_code.specs.Tree.{Tree, Op, Skip, Seq, Choice, Operation, steps_of}
use Rattle.typed_core.specs.Typings.{is_read_by, reads_field_of}
use Rattle.typed_core.specs.Reaching.{has_class, AreRead, IsClassRead}
use Rattle.typed_core.proofs.MetKinds.{grouped}

-- what was read so far, and what is read in the rest, is all that is read
abbrev pub AreReadYet : Core → Tree → Tree → List ClassId → List ClassId → Type 0
AreReadYet core rest all old now =
    (c : ClassId) → (has_class now c || is_read_by core rest c) ≡ (has_class old c || is_read_by core all c)

read-both : (core : Core) (first rest : Tree) (c : ClassId) →
    is_read_by core (Seq first rest) c ≡ (is_read_by core first c || is_read_by core rest c)
read-both core first rest c =
    list_any-append (λ (o : Operation). reads_field_of core c o.op) (steps_of first) (steps_of rest)

pub reads-turn : (core : Core) (first rest whole all : Tree) (old now new : List ClassId) → whole ≡ Seq first rest →
    AreReadYet core whole all old now → AreRead core first now new → AreReadYet core rest all old new
reads-turn core first rest whole all old now new is before one = λ c.
    ap (λ (b : Bool). b || is_read_by core rest c) (one c)
    ∙ grouped (has_class now c) (is_read_by core first c) (is_read_by core rest c)
    ∙ ap (λ (b : Bool). has_class now c || b) (sym (read-both core first rest c))
    ∙ ap (λ (code : Tree). has_class now c || is_read_by core code c) (sym is)
    ∙ before c

pub reads-end : (core : Core) (whole all : Tree) (old now : List ClassId) → whole ≡ Skip →
    AreReadYet core whole all old now → AreRead core all old now
reads-end core whole all old now is before = λ c.
    sym (or-false (has_class now c))
    ∙ ap (λ (code : Tree). has_class now c || is_read_by core code c) (sym is)
    ∙ before c

pub reads-choice : (core : Core) (left right : Tree) (old mid new : List ClassId) → AreRead core left old mid →
    AreRead core right mid new → AreRead core (Choice left right) old new
reads-choice core left right old mid new l r = λ c.
    r c
    ∙ ap (λ (b : Bool). b || is_read_by core right c) (l c)
    ∙ grouped (has_class old c) (is_read_by core left c) (is_read_by core right c)
    ∙ ap (λ (b : Bool). has_class old c || b) (sym (read-both core left right c))

option-listed : (o : Option ClassId) (c : ClassId) →
    has_class (option_to_list o) c ≡ has_class (elim o [ None ↦ [] | Some d ↦ d ∷ [] ]) c
option-listed None c = refl
option-listed (Some d) c = refl

pub reads-op : (core : Core) (site : SiteId) (place : Place) (op : CoreOp) (found : Option ClassId)
    (old new : List ClassId) → IsClassRead core op found →
    ((c : ClassId) → has_class new c ≡ (has_class old c || has_class (option_to_list found) c)) →
    AreRead core (Op site place op) old new
reads-op core site place op found old new is put = λ c.
    put c
    ∙ ap (λ (b : Bool). has_class old c || b)
    (option-listed found c ∙ is c ∙ sym (or-false (reads_field_of core c op)))

-- ---- one class behind others
class-behind : (classes : List ClassId) (d c : ClassId) →
    has_class (classes ++ d ∷ []) c ≡ (has_class classes c || has_class (d ∷ []) c)
class-behind classes d c = list_any-append (λ (e : ClassId). same_class e c) classes (d ∷ [])

pub put-behind : (old new : List ClassId) (d c : ClassId) → new ≡ old ++ d ∷ [] →
    has_class new c ≡ (has_class old c || has_class (d ∷ []) c)
put-behind old new d c is = ap (λ (classes : List ClassId). has_class classes c) is ∙ class-behind old d c

-- a class that stands there is there already
pub there-already : (a b : Bool) → (b ≡ true → a ≡ true) → a ≡ (a || b)
there-already true b f = refl
there-already false true f = f refl
there-already false false f = refl

pub put-again : (classes : List ClassId) (d c : ClassId) →
    (has_class (d ∷ []) c ≡ true → has_class classes c ≡ true) →
    has_class classes c ≡ (has_class classes c || has_class (d ∷ []) c)
put-again classes d c f = there-already (has_class classes c) (has_class (d ∷ []) c) f
