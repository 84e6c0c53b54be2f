-- What is written is read back.
use Rattle.std.proofs.Common.{◌≡◌, ℕ, ◌+◌, ◌*◌, ◌≤◌, ◌<◌, Bool, List, [], ◌∷◌, Option, Some, None}
use Rattle.std.proofs.Common.{codes, length, map, nat_le, refl, ap, ◌∙◌, arith}
use Rattle.std.specs.Prelude.{Ok}
use Rattle.std.proofs.lemmas.Bool.{eq-eqb, le-leb}
use Rattle.std.specs.Option.{option_map, option_and_then}
use Rattle.serde_json.specs.Data.{string}
use Rattle.serde_json.specs.Find.{as_str}
use Rattle.serde_json.specs.View.{items_of}
use Rattle.serde_json.proofs.OnLiterals.{serde_json_on_literals}
use Rattle.racer_base.specs.declared.limits.TheConstants.{MAX_WAY_STEPS}
use Rattle.core_semantics.specs.declared.answer.Turn.{Turn}
use Rattle.core_semantics.specs.declared.answer.Turn.TheVariants.{Left, Right}
use Rattle.core_semantics.specs.Legs.{Leg}
use Rattle.witness_text_files.specs.Files.{File, entries_of, file_from, file_of, leg_of, legs_of, member, number_up_to}
use Rattle.witness_text_files.specs.Files.{objects_of, path_of, text_turns, texts_of, turns_of, two_legs, version_of}
use Rattle.witness_text_files.specs.Files.{where_so}
use Rattle.witness_text_files.specs.Written.{data_of, leg_data, letter, version_number}

-- a leg within its limits
pub record IsLeg (leg : Leg) : Type 0 where
  pub thread : leg.thread < 2
  pub turns : length leg.turns ≤ MAX_WAY_STEPS
  pub steps : leg.steps ≤ MAX_WAY_STEPS

-- a file within the limits that the type of a witness file keeps
pub record IsWithin (f : File) : Type 0 where
  pub first : IsLeg f.first
  pub second : IsLeg f.second
  pub threads : f.first.thread + f.second.thread ≡ 1
  pub objects : length f.objects ≤ MAX_WAY_STEPS * 2

letters-read : (turns : List Turn) → turns_of (map letter turns) ≡ Some turns
letters-read [] = refl
letters-read (Left ∷ turns) = ap (option_map (λ ts. Left ∷ ts)) (letters-read turns)
letters-read (Right ∷ turns) = ap (option_map (λ ts. Right ∷ ts)) (letters-read turns)

texts-read : (texts : List (List ℕ)) → texts_of (items_of (map string texts)) ≡ Some texts
texts-read [] = refl
texts-read (text ∷ texts) = ap (option_map (λ ts. text ∷ ts)) (texts-read texts)

within : {X : Type 0} (n most : ℕ) (x : X) → n ≤ most → where_so (nat_le n most) x ≡ Some x
within n most x small = ap (λ (b : Bool). where_so b x) (le-leb n most small)

steps-read : (leg : Leg) → IsLeg leg →
    member (codes "steps") (number_up_to MAX_WAY_STEPS) (leg_data leg) ≡ Some leg.steps
unfolding serde_json_on_literals
steps-read leg is = within leg.steps MAX_WAY_STEPS leg.steps is.steps

thread-read : (leg : Leg) → IsLeg leg → member (codes "thread") (number_up_to 1) (leg_data leg) ≡ Some leg.thread
unfolding serde_json_on_literals
thread-read leg is =
    let below : leg.thread < 2 = is.thread in
    let small : leg.thread ≤ 1 = omega (arith, below) in
    within leg.thread 1 leg.thread small

turns-read : (leg : Leg) → IsLeg leg → member (codes "turns") text_turns (leg_data leg) ≡ Some leg.turns
unfolding serde_json_on_literals
turns-read leg is =
    ap (option_and_then (λ (ts : List Turn). where_so (nat_le (length ts) MAX_WAY_STEPS) ts)) (letters-read leg.turns)
    ∙ within (length leg.turns) MAX_WAY_STEPS leg.turns is.turns

leg-read : (leg : Leg) → IsLeg leg → leg_of (leg_data leg) ≡ Some leg
leg-read leg is =
    rw (steps-read leg is) (rw (thread-read leg is) (rw (turns-read leg is) refl))

-- a file with another path, or with none
abbrev pub with_path : File → Option (List ℕ) → File
with_path f path = record f { path = path }

class-with : (f : File) (path : Option (List ℕ)) → member (codes "class") as_str (data_of (with_path f path)) ≡
    Some f.class
unfolding serde_json_on_literals
class-with f None = refl
class-with f (Some path) = refl

version-with : (f : File) (path : Option (List ℕ)) → member (codes "version") version_of (data_of (with_path f path)) ≡
    Some (version_number path)
unfolding serde_json_on_literals
version-with f None = refl
version-with f (Some path) = refl

path-with : (f : File) (path : Option (List ℕ)) → path_of (version_number path) (data_of (with_path f path)) ≡ Some path
unfolding serde_json_on_literals
path-with f None = refl
path-with f (Some path) = refl

path-read : (f : File) →
    option_and_then (λ version. path_of version (data_of f)) (member (codes "version") version_of (data_of f)) ≡
    Some f.path
path-read f =
    ap (option_and_then (λ version. path_of version (data_of f))) (version-with f f.path) ∙ path-with f f.path

entries-with : (f : File) (path : Option (List ℕ)) →
    member (codes "entries") entries_of (data_of (with_path f path)) ≡ Some (f.first_entry, f.second_entry)
unfolding serde_json_on_literals
entries-with f None = refl
entries-with f (Some path) = refl

objects-with : (f : File) (path : Option (List ℕ)) → member (codes "objects") objects_of (data_of (with_path f path)) ≡
    option_and_then (λ (ts : List (List ℕ)). where_so (nat_le (length ts) (MAX_WAY_STEPS * 2)) ts)
    (texts_of (items_of (map string f.objects)))
unfolding serde_json_on_literals
objects-with f None = refl
objects-with f (Some path) = refl

objects-read : (f : File) → IsWithin f → member (codes "objects") objects_of (data_of f) ≡ Some f.objects
objects-read f is =
    objects-with f f.path
    ∙ ap (option_and_then (λ (ts : List (List ℕ)). where_so (nat_le (length ts) (MAX_WAY_STEPS * 2)) ts))
    (texts-read f.objects)
    ∙ within (length f.objects) (MAX_WAY_STEPS * 2) f.objects is.objects

legs-with : (f : File) (path : Option (List ℕ)) → member (codes "legs") legs_of (data_of (with_path f path)) ≡
    two_legs (leg_data f.first, leg_data f.second)
unfolding serde_json_on_literals
legs-with f None = refl
legs-with f (Some path) = refl

legs-read : (f : File) → IsWithin f → member (codes "legs") legs_of (data_of f) ≡ Some (f.first, f.second)
legs-read f is =
    legs-with f f.path
    ∙ rw (leg-read f.first is.first) (rw (leg-read f.second is.second)
    (ap (λ (b : Bool). where_so b (f.first, f.second)) (eq-eqb (f.first.thread + f.second.thread) 1 is.threads)))

-- a file within its limits, written as a value, is read as itself
pub written-is-read : (f : File) → IsWithin f → file_of (data_of f) ≡ Ok f
written-is-read f is =
    (λ i. file_from (version-with f f.path i) (class-with f f.path i) (entries-with f f.path i) (path-read f i)
    (objects-read f is i) (legs-read f is i))
