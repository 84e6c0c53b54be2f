-- No public contract rests on this: what the code of a method is made of.
use Rattle.std.specs.Prelude.{Bool, true, false, List, [], ◌∷◌, ◌++◌, codes, Result, if◌then◌else◌}
use Rattle.std.specs.List.{flat_map}
use Rattle.racer_base.specs.declared.ids.Place.{Place}
use Rattle.java_tree.specs.declared.methods.MethodTree.{MethodTree}
use Rattle.java_tree.specs.declared.unit.Member.{Member}
use Rattle.java_resolver.specs.Declarations.{is_constructor}
use Rattle.java_resolver.specs.Words.{has_word}
use Rattle.core_code.specs.declared.code.LockKind.TheVariants.{Own}
use Rattle.core_code.specs.Tree.{Tree, Sync, can_end, in_sequence}
use Rattle.core_lowering_drafts.specs.declared.written.Stop.{Stop}
use Rattle.core_lowering_drafts.specs.Sizes.{is_small, TellsSize}
use Rattle.core_lowering_rules.specs.Context.{Context, Code, made, push_owner}
use Rattle.core_lowering_drafts.specs.Sites.{lock_at}
use Rattle.core_lowering_rules.specs.Methods.{member_begun}
use Rattle.core_lowering_methods.specs.declared.bodies.Limit.{Limit}
use Rattle.core_lowering_methods.specs.declared.bodies.Limit.TheVariants as limit

-- of a constructor, the fields of its object, without variables in scope
abbrev pub object_begun : Context → List Member → MethodTree → Code
object_begun bare members m = if is_constructor m.result then flat_map (member_begun bare) members else []

-- what a synchronized method is locked by
abbrev pub owner_pushed : Context → MethodTree → Code
owner_pushed context m = if has_word (codes "synchronized") m.modifiers then push_owner context else []

abbrev pub under_lock : Place → Bool → List Tree → List Tree
under_lock place true body = Sync (lock_at Own place) (in_sequence body) ∷ []
under_lock place false body = body

-- what is last is done at an end that can be reached
abbrev pub with_end : Code → List Tree → List Tree
with_end last body = if can_end (in_sequence body) then body ++ made last else body

abbrev pub whole_code : (fields owner : Code) → Place → (is_locked : Bool) → (block last : Code) → List Tree
whole_code fields owner place is_locked block last =
    with_end last ((made fields ++ made owner) ++ under_lock place is_locked (made block))

-- code past the limit is left out
abbrev pub kept_code : Bool → List Tree → List Tree
kept_code is_past code = if is_past then [] else code

-- where there is a limit, it is told exactly where the code of a block is past it
abbrev pub Tells : {T : Type 0} → Limit → Code → Result T Stop → Type 0
Tells (limit.Tokens n) block r = TellsSize (is_small n (in_sequence (made block))) r
Tells limit.Free block r = Unit {0}
