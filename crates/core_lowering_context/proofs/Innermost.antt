-- Lists whose last element is the innermost, seen the innermost first.
use Rattle.std.proofs.Common.{◌≡◌, ℕ, Bool, List, [], ◌∷◌, ◌++◌, Option, Some, None, map, reverse, bytes_eq, length}
use Rattle.std.proofs.Common.{refl, sym, ap, ◌∙◌}
use Rattle.std.specs.List.{list_any}
use Rattle.std.proofs.lemmas.List.{reverse-append}
use Rattle.std.proofs.lemmas.List.Sorted.{IsPermutation-reverse, list_any-IsPermutation}
use Rattle.racer_base.specs.declared.ids.VarId.{VarId}
use Rattle.racer_base.specs.declared.ids.Kind.{Kind}
use Rattle.java_tree.specs.declared.words.Ident.{Ident}
use Rattle.core_lowering_rules.specs.Context.{Context, Guard, Target}
use Rattle.core_lowering_rules.specs.Scopes.{has_label}
use Rattle.core_lowering_rules.specs.Statements.{variable_in}
use Rattle.core_lowering_context.specs.declared.targets.Guard.{Guard as CodeGuard}
use Rattle.core_lowering_context.specs.Exits.{guard_seen, guards_seen}
use Rattle.core_lowering_context.specs.Restored.{returned_in, sent_to}

pub reverse-one : {A : Type 0} (xs : List A) (x : A) → reverse (xs ++ x ∷ []) ≡ x ∷ reverse xs
reverse-one xs x = reverse-append xs (x ∷ [])

pub one-first : {A : Type 0} (old new : List A) (x : A) → new ≡ old ++ x ∷ [] → reverse new ≡ x ∷ reverse old
one-first old new x is = ap reverse is ∙ reverse-one old x

pub any-reverse : {A : Type 0} (p : A → Bool) (xs : List A) → list_any p (reverse xs) ≡ list_any p xs
any-reverse p xs = sym (list_any-IsPermutation p xs (reverse xs) (IsPermutation-reverse xs))

-- ---- guards

pub guard-first : (old new : List CodeGuard) (g : CodeGuard) → new ≡ old ++ g ∷ [] →
    guards_seen new ≡ guard_seen g ∷ guards_seen old
guard-first old new g is = ap (map guard_seen) (one-first old new g is)

-- ---- returns

variable-there : (context : Context) (exit : ℕ) (v : Option VarId) →
    returned_in v context ≡ variable_in context (record { exit = exit; variable = v })
variable-there context exit None = refl
variable-there context exit (Some v) = refl

pub returned-kinds : (first second : Context) (v : Option VarId) → first.kinds ≡ second.kinds →
    returned_in v first ≡ returned_in v second
returned-kinds first second None is = ap (λ (kinds : List Kind). record { 0 = length kinds }) is
returned-kinds first second (Some v) is = refl

abbrev sent_by : Context → List Guard → Option (ℕ × VarId)
sent_by context guards = elim guards [
  | [] ↦ None
  | ◌∷◌ guard outer ↦ Some (guard.exit, variable_in context guard)
]

pub sent-first : (context : Context) (old new : List CodeGuard) (g : CodeGuard) (v : VarId) →
    context.guards ≡ guards_seen old → old ≡ new ++ g ∷ [] → v ≡ returned_in g.variable context →
    Some (g.exit.0, v) ≡ sent_to context
sent-first context old new g v seen is there =
    ap (λ (w : VarId). Some (g.exit.0, w)) (there ∙ variable-there context g.exit.0 g.variable)
    ∙ sym (ap (sent_by context) (seen ∙ guard-first new old g is))

-- ---- labels

pub labelled : (x : Ident) (target : Target) (labels texts : List (List ℕ)) (text : List ℕ) (b : Bool) →
    target.labels ≡ reverse labels → texts ≡ labels → text ≡ x.text → b ≡ list_any (bytes_eq text) texts →
    b ≡ has_label x target
labelled x target labels texts text b seen same named is =
    is ∙ ap (λ (n : List ℕ). list_any (bytes_eq n) texts) named ∙ ap (list_any (bytes_eq x.text)) same
    ∙ sym (any-reverse (bytes_eq x.text) labels) ∙ ap (list_any (bytes_eq x.text)) (sym seen)
