-- No public contract rests on this: values in places of any kinds.
use Rattle.std.specs.Prelude.{◌≡◌, List, [], ◌∷◌}
use Rattle.racer_base.specs.declared.ids.Kind.{Kind}
use Rattle.core_semantics.specs.declared.object.Value.{Value}

-- values, one after another, in places of these kinds
abbrev pub Stand : {K : Type 0} → (K → Value → Type 0) → List K → List Value → Type 0
Stand Is [] [] = Unit {0}
Stand Is (k ∷ ks) (v ∷ vs) = Is k v × Stand Is ks vs
Stand Is _ _ = ⊥

-- values of these kinds may be passed where the others are wanted, the uppermost first, with the rest below them
abbrev pub Suits : {K : Type 0} → (K → Value → Type 0) → (Kind → K) → List Kind → List K → List K → Type 0
Suits Is of [] ks rest = ks ≡ rest
Suits Is of (kind ∷ kinds) [] rest = ⊥
Suits Is of (kind ∷ kinds) (k ∷ ks) rest = ((v : Value) → Is k v → Is (of kind) v) × Suits Is of kinds ks rest
