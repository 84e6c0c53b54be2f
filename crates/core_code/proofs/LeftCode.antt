-- How a sequence can be left, part by part.
use Rattle.std.proofs.Common.{◌≡◌, Bool, true, false, ◌&&◌, ◌||◌, refl}
use Rattle.std.proofs.Math.Bool.{and-true}
use Rattle.core_code.specs.declared.exits.Exits.{Exits}
use Rattle.core_code.specs.Exits.{exits_of, exits_then}
use Rattle.core_code.specs.Tree.{Tree, Seq, Skip, can_end, can_return}

or-none : (r a : Bool) → (r || (a && false)) ≡ r
or-none true a = refl
or-none false true = refl
or-none false false = refl

and-and : (a b c : Bool) → ((a && b) && c) ≡ (a && (b && c))
and-and true b c = refl
and-and false b c = refl

or-then : (a r b q z : Bool) → ((r || (a && q)) || ((a && b) && z)) ≡ (r || (a && (q || (b && z))))
or-then a true b q z = refl
or-then true false b q z = refl
or-then false false b q z = refl

-- one more part
pub exits-turn : (so_far : Exits) (first rest : Tree) →
    exits_then (exits_then so_far (exits_of first)) (exits_of rest) ≡ exits_then so_far (exits_of (Seq first rest))
exits-turn so_far first rest = (λ i. record {
  ends = and-and so_far.ends (can_end first) (can_end rest) i;
  returns = or-then so_far.ends so_far.returns (can_end first) (can_return first) (can_return rest) i;
})

pub exits-end : (so_far : Exits) → exits_then so_far (exits_of Skip) ≡ so_far
exits-end so_far = (λ i. record {
  ends = and-true so_far.ends i;
  returns = or-none so_far.returns so_far.ends i;
})
