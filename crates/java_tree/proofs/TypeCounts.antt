-- A type keeps as many places as its view has names.
use Rattle.std.proofs.Common.{◌≡◌, ℕ, ◌+◌, List, [], ◌∷◌, Option, Some, None, map, length, refl, subst, arith, rules}
use Rattle.std.proofs.lemmas.List.{length-append}
use Rattle.java_tree.specs.declared.words.Ident.{Ident}
use Rattle.java_tree.specs.declared.types.TypeTree.{TypeTree, roll-TypeTree, map-TypeTree}
use Rattle.java_tree.specs.declared.types.BaseType.{BaseType, roll-BaseType, map-BaseType}
use Rattle.java_tree.specs.declared.types.TypePart.{TypePart, roll-TypePart, map-TypePart}
use Rattle.java_tree.specs.declared.types.TypeArguments.{TypeArguments, roll-TypeArguments, map-TypeArguments}
use Rattle.java_tree.specs.declared.types.TypeArgument.{TypeArgument, roll-TypeArgument, map-TypeArgument}
use Rattle.java_tree.specs.declared.types.BaseType.TheOpen as type
use Rattle.java_tree.specs.declared.types.BaseType.TheFolds.{ind-TypeTree, ind-TypeArguments, the_lemmas}
use Rattle.java_tree.specs.KeptPlaces.{all_places, ty_places, base_places, part_places, angled_places, argument_places}
use Rattle.java_tree.specs.Trees.{pack_parts, pack_arguments}
use Rattle.java_tree.specs.Trees.{Ty, Typed, Base, Plain, Named, Parts, no_part, part_then, Part, Bare, Generic}
use Rattle.java_tree.specs.Trees.{Arguments, Angled, ArgumentList, no_argument, argument_then, Argument, Exact, Any}
use Rattle.java_tree.specs.Trees.{Extends, Super}
use Rattle.java_tree.specs.View.{ty_of, base_of, part_of, angled_of, argument_of}

abbrev mutual
  pub ty_count : Ty → ℕ
  ty_count (Typed b n) = base_count b

  pub base_count : Base → ℕ
  base_count (Plain x) = 0
  base_count (Named ps) = parts_count ps

  pub parts_count : Parts → ℕ
  parts_count no_part = 0
  parts_count (part_then p ps) = part_count p + parts_count ps

  pub part_count : Part → ℕ
  part_count (Bare x) = 1
  part_count (Generic x a) = 1 + angled_count a

  pub angled_count : Arguments → ℕ
  angled_count (Angled l g) = arguments_count l

  pub arguments_count : ArgumentList → ℕ
  arguments_count no_argument = 0
  arguments_count (argument_then a l) = argument_count a + arguments_count l

  pub argument_count : Argument → ℕ
  argument_count (Exact t) = ty_count t
  argument_count Any = 0
  argument_count (Extends t) = ty_count t
  argument_count (Super t) = ty_count t

abbrev TyHas : TypeTree → Type 0
TyHas t = length (ty_places t) ≡ ty_count (ty_of t)

abbrev BaseHas : BaseType → Type 0
BaseHas t = length (base_places t) ≡ base_count (base_of t)

abbrev PartHas : TypePart → Type 0
PartHas t = length (part_places t) ≡ part_count (part_of t)

abbrev AngledHas : TypeArguments → Type 0
AngledHas t = length (angled_places t) ≡ angled_count (angled_of t)

abbrev ArgumentHas : TypeArgument → Type 0
ArgumentHas t = length (argument_places t) ≡ argument_count (argument_of t)

parts_have : (ps : List ((p : TypePart) × PartHas p)) → length (all_places (map part_places (map (λ e. e.0) ps)))
    ≡ parts_count (pack_parts (map part_of (map (λ e. e.0) ps)))
parts_have [] = refl
parts_have (p ∷ ps) = omega (
  arith,
  p.1,
  parts_have ps,
  length-append (part_places p.0) (all_places (map part_places (map (λ e. e.0) ps))),
)

arguments_have : (ps : List ((p : TypeArgument) × ArgumentHas p))
    → length (all_places (map argument_places (map (λ e. e.0) ps)))
    ≡ arguments_count (pack_arguments (map argument_of (map (λ e. e.0) ps)))
arguments_have [] = refl
arguments_have (p ∷ ps) = omega (
  arith,
  p.1,
  arguments_have ps,
  length-append (argument_places p.0) (all_places (map argument_places (map (λ e. e.0) ps))),
)

abbrev Bases : Type 0
Bases = (x : BaseType) × BaseHas x

abbrev Argued : Type 0
Argued = (x : TypeArgument) × ArgumentHas x

abbrev Angleds : Type 0
Angleds = (x : TypeArguments) × AngledHas x

abbrev Parted : Type 0
Parted = (x : TypePart) × PartHas x

abbrev Tys : Type 0
Tys = (x : TypeTree) × TyHas x

base_has : (x : type.BaseType-F BaseType TypeArgument TypeArguments TypePart TypeTree)
    (y : type.BaseType-F Bases Argued Angleds Parted Tys)
    → map-BaseType Bases Argued Angleds Parted Tys BaseType TypeArgument TypeArguments TypePart TypeTree (λ e. e.0)
    (λ e. e.0) (λ e. e.0) (λ e. e.0) (λ e. e.0) y ≡ x → BaseHas (roll-BaseType x)
base_has x (type.Plain text) is = subst (λ z. BaseHas (roll-BaseType z)) is (search (rules, the_lemmas))
base_has x (type.Named ps) is = subst (λ z. BaseHas (roll-BaseType z)) is
    (search (rules, the_lemmas, parts_have ps.items))

argument_has : (x : type.TypeArgument-F BaseType TypeArgument TypeArguments TypePart TypeTree)
    (y : type.TypeArgument-F Bases Argued Angleds Parted Tys)
    → map-TypeArgument Bases Argued Angleds Parted Tys BaseType TypeArgument TypeArguments TypePart TypeTree (λ e. e.0)
    (λ e. e.0) (λ e. e.0) (λ e. e.0) (λ e. e.0) y ≡ x → ArgumentHas (roll-TypeArgument x)
argument_has x (type.Exact t) is = subst (λ z. ArgumentHas (roll-TypeArgument z)) is (search (rules, the_lemmas, t.1))
argument_has x type.Any is = subst (λ z. ArgumentHas (roll-TypeArgument z)) is (search (rules, the_lemmas))
argument_has x (type.Extends t) is = subst (λ z. ArgumentHas (roll-TypeArgument z)) is (search (rules, the_lemmas, t.1))
argument_has x (type.Super t) is = subst (λ z. ArgumentHas (roll-TypeArgument z)) is (search (rules, the_lemmas, t.1))

angled_has : (x : type.TypeArguments-F BaseType TypeArgument TypeArguments TypePart TypeTree)
    (y : type.TypeArguments-F Bases Argued Angleds Parted Tys)
    → map-TypeArguments Bases Argued Angleds Parted Tys BaseType TypeArgument TypeArguments TypePart TypeTree (λ e. e.0)
    (λ e. e.0) (λ e. e.0) (λ e. e.0) (λ e. e.0) y ≡ x → AngledHas (roll-TypeArguments x)
angled_has x y is = subst (λ z. AngledHas (roll-TypeArguments z)) is
    (search (rules, the_lemmas, arguments_have y.items.items))

part_case : (n : Ident) (o : Option Angleds) → PartHas (roll-TypePart (map-TypePart Bases Argued Angleds Parted Tys
    BaseType TypeArgument TypeArguments TypePart TypeTree (λ e. e.0) (λ e. e.0) (λ e. e.0) (λ e. e.0) (λ e. e.0)
    (record { name = n; arguments = o })))
part_case n None = search (rules, the_lemmas)
part_case n (Some a) = search (rules, the_lemmas, a.1)

part_has : (x : type.TypePart-F BaseType TypeArgument TypeArguments TypePart TypeTree)
    (y : type.TypePart-F Bases Argued Angleds Parted Tys)
    → map-TypePart Bases Argued Angleds Parted Tys BaseType TypeArgument TypeArguments TypePart TypeTree (λ e. e.0)
    (λ e. e.0) (λ e. e.0) (λ e. e.0) (λ e. e.0) y ≡ x → PartHas (roll-TypePart x)
part_has x y is = subst (λ z. PartHas (roll-TypePart z)) is (part_case y.name y.arguments)

ty_has : (x : type.TypeTree-F BaseType TypeArgument TypeArguments TypePart TypeTree)
    (y : type.TypeTree-F Bases Argued Angleds Parted Tys)
    → map-TypeTree Bases Argued Angleds Parted Tys BaseType TypeArgument TypeArguments TypePart TypeTree (λ e. e.0)
    (λ e. e.0) (λ e. e.0) (λ e. e.0) (λ e. e.0) y ≡ x → TyHas (roll-TypeTree x)
ty_has x y is = subst (λ z. TyHas (roll-TypeTree z)) is (search (rules, the_lemmas, y.base.1))

pub ty_counts : (t : TypeTree) → TyHas t
ty_counts = ind-TypeTree BaseHas ArgumentHas AngledHas PartHas TyHas base_has argument_has angled_has part_has ty_has
