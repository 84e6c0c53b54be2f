-- A contract of a public call rests on this: `SiteWays::find` of core_ways_sites. The path to a site, and code that is
-- gone into along a path.
use Rattle.std.specs.Prelude.{ℕ, suc, Bool, true, false, List, [], ◌∷◌, ◌++◌, Option, None, Some, option_map}
use Rattle.std.specs.Prelude.{if◌then◌else◌}
use Rattle.std.specs.Borrow.{Bor}
use Rattle.core_code.specs.declared.code.Op.{Op as CoreOp}
use Rattle.racer_base.specs.declared.ids.Place.{Place}
use Rattle.racer_base.specs.declared.ids.SiteId.{SiteId}
use Rattle.core_semantics.specs.declared.answer.Turn.{Turn}
use Rattle.core_semantics.specs.declared.answer.Turn.TheVariants.{Left, Right}
use Rattle.core_code.specs.Tree.{Tree, Op, Skip, Seq, Choice, Loop, Sync, Operation, op_at}
use Rattle.core_ways.specs.declared.part.WayPart.{WayPart}
use Rattle.core_ways.specs.declared.part.WayPart.TheVariants.{Step, Branched}
use Rattle.core_ways.specs.declared.passing.PathEnd.{PathEnd}
use Rattle.core_ways.specs.declared.passing.PathEnd.TheVariants.{Before, Behind}
use Rattle.core_ways.specs.Ways.{has_site, passed, passed_op, reached}

-- the operation that has this site, where the code has one
abbrev pub op_there : Tree → SiteId → Option CoreOp
op_there code site = option_map (λ (o : Operation). o.op) (op_at code site)

-- at each sequence and choice round a site, from the outside, whether it stands in the first part
abbrev pub path_to : SiteId → Tree → List Bool
path_to site (Op at place op) = []
path_to site Skip = []
path_to site (Seq first rest) =
    if has_site first site then true ∷ path_to site first else false ∷ path_to site rest
path_to site (Choice left right) =
    if has_site left site then true ∷ path_to site left else false ∷ path_to site right
path_to site (Loop body) = path_to site body
path_to site (Sync lock body) = path_to site body

-- none where the code has no such site
abbrev pub path_where : SiteId → Tree → List Bool
path_where site code = if has_site code site then path_to site code else []

-- what is reached towards a site; nothing where the code has no such site
abbrev pub reached_where : SiteId → Tree → List WayPart
reached_where site code = if has_site code site then reached 0 site code else []

-- what is passed of the operation at which a path ends
abbrev pub passed_end : PathEnd → ℕ → Place → CoreOp → List WayPart
passed_end Before locks place op = []
passed_end Behind locks place op = passed_op locks place op

-- what is passed of code, and which turns it takes, along a path
abbrev pub followed : PathEnd → ℕ → List Bool → Tree → List WayPart
followed end locks path (Op at place op) = passed_end end locks place op
followed end locks path Skip = []
followed end locks path (Seq first rest) =
    elim path [
      | [] ↦ []
      | ◌∷◌ is_first sides ↦
          if is_first then followed end locks sides first else passed locks first ++ followed end locks sides rest
    ]
followed end locks path (Choice left right) =
    elim path [
      | [] ↦ []
      | ◌∷◌ is_left sides ↦
          if is_left
          then Branched Left ∷ followed end locks sides left
          else Branched Right ∷ followed end locks sides right
    ]
followed end locks path (Loop body) = Branched Left ∷ followed end locks path body
followed end locks path (Sync lock body) = Step ∷ followed end (suc locks) path body

-- a path by its first side and those behind it
abbrev pub sides_of : Option (Bool × Bor (List Bool)) → List Bool
sides_of None = []
sides_of (Some (first, rest)) = first ∷ rest.now

-- the turn to a side of a choice
abbrev pub turn_to : Bool → Turn
turn_to true = Left
turn_to false = Right
