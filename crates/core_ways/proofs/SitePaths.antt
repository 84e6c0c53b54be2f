-- The path to a site, and what is passed along it.
use Rattle.std.proofs.Common.{◌≡◌, ℕ, suc, Bool, true, false, cond, List, [], ◌∷◌, ◌++◌, Option, None, Some}
use Rattle.std.proofs.Common.{nat_eq, is_some, option_map, refl, sym, ap, ◌∙◌, append_assoc, arith, length, min, take}
use Rattle.std.proofs.Math.Seq.{take-append_seam}
use Rattle.std.proofs.lemmas.List.{append-nil, length-take, take-append-le}
use Rattle.std.proofs.lemmas.List.Folds.{find-append}
use Rattle.std.specs.Option.{option_or}
use Rattle.racer_base.specs.declared.ids.Place.{Place}
use Rattle.racer_base.specs.declared.ids.SiteId.{SiteId}
use Rattle.core_code.specs.declared.code.Op.{Op as CoreOp}
use Rattle.core_code.specs.Tree.{Tree, Op, Skip, Seq, Choice, Loop, Sync, Operation, op_at, steps_of}
use Rattle.core_semantics.specs.declared.answer.Turn.TheVariants.{Left, Right}
use Rattle.core_ways.specs.declared.part.WayPart.{WayPart}
use Rattle.core_ways.specs.declared.part.WayPart.TheVariants.{Step, Branched}
use Rattle.core_ways.specs.declared.passing.PathEnd.TheVariants.{Before}
use Rattle.core_ways.specs.Ways.{has_site, passed, reached}
use Rattle.core_ways.specs.Paths.{op_there, path_to, path_where, followed, reached_where}

-- what is passed along the path to a site is what is reached towards it
pub followed-path : (locks : ℕ) (site : SiteId) (code : Tree) →
    followed Before locks (path_to site code) code ≡ reached locks site code
followed-path locks site (Op at place op) = refl
followed-path locks site Skip = refl
followed-path locks site (Seq first rest) =
    elim (has_site first site) as (λ b.
    followed Before locks (cond b (true ∷ path_to site first) (false ∷ path_to site rest)) (Seq first rest) ≡
    cond b (reached locks site first) (passed locks first ++ reached locks site rest)) [
      | true ↦ followed-path locks site first
      | false ↦ ap (λ (ps : List WayPart). passed locks first ++ ps) (followed-path locks site rest)
    ]
followed-path locks site (Choice left right) =
    elim (has_site left site) as (λ b.
    followed Before locks (cond b (true ∷ path_to site left) (false ∷ path_to site right)) (Choice left right) ≡
    cond b (Branched Left ∷ reached locks site left) (Branched Right ∷ reached locks site right)) [
      | true ↦ ap (λ (ps : List WayPart). Branched Left ∷ ps) (followed-path locks site left)
      | false ↦ ap (λ (ps : List WayPart). Branched Right ∷ ps) (followed-path locks site right)
    ]
followed-path locks site (Loop body) = ap (λ (ps : List WayPart). Branched Left ∷ ps) (followed-path locks site body)
followed-path locks site (Sync lock body) = ap (λ (ps : List WayPart). Step ∷ ps) (followed-path (suc locks) site body)

map-or : (p q : Option Operation) →
    option_map (λ (o : Operation). o.op) (option_or p q) ≡
    option_or (option_map (λ (o : Operation). o.op) p) (option_map (λ (o : Operation). o.op) q)
map-or None q = refl
map-or (Some o) q = refl

-- the operation at a site of one part and then another
pub there-both : (a b : Tree) (site : SiteId) →
    op_there (Seq a b) site ≡ option_or (op_there a site) (op_there b site)
there-both a b site =
    ap (option_map (λ (o : Operation). o.op)) (find-append _ (steps_of a) (steps_of b))
    ∙ map-or (op_at a site) (op_at b site)

some-mapped : (o : Option Operation) → is_some o ≡ is_some (option_map (λ (x : Operation). x.op) o)
some-mapped None = refl
some-mapped (Some x) = refl

pub has-there : (code : Tree) (site : SiteId) → has_site code site ≡ is_some (op_there code site)
has-there code site = some-mapped (op_at code site)

-- ---- the operation at a site of one operation

pub op-found : (at : SiteId) (place : Place) (op : CoreOp) (site : SiteId) → nat_eq at.0 site.0 ≡ true →
    Some op ≡ op_there (Op at place op) site
op-found at place op site same =
    let one : Operation = record { site = at; place = place; op = op } in
    sym (ap (λ (b : Bool). option_map (λ (o : Operation). o.op) (cond b (Some one) None)) same)

pub op-missed : (at : SiteId) (place : Place) (op : CoreOp) (site : SiteId) → nat_eq at.0 site.0 ≡ false →
    None ≡ op_there (Op at place op) site
op-missed at place op site other =
    let one : Operation = record { site = at; place = place; op = op } in
    sym (ap (λ (b : Bool). option_map (λ (o : Operation). o.op) (cond b (Some one) None)) other)

either-empty : (b : Bool) → cond {A = List Bool} b [] [] ≡ []
either-empty true = refl
either-empty false = refl

pub op-path : (at : SiteId) (place : Place) (op : CoreOp) (site : SiteId) (old : List Bool) →
    old ≡ old ++ path_where site (Op at place op)
op-path at place op site old =
    sym (append-nil old)
    ∙ ap (λ (p : List Bool). old ++ p) (sym (either-empty (has_site (Op at place op) site)))

-- ---- the operation at a site of two parts

some-stays : (p q : Option CoreOp) → is_some p ≡ true → p ≡ option_or p q
some-stays None q some = absurd cc
some-stays (Some o) q some = refl

none-goes : (p q : Option CoreOp) → is_some p ≡ false → option_or p q ≡ q
none-goes None q none = refl
none-goes (Some o) q none = absurd cc

pub first-there : (a b : Tree) (site : SiteId) (found : Option CoreOp) → found ≡ op_there a site →
    is_some found ≡ true → found ≡ op_there (Seq a b) site
first-there a b site found is some =
    is
    ∙ some-stays (op_there a site) (op_there b site) (ap is_some (sym is) ∙ some)
    ∙ sym (there-both a b site)

pub second-there : (a b : Tree) (site : SiteId) (first : Option CoreOp) → first ≡ op_there a site →
    is_some first ≡ false → op_there b site ≡ op_there (Seq a b) site
second-there a b site first is none =
    sym (there-both a b site ∙ none-goes (op_there a site) (op_there b site) (ap is_some (sym is) ∙ none))

pub has-found : (code : Tree) (site : SiteId) (found : Option CoreOp) (b : Bool) → found ≡ op_there code site →
    is_some found ≡ b → has_site code site ≡ b
has-found code site found b is some = has-there code site ∙ ap is_some (sym is) ∙ some

-- ---- the path to a site of two parts

has-first : (a b : Tree) (site : SiteId) → has_site a site ≡ true → has_site (Seq a b) site ≡ true
has-first a b site has =
    has-there (Seq a b) site
    ∙ ap is_some (sym (some-stays (op_there a site) (op_there b site) (sym (has-there a site) ∙ has)
    ∙ sym (there-both a b site)))
    ∙ sym (has-there a site)
    ∙ has

has-second : (a b : Tree) (site : SiteId) → has_site a site ≡ false → has_site (Seq a b) site ≡ has_site b site
has-second a b site none =
    has-there (Seq a b) site
    ∙ ap is_some (there-both a b site
    ∙ none-goes (op_there a site) (op_there b site) (sym (has-there a site) ∙ none))
    ∙ sym (has-there b site)

where-first : (a b : Tree) (site : SiteId) → has_site a site ≡ true →
    path_where site (Seq a b) ≡ true ∷ path_to site a
where-first a b site has = (λ i.
    cond (has-first a b site has i) (cond (has i) (true ∷ path_to site a) (false ∷ path_to site b)) [])

where-second : (a b : Tree) (site : SiteId) → has_site a site ≡ false → has_site b site ≡ true →
    path_where site (Seq a b) ≡ false ∷ path_to site b
where-second a b site none has =
    let whole : has_site (Seq a b) site ≡ true = has-second a b site none ∙ has in
    (λ i. cond (whole i) (cond (none i) (true ∷ path_to site a) (false ∷ path_to site b)) [])

where-none : (a b : Tree) (site : SiteId) → has_site a site ≡ false → has_site b site ≡ false →
    path_where site (Seq a b) ≡ []
where-none a b site none other =
    ap (λ (x : Bool). cond x (path_to site (Seq a b)) []) (has-second a b site none ∙ other)

pub where-there : (a : Tree) (site : SiteId) → has_site a site ≡ true → path_where site a ≡ path_to site a
where-there a site has = ap (λ (x : Bool). cond x (path_to site a) []) has

pub where-not : (a : Tree) (site : SiteId) → has_site a site ≡ false → path_where site a ≡ []
where-not a site none = ap (λ (x : Bool). cond x (path_to site a) []) none

pub first-path : (a b : Tree) (site : SiteId) (old pushed new : List Bool) → pushed ≡ old ++ true ∷ [] →
    new ≡ pushed ++ path_where site a → has_site a site ≡ true → new ≡ old ++ path_where site (Seq a b)
first-path a b site old pushed new grown is has =
    is
    ∙ (λ i. grown i ++ where-there a site has i)
    ∙ append_assoc old (true ∷ []) (path_to site a)
    ∙ ap (λ (p : List Bool). old ++ p) (sym (where-first a b site has))

pub second-path : (a b : Tree) (site : SiteId) (old base pushed new : List Bool) → base ≡ old →
    pushed ≡ base ++ false ∷ [] → new ≡ pushed ++ path_where site b → has_site a site ≡ false →
    has_site b site ≡ true → new ≡ old ++ path_where site (Seq a b)
second-path a b site old base pushed new same grown is none has =
    is
    ∙ (λ i. (grown ∙ ap (λ (p : List Bool). p ++ false ∷ []) same) i ++ where-there b site has i)
    ∙ append_assoc old (false ∷ []) (path_to site b)
    ∙ ap (λ (p : List Bool). old ++ p) (sym (where-second a b site none has))

pub none-path : (a b : Tree) (site : SiteId) (old new : List Bool) → new ≡ old → has_site a site ≡ false →
    has_site b site ≡ false → new ≡ old ++ path_where site (Seq a b)
none-path a b site old new same none other =
    same ∙ sym (append-nil old) ∙ ap (λ (p : List Bool). old ++ p) (sym (where-none a b site none other))

pub none-path-whole : (code : Tree) (site : SiteId) (old new : List Bool) → new ≡ old → has_site code site ≡ false →
    new ≡ old ++ path_where site code
none-path-whole code site old new same none =
    same ∙ sym (append-nil old) ∙ ap (λ (p : List Bool). old ++ p) (sym (where-not code site none))

-- cut at the length of what stood there
pub cut-back : (xs ys zs : List Bool) (b : Bool) (n : ℕ) → n ≡ length xs → ys ≡ (xs ++ b ∷ []) ++ zs →
    take n ys ≡ xs
cut-back xs ys zs b n count is =
    (λ i. take (count i) (is i))
    ∙ ap (take (length xs)) (append_assoc xs (b ∷ []) zs)
    ∙ take-append_seam xs (b ∷ zs)

-- what stands before stays
pub start-stays : (fn xs : List Bool) (n : ℕ) (b : Bool) → n ≡ length fn → take n xs ≡ fn →
    take n (xs ++ b ∷ []) ≡ fn
start-stays fn xs n b count is =
    let counts : min n (length xs) ≡ n = sym (length-take n xs) ∙ ap length is ∙ sym count in
    take-append-le n xs (b ∷ []) (omega (arith, counts)) ∙ is

-- one part of what is left has no such site
pub path-on : (a b : Tree) (site : SiteId) (xs left : List Bool) → has_site a site ≡ false →
    left ≡ path_to site (Seq a b) → (xs ++ false ∷ []) ++ path_to site b ≡ xs ++ left
path-on a b site xs left none is =
    append_assoc xs (false ∷ []) (path_to site b)
    ∙ ap (λ (p : List Bool). xs ++ p)
    (sym (is ∙ ap (λ (x : Bool). cond x (true ∷ path_to site a) (false ∷ path_to site b)) none))

-- ---- what is reached

pub reached-along : (code : Tree) (site : SiteId) (path : List Bool) (found : Option CoreOp) →
    path ≡ path_where site code → found ≡ op_there code site → is_some found ≡ true →
    followed Before 0 path code ≡ reached_where site code
reached-along code site path found is there some =
    let has : has_site code site ≡ true = has-found code site found true there some in
    ap (λ (p : List Bool). followed Before 0 p code) (is ∙ where-there code site has)
    ∙ followed-path 0 site code
    ∙ ap (λ (b : Bool). cond b (reached 0 site code) []) (sym has)

pub reached-not : (code : Tree) (site : SiteId) (found : Option CoreOp) → found ≡ op_there code site →
    is_some found ≡ false → reached_where site code ≡ []
reached-not code site found there none =
    ap (λ (b : Bool). cond b (reached 0 site code) []) (has-found code site found false there none)
