-- The places of a record end at its access: as many turns are enough as there are methods, since the rank of a method
-- falls with each call.
use Rattle.std.proofs.Common.{◌≡◌, ℕ, zero, suc, ◌<◌, ◌≤◌, Bool, true, false, ◌||◌, ⊎_elim, List, [], ◌∷◌, Option}
use Rattle.std.proofs.Common.{None, Some}
use Rattle.std.proofs.Common.{length, map, nat_lt, option_map, slice_get, refl, sym, ap, subst, ◌∙◌, arith}
use Rattle.std.proofs.lemmas.Option.{slice_get_within}
use Rattle.std.specs.List.{find}
use Rattle.std.specs.Option.{option_and_then}
use Rattle.racer_base.specs.declared.ids.MethodId.{MethodId}
use Rattle.racer_base.specs.declared.ids.Place.{Place}
use Rattle.core_code.specs.declared.code.Op.{Op as CoreOp}
use Rattle.core_code.specs.declared.code.Op.TheVariants.{Call}
use Rattle.core_code.specs.declared.program.Program.{Program}
use Rattle.core_code.specs.Calls.{calls_of, chain_within, greatest, method_at, rank_of}
use Rattle.core_code.specs.CallFacts.{is_right_call}
use Rattle.core_code.specs.Core.{Core, Method}
use Rattle.core_code.specs.Program.{core as core_of}
use Rattle.core_code.specs.Tree.{Operation, op_at, steps_of}
use Rattle.core_code.proofs.Membership.{In, find_gives}
use Rattle.access_domain.specs.declared.access.Access.{Access}
use Rattle.access_domain.specs.Findings.{Known, Whole, outcome_from}
use Rattle.access_domain.specs.FlowContext.{FlowContext, given_of}
use Rattle.access_domain.specs.Summaries.{known_of}
use Rattle.access_domain.specs.OutcomeRecords.{records_held, records_of}
use Rattle.access_domain.proofs.KnownMethods.{FoundAt, found_at, known_is_analysed}
use Rattle.core_ways.specs.Alone.{locks_round}
use Rattle.race_pairs.specs.declared.warning.Warning.{Warning}
use Rattle.core_ways_laws.specs.Sites.{IsRecordOf, IsThrough, IsTouch}
use Rattle.core_ways_laws.proofs.ProgramFacts.{IsRight, IsRightCall, is_right, lower_call, right_call}
use Rattle.access_paths.specs.Paths.{last_of}
use Rattle.core_ways_laws.proofs.RecordArrivals.{record-comes}
use Rattle.race_report_parts.specs.Places.{OwnedRecord, callee_of, operation_at, places_of, places_within}
use Rattle.race_report_parts.specs.Places.{owned_record_at, record_below}
use Rattle.race_report_parts.specs.Reaching.{DoesReach}
use Rattle.race_report_parts.specs.Told.{Side, Sides, side_from, side_of, sides_from, sides_of}

abbrev held_by : MethodId → Access → OwnedRecord
held_by m a = record { method = m; access = a }

-- ---- ranks

greatest-limit : (f : MethodId → ℕ) (n : ℕ) → ((m : MethodId) → f m ≤ n) → (ms : List MethodId) →
    greatest (map f ms) ≤ n
greatest-limit f n each [] = omega arith
greatest-limit f n each (m ∷ ms) =
    let one : f m ≤ n = each m in
    let others : greatest (map f ms) ≤ n = greatest-limit f n each ms in omega arith

chain-limit : (n : ℕ) (core : Core) (m : MethodId) → chain_within n core m ≤ n
chain-limit zero core m = omega arith
chain-limit (suc n) core m =
    let rest : greatest (map (chain_within n core) (calls_of core m)) ≤ n =
    greatest-limit (chain_within n core) n (λ (x : MethodId). chain-limit n core x) (calls_of core m) in omega arith

chain-some : (n : ℕ) (core : Core) (m : MethodId) → 0 < n → 0 < chain_within n core m
chain-some zero core m some = absurd (omega (arith, some))
chain-some (suc n) core m some = omega arith

rank-some : (core : Core) (m : MethodId) (method : Method) → method_at core m ≡ Some method → 0 < rank_of core m
rank-some core m method there =
    let within : m.0 < length core.methods = slice_get_within core.methods m.0 method there in
    chain-some (length core.methods) core m (omega (arith, within))

-- ---- one place, and those below

abbrev places_at : Core → OwnedRecord → ℕ → Option Operation → List Place
places_at core held n o =
    elim o [
      | None ↦ []
      | Some x ↦ x.place ∷ places_within core (record_below core (callee_of x.op) held.access.below) n
    ]

one-place : (core : Core) (held : OwnedRecord) (o : Operation) (n : ℕ) (left : Option OwnedRecord) →
    operation_at core held.method held.access.site ≡ Some o →
    record_below core (callee_of o.op) held.access.below ≡ left →
    places_within core (Some held) (suc n) ≡ o.place ∷ places_within core left n
one-place core held o n left is below =
    ap (places_at core held n) is ∙ ap (λ (l : Option OwnedRecord). o.place ∷ places_within core l n) below

nothing-below : (core : Core) (callee : Option MethodId) → record_below core callee None ≡ None
nothing-below core None = refl
nothing-below core (Some m) = refl

touch-reaches : (core : Core) (held : OwnedRecord) (o : Operation) (locked : Bool) (n : ℕ) →
    operation_at core held.method held.access.site ≡ Some o → IsTouch o.op locked held.access →
    DoesReach core held (places_within core (Some held) (suc n))
touch-reaches core held o locked n is touch =
    let below : record_below core (callee_of o.op) held.access.below ≡ None =
    ap (record_below core (callee_of o.op)) touch.below ∙ nothing-below core (callee_of o.op) in
    subst (DoesReach core held) (sym (one-place core held o n None is below)) (record {
      operation = o;
      is = is;
      place = refl;
      touches = touch.touches;
      field = touch.field;
    })

-- a call at a place, and then the places of the record below
longer-reach : (core : Core) (held : OwnedRecord) (o : Operation) (callee : MethodId) (count index : ℕ) (lower : Access)
    (rest : List Place) → operation_at core held.method held.access.site ≡ Some o → o.op ≡ Call callee count →
    held.access.below ≡ Some index → owned_record_at core callee index ≡ Some (held_by callee lower) →
    held.access.kind ≡ lower.kind → last_of held.access.path.fields ≡ last_of lower.path.fields →
    DoesReach core (held_by callee lower) rest → DoesReach core held (o.place ∷ rest)
longer-reach core held o callee count index lower [] is calls below has kind field reaches = absurd reaches
longer-reach core held o callee count index lower (next ∷ more) is calls below has kind field reaches =
    record {
      operation = o;
      is = is;
      place = refl;
      callee = callee;
      count = count;
      calls = calls;
      index = index;
      below = below;
      lower = lower;
      has = has;
      kind = kind;
      same_field = field;
      rest = reaches;
    }

held-there : (core : Core) (g : FlowContext) (op : CoreOp) (locked : Bool) (a : Access) (of : IsThrough g op locked a) →
    known_of core of.callee ≡ Some (Whole of.found) →
    owned_record_at core of.callee of.index ≡ Some (held_by of.callee of.inner)
held-there core g op locked a of known =
    ap (λ (o : Option Known). option_map (held_by of.callee)
    (slice_get (records_held (option_map outcome_from o)) of.index)) known
    ∙ ap (option_map (held_by of.callee)) of.has

call-reaches : (core : Core) (g : FlowContext) (held : OwnedRecord) (o : Operation) (locked : Bool) (n : ℕ) →
    operation_at core held.method held.access.site ≡ Some o → (of : IsThrough g o.op locked held.access) →
    known_of core of.callee ≡ Some (Whole of.found) →
    DoesReach core (held_by of.callee of.inner) (places_within core (Some (held_by of.callee of.inner)) n) →
    DoesReach core held (places_within core (Some held) (suc n))
call-reaches core g held o locked n is of known reaches =
    let has : owned_record_at core of.callee of.index ≡ Some (held_by of.callee of.inner) =
    held-there core g o.op locked held.access of known in
    let below : record_below core (callee_of o.op) held.access.below ≡ Some (held_by of.callee of.inner) =
    (λ i. record_below core (callee_of (of.calls i)) (of.below i)) ∙ has in
    subst (DoesReach core held) (sym (one-place core held o n (Some (held_by of.callee of.inner)) is below))
    (longer-reach core held o of.callee of.count of.index of.inner
    (places_within core (Some (held_by of.callee of.inner)) n) is of.calls of.below has of.kind of.field reaches)

-- ---- records, by rank

stands : (code_steps : List Operation) (test : Operation → Bool) (o : Operation) → find test code_steps ≡ Some o →
    In code_steps o
stands code_steps test o is = (find_gives test code_steps o is).0

reaches : (p : Program) (n : ℕ) (m : MethodId) (method : Method) (index : ℕ) (a : Access) →
    method_at (core_of p) m ≡ Some method → slice_get (records_of (core_of p) m) index ≡ Some a →
    rank_of (core_of p) m ≤ n → DoesReach (core_of p) (held_by m a) (places_within (core_of p) (Some (held_by m a)) n)
reaches p zero m method index a there at low =
    let some : 0 < rank_of (core_of p) m = rank-some (core_of p) m method there in absurd (omega (arith, some, low))
reaches p (suc n) m method index a there at low =
    let core : Core = core_of p in
    let g : FlowContext = given_of core (known_of core) method.main in
    let comes : IsRecordOf g method.code false a = record-comes core p.sites_in_order m method index a there at in
    let o : Operation = comes.operation in
    let is : operation_at core m a.site ≡ Some o =
    ap (option_and_then (λ (x : Method). op_at x.code a.site)) there ∙ comes.at in
    let locked : Bool = false || nat_lt 0 (locks_round a.site method.code) in
    let of_m : FoundAt core m index a = found_at core m index a at in
    let analysed = known_is_analysed core m method (Whole of_m.found) there of_m.known in
    ⊎_elim
    (λ (touch : IsTouch o.op locked a). touch-reaches core (held_by m a) o locked n is touch)
    (λ (of : IsThrough g o.op locked a).
    let member : In (steps_of method.code) o = stands (steps_of method.code) _ o comes.at in
    let right : IsRight core method = is_right p m method there analysed in
    let call : IsRightCall core of.callee of.count = right_call core of.callee of.count
    (subst (λ (op : CoreOp). is_right_call core op ≡ true) of.calls (right.calls o member)) in
    let lower : rank_of core of.callee < rank_of core m =
    lower_call p m method there analysed o member of.callee of.count of.calls in
    call-reaches core g (held_by m a) o locked n is of of.known
    (reaches p n of.callee call.callee of.index of.inner call.there
    (ap (λ (k : Option Known). slice_get (records_held (option_map outcome_from k)) of.index) of.known ∙ of.has)
    (omega (arith, lower, low))))
    comes.from

pub record-reaches : (p : Program) (m : MethodId) (method : Method) (index : ℕ) (a : Access) →
    method_at (core_of p) m ≡ Some method → slice_get (records_of (core_of p) m) index ≡ Some a →
    DoesReach (core_of p) (held_by m a) (places_of (core_of p) (held_by m a))
record-reaches p m method index a there at =
    reaches p (length (core_of p).methods) m method index a there at (chain-limit (length (core_of p).methods)
    (core_of p) m)

-- ---- the records of a warning

abbrev ReachesBy : Core → MethodId → Side → Type 0
ReachesBy core m side = DoesReach core (held_by m side.access) side.places

side-reaches : (p : Program) (m : MethodId) (index : ℕ) (side : Side) (o : Option Method) (r : Option Access) →
    method_at (core_of p) m ≡ o → slice_get (records_of (core_of p) m) index ≡ r →
    side_from (core_of p) o (option_map (held_by m) r) ≡ Some side → ReachesBy (core_of p) m side
side-reaches p m index side None r there at is = absurd cc
side-reaches p m index side (Some method) None there at is = absurd cc
side-reaches p m index side (Some method) (Some a) there at is =
    let same : record { method = method; access = a; places = places_of (core_of p) (held_by m a) } ≡ side = cc in
    subst (ReachesBy (core_of p) m) same (record-reaches p m method index a there at)

sides-reach : (p : Program) (w : Warning) (sides : Sides) (a b : Option Side) →
    side_of (core_of p) w.entry w.access ≡ a → side_of (core_of p) w.partner w.partner_access ≡ b →
    sides_from a b ≡ Some sides →
    ReachesBy (core_of p) w.entry sides.first × ReachesBy (core_of p) w.partner sides.partner
sides-reach p w sides None b first second is = absurd cc
sides-reach p w sides (Some a) None first second is = absurd cc
sides-reach p w sides (Some a) (Some b) first second is =
    let same : record { first = a; partner = b } ≡ sides = cc in
    subst (λ (s : Sides). ReachesBy (core_of p) w.entry s.first × ReachesBy (core_of p) w.partner s.partner) same (
      side-reaches p w.entry w.access a (method_at (core_of p) w.entry)
          (slice_get (records_of (core_of p) w.entry) w.access) refl refl first,
      side-reaches p w.partner w.partner_access b (method_at (core_of p) w.partner)
          (slice_get (records_of (core_of p) w.partner) w.partner_access) refl refl second,
    )

pub places-reach : (p : Program) (w : Warning) (sides : Sides) → sides_of (core_of p) w ≡ Some sides →
    ReachesBy (core_of p) w.entry sides.first × ReachesBy (core_of p) w.partner sides.partner
places-reach p w sides is =
    sides-reach p w sides (side_of (core_of p) w.entry w.access) (side_of (core_of p) w.partner w.partner_access) refl
    refl is
