-- Code that is gone through part by part is gone through whole.
use Rattle.std.proofs.Common.{◌≡◌, Bool, true, cond, List, [], ◌∷◌, ◌++◌}
use Rattle.std.proofs.Common.{Option, None, Some, refl, sym, ap, subst, ◌∙◌}
use Rattle.std.proofs.lemmas.List.{append-nil}
use Rattle.std.specs.FinSet as set
use Rattle.std.specs.Prelude.{Result, Ok, Err, slice_index_or, drop}
use Rattle.racer_base.specs.declared.ids.FieldId.{FieldId}
use Rattle.racer_base.specs.declared.ids.SiteId.{SiteId}
use Rattle.racer_base.specs.declared.ids.Touch.{Touch}
use Rattle.access_paths.specs.declared.path.Path.{Path}
use Rattle.access_paths.specs.Order.{path_cmp}
use Rattle.owner_domain.specs.declared.value.Value.{Value}
use Rattle.owner_domain.specs.declared.value.Value.TheVariants.{Unnamed}
use Rattle.owner_domain.specs.declared.value.State.{State}
use Rattle.owner_domain.specs.Values.{field_value}
use Rattle.core_code.specs.declared.code.Op.{Op as CoreOp}
use Rattle.core_code.specs.declared.code.Op.TheVariants.{Push, PushClass, PushPrim, PushNull, New, Dup, Drop, Get, Put}
use Rattle.core_code.specs.declared.code.Op.TheVariants.{Set, Prim, Outside, Call, Unread, Ret, Throw}
use Rattle.core_code.specs.Program.{core}
use Rattle.access_domain.specs.declared.access.Access.{Access}
use Rattle.access_domain.specs.FlowContext.{FlowContext, field_at}
use Rattle.access_domain.specs.Operations.{Effects, goes_on, op_effects, record_of, top, popped, slot_of}
use Rattle.access_domain.specs.Flow.{both}
use Rattle.access_domain.proofs.ReachedPaths.{touched-reached}
use Rattle.transfer_steps.specs.declared.found.Found.{Found}
use Rattle.transfer_steps.specs.declared.found.Stop.{Stop}
use Rattle.transfer_steps.specs.declared.operations.MethodContext.{MethodContext}
use Rattle.transfer_steps.specs.Contexts.{given, record_reached}
use Rattle.transfer_steps.specs.Known.{table_of}
use Rattle.transfer_steps.specs.Marks.{marks, IsNoted, IsStopped, IsMarked, LeadsTo}
use Rattle.transfer_steps.specs.Walks.{IsFlow, is_quiet, moved}
use Rattle.transfer_steps.proofs.Adding.{Alike}
use Rattle.transfer_steps.proofs.Marking.{noted-then, noted-alike, noted-nothing, stopped-then, stopped-first}
use Rattle.transfer_steps.proofs.Marking.{stopped-alike, marked-then, marked-alike}

-- ---- records and wobbly paths

pub append-alike : (xs ys : List Path) → Alike (both (marks [] xs) (marks [] ys)) (marks [] (xs ++ ys))
append-alike xs ys =
    record {
      records = refl;
      wobbly = ap (λ (w : List Path). set.from_list {R = path_cmp} w) (append-nil (xs ++ ys));
      result = refl;
      large = refl;
    }

pub records-alike : (xs ys : List Access) → Alike (both (marks xs []) (marks ys [])) (marks (xs ++ ys) [])
records-alike xs ys = record { records = refl; wobbly = refl; result = refl; large = refl }

-- records, and then paths of the same set
pub parts-alike : (records : List Access) (ps qs : List Path) → set.from_list {R = path_cmp} ps ≡ set.from_list qs →
    Alike (both (marks records []) (marks [] ps)) (marks records qs)
parts-alike records ps qs same =
    record {
      records = append-nil records;
      wobbly = ap (λ (w : List Path). set.from_list {R = path_cmp} w) (append-nil ps) ∙ same;
      result = refl;
      large = refl;
    }

pub noted-parts : (old now new : Found) (records all : List Access) (ps qs : List Path) → records ≡ all →
    set.from_list {R = path_cmp} ps ≡ set.from_list qs → IsNoted old (marks records []) now →
    IsNoted now (marks [] ps) new → IsNoted old (marks all qs) new
noted-parts old now new records all ps qs same paths m k =
    subst (λ (rs : List Access). IsNoted old (marks rs qs) new) same
    (noted-alike old (both (marks records []) (marks [] ps)) (marks records qs) new (parts-alike records ps qs paths)
    (noted-then old (marks records []) now (marks [] ps) new m k))

pub stopped-records : (old : Found) (records all : List Access) (qs : List Path) (stop : Stop) → records ≡ all →
    IsStopped old (marks records []) stop → IsStopped old (marks all qs) stop
stopped-records old records all qs stop same m =
    subst (λ (rs : List Access). IsStopped old (marks rs qs) stop) same
    (stopped-alike old (both (marks records []) (marks [] qs)) (marks records qs) stop (parts-alike records qs qs refl)
    (stopped-first old (marks records []) (marks [] qs) stop m))

pub stopped-paths : (old now : Found) (records all : List Access) (ps qs : List Path) (stop : Stop) → records ≡ all →
    set.from_list {R = path_cmp} ps ≡ set.from_list qs → IsNoted old (marks records []) now →
    IsStopped now (marks [] ps) stop → IsStopped old (marks all qs) stop
stopped-paths old now records all ps qs stop same paths m k =
    subst (λ (rs : List Access). IsStopped old (marks rs qs) stop) same
    (stopped-alike old (both (marks records []) (marks [] ps)) (marks records qs) stop (parts-alike records ps qs paths)
    (stopped-then old (marks records []) now (marks [] ps) stop m k))

pub stopped-names : (old : Found) (ps qs : List Path) (stop : Stop) → IsStopped old (marks [] ps) stop →
    IsStopped old (marks [] (ps ++ qs)) stop
stopped-names old ps qs stop m =
    stopped-alike old (both (marks [] ps) (marks [] qs)) (marks [] (ps ++ qs)) stop (append-alike ps qs)
    (stopped-first old (marks [] ps) (marks [] qs) stop m)

pub marked-names : {X : Type 0} (old now new : Found) (ps qs : List Path) (r : Result X Stop) →
    IsNoted old (marks [] ps) now → IsMarked now (marks [] qs) new r → IsMarked old (marks [] (ps ++ qs)) new r
marked-names old now new ps qs r m k =
    marked-alike old (both (marks [] ps) (marks [] qs)) (marks [] (ps ++ qs)) new r (append-alike ps qs)
    (marked-then old (marks [] ps) now (marks [] qs) new r m k)

-- some records of what is left were noted
pub records-led : (old : Found) (whole : Effects) (now new : Found) (left xs rest : List Access) → left ≡ xs ++ rest →
    LeadsTo old whole now (marks left []) → IsNoted now (marks xs []) new → LeadsTo old whole new (marks rest [])
records-led old whole now new left xs rest cut leads m = λ later r k.
    leads later r
    (subst (λ (ys : List Access). IsMarked now (marks ys []) later r) (sym cut)
    (marked-alike now (both (marks xs []) (marks rest [])) (marks (xs ++ rest) []) later r (records-alike xs rest)
    (marked-then now (marks xs []) new (marks rest []) later r m k)))

pub records-ended : (old : Found) (whole : Effects) (now last : Found) (left xs rest : List Access) (stop : Stop) →
    left ≡ xs ++ rest → LeadsTo old whole now (marks left []) → IsStopped now (marks xs []) stop →
    IsStopped old whole stop
records-ended old whole now last left xs rest stop cut leads m =
    leads last (Err stop)
    (subst (λ (ys : List Access). IsStopped now (marks ys []) stop) (sym cut)
    (stopped-alike now (both (marks xs []) (marks rest [])) (marks (xs ++ rest) []) stop (records-alike xs rest)
    (stopped-first now (marks xs []) (marks rest []) stop m)))

-- the same of paths
pub paths-led : (old : Found) (whole : Effects) (now new : Found) (left xs rest : List Path) → left ≡ xs ++ rest →
    LeadsTo old whole now (marks [] left) → IsNoted now (marks [] xs) new → LeadsTo old whole new (marks [] rest)
paths-led old whole now new left xs rest cut leads m = λ later r k.
    leads later r
    (subst (λ (ys : List Path). IsMarked now (marks [] ys) later r) (sym cut)
    (marked-names now new later xs rest r m k))

pub paths-ended : (old : Found) (whole : Effects) (now last : Found) (left xs rest : List Path) (stop : Stop) →
    left ≡ xs ++ rest → LeadsTo old whole now (marks [] left) → IsStopped now (marks [] xs) stop →
    IsStopped old whole stop
paths-ended old whole now last left xs rest stop cut leads m =
    leads last (Err stop)
    (subst (λ (ys : List Path). IsStopped now (marks [] ys) stop) (sym cut) (stopped-names now xs rest stop m))

pub flow-alike : (e f : Effects) (here : State) (old new : Found) (r : Result Bool Stop) → e.next ≡ f.next → Alike e f →
    IsFlow e here old new r → IsFlow f here old new r
flow-alike e f here old new (Ok goes_on) next same m = (sym next ∙ m.0, noted-alike old e f new same m.1)
flow-alike e f here old new (Err stop) next same m = stopped-alike old e f stop same m

-- what is found of code, whether it goes on or not
pub marked-flow : (e : Effects) (here : State) (old new : Found) (r : Result Bool Stop) → IsFlow e here old new r →
    IsMarked old e new r
marked-flow e here old new (Ok goes_on) m = m.1
marked-flow e here old new (Err stop) m = m

-- ---- operations

pub quiet-effects : (g : FlowContext) (locked : Bool) (site : SiteId) (op : CoreOp) (s : State) → is_quiet op ≡ true →
    op_effects g locked site op s ≡ goes_on (moved op s)
quiet-effects g locked site (Push v) s e = refl
quiet-effects g locked site (PushClass c) s e = refl
quiet-effects g locked site PushPrim s e = refl
quiet-effects g locked site PushNull s e = refl
quiet-effects g locked site (New c) s e = refl
quiet-effects g locked site Dup s e = refl
quiet-effects g locked site Drop s e = refl
quiet-effects g locked site (Get f) s e = absurd cc
quiet-effects g locked site (Put f) s e = absurd cc
quiet-effects g locked site (Set v) s e = refl
quiet-effects g locked site (Prim n) s e = refl
quiet-effects g locked site (Outside n) s e = refl
quiet-effects g locked site (Call m n) s e = absurd cc
quiet-effects g locked site (Unread m n) s e = refl
quiet-effects g locked site Ret s e = absurd cc
quiet-effects g locked site Throw s e = absurd cc

-- an operation that finds nothing
pub flow-quiet : (g : FlowContext) (locked : Bool) (site : SiteId) (op : CoreOp) (s here : State) (found : Found) →
    is_quiet op ≡ true → here ≡ moved op s → IsFlow (op_effects g locked site op s) here found found (Ok true)
flow-quiet g locked site op s here found quiet e =
    subst (λ (x : Effects). IsFlow x here found found (Ok true)) (sym (quiet-effects g locked site op s quiet))
    (ap Some (sym e), noted-nothing found (moved op s))

-- the record of an access, by the value of the field
pub record-reached : (context : MethodContext) (kind : Touch) (locked : Bool) (site : SiteId) (base : Value)
    (f : FieldId) →
    record_reached context kind locked site (field_value base f) f ≡ record_of (given context) kind locked site base f
record-reached context kind locked site base f =
    let program = core context.program.now in
    ap (λ (o : Option Path). cond (field_at program f).recorded (elim o as (λ _. List Access) [
      | None ↦ []
      | Some p ↦ record { path = p; kind = kind; locked = locked; main = context.main; site = site; below = None } ∷ []
    ]) []) (sym (touched-reached program (table_of context.callees.now) context.main base f))

below : (xs : List Value) → slice_index_or (drop 1 xs) 0 Unnamed ≡ slice_index_or xs 1 Unnamed
below [] = refl
below (x ∷ xs) = refl

-- the slot below the top
pub slot-below : (s : State) → top (popped s 1) ≡ slot_of s 1
slot-below s = below s.stack

twice : (xs : List Value) → drop 1 (drop 1 xs) ≡ drop 2 xs
twice [] = refl
twice (x ∷ xs) = refl

pub popped-twice : (s : State) → popped (popped s 1) 1 ≡ popped s 2
popped-twice s = λ i. record { vars = s.vars; stack = twice s.stack i }
