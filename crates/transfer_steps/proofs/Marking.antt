-- What is noted of one piece of code and then of another is noted of both.
use Rattle.std.proofs.Common.{◌≡◌, ℕ, ◌+◌, ◌≤◌, Bool, true, false, cond, ◌||◌, List, [], ◌∷◌, ◌++◌, Option}
use Rattle.std.proofs.Common.{Some, length, nat_lt, refl, sym, ap, ◌∙◌, arith, length-append}
use Rattle.std.proofs.lemmas.Bool.{ltb-true, lt-ltb, or_from}
use Rattle.std.specs.FinSet as set
use Rattle.std.specs.List.{list_any}
use Rattle.std.specs.Prelude.{Result, Ok, Err}
use Rattle.std.proofs.Math.Bool.{or-true}
use Rattle.racer_base.specs.declared.limits.TheConstants.{MAX_SUMMARY_KEYS}
use Rattle.access_paths.specs.declared.path.Path.{Path}
use Rattle.access_paths.specs.Order.{PathSet}
use Rattle.access_paths.specs.Same.{path_cmp-total}
use Rattle.owner_domain.specs.declared.value.Value.{Value}
use Rattle.owner_domain.specs.declared.value.State.{State}
use Rattle.owner_domain.specs.Values.{joined, lost}
use Rattle.access_domain.specs.declared.access.Access.{Access}
use Rattle.access_domain.specs.Additions.{key_added, keys_added, paths_added}
use Rattle.access_domain.specs.Records.{same_key}
use Rattle.access_domain.specs.Operations.{Effects, goes_on}
use Rattle.access_domain.specs.Flow.{joined_result, lost_result, both}
use Rattle.access_domain.proofs.AdditionLemmas.{keys_added-append, keys_added-longer, paths_added-longer}
use Rattle.transfer_steps.specs.declared.found.Found.{Found}
use Rattle.transfer_steps.specs.declared.found.Stop.{Stop}
use Rattle.transfer_steps.specs.declared.found.Stop.TheVariants.{Large, Memory}
use Rattle.transfer_steps.specs.Marks.{marks, returns_of, paths_after, added, is_many, IsNoted, IsStopped}
use Rattle.transfer_steps.specs.Marks.{IsMarked}
use Rattle.transfer_steps.proofs.JoinedResults.{joined_result-none, lost_result-none}
use Rattle.transfer_steps.proofs.Adding.{Alike, paths-both, added-both}
use Rattle.transfer_steps.proofs.Adding.{added-alike, paths_after-alike, added-nothing}

-- ---- tests

later_true : (a b m : Bool) → (b || m) ≡ true → ((a || b) || m) ≡ true
later_true true b m h = refl
later_true false b m h = h

either_more : (a b c d : Bool) → (a ≡ true → c ≡ true) → (b ≡ true → d ≡ true) → (a || b) ≡ true → (c || d) ≡ true
either_more true b c d f g h = ap (λ (t : Bool). t || d) (f refl)
either_more false b c d f g h = ap (λ (t : Bool). c || t) (g h) ∙ or-true c

sooner_true : (a b m n : Bool) → (m ≡ true → n ≡ true) → (a || m) ≡ true → ((a || b) || n) ≡ true
sooner_true true b m n f h = refl
sooner_true false b m n f h = ap (λ (t : Bool). b || t) (f h) ∙ or-true b

lt_more : (n m : ℕ) → n ≤ m → nat_lt MAX_SUMMARY_KEYS n ≡ true → nat_lt MAX_SUMMARY_KEYS m ≡ true
lt_more n m more h = let many = ltb-true MAX_SUMMARY_KEYS n h in lt-ltb MAX_SUMMARY_KEYS m (omega arith)

-- ---- too many

many-both : (found : Found) (e f : Effects) → is_many (added found e) f ≡ is_many found (both e f)
many-both found e f = (λ i.
    nat_lt MAX_SUMMARY_KEYS (length (sym (keys_added-append found.records e.records f.records) i))
    || nat_lt MAX_SUMMARY_KEYS (set.len (paths-both found.wobbly found.result e f i)))

still_many : (found : Found) (e f : Effects) → is_many found e ≡ true → is_many (added found e) f ≡ true
still_many found e f =
    let keys = keys_added found.records e.records in
    let paths = paths_after found e in
    let more = paths_added paths f.wobbly in
    let most = paths_added more (lost_result (joined_result found.result e.result) f.result) in
    let first : set.len paths ≤ set.len more = paths_added-longer paths f.wobbly in
    let second : set.len more ≤ set.len most =
    paths_added-longer more (lost_result (joined_result found.result e.result) f.result) in
    either_more (nat_lt MAX_SUMMARY_KEYS (length keys)) (nat_lt MAX_SUMMARY_KEYS (set.len paths))
    (nat_lt MAX_SUMMARY_KEYS (length (keys_added keys f.records))) (nat_lt MAX_SUMMARY_KEYS (set.len most))
    (lt_more (length keys) (length (keys_added keys f.records)) (keys_added-longer keys f.records))
    (lt_more (set.len paths) (set.len most) (omega arith))

-- ---- one and then another

pub noted-then : (old : Found) (e : Effects) (now : Found) (f : Effects) (new : Found) → IsNoted old e now →
    IsNoted now f new → IsNoted old (both e f) new
noted-then old e now f new m k = (
  k.0 ∙ ap (λ (g : Found). added g f) m.0 ∙ added-both old e f,
  or_from e.large f.large m.1 k.1,
)

pub stopped-then : (old : Found) (e : Effects) (now : Found) (f : Effects) (stop : Stop) → IsNoted old e now →
    IsStopped now f stop → IsStopped old (both e f) stop
stopped-then old e now f Large m k =
    later_true e.large f.large (is_many old (both e f))
    (ap (λ (b : Bool). f.large || b) (sym (ap (λ (g : Found). is_many g f) m.0 ∙ many-both old e f)) ∙ k)
stopped-then old e now f Memory m k = tt

pub stopped-first : (old : Found) (e f : Effects) (stop : Stop) → IsStopped old e stop → IsStopped old (both e f) stop
stopped-first old e f Large m =
    sooner_true e.large f.large (is_many old e) (is_many old (both e f))
    (λ many. sym (many-both old e f) ∙ still_many old e f many) m
stopped-first old e f Memory m = tt

-- the same of effects that are alike

pub noted-alike : (old : Found) (e f : Effects) (new : Found) → Alike e f → IsNoted old e new → IsNoted old f new
noted-alike old e f new same m = (
  m.0 ∙ added-alike old e f same,
  sym same.large ∙ m.1,
)

pub stopped-alike : (old : Found) (e f : Effects) (stop : Stop) → Alike e f → IsStopped old e stop →
    IsStopped old f stop
stopped-alike old e f Large same m =
    (λ i. sym same.large i || (nat_lt MAX_SUMMARY_KEYS (length (keys_added old.records (sym same.records i)))
    || nat_lt MAX_SUMMARY_KEYS (set.len (sym (paths_after-alike old e f same) i)))) ∙ m
stopped-alike old e f Memory same m = tt

-- nothing

pub noted-nothing : (old : Found) (s : State) → IsNoted old (goes_on s) old
noted-nothing old s = (added-nothing old s, refl)

-- ---- one record, and one path

abbrev pub with_parts : List Access → PathSet → Option Value → Found
with_parts records wobbly result = record { records = records; wobbly = wobbly; result = result }

pub noted-records : (old : Found) (records xs : List Access) → records ≡ keys_added old.records xs →
    IsNoted old (marks xs []) (with_parts records old.wobbly old.result)
noted-records old records xs more = (
  (λ i. with_parts (more i) (paths_added old.wobbly (sym (lost_result-none old.result) i))
      (sym (joined_result-none old.result) i)),
  refl,
)

pub noted-paths : (old : Found) (wobbly : PathSet) (ps : List Path) → wobbly ≡ paths_added old.wobbly ps →
    IsNoted old (marks [] ps) (with_parts old.records wobbly old.result)
noted-paths old wobbly ps more = (
  (λ i. with_parts old.records (more i) old.result)
      ∙ (λ i. with_parts old.records (paths_added (paths_added old.wobbly ps) (sym (lost_result-none old.result) i))
      (sym (joined_result-none old.result) i)),
  refl,
)

pub full-record : (old : Found) (x : Access) → list_any (λ r. same_key r x) old.records ≡ false →
    length old.records ≡ MAX_SUMMARY_KEYS → IsStopped old (marks (x ∷ []) []) Large
full-record old x fresh full =
    let grown : key_added old.records x ≡ old.records ++ x ∷ [] =
    ap (λ (b : Bool). cond b old.records (old.records ++ x ∷ [])) fresh in
    let long : length (old.records ++ x ∷ []) ≡ length old.records + 1 = length-append old.records (x ∷ []) in
    let many : nat_lt MAX_SUMMARY_KEYS (length (key_added old.records x)) ≡ true =
    ap (λ (rs : List Access). nat_lt MAX_SUMMARY_KEYS (length rs)) grown
    ∙ lt-ltb MAX_SUMMARY_KEYS (length (old.records ++ x ∷ [])) (omega arith) in
    ap (λ (b : Bool). b || nat_lt MAX_SUMMARY_KEYS (set.len (paths_after old (marks (x ∷ []) [])))) many

pub full-path : (old : Found) (p : Path) → set.contains old.wobbly p ≡ false →
    MAX_SUMMARY_KEYS ≤ set.len old.wobbly → IsStopped old (marks [] (p ∷ [])) Large
full-path old p fresh full =
    let count : set.len (set.insert old.wobbly p) ≡ set.len old.wobbly + 1 =
    set.len-insert path_cmp-total old.wobbly p
    ∙ ap (λ (b : Bool). cond b (set.len old.wobbly) (set.len old.wobbly + 1)) fresh in
    let same : paths_after old (marks [] (p ∷ [])) ≡ set.insert old.wobbly p =
    ap (paths_added (set.insert old.wobbly p)) (lost_result-none old.result) in
    let many : nat_lt MAX_SUMMARY_KEYS (set.len (paths_after old (marks [] (p ∷ [])))) ≡ true =
    ap (λ (w : PathSet). nat_lt MAX_SUMMARY_KEYS (set.len w)) same
    ∙ lt-ltb MAX_SUMMARY_KEYS (set.len (set.insert old.wobbly p)) (omega arith) in
    ap (λ (b : Bool). nat_lt MAX_SUMMARY_KEYS (length old.records) || b) many
    ∙ or-true (nat_lt MAX_SUMMARY_KEYS (length old.records))

-- ---- whatever the answer

module _ {X : Type 0} where
  pub marked-then : (old : Found) (e : Effects) (now : Found) (f : Effects) (new : Found) (r : Result X Stop) →
      IsNoted old e now → IsMarked now f new r → IsMarked old (both e f) new r
  marked-then old e now f new (Ok x) m k = noted-then old e now f new m k
  marked-then old e now f new (Err stop) m k = stopped-then old e now f stop m k

  pub marked-alike : (old : Found) (e f : Effects) (new : Found) (r : Result X Stop) → Alike e f →
      IsMarked old e new r → IsMarked old f new r
  marked-alike old e f new (Ok x) same m = noted-alike old e f new same m
  marked-alike old e f new (Err stop) same m = stopped-alike old e f stop same m

  -- a value that is returned behind others
  pub marked-return : (old : Found) (earlier v made : Value) (names : List Path) (new : Found) (r : Result X Stop) →
      old.result ≡ Some earlier → made ≡ joined earlier v → names ≡ lost earlier v →
      IsMarked (with_parts old.records old.wobbly (Some made)) (marks [] names) new r →
      IsMarked old (returns_of v) new r
  marked-return old earlier v made names new (Ok x) was is loses m =
      let now = with_parts old.records old.wobbly (Some made) in
      let wobbly : paths_after now (marks [] names) ≡ paths_after old (returns_of v) =
      ap (paths_added old.wobbly) (loses ∙ sym (ap (λ (o : Option Value). lost_result o (Some v)) was)) in
      let value : Some made ≡ joined_result old.result (Some v) =
      ap Some is ∙ sym (ap (λ (o : Option Value). joined_result o (Some v)) was) in (
        m.0 ∙ (λ i. with_parts old.records (wobbly i) (value i)),
        refl,
      )
  marked-return old earlier v made names new (Err Large) was is loses m =
      let now = with_parts old.records old.wobbly (Some made) in
      let wobbly : paths_after now (marks [] names) ≡ paths_after old (returns_of v) =
      ap (paths_added old.wobbly) (loses ∙ sym (ap (λ (o : Option Value). lost_result o (Some v)) was)) in
      (λ i. nat_lt MAX_SUMMARY_KEYS (length old.records) || nat_lt MAX_SUMMARY_KEYS (set.len (sym wobbly i))) ∙ m
  marked-return old earlier v made names new (Err Memory) was is loses m = tt
