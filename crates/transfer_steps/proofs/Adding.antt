-- What is found behind one piece of code and then another is found behind both.
use Rattle.std.proofs.Common.{◌≡◌, Bool, true, false, ◌||◌, List, [], ◌∷◌, ◌++◌, Option, None}
use Rattle.std.proofs.Common.{refl, sym, ap, ◌∙◌}
use Rattle.std.proofs.lemmas.List.{append-nil}
use Rattle.std.specs.FinSet as set
use Rattle.std.specs.List.{list_any}
use Rattle.std.specs.Ordering.{eq_by_cmp}
use Rattle.std.proofs.Math.Bool.{or-false}
use Rattle.access_paths.specs.declared.path.Path.{Path}
use Rattle.access_paths.specs.Order.{PathSet, path_cmp}
use Rattle.access_paths.specs.Same.{path_cmp-total, path_cmp-IsAntisymmetric}
use Rattle.owner_domain.specs.declared.value.Value.{Value}
use Rattle.owner_domain.specs.declared.value.State.{State}
use Rattle.access_domain.specs.declared.access.Access.{Access}
use Rattle.access_domain.specs.Additions.{keys_added, paths_added}
use Rattle.access_domain.specs.Operations.{Effects, goes_on}
use Rattle.access_domain.specs.Flow.{joined_result, lost_result, both, chosen, repeated, lost_next}
use Rattle.access_domain.proofs.AdditionLemmas.{contains_added, keys_added-append}
use Rattle.call_subst.proofs.SameSets.{any-append, any-same_set}
use Rattle.transfer_steps.specs.declared.found.Found.{Found}
use Rattle.transfer_steps.specs.Marks.{marks, paths_after, added}
use Rattle.transfer_steps.proofs.JoinedResults.{joined_result-none, lost_result-none, joined_result-assoc, lost_result-assoc}

abbrev is_among : Path → List Path → Bool
is_among q = list_any (eq_by_cmp path_cmp q)

-- what two lists in turn make of a set
in_both : (w : PathSet) (xs ys : List Path) (q : Path) →
    set.contains (paths_added (paths_added w xs) ys) q ≡ ((set.contains w q || is_among q xs) || is_among q ys)
in_both w xs ys q = contains_added (paths_added w xs) ys q
    ∙ ap (λ b. b || is_among q ys) (contains_added w xs q)

grouped : (w a l b m n o : Bool) → (l || m) ≡ (n || o) →
    ((((w || a) || l) || b) || m) ≡ ((w || ((a || b) || n)) || o)
grouped true a l b m n o h = refl
grouped false true l b m n o h = refl
grouped false false true true m n o h = refl
grouped false false false true m n o h = refl
grouped false false true false m n o h = h
grouped false false false false m n o h = h

pub paths-both : (w : PathSet) (result : Option Value) (e f : Effects) →
    paths_added (paths_added (paths_added (paths_added w e.wobbly) (lost_result result e.result)) f.wobbly)
    (lost_result (joined_result result e.result) f.result) ≡
    paths_added (paths_added w (both e f).wobbly) (lost_result result (both e f).result)
paths-both w result e f =
    set.same_set path_cmp-total path_cmp-IsAntisymmetric _ _
    (λ q.
    let middle : PathSet = paths_added (paths_added w e.wobbly) (lost_result result e.result) in
    let lost_here = lost_result e.result f.result in
    in_both middle f.wobbly (lost_result (joined_result result e.result) f.result) q
    ∙ ap (λ b. (b || is_among q f.wobbly) || is_among q (lost_result (joined_result result e.result) f.result))
    (in_both w e.wobbly (lost_result result e.result) q)
    ∙ grouped (set.contains w q) (is_among q e.wobbly) (is_among q (lost_result result e.result)) (is_among q f.wobbly)
    (is_among q (lost_result (joined_result result e.result) f.result)) (is_among q lost_here)
    (is_among q (lost_result result (joined_result e.result f.result)))
    (lost_result-assoc (eq_by_cmp path_cmp q) result e.result f.result)
    ∙ sym
    (in_both w (both e f).wobbly (lost_result result (both e f).result) q
    ∙ ap (λ b. (set.contains w q || b) || is_among q (lost_result result (both e f).result))
    (any-append (eq_by_cmp path_cmp q) (e.wobbly ++ f.wobbly) lost_here
    ∙ ap (λ b. b || is_among q lost_here) (any-append (eq_by_cmp path_cmp q) e.wobbly f.wobbly))))

abbrev found_of : List Access → PathSet → Option Value → Found
found_of records wobbly result = record { records = records; wobbly = wobbly; result = result }

pub added-both : (found : Found) (e f : Effects) → added (added found e) f ≡ added found (both e f)
added-both found e f = (λ i.
    found_of (sym (keys_added-append found.records e.records f.records) i) (paths-both found.wobbly found.result e f i)
    (joined_result-assoc found.result e.result f.result i))

-- ---- effects with the same records, result and set of wobbly paths

pub paths-same : (w : PathSet) (xs ys : List Path) → set.from_list {R = path_cmp} xs ≡ set.from_list ys →
    paths_added w xs ≡ paths_added w ys
paths-same w xs ys same =
    set.same_set path_cmp-total path_cmp-IsAntisymmetric _ _
    (λ q.
    contains_added w xs q
    ∙ ap (λ b. set.contains w q || b) (any-same_set (eq_by_cmp path_cmp q) xs ys same)
    ∙ sym (contains_added w ys q))

pub record Alike (e f : Effects) : Type 0 where
  pub records : e.records ≡ f.records
  pub wobbly : set.from_list {R = path_cmp} e.wobbly ≡ set.from_list f.wobbly
  pub result : e.result ≡ f.result
  pub large : e.large ≡ f.large

-- the same at the end too
pub record Agree (e f : Effects) : Type 0 where
  pub next : e.next ≡ f.next
  pub alike : Alike e f

pub paths_after-alike : (found : Found) (e f : Effects) → Alike e f → paths_after found e ≡ paths_after found f
paths_after-alike found e f same =
    ap (λ (p : PathSet). paths_added p (lost_result found.result e.result))
    (paths-same found.wobbly e.wobbly f.wobbly same.wobbly)
    ∙ ap (λ (r : Option Value). paths_added (paths_added found.wobbly f.wobbly) (lost_result found.result r))
    same.result

pub added-alike : (found : Found) (e f : Effects) → Alike e f → added found e ≡ added found f
added-alike found e f same = (λ i.
    found_of (keys_added found.records (same.records i)) (paths_after-alike found e f same i)
    (joined_result found.result (same.result i)))

-- ---- nothing

pub added-nothing : (found : Found) (s : State) → found ≡ added found (goes_on s)
added-nothing found s = (λ i.
    found_of found.records (paths_added found.wobbly (sym (lost_result-none found.result) i))
    (sym (joined_result-none found.result) i))

-- ---- choices, and loops

turned : (a l r : Bool) → ((a || r) || l) ≡ ((a || l) || r)
turned true l r = refl
turned false true true = refl
turned false false true = refl
turned false true false = refl
turned false false false = refl

pub same_members : (xs ys : List Path) → ((q : Path) → is_among q xs ≡ is_among q ys) →
    set.from_list {R = path_cmp} xs ≡ set.from_list ys
same_members xs ys same =
    set.same_set path_cmp-total path_cmp-IsAntisymmetric _ _
    (λ q. set.contains-from_list path_cmp-total xs q ∙ same q ∙ sym (set.contains-from_list path_cmp-total ys q))

pub chosen-alike : (l r : Effects) → Alike (both (both l r) (marks [] (lost_next l.next r.next))) (chosen l r)
chosen-alike l r =
    let lost : List Path = lost_next l.next r.next in
    let returned : List Path = lost_result l.result r.result in
    let own : List Path = l.wobbly ++ r.wobbly in
    record {
      records = append-nil (l.records ++ r.records);
      wobbly = same_members (((own ++ returned) ++ lost) ++ lost_result (joined_result l.result r.result) None)
          ((own ++ lost) ++ returned)
          (λ q.
          let test = eq_by_cmp path_cmp q in
          ap (λ (end : List Path). list_any test (((own ++ returned) ++ lost) ++ end))
          (lost_result-none (joined_result l.result r.result))
          ∙ ap (list_any test) (append-nil ((own ++ returned) ++ lost))
          ∙ any-append test (own ++ returned) lost
          ∙ ap (λ b. b || list_any test lost) (any-append test own returned)
          ∙ turned (list_any test own) (list_any test lost) (list_any test returned)
          ∙ sym (any-append test (own ++ lost) returned
          ∙ ap (λ b. b || list_any test returned) (any-append test own lost)));
      result = joined_result-none (joined_result l.result r.result);
      large = or-false (l.large || r.large);
    }

pub repeated-alike : (lost : List Path) (last : State) (body : State → Effects) →
    Alike (both (marks [] lost) (body last)) (repeated (last, lost) body)
repeated-alike lost last body =
    record {
      records = refl;
      wobbly = ap (λ (w : List Path). set.from_list {R = path_cmp} w) (append-nil (lost ++ (body last).wobbly));
      result = refl;
      large = refl;
    }

-- one more record, and one more path, of what is left
pub record-alike : (x : Access) (xs : List Access) → Alike (both (marks (x ∷ []) []) (marks xs [])) (marks (x ∷ xs) [])
record-alike x xs = record { records = refl; wobbly = refl; result = refl; large = refl }

pub path-alike : (p : Path) (ps : List Path) → Alike (both (marks [] (p ∷ [])) (marks [] ps)) (marks [] (p ∷ ps))
path-alike p ps =
    record {
      records = refl;
      wobbly = ap (λ (w : List Path). set.from_list {R = path_cmp} (p ∷ w)) (append-nil ps);
      result = refl;
      large = refl;
    }

-- ---- what was added is added again

or_again : (a b : Bool) → ((a || b) || b) ≡ (a || b)
or_again true b = refl
or_again false true = refl
or_again false false = refl

-- paths that were added are added again
pub added_again : (w : PathSet) (ps : List Path) → paths_added (paths_added w ps) ps ≡ paths_added w ps
added_again w ps =
    set.same_set path_cmp-total path_cmp-IsAntisymmetric _ _
    (λ q. contains_added (paths_added w ps) ps q
    ∙ ap (λ b. b || list_any (eq_by_cmp path_cmp q) ps) (contains_added w ps q)
    ∙ or_again (set.contains w q) (list_any (eq_by_cmp path_cmp q) ps)
    ∙ sym (contains_added w ps q))
